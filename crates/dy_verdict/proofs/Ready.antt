-- The modules of a library are those of its view, and their names are in lower case.
use Rattle.std.proofs.Common.{◌≡◌, ◌⊎◌, ℕ, ◌+◌, ◌<◌, ◌≤◌, ◌^◌, List, [], ◌∷◌, ◌++◌, map, length, get_or, slice_get, Option, Some, None, Result, Ok, Err, All, EachIndex, refl, sym, ap, subst, ◌∙◌, inl, inr, arith}
use Rattle.std.specs.Prelude.{unwrap_or}
use Rattle.std.specs.List.{AllByRecursion}
use Rattle.std.proofs.lemmas.Bool.{cases_lt}
use Rattle.std.proofs.lemmas.List.{get_or_past}
use Rattle.std.proofs.lemmas.List.Elements.{All-from_recursion, All-get_or, All-head, All-tail}
use Rattle.std.proofs.lemmas.Option.{get_or_from_slice_get}
use Rattle.dy_base.specs.Tables.{NamedList}
use Rattle.dy_base.specs.declared.exports.Exports.{Exports}
use Rattle.dy_base.specs.declared.fault.Place.{Place}
use Rattle.dy_base.specs.declared.ids.BindingId.{BindingId}
use Rattle.dy_tree.specs.declared.words.Words.{Words}
use Rattle.dy_tree.specs.Fragments.{SeenFragment}
use Rattle.dy_lexer.specs.declared.source.Source.{Source}
use Rattle.dy_module_forms.specs.declared.written.Form.{Form as Written}
use Rattle.dy_module_forms.specs.Forms as written
use Rattle.dy_modules.specs.Clauses.{Name}
use Rattle.dy_module_numbers.specs.Sorting.{libraries}
use Rattle.dy_module_tables.specs.Graphs.{Graph, AreFolded}
use Rattle.dy_graph.specs.Judged.{given, Gives}
use Rattle.dy_assembly.specs.declared.library.Heading.{Heading}
use Rattle.dy_load_order.specs.LoadOrder.{place_in}
use Rattle.dy_load_order.proofs.Lawful.{dylan_is_first, at_most}
use Rattle.dy_views.specs.declared.compiled.Compiled.{Compiled}
use Rattle.dy_views.specs.Views.{places_by, new_place, linked_names, linked_modules, no_exports, exports_in, order_of, AreCompiled, AreThere}
use Rattle.dy_views.proofs.Standing.{next_there, next_earlier, uses_fit}
use Rattle.dy_folded_names.specs.Folded.{RowsAreLower, FormIsLower, ModulesAreLower, ExportsAreLower}
use Rattle.dy_folded_names.proofs.Reading.{forms_are_lower}
use Rattle.dy_folded_names.proofs.Tables.{tables_are_folded}
use Rattle.dy_library_modules.specs.declared.own_modules.LibraryModules.{LibraryModules}
use Rattle.dy_library_modules.specs.Modules.{headers_of, clauses_of, uses_of, order_by, used_by, GivesRead, GivesModules}
use Rattle.dy_verdict.specs.Libraries.{AreReady}

-- ---- names in lower case

names_lower : (places : ℕ → ℕ) (names : NamedList BindingId) → RowsAreLower names → RowsAreLower (linked_names places names)
names_lower places [] lower = tt
names_lower places (row ∷ names) lower = (lower.0, names_lower places names lower.1)

linked_lower : (places : ℕ → ℕ) (modules : List (Name × NamedList BindingId)) → ModulesAreLower modules → ModulesAreLower (linked_modules places modules)
linked_lower places [] lower = tt
linked_lower places (one ∷ modules) lower = (names_lower places one.1 lower.0, linked_lower places modules lower.1)

-- of one library
abbrev IsLower : Exports → Type 0
IsLower library = ModulesAreLower library.modules × ModulesAreLower library.seen

at_lower : (all : List Exports) (k : ℕ) → ExportsAreLower all → IsLower (get_or all k no_exports)
at_lower all k lower = go (cases_lt k (length all))
  where
    go : (k < length all) ⊎ (length all ≤ k) → IsLower (get_or all k no_exports)
    go (inl l) = All-get_or IsLower all k no_exports l (All-from_recursion IsLower all lower)
    go (inr m) = subst IsLower (sym (get_or_past all k no_exports m)) (tt, tt)

-- so of those that are used, by the places of another view
used_lower : (compiled : Compiled) (order uses : List ℕ) → ExportsAreLower compiled.exports → ExportsAreLower (map (exports_in compiled order) uses)
used_lower compiled order [] lower = tt
used_lower compiled order (library ∷ uses) lower =
    let one = at_lower compiled.exports library lower in
    let places = new_place (places_by (place_in order) (get_or compiled.orders library [])) in
    let exports = get_or compiled.exports library no_exports in
    ((linked_lower places exports.modules one.0, linked_lower places exports.seen one.1), used_lower compiled order uses lower)

pub lower_behind : (some more : List Exports) → ExportsAreLower some → ExportsAreLower more → ExportsAreLower (some ++ more)
lower_behind [] more s m = m
lower_behind (library ∷ some) more s m = (s.0, lower_behind some more s.1 m)

-- ---- the modules of a library

module _ (library : Name) (headers : List Name) (compiled : Compiled) (forms : List Written) (read : AllByRecursion FormIsLower forms) (all : ExportsAreLower compiled.exports) where
  table_lower : (list : List Written) (table : Graph) → Gives (given library headers forms (used_by compiled forms)) list table → AreFolded table.modules
  table_lower [] table gives = absurd gives
  table_lower (form ∷ rest) table gives =
      tables_are_folded library headers forms (used_by compiled forms) form table read (used_lower compiled (order_by compiled forms) (uses_of compiled forms) all) gives.1

module _ (known : Words) (library : Name) (sources : List Source) (compiled : Compiled) (found : LibraryModules) where
  seen_of : (read : Result (List Written) Place) → GivesRead library (headers_of sources) compiled read found → AreThere compiled found.uses × (found.order ≡ order_of compiled found.uses)
  seen_of (Ok forms) has = (next_there compiled (clauses_of forms) found.uses has.uses, has.order ∙ ap (order_of compiled) (sym has.uses))
  seen_of (Err place) has = absurd has

  -- their library uses some of those that were compiled, and its view is that of what it uses
  pub modules_seen : GivesModules known library sources compiled found → AreThere compiled found.uses × (found.order ≡ order_of compiled found.uses)
  modules_seen (trees, users, gives) = seen_of (written.forms_of trees) gives

  lower_of : (trees : List SeenFragment) (read : Result (List Written) Place) → written.forms_of trees ≡ read → GivesRead library (headers_of sources) compiled read found → ExportsAreLower compiled.exports → AreFolded found.table.modules
  lower_of trees (Ok forms) is has all = table_lower library (headers_of sources) compiled forms (forms_are_lower trees forms is) all (libraries forms) found.table has.table
  lower_of trees (Err place) is has all = absurd has

  pub modules_lower : GivesModules known library sources compiled found → ExportsAreLower compiled.exports → AreFolded found.table.modules
  modules_lower (trees, users, gives) all = lower_of trees (written.forms_of trees) refl gives all

  pub modules_ready : AreCompiled compiled → ExportsAreLower compiled.exports → GivesModules known library sources compiled found → AreReady compiled found
  modules_ready are all gives =
      let seen = modules_seen gives in
      record { compiled_are = are; there = seen.0; order = seen.1; lower = modules_lower gives all }

-- ---- the view of a library

view_some : (order rest : List ℕ) → order ≡ 0 ∷ rest → 0 < length order
view_some order rest is = subst (λ (xs : List ℕ). 0 < length xs) (sym is) (omega arith)

-- it has the library itself, and places fit
pub view_fits : (compiled : Compiled) (modules : LibraryModules) → AreReady compiled modules → (0 < length modules.order) × (length modules.order ≤ 2 ^ 32)
view_fits compiled modules ready =
    let uses = compiled.uses ++ modules.uses ∷ [] in
    let main = length compiled.uses in
    let earlier = next_earlier compiled modules.uses ready.compiled_are ready.there in
    let first = dylan_is_first uses main earlier in
    let most = at_most uses main earlier in
    let few = uses_fit compiled ready.compiled_are in
    (view_some modules.order first.0 (ready.order ∙ first.1), subst (λ (xs : List ℕ). length xs ≤ 2 ^ 32) (sym ready.order) (omega (arith, most, few)))

abbrev heading : ℕ → List ℕ → List ℕ → Heading
heading number name uses = record { number = number; name = name; uses = uses }

-- places by a table that has them
pub places_same : (table : List (Option ℕ)) (find : ℕ → Option ℕ) (list : List ℕ) → All (λ library. library < length table) list → EachIndex table (λ library. slice_get table library ≡ Some (find library))
    → places_by (λ library. get_or table library None) list ≡ places_by find list
places_same table find [] there each = refl
places_same table find (library ∷ list) there each =
    let l = All-head (λ (number : ℕ). number < length table) library list there in
    ap (λ (place : Option ℕ). unwrap_or place 0 ∷ places_by (λ number. get_or table number None) list) (get_or_from_slice_get table library (find library) None (each library l))
    ∙ ap (λ (places : List ℕ). unwrap_or (find library) 0 ∷ places) (places_same table find list (All-tail (λ (number : ℕ). number < length table) library list there) each)

-- the places of those that a library uses, by the table of its view
pub uses_placed : (compiled : Compiled) (modules : LibraryModules) → AreReady compiled modules → (order : List ℕ) (known : List Exports) (places table : List (Option ℕ)) (uses found : List ℕ) → order ≡ modules.order → known ≡ compiled.exports
    → length places ≡ length known → EachIndex places (λ library. slice_get places library ≡ Some (place_in order library)) → table ≡ places → uses ≡ modules.uses → found ≡ places_by (λ library. get_or table library None) uses
    → found ≡ places_by (place_in modules.order) modules.uses
uses_placed compiled modules ready order known places table uses found order_is known_is long each table_is uses_is is =
    is ∙ ap (λ (t : List (Option ℕ)). places_by (λ library. get_or t library None) uses) table_is
    ∙ ap (places_by (λ library. get_or places library None)) uses_is
    ∙ places_same places (place_in modules.order) modules.uses
    (subst (λ (count : ℕ). All (λ library. library < count) modules.uses) (sym (long ∙ ap length known_is)) ready.there)
    (subst (λ (xs : List ℕ). EachIndex places (λ library. slice_get places library ≡ Some (place_in xs library))) order_is each)

pub headings_same : (number other : ℕ) (name folded : List ℕ) (uses places : List ℕ) → number ≡ other → name ≡ folded → uses ≡ places → heading number name uses ≡ heading other folded places
headings_same number other name folded uses places e f g = λ i. heading (e i) (f i) (g i)
