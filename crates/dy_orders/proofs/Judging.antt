-- An accepted library is accepted behind others, where it sees the same of them.
use Rattle.std.proofs.Common.{◌≡◌, ℕ, ◌-◌, List, [], flat_map, length, Option, Some, None, cond, Result, Ok, Err, refl, sym, ap, subst, ◌∙◌, inl, inr}
use Rattle.std.specs.Prelude.{is_some}
use Rattle.std.specs.List.{AllByRecursion}
use Rattle.dy_base.specs.Folding.{folded}
use Rattle.dy_base.specs.declared.exports.Exports.{Exports}
use Rattle.dy_base.specs.declared.fault.Fault.{Fault}
use Rattle.dy_base.specs.declared.fault.Place.{Place}
use Rattle.dy_lexer.specs.declared.source.Source.{Source}
use Rattle.dy_tree.specs.Fragments.{SeenFragment}
use Rattle.dy_assembly.specs.declared.library.Heading.{Heading}
use Rattle.dy_load_order.specs.LoadOrder.{place_in}
use Rattle.dy_module_forms.specs.declared.written.Form.{Form as ModuleForm}
use Rattle.dy_module_forms.specs.Forms.{forms_of as module_forms_of}
use Rattle.dy_module_numbers.specs.Sorting.{libraries}
use Rattle.dy_module_tables.specs.Graphs.{AllExported}
use Rattle.dy_doubled.specs.Doubled.{first_form, library_fault, redefined, imported_in, doubled_behind}
use Rattle.dy_graph.specs.Judged.{given, Gives}
use Rattle.dy_views.specs.declared.compiled.Compiled.{Compiled}
use Rattle.dy_views.specs.Views.{Name, number_of, used_names, places_by}
use Rattle.dy_views.proofs.Standing.{next_there}
use Rattle.dy_library_rows.specs.Libraries.{Form}
use Rattle.dy_library_modules.specs.declared.own_modules.LibraryModules.{LibraryModules}
use Rattle.dy_library_modules.specs.Texts.{GivesSources}
use Rattle.dy_library_modules.specs.Words.{words}
use Rattle.dy_library_modules.specs.Users.{AreUsers}
use Rattle.dy_library_modules.specs.Modules.{headers_of, clauses_of, uses_of, order_by, used_by, HasModules, GivesRead}
use Rattle.dy_library_names.specs.Named.{Reading, IsFirstFault, library_from}
use Rattle.dy_verdict.specs.declared.library.ReadLibrary.{ReadLibrary}
use Rattle.dy_verdict.specs.Pieces.{Piece, pieces_of}
use Rattle.dy_verdict.specs.Forms.{first_refused, forms_of}
use Rattle.dy_verdict.specs.Trees.{Trees}
use Rattle.dy_verdict.specs.Libraries.{heading_in, place_by, IsReadAs}
use Rattle.dy_verdict.specs.Verdicts.{accepted, JudgesForms, JudgesRead, JudgesPieces, JudgesTrees, JudgesGroups, IsVerdict}
use Rattle.dy_verdict.proofs.Accepted.{same_read, never}
use Rattle.dy_orders.proofs.Known.{known}

-- the same library with other numbers
abbrev pub renumbered : ReadLibrary → (uses order : List ℕ) → ReadLibrary
renumbered read uses order = record { row = read.row; exports = read.exports; uses = uses; order = order }

abbrev modules_with : LibraryModules → (uses order : List ℕ) → LibraryModules
modules_with modules uses order = record { table = modules.table; names = modules.names; doubled = modules.doubled; order = order; uses = uses }

-- ---- what it is read as

module _ (library : List ℕ) (read : ReadLibrary) (modules : LibraryModules) where
  -- what is told of these forms, by the place and the heading of the library alone
  abbrev Fits : List Form → ℕ → Heading → Type 0
  Fits forms place heading = (r : Reading modules.table place forms) × IsFirstFault modules.table place words.items modules.doubled forms r None
      × (read.row ≡ library_from heading r.out forms) × AllExported modules.table.modules r.defs modules.table.shown read.exports.modules

  -- and by what it uses and sees
  record Fitting (forms : List Form) : Type 0 where
    pub fits : Fits forms (place_by modules) (heading_in library modules)
    pub name : read.exports.library ≡ folded library
    pub seen : read.exports.seen ≡ []
    pub uses : read.uses ≡ modules.uses
    pub order : read.order ≡ modules.order

  fitting : (forms : List Form) → JudgesForms library modules forms (accepted read) → Fitting forms
  fitting forms (r, Some fault, is, judged) = never read fault judged
  fitting forms (r, None, is, (other, reads, same)) =
      let reading : IsReadAs library modules forms r read = subst (IsReadAs library modules forms r) (sym (same_read read other same)) reads in
      record { fits = (r, is, reading.row, reading.exported); name = reading.name; seen = reading.seen; uses = reading.uses; order = reading.order }

  module _ (uses order : List ℕ) (long : length order ≡ length modules.order) (places : places_by (place_in order) uses ≡ places_by (place_in modules.order) modules.uses) where
    abbrev new : LibraryModules
    new = modules_with modules uses order

    heading_same : heading_in library modules ≡ heading_in library new
    heading_same = λ i. record { number = ap (λ (count : ℕ). count - 1) (sym long) i; name = folded library; uses = sym places i }

    again_forms : (forms : List Form) → Fitting forms → JudgesForms library new forms (accepted (renumbered read uses order))
    again_forms forms f =
        let (r, is, row, exported) = subst (λ (place : ℕ). Fits forms place (heading_in library new)) (ap (λ (count : ℕ). count - 1) (sym long))
        (subst (Fits forms (place_by modules)) heading_same f.fits) in
        (r, None, is, (renumbered read uses order, record { row = row; name = f.name; exported = exported; seen = f.seen; uses = refl; order = refl }, refl))

    again_read : (first : Option Fault) (forms : List Form) → JudgesRead library modules first forms (accepted read) → JudgesRead library new first forms (accepted (renumbered read uses order))
    again_read (Some fault) forms is = never read fault is
    again_read None forms judged = again_forms forms (fitting forms judged)

    again_pieces : (pieces : List Piece) → JudgesPieces library modules pieces (accepted read) → JudgesPieces library new pieces (accepted (renumbered read uses order))
    again_pieces pieces (inl (fault, over, is)) = never read fault is
    again_pieces pieces (inr (within, judged)) = inr (within, again_read (first_refused pieces) (forms_of pieces) judged)

    again_trees : (trees : Trees) → JudgesTrees library modules trees (accepted read) → JudgesTrees library new trees (accepted (renumbered read uses order))
    again_trees (Err fault) is = never read fault is
    again_trees (Ok trees) judged = again_pieces (flat_map pieces_of trees) judged

    pub again_groups : (sources : List Source) → JudgesGroups library modules sources (accepted read) → JudgesGroups library new sources (accepted (renumbered read uses order))
    again_groups sources (trees, grouped, judged) = (trees, grouped, again_trees trees judged)

  by_read : (first : Option Fault) (forms : List Form) → JudgesRead library modules first forms (accepted read) → (forms : List Form) × Fitting forms
  by_read (Some fault) forms is = never read fault is
  by_read None forms judged = (forms, fitting forms judged)

  by_pieces : (pieces : List Piece) → JudgesPieces library modules pieces (accepted read) → (forms : List Form) × Fitting forms
  by_pieces pieces (inl (fault, over, is)) = never read fault is
  by_pieces pieces (inr (within, judged)) = by_read (first_refused pieces) (forms_of pieces) judged

  by_trees : (trees : Trees) → JudgesTrees library modules trees (accepted read) → (forms : List Form) × Fitting forms
  by_trees (Err fault) is = never read fault is
  by_trees (Ok trees) judged = by_pieces (flat_map pieces_of trees) judged

  -- it has its name, what it uses and its view by its modules
  pub by_groups : (sources : List Source) → JudgesGroups library modules sources (accepted read) → (read.exports.library ≡ folded library) × (read.uses ≡ modules.uses) × (read.order ≡ modules.order)
  by_groups sources (trees, grouped, judged) = let (forms, f) = by_trees trees judged in (f.name, f.uses, f.order)

-- ---- its modules

-- no other has its name
untaken : (exports : List Exports) (library : List ℕ) (form : Option ModuleForm) → number_of exports library ≡ None → library_fault exports library form ≡ None
untaken exports library None none = refl
untaken exports library (Some form) none = ap (λ (at : Option ℕ). cond (is_some at) (Some (redefined form)) None) none

module _ (library : List ℕ) (headers : List Name) (compiled other : Compiled) (forms : List ModuleForm) (found : LibraryModules) where
  has_again : used_by other forms ≡ used_by compiled forms → number_of other.exports library ≡ None → HasModules library headers compiled forms found
      → HasModules library headers other forms (modules_with found (uses_of other forms) (order_by other forms))
  has_again same new has = record {
    table = subst (λ (used : List Exports). Gives (given library headers forms used) (libraries forms) found.table) (sym same) has.table;
    untaken = untaken other.exports library (first_form (libraries forms)) new;
    names = has.names;
    doubled = has.doubled ∙ ap (λ (used : List Exports). doubled_behind (imported_in used (first_form (libraries forms))) [] forms) (sym same);
    order = refl;
    uses = refl;
  }

-- ---- behind others

module _ (compiled : Compiled) (library : List ℕ) (texts : List (List ℕ)) (read : ReadLibrary) where
  -- What the forms of its files say; and it is accepted behind others that export the same to it by
  -- the places of its view, where its view is as long, what it uses has the same places in it, and
  -- none has its name.
  pub record Retold : Type 0 where
    pub forms : List ModuleForm
    pub name : read.exports.library ≡ folded library
    pub uses : read.uses ≡ uses_of compiled forms
    pub order : read.order ≡ order_by compiled forms
    pub known : AllByRecursion (λ name. (u : ℕ) × (number_of compiled.exports name ≡ Some u)) (used_names (clauses_of forms))
    pub again : (other : Compiled) → used_by other forms ≡ used_by compiled forms → number_of other.exports library ≡ None
        → length (order_by other forms) ≡ length read.order
        → places_by (place_in (order_by other forms)) (uses_of other forms) ≡ places_by (place_in read.order) read.uses
        → IsVerdict other library texts (accepted (renumbered read (uses_of other forms) (order_by other forms)))

  module _ (sources : List Source) (gives : GivesSources texts sources) (modules : LibraryModules) (trees : List SeenFragment) (users : AreUsers words sources (Ok trees))
      (judged : JudgesGroups library modules sources (accepted read)) where
    by_forms : (result : Result (List ModuleForm) Place) → module_forms_of trees ≡ result → GivesRead library (headers_of sources) compiled result modules → Retold
    by_forms (Err place) e has = absurd has
    by_forms (Ok forms) e has = record {
      forms = forms;
      name = told.0;
      uses = told.1 ∙ has.uses;
      order = told.2 ∙ has.order;
      known = known library (headers_of sources) compiled forms modules.table (next_there compiled (clauses_of forms) (uses_of compiled forms) refl) has.table;
      again = λ other same new long places.
          let uses = uses_of other forms in
          let order = order_by other forms in
          inr (
            sources,
            gives,
            inr (
              modules_with modules uses order,
              (trees, users, subst (λ (r : Result (List ModuleForm) Place). GivesRead library (headers_of sources) other r (modules_with modules uses order)) (sym e) (has_again library (headers_of sources) compiled other forms modules same new has)),
              again_groups library read modules uses order (long ∙ ap length told.2)
                  (places ∙ ap (λ (o : List ℕ). places_by (place_in o) read.uses) told.2 ∙ ap (places_by (place_in modules.order)) told.1) sources judged,
            ),
          );
    }
      where
        told : (read.exports.library ≡ folded library) × (read.uses ≡ modules.uses) × (read.order ≡ modules.order)
        told = by_groups library read modules sources judged

  pub retold : IsVerdict compiled library texts (accepted read) → Retold
  retold (inl (fault, refuses, is)) = never read fault is
  retold (inr (sources, gives, inl (fault, refuses, is))) = never read fault is
  retold (inr (sources, gives, inr (modules, (trees, users, has), judged))) = by_forms sources gives modules trees users judged (module_forms_of trees) refl has
