-- Places in the view of a library and in that of one that it uses.
use Rattle.std.proofs.Common.{◌≡◌, ◌⊎◌, ℕ, suc, ◌+◌, ◌<◌, ◌≤◌, ◌^◌, true, false, true≢false, eqb, List, [], ◌∷◌, ◌++◌, map, length, get_or, slice_get, Option, Some, None, All, Contains, EachIndex, refl, sym, ap, subst, ◌∙◌, inl, inr, eq-eqb, arith}
use Rattle.std.specs.Prelude.{unwrap_or}
use Rattle.std.specs.List.{IsDistinct}
use Rattle.std.proofs.lemmas.Bool.{cases_lt}
use Rattle.std.proofs.lemmas.List.{get_or-map, get_or_append_left, get_or_at, get_or_past, get_or_read, length-map, length_push}
use Rattle.std.proofs.lemmas.List.Elements.{All-contains, All-weaker, Contains-get_or}
use Rattle.std.proofs.lemmas.Option.{get_or_from_slice_get}
use Rattle.std.proofs.lemmas.Iterator.Adapters.{position_from-zero}
use Rattle.std.proofs.lemmas.Map.Keys.{apart_from_distinct}
use Rattle.dy_base.specs.declared.exports.Exports.{Exports}
use Rattle.dy_module_forms.specs.declared.written.Placed.{Placed}
use Rattle.dy_load_order.specs.LoadOrder.{AreEarlier, is_in, load_order, place_in}
use Rattle.dy_load_order.proofs.Members.{contains_in}
use Rattle.dy_load_order.proofs.Keeping.{only}
use Rattle.dy_load_order.proofs.Lawful.{dylan_is_first, none_is_twice}
use Rattle.dy_load_order.proofs.Earlier.{none_earlier, earlier_push, orders_stay, part_of_next}
use Rattle.dy_views.specs.declared.compiled.Compiled.{Compiled}
use Rattle.dy_views.specs.Views.{used_names, used_numbers, places_by, new_place, linked_exports, no_exports, exports_by, exports_in, order_of, AreCompiled, AreThere, none_compiled, with_library}
use Rattle.dy_views.specs.Laws.{view_at, place_between, IsKept, ViewsAreParts, PlacesAreKept, PlacesStayApart, DylanStaysFirst, by_numbers, ExportsStay}
use Rattle.dy_views.proofs.Finding.{place_found, place_there, place_none}
use Rattle.dy_views.proofs.Owners.{owners_same}
use Rattle.dy_views.proofs.Naming.{numbers_there, none_there}

-- ---- of two lists of libraries

kept : (view other : List ℕ) → All (Contains view) other → (place : ℕ) → place < length other → IsKept view other place
kept view other part place within =
    let (k, is) = place_there view (get_or other place 0) (contains_in view (get_or other place 0) (part place 0 within)) in
    let (inside, same) = place_found view (get_or other place 0) k is in
    let at : k ≡ place_between view other place = sym (get_or-map (λ (library : ℕ). unwrap_or (place_in view library) 0) other place 0 0 within ∙ ap (λ (o : Option ℕ). unwrap_or o 0) is) in
    (subst (λ (new : ℕ). new < length view) at inside, subst (λ (new : ℕ). get_or view new 0 ≡ get_or other place 0) at same)

not_twice : (other : List ℕ) → IsDistinct eqb other → (one two : ℕ) → one < two → two < length other → get_or other one 0 ≡ get_or other two 0 → ⊥
not_twice other distinct one two less within same =
    let new : eqb (get_or other one 0) (get_or other two 0) ≡ false = apart_from_distinct eqb other one two 0 distinct less within in
    let old : eqb (get_or other one 0) (get_or other two 0) ≡ true = eq-eqb (get_or other one 0) (get_or other two 0) same in
    true≢false (sym old ∙ new)

stay_apart : (view other : List ℕ) → All (Contains view) other → IsDistinct eqb other → (one two : ℕ) → one < length other → two < length other
    → place_between view other one ≡ place_between view other two → one ≡ two
stay_apart view other part distinct one two l m e = go (cases_lt one two) (cases_lt two one)
  where
    same : get_or other one 0 ≡ get_or other two 0
    same =
        let (inside, first) = kept view other part one l in
        let (within, second) = kept view other part two m in
        sym first ∙ ap (λ (new : ℕ). get_or view new 0) e ∙ second

    go : (one < two) ⊎ (two ≤ one) → (two < one) ⊎ (one ≤ two) → one ≡ two
    go (inl less) more = absurd (not_twice other distinct one two less m same)
    go (inr least) (inl less) = absurd (not_twice other distinct two one less l (sym same))
    go (inr least) (inr most) = omega arith

stays_first : (view other v o : List ℕ) → view ≡ 0 ∷ v → other ≡ 0 ∷ o → place_between view other 0 ≡ 0
stays_first view other v o e f =
    ap (λ (xs : List ℕ). place_between view xs 0) f ∙ ap (λ (xs : List ℕ). place_between xs (0 ∷ o) 0) e
    ∙ ap (λ (place : Option ℕ). unwrap_or place 0) (position_from-zero (eqb 0) (0 ∷ v))

same_library : (view other v : List ℕ) → All (Contains view) other → view ≡ 0 ∷ v → (place : ℕ) → get_or view (place_between view other place) 0 ≡ get_or other place 0
same_library view other v part e place = go (cases_lt place (length other))
  where
    past : length other ≤ place → place_between view other place ≡ 0
    past m = get_or_past (places_by (place_in view) other) place 0 (subst (λ (count : ℕ). count ≤ place) (sym (length-map other (λ (library : ℕ). unwrap_or (place_in view library) 0))) m)

    go : (place < length other) ⊎ (length other ≤ place) → get_or view (place_between view other place) 0 ≡ get_or other place 0
    go (inl l) = let (inside, is) = kept view other part place l in is
    go (inr m) = ap (λ (new : ℕ). get_or view new 0) (past m) ∙ ap (λ (xs : List ℕ). get_or xs 0 0) e ∙ sym (get_or_past other place 0 m)

-- ---- of a library that is used

module _ (compiled : Compiled) (used : List ℕ) (are : AreCompiled compiled) (there : AreThere compiled used) where
  all_there : All (λ number. number < length compiled.uses) used
  all_there = let long = are.uses in All-weaker (λ number. number < length compiled.exports) (λ number. number < length compiled.uses) (λ number l. omega arith) used there

  dylan_first : (v : List ℕ) × (order_of compiled used ≡ 0 ∷ v)
  dylan_first = dylan_is_first (compiled.uses ++ used ∷ []) (length compiled.uses) (earlier_push compiled.uses used are.earlier all_there)

  module _ (library : ℕ) (c : Contains used library) where
    loaded_there : view_at compiled library ≡ load_order compiled.uses library
    loaded_there =
        let within : library < length compiled.exports = All-contains (λ number. number < length compiled.exports) used library there c in
        let long = are.orders in
        are.loaded library (omega arith)

    parts : All (Contains (order_of compiled used)) (view_at compiled library)
    parts k d within =
        part_of_next compiled.uses used are.earlier all_there library (get_or (view_at compiled library) k d) c
        (subst (λ (xs : List ℕ). Contains xs (get_or (view_at compiled library) k d)) loaded_there (Contains-get_or (view_at compiled library) k d within))

    apart : IsDistinct eqb (view_at compiled library)
    apart = subst (IsDistinct eqb) (sym loaded_there) (none_is_twice compiled.uses library are.earlier)

    dylan : place_between (order_of compiled used) (view_at compiled library) 0 ≡ 0
    dylan =
        let (o, f) = dylan_is_first compiled.uses library are.earlier in
        let (v, e) = dylan_first in
        stays_first (order_of compiled used) (view_at compiled library) v o e (loaded_there ∙ f)

    owners : by_numbers (order_of compiled used) (exports_in compiled (order_of compiled used) library) ≡ by_numbers (view_at compiled library) (get_or compiled.exports library no_exports)
    owners =
        let (v, e) = dylan_first in
        owners_same (new_place (places_by (place_in (order_of compiled used)) (view_at compiled library))) (new_place (order_of compiled used)) (new_place (view_at compiled library))
        (same_library (order_of compiled used) (view_at compiled library) v parts e) (get_or compiled.exports library no_exports)

  -- each library that the view has is one of those that were compiled, or the next
  pub seen_are_small : (library : ℕ) → Contains (order_of compiled used) library → library ≤ length compiled.exports
  seen_are_small library c =
      go (only (compiled.uses ++ used ∷ []) (earlier_push compiled.uses used are.earlier all_there) (suc (length compiled.uses)) (length compiled.uses) [] library (omega arith) (contains_in (order_of compiled used) library c))
    where
      go : (library ≤ length compiled.uses) ⊎ (is_in [] library ≡ true) → library ≤ length compiled.exports
      go (inl l) = let long = are.uses in omega arith
      go (inr i) = absurd cc

  -- so a table of their places tells each place
  told : (places : List (Option ℕ)) → length places ≡ length compiled.exports + 1 → EachIndex places (λ library. slice_get places library ≡ Some (place_in (order_of compiled used) library))
      → (library : ℕ) → get_or places library None ≡ place_in (order_of compiled used) library
  told places long each library = go (cases_lt library (length places))
    where
      go : (library < length places) ⊎ (length places ≤ library) → get_or places library None ≡ place_in (order_of compiled used) library
      go (inl l) = get_or_from_slice_get places library (place_in (order_of compiled used) library) None (each library l)
      go (inr l) =
          get_or_past places library None l
          ∙ sym (place_none (order_of compiled used) library (λ c. let m : library ≤ length compiled.exports = seen_are_small library c in omega (arith, long)))

pub views_are_parts : ViewsAreParts
views_are_parts compiled used library are there c = parts compiled used are there library c

pub places_are_kept : PlacesAreKept
places_are_kept compiled used library are there c place within =
    kept (order_of compiled used) (view_at compiled library) (parts compiled used are there library c) place within

pub places_stay_apart : PlacesStayApart
places_stay_apart compiled used library are there c one two l m e =
    stay_apart (order_of compiled used) (view_at compiled library) (parts compiled used are there library c) (apart compiled used are there library c) one two l m e

pub dylan_stays_first : DylanStaysFirst
dylan_stays_first compiled used library are there c = dylan compiled used are there library c

pub exports_stay : ExportsStay
exports_stay compiled used library are there c = owners compiled used are there library c

-- ---- the next library

pub next_there : (compiled : Compiled) (clauses : List Placed) (used : List ℕ) → used ≡ used_numbers compiled.exports clauses → AreThere compiled used
next_there compiled clauses used is = subst (AreThere compiled) (sym is) (numbers_there compiled.exports [] (used_names clauses) (none_there (length compiled.exports)))

pub next_earlier : (compiled : Compiled) (used : List ℕ) → AreCompiled compiled → AreThere compiled used → AreEarlier (compiled.uses ++ used ∷ [])
next_earlier compiled used are there = earlier_push compiled.uses used are.earlier (all_there compiled used are there)

pub uses_fit : (compiled : Compiled) → AreCompiled compiled → length compiled.uses < 2 ^ 32
uses_fit compiled are = subst (λ (count : ℕ). count < 2 ^ 32) (sym are.uses) are.fit

-- ---- what is exported, by a table of places

module _ (compiled : Compiled) (f g : ℕ → Option ℕ) (same : (library : ℕ) → f library ≡ g library) where
  places_same : (libraries : List ℕ) → places_by f libraries ≡ places_by g libraries
  places_same [] = refl
  places_same (library ∷ libraries) =
      ap (λ (place : Option ℕ). unwrap_or place 0 ∷ places_by f libraries) (same library)
      ∙ ap (λ (places : List ℕ). unwrap_or (g library) 0 ∷ places) (places_same libraries)

  exports_same : (library : ℕ) → exports_by f compiled library ≡ exports_by g compiled library
  exports_same library = ap (λ (places : List ℕ). linked_exports (new_place places) (get_or compiled.exports library no_exports)) (places_same (get_or compiled.orders library []))

  all_same : (used : List ℕ) → map (exports_by f compiled) used ≡ map (exports_by g compiled) used
  all_same [] = refl
  all_same (library ∷ used) =
      ap (λ (one : Exports). one ∷ map (exports_by f compiled) used) (exports_same library)
      ∙ ap (λ (rest : List Exports). exports_by g compiled library ∷ rest) (all_same used)

pub used_by_table : (compiled : Compiled) (used order : List ℕ) (places : List (Option ℕ)) → AreCompiled compiled → AreThere compiled used → order ≡ order_of compiled used → length places ≡ length compiled.exports + 1
    → EachIndex places (λ library. slice_get places library ≡ Some (place_in order library))
    → map (exports_by (λ library. get_or places library None) compiled) used ≡ map (exports_in compiled order) used
used_by_table compiled used order places are there is long each =
    all_same compiled (λ library. get_or places library None) (place_in (order_of compiled used))
    (told compiled used are there places long (subst (λ (xs : List ℕ). EachIndex places (λ library. slice_get places library ≡ Some (place_in xs library))) is each)) used
    ∙ ap (λ (xs : List ℕ). map (exports_in compiled xs) used) (sym is)

-- ---- one more library

pub none_are_compiled : AreCompiled none_compiled
none_are_compiled = record {
  fit = omega arith;
  uses = refl;
  orders = refl;
  earlier = none_earlier;
  loaded = λ library within. absurd (omega arith);
}

module _ (compiled : Compiled) (exports : Exports) (uses order : List ℕ) (are : AreCompiled compiled) (there : AreThere compiled uses) (is : order ≡ order_of compiled uses) where
  loaded_more : (library : ℕ) → library < length (compiled.orders ++ order ∷ []) → get_or (compiled.orders ++ order ∷ []) library [] ≡ load_order (compiled.uses ++ uses ∷ []) library
  loaded_more library within = go (cases_lt library (length compiled.orders))
    where
      long : length (compiled.orders ++ order ∷ []) ≡ length compiled.orders + 1
      long = length_push compiled.orders order

      go : (library < length compiled.orders) ⊎ (length compiled.orders ≤ library) → get_or (compiled.orders ++ order ∷ []) library [] ≡ load_order (compiled.uses ++ uses ∷ []) library
      go (inl l) =
          let first = are.uses in
          let second = are.orders in
          get_or_append_left compiled.orders (order ∷ []) [] library l ∙ are.loaded library l
          ∙ sym (orders_stay compiled.uses uses library are.earlier (omega arith))
      go (inr l) =
          let first = are.uses in
          let second = are.orders in
          let end : length compiled.orders ≡ library = omega (arith, long) in
          let same : length compiled.uses ≡ library = omega arith in
          get_or_at compiled.orders order [] [] library end ∙ is ∙ ap (load_order (compiled.uses ++ uses ∷ [])) same

  pub one_more : length compiled.exports + 1 < 2 ^ 32 → AreCompiled (with_library compiled exports uses order)
  one_more fits = record {
    fit = subst (λ (count : ℕ). count < 2 ^ 32) (sym (length_push compiled.exports exports)) fits;
    uses = length_push compiled.uses uses ∙ ap (λ (count : ℕ). count + 1) are.uses ∙ sym (length_push compiled.exports exports);
    orders = length_push compiled.orders order ∙ ap (λ (count : ℕ). count + 1) are.orders ∙ sym (length_push compiled.exports exports);
    earlier = earlier_push compiled.uses uses are.earlier (all_there compiled uses are there);
    loaded = loaded_more;
  }

abbrev made : List Exports → List (List ℕ) → List (List ℕ) → Compiled
made all uses orders = record { exports = all; uses = uses; orders = orders }

pub one_more_made : (compiled : Compiled) (exports : Exports) (uses order : List ℕ) → AreCompiled compiled → AreThere compiled uses → order ≡ order_of compiled uses → (a : List Exports) (b c : List (List ℕ))
    → a ≡ compiled.exports ++ exports ∷ [] → b ≡ compiled.uses ++ uses ∷ [] → c ≡ compiled.orders ++ order ∷ [] → length compiled.exports + 1 < 2 ^ 32 → AreCompiled (made a b c)
one_more_made compiled exports uses order are there is a b c first second third fits =
    subst (λ (xs : List Exports). AreCompiled (made xs b c)) (sym first)
    (subst (λ (xs : List (List ℕ)). AreCompiled (made (compiled.exports ++ exports ∷ []) xs c)) (sym second)
    (subst (λ (xs : List (List ℕ)). AreCompiled (made (compiled.exports ++ exports ∷ []) (compiled.uses ++ uses ∷ []) xs)) (sym third)
    (one_more compiled exports uses order are there is fits)))

-- ---- what was read

pub exports_read : (compiled : Compiled) (find : ℕ → Option ℕ) (library : ℕ) → AreCompiled compiled → library < length compiled.exports
    → (orders : List (List ℕ)) (order now found : List ℕ) (known : List Exports) (one : Exports) → orders ≡ compiled.orders → order ≡ get_or orders library order → now ≡ order → found ≡ places_by find now
    → known ≡ compiled.exports → one ≡ get_or known library one → linked_exports (new_place found) one ≡ exports_by find compiled library
exports_read compiled find library are l orders order now found known one e1 e2 e3 e4 e5 e6 =
    ap (λ (places : List ℕ). linked_exports (new_place places) one) (e4 ∙ ap (places_by find) (e3 ∙ order_is))
    ∙ ap (linked_exports (new_place (places_by find (get_or compiled.orders library [])))) one_is
  where
    inside : library < length compiled.orders
    inside = let long = are.orders in omega arith

    order_is : order ≡ get_or compiled.orders library []
    order_is = get_or_read compiled.orders library order inside (subst (λ (xs : List (List ℕ)). order ≡ get_or xs library order) e1 e2) []

    one_is : one ≡ get_or compiled.exports library no_exports
    one_is = get_or_read compiled.exports library one l (subst (λ (xs : List Exports). one ≡ get_or xs library one) e5 e6) no_exports

pub known_there : (compiled : Compiled) (clauses : List Placed) (known : List Exports) (used : List ℕ) → known ≡ compiled.exports → used ≡ used_numbers known clauses → AreThere compiled used
known_there compiled clauses known used e is = next_there compiled clauses used (is ∙ ap (λ (xs : List Exports). used_numbers xs clauses) e)
