-- What libraries of a view export to the library that is compiled next names libraries in front of it.
use Rattle.std.proofs.Common.{◌≡◌, ◌⊎◌, inl, inr, ℕ, suc, ◌+◌, ◌-◌, ◌<◌, ◌≤◌, true, false, true≢false, eqb, List, [], ◌∷◌, ◌++◌, length, map, get_or, Some, Contains, refl, sym, ap, ◌∙◌, subst, eq-eqb, arith}
use Rattle.std.specs.Prelude.{unwrap_or}
use Rattle.std.specs.List.{IsDistinct}
use Rattle.std.proofs.lemmas.Bool.{cases_lt}
use Rattle.std.proofs.lemmas.List.{get_or_at, get_or_past, length-map, length_push}
use Rattle.std.proofs.lemmas.List.Elements.{All-contains, Contains-get_or}
use Rattle.std.proofs.lemmas.Map.Keys.{apart_from_distinct}
use Rattle.dy_base.specs.Tables.{NamedList}
use Rattle.dy_base.specs.declared.exports.Exports.{Exports}
use Rattle.dy_base.specs.declared.ids.BindingId.{BindingId}
use Rattle.dy_code.specs.Validity.{Every}
use Rattle.dy_modules.specs.Clauses.{Name}
use Rattle.dy_library_names.specs.Named.{library_from}
use Rattle.dy_load_order.specs.LoadOrder.{AreEarlier, is_in, load_order, place_in}
use Rattle.dy_load_order.proofs.Members.{contains_in, in_end}
use Rattle.dy_load_order.proofs.Keeping.{only}
use Rattle.dy_load_order.proofs.Lawful.{main_is_last, none_is_twice}
use Rattle.dy_views.specs.declared.compiled.Compiled.{Compiled}
use Rattle.dy_views.specs.Views.{places_by, new_place, linked_names, linked_modules, linked_exports, no_exports, exports_in, order_of, AreCompiled, AreThere}
use Rattle.dy_views.specs.Laws.{view_at, place_between}
use Rattle.dy_views.proofs.Finding.{place_found, place_there}
use Rattle.dy_views.proofs.Standing.{places_are_kept, next_earlier}
use Rattle.dy_viewed_rows.specs.Within.{NamesAreWithin, ModulesAreWithin, ExportsAreWithin, OwnIsLast, UsedAreWithin, NextMentionsAreInView, MentionsAreWithin}
use Rattle.dy_viewed_rows.proofs.Read.{mentions_are_in_view}

-- owners of names that are renumbered, each below a count
module _ (places : ℕ → ℕ) (count : ℕ) (each : (place : ℕ) → places place < count) where
  names_within : (names : NamedList BindingId) → NamesAreWithin count (linked_names places names)
  names_within [] = tt
  names_within (name ∷ names) = (each name.1.at.library, names_within names)

  modules_within : (modules : List (Name × NamedList BindingId)) → ModulesAreWithin count (linked_modules places modules)
  modules_within [] = tt
  modules_within (m ∷ modules) = (names_within m.1, modules_within modules)

  exports_within : (exports : Exports) → ModulesAreWithin count (linked_exports places exports).modules × ModulesAreWithin count (linked_exports places exports).seen
  exports_within exports = (modules_within exports.modules, modules_within exports.seen)

pub every_mapped : {A B : Type 0} (P : B → Type 0) (f : A → B) (xs : List A) → ((x : A) → Contains xs x → P (f x)) → Every P (map f xs)
every_mapped P f [] one = tt
every_mapped {A} P f (x ∷ xs) one = (one x (0, omega arith, refl), every_mapped P f xs (λ y c. one y (later y c)))
  where
    later : (y : A) → Contains xs y → Contains (x ∷ xs) y
    later y (k, within, same) = (suc k, omega arith, same)

-- a library stands once in an order of which it is the last
last_place : (order others : List ℕ) (main k : ℕ) → order ≡ others ++ main ∷ [] → IsDistinct eqb order → k < length order → get_or order k 0 ≡ main → k ≡ length order - 1
last_place order others main k e distinct within same = go (cases_lt k (length others))
  where
    long : length order ≡ length others + 1
    long = ap length e ∙ length_push others main

    main_at : get_or order (length others) 0 ≡ main
    main_at = ap (λ (xs : List ℕ). get_or xs (length others) 0) e ∙ get_or_at others main [] 0 (length others) refl

    go : (k < length others) ⊎ (length others ≤ k) → k ≡ length order - 1
    go (inl less) =
        let new : eqb (get_or order k 0) (get_or order (length others) 0) ≡ false = apart_from_distinct eqb order k (length others) 0 distinct less (omega (arith, long)) in
        let old : eqb (get_or order k 0) (get_or order (length others) 0) ≡ true = eq-eqb (get_or order k 0) (get_or order (length others) 0) (same ∙ sym main_at) in
        absurd (true≢false (sym old ∙ new))
    go (inr more) = omega (arith, long, more, within)

-- a load order has none behind its main library
pub loaded_small : (uses : List (List ℕ)) → AreEarlier uses → (main x : ℕ) → Contains (load_order uses main) x → x ≤ main
loaded_small uses earlier main x h = go (only uses earlier (suc main) main [] x (omega arith) (contains_in (load_order uses main) x h))
  where
    go : (x ≤ main) ⊎ (is_in [] x ≡ true) → x ≤ main
    go (inl l) = l
    go (inr i) = absurd cc

module _ (compiled : Compiled) (used : List ℕ) (are : AreCompiled compiled) (there : AreThere compiled used) where
  abbrev order : List ℕ
  order = order_of compiled used

  abbrev all_uses : List (List ℕ)
  all_uses = compiled.uses ++ used ∷ []

  abbrev main : ℕ
  main = length compiled.uses

  earlier : AreEarlier all_uses
  earlier = next_earlier compiled used are there

  ends : (others : List ℕ) × (order ≡ others ++ main ∷ [])
  ends = main_is_last all_uses main earlier

  distinct : IsDistinct eqb order
  distinct = none_is_twice all_uses main earlier

  long : length order ≡ length ends.0 + 1
  long = ap length ends.1 ∙ length_push ends.0 main

  own_last : place_in order main ≡ Some (length order - 1)
  own_last =
      let (k, is) = place_there order main (subst (λ (xs : List ℕ). is_in xs main ≡ true) (sym ends.1) (in_end ends.0 main)) in
      let (within, same) = place_found order main k is in
      is ∙ ap Some (last_place order ends.0 main k ends.1 distinct within same)

  module _ (library : ℕ) (c : Contains used library) where
    abbrev view : List ℕ
    view = view_at compiled library

    small : library < length compiled.exports
    small = All-contains (λ number. number < length compiled.exports) used library there c

    loaded : view ≡ load_order compiled.uses library
    loaded = let many = are.orders in are.loaded library (let less = small in omega arith)

    -- none of its view is the library that is compiled next
    seen_before : (x : ℕ) → Contains view x → x ≤ library
    seen_before x h = loaded_small compiled.uses are.earlier library x (subst (λ (xs : List ℕ). Contains xs x) loaded h)

    -- so each of its places becomes one in front of it
    place_within : (place : ℕ) → place < length view → place_between order view place < length order - 1
    place_within place inside =
        let kept = places_are_kept compiled used library are there c place inside in
        let now = place_between order view place in
        go (cases_lt now (length order - 1)) kept.0 kept.1
      where
        go : (place_between order view place < length order - 1) ⊎ (length order - 1 ≤ place_between order view place) → place_between order view place < length order
            → get_or order (place_between order view place) 0 ≡ get_or view place 0 → place_between order view place < length order - 1
        go (inl l) within same = l
        go (inr m) within same =
            let end : length ends.0 ≡ place_between order view place = omega (arith, m, within, long) in
            let last : get_or order (place_between order view place) 0 ≡ main = ap (λ (xs : List ℕ). get_or xs (place_between order view place) 0) ends.1 ∙ get_or_at ends.0 main [] 0 (place_between order view place) end in
            let before = seen_before (get_or view place 0) (Contains-get_or view place 0 inside) in
            let is : get_or view place 0 ≡ main = sym same ∙ last in
            let less = small in
            let many = are.uses in
            absurd (omega (arith, before, is, less, many))

    not_empty : 0 < length view
    not_empty =
        let e = main_is_last compiled.uses library are.earlier in
        let count : length view ≡ length e.0 + 1 = ap length (loaded ∙ e.1) ∙ length_push e.0 library in
        omega (arith, count)

    -- and one behind all becomes the first
    new_within : (place : ℕ) → new_place (places_by (place_in order) view) place < length order - 1
    new_within place = go (cases_lt place (length view))
      where
        go : (place < length view) ⊎ (length view ≤ place) → new_place (places_by (place_in order) view) place < length order - 1
        go (inl l) = place_within place l
        go (inr m) =
            let many = length-map view (λ (other : ℕ). unwrap_or (place_in order other) 0) in
            let none : new_place (places_by (place_in order) view) place ≡ 0 = get_or_past (places_by (place_in order) view) place 0 (omega (arith, m, many)) in
            let one = place_within 0 not_empty in
            omega (arith, none, one)

  all_within : ExportsAreWithin (length order - 1) (map (exports_in compiled order) used)
  all_within = every_mapped _ (exports_in compiled order) used (λ library c.
      exports_within (new_place (places_by (place_in order) (view_at compiled library))) (length order - 1) (new_within library c) (get_or compiled.exports library no_exports))

pub own_is_last : OwnIsLast
own_is_last compiled used are there = ap (place_in (order_of compiled used)) (sym are.uses) ∙ own_last compiled used are there

pub used_are_within : UsedAreWithin
used_are_within compiled used are there = all_within compiled used are there

pub next_mentions_are_in_view : NextMentionsAreInView
next_mentions_are_in_view compiled used heading given form table forms read are there last is made =
    let count = length (order_of compiled used) in
    let exported : ExportsAreWithin heading.number given.used =
    subst (λ (n : ℕ). ExportsAreWithin n given.used) (sym last) (subst (ExportsAreWithin (count - 1)) (sym is) (used_are_within compiled used are there)) in
    let some = long compiled used are there in
    let next : heading.number + 1 ≡ count = omega (arith, last, some) in
    subst (λ (n : ℕ). MentionsAreWithin n (library_from heading read.out forms)) next (mentions_are_in_view heading given form table forms read exported made)
