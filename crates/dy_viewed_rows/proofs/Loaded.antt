-- The libraries of a load order see each other by name as they do by number.
use Rattle.std.proofs.Common.{◌≡◌, ℕ, ◌<◌, Bool, true, false, true≢false, eqb, List, [], length, map, get_or, All, Contains, refl, sym, ap, ◌∙◌, subst, eq-eqb, arith}
use Rattle.std.specs.List.{IsDistinct}
use Rattle.std.specs.Str.{bytes_eq}
use Rattle.std.proofs.lemmas.List.{get_or-map, length-map}
use Rattle.std.proofs.lemmas.List.Elements.{All-map, Contains-get_or}
use Rattle.std.proofs.lemmas.Slice.Eq.{bytes_eq-Decides}
use Rattle.std.proofs.lemmas.Map.Keys.{apart_from_distinct, IsDistinct-from_apart}
use Rattle.dy_base.specs.declared.exports.Exports.{Exports}
use Rattle.dy_modules.specs.Clauses.{Name}
use Rattle.dy_code.specs.declared.unit.Unit.{Unit as CodeUnit}
use Rattle.dy_code.specs.Validity.{Every}
use Rattle.dy_load_order.specs.LoadOrder.{load_order}
use Rattle.dy_load_order.specs.Laws.{Reaches, itself, by_use}
use Rattle.dy_load_order.proofs.Lawful.{none_is_twice, reached_are_loaded}
use Rattle.dy_views.specs.declared.compiled.Compiled.{Compiled}
use Rattle.dy_views.specs.Views.{AreCompiled, no_exports}
use Rattle.dy_views.specs.Laws.{view_at}
use Rattle.dy_linked_rows.specs.Programs.{Viewed, unit_of, units}
use Rattle.dy_viewed_rows.specs.Within.{MentionsAreWithin}
use Rattle.dy_viewed_rows.specs.Programs.{IsSeen, library_name, AreViewed, LoadedAreSeen}
use Rattle.dy_viewed_rows.proofs.Used.{every_mapped, loaded_small}
use Rattle.dy_viewed_rows.proofs.Apart.{one_place}

reaches_both : {uses : List (List ℕ)} {a b c : ℕ} → Reaches uses a b → Reaches uses b c → Reaches uses a c
reaches_both (itself n) next = next
reaches_both {c = c} (by_use n m b d rest) next = by_use n m c d (reaches_both rest next)

contains_mapped : {A B : Type 0} (f : A → B) (xs : List A) (x : A) → Contains xs x → Contains (map f xs) (f x)
contains_mapped f xs x (k, within, same) =
    let long = length-map xs f in
    (k, omega (arith, long, within), get_or-map f xs k x (f x) within ∙ ap f same)

apart : (s t : Name) → (s ≡ t → ⊥) → bytes_eq s t ≡ false
apart s t other = go (bytes_eq s t) refl
  where
    go : (b : Bool) → bytes_eq s t ≡ b → bytes_eq s t ≡ false
    go true e = absurd (other ((bytes_eq-Decides s t).0 e))
    go false e = e

-- names of numbers, each once
distinct_mapped : (f : ℕ → Name) (xs : List ℕ) → ((a b : ℕ) → Contains xs a → Contains xs b → f a ≡ f b → a ≡ b) → IsDistinct eqb xs → IsDistinct bytes_eq (map f xs)
distinct_mapped f xs one distinct =
    IsDistinct-from_apart bytes_eq (map f xs) (λ i j d less within.
    let long = length-map xs f in
    let high : j < length xs = omega (arith, long, within) in
    let low : i < length xs = omega (arith, less, high) in
    apart (get_or (map f xs) i d) (get_or (map f xs) j d) (λ same.
    let number = one (get_or xs i 0) (get_or xs j 0) (Contains-get_or xs i 0 low) (Contains-get_or xs j 0 high) (sym (get_or-map f xs i 0 d low) ∙ same ∙ get_or-map f xs j 0 d high) in
    true≢false (sym (eq-eqb (get_or xs i 0) (get_or xs j 0) number) ∙ apart_from_distinct eqb xs i j 0 distinct less high)))

module _ (compiled : Compiled) (viewed : ℕ → Viewed) (are : AreCompiled compiled) (names : AreViewed compiled viewed) where
  abbrev all_names : List Name
  all_names = map (λ (exports : Exports). exports.library) compiled.exports

  abbrev name : ℕ → Name
  name = library_name compiled

  name_is : (library : ℕ) → library < length compiled.exports → get_or all_names library [] ≡ name library
  name_is library less = get_or-map (λ (exports : Exports). exports.library) compiled.exports library no_exports [] less

  -- no two have one name
  one_number : (a b : ℕ) → a < length compiled.exports → b < length compiled.exports → name a ≡ name b → a ≡ b
  one_number a b low high same =
      let long = length-map compiled.exports (λ (exports : Exports). exports.library) in
      one_place all_names names.once a b (omega (arith, long, low)) (omega (arith, long, high)) (name_is a low ∙ same ∙ sym (name_is b high))

  loaded : (library : ℕ) → library < length compiled.exports → view_at compiled library ≡ load_order compiled.uses library
  loaded library less = let many = are.orders in are.loaded library (omega arith)

  module _ (main : ℕ) (less : main < length compiled.exports) where
    abbrev order : List ℕ
    order = view_at compiled main

    abbrev program : List Name
    program = map (λ (unit : CodeUnit). unit.name) (units (map viewed order))

    in_program : (x : ℕ) → x < length compiled.exports → Contains order x → Contains program (name x)
    in_program x low h =
        subst (Contains program) (names.names x low)
        (contains_mapped (λ (unit : CodeUnit). unit.name) (units (map viewed order)) (unit_of (viewed x))
        (contains_mapped unit_of (map viewed order) (viewed x) (contains_mapped viewed order x h)))

    module _ (library : ℕ) (c : Contains order library) where
      abbrev view : List ℕ
      view = view_at compiled library

      in_order : (x : ℕ) → Contains order x → Contains (load_order compiled.uses main) x
      in_order x h = subst (λ (xs : List ℕ). Contains xs x) (loaded main less) h

      low : library < length compiled.exports
      low = let small = loaded_small compiled.uses are.earlier main library (in_order library c) in omega (arith, small, less)

      in_view : (x : ℕ) → Contains view x → Contains (load_order compiled.uses library) x
      in_view x h = subst (λ (xs : List ℕ). Contains xs x) (loaded library low) h

      small : (x : ℕ) → Contains view x → x < length compiled.exports
      small x h = let before = loaded_small compiled.uses are.earlier library x (in_view x h) in let first = low in omega (arith, before, first)

      -- what one of them sees is loaded
      parts : (x : ℕ) → Contains view x → Contains order x
      parts x h =
          let to_library = (reached_are_loaded compiled.uses main library are.earlier).0 (in_order library c) in
          let to_x = (reached_are_loaded compiled.uses library x are.earlier).0 (in_view x h) in
          subst (λ (xs : List ℕ). Contains xs x) (sym (loaded main less)) ((reached_are_loaded compiled.uses main x are.earlier).1 (reaches_both to_library to_x))

      distinct : IsDistinct eqb view
      distinct = subst (IsDistinct eqb) (sym (loaded library low)) (none_is_twice compiled.uses library are.earlier)

      all_there : All (λ x. Contains program (name x)) view
      all_there k d within = let h = Contains-get_or view k d within in in_program (get_or view k d) (small (get_or view k d) h) (parts (get_or view k d) h)

      is_seen : IsSeen program (viewed library)
      is_seen = record {
        once = subst (IsDistinct bytes_eq) (sym (names.views library low)) (distinct_mapped name view (λ a b h g same. one_number a b (small a h) (small b g) same) distinct);
        there = subst (All (Contains program)) (sym (names.views library low)) (All-map (Contains program) name view all_there);
        mentions = subst (λ (n : ℕ). MentionsAreWithin n (viewed library).library.row) (sym (ap length (names.views library low) ∙ length-map view name)) (names.mentions library low);
      }

    all_seen : Every (IsSeen program) (map viewed order)
    all_seen = every_mapped (IsSeen program) viewed order is_seen

pub loaded_are_seen : LoadedAreSeen
loaded_are_seen compiled viewed main are names less = all_seen compiled viewed are names main less
