-- Names of libraries that differ.
use Rattle.std.proofs.Common.{◌≡◌, ℕ, ◌+◌, Bool, true, false, cond, List, [], ◌∷◌, ◌++◌, Some, None, refl, sym, subst, ◌∙◌}
use Rattle.std.specs.List.{IsDistinct, AllByRecursion, position_from}
use Rattle.std.specs.Str.{bytes_eq}
use Rattle.std.proofs.lemmas.List.{map-append}
use Rattle.std.proofs.lemmas.Iterator.Adapters.{position_from-zero}
use Rattle.dy_base.specs.declared.exports.Exports.{Exports}
use Rattle.dy_views.specs.Views.{is_library, number_of}
use Rattle.dy_libraries.specs.Commands.{names_of}

each_push : {X : Type 0} (P : X → Type 0) (xs : List X) (y : X) → AllByRecursion P xs → P y → AllByRecursion P (xs ++ y ∷ [])
each_push P [] y all is = (is, tt)
each_push P (x ∷ xs) y all is = (all.0, each_push P xs y all.1 is)

-- a name that none of others is
new_from : (from : ℕ) (exports : List Exports) (name : List ℕ) → position_from (is_library name) from exports ≡ None → AllByRecursion (λ other. bytes_eq other name ≡ false) (names_of exports)
new_from from [] name e = tt
new_from from (library ∷ exports) name e = go (is_library name library) refl e (new_from (from + 1) exports name)
  where
    go : (b : Bool) → is_library name library ≡ b → cond b (Some from) (position_from (is_library name) (from + 1) exports) ≡ None
        → (position_from (is_library name) (from + 1) exports ≡ None → AllByRecursion (λ other. bytes_eq other name ≡ false) (names_of exports))
        → AllByRecursion (λ other. bytes_eq other name ≡ false) (names_of (library ∷ exports))
    go true is f rest = absurd cc
    go false is f rest = (is, rest f)

new_all : (exports : List Exports) (name : List ℕ) → number_of exports name ≡ None → AllByRecursion (λ other. bytes_eq other name ≡ false) (names_of exports)
new_all exports name e = new_from 0 exports name (sym (position_from-zero (is_library name) exports) ∙ e)

distinct_push : (names : List (List ℕ)) (name : List ℕ) → IsDistinct bytes_eq names → AllByRecursion (λ other. bytes_eq other name ≡ false) names → IsDistinct bytes_eq (names ++ name ∷ [])
unfolding IsDistinct
distinct_push [] name distinct new = (tt, tt)
distinct_push (other ∷ names) name distinct new =
    (each_push (λ y. bytes_eq other y ≡ false) names name distinct.0 new.0, distinct_push names name distinct.1 new.1)

-- one more name stays apart from the others
pub apart_more : (exports : List Exports) (library : Exports) → IsDistinct bytes_eq (names_of exports) → number_of exports library.library ≡ None → IsDistinct bytes_eq (names_of (exports ++ library ∷ []))
apart_more exports library distinct new =
    subst (IsDistinct bytes_eq) (sym (map-append (λ (one : Exports). one.library) exports (library ∷ [])))
    (distinct_push (names_of exports) library.library distinct (new_all exports library.library new))

pub two_apart : (one other : List ℕ) → bytes_eq one other ≡ false → IsDistinct bytes_eq (one ∷ other ∷ [])
unfolding IsDistinct
two_apart one other e = ((e, tt), (tt, tt))
