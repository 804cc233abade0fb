-- What a look-up at a place lends.
use Rattle.std.proofs.Common.{◌≡◌, inl, inr, ℕ, ◌+◌, ◌-◌, ◌<◌, ◌≤◌, true, false, true≢false, List, length, take, Option, Some, None, slice_get, refl, sym, ap, subst, ◌∙◌, arith}
use Rattle.std.specs.Borrow.{Bor}
use Rattle.std.specs.Slice.{IsItemAt, IsGetRangeResult}
use Rattle.std.proofs.lemmas.Option.{slice_get_read, slice_get_past}
use Rattle.dy_modules.specs.declared.rounds.ModuleTables.{ModuleTables}
use Rattle.dy_modules.specs.Order.{is_made}

pub item_some : {X : Type 0} (xs : List X) (i : ℕ) (r : Option (Bor X)) (x : Bor X) → IsItemAt xs i r → r ≡ Some x → slice_get xs i ≡ Some x.now
item_some {X} xs i r x is e =
    let at = subst (λ (o : Option (Bor X)). IsItemAt xs i o) e is in
    slice_get_read xs (length xs) i x.now refl at.3.0 at.1

pub item_none : {X : Type 0} (xs : List X) (i : ℕ) (r : Option (Bor X)) → IsItemAt xs i r → r ≡ None → slice_get xs i ≡ None
item_none {X} xs i r is e =
    let at = subst (λ (o : Option (Bor X)). IsItemAt xs i o) e is in
    slice_get_past xs i at.3

-- the front up to a place
pub front_some : {X : Type 0} (xs : List X) (i : ℕ) (r : Option (Bor (List X))) (x : Bor (List X)) → IsGetRangeResult xs 0 (i + 1) r → r ≡ Some x → (i < length xs) × (x.now ≡ take (i + 1) xs)
front_some {X} xs i r x is e =
    let at = subst (λ (o : Option (Bor (List X))). IsGetRangeResult xs 0 (i + 1) o) e is in
    let all : (i + 1) - 0 ≡ i + 1 = omega arith in
    (omega (arith, at.0.1), at.0.2 ∙ ap (λ n. take n xs) all)

pub front_none : {X : Type 0} (xs : List X) (i : ℕ) (r : Option (Bor (List X))) → IsGetRangeResult xs 0 (i + 1) r → r ≡ None → length xs ≤ i
front_none {X} xs i r is e =
    let at = subst (λ (o : Option (Bor (List X))). IsGetRangeResult xs 0 (i + 1) o) e is in
    elim at.0 [ inl never ↦ absurd (omega (arith, never)) | inr past ↦ omega (arith, past) ]

-- tables that are made are there
module _ (done : List (Option ModuleTables)) (i : ℕ) (made : is_made (slice_get done i) ≡ true) where
  pub made_none : (r : Option (Bor (Option ModuleTables))) → IsItemAt done i r → r ≡ None → ⊥
  made_none r is e = true≢false (sym made ∙ ap is_made (item_none done i r is e))

  pub made_nothing : (r : Option (Bor (Option ModuleTables))) (x : Bor (Option ModuleTables)) → IsItemAt done i r → r ≡ Some x → x.now ≡ None → ⊥
  made_nothing r x is e none = true≢false (sym made ∙ ap is_made (item_some done i r x is e ∙ ap Some none))

pub tables_at : (done : List (Option ModuleTables)) (i : ℕ) (r : Option (Bor (Option ModuleTables))) (x : Bor (Option ModuleTables)) (t : ModuleTables) → IsItemAt done i r → r ≡ Some x → x.now ≡ Some t → slice_get done i ≡ Some (Some t)
tables_at done i r x t is e some = item_some done i r x is e ∙ ap Some some

pub not_made : (done : List (Option ModuleTables)) (i : ℕ) (r : Option (Bor (Option ModuleTables))) (x : Bor (Option ModuleTables)) → IsItemAt done i r → r ≡ Some x → x.now ≡ None → is_made (slice_get done i) ≡ false
not_made done i r x is e none = ap is_made (item_some done i r x is e ∙ ap Some none)
