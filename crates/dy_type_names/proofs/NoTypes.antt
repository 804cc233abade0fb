-- Libraries of which no row is a type constant.
use Rattle.std.proofs.Common.{◌≡◌, ℕ, zero, suc, ◌<◌, List, [], ◌∷◌, ◌++◌, length, replicate, IsSome, slice_get, refl, sym, ap, subst, ◌∙◌, arith, length-append}
use Rattle.dy_base.specs.declared.ids.BindingId.{BindingId}
use Rattle.dy_base.specs.declared.ids.What.{What}
use Rattle.dy_base.specs.declared.ids.What.TheVariants as whats
use Rattle.dy_type_names.specs.declared.standing.NamedTypes.{NamedTypes}
use Rattle.dy_type_names.specs.declared.standing.Standing.{Standing}
use Rattle.dy_type_names.specs.declared.standing.Standing.TheVariants.{NoType}
use Rattle.dy_type_names.specs.Standings.{Rows, rows_in, at_row, or_no_type, standing_by, standing_in, IsThere}

none_of : (n i : ℕ) → or_no_type (slice_get (replicate n NoType) i) ≡ NoType
none_of zero i = refl
none_of (suc n) zero = refl
none_of (suc n) (suc i) = none_of n i

-- a library of such rows changes nothing
pushed : (rows : Rows) (l row n : ℕ) → or_no_type (at_row row (slice_get (rows ++ replicate n NoType ∷ []) l)) ≡ or_no_type (at_row row (slice_get rows l))
pushed [] zero row n = none_of n row
pushed [] (suc l) row n = refl
pushed (r ∷ rows) zero row n = refl
pushed (r ∷ rows) (suc l) row n = pushed rows l row n

stays : (rows : Rows) (b : BindingId) (w : What) (n : ℕ) → standing_by (rows ++ replicate n NoType ∷ []) b w ≡ standing_by rows b w
stays rows b whats.Class n = refl
stays rows b whats.Generic n = refl
stays rows b whats.Variable n = refl
stays rows b whats.Constant n = pushed rows b.at.library b.at.row n
stays rows b whats.Function n = refl
stays rows b whats.Macro n = refl

pub pushed_stays : (before after : NamedTypes) (items : List Standing) (n : ℕ) → rows_in after ≡ rows_in before ++ items ∷ [] → items ≡ replicate n NoType → (b : BindingId) → standing_in after b ≡ standing_in before b
pushed_stays before after items n e r b =
    ap (λ (rows : Rows). standing_by rows b b.what) (e ∙ ap (λ (its : List Standing). rows_in before ++ its ∷ []) r) ∙ stays (rows_in before) b b.what n

pub pushed_longer : (before after : NamedTypes) (items : List Standing) → rows_in after ≡ rows_in before ++ items ∷ [] → length (rows_in after) ≡ suc (length (rows_in before))
pushed_longer before after items e =
    let l : length (rows_in after) ≡ length (rows_in before ++ items ∷ []) = ap length e in
    let m = length-append (rows_in before) (items ∷ []) in
    omega (arith, l, m)

some_at : (n i : ℕ) → i < n → IsSome (slice_get (replicate n NoType) i)
some_at zero i l = absurd (omega (arith, l))
some_at (suc n) zero l = refl
some_at (suc n) (suc i) l = let k : i < n = omega (arith, l) in some_at n i k

there_last : (rows : Rows) (row n : ℕ) → row < n → IsThere (length rows) row (rows ++ replicate n NoType ∷ [])
there_last [] row n l = some_at n row l
there_last (r ∷ rows) row n l = there_last rows row n l

pub pushed_there : (before after : NamedTypes) (items : List Standing) (library row n : ℕ) → rows_in after ≡ rows_in before ++ items ∷ [] → items ≡ replicate n NoType → length (rows_in before) ≡ library → row < n
    → IsThere library row (rows_in after)
pushed_there before after items library row n e r c l =
    subst (λ (m : ℕ). IsThere m row (rows_in after)) c
    (subst (λ (rows : Rows). IsThere (length (rows_in before)) row rows) (sym (e ∙ ap (λ (its : List Standing). rows_in before ++ its ∷ []) r)) (there_last (rows_in before) row n l))
