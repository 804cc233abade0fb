-- Locals that are numbered one after the other are distinct.
use Rattle.std.proofs.Common.{◌≡◌, ℕ, zero, suc, ◌+◌, ◌<◌, Bool, true, false, not, ◌&&◌, ◌||◌, List, [], ◌∷◌, ◌++◌, length, map, Option, Some, None, refl, sym, ap, ◌∙◌, arith}
use Rattle.std.specs.Prelude.{nat_eq}
use Rattle.std.specs.List.{list_any}
use Rattle.dy_term.specs.declared.types.DyType.{DyType}
use Rattle.dy_term.specs.Types.{CoreType}
use Rattle.dy_names.specs.Naming.{Locals}
use Rattle.dy_names.specs.Outside.{Outside}
use Rattle.dy_binding.specs.declared.progress.Progress.{Progress}
use Rattle.dy_binding.specs.Bound.{number_of}
use Rattle.dy_binding.specs.Types.{read_type, read_numbered}
use Rattle.dy_lowered.specs.Readiness.{are_distinct, with_rest}
use Rattle.dy_scoped_rows.proofs.terms.Facts.{and_true}

-- so many numbers from one on
abbrev row_from : ℕ → ℕ → List ℕ
row_from n zero = []
row_from n (suc count) = n ∷ row_from (n + 1) count

apart : (m n : ℕ) → m < n → nat_eq m n ≡ false
apart m n less = grind (arith, less)

either_false : (a b : Bool) → a ≡ false → b ≡ false → a || b ≡ false
either_false a b e f = (λ i. e i || b) ∙ f

not_among : (m n count : ℕ) → m < n → list_any (nat_eq m) (row_from n count) ≡ false
not_among m n zero less = refl
not_among m n (suc count) less =
    either_false (nat_eq m n) (list_any (nat_eq m) (row_from (n + 1) count)) (apart m n less)
    (not_among m (n + 1) count (omega (arith, less)))

row_distinct : (n count : ℕ) → are_distinct (row_from n count) ≡ true
row_distinct n zero = refl
row_distinct n (suc count) =
    and_true (not (list_any (nat_eq n) (row_from (n + 1) count))) (are_distinct (row_from (n + 1) count))
    (ap not (not_among n (n + 1) count (omega arith))) (row_distinct (n + 1) count)

row_more : (n count last : ℕ) → last ≡ n + count → row_from n count ++ last ∷ [] ≡ row_from n (suc count)
row_more n zero last is = ap (λ (k : ℕ). k ∷ []) (omega (arith, is))
row_more n (suc count) last is = ap (λ (rest : List ℕ). n ∷ rest) (row_more (n + 1) count last (omega (arith, is)))

numbers_are : (out : Outside) {A : Type 0} (typed : List (A × CoreType)) (n : ℕ) (locals : Locals) (p : Progress)
    → map (λ (t : ℕ × DyType). t.0) (read_numbered out typed n locals p).0 ≡ row_from n (length typed)
numbers_are out [] n locals p = refl
numbers_are out (t ∷ typed) n locals p =
    ap (λ (rest : List ℕ). n ∷ rest) (numbers_are out typed (n + 1) locals (read_type out t.1 locals p).1)

with_rest_distinct : {B : Type 0} (n count : ℕ) (rest : Option B) → are_distinct (with_rest (row_from n count) (number_of rest (n + count))) ≡ true
with_rest_distinct n count None = row_distinct n count
with_rest_distinct n count (Some rest) =
    ap are_distinct (row_more n count (n + count) refl) ∙ row_distinct n (suc count)

pub locals_distinct : (out : Outside) {A B : Type 0} (typed : List (A × CoreType)) (rest : Option B) (n : ℕ) (locals : Locals) (p : Progress)
    → are_distinct (with_rest (map (λ (t : ℕ × DyType). t.0) (read_numbered out typed n locals p).0) (number_of rest (n + length typed))) ≡ true
locals_distinct out typed rest n locals p =
    ap (λ (numbers : List ℕ). are_distinct (with_rest numbers (number_of rest (n + length typed)))) (numbers_are out typed n locals p)
    ∙ with_rest_distinct n (length typed) rest
