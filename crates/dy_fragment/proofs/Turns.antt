-- One turn of the loop over the tokens.
use Rattle.std.proofs.Common.{◌≡◌, ℕ, zero, suc, ◌+◌, ◌<◌, ◌≤◌, List, length, Some, None, Result, Ok, refl, ap, ◌∙◌, arith}
use Rattle.std.specs.Prelude.{slice_get}
use Rattle.std.proofs.lemmas.Option.{slice_get_past}
use Rattle.dy_base.specs.declared.fault.Fault.{Fault}
use Rattle.dy_base.specs.declared.fault.Refusal.{Refusal}
use Rattle.dy_base.specs.declared.fault.Refusal.TheVariants as refusals
use Rattle.dy_tree.specs.declared.token.Token.{Token}
use Rattle.dy_tree.specs.declared.words.Words.{Words}
use Rattle.dy_fragment.specs.Steps.{SeenState, Grouping, Fails, step, finish, and_then, run}

pub run_end : (limit : ℕ) (words : Words) (tokens : List Token) (n : ℕ) (s : SeenState) → slice_get tokens s.at ≡ None → run limit words tokens n s ≡ finish s
run_end limit words tokens zero s ends = refl
run_end limit words tokens (suc n) s ends = rw ends refl

run_step : (limit : ℕ) (words : Words) (tokens : List Token) (n : ℕ) (s : SeenState) (t : Token) → slice_get tokens s.at ≡ Some t
    → run limit words tokens (suc n) s ≡ and_then (step limit words tokens s t) (λ next. run limit words tokens n next)
run_step limit words tokens n s t found = rw found refl

pub ends : (limit : ℕ) (words : Words) (tokens : List Token) (n : ℕ) (s : SeenState) (whole : Grouping) → length tokens ≤ s.at → whole ≡ run limit words tokens n s → whole ≡ finish s
ends limit words tokens n s whole past is = is ∙ run_end limit words tokens n s (slice_get_past tokens s.at past)

pub turn : (limit : ℕ) (words : Words) (tokens : List Token) (n : ℕ) (s next : SeenState) (t : Token) (whole : Grouping) → slice_get tokens s.at ≡ Some t
    → step limit words tokens s t ≡ Ok next → s.at < length tokens → length tokens ≤ n + s.at → s.at < next.at → whole ≡ run limit words tokens n s
    → (m : ℕ) × (length tokens ≤ m + next.at) × (whole ≡ run limit words tokens m next)
turn limit words tokens zero s next t whole found stepped room enough ahead is = absurd (omega arith)
turn limit words tokens (suc n) s next t whole found stepped room enough ahead is =
    (n, omega arith, is ∙ run_step limit words tokens n s t found ∙ ap (λ (r : Result SeenState Fault). and_then r (λ x. run limit words tokens n x)) stepped)

pub fails : (error : Refusal) (limit : ℕ) (words : Words) (tokens : List Token) (n : ℕ) (s : SeenState) (t : Token) (whole : Grouping) → slice_get tokens s.at ≡ Some t
    → s.at < length tokens → length tokens ≤ n + s.at → Fails error (step limit words tokens s t) → whole ≡ run limit words tokens n s → Fails error whole
fails refusals.Memory limit words tokens n s t whole found room enough stepped is = tt
fails (refusals.Fault f) limit words tokens zero s t whole found room enough stepped is = absurd (omega arith)
fails (refusals.Fault f) limit words tokens (suc n) s t whole found room enough stepped is =
    is ∙ run_step limit words tokens n s t found ∙ ap (λ (r : Result SeenState Fault). and_then r (λ x. run limit words tokens n x)) stepped
