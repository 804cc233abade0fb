-- A byte past the limit shows that a file is too long.
use Rattle.std.proofs.Common.{◌≡◌, ℕ, ◌+◌, ◌<◌, ◌≤◌, ◌⊎◌, Bool, false, cond, List, length, take, Some, sym, ap, ◌∙◌, inl, inr, arith}
use Rattle.std.specs.Prelude.{nat_le}
use Rattle.std.proofs.lemmas.Bool.{cases_lt, lt-leb}
use Rattle.std.proofs.lemmas.List.{length-take-le, take_all}
use Rattle.dy_sources.specs.Verdicts.{text, too_long, source_of}

front_source : (limit : ℕ) (bytes : List ℕ) → ((limit < length bytes) ⊎ (length bytes ≤ limit))
    → cond (nat_le (length (take (limit + 1) bytes)) limit) (text (take (limit + 1) bytes)) too_long ≡ cond (nat_le (length bytes) limit) (text bytes) too_long
front_source limit bytes (inl long) =
    let cut : nat_le (length (take (limit + 1) bytes)) limit ≡ false = lt-leb _ _ (omega (arith, length-take-le (limit + 1) bytes (omega arith))) in
    let whole : nat_le (length bytes) limit ≡ false = lt-leb _ _ long in
    ap (λ (b : Bool). cond b (text (take (limit + 1) bytes)) too_long) cut
    ∙ sym (ap (λ (b : Bool). cond b (text bytes) too_long) whole)
front_source limit bytes (inr short) =
    ap (λ (bs : List ℕ). cond (nat_le (length bs) limit) (text bs) too_long) (take_all (limit + 1) bytes (omega arith))

pub source_of-front : (bytes : List ℕ) → source_of (Some (take 4194305 bytes)) ≡ source_of (Some bytes)
source_of-front bytes = front_source 4194304 bytes (cases_lt 4194304 (length bytes))
