-- The jump back of a loop takes its place.
use Rattle.std.proofs.Common.{◌≡◌, ℕ, ◌-◌, negsuc, List, ◌∷◌, ◌++◌, map, length, ap, ◌∙◌, arith, length-append}
use Rattle.std.proofs.lemmas.List.{map-set}
use Rattle.std.proofs.Math.ListN.{set}
use Rattle.std.proofs.Math.Seq.{set-append_seam}
use Rattle.dy_lowered.specs.Flat.{Flat, Jump, Code}
use Rattle.dy_lower_parts.specs.declared.flat.Flat as raw
use Rattle.dy_lower_parts.specs.Seen.{seen}

pub repeated : (items : List raw.Flat) (x : raw.Flat) (count end : ℕ) (front back : Code) (old : Flat) → count ≡ length (map seen items) → seen x ≡ Jump (negsuc (count - 1 - end)) → length back ≡ end
    → map seen items ≡ front ++ old ∷ back → map seen (set items (count - 1 - end) x) ≡ front ++ Jump (negsuc (length front)) ∷ back
repeated items x count end front back old ec ex el es =
    let long = ap length es ∙ length-append front (old ∷ back) in
    let at : count - 1 - end ≡ length front = omega (arith, ec, el, long) in
    let jump = ex ∙ ap (λ (k : ℕ). Jump (negsuc k)) at in
    map-set seen items (count - 1 - end) x ∙ (λ i. set (es i) (at i) (jump i)) ∙ set-append_seam front old back (Jump (negsuc (length front)))
