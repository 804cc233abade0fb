-- Code behind other code.
use Rattle.std.proofs.Common.{◌≡◌, ℕ, ◌+◌, List, [], ◌∷◌, ◌++◌, length, refl, ap, ◌∙◌, arith}
use Rattle.dy_code.specs.Fetching.{Instruction}
use Rattle.dy_lowered.specs.Flat.{Code, placed, placed_from}

pub joined : (place : ℕ) (first others : Code) → placed_from place (first ++ others) ≡ placed_from place first ++ placed_from (place + length first) others
joined place [] others =
    let here : place ≡ place + 0 = omega arith in
    ap (λ at. placed_from at others) here
joined place (flat ∷ first) others =
    let here : place + 1 + length first ≡ place + length (flat ∷ first) = omega arith in
    ap (λ code. placed place flat ∷ code) (joined (place + 1) first others ∙ ap (λ at. placed_from (place + 1) first ++ placed_from at others) here)
