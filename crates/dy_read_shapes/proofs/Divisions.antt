-- Fragments without a separator are one piece.
use Rattle.std.proofs.Common.{◌≡◌, ℕ, zero, suc, List, [], ◌∷◌, take, drop, refl, sym, ap}
use Rattle.dy_tree.specs.declared.fragment.Fragment.{Fragment}

pub all_taken : (n : ℕ) (fragments : List Fragment) → drop n fragments ≡ [] → take n fragments ≡ fragments
all_taken zero fragments e = sym e
all_taken (suc n) [] e = refl
all_taken (suc n) (first ∷ rest) e = ap (λ (others : List Fragment). first ∷ others) (all_taken n rest e)
