-- What is added in several steps.
use Rattle.std.proofs.Common.{◌≡◌, List, ◌++◌, sym, ap, ◌∙◌, append_assoc, refl}

pub two_parts : {X : Type 0} (old middle new first second whole : List X) → whole ≡ first ++ second → middle ≡ old ++ first → new ≡ middle ++ second → new ≡ old ++ whole
two_parts {X} old middle new first second whole is e f = f ∙ ap (λ (xs : List X). xs ++ second) e ∙ append_assoc old first second ∙ ap (λ (xs : List X). old ++ xs) (sym is)

pub three_parts : {X : Type 0} (old middle later new first second third whole : List X) → whole ≡ first ++ (second ++ third) → middle ≡ old ++ first → later ≡ middle ++ second → new ≡ later ++ third → new ≡ old ++ whole
three_parts old middle later new first second third whole is e f g = two_parts old middle new first (second ++ third) whole is e (two_parts middle later new second third (second ++ third) refl f g)
