-- Types that are written as calls: the arguments by their number.
use Rattle.std.proofs.Common.{◌≡◌, List, [], ◌∷◌, length, map, refl}
use Rattle.std.specs.Prelude.{Bool, true, false, if◌then◌else◌, None}
use Rattle.dy_tree.specs.declared.token.Token.{Token}
use Rattle.dy_tree.specs.declared.expression.Argument.{Argument}
use Rattle.dy_rules.specs.SeenForms.{seen_argument}
use Rattle.dy_surface.specs.TypeConstants.{limited_type, is_integer_class, bounded}

-- without a bound, with one and with two it may be one
pub limited_other : (word : Token) (arguments : List Argument) → (length arguments ≡ 1 → ⊥) → (length arguments ≡ 2 → ⊥) → (length arguments ≡ 3 → ⊥) → limited_type word (map seen_argument arguments) ≡ None
limited_other word [] one two three = refl
limited_other word (class ∷ []) one two three = absurd (one refl)
limited_other word (class ∷ a ∷ []) one two three = absurd (two refl)
limited_other word (class ∷ a ∷ b ∷ []) one two three = absurd (three refl)
limited_other word (class ∷ a ∷ b ∷ c ∷ rest) one two three = either (is_integer_class (seen_argument class))
  where
    either : (is : Bool) → (if is then bounded word (map seen_argument (a ∷ b ∷ c ∷ rest)) else None) ≡ None
    either true = refl
    either false = refl
