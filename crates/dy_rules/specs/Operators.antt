-- Operators and words by kind (DRM, appendix A).
use Rattle.std.specs.Prelude.{ℕ}
use Rattle.dy_tree.specs.declared.roles.Precedence.{Precedence}
use Rattle.dy_tree.specs.declared.roles.Precedence.TheVariants as precedences

-- how many of them bind tighter
abbrev pub below : Precedence → ℕ
below precedences.Power = 0
below precedences.Product = 1
below precedences.Sum = 2
below precedences.Comparison = 3
below precedences.Logical = 4
