-- What the reader asks of tokens, beside what the grammar does.
use Rattle.std.specs.Prelude.{Bool, true, false}
use Rattle.dy_tree.specs.declared.roles.Role.{Role}
use Rattle.dy_tree.specs.declared.roles.Role.TheVariants as roles

-- a minus and digits
abbrev pub is_negative : Role → Role → Bool
is_negative roles.Minus roles.Integer = true
is_negative _ _ = false
