-- Which values are identical (DRM 5, "Object Identity and Equality").
use Rattle.std.specs.Prelude.{ℕ, ℤ, Bool, true, false, not, ◌&&◌, nat_eq, int_lt, if◌then◌else◌}
use Rattle.dy_base.specs.declared.ids.Ref.{Ref}
use Rattle.dy_base.specs.declared.ids.BindingId.{BindingId}
use Rattle.dy_base.specs.declared.ids.What.{What}
use Rattle.dy_base.specs.declared.ids.What.TheVariants as whats
use Rattle.dy_values.specs.declared.value.Variant.{Variant}
use Rattle.dy_values.specs.declared.value.Variant.TheVariants.{Int, Char, Bool as Truth, Symbol}
use Rattle.dy_values.specs.declared.value.Variant.TheVariants.{Nil, Class, TypeValue, Generic}
use Rattle.dy_values.specs.declared.value.Variant.TheVariants.{Function, Builtin, Object}

-- neither is less
abbrev pub is_same_number : ℤ → ℤ → Bool
is_same_number left right = if int_lt left right then false else not (int_lt right left)

abbrev pub is_same_truth : Bool → Bool → Bool
is_same_truth true right = right
is_same_truth false right = not right

abbrev pub is_same_row : Ref → Ref → Bool
is_same_row left right = nat_eq left.library right.library && nat_eq left.row right.row

abbrev pub is_same_what : What → What → Bool
is_same_what whats.Class whats.Class = true
is_same_what whats.Generic whats.Generic = true
is_same_what whats.Variable whats.Variable = true
is_same_what whats.Constant whats.Constant = true
is_same_what whats.Function whats.Function = true
is_same_what whats.Macro whats.Macro = true
is_same_what left right = false

abbrev pub is_same_binding : BindingId → BindingId → Bool
is_same_binding left right = is_same_what left.what right.what && is_same_row left.at right.at

-- Numbers, characters, symbols, booleans, `#()`, classes, functions and types are told by what they
-- are, and objects by their places.
abbrev pub is_identical : Variant → Variant → Bool
is_identical (Int left) (Int right) = is_same_number left right
is_identical (Char left) (Char right) = nat_eq left right
is_identical (Truth left) (Truth right) = is_same_truth left right
is_identical (Symbol left) (Symbol right) = nat_eq left right
is_identical Nil Nil = true
is_identical (Class left) (Class right) = is_same_row left.0 right.0
is_identical (TypeValue left) (TypeValue right) = nat_eq left right
is_identical (Generic left) (Generic right) = is_same_row left.0 right.0
is_identical (Function left) (Function right) = is_same_binding left right
is_identical (Builtin left) (Builtin right) = nat_eq left right
is_identical (Object left) (Object right) = nat_eq left right
is_identical left right = false
