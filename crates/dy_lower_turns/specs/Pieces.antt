-- Pieces of the code of a `for` between which terms stand, or others of them.
use Rattle.std.specs.Prelude.{ℕ, ℤ, pos, negsuc, ◌∷◌, ◌++◌}
use Rattle.dy_code.specs.Fetching.{Push, Values, Op}
use Rattle.dy_lowered.specs.Flat.{Plain, Code, one}
use Rattle.dy_lowered.specs.Turns.{number, operand, addition, multiplication, comparison, opposite}
use Rattle.dy_lowered.specs.Turns.{with_number}
use Rattle.dy_lower_turns.specs.declared.operations.Source.{Source}
use Rattle.dy_lower_turns.specs.declared.operations.Source.TheVariants as source

-- what an operation takes becomes the first value
abbrev pub source_code : Source → Code
source_code (source.Number value) = number value
source_code (source.Operand place) = operand place

-- the second value of an operation, and the operation, behind what gives the first one
abbrev pub with_second : ℕ → Code → Code
with_second operation second = Plain Push ∷ (second ++ (Plain Push ∷ one (Op operation 2)))

-- that the first value is an integer, behind what evaluates it
abbrev pub checked : Code
checked = Plain Push ∷ Plain Push ∷ (with_number comparison (pos 0) ++ one (Values 1))

-- the opposite of the first value, and a number more
abbrev pub from_opposite : ℤ → Code
from_opposite value =
    with_second multiplication (number (negsuc 0)) ++ with_second addition (number value)

-- the opposite of a truth, behind what gives it
abbrev pub denied : Code
denied = Plain Push ∷ one (Op opposite 1)
