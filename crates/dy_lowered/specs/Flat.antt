-- Instructions before they have a place. What an operand names stands as itself, and one that leads
-- elsewhere says how far.
use Rattle.std.specs.Prelude.{ℕ, ◌+◌, ◌-◌, ℤ, pos, negsuc, List, [], ◌∷◌}
use Rattle.dy_term.specs.declared.types.DyType.{DyType}
use Rattle.dy_code.specs.Fetching.{Instruction}
use Rattle.dy_code.specs.Fetching as instr

-- An instruction that leads nowhere but to the next one, or one of these. A distance counts
-- instructions from the next one on. A body is told by its number in the library.
pub data Flat : Type 0 where
  Plain : (instruction : Instruction) → Flat
  Jump : (distance : ℤ) → Flat
  JumpFalse : (distance : ℤ) → Flat
  Enter : (distance : ℤ) → Flat
  Guard : (distance : ℤ) → Flat
  Catch : (condition : DyType) (distance : ℤ) → Flat

abbrev pub Code : Type 0
Code = List Flat

abbrev pub one : Instruction → Code
one instruction = Plain instruction ∷ []

-- forward by so many instructions
abbrev pub past : ℕ → Flat
past count = Jump (pos count)

-- where the first value is `#f`
abbrev pub past_if_false : ℕ → Flat
past_if_false count = JumpFalse (pos count)

-- the place at a distance from the one behind a place
abbrev pub address : ℕ → ℤ → ℕ
address place (pos count) = place + 1 + count
address place (negsuc count) = place - count

-- the instruction at a place
abbrev pub placed : ℕ → Flat → Instruction
placed place (Plain instruction) = instruction
placed place (Jump distance) = instr.Jump (address place distance)
placed place (JumpFalse distance) = instr.JumpFalse (address place distance)
placed place (Enter distance) = instr.Enter (address place distance)
placed place (Guard distance) = instr.Guard (address place distance)
placed place (Catch condition distance) = instr.Catch condition (address place distance)

-- the code from a place on
abbrev pub placed_from : ℕ → Code → List Instruction
placed_from place [] = []
placed_from place (flat ∷ code) = placed place flat ∷ placed_from (place + 1) code
