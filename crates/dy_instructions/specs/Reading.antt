-- A body that is read, and what an instruction of it is.
use Rattle.std.specs.Prelude.{◌≡◌, ℕ, ◌<◌}
use Rattle.std.specs.declared.option.Option.{Option}
use Rattle.dy_code.specs.Programs.{Located}
use Rattle.dy_code.specs.declared.instr.Instr.{Instr}
use Rattle.dy_code.specs.declared.opcode.Opcode.{Opcode}
use Rattle.dy_code.specs.Fetching.{decode, decoded}
use Rattle.dy_code.specs.Fetching as code
use Rattle.dy_instructions.specs.declared.decoding.At.{At}
use Rattle.dy_instructions.specs.declared.instruction.Instruction.{Instruction}
use Rattle.dy_instructions.specs.declared.instruction.PlaceOp.{PlaceOp}
use Rattle.dy_instructions.specs.Seen.{FitsPlace, Reads}

-- a body that is read, so many bodies standing before those of its library
abbrev pub located_as : At → ℕ → Located
located_as at before = record { unit = at.unit.now; before = before; body = at.body.now }

-- what an operation with its operands is
abbrev pub Decodes : At → Opcode → (first second : ℕ) → Option Instruction → Type 0
Decodes at opcode first second i = (before : ℕ)
    → Reads (located_as at before) (decoded (located_as at before) opcode first second) i

-- what an instruction is
abbrev pub DecodesAs : At → Instr → Option Instruction → Type 0
DecodesAs at instr i = (before : ℕ)
    → Reads (located_as at before) (decode (located_as at before) instr) i

-- an instruction of this local is all right in bodies that have it
abbrev pub IsOf : ℕ → PlaceOp → Type 0
IsOf n op = (at : Located) → n < at.body.locals → FitsPlace at op

abbrev pub IsAlways : PlaceOp → Type 0
IsAlways op = (at : Located) → FitsPlace at op
