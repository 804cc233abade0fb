-- What is decoded of an operation that is known.
use Rattle.std.proofs.Common.{◌≡◌, ℕ, Option, sym, subst}
use Rattle.dy_code.specs.declared.opcode.Opcode.{Opcode}
use Rattle.dy_instructions.specs.declared.decoding.At.{At}
use Rattle.dy_instructions.specs.declared.instruction.Instruction.{Instruction}
use Rattle.dy_instructions.specs.Reading.{Decodes}

pub of_opcode : (at : At) (opcode known : Opcode) (first second : ℕ) (i : Option Instruction)
    → opcode ≡ known → Decodes at known first second i → Decodes at opcode first second i
of_opcode at opcode known first second i is decodes =
    subst (λ (o : Opcode). Decodes at o first second i) (sym is) decodes
