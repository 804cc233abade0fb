use Rattle.std.proofs.Common.{Option, subst}
use Rattle.dy_code.specs.declared.opcode.Opcode.{Opcode}
use Rattle.dy_code.specs.Programs.{if_there}
use Rattle.dy_code.specs.Fetching.{decoded}
use Rattle.dy_instructions.specs.Seen.{Reads}
use Rattle.dy_instructions.specs.Reading.{located_as}
use Rattle.dy_instructions.proofs.decoding.decode.Goals as goal

pub returns-in-Some : goal.returns-in-Some
returns-in-Some c = λ before.
    let at = located_as c.args.at before in
    subst (λ (code : Option Opcode). Reads at (if_there code
    (λ opcode. decoded at opcode c.args.instr.first c.args.instr.second)) c.decoded.result)
    c.in-Some.ensures (c.decoded.ensures before)
