use Rattle.std.proofs.Common.{refl, sym, arith}
use Rattle.std.proofs.lemmas.Option.{slice_get_past, slice_get_read}
use Rattle.dy_code.specs.Opcodes.{opcodes}
use Rattle.dy_code.proofs.opcode.opcode_at.Goals as goal

pub returns-in-Some : goal.returns-in-Some
returns-in-Some c =
    let at = c.in-Some.ensures.lookup in
    sym (slice_get_read opcodes _ c.args.number c.in-Some.opcode.now refl (omega (arith, at)) at.1)

pub returns-in-None : goal.returns-in-None
returns-in-None c = sym (slice_get_past opcodes c.args.number (omega (arith, c.in-None.ensures.lookup)))
