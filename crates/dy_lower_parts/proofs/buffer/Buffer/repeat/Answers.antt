use Rattle.dy_lower_parts.proofs.Repeating.{repeated}
use Rattle.dy_lower_parts.proofs.buffer.Buffer.repeat.Goals as goal

pub returns : goal.returns
returns c = λ front back old long same.
    repeated c.args.self.now.flats.items _ _ _ front back old c.len-count.ensures c.in_ok-back.ensures long same
