use Rattle.std.proofs.Common.{sym, ap, ◌∙◌, arith}
use Rattle.dy_pieces.specs.Numbers.{fitting}
use Rattle.dy_pieces.proofs.Numbers.{too_wide}
use Rattle.dy_pieces.proofs.literal.value_from.Goals as goal

pub returns-then-d-base-clause-value : goal.returns-then-d-base-clause-value
returns-then-d-base-clause-value c =
    sym (ap fitting c.loop-b.invariant.same ∙ too_wide c.args.base c.loop-b.n c.args.digits.now c.loop-b.b-index (omega arith) c.requires.some (rw c.digit_value.ensures.value at c.digit_value.ensures.small) (rw (c.from-d.ensures ∙ c.digit_value.ensures.value) at c.if-d-base.true))
