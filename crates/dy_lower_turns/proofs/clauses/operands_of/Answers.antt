use Rattle.dy_lower_turns.proofs.ByKind.{then_operands, in_operands, from_operands}
use Rattle.dy_lower_turns.proofs.clauses.operands_of.Goals as goal

pub returns-in-Then : goal.returns-in-Then
returns-in-Then c = λ layout. then_operands layout _ _ _ _ _ c.in-Then.is

pub returns-in-In : goal.returns-in-In
returns-in-In c = λ layout. in_operands layout _ _ _ _ c.in-In.is

pub returns-in-From : goal.returns-in-From
returns-in-From c = λ layout. from_operands layout _ _ _ _ _ _ c.in-From.is
