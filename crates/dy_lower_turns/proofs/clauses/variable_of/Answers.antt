use Rattle.dy_lower_turns.proofs.ByKind.{then_variable, in_variable, from_variable}
use Rattle.dy_lower_turns.proofs.clauses.variable_of.Goals as goal

pub returns-in-Then : goal.returns-in-Then
returns-in-Then c = λ layout. then_variable layout _ _ _ _ _ c.in-Then.is

pub returns-in-In : goal.returns-in-In
returns-in-In c = λ layout. in_variable layout _ _ _ _ c.in-In.is

pub returns-in-From : goal.returns-in-From
returns-in-From c = λ layout. from_variable layout _ _ _ _ _ _ c.in-From.is
