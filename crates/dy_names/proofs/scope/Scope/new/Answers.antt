use Rattle.std.proofs.Common.{ap, reverse}
use Rattle.dy_names.proofs.Kept.{begins_kept}
use Rattle.dy_names.proofs.scope.Scope.new.Goals as goal

pub invariant_of-result : goal.invariant_of-result
invariant_of-result c = begins_kept _ _ _ (ap reverse c.new.ensures.items) c.new-2.ensures.empty c.new-3.ensures.empty
