use Rattle.std.proofs.Common.{◌≡◌, drop, map}
use Rattle.dy_rules.specs.SeenTypes.{seen_bound}
use Rattle.dy_drafts.specs.Shapes.{bound_of}
use Rattle.dy_drafts.proofs.types.bound_of.Given as goal

abbrev pub invariant-loop-bound : goal.invariant-loop-bound
invariant-loop-bound l = bound_of l.text l.other (map seen_bound (drop l.bound-index l.bounds)) ≡ bound_of l.text l.other (map seen_bound l.bounds)
