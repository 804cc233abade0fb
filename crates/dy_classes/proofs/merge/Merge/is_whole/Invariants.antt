use Rattle.std.proofs.Common.{◌≡◌, drop}
use Rattle.dy_classes.specs.Rows.{lists_at}
use Rattle.dy_classes.specs.Merge.{all_listed, newest}
use Rattle.dy_classes.proofs.merge.Merge.is_whole.Given as goal

abbrev pub invariant-loop-place : goal.invariant-loop-place
invariant-loop-place l =
    all_listed (lists_at l.program l.class) (newest l.self.listed.items) ≡ all_listed (drop l.place (lists_at l.program l.class)) (newest l.self.listed.items)
