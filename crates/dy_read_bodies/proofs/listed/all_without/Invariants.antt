use Rattle.std.proofs.Common.{◌≡◌, drop}
use Rattle.dy_rules.specs.Forms.{all_without}
use Rattle.dy_read_shapes.specs.ReadKeys.{read_each_key}
use Rattle.dy_read_bodies.proofs.listed.all_without.Given as goal

abbrev pub invariant-loop-at : goal.invariant-loop-at
invariant-loop-at l = all_without (read_each_key l.keys) ≡ all_without (read_each_key (drop l.at l.keys))
