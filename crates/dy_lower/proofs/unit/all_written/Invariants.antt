use Rattle.std.proofs.Common.{◌≡◌, map, take}
use Rattle.dy_lowered.specs.Units.{body_of}
use Rattle.dy_lower_lists.specs.Listed.{tables}
use Rattle.dy_lower_library.specs.Seen.{seen_bodies}
use Rattle.dy_lower.proofs.unit.all_written.Given as goal

abbrev pub invariant-loop-body : goal.invariant-loop-body
invariant-loop-body l =
    l.all ≡ map (body_of (tables l.lists)) (seen_bodies (take l.body-index l.bodies))
