use Rattle.std.proofs.Common.{◌≡◌, ◌++◌, drop}
use Rattle.dy_lowered.specs.Bodies.{tops_from, start_count}
use Rattle.dy_lower_library.proofs.starts.tops_of.Given as goal

abbrev pub invariant-loop-top : goal.invariant-loop-top
invariant-loop-top l =
    tops_from l.top-items (start_count l.library)
    ≡ l.tops.items ++ tops_from (drop l.top-index l.top-items) l.number
