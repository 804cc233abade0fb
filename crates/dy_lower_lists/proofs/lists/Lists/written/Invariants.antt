use Rattle.std.proofs.Common.{◌≡◌, map}
use Rattle.dy_lowered.specs.Tables.{written}
use Rattle.dy_lower_lists.specs.Listed.{tables}
use Rattle.dy_lower_lists.proofs.Looped.{first_placed}
use Rattle.dy_lower_lists.proofs.lists.Lists.written.Given as goal

abbrev pub invariant-loop-place : goal.invariant-loop-place
invariant-loop-place l =
    l.instructions.items ≡ map (written (tables l.self)) (first_placed l.flats.items l.place)
