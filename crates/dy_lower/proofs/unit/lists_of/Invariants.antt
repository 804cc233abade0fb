use Rattle.std.proofs.Common.{◌≡◌, take}
use Rattle.dy_lowered.specs.Tables.{tables_of}
use Rattle.dy_lower_lists.specs.Listed.{tables}
use Rattle.dy_lower_library.specs.Seen.{seen_bodies}
use Rattle.dy_lower.specs.Placed.{instructions_of}
use Rattle.dy_lower.proofs.unit.lists_of.Given as goal

abbrev pub invariant-loop-body : goal.invariant-loop-body
invariant-loop-body l =
    tables l.lists ≡ tables_of (instructions_of (seen_bodies (take l.body-index l.bodies)))
