use Rattle.std.proofs.Common.{◌≡◌, List, ◌++◌}
use Rattle.dy_code.specs.Fetching.{Instruction}
use Rattle.dy_lowered.specs.Tables.{tables_of}
use Rattle.dy_lower_lists.specs.Listed.{tables}
use Rattle.dy_lower_lists.proofs.Looped.{first_placed}
use Rattle.dy_lower_lists.proofs.lists.Lists.note_code.Given as goal

abbrev pub invariant-loop-index : goal.invariant-loop-index
invariant-loop-index l =
    (before : List Instruction) → tables l.fn.self ≡ tables_of before
    → tables l.self ≡ tables_of (before ++ first_placed l.flats.items l.index)
