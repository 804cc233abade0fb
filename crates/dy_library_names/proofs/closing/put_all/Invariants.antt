use Rattle.std.proofs.Common.{◌≡◌, drop}
use Rattle.dy_definitions.specs.Seen.{meanings_in}
use Rattle.dy_library_names.specs.Closing.{put_all, with_definitions}
use Rattle.dy_library_names.proofs.closing.put_all.Given as goal

abbrev pub invariant-loop-definition : goal.invariant-loop-definition
invariant-loop-definition l =
    with_definitions l.table
    (put_all (meanings_in l.meanings) (drop l.definition-index l.definitions) l.table.defined)
    ≡ with_definitions l.fn.table
    (put_all (meanings_in l.meanings) l.definitions l.fn.table.defined)
