use Rattle.dy_program_world.specs.Tables.{all_methods}
use Rattle.dy_program_world.proofs.Entering.{first_left, library_entered}
use Rattle.dy_program_world.proofs.table.table_of.Goals as goal

pub loop-library-preserved : goal.loop-library-preserved
loop-library-preserved c =
    let libraries = c.as_slice-library-items.result.now in
    let index = c.loop-library.library-index in
    let library = c.library-item.result in
    library_entered c.loop-library.place c.in_ok-place.place index libraries library
    c.as_slice-in-loop-library.result.now (all_methods c.args.program.now)
    c.loop-library.table.items c.enter_all.new.table.items
    (first_left libraries index library c.loop-library-test.true c.library-item.is)
    c.in_ok-place.ensures c.as_slice-in-loop-library.ensures c.in_ok-enter_all.ensures
    c.loop-library.invariant
