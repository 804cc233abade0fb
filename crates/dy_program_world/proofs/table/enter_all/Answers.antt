use Rattle.std.proofs.Common.{List, ◌++◌, subst}
use Rattle.std.proofs.lemmas.List.{drop_all}
use Rattle.dy_term.specs.declared.rows.MethodRow.{MethodRow}
use Rattle.dy_lowering_law.specs.Machines.{methods_from}
use Rattle.dy_program_world.specs.Tables.{Awaits}
use Rattle.dy_program_world.proofs.Entering.{first_left, next_entered}
use Rattle.dy_program_world.proofs.table.enter_all.Goals as goal

pub loop-method-preserved : goal.loop-method-preserved
loop-method-preserved c = λ all last start.
    let methods = c.args.methods.now in
    let index = c.loop-method.method-index in
    let method = c.method-item.result in
    next_entered c.args.library c.loop-method.row c.in_ok-row.row index methods method all last
    c.loop-method.table.items c.enter.new.table.items
    (first_left methods index method c.loop-method-test.true c.method-item.is)
    c.in_ok-row.ensures (c.loop-method.invariant all last start) c.in_ok-enter.ensures

pub returns : goal.returns
returns c = λ all last start.
    subst (λ (ms : List MethodRow). Awaits all
    (methods_from c.args.library c.loop-method.row ms ++ last) c.loop-method.table.items)
    (drop_all c.loop-method.method-index c.args.methods.now c.loop-method-test.false)
    (c.loop-method.invariant all last start)
