use Rattle.std.proofs.Common.{◌≡◌, Some, rules}
use Rattle.std.proofs.lemmas.Result.{on_ok_weaker}
use Rattle.dy_modules.specs.Cells.{plus, at}
use Rattle.dy_modules.proofs.Put.{added}
use Rattle.dy_modules.proofs.table.add.Goals as goal

pub returns : goal.returns
returns c =
    let value : Some c.plus-cell.result ≡ plus (at c.args.table.now c.args.name.now) c.args.cell = search rules in
    on_ok_weaker c.set.result (λ is. added c.args.table.now c.set.new.self c.args.name.now c.plus-cell.result c.args.cell is value) c.set.ensures.table
