use Rattle.std.proofs.Common.{◌≡◌, true, false, rules}
use Rattle.dy_modules.specs.Builds.{is_clear}
use Rattle.dy_modules.proofs.TwoOwners.{many_at}
use Rattle.dy_modules.proofs.Clear.{clear_at}
use Rattle.dy_modules.proofs.clash.has_many.Goals as goal

pub returns-clause-yes : goal.returns-clause-yes
returns-clause-yes c = λ yes.
    let many : is_clear c.args.table.now ≡ false = search rules in
    many_at c.args.table.now c.len.ensures.distinct many

pub returns-clause-never : goal.returns-clause-never
returns-clause-never c = λ not_many.
    let clear : is_clear c.args.table.now ≡ true = search rules in
    clear_at c.args.table.now clear
