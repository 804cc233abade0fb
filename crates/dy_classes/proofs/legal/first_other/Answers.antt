use Rattle.std.proofs.Common.{◌≡◌, false, sym}
use Rattle.dy_classes.specs.Legal.{primary_at}
use Rattle.dy_classes.proofs.Clashes.{none_primary}
use Rattle.dy_classes.proofs.legal.first_other.Goals as goal

pub returns-then-not-is_primary : goal.returns-then-not-is_primary
returns-then-not-is_primary c =
    let e : primary_at c.args.program.now c.args.class ≡ false = cc in
    sym (none_primary c.args.program.now c.args.class c.args.others.now e)
