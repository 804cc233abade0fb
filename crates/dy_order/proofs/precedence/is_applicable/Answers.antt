use Rattle.std.proofs.Common.{rules, sym}
use Rattle.dy_order.proofs.Decided.{applicable_by}
use Rattle.dy_order.proofs.precedence.is_applicable.Goals as goal

pub returns-then-eq : goal.returns-then-eq
returns-then-eq c =
    applicable_by c.args.program.now c.args.args.now c.args.generic c.args.method c.in-Some.row.now c.as_slice.result.now c.are_instances.result c.as_slice.ensures (sym c.in-Some.ensures) (search rules) c.are_instances.ensures
