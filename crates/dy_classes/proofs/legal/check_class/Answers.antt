use Rattle.std.proofs.Common.{◌≡◌, Some, None, sym, ap, ◌∙◌}
use Rattle.dy_classes.specs.Rows.{order_at}
use Rattle.dy_classes.specs.Search.{clashes, first_pair}
use Rattle.dy_classes.proofs.Clashes.{first_clash}
use Rattle.dy_classes.proofs.Refusals.{two_refused, legal_by}
use Rattle.dy_classes.proofs.legal.check_class.Goals as goal

pub returns-in-Some : goal.returns-in-Some
returns-in-Some c = λ stored.
    let program = c.args.program.now in
    let class = c.args.class in
    let a : first_pair (clashes program) (order_at program class) ≡ c.first_clash.result = sym (c.first_clash.ensures ∙ ap (first_pair (clashes program)) c.order_of.ensures) in
    let e : first_pair (clashes program) (order_at program class) ≡ Some (c.in-Some.first, c.in-Some.second) = cc in
    two_refused program class c.in-Some.first c.in-Some.second c.refused.result c.refused.ensures (first_clash program class stored c.in-Some.first c.in-Some.second e)

pub returns-in-None : goal.returns-in-None
returns-in-None c = λ stored.
    let program = c.args.program.now in
    let class = c.args.class in
    let a : first_pair (clashes program) (order_at program class) ≡ c.first_clash.result = sym (c.first_clash.ensures ∙ ap (first_pair (clashes program)) c.order_of.ensures) in
    legal_by program class c.check_slots.result stored (a ∙ c.in-None.is) c.check_slots.ensures
