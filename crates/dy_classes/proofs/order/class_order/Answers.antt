use Rattle.std.proofs.Common.{◌≡◌, true≢false, sym, ◌∙◌, Vec}
use Rattle.std.specs.declared.alloc.Global.{Global}
use Rattle.std.proofs.lemmas.Option.{MatchOption-at_some, MatchOption-at_none}
use Rattle.dy_base.specs.declared.ids.ClassId.{ClassId}
use Rattle.dy_classes.specs.Orders.{IsCyclic}
use Rattle.dy_classes.specs.Rows.{supers_at, order_at}
use Rattle.dy_classes.specs.Merge.{IsMerged, IsStuck}
use Rattle.dy_classes.proofs.Whole.{merged_order, stuck_none}
use Rattle.dy_classes.proofs.Refusals.{order_refused}
use Rattle.dy_classes.proofs.order.class_order.Goals as goal

pub returns-in-Some : goal.returns-in-Some
returns-in-Some c = λ stored.
    let supers = supers_at c.args.program.now in
    let order = order_at c.args.program.now in
    let alone = λ (p : IsCyclic (supers_at c.args.program.now) c.args.class). true≢false (sym (c.in_ok-is_cyclic.ensures.1 p) ∙ c.if-branch.false) in (
      alone,
      merged_order supers order c.args.class alone (stored alone) c.in-Some.order.items
          (MatchOption-at_some (IsStuck supers order c.args.class) (λ (v : Vec ClassId Global). IsMerged supers order c.args.class v.items) c.in-Some.order c.in-Some.is c.in_ok-order.ensures),
    )

pub returns-in-None : goal.returns-in-None
returns-in-None c = λ stored.
    let supers = supers_at c.args.program.now in
    let order = order_at c.args.program.now in
    let alone = λ (p : IsCyclic (supers_at c.args.program.now) c.args.class). true≢false (sym (c.in_ok-is_cyclic.ensures.1 p) ∙ c.if-branch.false) in
    order_refused c.args.program.now c.args.class c.refused-in-None.result c.refused-in-None.ensures alone
    (stuck_none supers order c.args.class alone (stored alone)
    (MatchOption-at_none (IsStuck supers order c.args.class) (λ (v : Vec ClassId Global). IsMerged supers order c.args.class v.items) c.in-None.is c.in_ok-order.ensures))
