use Rattle.std.proofs.Common.{sym, subst}
use Rattle.dy_modules.specs.Order.{all_rows}
use Rattle.dy_graph.specs.Faults.{LeastTwo, IsClashOf}
use Rattle.dy_graph.proofs.Lent.{front_some, front_none}
use Rattle.dy_graph.proofs.TwoNames.{clash_past, clash_with}
use Rattle.dy_graph.proofs.clash.clash_at.Goals as goal

pub returns-in_ok-name-in-Some : goal.returns-in_ok-name-in-Some
returns-in_ok-name-in-Some c =
    let ms = c.args.made.modules.now in
    let done = c.args.made.tables.now in
    let us = c.args.uses.now in
    let i = c.args.number in
    let front = front_some us i c.get.result c.in-Some.front c.get.ensures.lookup c.in-Some.is in
    let least = subst (λ l. LeastTwo (all_rows done) l c.in_ok-name-in-Some.name) front.1 c.in_ok-name-in-Some.ensures in
    subst (IsClashOf ms us) (sym c.with_number.ensures) (clash_with ms done c.requires.made us c.requires.ready i c.requires.clashes front.0 c.in_ok-name-in-Some.name least)

pub returns-in-None : goal.returns-in-None
returns-in-None c =
    let ms = c.args.made.modules.now in
    let done = c.args.made.tables.now in
    let us = c.args.uses.now in
    let i = c.args.number in
    absurd (clash_past ms done c.requires.made us c.requires.ready i c.requires.clashes (front_none us i c.get.result c.get.ensures.lookup c.in-None.is))
