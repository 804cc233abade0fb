use Rattle.std.proofs.Common.{refl, subst}
use Rattle.std.proofs.lemmas.Result.{on_ok_weaker}
use Rattle.dy_graph.specs.Faults.{use_places, IsClashOf}
use Rattle.dy_graph.proofs.TwoNames.{adds_no_clash, adds_clash, clash_loud, clash_here}
use Rattle.dy_graph.proofs.clash.tell_clash_of.Goals as goal

pub returns-in-Some-clause-adds : goal.returns-in-Some-clause-adds
returns-in-Some-clause-adds c =
    let ms = c.args.made.modules.now in
    let us = c.args.uses.now in
    let places = use_places c.args.clauses.now in
    let old = c.args.found.now in
    let new = c.tell_at_use.new.found in
    let clash = clash_here ms us places old new c.in_ok-clash.clash c.in-Some.number c.in-Some.name c.in_ok-clash.ensures c.in-Some.is in
    on_ok_weaker c.tell_at_use.result (adds_clash ms us places old new c.requires.places c.in-Some.number c.in-Some.name clash) c.tell_at_use.ensures

pub returns-in-Some-clause-quiet : goal.returns-in-Some-clause-quiet
returns-in-Some-clause-quiet c =
    let ms = c.args.made.modules.now in
    let us = c.args.uses.now in
    let places = use_places c.args.clauses.now in
    let old = c.args.found.now in
    let new = c.tell_at_use.new.found in
    let clash = clash_here ms us places old new c.in_ok-clash.clash c.in-Some.number c.in-Some.name c.in_ok-clash.ensures c.in-Some.is in
    on_ok_weaker c.tell_at_use.result (λ is nothing. absurd (clash_loud ms us places old new c.requires.places c.in-Some.number c.in-Some.name clash is nothing)) c.tell_at_use.ensures

pub returns-in-None-clause-adds : goal.returns-in-None-clause-adds
returns-in-None-clause-adds c =
    let old = c.args.found.now in
    adds_no_clash c.args.made.modules.now c.args.uses.now (use_places c.args.clauses.now) old old c.in_ok-clash.clash c.in_ok-clash.ensures c.in-None.is refl

pub returns-in-None-clause-quiet : goal.returns-in-None-clause-quiet
returns-in-None-clause-quiet c = λ nothing. subst (IsClashOf c.args.made.modules.now c.args.uses.now) c.in-None.is c.in_ok-clash.ensures
