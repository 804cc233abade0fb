use Rattle.std.proofs.Common.{ap, true, false, ◌∙◌}
use Rattle.std.specs.FinMap.{get}
use Rattle.dy_join.proofs.Numbered.{was_found, held_still, held_more}
use Rattle.dy_join.proofs.places.note.Goals as goal

pub returns-then-is_there : goal.returns-then-is_there
returns-then-is_there c =
    let there = was_found c.get.result _ c.is_some-is_there.result true c.get.ensures
    c.is_some-is_there.ensures c.if-is_there.true in
    λ names held last. held_still c.args.places.now names c.args.name.now held there

pub returns : goal.returns
returns c =
    let absent = was_found c.get.result _ c.is_some-is_there.result false c.get.ensures
    c.is_some-is_there.ensures c.if-is_there.false in
    λ names held last other.
    ap (λ table. get table other) c.in_ok-set.ensures.set
    ∙ held_more c.args.places.now names c.args.name.now held c.args.place absent last other
