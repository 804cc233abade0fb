use Rattle.std.proofs.Common.{List, length, ap, ◌∙◌}
use Rattle.std.proofs.lemmas.Iterator.{YieldsList-from_slice, YieldsList-from_zip}
use Rattle.std.proofs.lemmas.Iterator.Adapters.{YieldsList-from_vec}
use Rattle.std.proofs.lemmas.Iterator.Consumers.{YieldsList-at, YieldsList-end}
use Rattle.dy_assembly.specs.Generics.{Offer}
use Rattle.dy_assembly.specs.Gathered.{gathered}
use Rattle.dy_assembly.proofs.Zipping.{zip_lent_twice}
use Rattle.dy_assembly.proofs.Offering.{gathered_more}
use Rattle.dy_assembly.proofs.generics.offer_defined.Goals as goal

pub loop-name-preserved : goal.loop-name-preserved
loop-name-preserved g c =
    gathered_more c.args.library (g.E.Environment.outside c.args.environment.now).owner
    (λ p. (p.0.now.now, p.1))
    c.args.rows.now.entries c.loop-name.rows.entries c.offer.new.rows.entries
    c.loop-name.yielded (c.in-Some.name, c.in-Some.row)
    c.loop-name.invariant c.in_ok-offer.ensures

pub returns : goal.returns
returns g c =
    let source = c.zip-name-items.ensures in
    let road =
    YieldsList-at c.into_iter-name-iterator.ensures.into_iter_gives
    (YieldsList-from_zip
    (YieldsList-at source.first (YieldsList-from_slice c.args.names.now c.iter.ensures.rest))
    (YieldsList-from_vec c.args.defined
    (source.second.0 ∙ c.into_vec.ensures)
    (source.second.1 ∙ c.into_vec.result.ok.0 ∙ ap length c.into_vec.ensures))) in
    let pairs =
    (YieldsList-end road c.loop-name.yielded c.loop-name.name-iterator c.loop-name.yielded_by
    c.next.result c.next.new.self c.in-None.is c.next.ensures.steps).0 in
    c.loop-name.invariant
    ∙ ap (λ (offers : List Offer).
    gathered c.args.library (g.E.Environment.outside c.args.environment.now).owner
    c.args.rows.now.entries offers)
    (zip_lent_twice c.loop-name.yielded c.args.names.now c.args.defined pairs)
