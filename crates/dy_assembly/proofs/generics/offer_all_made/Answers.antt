use Rattle.dy_term.specs.Rows.{seen_draft}
use Rattle.dy_assembly.specs.Generics.{made_by}
use Rattle.dy_assembly.proofs.Offering.{gathered_next}
use Rattle.dy_assembly.proofs.generics.offer_all_made.Goals as goal

pub loop-place-preserved : goal.loop-place-preserved
loop-place-preserved g c =
    gathered_next c.args.library (g.E.Environment.outside c.args.environment.now).owner
    (λ f. seen_draft f.1) made_by
    c.args.forms.now c.loop-place._place-index c.loop-place-item.result
    _ c.loop-place.rows.entries c.offer_made.new.rows.entries
    c.loop-place-test.true
    c.loop-place-item.is
    c.loop-place.invariant
    c.in_ok-offer_made.ensures
