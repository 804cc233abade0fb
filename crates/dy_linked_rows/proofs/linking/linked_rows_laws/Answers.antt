use Rattle.dy_linked_rows.proofs.Bare.{bare_rows_are_linked, counts_stay}
use Rattle.dy_linked_rows.proofs.Bodies.{bodies_are_linked}
use Rattle.dy_linked_rows.proofs.Lowered.{lowering_commutes, views_commute}
use Rattle.dy_linked_rows.proofs.linking.linked_rows_laws.Goals as goal

pub returns : goal.returns
returns c = record {
  bodies = bodies_are_linked;
  lowered = lowering_commutes;
  views = views_commute;
  bare = bare_rows_are_linked;
  counts = counts_stay;
}
