use Rattle.dy_linked_rows.proofs.Kept.{scope_stays, kinds_stay}
use Rattle.dy_linked_rows.proofs.scopes.linked_scopes_laws.Goals as goal

pub returns : goal.returns
returns c = record {
  scopes = scope_stays;
  kinds = kinds_stay;
}
