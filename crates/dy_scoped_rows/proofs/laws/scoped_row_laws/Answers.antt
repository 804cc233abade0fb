use Rattle.dy_scoped_rows.proofs.Rows.{rows_in_scope}
use Rattle.dy_scoped_rows.proofs.laws.scoped_row_laws.Goals as goal

pub returns : goal.returns
returns c = record { rows = rows_in_scope }
