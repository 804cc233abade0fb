use Rattle.std.proofs.Common.{ap, ◌∙◌}
use Rattle.std.specs.Prelude.{codes}
use Rattle.dy_term.specs.declared.rows.LibraryRow.{LibraryRow}
use Rattle.dy_built_in_exports.specs.Names.{exports_of}
use Rattle.dy_built_in_exports.proofs.exports.dylan_exports.Goals as goal

pub returns : goal.returns
returns c =
    c.in_ok-exports.ensures
    ∙ ap (λ (row : LibraryRow). exports_of 0 (codes "dylan") (codes "dylan") row) c.in_ok-row.ensures
