use Rattle.std.proofs.Common.{◌∙◌}
use Rattle.dy_lowered.specs.Linking.{linked_code}
use Rattle.dy_lowered.specs.Units.{bare_row}
use Rattle.dy_linked_rows.specs.Rows.{linked_library}
use Rattle.dy_join.proofs.units.link_unit.Goals as goal

pub returns-clause-rows : goal.returns-clause-rows
returns-clause-rows c =
    c.in_ok-row.ensures
    ∙ (λ i. linked_library (λ library. c.in_ok-places.ensures library i) (bare_row c.args.unit.row))

pub returns-clause-code : goal.returns-clause-code
returns-clause-code c =
    c.in_ok-code.ensures
    ∙ (λ i. linked_code (λ library. c.in_ok-places.ensures library i) c.args.unit.code)
