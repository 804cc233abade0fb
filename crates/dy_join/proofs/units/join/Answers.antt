use Rattle.std.proofs.Common.{List, ℕ, ap, map, ◌∙◌}
use Rattle.dy_values.specs.Stores.{place_in}
use Rattle.dy_code.specs.declared.unit.Unit.{Unit as CodeUnit}
use Rattle.dy_join.specs.Numbering.{joined, joined_row}
use Rattle.dy_join.proofs.Numbered.{longest}
use Rattle.dy_join.proofs.units.join.Goals as goal

pub returns : goal.returns
returns c =
    let place = λ (name : List ℕ). c.in_ok-names.ensures name
    ∙ ap (λ units. place_in (map (λ (unit : CodeUnit). unit.name) units) name) c.as_slice.ensures.value in
    let rows = c.in_ok-libraries.ensures.rows
    ∙ (λ i. map (joined_row (λ name. place name i)) c.args.units.items) in
    let code = c.in_ok-libraries.ensures.code
    ∙ (λ i. map (joined (λ name. place name i)) c.args.units.items) in
    let stretch = c.longest-stretch.ensures ∙ ap longest c.as_slice-2.ensures.value in
    λ i. record { program = record { libraries = rows i }; code = code i; stretch = stretch i }
