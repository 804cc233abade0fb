use Rattle.std.proofs.Common.{◌++◌, ap, ◌∙◌}
use Rattle.dy_outcome.specs.declared.place.Place.{Place}
use Rattle.dy_layouts.specs.Views.{seen_layout}
use Rattle.dy_lowered.specs.Flat.{Code}
use Rattle.dy_lowered.specs.Parts.{put, cell}
use Rattle.dy_lowered.specs.Turns.{operand}
use Rattle.dy_lower_parts.specs.Seen.{seen_code}
use Rattle.dy_lower_turns.proofs.clauses.put_binding.Goals as goal

pub returns : goal.returns
returns c = λ n.
    c.in_ok-put_operand.ensures
    ∙ ap (λ (k : Code). operand c.args.place ++ k)
    (c.in_ok-put_local.ensures ∙ ap (λ (k : Code). put c.in_ok-variable.variable ++ k) c.in_ok-put_cell.ensures
    ∙ ap (λ (p : Place). put p ++ (cell p ++ seen_code c.args.code.now)) (c.in_ok-variable.ensures ∙ c.variable_of.ensures (seen_layout c.args.layout.now) n))
