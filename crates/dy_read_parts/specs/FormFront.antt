-- How forms begin, as the definitions see it.
use Rattle.dy_tree.specs.Fragments.{pack, seen_fragments}
use Rattle.dy_rules.specs.FormReading as spec
use Rattle.dy_read_parts.specs.declared.form_front.FormFront.{FormFront}
use Rattle.dy_read_parts.specs.declared.form_front.FormFront.TheVariants as fronts

abbrev pub seen_form_front : FormFront → spec.FormFront
seen_form_front fronts.Expression = spec.expression_front
seen_form_front (fronts.Group define inner) =
    spec.group_front define.now (pack (seen_fragments inner.now))
seen_form_front (fronts.Flat define rest) = spec.flat_front define.now (seen_fragments rest.now)
