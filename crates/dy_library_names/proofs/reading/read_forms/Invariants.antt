use Rattle.std.proofs.Common.{◌≡◌, map, drop}
use Rattle.dy_library_rows.specs.Libraries.{seen_form}
use Rattle.dy_library_names.specs.Passes.{nothing_read, with_forms}
use Rattle.dy_library_names.proofs.reading.read_forms.Given as goal

abbrev pub invariant-loop-place : goal.invariant-loop-place
invariant-loop-place g l =
    with_forms (g.E.Environment.outside l.environment) (map seen_form l.forms) nothing_read
    ≡ with_forms (g.E.Environment.outside l.environment)
    (map seen_form (drop l.place-index l.forms)) l.read
