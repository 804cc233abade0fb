use Rattle.std.proofs.Common.{◌≡◌, map, drop, []}
use Rattle.dy_library_rows.specs.Libraries.{seen_form}
use Rattle.dy_module_names.specs.Passes.{with_forms}
use Rattle.dy_module_names.specs.Given.{modules_in}
use Rattle.dy_module_names.proofs.reading.definitions.Given as goal

abbrev pub invariant-loop-place : goal.invariant-loop-place
invariant-loop-place l =
    with_forms (modules_in l.modules) (map seen_form l.forms) []
    ≡ with_forms (modules_in l.modules) (map seen_form (drop l.place-index l.forms)) l.list
