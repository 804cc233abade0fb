use Rattle.std.proofs.Common.{◌≡◌, map, drop}
use Rattle.dy_library_rows.specs.Libraries.{seen_form}
use Rattle.dy_library_names.specs.Passes.{told_types}
use Rattle.dy_library_names.proofs.early.tell_types.Given as goal

abbrev pub invariant-loop-place : goal.invariant-loop-place
invariant-loop-place l =
    told_types (map seen_form l.forms) l.fn.progress
    ≡ told_types (map seen_form (drop l.place-index l.forms)) l.progress
