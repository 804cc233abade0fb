use Rattle.std.proofs.Common.{◌≡◌, ◌++◌, map, drop}
use Rattle.dy_library_rows.specs.Libraries.{rows_of, first_fault, first_limit, or_fault, seen_form}
use Rattle.dy_library_rows.proofs.library.resolve_library.Given as goal

abbrev pub invariant-loop-place : goal.invariant-loop-place
invariant-loop-place g l = record {
  rows : rows_of (g.E.Environment.outside l.environment) (map seen_form l.forms)
      ≡ l.rows ++ rows_of (g.E.Environment.outside l.environment)
      (map seen_form (drop l.place-index l.forms));
  fault : first_fault (g.E.Environment.outside l.environment) (map seen_form l.forms)
      ≡ first_fault (g.E.Environment.outside l.environment)
      (map seen_form (drop l.place-index l.forms));
  limit : first_limit (g.E.Environment.outside l.environment) (map seen_form l.forms)
      ≡ or_fault l.limit (first_limit (g.E.Environment.outside l.environment)
      (map seen_form (drop l.place-index l.forms)));
}
