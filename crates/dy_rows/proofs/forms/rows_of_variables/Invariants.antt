use Rattle.std.proofs.Common.{◌≡◌, ◌++◌, map, drop}
use Rattle.dy_term.specs.Types.{seen_typed}
use Rattle.dy_rows.specs.Rows.{read_variables}
use Rattle.dy_rows.proofs.forms.rows_of_variables.Given as goal

abbrev pub invariant-loop-name : goal.invariant-loop-name
invariant-loop-name g l =
    read_variables (g.E.Environment.outside l.environment) l.fn.is_constant
    (map seen_typed l.name-items) l.fn.scope l.fn.progress
    ≡ (let rest = read_variables (g.E.Environment.outside l.environment) l.fn.is_constant
    (map seen_typed (drop l.name-index l.name-items)) l.fn.scope l.progress in
    ((l.rows ++ rest.0.0, l.bindings ++ rest.0.1), rest.1))
