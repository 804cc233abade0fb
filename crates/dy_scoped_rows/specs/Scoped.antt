-- That what the front end reads is in scope.
use Rattle.std.specs.Prelude.{◌≡◌, Bool, true, false, List, Result, Ok}
use Rattle.std.specs.List.{list_all}
use Rattle.dy_term.specs.declared.rows.Row.{Row}
use Rattle.dy_term.specs.declared.rows.Row.TheVariants as rows
use Rattle.dy_names.specs.Outside.{Outside}
use Rattle.dy_library_rows.specs.Libraries.{Form, IsLibrary}
use Rattle.dy_lowering_law.specs.Ready.{generic_ready}
use Rattle.dy_lowering_whole.specs.valid.Scoped.{is_init_scoped, is_code_scoped, is_function_scoped}
use Rattle.dy_lowering_whole.specs.valid.Scoped.{is_top_scoped}
use Rattle.dy_lowering_whole.specs.Lowered.{is_code_lowered, is_function_lowered, is_top_lowered}

-- a row whose terms are in scope
abbrev pub is_row_scoped : Row → Bool
is_row_scoped (rows.Class row) = list_all (λ slot. is_init_scoped slot.init) row.slots
is_row_scoped (rows.Method row) = is_code_scoped row.code
is_row_scoped (rows.Variable row) = is_function_scoped row.function
is_row_scoped (rows.Top top) = is_top_scoped top
is_row_scoped row = true

-- a row that is lowered yet
abbrev pub is_row_lowered : Row → Bool
is_row_lowered (rows.Class row) = false
is_row_lowered (rows.Generic row) = generic_ready row
is_row_lowered (rows.Method row) = is_code_lowered row.code
is_row_lowered (rows.Variable row) = is_function_lowered row.function
is_row_lowered (rows.Top top) = is_top_lowered top
is_row_lowered (rows.Domain row) = true

-- Of forms in which nothing is wrong, the rows are in scope, as far as they are lowered yet.
abbrev pub RowsInScope : Outside → Type 0
RowsInScope out = (forms : List Form) (read : List Row) → IsLibrary out forms (Ok read)
    → list_all is_row_lowered read ≡ true → list_all is_row_scoped read ≡ true
