-- The programs that are lowered yet: those of which each body is made of expressions.
use Rattle.std.specs.Prelude.{ℕ, ◌+◌, Bool, true, false, not, ◌&&◌, ◌≡◌, nat_eq, nat_le, length}
use Rattle.std.specs.Prelude.{List, [], ◌∷◌, is_some}
use Rattle.std.specs.List.{list_all}
use Rattle.std.specs.declared.option.Option.{Option}
use Rattle.std.specs.declared.option.Option.TheVariants.{None, Some}
use Rattle.dy_term.specs.declared.types.Params.{Params}
use Rattle.dy_term.specs.declared.term.Lambda.{Lambda, out-Lambda}
use Rattle.dy_term.specs.declared.rows.GenericRow.{GenericRow}
use Rattle.dy_term.specs.declared.rows.MethodCode.{MethodCode}
use Rattle.dy_term.specs.declared.rows.MethodCode.TheVariants.{Dylan}
use Rattle.dy_term.specs.declared.rows.MethodRow.{MethodRow}
use Rattle.dy_term.specs.declared.rows.VariableRow.{VariableRow}
use Rattle.dy_term.specs.declared.rows.TopTerm.{TopTerm}
use Rattle.dy_term.specs.declared.rows.TopTerm.TheVariants.{Init, Run}
use Rattle.dy_term.specs.declared.rows.LibraryRow.{LibraryRow}
use Rattle.dy_term.specs.declared.rows.Program.{Program}
use Rattle.dy_code.specs.Fetching.{rest_locals}
use Rattle.dy_meaning.specs.Numbers.{numbers_in}
use Rattle.dy_lowered.specs.Readiness.{is_ready}

-- Keywords come later.
abbrev pub has_no_keywords : Params → Bool
has_no_keywords params = not (is_some params.keys) && not params.all_keys

abbrev pub generic_ready : GenericRow → Bool
generic_ready row = has_no_keywords row.params

abbrev pub is_empty : {A : Type 0} → List A → Bool
is_empty [] = true
is_empty (item ∷ items) = false

-- a lambda of a row, whose locals have room for its parameters
abbrev pub lambda_ready : Lambda → Bool
lambda_ready lambda =
    let row = out-Lambda lambda in
    has_no_keywords row.params && (is_empty row.keywords && (nat_eq row.first 0
    && (nat_le (length row.params.required + rest_locals row.params.rest) row.locals
    && is_ready 0 row.locals row.body)))

abbrev pub code_ready : MethodCode → Bool
code_ready (Dylan lambda) = lambda_ready lambda
code_ready code = true

abbrev pub function_ready : Option Lambda → Bool
function_ready None = true
function_ready (Some lambda) = lambda_ready lambda

abbrev pub top_ready : TopTerm → Bool
top_ready (Init bindings term) = is_ready 0 (numbers_in term) term
top_ready (Run term) = is_ready 0 (numbers_in term) term

abbrev pub library_ready : LibraryRow → Bool
library_ready library =
    is_empty library.classes && (list_all generic_ready library.generics
    && (list_all (λ method. code_ready method.code) library.methods
    && (list_all (λ variable. function_ready variable.function) library.variables
    && list_all top_ready library.tops)))

abbrev pub IsReady : Program → Type 0
IsReady program = list_all library_ready program.libraries ≡ true
