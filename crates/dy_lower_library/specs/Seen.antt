-- Bodies of the program as the definitions have them.
use Rattle.std.specs.Prelude.{ℕ, Bool, true, false, List, [], ◌∷◌, map, flat_map}
use Rattle.dy_term.specs.declared.term.Lambda.{Lambda, out-Lambda}
use Rattle.dy_term.specs.declared.rows.MethodRow.{MethodRow}
use Rattle.dy_term.specs.declared.rows.VariableRow.{VariableRow}
use Rattle.dy_term.specs.declared.rows.SlotRow.{SlotRow}
use Rattle.dy_term.specs.declared.rows.TopTerm.{TopTerm}
use Rattle.dy_meaning.specs.Lambdas.{of_top}
use Rattle.dy_meaning.specs.Numbering.{numbered_by}
use Rattle.dy_code.specs.Fetching.{Push, CallValue, Return, CheckResults}
use Rattle.dy_lowered.specs.Flat.{Plain, Code, one}
use Rattle.dy_lowered.specs.Bodies as flat
use Rattle.dy_lower_parts.specs.Seen.{seen_code}
use Rattle.dy_lower_library.specs.declared.bodies.FlatBody.{FlatBody}

abbrev pub seen_body : FlatBody → flat.FlatBody
seen_body body = record {
  locals = body.locals;
  captures = body.captures;
  code = seen_code body.code;
}

abbrev pub seen_bodies : List FlatBody → List flat.FlatBody
seen_bodies bodies = map seen_body bodies

-- the end of the body of a lambda: its values are tested and returned
abbrev pub end_of : Lambda → Code
end_of lambda = Plain (CheckResults (out-Lambda lambda).results) ∷ one Return

-- the end of the body of a term that runs by itself: what it gives is returned, or is called first
abbrev pub last_of : Bool → Code
last_of false = one Return
last_of true = Plain Push ∷ Plain (CallValue 0) ∷ one Return

-- the bodies of rows, where that of the first closure inside of them has this number
abbrev pub methods_bodies : List MethodRow → ℕ → List flat.FlatBody
methods_bodies rows number =
    flat_map (λ method. flat.code_bodies method.0.code method.1)
    (numbered_by flat.inside_method rows number)

abbrev pub variables_bodies : List VariableRow → ℕ → List flat.FlatBody
variables_bodies rows number =
    flat_map (λ variable. flat.function_bodies variable.0.function variable.1)
    (numbered_by flat.inside_variable rows number)

abbrev pub slots_bodies : List SlotRow → ℕ → List flat.FlatBody
slots_bodies rows number =
    flat_map (λ slot. flat.init_bodies slot.0.init slot.1)
    (numbered_by flat.inside_slot rows number)

abbrev pub tops_bodies : List TopTerm → ℕ → List flat.FlatBody
tops_bodies rows number = map (λ top. flat.top_body top.0 top.1) (numbered_by of_top rows number)

-- how many is counted
abbrev pub one_if : Bool → ℕ
one_if true = 1
one_if false = 0
