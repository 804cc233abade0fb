-- The bodies of a library: of its methods, functions and init expressions, of its forms that run,
-- and of its closures.
use Rattle.std.specs.Prelude.{ℕ, ◌+◌, ◌-◌, Bool, true, false, List, [], ◌∷◌, ◌++◌, length, map}
use Rattle.std.specs.Prelude.{flat_map}
use Rattle.std.specs.declared.option.Option.{Option}
use Rattle.std.specs.declared.option.Option.TheVariants.{None, Some}
use Rattle.dy_term.specs.declared.types.Params.{Params}
use Rattle.dy_term.specs.declared.term.Term.{Term}
use Rattle.dy_term.specs.declared.term.Lambda.{Lambda, out-Lambda}
use Rattle.dy_term.specs.declared.rows.Init.{Init}
use Rattle.dy_term.specs.declared.rows.Init.TheVariants.{Each, Calling}
use Rattle.dy_term.specs.declared.rows.ClassRow.{ClassRow}
use Rattle.dy_term.specs.declared.rows.SlotRow.{SlotRow}
use Rattle.dy_term.specs.declared.rows.MethodCode.{MethodCode}
use Rattle.dy_term.specs.declared.rows.MethodCode.TheVariants.{Dylan}
use Rattle.dy_term.specs.declared.rows.MethodRow.{MethodRow}
use Rattle.dy_term.specs.declared.rows.VariableRow.{VariableRow}
use Rattle.dy_term.specs.declared.rows.TopTerm.{TopTerm}
use Rattle.dy_term.specs.declared.rows.TopTerm.TheVariants as tops
use Rattle.dy_term.specs.declared.rows.LibraryRow.{LibraryRow}
use Rattle.dy_outcome.specs.declared.place.Place.{Place}
use Rattle.dy_code.specs.Fetching.{Push, Tick, CallValue, Return, CheckResults, Args}
use Rattle.dy_code.specs.Programs.{dylan_methods, dylan_functions}
use Rattle.dy_code.specs.declared.unit.TopCode.{TopCode}
use Rattle.dy_code.specs.declared.unit.TopCode.TheVariants as codes
use Rattle.dy_meaning.specs.Lambdas.{lambdas_in, lambdas_within, of_defaults, of_init, of_classes}
use Rattle.dy_meaning.specs.Lambdas.{of_top}
use Rattle.dy_meaning.specs.Layouts.{Layout, place_of, layout_of, layout_of_term, from}
use Rattle.dy_meaning.specs.Numbering.{numbered_by}
use Rattle.dy_meaning.specs.Numbers.{numbers_in}
use Rattle.dy_lowered.specs.Flat.{Plain, Code, one}
use Rattle.dy_lowered.specs.Parts.{cells}
use Rattle.dy_lowered.specs.Terms.{code_of}

pub record FlatBody : Type 0 where
  pub locals : ℕ
  pub captures : ℕ
  pub code : Code

abbrev pub rest_place : Bool → Place → List Place
rest_place true place = place ∷ []
rest_place false place = []

-- where the parameters of a lambda stand: the required ones, and then that of surplus arguments
abbrev pub parameters : Lambda → List Place
parameters lambda =
    let row = out-Lambda lambda in
    let layout = layout_of lambda in
    let required = length row.params.required in
    map (place_of layout) (from row.first required)
    ++ rest_place row.params.rest (place_of layout (row.first + required))

-- The entry of a body costs a unit. Then its arguments are tested and become locals, and those that
-- live in cells get theirs.
abbrev pub entry : Lambda → Code
entry lambda = Plain Tick ∷ Plain (Args (out-Lambda lambda).params) ∷ cells (parameters lambda)

-- The body of a lambda, where that of the first closure inside of it has this number: first come
-- those of the defaults of keywords.
abbrev pub lambda_body : Lambda → ℕ → FlatBody
lambda_body lambda number =
    let row = out-Lambda lambda in
    let layout = layout_of lambda in
    record {
      locals = row.locals - row.first;
      captures = length layout.captured;
      code = entry lambda
          ++ (code_of layout row.body (number + length (of_defaults row.keywords))
          ++ (Plain (CheckResults row.results) ∷ one Return));
    }

-- the body of a term that runs by itself
abbrev pub body_alone : Term → ℕ → Code → FlatBody
body_alone term number last = record {
  locals = numbers_in term;
  captures = 0;
  code = code_of (layout_of_term term) term number ++ last;
}

abbrev pub top_body : TopTerm → ℕ → FlatBody
top_body (tops.Init bindings term) number = body_alone term number (one Return)
top_body (tops.Run term) number = body_alone term number (one Return)

-- What an init function gives is called each time.
abbrev pub init_body : Init → ℕ → FlatBody
init_body (Each term) number = body_alone term number (one Return)
init_body (Calling term) number =
    body_alone term number (Plain Push ∷ Plain (CallValue 0) ∷ one Return)

-- the closures inside of a method and of a function, which are none themselves
abbrev pub inside_code : MethodCode → List Lambda
inside_code (Dylan lambda) = lambdas_within lambda
inside_code code = []

abbrev pub inside_method : MethodRow → List Lambda
inside_method row = inside_code row.code

abbrev pub inside_function : Option Lambda → List Lambda
inside_function None = []
inside_function (Some lambda) = lambdas_within lambda

abbrev pub inside_variable : VariableRow → List Lambda
inside_variable row = inside_function row.function

abbrev pub inside_slot : SlotRow → List Lambda
inside_slot row = of_init row.init

abbrev pub all_slots : LibraryRow → List SlotRow
all_slots library = flat_map (λ class. class.slots) library.classes

-- all closures of a library, in the order of the text
abbrev pub closures_of : LibraryRow → List Lambda
closures_of library = of_classes library ++ flat_map inside_method library.methods
    ++ flat_map inside_variable library.variables ++ flat_map of_top library.tops

abbrev pub code_bodies : MethodCode → ℕ → List FlatBody
code_bodies (Dylan lambda) number = lambda_body lambda number ∷ []
code_bodies code number = []

abbrev pub function_bodies : Option Lambda → ℕ → List FlatBody
function_bodies None number = []
function_bodies (Some lambda) number = lambda_body lambda number ∷ []

abbrev pub init_bodies : Option Init → ℕ → List FlatBody
init_bodies None number = []
init_bodies (Some init) number = init_body init number ∷ []

-- how many init expressions the slots have
abbrev pub init_count : List SlotRow → ℕ
init_count [] = 0
init_count (slot ∷ slots) = length (init_bodies slot.init 0) + init_count slots

-- how many bodies methods, functions and init expressions have
abbrev pub start_count : LibraryRow → ℕ
start_count library = dylan_methods library.methods + dylan_functions library.variables
    + init_count (all_slots library)

-- Behind these and those of the forms that run come the bodies of the closures.
abbrev pub first_closure : LibraryRow → ℕ
first_closure library = start_count library + length library.tops

-- A closure inside of another comes behind it.
abbrev pub closure_bodies : List Lambda → ℕ → List FlatBody
closure_bodies [] number = []
closure_bodies (lambda ∷ lambdas) number =
    lambda_body lambda (number + 1) ∷ closure_bodies lambdas (number + 1)

-- the bodies of methods, of functions, of init expressions, of forms that run, and of closures
abbrev pub bodies_of : LibraryRow → List FlatBody
bodies_of library =
    let first = first_closure library in
    let methods = first + length (of_classes library) in
    let variables = methods + length (flat_map inside_method library.methods) in
    let forms = variables + length (flat_map inside_variable library.variables) in
    flat_map (λ method. code_bodies method.0.code method.1)
    (numbered_by inside_method library.methods methods)
    ++ flat_map (λ variable. function_bodies variable.0.function variable.1)
    (numbered_by inside_variable library.variables variables)
    ++ flat_map (λ slot. init_bodies slot.0.init slot.1)
    (numbered_by inside_slot (all_slots library) first)
    ++ map (λ top. top_body top.0 top.1) (numbered_by of_top library.tops forms)
    ++ closure_bodies (closures_of library) first

-- the forms that run, by the numbers of their bodies
abbrev pub top_code : TopTerm → ℕ → TopCode
top_code (tops.Init bindings term) number = codes.Init bindings number
top_code (tops.Run term) number = codes.Run number

abbrev pub tops_from : List TopTerm → ℕ → List TopCode
tops_from [] number = []
tops_from (top ∷ tops) number = top_code top number ∷ tops_from tops (number + 1)
