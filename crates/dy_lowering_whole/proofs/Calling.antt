-- No call leaves a block, by induction on the number that bounds the entries of bodies.
use Rattle.std.proofs.Common.{ℕ, zero, suc, ◌+◌, Bool, true, false, List, [], ◌∷◌, length, Option, Some, None}
use Rattle.std.specs.Prelude.{nat_eq, slice_get}
use Rattle.dy_base.specs.declared.ids.GenericId.{GenericId}
use Rattle.dy_term.specs.declared.term.Term.{Term}
use Rattle.dy_term.specs.declared.term.Lambda.{Lambda, out-Lambda}
use Rattle.dy_term.specs.declared.rows.GenericRow.{GenericRow}
use Rattle.dy_term.specs.declared.rows.MethodCode.{MethodCode}
use Rattle.dy_term.specs.declared.rows.MethodCode.TheVariants.{Dylan, Getter, Setter, Builtin}
use Rattle.dy_term.specs.declared.rows.MethodRow.{MethodRow}
use Rattle.dy_term.specs.declared.rows.VariableRow.{VariableRow}
use Rattle.dy_term.specs.declared.rows.Program.{Program}
use Rattle.dy_values.specs.declared.value.Variant.{Variant}
use Rattle.dy_values.specs.declared.value.Variant.TheVariants as values
use Rattle.dy_values.specs.declared.object.ObjectRow.{ObjectRow}
use Rattle.dy_values.specs.declared.object.ObjectRow.TheVariants as objects
use Rattle.dy_values.specs.declared.store.Store.{Store}
use Rattle.dy_values.specs.declared.error.ErrorRow.{ErrorRow}
use Rattle.dy_values.specs.Errors.{wrong_number}
use Rattle.dy_printing.specs.Formatting as formatting
use Rattle.dy_printing.specs.Formatting.{formatted}
use Rattle.dy_prims.specs.Operations.{Answered, Answers, Fails as Refuses, NoUnit, applied}
use Rattle.dy_outcome.specs.declared.state.State.{State}
use Rattle.dy_outcome.specs.Choices.{chosen}
use Rattle.dy_outcome.specs.Parts.{bound}
use Rattle.dy_outcome.specs.Calls.{Calls, Fun, is_taken, new_frame, running, entering, Callee, Enters, Operates, Fails, Enter, signalled, answered, calls_by, entered, calls_within}
use Rattle.dy_meaning.specs.Layouts.{Layout, layout_of}
use Rattle.dy_meaning.specs.Lambdas.{of_defaults}
use Rattle.dy_meaning.specs.Operations.{failed, answer, written, format_out, operated_if, operated, output}
use Rattle.dy_meaning.specs.Programs.{lambda_of, numbered_variable, fun_of, applicable, method_callee, reached, is_count, callee_if, generic_at, row_callee, generic_callee, operation_callee, function_or, function_callee, closure_callee, object_callee, value_callee, world, meaning_within}
use Rattle.dy_lowering_whole.specs.Unexited.{IsNoExit, NeverExits}
use Rattle.dy_lowering_whole.proofs.Meaning.{CallsStay, meaning_stays}
use Rattle.dy_lowering_whole.proofs.Staying.{then_stays, unit_stays, chosen_stays, back_stays, bound_stays}

-- the body of a function leaves no block, where no call does
abbrev FunStays : Fun → Type 0
FunStays fun = (calls : Calls) → CallsStay calls → NeverExits (fun.body calls)

abbrev CalleeStays : Callee → Type 0
CalleeStays (Enters fun captured) = FunStays fun
CalleeStays (Operates number) = Unit {0}
CalleeStays (Fails error) = Unit {0}

module _ (program : Program) where
  written_stays : (o : formatting.Outcome) (s : State) → IsNoExit (written program o s)
  written_stays (formatting.Written text units) s = tt
  written_stays (formatting.Failed error units) s = tt
  written_stays formatting.NoUnit s = tt

  output_stays : (vs : List Variant) (s : State) → IsNoExit (format_out program vs s)
  output_stays [] s = unit_stays s.fuel.left s (failed program wrong_number) (λ t. tt)
  output_stays (text ∷ arguments) s = written_stays (formatted program s.store text arguments s.fuel.left) s

  answer_stays : (answered : Answered) (s : State) → IsNoExit (answer program answered s)
  answer_stays (Answers vs units) s = tt
  answer_stays (Refuses error units) s = tt
  answer_stays NoUnit s = tt

  operated_stays : (is_output : Bool) (number : ℕ) (vs : List Variant) (s : State) → IsNoExit (operated_if is_output program number vs s)
  operated_stays true number vs s = output_stays vs s
  operated_stays false number vs s = answer_stays (applied number vs s.fuel.left) s

  operation_stays : (number : ℕ) (vs : List Variant) → NeverExits (operated program number vs)
  operation_stays number vs scope s = operated_stays (nat_eq number output) number vs s

  fun_stays : (lambda : Lambda) (number : ℕ) → FunStays (fun_of program lambda number)
  fun_stays lambda number calls stay =
      meaning_stays program calls (layout_of lambda) stay (out-Lambda lambda).body (number + 1 + length (of_defaults (out-Lambda lambda).keywords))

  method_stays : (code : MethodCode) (number : ℕ) → CalleeStays (method_callee program code number)
  method_stays (Dylan lambda) number = fun_stays lambda number
  method_stays (Builtin operation) number = tt
  method_stays (Getter class slot) number = tt
  method_stays (Setter class slot) number = tt

  reached_stays : (name : List ℕ) (rows : List (MethodRow × ℕ)) → CalleeStays (reached program name rows)
  reached_stays name [] = tt
  reached_stays name (row ∷ []) = method_stays row.0.code row.1
  reached_stays name (row ∷ other ∷ others) = tt

  if_stays : (first : Bool) (callee other : Callee) → CalleeStays callee → CalleeStays other → CalleeStays (callee_if first callee other)
  if_stays true callee other one two = one
  if_stays false callee other one two = two

  row_stays : (store : Store) (generic : GenericId) (vs : List Variant) (row : Option GenericRow) → CalleeStays (row_callee program store generic vs row)
  row_stays store generic vs None = tt
  row_stays store generic vs (Some row) =
      if_stays (is_count row.params (length vs)) (reached program row.name (applicable program store generic vs)) (Fails wrong_number) (reached_stays row.name (applicable program store generic vs)) tt

  number_stays : (number : Option ℕ) → CalleeStays (operation_callee number)
  number_stays None = tt
  number_stays (Some number) = tt

  held_stays : (held : Option Lambda) (builtin : Option ℕ) (number : ℕ) → CalleeStays (function_or program held builtin number)
  held_stays None builtin number = number_stays builtin
  held_stays (Some lambda) builtin number = fun_stays lambda number

  function_stays : (variable : Option (VariableRow × ℕ)) → CalleeStays (function_callee program variable)
  function_stays None = tt
  function_stays (Some variable) = held_stays variable.0.function variable.0.builtin variable.1

  closure_stays : (number : ℕ) (held : Option Lambda) (captured : List Variant) → CalleeStays (closure_callee program number held captured)
  closure_stays number None captured = tt
  closure_stays number (Some lambda) captured = fun_stays lambda number

  object_stays : (row : Option ObjectRow) → CalleeStays (object_callee program row)
  object_stays (Some (objects.Closure number captured)) = closure_stays number (lambda_of program number) captured
  object_stays _ = tt

  value_stays : (store : Store) (function : Variant) (vs : List Variant) → CalleeStays (value_callee program store function vs)
  value_stays store (values.Generic generic) vs = row_stays store generic vs (generic_at program generic)
  value_stays store (values.Function binding) vs = function_stays (numbered_variable program binding.at)
  value_stays store (values.Builtin number) vs = tt
  value_stays store (values.Object place) vs = object_stays (slice_get store.objects place)
  value_stays store _ vs = tt

  signalled_stays : (error : ErrorRow) → NeverExits (signalled (world program) error)
  signalled_stays error scope s = unit_stays s.fuel.left s _ (λ t. tt)

  -- entries of bodies that leave no block
  abbrev EntersStay : Enter → Type 0
  EntersStay enter = (fun : Fun) → FunStays fun → (captured vs : List Variant) → NeverExits (enter fun captured vs)

  answered_stays : (enter : Enter) → EntersStay enter → (callee : Callee) → CalleeStays callee → (vs : List Variant) → NeverExits (answered (world program) enter callee vs)
  answered_stays enter stay (Enters fun captured) h vs = stay fun h captured vs
  answered_stays enter stay (Operates number) h vs = operation_stays number vs
  answered_stays enter stay (Fails error) h vs = signalled_stays error

  calls_stay : (enter : Enter) → EntersStay enter → CallsStay (calls_by (world program) enter)
  calls_stay enter stay = record {
    value = λ function vs scope s. answered_stays enter stay (value_callee program s.store function vs) (value_stays s.store function vs) vs scope s;
    generic = λ generic vs scope s. answered_stays enter stay (generic_callee program s.store generic vs) (row_stays s.store generic vs (generic_at program generic)) vs scope s;
    operation = operation_stays;
    signal = signalled_stays;
  }

  entering_stays : (fun : Fun) → FunStays fun → (captured vs : List Variant) (calls : Calls) → CallsStay calls → NeverExits (entering fun captured vs calls)
  entering_stays fun h captured vs calls stay scope s =
      unit_stays s.fuel.left s _ (λ t. back_stays t.frame (chosen (is_taken fun.rest (length fun.parameters) (length vs)) (running fun captured vs calls scope) (calls.signal wrong_number scope) t)
      (chosen_stays (is_taken fun.rest (length fun.parameters) (length vs)) (running fun captured vs calls scope) (calls.signal wrong_number scope) t
      (then_stays (bound fun.parameters fun.rest vs (new_frame fun.locals captured t)) _ (bound_stays fun.parameters fun.rest vs (new_frame fun.locals captured t)) (λ ws u. then_stays (fun.body calls scope u) _ (h calls stay scope u) (λ xs v. tt)))
      (stay.signal wrong_number scope t)))

  entered_stays : (n : ℕ) → EntersStay (entered (world program) n)
  entered_stays zero fun h captured vs scope s = tt
  entered_stays (suc n) fun h captured vs scope s =
      entering_stays fun h captured vs (calls_within (world program) n) (calls_stay (entered (world program) n) (entered_stays n)) scope s

pub no_term_exits : (program : Program) (n : ℕ) (layout : Layout) (term : Term) (number : ℕ) → NeverExits (meaning_within program n layout term number)
no_term_exits program n layout term number =
    meaning_stays program (calls_within (world program) n) layout (calls_stay program (entered (world program) n) (entered_stays program n)) term number
