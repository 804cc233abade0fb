-- What a call comes to in the machine is what it comes to in the meaning.
use Rattle.std.proofs.Common.{◌≡◌, ℕ, zero, suc, ◌+◌, ◌<◌, ◌≤◌, Bool, true, false, not, ◌&&◌, ◌||◌, List, [], ◌∷◌, map, drop, length, slice_get, is_some, Option, Some, None, refl, sym, ap, ◌∙◌, subst, arith, if◌then◌else◌, true≢false, flat_map}
use Rattle.std.specs.Prelude.{nat_eq, nat_le}
use Rattle.std.specs.Option.{option_map, option_map_or}
use Rattle.std.proofs.lemmas.Option.{none-some, slice_get-map}
use Rattle.dy_base.specs.declared.ids.BindingId.{BindingId}
use Rattle.dy_base.specs.declared.ids.GenericId.{GenericId}
use Rattle.dy_base.specs.declared.ids.MethodId.{MethodId}
use Rattle.dy_term.specs.declared.term.Lambda.{Lambda}
use Rattle.dy_term.specs.declared.types.Params.{Params}
use Rattle.dy_term.specs.declared.rows.GenericRow.{GenericRow}
use Rattle.dy_term.specs.declared.rows.MethodCode.{MethodCode}
use Rattle.dy_term.specs.declared.rows.MethodCode.TheVariants.{Dylan, Getter, Setter, Builtin as ByOperation}
use Rattle.dy_term.specs.declared.rows.MethodRow.{MethodRow}
use Rattle.dy_term.specs.declared.rows.VariableRow.{VariableRow}
use Rattle.dy_term.specs.declared.rows.LibraryRow.{LibraryRow}
use Rattle.dy_term.specs.declared.rows.Program.{Program}
use Rattle.dy_values.specs.declared.value.Variant.{Variant}
use Rattle.dy_values.specs.declared.value.Variant.TheVariants.{Int, Char, Bool as Truth, Symbol, Nil, Class, TypeValue, Generic, Function, Builtin, Object}
use Rattle.dy_values.specs.declared.object.ObjectRow.{ObjectRow}
use Rattle.dy_values.specs.declared.object.ObjectRow.TheVariants as object
use Rattle.dy_values.specs.declared.error.ErrorRow.{ErrorRow}
use Rattle.dy_values.specs.declared.store.Store.{Store}
use Rattle.dy_values.specs.Errors.{wrong_number, not_a_function, no_method, ambiguous_call}
use Rattle.dy_outcome.specs.declared.state.State.{State}
use Rattle.dy_outcome.specs.States.{Scope}
use Rattle.dy_outcome.specs.Calls as callees
use Rattle.dy_outcome.specs.Calls.{Callee, entered, answered}
use Rattle.dy_code.specs.Programs.{if_there, generic_row}
use Rattle.dy_code.specs.Validity.{Every}
use Rattle.dy_meaning.specs.Globals.{is_same_ref}
use Rattle.dy_meaning.specs.Lambdas.{lambdas_of}
use Rattle.dy_meaning.specs.Programs as meaning
use Rattle.dy_meaning.specs.Programs.{lambda_of, fun_of, world, method_callee, reached, callee_if, generic_in, generic_at, row_callee, generic_callee, function_or, numbered_variable, function_callee, closure_callee, object_callee, value_callee}
use Rattle.dy_steps.specs.Configurations.{Following, Config, Step}
use Rattle.dy_steps.specs.Effects.{signal, performed, gives, unit_from, raised}
use Rattle.dy_steps.specs.Arguments.{pairs, unknown, keyword_error, unless_wrong}
use Rattle.dy_steps.specs.Calling.{enter_body, enter_if_there, operate, function_called, variable_called, call_function, code_entered, row_entered, enter_method, following, params_of, names_of, some_take_all, unknown_keyword, dispatched, call_error, tested, with_search, with_sorted, search, call_object, call_value}
use Rattle.dy_steps.specs.Steps.{steps}
use Rattle.dy_lowering_law.specs.Force.{RowsFit}
use Rattle.dy_lowering_law.specs.Following.{Spot, scope_of, standing, after, IsKnown, AreWords, IsRight, IsRightAfter}
use Rattle.dy_lowering_law.specs.Kinds.{GoesOn}
use Rattle.dy_lowering_law.specs.Machines as machines
use Rattle.dy_lowering_law.specs.Machines.{linked_program, machine_of, failing_from, sorted, all_methods_from}
use Rattle.dy_lowering_law.specs.Ready.{generic_ready}
use Rattle.dy_lowering_law.specs.Renumbering.{body_of, renumbered_row, renumbered_store}
use Rattle.dy_lowering_law.proofs.Arguments.{taken_all}
use Rattle.dy_lowering_law.specs.calls.Calls.{CallsStand}
use Rattle.dy_lowering_law.specs.calls.Lambdas.{IsMethod, AreMethods}
use Rattle.dy_lowering_law.proofs.calls.Binding.{unless_taken, equal_from}
use Rattle.dy_lowering_law.proofs.calls.Instances.{applicable_same}
use Rattle.dy_lowering_law.proofs.calls.Methods.{functions_have, variable_same, methods_have, methods_kept}
use Rattle.dy_lowering_law.proofs.calls.Signals.{signal_after, signal_keeps}

known_at : (program : Program) (objects : List ObjectRow) (place : ℕ) (row : ObjectRow) → Every (IsKnown program) objects → slice_get objects place ≡ Some row → IsKnown program row
known_at program [] place row all e = absurd (none-some row e)
known_at program (o ∷ objects) zero row all e = subst (λ (h : Option ObjectRow). or_known h) e all.0
  where
    or_known : Option ObjectRow → Type 0
    or_known None = Unit {0}
    or_known (Some row) = IsKnown program row
known_at program (o ∷ objects) (suc place) row all e = known_at program objects place row all.1 e

no_none : {A : Type 0} (xs : List A) (k : ℕ) → k < length xs → slice_get xs k ≡ None → ⊥
no_none [] k less e = absurd (omega (arith, less))
no_none (x ∷ xs) zero less e = none-some x (sym e)
no_none (x ∷ xs) (suc k) less e = no_none xs k (omega (arith, less)) e

-- without keywords a generic function counts arguments as a call of it does
no_keys : (params : Params) → (not (is_some params.keys) && not params.all_keys) ≡ true → (params.keys ≡ None) × (params.all_keys ≡ false)
no_keys params ready = by params.keys params.all_keys ready
  where
    by : (keys : Option (List (List ℕ))) (all : Bool) → (not (is_some keys) && not all) ≡ true → (keys ≡ None) × (all ≡ false)
    by None false e = (refl, refl)
    by None true e = absurd (true≢false (sym e))
    by (Some keys) all e = absurd (true≢false (sym e))

to_equal : (a b : ℕ) → a ≡ b → nat_eq a b ≡ true
to_equal a b h = grind (arith, h)

to_least : (a b : ℕ) → a ≤ b → nat_le a b ≡ true
to_least a b h = grind (arith, h)

equal_back : (one other : Bool) (a b : ℕ) → nat_eq a b ≡ one → nat_eq b a ≡ other → nat_eq b a ≡ (nat_eq a b || false)
equal_back true true a b e f = f ∙ ap (λ c. c || false) (sym e)
equal_back false false a b e f = f ∙ ap (λ c. c || false) (sym e)
equal_back true false a b e f = absurd (true≢false (sym (to_equal b a (sym (equal_from a b e))) ∙ f))
equal_back false true a b e f = absurd (true≢false (sym (to_equal a b (sym (equal_from b a f))) ∙ e))

least_or : (equal : Bool) (a b : ℕ) → nat_eq a b ≡ equal → nat_le a b ≡ (nat_eq a b || nat_le a b)
least_or true a b e = (let same = equal_from a b e in to_least a b (omega (arith, same))) ∙ ap (λ c. c || nat_le a b) (sym e)
least_or false a b e = ap (λ c. c || nat_le a b) (sym e)

count_same : (rest : Bool) (wanted count : ℕ) → (if rest || false then nat_le wanted count else nat_eq count wanted) ≡ (nat_eq wanted count || ((rest || (false || false)) && nat_le wanted count))
count_same true wanted count = least_or (nat_eq wanted count) wanted count refl
count_same false wanted count = equal_back (nat_eq wanted count) (nat_eq count wanted) wanted count refl refl

module _ (program : Program) (n : ℕ) (stand : CallsStand program n) where
  -- The machine's call comes from every place to where the call of a callee comes. (The call reads
  -- the configuration, the callee was found in the state.)
  pub record Answers (locals : ℕ) (s : State) (values : List Variant) (callee : Callee) (call : Config → Step) : Type 0 where
    pub keeps : (scope : Scope) → IsRightAfter program locals (answered (world program) (entered (world program) n) callee values scope s)
    pub runs : (x : Spot) (place : ℕ) (register : List Variant) (k : ℕ) → RowsFit x.running → s.fuel.left ≤ n
        → GoesOn (machine_of program) (call (standing (body_of program) x place register s k)) (after (body_of program) x place (answered (world program) (entered (world program) n) callee values (scope_of x) s))

  module _ (locals : ℕ) (s : State) (right : IsRight program locals s) (values : List Variant) (words : AreWords values) where
    fails_answer : (error : ErrorRow) → Answers locals s values (callees.Fails error) (signal (machine_of program) error)
    fails_answer error = record {
      keeps = λ scope. signal_keeps program error locals scope s;
      runs = λ x place register k fit few. record { count = 0; searches = k; there = signal_after program error x place register s k (scope_of x) };
    }

    operates_answer : (operation : ℕ) → Answers locals s values (callees.Operates operation) (operate (machine_of program) operation values)
    operates_answer operation =
        let takes = stand.operations 0 locals operation (length values) in
        record {
          keeps = λ scope. takes.keeps values words scope s right;
          runs = λ x place register k fit few.
              let goes = takes.runs values x place register s k refl words fit right few in
              record {
                count = goes.count;
                searches = goes.searches;
                there = ap (steps (machine_of program) goes.count) (sym (taken_all (body_of program) values (length values) x place register s k (operate (machine_of program) operation) refl)) ∙ goes.there;
              };
        }

    enters_answer : (lambda : Lambda) (number : ℕ) (captured : List Variant) → AreWords captured → (f : Option Following) → lambda_of program number ≡ Some lambda
        → Answers locals s values (callees.Enters (fun_of program lambda number) captured) (enter_body (machine_of program) (body_of program number) captured values f)
    enters_answer lambda number captured kept f e =
        let enters = stand.lambdas number lambda e in
        record {
          keeps = λ scope. enters.keeps captured values kept words scope locals s right;
          runs = λ x place register k fit few. enters.runs captured values kept words f x place register s k locals right few;
        }

    -- another way to write the call
    answer_by : (callee : Callee) (call other : Config → Step) → ((x : Spot) (place : ℕ) (register : List Variant) (k : ℕ) → other (standing (body_of program) x place register s k) ≡ call (standing (body_of program) x place register s k))
        → Answers locals s values callee call → Answers locals s values callee other
    answer_by callee call other same answers = record {
      keeps = answers.keeps;
      runs = λ x place register k fit few.
          let goes = answers.runs x place register k fit few in
          record { count = goes.count; searches = goes.searches; there = ap (steps (machine_of program) goes.count) (same x place register k) ∙ goes.there };
    }

    -- with a search counted
    searched : (callee : Callee) (call : Config → Step) → Answers locals s values callee call → Answers locals s values callee (λ c. call (with_search c))
    searched callee call answers = record { keeps = answers.keeps; runs = λ x place register k fit few. answers.runs x place register (k + 1) fit few }

    -- functions by their names
    function_answers : (named : BindingId) → Answers locals s values (function_callee program (numbered_variable program named.at)) (call_function (machine_of program) named values)
    function_answers named =
        answer_by (function_callee program (numbered_variable program named.at)) (λ c. variable_called (machine_of program) named (option_map (λ found. found.0) (numbered_variable program named.at)) values c) (call_function (machine_of program) named values)
        (λ x place register k. ap (λ o. variable_called (machine_of program) named o values (standing (body_of program) x place register s k)) (variable_same program named))
        (of_variable (numbered_variable program named.at) refl)
      where
        of_lambda : (found : VariableRow × ℕ) → numbered_variable program named.at ≡ Some found → (held : Option Lambda) → found.0.function ≡ held → (operation : Option ℕ)
            → Answers locals s values (function_or program held operation found.1) (λ c. function_called (machine_of program) named held operation values c)
        of_lambda found e (Some lambda) h operation =
            let has = functions_have program named found.0 found.1 lambda e h in
            answer_by _ (enter_body (machine_of program) (body_of program found.1) [] values None) _
            (λ x place register k. ap (λ o. enter_if_there (machine_of program) o values None (standing (body_of program) x place register s k)) has.found)
            (enters_answer lambda found.1 [] tt None has.numbered)
        of_lambda found e None h (Some operation) = operates_answer operation
        of_lambda found e None h None = fails_answer not_a_function

        of_variable : (held : Option (VariableRow × ℕ)) → numbered_variable program named.at ≡ held
            → Answers locals s values (function_callee program held) (λ c. variable_called (machine_of program) named (option_map (λ found. found.0) held) values c)
        of_variable None e = fails_answer not_a_function
        of_variable (Some found) e = of_lambda found e found.0.function refl found.0.builtin

    -- methods
    no_accessor : (units : ℕ) (error : ErrorRow) (c : Config) → performed (machine_of program) (failing_from units error c.state) c gives ≡ unit_from units c (raised (machine_of program) error)
    no_accessor zero error c = refl
    no_accessor (suc units) error c = refl

    method_answers : (method : MethodId × MethodRow) (numbered : MethodRow × ℕ) → IsMethod program method numbered → (f : Following)
        → Answers locals s values (method_callee program numbered.0.code numbered.1) (enter_method (machine_of program) method.0 f values)
    method_answers method numbered is f =
        answer_by _ (λ c. code_entered (machine_of program) method.0 numbered.0.code f values c) _
        (λ x place register k. ap (λ o. row_entered (machine_of program) method.0 o f values (standing (body_of program) x place register s k)) is.stands)
        (of_code numbered.0.code refl)
      where
        of_code : (code : MethodCode) → numbered.0.code ≡ code → Answers locals s values (method_callee program code numbered.1) (λ c. code_entered (machine_of program) method.0 code f values c)
        of_code (Dylan lambda) e =
            let has = is.body lambda e in
            answer_by _ (enter_body (machine_of program) (body_of program numbered.1) [] values (Some f)) _
            (λ x place register k. ap (λ o. enter_if_there (machine_of program) o values (Some f) (standing (body_of program) x place register s k)) has.found)
            (enters_answer lambda numbered.1 [] tt (Some f) has.numbered)
        of_code (ByOperation operation) e = operates_answer operation
        of_code (Getter class slot) e = answer_by _ (signal (machine_of program) not_a_function) _ (λ x place register k. no_accessor s.fuel.left not_a_function (standing (body_of program) x place register s k)) (fails_answer not_a_function)
        of_code (Setter class slot) e = answer_by _ (signal (machine_of program) not_a_function) _ (λ x place register k. no_accessor s.fuel.left not_a_function (standing (body_of program) x place register s k)) (fails_answer not_a_function)

    -- generic functions
    unknown_none : (store : Store) (row : GenericRow) (methods : List MethodId) → row.params.keys ≡ None → unknown_keyword (machine_of program) store row methods values ≡ None
    unknown_none store row methods none =
        λ i. option_map_or (λ names. if row.params.all_keys || some_take_all (machine_of program) methods then None
        else unknown (flat_map (λ method. names_of (params_of (machine_of program) method)) methods)
        (pairs store (drop (length row.params.required) values))) (none i) None

    reached_answers : (generic : GenericId) (row : GenericRow) → row.params.keys ≡ None → (methods : List (MethodId × MethodRow)) (others : List (MethodRow × ℕ)) → AreMethods program methods others
        → Answers locals s values (reached program row.name others) (λ c. dispatched (machine_of program) generic row (sorted methods).0 (sorted methods).1 values c)
    reached_answers generic row none [] [] are = fails_answer (no_method row.name)
    reached_answers generic row none [] (u ∷ others) are = absurd are
    reached_answers generic row none (m ∷ methods) [] are = absurd are
    reached_answers generic row none (m ∷ []) (u ∷ []) are =
        answer_by _ (enter_method (machine_of program) m.0 (following generic [] []) values) _
        (λ x place register k. ap (λ o. unless_wrong (machine_of program) o (standing (body_of program) x place register s k) (enter_method (machine_of program) m.0 (following generic [] []) values)) (unknown_none (renumbered_store (body_of program) s.store) row (m.0 ∷ []) none))
        (method_answers m u are.0 (following generic [] []))
    reached_answers generic row none (m ∷ []) (u ∷ v ∷ others) are = absurd are.1
    reached_answers generic row none (m ∷ k ∷ methods) (u ∷ []) are = absurd are.1
    reached_answers generic row none (m ∷ p ∷ methods) (u ∷ v ∷ others) are =
        answer_by _ (signal (machine_of program) (ambiguous_call row.name)) _
        (λ x place register k. ap (λ o. unless_wrong (machine_of program) o (standing (body_of program) x place register s k) (signal (machine_of program) (ambiguous_call row.name))) (unknown_none (renumbered_store (body_of program) s.store) row (map (λ q. q.0) (m ∷ p ∷ methods)) none))
        (fails_answer (ambiguous_call row.name))

    sorted_answers : (generic : GenericId) (row : GenericRow) → row.params.keys ≡ None
        → Answers locals s values (reached program row.name (meaning.applicable program s.store generic values)) (with_sorted (machine_of program) generic values row)
    sorted_answers generic row none =
        let machine_methods = machines.applicable program s.store generic values in
        answer_by _ (λ c. dispatched (machine_of program) generic row (sorted machine_methods).0 (sorted machine_methods).1 values (with_search c)) _
        (λ x place register k. ap (λ methods. dispatched (machine_of program) generic row (sorted methods).0 (sorted methods).1 values (with_search (standing (body_of program) x place register s k))) (applicable_same (body_of program) program s.store generic values))
        (searched _ (λ c. dispatched (machine_of program) generic row (sorted machine_methods).0 (sorted machine_methods).1 values c)
        (reached_answers generic row none machine_methods (meaning.applicable program s.store generic values)
        (methods_kept program (λ (r : MethodRow). is_same_ref r.generic.0 generic.0 && meaning.are_instances program s.store values r.params.required) (all_methods_from 0 program.libraries) (meaning.methods_of program) (methods_have program))))

    -- the arguments of a generic function are counted
    error_same : (store : Store) (row : GenericRow) → generic_ready row ≡ true → call_error store row values ≡ unless_taken (meaning.is_count row.params (length values))
    error_same store row ready =
        let none = no_keys row.params ready in
        (λ i. if (if row.params.rest || is_some (none.0 i) then nat_le (length row.params.required) (length values) else nat_eq (length values) (length row.params.required))
        then keyword_error store (none.0 i) true (drop (length row.params.required) values) else Some wrong_number)
        ∙ (λ i. if count_same row.params.rest (length row.params.required) (length values) i then None else Some wrong_number)
        ∙ (λ i. if (nat_eq (length row.params.required) (length values) || ((row.params.rest || (meaning.has_keys (sym none.0 i) || sym none.1 i)) && nat_le (length row.params.required) (length values))) then None else Some wrong_number)
        ∙ as_taken (meaning.is_count row.params (length values))
      where
        as_taken : (b : Bool) → (if b then None else Some wrong_number) ≡ unless_taken b
        as_taken true = refl
        as_taken false = refl

    generic_same : (generic : GenericId) → generic_row (linked_program program) generic ≡ generic_at program generic
    generic_same generic = in_library (slice_get program.libraries generic.0.library)
      where
        in_library : (held : Option LibraryRow) → if_there held (λ l. slice_get l.generics generic.0.row) ≡ generic_in generic.0.row held
        in_library None = refl
        in_library (Some library) = refl

    pub generic_answers : (generic : GenericId) → Answers locals s values (generic_callee program s.store generic values) (search (machine_of program) generic values)
    generic_answers generic =
        answer_by _ (λ c. tested (machine_of program) (generic_at program generic) values c (with_sorted (machine_of program) generic values)) _
        (λ x place register k. ap (λ o. tested (machine_of program) o values (standing (body_of program) x place register s k) (with_sorted (machine_of program) generic values)) (generic_same generic))
        (of_row (generic_at program generic) refl)
      where
        counted : (row : GenericRow) → row.params.keys ≡ None → (taken : Bool)
            → Answers locals s values (callee_if taken (reached program row.name (meaning.applicable program s.store generic values)) (callees.Fails wrong_number)) (λ c. unless_wrong (machine_of program) (unless_taken taken) c (with_sorted (machine_of program) generic values row))
        counted row none true = sorted_answers generic row none
        counted row none false = fails_answer wrong_number

        of_row : (held : Option GenericRow) → generic_at program generic ≡ held
            → Answers locals s values (row_callee program s.store generic values held) (λ c. tested (machine_of program) held values c (with_sorted (machine_of program) generic values))
        of_row None e = fails_answer not_a_function
        of_row (Some row) e =
            let ready = stand.generics generic row e in
            answer_by _ (λ c. unless_wrong (machine_of program) (unless_taken (meaning.is_count row.params (length values))) c (with_sorted (machine_of program) generic values row)) _
            (λ x place register k. ap (λ o. unless_wrong (machine_of program) o (standing (body_of program) x place register s k) (with_sorted (machine_of program) generic values row)) (error_same (renumbered_store (body_of program) s.store) row ready))
            (counted row (no_keys row.params ready).0 (meaning.is_count row.params (length values)))

    -- objects: closures are entered
    object_answers : (place : ℕ) → Answers locals s values (object_callee program (slice_get s.store.objects place)) (λ c. call_object (machine_of program) (slice_get c.state.store.objects place) values c)
    object_answers place =
        answer_by _ (λ c. call_object (machine_of program) (option_map (renumbered_row (body_of program)) (slice_get s.store.objects place)) values c) _
        (λ x p register k. ap (λ o. call_object (machine_of program) o values (standing (body_of program) x p register s k)) (slice_get-map (renumbered_row (body_of program)) s.store.objects place))
        (of_row (slice_get s.store.objects place) refl)
      where
        of_closure : (number : ℕ) (captured : List Variant) → AreWords captured → number < length (lambdas_of program) → (held : Option Lambda) → lambda_of program number ≡ held
            → Answers locals s values (closure_callee program number held captured) (enter_body (machine_of program) (body_of program number) captured values None)
        of_closure number captured kept less None e = absurd (no_none (lambdas_of program) number less e)
        of_closure number captured kept less (Some lambda) e = enters_answer lambda number captured kept None e

        of_row : (held : Option ObjectRow) → slice_get s.store.objects place ≡ held → Answers locals s values (object_callee program held) (λ c. call_object (machine_of program) (option_map (renumbered_row (body_of program)) held) values c)
        of_row None e = fails_answer not_a_function
        of_row (Some (object.Closure number captured)) e =
            let known = known_at program s.store.objects place (object.Closure number captured) right.objects e in
            of_closure number captured known.1 known.0 (lambda_of program number) refl
        of_row (Some (object.Exit block)) e = absurd (known_at program s.store.objects place (object.Exit block) right.objects e)
        of_row (Some (object.NextMethod generic methods ambiguous arguments)) e = absurd (known_at program s.store.objects place (object.NextMethod generic methods ambiguous arguments) right.objects e)
        of_row (Some (object.NextHandler block value)) e = absurd (known_at program s.store.objects place (object.NextHandler block value) right.objects e)
        of_row (Some (object.Pair head tail)) e = fails_answer not_a_function
        of_row (Some (object.Instance class slots)) e = fails_answer not_a_function
        of_row (Some (object.Vector stretchy items)) e = fails_answer not_a_function
        of_row (Some (object.Bytes bytes)) e = fails_answer not_a_function
        of_row (Some (object.Table entries)) e = fails_answer not_a_function
        of_row (Some (object.Range start step end)) e = fails_answer not_a_function
        of_row (Some (object.Cell value)) e = fails_answer not_a_function

    pub value_answers : (function : Variant) → Answers locals s values (value_callee program s.store function values) (call_value (machine_of program) function values)
    value_answers (Function named) = function_answers named
    value_answers (Generic generic) = generic_answers generic
    value_answers (Builtin operation) = operates_answer operation
    value_answers (Object place) = object_answers place
    value_answers (Int k) = fails_answer not_a_function
    value_answers (Char code) = fails_answer not_a_function
    value_answers (Truth value) = fails_answer not_a_function
    value_answers (Symbol place) = fails_answer not_a_function
    value_answers Nil = fails_answer not_a_function
    value_answers (Class class) = fails_answer not_a_function
    value_answers (TypeValue place) = fails_answer not_a_function
