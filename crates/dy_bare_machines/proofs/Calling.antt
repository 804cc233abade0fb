-- Calls, with rows without terms: they look at what a row says of parameters, and at the kind of code.
use Rattle.std.proofs.Common.{◌≡◌, ℕ, cond, ◌||◌, List, [], ◌∷◌, ◌++◌, length, drop, flat_map, slice_get, Option, Some, None, refl, ap, ◌∙◌}
use Rattle.std.specs.Option.{option_map, option_map_or}
use Rattle.dy_base.specs.declared.ids.BindingId.{BindingId}
use Rattle.dy_base.specs.declared.ids.GenericId.{GenericId}
use Rattle.dy_base.specs.declared.ids.MethodId.{MethodId}
use Rattle.dy_term.specs.declared.types.Params.{Params}
use Rattle.dy_term.specs.declared.term.Lambda.{Lambda}
use Rattle.dy_term.specs.declared.rows.GenericRow.{GenericRow}
use Rattle.dy_term.specs.declared.rows.MethodRow.{MethodRow}
use Rattle.dy_term.specs.declared.rows.MethodCode.{MethodCode}
use Rattle.dy_term.specs.declared.rows.MethodCode.TheVariants.{Dylan, Getter, Setter, Builtin}
use Rattle.dy_term.specs.declared.rows.VariableRow.{VariableRow}
use Rattle.dy_values.specs.declared.value.Variant.{Variant}
use Rattle.dy_values.specs.declared.value.Variant.TheVariants as variants
use Rattle.dy_values.specs.declared.object.ObjectRow.{ObjectRow}
use Rattle.dy_values.specs.declared.object.ObjectRow.TheVariants as objects
use Rattle.dy_values.specs.declared.store.Store.{Store}
use Rattle.dy_values.specs.declared.error.ErrorRow.{ErrorRow}
use Rattle.dy_values.specs.Errors.{wrong_number, ambiguous_call}
use Rattle.dy_code.specs.Programs.{generic_row, method_row, variable_row, method_body, function_body}
use Rattle.dy_code.specs.Validity.{generic_of}
use Rattle.dy_lowered.specs.Units.{bare_lambda, bare_code, bare_method, bare_variable}
use Rattle.dy_steps.specs.Configurations.{Following, Config, Step, Machine}
use Rattle.dy_steps.specs.Effects.{gives, signal}
use Rattle.dy_steps.specs.Texts.{no_next_method}
use Rattle.dy_steps.specs.Arguments.{is_count, pairs, unknown, wrong, unless_wrong}
use Rattle.dy_steps.specs.Calling.{enter_if_there, operate, function_called, variable_called, call_function, code_entered, row_entered, enter_method, following, params_of, names_of, takes_all, some_take_all, unknown_keyword, first_entered, dispatched, call_error, tested, with_search, with_sorted, search, direct, call_direct, next_error, next_entered, generic_name, next_called, or_own, call_next, call_object, call_value}
use Rattle.dy_bare_machines.proofs.Lists.{flat_same}
use Rattle.dy_bare_machines.proofs.Rows.{generic_row_same, method_row_bare, variable_row_bare, method_body_same, function_body_same, generic_of_same}
use Rattle.dy_bare_machines.proofs.Effects.{bare, performed_same, unless_wrong_same, wrong_same}

module _ (m : Machine) where
  enter_same : (body : Option ℕ) (arguments : List Variant) (next : Option Following) (c : Config) → enter_if_there (bare m) body arguments next c ≡ enter_if_there m body arguments next c
  enter_same None arguments next c = refl
  enter_same (Some body) arguments next c = refl

  pub operate_same : (operation : ℕ) (arguments : List Variant) (c : Config) → operate (bare m) operation arguments c ≡ operate m operation arguments c
  operate_same operation arguments c = performed_same m (m.operation operation arguments c.state) c gives gives (λ values d. refl)

  -- functions
  function_same : (named : BindingId) (function : Option Lambda) (builtin : Option ℕ) (arguments : List Variant) (c : Config)
      → function_called (bare m) named (option_map bare_lambda function) builtin arguments c ≡ function_called m named function builtin arguments c
  function_same named (Some lambda) builtin arguments c =
      ap (λ (body : Option ℕ). enter_if_there (bare m) body arguments None c) (function_body_same m.linked named) ∙ enter_same (function_body m.linked named) arguments None c
  function_same named None (Some operation) arguments c = operate_same operation arguments c
  function_same named None None arguments c = refl

  variable_same : (named : BindingId) (row : Option VariableRow) (arguments : List Variant) (c : Config) → variable_called (bare m) named (option_map bare_variable row) arguments c ≡ variable_called m named row arguments c
  variable_same named None arguments c = refl
  variable_same named (Some row) arguments c = function_same named row.function row.builtin arguments c

  pub call_function_same : (named : BindingId) (arguments : List Variant) (c : Config) → call_function (bare m) named arguments c ≡ call_function m named arguments c
  call_function_same named arguments c =
      ap (λ (row : Option VariableRow). variable_called (bare m) named row arguments c) (variable_row_bare m.linked named) ∙ variable_same named (variable_row m.linked named) arguments c

  -- methods
  code_same : (method : MethodId) (code : MethodCode) (next : Following) (arguments : List Variant) (c : Config) → code_entered (bare m) method (bare_code code) next arguments c ≡ code_entered m method code next arguments c
  code_same method (Dylan lambda) next arguments c =
      ap (λ (body : Option ℕ). enter_if_there (bare m) body arguments (Some next) c) (method_body_same m.linked method) ∙ enter_same (method_body m.linked method) arguments (Some next) c
  code_same method (Builtin operation) next arguments c = operate_same operation arguments c
  code_same method (Getter class slot) next arguments c = performed_same m (m.accessor method arguments c.state) c gives gives (λ values d. refl)
  code_same method (Setter class slot) next arguments c = performed_same m (m.accessor method arguments c.state) c gives gives (λ values d. refl)

  row_same : (method : MethodId) (row : Option MethodRow) (next : Following) (arguments : List Variant) (c : Config) → row_entered (bare m) method (option_map bare_method row) next arguments c ≡ row_entered m method row next arguments c
  row_same method None next arguments c = refl
  row_same method (Some row) next arguments c = code_same method row.code next arguments c

  enter_method_same : (method : MethodId) (next : Following) (arguments : List Variant) (c : Config) → enter_method (bare m) method next arguments c ≡ enter_method m method next arguments c
  enter_method_same method next arguments c =
      ap (λ (row : Option MethodRow). row_entered (bare m) method row next arguments c) (method_row_bare m.linked method) ∙ row_same method (method_row m.linked method) next arguments c

  -- keywords
  params_in_row : (row : Option MethodRow) → option_map_or (λ (r : MethodRow). Some r.params) (option_map bare_method row) None ≡ option_map_or (λ (r : MethodRow). Some r.params) row None
  params_in_row None = refl
  params_in_row (Some row) = refl

  params_same : (method : MethodId) → params_of (bare m) method ≡ params_of m method
  params_same method = ap (λ (row : Option MethodRow). option_map_or (λ (r : MethodRow). Some r.params) row None) (method_row_bare m.linked method) ∙ params_in_row (method_row m.linked method)

  take_all_same : (methods : List MethodId) → some_take_all (bare m) methods ≡ some_take_all m methods
  take_all_same [] = refl
  take_all_same (method ∷ methods) = λ j. takes_all (params_same method j) || take_all_same methods j

  names_same : (methods : List MethodId) → flat_map (λ method. names_of (params_of (bare m) method)) methods ≡ flat_map (λ method. names_of (params_of m method)) methods
  names_same methods = flat_same (λ method. names_of (params_of (bare m) method)) (λ method. names_of (params_of m method)) (λ method. ap names_of (params_same method)) methods

  unknown_same : (store : Store) (row : GenericRow) (methods : List MethodId) (arguments : List Variant) → unknown_keyword (bare m) store row methods arguments ≡ unknown_keyword m store row methods arguments
  unknown_same store row methods arguments = λ j. option_map_or (λ (names : List (List ℕ)). cond (row.params.all_keys || take_all_same methods j) None
      (unknown (names_same methods j) (pairs store (drop (length row.params.required) arguments)))) row.params.keys None

  -- generic functions
  first_same : (generic : GenericId) (name : List ℕ) (sorted ambiguous : List MethodId) (arguments : List Variant) (c : Config)
      → first_entered (bare m) generic name sorted ambiguous arguments c ≡ first_entered m generic name sorted ambiguous arguments c
  first_same generic name [] ambiguous arguments c = refl
  first_same generic name (method ∷ methods) ambiguous arguments c = enter_method_same method (following generic methods ambiguous) arguments c

  known_same : (generic : GenericId) (row : GenericRow) (sorted ambiguous : List MethodId) (arguments : List Variant) (c : Config)
      → unless_wrong (bare m) (unknown_keyword (bare m) c.state.store row (sorted ++ ambiguous) arguments) c (first_entered (bare m) generic row.name sorted ambiguous arguments)
      ≡ unless_wrong m (unknown_keyword m c.state.store row (sorted ++ ambiguous) arguments) c (first_entered m generic row.name sorted ambiguous arguments)
  known_same generic row sorted ambiguous arguments c =
      ap (λ (e : Option ErrorRow). unless_wrong (bare m) e c (first_entered (bare m) generic row.name sorted ambiguous arguments)) (unknown_same c.state.store row (sorted ++ ambiguous) arguments)
      ∙ unless_wrong_same m (unknown_keyword m c.state.store row (sorted ++ ambiguous) arguments) c (first_entered (bare m) generic row.name sorted ambiguous arguments)
      (first_entered m generic row.name sorted ambiguous arguments) (λ d. first_same generic row.name sorted ambiguous arguments d)

  dispatched_same : (generic : GenericId) (row : GenericRow) (sorted ambiguous : List MethodId) (arguments : List Variant) (c : Config)
      → dispatched (bare m) generic row sorted ambiguous arguments c ≡ dispatched m generic row sorted ambiguous arguments c
  dispatched_same generic row [] [] arguments c = refl
  dispatched_same generic row [] (method ∷ methods) arguments c = known_same generic row [] (method ∷ methods) arguments c
  dispatched_same generic row (method ∷ methods) ambiguous arguments c = known_same generic row (method ∷ methods) ambiguous arguments c

  tested_same : (row : Option GenericRow) (arguments : List Variant) (c : Config) (go other : GenericRow → Config → Step) → ((r : GenericRow) (d : Config) → go r d ≡ other r d)
      → tested (bare m) row arguments c go ≡ tested m row arguments c other
  tested_same None arguments c go other same = refl
  tested_same (Some row) arguments c go other same = unless_wrong_same m (call_error c.state.store row arguments) c (go row) (other row) (same row)

  sorted_same : (generic : GenericId) (arguments : List Variant) (row : GenericRow) (c : Config) → with_sorted (bare m) generic arguments row c ≡ with_sorted m generic arguments row c
  sorted_same generic arguments row c =
      dispatched_same generic row (m.sorted c.state.store generic arguments).0 (m.sorted c.state.store generic arguments).1 arguments (with_search c)

  pub search_same : (generic : GenericId) (arguments : List Variant) (c : Config) → search (bare m) generic arguments c ≡ search m generic arguments c
  search_same generic arguments c =
      ap (λ (row : Option GenericRow). tested (bare m) row arguments c (with_sorted (bare m) generic arguments)) (generic_row_same m.linked generic)
      ∙ tested_same (generic_row m.linked generic) arguments c (with_sorted (bare m) generic arguments) (with_sorted m generic arguments) (sorted_same generic arguments)

  direct_same : (generic : Option GenericId) (sorted ambiguous : List MethodId) (arguments : List Variant) (c : Config)
      → direct (bare m) generic sorted ambiguous arguments c ≡ direct m generic sorted ambiguous arguments c
  direct_same None sorted ambiguous arguments c = refl
  direct_same (Some generic) sorted ambiguous arguments c =
      let go : GenericRow → Config → Step = λ row. dispatched (bare m) generic row sorted ambiguous arguments in
      let other : GenericRow → Config → Step = λ row. dispatched m generic row sorted ambiguous arguments in
      ap (λ (row : Option GenericRow). tested (bare m) row arguments c go) (generic_row_same m.linked generic)
      ∙ tested_same (generic_row m.linked generic) arguments c go other (λ row d. dispatched_same generic row sorted ambiguous arguments d)

  pub call_direct_same : (sorted ambiguous : List MethodId) (arguments : List Variant) (c : Config) → call_direct (bare m) sorted ambiguous arguments c ≡ call_direct m sorted ambiguous arguments c
  call_direct_same sorted ambiguous arguments c =
      ap (λ (generic : Option GenericId). direct (bare m) generic sorted ambiguous arguments c) (generic_of_same m.linked sorted ambiguous)
      ∙ direct_same (generic_of m.linked sorted ambiguous) sorted ambiguous arguments c

  -- the next method
  counted_same : (store : Store) (params : Params) (arguments : List Variant)
      → cond (is_count params (length arguments)) (wrong (bare m) store arguments params.required None) (Some wrong_number) ≡ cond (is_count params (length arguments)) (wrong m store arguments params.required None) (Some wrong_number)
  counted_same store params arguments = ap (λ (e : Option ErrorRow). cond (is_count params (length arguments)) e (Some wrong_number)) (wrong_same m store arguments params.required None)

  next_error_same : (store : Store) (code : MethodCode) (params : Params) (arguments : List Variant) → next_error (bare m) store (bare_code code) params arguments ≡ next_error m store code params arguments
  next_error_same store (Dylan lambda) params arguments = refl
  next_error_same store (Getter class slot) params arguments = counted_same store params arguments
  next_error_same store (Setter class slot) params arguments = counted_same store params arguments
  next_error_same store (Builtin operation) params arguments = counted_same store params arguments

  next_entered_same : (method : MethodId) (row : Option MethodRow) (next : Following) (arguments : List Variant) (c : Config)
      → next_entered (bare m) method (option_map bare_method row) next arguments c ≡ next_entered m method row next arguments c
  next_entered_same method None next arguments c = refl
  next_entered_same method (Some row) next arguments c =
      ap (λ (e : Option ErrorRow). unless_wrong (bare m) e c (code_entered (bare m) method (bare_code row.code) next arguments)) (next_error_same c.state.store row.code row.params arguments)
      ∙ unless_wrong_same m (next_error m c.state.store row.code row.params arguments) c (code_entered (bare m) method (bare_code row.code) next arguments)
      (code_entered m method row.code next arguments) (λ d. code_same method row.code next arguments d)

  name_same : (generic : GenericId) → generic_name (bare m) generic ≡ generic_name m generic
  name_same generic = ap (λ (row : Option GenericRow). option_map_or (λ (r : GenericRow). r.name) row []) (generic_row_same m.linked generic)

  next_called_same : (generic : GenericId) (methods ambiguous : List MethodId) (arguments : List Variant) (c : Config)
      → next_called (bare m) generic methods ambiguous arguments c ≡ next_called m generic methods ambiguous arguments c
  next_called_same generic [] [] arguments c = ap (λ (name : List ℕ). signal m (no_next_method name) c) (name_same generic)
  next_called_same generic [] (method ∷ methods) arguments c = ap (λ (name : List ℕ). signal m (ambiguous_call name) c) (name_same generic)
  next_called_same generic (method ∷ methods) ambiguous arguments c =
      ap (λ (row : Option MethodRow). next_entered (bare m) method row (following generic methods ambiguous) arguments c) (method_row_bare m.linked method)
      ∙ next_entered_same method (method_row m.linked method) (following generic methods ambiguous) arguments c

  pub call_next_same : (next : Option Following) (given : List Variant) (c : Config) → call_next (bare m) next given c ≡ call_next m next given c
  call_next_same None given c = refl
  call_next_same (Some f) given c = next_called_same f.generic f.methods f.ambiguous (or_own given c.running.arguments) c

  -- values
  object_same : (row : Option ObjectRow) (arguments : List Variant) (c : Config) → call_object (bare m) row arguments c ≡ call_object m row arguments c
  object_same (Some (objects.NextMethod generic methods ambiguous own)) arguments c = next_called_same generic methods ambiguous (or_own arguments own) c
  object_same row arguments c = refl

  pub call_value_same : (value : Variant) (arguments : List Variant) (c : Config) → call_value (bare m) value arguments c ≡ call_value m value arguments c
  call_value_same (variants.Function named) arguments c = call_function_same named arguments c
  call_value_same (variants.Generic generic) arguments c = search_same generic arguments c
  call_value_same (variants.Builtin operation) arguments c = operate_same operation arguments c
  call_value_same (variants.Object place) arguments c = object_same (slice_get c.state.store.objects place) arguments c
  call_value_same value arguments c = refl
