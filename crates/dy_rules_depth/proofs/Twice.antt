-- What was changed once is not changed again.
use Rattle.std.proofs.Common.{◌≡◌, ℕ, ◌<◌, ◌≤◌, nat_lt, Bool, true, false, List, map, refl, ap, arith}
use Rattle.std.proofs.lemmas.Bool.{ltb-true, ltb-false}
use Rattle.dy_tree.specs.declared.token.Token.{Token}
use Rattle.dy_rules.specs.ConstantTrees.{Constant}
use Rattle.dy_rules.specs.Types.{TypeTree, VariableTree, TargetTree, one_target, several, RequiredTree, required_variable, required_single, ResultTree, several_results, one_result}
use Rattle.dy_rules.specs.Trees.{Tree, Parameters, parameters, MaybeKeys, no_keys, some_keys, Keys, no_key, key_and, Key, a_key, LocalMethods, no_method, method_and, LocalMethod, local_method, ForClause, then_clause, in_clause, from_clause, MaybeLimit, no_limit, a_limit, MaybeTree, no_tree, some_tree, Body, no_item, item_and, ItemTree, let_item, handler_item, local_item, expression_item, Argument, keyword, value, StopTree, KeysTree, Listed}
use Rattle.dy_rules.specs.Cutting.{Ending, Head, MethodFound, NamedFound, Caught, Found, Item}
use Rattle.dy_rules.specs.ConstantReading.{Element, comes, after_sign, known, Listing, started, element, ending}
use Rattle.dy_rules.specs.Reading.{Outer, whole, operated, under, assigned, State, wants, counted, has, dotted}
use Rattle.dy_rules.specs.Depth.{depth_limit, depth, type_depth, constant_depth}
use Rattle.dy_rules_depth.specs.Changes.{changed_variable, changed_target, changed_required, changed_results, changed_maybe, changed_key, changed_keys, changed_maybe_keys, changed_parameters, changed_keys_tree, changed_listed, changed_body, changed_item, changed_methods, changed_method, changed_argument, changed_limit, changed_for, changed_stop_tree}
use Rattle.dy_rules_depth.specs.ReaderChanges.{changed_element, changed_listing, changed_outer, changed_state, changed_head, changed_caught, changed_method_found, changed_named, changed_bound, changed_given, changed_loop, changed_found, changed_item_of, changed_items}
use Rattle.dy_rules_depth.specs.Capping.{deep_tree, deep_type, deep_constant, capped, capped_type, capped_constant, capping}
use Rattle.dy_rules_depth.proofs.DeepTrees.{deep_tree_depth, deep_type_depth, deep_constant_depth, capped_kept, capped_beyond, type_kept, type_beyond, constant_kept, constant_beyond}
use Rattle.dy_rules_depth.proofs.Options.{map_twice, option_twice}

module _ {A : Type 0} (measure : A → ℕ) (cap : A → A) (other : A) (is : measure other ≡ 201) (kept : (a : A) → measure a ≤ depth_limit → cap a ≡ a) (beyond : (a : A) → depth_limit < measure a → cap a ≡ other) where
  cap_twice : (a : A) → cap (cap a) ≡ cap a
  cap_twice a = go (nat_lt depth_limit (measure a)) refl
    where
      go : (deeper : Bool) → nat_lt depth_limit (measure a) ≡ deeper → cap (cap a) ≡ cap a
      go true e = let first : cap a ≡ other = beyond a (ltb-true depth_limit (measure a) e) in let second : cap other ≡ other = beyond other (omega (arith, is)) in cc
      go false e = ap cap (kept a (ltb-false depth_limit (measure a) e))

pub tree_twice : (tree : Tree) → capped (capped tree) ≡ capped tree
tree_twice tree = cap_twice depth capped deep_tree deep_tree_depth capped_kept capped_beyond tree

pub type_twice : (type : TypeTree) → capped_type (capped_type type) ≡ capped_type type
type_twice type = cap_twice type_depth capped_type deep_type deep_type_depth type_kept type_beyond type

pub constant_twice : (constant : Constant) → capped_constant (capped_constant constant) ≡ capped_constant constant
constant_twice constant = cap_twice constant_depth capped_constant deep_constant deep_constant_depth constant_kept constant_beyond constant

-- types and variables

pub variable_twice : (variable : VariableTree) → changed_variable capping (changed_variable capping variable) ≡ changed_variable capping variable
variable_twice variable = rw (option_twice capped_type type_twice variable.declared) refl

pub target_twice : (target : TargetTree) → changed_target capping (changed_target capping target) ≡ changed_target capping target
target_twice (one_target variable) = ap one_target (variable_twice variable)
target_twice (several variables rest) = ap (λ parts. several parts rest) (map_twice (changed_variable capping) variable_twice variables)

pub required_twice : (required : RequiredTree) → changed_required capping (changed_required capping required) ≡ changed_required capping required
required_twice (required_variable variable) = ap required_variable (variable_twice variable)
required_twice (required_single token single) = refl

pub results_twice : (results : ResultTree) → changed_results capping (changed_results capping results) ≡ changed_results capping results
results_twice (several_results variables rest) = cc (map_twice (changed_variable capping) variable_twice variables, option_twice (changed_variable capping) variable_twice rest)
results_twice (one_result variable) = ap one_result (variable_twice variable)

-- parameters

pub maybe_twice : (tree : MaybeTree) → changed_maybe capping (changed_maybe capping tree) ≡ changed_maybe capping tree
maybe_twice no_tree = refl
maybe_twice (some_tree tree) = ap some_tree (tree_twice tree)

pub key_twice : (key : Key) → changed_key capping (changed_key capping key) ≡ changed_key capping key
key_twice (a_key symbol variable default) = cc (variable_twice variable, maybe_twice default)

pub keys_twice : (keys : Keys) → changed_keys capping (changed_keys capping keys) ≡ changed_keys capping keys
keys_twice no_key = refl
keys_twice (key_and first rest) = cc (key_twice first, keys_twice rest)

pub maybe_keys_twice : (keys : MaybeKeys) → changed_maybe_keys capping (changed_maybe_keys capping keys) ≡ changed_maybe_keys capping keys
maybe_keys_twice no_keys = refl
maybe_keys_twice (some_keys keys takes_all) = ap (λ found. some_keys found takes_all) (keys_twice keys)

pub parameters_twice : (signature : Parameters) → changed_parameters capping (changed_parameters capping signature) ≡ changed_parameters capping signature
parameters_twice (parameters required next rest keys results) = cc (map_twice (changed_required capping) required_twice required, maybe_keys_twice keys, option_twice (changed_results capping) results_twice results)

pub keys_tree_twice : (found : KeysTree) → changed_keys_tree capping (changed_keys_tree capping found) ≡ changed_keys_tree capping found
keys_tree_twice found = rw (map_twice (changed_key capping) key_twice found.keys) refl

pub listed_twice : (found : Listed) → changed_listed capping (changed_listed capping found) ≡ changed_listed capping found
listed_twice found = rw (map_twice (changed_required capping) required_twice found.required, option_twice (changed_keys_tree capping) keys_tree_twice found.keys) refl

-- bodies

mutual
  pub body_twice : (body : Body) → changed_body capping (changed_body capping body) ≡ changed_body capping body
  body_twice no_item = refl
  body_twice (item_and first rest) = cc (item_twice first, body_twice rest)

  pub item_twice : (item : ItemTree) → changed_item capping (changed_item capping item) ≡ changed_item capping item
  item_twice (let_item word target bound) = cc (target_twice target, tree_twice bound)
  item_twice (handler_item word condition handler) = cc (type_twice condition, tree_twice handler)
  item_twice (local_item word methods) = ap (local_item word) (methods_twice methods)
  item_twice (expression_item tree) = ap expression_item (tree_twice tree)

  pub methods_twice : (methods : LocalMethods) → changed_methods capping (changed_methods capping methods) ≡ changed_methods capping methods
  methods_twice no_method = refl
  methods_twice (method_and first rest) = cc (method_twice first, methods_twice rest)

  pub method_twice : (method : LocalMethod) → changed_method capping (changed_method capping method) ≡ changed_method capping method
  method_twice (local_method word token signature body) = cc (parameters_twice signature, body_twice body)

-- parts of statements

pub argument_twice : (argument : Argument) → changed_argument capping (changed_argument capping argument) ≡ changed_argument capping argument
argument_twice (keyword symbol tree) = ap (keyword symbol) (tree_twice tree)
argument_twice (value tree) = ap value (tree_twice tree)

pub arguments_twice : (passed : List Argument) → map (changed_argument capping) (map (changed_argument capping) passed) ≡ map (changed_argument capping) passed
arguments_twice passed = map_twice (changed_argument capping) argument_twice passed

pub limit_twice : (limit : MaybeLimit) → changed_limit capping (changed_limit capping limit) ≡ changed_limit capping limit
limit_twice no_limit = refl
limit_twice (a_limit word bound) = ap (a_limit word) (tree_twice bound)

pub for_twice : (clause : ForClause) → changed_for capping (changed_for capping clause) ≡ changed_for capping clause
for_twice (then_clause variable first next) = cc (variable_twice variable, tree_twice first, tree_twice next)
for_twice (in_clause variable collection) = cc (variable_twice variable, tree_twice collection)
for_twice (from_clause variable start limit step) = cc (variable_twice variable, tree_twice start, limit_twice limit, maybe_twice step)

pub stop_tree_twice : (stop : StopTree) → changed_stop_tree capping (changed_stop_tree capping stop) ≡ changed_stop_tree capping stop
stop_tree_twice stop = rw (tree_twice stop.test) refl

-- what was read inside of groups

pub bound_twice : (bound : Ending VariableTree Token) → changed_bound capping (changed_bound capping bound) ≡ changed_bound capping bound
bound_twice bound = rw (map_twice (changed_variable capping) variable_twice bound.parts) refl

pub given_twice : (given : Ending VariableTree VariableTree) → changed_given capping (changed_given capping given) ≡ changed_given capping given
given_twice given = rw (map_twice (changed_variable capping) variable_twice given.parts, option_twice (changed_variable capping) variable_twice given.last) refl

pub loop_twice : (head : Ending ForClause StopTree) → changed_loop capping (changed_loop capping head) ≡ changed_loop capping head
loop_twice head = rw (map_twice (changed_for capping) for_twice head.parts, option_twice (changed_stop_tree capping) stop_tree_twice head.last) refl

pub head_twice : (head : Head) → changed_head capping (changed_head capping head) ≡ changed_head capping head
head_twice head = rw (tree_twice head.selected, option_twice capped tree_twice head.test) refl

pub caught_twice : (caught : Caught) → changed_caught capping (changed_caught capping caught) ≡ changed_caught capping caught
caught_twice caught = rw (type_twice caught.condition) refl

pub method_found_twice : (method : MethodFound) → changed_method_found capping (changed_method_found capping method) ≡ changed_method_found capping method
method_found_twice method = rw (listed_twice method.found, option_twice (changed_results capping) results_twice method.results, map_twice (changed_item capping) item_twice method.trees) refl

pub named_twice : (named : NamedFound) → changed_named capping (changed_named capping named) ≡ changed_named capping named
named_twice named = rw (method_found_twice named.method) refl

-- what an operand will be a part of

pub outer_twice : (outer : Outer) → changed_outer capping (changed_outer capping outer) ≡ changed_outer capping outer
outer_twice whole = refl
outer_twice (operated precedence left sign outer) = cc (tree_twice left, outer_twice outer)
outer_twice (under sign outer) = ap (under sign) (outer_twice outer)
outer_twice (assigned place outer) = cc (tree_twice place, outer_twice outer)

pub state_twice : (state : State) → changed_state capping (changed_state capping state) ≡ changed_state capping state
state_twice (wants outer) = ap wants (outer_twice outer)
state_twice (counted digits outer) = ap (counted digits) (outer_twice outer)
state_twice (has tree outer) = cc (tree_twice tree, outer_twice outer)
state_twice (dotted tree outer) = cc (tree_twice tree, outer_twice outer)

-- constants

pub element_twice : (state : Element) → changed_element capping (changed_element capping state) ≡ changed_element capping state
element_twice comes = refl
element_twice (after_sign sign) = refl
element_twice (known constant) = ap known (constant_twice constant)

pub listing_twice : (listing : Listing) → changed_listing capping (changed_listing capping listing) ≡ changed_listing capping listing
listing_twice started = refl
listing_twice (element items state) = cc (map_twice capped_constant constant_twice items, element_twice state)
listing_twice (ending items state) = cc (map_twice capped_constant constant_twice items, element_twice state)

-- items

pub found_twice : (found : Found) → changed_found capping (changed_found capping found) ≡ changed_found capping found
found_twice found =
    rw (
      option_twice capped tree_twice found.tree,
      option_twice (map (changed_argument capping)) arguments_twice found.passed,
      option_twice (map capped_type) (map_twice capped_type type_twice) found.types,
      option_twice (changed_bound capping) bound_twice found.bound,
      option_twice (changed_head capping) head_twice found.head,
      option_twice (changed_caught capping) caught_twice found.caught,
      option_twice (changed_given capping) given_twice found.given,
      option_twice (changed_listed capping) listed_twice found.listed,
      option_twice (changed_method_found capping) method_found_twice found.method,
      option_twice (changed_named capping) named_twice found.named_method,
      option_twice (changed_loop capping) loop_twice found.clauses,
    )
    refl

pub item_of_twice : (item : Item) → changed_item_of capping (changed_item_of capping item) ≡ changed_item_of capping item
item_of_twice item = ap (λ (found : Found). record { fragment = item.fragment; found = found }) (found_twice item.found)

pub items_twice : (items : List Item) → changed_items capping (changed_items capping items) ≡ changed_items capping items
items_twice items = map_twice (changed_item_of capping) item_of_twice items
