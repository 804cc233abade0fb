-- Rows of trees in their places, with other trees in the place of some.
use Rattle.std.proofs.Common.{◌≡◌, List, [], ◌∷◌, map, Option, Some, None, option_map, refl, sym, ap, ◌∙◌}
use Rattle.dy_rules.specs.ConstantTrees.{Constant, constant_and, constants_of, tail_of}
use Rattle.dy_rules.specs.Types.{TypeTree, type_and, types_of, ResultTree}
use Rattle.dy_rules.specs.Trees.{Tree, key_and, Key, method_and, LocalMethod, clause_and, BlockClause, for_clause_and, ForClause, item_and, ItemTree, alternative_and, Alternative, arm_and, Arm, test_and, argument_and, Argument, arguments_of, body_of, alternatives_of, tests_of, arms_of, maybe_of, block_clauses_of, for_clauses_of, StopTree, stop_of, keys_of, methods_of, KeysTree, maybe_keys, Listed, parameters_of}
use Rattle.dy_rules.specs.Cutting.{MethodFound}
use Rattle.dy_rules_depth.specs.Changes.{Change, changed_constants, changed_tail, changed_types, changed_results, changed_maybe, changed_key, changed_keys, changed_maybe_keys, changed_parameters, changed_keys_tree, changed_listed, changed_body, changed_item, changed_methods, changed_method, changed_argument, changed_arguments, changed_alternative, changed_alternatives, changed_tests, changed_arm, changed_arms, changed_clause, changed_clauses, changed_for, changed_for_clauses, changed_stop, changed_stop_tree}
use Rattle.dy_rules_depth.specs.ReaderChanges.{changed_method_found}
use Rattle.dy_rules_depth.specs.Capping.{capped, capped_type, capped_constant, capping}

module _ (change : Change) where
  pub row_arguments : (list : List Argument) → changed_arguments change (arguments_of list) ≡ arguments_of (map (changed_argument change) list)
  row_arguments [] = refl
  row_arguments (first ∷ rest) = ap (argument_and (changed_argument change first)) (row_arguments rest)

  pub row_body : (list : List ItemTree) → changed_body change (body_of list) ≡ body_of (map (changed_item change) list)
  row_body [] = refl
  row_body (first ∷ rest) = ap (item_and (changed_item change first)) (row_body rest)

  pub row_alternatives : (list : List Alternative) → changed_alternatives change (alternatives_of list) ≡ alternatives_of (map (changed_alternative change) list)
  row_alternatives [] = refl
  row_alternatives (first ∷ rest) = ap (alternative_and (changed_alternative change first)) (row_alternatives rest)

  pub row_tests : (list : List Tree) → changed_tests change (tests_of list) ≡ tests_of (map change.on_tree list)
  row_tests [] = refl
  row_tests (first ∷ rest) = ap (test_and (change.on_tree first)) (row_tests rest)

  pub row_arms : (list : List Arm) → changed_arms change (arms_of list) ≡ arms_of (map (changed_arm change) list)
  row_arms [] = refl
  row_arms (first ∷ rest) = ap (arm_and (changed_arm change first)) (row_arms rest)

  pub row_clauses : (list : List BlockClause) → changed_clauses change (block_clauses_of list) ≡ block_clauses_of (map (changed_clause change) list)
  row_clauses [] = refl
  row_clauses (first ∷ rest) = ap (clause_and (changed_clause change first)) (row_clauses rest)

  pub row_for_clauses : (list : List ForClause) → changed_for_clauses change (for_clauses_of list) ≡ for_clauses_of (map (changed_for change) list)
  row_for_clauses [] = refl
  row_for_clauses (first ∷ rest) = ap (for_clause_and (changed_for change first)) (row_for_clauses rest)

  pub row_keys : (list : List Key) → changed_keys change (keys_of list) ≡ keys_of (map (changed_key change) list)
  row_keys [] = refl
  row_keys (first ∷ rest) = ap (key_and (changed_key change first)) (row_keys rest)

  pub row_methods : (list : List LocalMethod) → changed_methods change (methods_of list) ≡ methods_of (map (changed_method change) list)
  row_methods [] = refl
  row_methods (first ∷ rest) = ap (method_and (changed_method change first)) (row_methods rest)

  pub row_types : (list : List TypeTree) → changed_types change (types_of list) ≡ types_of (map change.on_type list)
  row_types [] = refl
  row_types (first ∷ rest) = ap (type_and (change.on_type first)) (row_types rest)

  pub row_constants : (list : List Constant) → changed_constants change (constants_of list) ≡ constants_of (map change.on_constant list)
  row_constants [] = refl
  row_constants (first ∷ rest) = ap (constant_and (change.on_constant first)) (row_constants rest)

  pub row_tail : (last : Option Constant) → changed_tail change (tail_of last) ≡ tail_of (option_map change.on_constant last)
  row_tail None = refl
  row_tail (Some value) = refl

  pub row_maybe : (tree : Option Tree) → changed_maybe change (maybe_of tree) ≡ maybe_of (option_map change.on_tree tree)
  row_maybe None = refl
  row_maybe (Some tree) = refl

  pub row_stop : (stop : Option StopTree) → changed_stop change (stop_of stop) ≡ stop_of (option_map (changed_stop_tree change) stop)
  row_stop None = refl
  row_stop (Some stop) = refl

  pub row_maybe_keys : (found : Option KeysTree) → changed_maybe_keys change (maybe_keys found) ≡ maybe_keys (option_map (changed_keys_tree change) found)
  row_maybe_keys None = refl
  row_maybe_keys (Some found) = rw (row_keys found.keys) refl

  pub row_parameters : (found : Listed) (results : Option ResultTree) → changed_parameters change (parameters_of found results) ≡ parameters_of (changed_listed change found) (option_map (changed_results change) results)
  row_parameters found results = rw (row_maybe_keys found.keys) refl

-- what stands in rows that are the same once they are changed

pub arguments_changed : (list other : List Argument) → map (changed_argument capping) list ≡ map (changed_argument capping) other → changed_arguments capping (arguments_of list) ≡ changed_arguments capping (arguments_of other)
arguments_changed list other e = row_arguments capping list ∙ ap arguments_of e ∙ sym (row_arguments capping other)

pub body_changed : (list other : List ItemTree) → map (changed_item capping) list ≡ map (changed_item capping) other → changed_body capping (body_of list) ≡ changed_body capping (body_of other)
body_changed list other e = row_body capping list ∙ ap body_of e ∙ sym (row_body capping other)

pub alternatives_changed : (list other : List Alternative) → map (changed_alternative capping) list ≡ map (changed_alternative capping) other → changed_alternatives capping (alternatives_of list) ≡ changed_alternatives capping (alternatives_of other)
alternatives_changed list other e = row_alternatives capping list ∙ ap alternatives_of e ∙ sym (row_alternatives capping other)

pub tests_changed : (list other : List Tree) → map capped list ≡ map capped other → changed_tests capping (tests_of list) ≡ changed_tests capping (tests_of other)
tests_changed list other e = row_tests capping list ∙ ap tests_of e ∙ sym (row_tests capping other)

pub arms_changed : (list other : List Arm) → map (changed_arm capping) list ≡ map (changed_arm capping) other → changed_arms capping (arms_of list) ≡ changed_arms capping (arms_of other)
arms_changed list other e = row_arms capping list ∙ ap arms_of e ∙ sym (row_arms capping other)

pub clauses_changed : (list other : List BlockClause) → map (changed_clause capping) list ≡ map (changed_clause capping) other → changed_clauses capping (block_clauses_of list) ≡ changed_clauses capping (block_clauses_of other)
clauses_changed list other e = row_clauses capping list ∙ ap block_clauses_of e ∙ sym (row_clauses capping other)

pub for_clauses_changed : (list other : List ForClause) → map (changed_for capping) list ≡ map (changed_for capping) other → changed_for_clauses capping (for_clauses_of list) ≡ changed_for_clauses capping (for_clauses_of other)
for_clauses_changed list other e = row_for_clauses capping list ∙ ap for_clauses_of e ∙ sym (row_for_clauses capping other)

pub keys_changed : (list other : List Key) → map (changed_key capping) list ≡ map (changed_key capping) other → changed_keys capping (keys_of list) ≡ changed_keys capping (keys_of other)
keys_changed list other e = row_keys capping list ∙ ap keys_of e ∙ sym (row_keys capping other)

pub methods_changed : (list other : List LocalMethod) → map (changed_method capping) list ≡ map (changed_method capping) other → changed_methods capping (methods_of list) ≡ changed_methods capping (methods_of other)
methods_changed list other e = row_methods capping list ∙ ap methods_of e ∙ sym (row_methods capping other)

pub types_changed : (list other : List TypeTree) → map capped_type list ≡ map capped_type other → changed_types capping (types_of list) ≡ changed_types capping (types_of other)
types_changed list other e = row_types capping list ∙ ap types_of e ∙ sym (row_types capping other)

pub constants_changed : (list other : List Constant) → map capped_constant list ≡ map capped_constant other → changed_constants capping (constants_of list) ≡ changed_constants capping (constants_of other)
constants_changed list other e = row_constants capping list ∙ ap constants_of e ∙ sym (row_constants capping other)

pub tail_changed : (last other : Option Constant) → option_map capped_constant last ≡ option_map capped_constant other → changed_tail capping (tail_of last) ≡ changed_tail capping (tail_of other)
tail_changed last other e = row_tail capping last ∙ ap tail_of e ∙ sym (row_tail capping other)

pub maybe_changed : (tree other : Option Tree) → option_map capped tree ≡ option_map capped other → changed_maybe capping (maybe_of tree) ≡ changed_maybe capping (maybe_of other)
maybe_changed tree other e = row_maybe capping tree ∙ ap maybe_of e ∙ sym (row_maybe capping other)

pub stop_changed : (stop other : Option StopTree) → option_map (changed_stop_tree capping) stop ≡ option_map (changed_stop_tree capping) other → changed_stop capping (stop_of stop) ≡ changed_stop capping (stop_of other)
stop_changed stop other e = row_stop capping stop ∙ ap stop_of e ∙ sym (row_stop capping other)

pub parameters_changed : (found other : Listed) (results rest : Option ResultTree) → changed_listed capping found ≡ changed_listed capping other → option_map (changed_results capping) results ≡ option_map (changed_results capping) rest
    → changed_parameters capping (parameters_of found results) ≡ changed_parameters capping (parameters_of other rest)
parameters_changed found other results rest e f = cc (row_parameters capping found results, row_parameters capping other rest)

pub method_changed : (method other : MethodFound) → changed_method_found capping method ≡ changed_method_found capping other
    → (changed_parameters capping (parameters_of method.found method.results) ≡ changed_parameters capping (parameters_of other.found other.results)) × (changed_body capping (body_of method.trees) ≡ changed_body capping (body_of other.trees))
method_changed method other e =
    (parameters_changed method.found other.found method.results other.results (ap (λ (m : MethodFound). m.found) e) (ap (λ (m : MethodFound). m.results) e), body_changed method.trees other.trees (ap (λ (m : MethodFound). m.trees) e))
