-- What an expression or a statement holds, by the lists that stand in it.
use Rattle.std.proofs.Common.{◌≡◌, ◌++◌, ◌∷◌, List, Option, None, if◌then◌else◌, map, flat_map, ap, ◌∙◌, rules, option_map}
use Rattle.std.specs.Global.{Vec, Box}
use Rattle.dy_tree.specs.declared.brackets.Guard.{Guard}
use Rattle.dy_tree.specs.declared.expression.Alternative.{Alternative}
use Rattle.dy_tree.specs.declared.expression.Argument.{Argument}
use Rattle.dy_tree.specs.declared.expression.Argument.TheViews.{the_lemmas}
use Rattle.dy_tree.specs.declared.expression.Arm.{Arm}
use Rattle.dy_tree.specs.declared.expression.BlockClause.{BlockClause}
use Rattle.dy_tree.specs.declared.expression.BlockClause.TheVariants as clauses
use Rattle.dy_tree.specs.declared.expression.Expression.{Expression}
use Rattle.dy_tree.specs.declared.expression.Expression.TheVariants as expressions
use Rattle.dy_tree.specs.declared.expression.ForClause.{ForClause}
use Rattle.dy_tree.specs.declared.expression.ForClause.TheVariants as loops
use Rattle.dy_tree.specs.declared.expression.Item.{Item}
use Rattle.dy_tree.specs.declared.expression.Item.TheVariants as items
use Rattle.dy_tree.specs.declared.expression.Keys.{Keys, Keys', out-Keys}
use Rattle.dy_tree.specs.declared.expression.Limit.{Limit}
use Rattle.dy_tree.specs.declared.expression.LocalMethod.{LocalMethod, LocalMethod', out-LocalMethod}
use Rattle.dy_tree.specs.declared.expression.Parameters.{Parameters, Parameters', out-Parameters}
use Rattle.dy_tree.specs.declared.expression.Statement.TheVariants as statements
use Rattle.dy_tree.specs.declared.expression.Stop.{Stop}
use Rattle.dy_tree.specs.declared.token.Token.{Token}
use Rattle.dy_tree.specs.declared.types.TypeForm.{TypeForm}
use Rattle.dy_tree.specs.declared.variables.Variable.{Variable}
use Rattle.dy_rules.specs.SeenForms.{seen_tree, seen_statement, seen_clause, seen_for_clause, seen_initial, seen_item, seen_method, seen_parameters, seen_keys, seen_argument}
use Rattle.dy_rules.specs.SeenTypes.{seen_type, seen_required, seen_results, seen_variable}
use Rattle.dy_rules.specs.Trees as trees
use Rattle.dy_rules.specs.Held.{held_test, held_stop, held_body, held_last, held_keys, held_limit}
use Rattle.dy_rules.proofs.Held.{inner_alternatives, inner_arguments, inner_arms, inner_clauses, inner_default, inner_items, inner_keys, inner_last, inner_limit, inner_loop, inner_methods, inner_some_keys, inner_stop, inner_test}
use Rattle.dy_construct_parts.specs.declared.construct.Construct.TheVariants as constructs
use Rattle.dy_construct_parts.specs.Table.{first_absent, where_given, where_true}
use Rattle.dy_construct_parts.specs.Words.{guarded}
use Rattle.dy_construct_parts.specs.Parts.{in_type, in_variable, in_all_required, in_results}
use Rattle.dy_constructs.specs.Bodies.{in_tree, in_value, in_test, in_called, in_arguments, in_body, in_item, in_method, in_parameters, in_keys, in_maybe, in_else, in_last, in_clause, in_loop_clause, in_limit, in_stop}
use Rattle.dy_construct_parts.specs.declared.construct.Construct.{Construct}
use Rattle.dy_constructs.specs.Forms.{printing, names_format_out, text_first}
use Rattle.dy_constructs.specs.Held.{held_alternative, held_arm, held_clause, held_key, held_loop_clause, held_method}
use Rattle.dy_constructs.proofs.Rows.{alternatives_flat, arms_flat, clauses_flat, keys_flat, loop_flat, methods_flat}

pub at_call : (function : Box Expression) (arguments : Vec Argument) → in_tree (seen_tree (expressions.Call function arguments)) ≡ constructs.Call ∷ (in_called (seen_tree function.value) ++ in_arguments (trees.arguments_of (map seen_argument arguments.items)))
at_call function arguments = search (rules, the_lemmas, inner_arguments)

pub at_printing : (function : Box Expression) (arguments : Vec Argument) → printing (seen_tree (expressions.Call function arguments)) ≡ (if names_format_out (seen_tree function.value) then text_first (trees.arguments_of (map seen_argument arguments.items)) else None)
at_printing function arguments = search (rules, the_lemmas, inner_arguments)

pub at_begin : (word : Token) (body : Vec Item) → in_tree (seen_statement (statements.Begin word body)) ≡ constructs.Begin ∷ in_body (held_body body)
at_begin word body = search (rules, the_lemmas, inner_items)

pub at_method : (word : Token) (row : Box Parameters) (body : Vec Item) → in_tree (seen_statement (statements.Method word row body)) ≡ constructs.AnonymousMethod ∷ (in_parameters (seen_parameters row.value) ++ in_body (held_body body))
at_method word row body = search (rules, the_lemmas, inner_items)

pub at_if : (word : Token) (test : Box Expression) (body : Vec Item) (alternatives : Vec Alternative) (last : Option (Vec Item)) → in_tree (seen_statement (statements.If word test body alternatives last))
    ≡ constructs.If ∷ (in_test (seen_tree test.value) ++ in_body (held_body body) ++ flat_map held_alternative alternatives.items ++ in_else (held_last last))
at_if word test body alternatives last = search (rules, the_lemmas, inner_items, inner_alternatives, inner_last, alternatives_flat)

pub at_guarded : (guard : Guard) (word : Token) (test : Box Expression) (body : Vec Item) → in_tree (seen_statement (statements.Guarded guard word test body)) ≡ guarded guard ∷ (in_test (seen_tree test.value) ++ in_body (held_body body))
at_guarded guard word test body = search (rules, the_lemmas, inner_items)

pub at_case : (word : Token) (arms : Vec Arm) (last : Option (Vec Item)) → in_tree (seen_statement (statements.Case word arms last)) ≡ constructs.Case ∷ (flat_map held_arm arms.items ++ in_last constructs.Otherwise (held_last last))
at_case word arms last = search (rules, the_lemmas, inner_arms, inner_last, arms_flat)

pub at_select : (word : Token) (value : Box Expression) (test : Option (Box Expression)) (arms : Vec Arm) (last : Option (Vec Item)) → in_tree (seen_statement (statements.Select word value test arms last))
    ≡ constructs.Select ∷ (in_value (seen_tree value.value) ++ in_maybe constructs.SelectTest (held_test test) ++ flat_map held_arm arms.items ++ in_last constructs.Otherwise (held_last last))
at_select word value test arms last = search (rules, the_lemmas, inner_arms, inner_last, inner_test, arms_flat)

pub at_block : (word : Token) (exit : Option Token) (body : Vec Item) (found : Vec BlockClause) → in_tree (seen_statement (statements.Block word exit body found))
    ≡ constructs.Block ∷ (where_given constructs.BlockExit exit ++ in_body (held_body body) ++ flat_map held_clause found.items)
at_block word exit body found = search (rules, the_lemmas, inner_items, inner_clauses, clauses_flat)

pub at_for : (word : Token) (found : Vec ForClause) (stop : Option (Box Stop)) (body : Vec Item) (last : Option (Vec Item)) → in_tree (seen_statement (statements.For word found stop body last))
    ≡ constructs.For ∷ (flat_map held_loop_clause found.items ++ in_stop (held_stop stop) ++ in_body (held_body body) ++ in_last constructs.Finally (held_last last))
at_for word found stop body last = search (rules, the_lemmas, inner_loop, inner_stop, inner_items, inner_last, loop_flat)

pub at_local : (word : Token) (methods : Vec LocalMethod) → in_item (seen_item (items.Local word methods)) ≡ constructs.LocalMethods ∷ flat_map held_method methods.items
at_local word methods = search (rules, the_lemmas, inner_methods, methods_flat)

pub at_local_method : (method : LocalMethod) → in_method (seen_method method) ≡ in_parameters (seen_parameters (out-LocalMethod method).parameters) ++ in_body (held_body (out-LocalMethod method).body)
at_local_method (LocalMethod' word token row shape body) = search (rules, the_lemmas, inner_items)

pub at_afterwards : (body : Vec Item) → in_clause (seen_clause (clauses.Afterwards body)) ≡ constructs.Afterwards ∷ in_body (held_body body)
at_afterwards body = search (rules, the_lemmas, inner_items)

pub at_cleanup : (body : Vec Item) → in_clause (seen_clause (clauses.Cleanup body)) ≡ constructs.Cleanup ∷ in_body (held_body body)
at_cleanup body = search (rules, the_lemmas, inner_items)

pub at_exception : (variable : Option Token) (condition : TypeForm) (body : Vec Item) → in_clause (seen_clause (clauses.Exception variable condition body)) ≡ constructs.ExceptionClause ∷ (in_type (seen_type condition) ++ in_body (held_body body))
at_exception variable condition body = search (rules, the_lemmas, inner_items)

pub at_from : (variable : Variable) (start : Expression) (limit : Option Limit) (step : Option Expression) → in_loop_clause (seen_for_clause (loops.From variable start limit step))
    ≡ constructs.FromClause ∷ (in_variable constructs.TypedVariable (seen_variable variable) ++ in_value (seen_tree start) ++ in_limit (held_limit limit) ++ in_maybe constructs.Step (seen_initial step))
at_from variable start limit step = search (rules, the_lemmas, inner_limit, inner_default)

pub at_keys : (keys : Keys) → in_keys (seen_keys keys) ≡ constructs.KeyParameters ∷ (flat_map held_key (out-Keys keys).keys.items ++ where_true constructs.AllKeys (out-Keys keys).takes_all)
at_keys (Keys' shape keys takes_all) = search (rules, the_lemmas, inner_keys, keys_flat)

pub at_parameters : (row : Parameters) → in_parameters (seen_parameters row)
    ≡ in_all_required (map seen_required (out-Parameters row).required.items) ++ where_given constructs.NextParameter (out-Parameters row).next ++ where_given constructs.RestParameter (out-Parameters row).rest ++ in_keys (held_keys (out-Parameters row).keys) ++ in_results (option_map seen_results (out-Parameters row).results)
at_parameters (Parameters' required next rest keys results) = search (rules, the_lemmas, inner_some_keys)

-- what is found in an expression, and in a parameter list, that is held in a box
pub held : (f : trees.Tree → List Construct) (found : Option Construct) (given kept : Expression) → found ≡ first_absent (f (seen_tree given)) → given ≡ kept → found ≡ first_absent (f (seen_tree kept))
held f found given kept e is = e ∙ ap (λ (tree : Expression). first_absent (f (seen_tree tree))) is

pub held_row : (found : Option Construct) (given kept : Parameters) → found ≡ first_absent (in_parameters (seen_parameters given)) → given ≡ kept → found ≡ first_absent (in_parameters (seen_parameters kept))
held_row found given kept e is = e ∙ ap (λ (row : Parameters). first_absent (in_parameters (seen_parameters row))) is
