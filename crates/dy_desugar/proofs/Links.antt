-- The table at each form, in terms of the lists that the form holds.
use Rattle.std.proofs.Common.{◌≡◌, List, ◌∷◌, ◌++◌, map, flat_map, refl, ap, ◌∙◌, rules}
use Rattle.std.specs.Prelude.{Bool, Option, Some, None, option_map}
use Rattle.std.specs.Global.{Vec, Box}
use Rattle.dy_tree.specs.declared.token.Token.{Token}
use Rattle.dy_tree.specs.declared.expression.Expression.{Expression}
use Rattle.dy_tree.specs.declared.expression.Expression.TheVariants.{Call}
use Rattle.dy_tree.specs.declared.expression.Statement.TheVariants.{Begin, Method, If, Guarded, Case, Select, Block, For}
use Rattle.dy_tree.specs.declared.brackets.Guard.{Guard}
use Rattle.dy_tree.specs.declared.expression.Argument.{Argument}
use Rattle.dy_tree.specs.declared.expression.Argument.TheViews.{the_lemmas}
use Rattle.dy_tree.specs.declared.expression.Item.{Item}
use Rattle.dy_tree.specs.declared.expression.Item.TheVariants as items
use Rattle.dy_tree.specs.declared.expression.LocalMethod.{LocalMethod}
use Rattle.dy_tree.specs.declared.expression.Alternative.{Alternative}
use Rattle.dy_tree.specs.declared.expression.Arm.{Arm}
use Rattle.dy_tree.specs.declared.expression.BlockClause.{BlockClause}
use Rattle.dy_tree.specs.declared.expression.BlockClause.TheVariants as blocks
use Rattle.dy_tree.specs.declared.expression.ForClause.{ForClause}
use Rattle.dy_tree.specs.declared.expression.ForClause.TheVariants as clauses
use Rattle.dy_tree.specs.declared.expression.Limit.{Limit}
use Rattle.dy_tree.specs.declared.expression.Stop.{Stop}
use Rattle.dy_tree.specs.declared.expression.Keys.{Keys, out-Keys}
use Rattle.dy_tree.specs.declared.expression.Parameters.{Parameters, Parameters', out-Parameters, Held-Parameters-keys, Parameters-keys-None', Parameters-keys-Some', view-Parameters-keys}
use Rattle.dy_tree.specs.declared.types.TypeForm.{TypeForm}
use Rattle.dy_tree.specs.declared.variables.Variable.{Variable}
use Rattle.dy_term.specs.Drafts as core
use Rattle.dy_term.specs.Drafts.{Core, cond, choice_of, cores_of, arms_of, select, block, catches_of, for, clauses_of, method, let_methods, methods_of, from_clause}
use Rattle.dy_term.specs.Types.{integer}
use Rattle.dy_rules.specs.SeenTypes.{seen_type, seen_variable}
use Rattle.dy_drafts.specs.Shapes.{declared_or}
use Rattle.dy_drafts.specs.Parts.{setting, setter_at}
use Rattle.dy_rules.specs.SeenForms.{seen_tree, seen_statement, seen_item, seen_for_clause}
use Rattle.dy_desugar.specs.Table as table
use Rattle.dy_desugar.specs.Table.{core_of, name_in, guarded_core}
use Rattle.dy_desugar.specs.Lists.{tree_core, argument_terms, item_core, body_core, otherwise_core, maybe_body, maybe_tree, maybe_boxed, alternative_core, case_core, arm_core, lambda_core, method_core, block_clauses, for_clause_core, bound_core, stop_core}
use Rattle.dy_desugar.proofs.Places.{named_setter, no_setter}
use Rattle.dy_rules.proofs.Held.{inner_clauses}
use Rattle.dy_desugar.proofs.Rows.{arguments_items, body_items, alternatives_items, cases_items, arms_items, for_items, otherwise_held, body_held, step_held, bound_held, selector_held, stop_held, defaults_same, methods_items}

pub at_call : (function : Box Expression) (arguments : Vec Argument) → core_of (seen_tree (Call function arguments)) ≡ core.call (core_of (seen_tree function.value)) (cores_of (flat_map argument_terms arguments.items))
at_call function arguments = search (rules, the_lemmas, arguments_items)

pub at_begin : (word : Token) (body : Vec Item) → core_of (seen_statement (Begin word body)) ≡ body_core body.items
at_begin word body = search (rules, the_lemmas, body_items)

pub at_method : (word : Token) (row : Box Parameters) (body : Vec Item) → core_of (seen_statement (Method word row body)) ≡ method (lambda_core row.value body.items)
at_method word row body = search (rules, the_lemmas, body_items, defaults_same)

pub at_if : (word : Token) (test : Box Expression) (body : Vec Item) (alternatives : Vec Alternative) (last : Option (Vec Item)) → core_of (seen_statement (If word test body alternatives last))
    ≡ cond (choice_of ((core_of (seen_tree test.value), body_core body.items) ∷ map alternative_core alternatives.items) (otherwise_core last))
at_if word test body alternatives last = search (rules, the_lemmas, body_items, alternatives_items, otherwise_held)

pub at_guarded : (guard : Guard) (word : Token) (test : Box Expression) (body : Vec Item) → core_of (seen_statement (Guarded guard word test body))
    ≡ guarded_core guard (core_of (seen_tree test.value)) (body_core body.items)
at_guarded guard word test body = search (rules, the_lemmas, body_items)

pub at_case : (word : Token) (arms : Vec Arm) (last : Option (Vec Item)) → core_of (seen_statement (Case word arms last)) ≡ cond (choice_of (map case_core arms.items) (otherwise_core last))
at_case word arms last = search (rules, the_lemmas, cases_items, otherwise_held)

pub at_select : (word : Token) (value : Box Expression) (test : Option (Box Expression)) (arms : Vec Arm) (last : Option (Vec Item)) → core_of (seen_statement (Select word value test arms last))
    ≡ select (core_of (seen_tree value.value)) (maybe_boxed test) (arms_of (map arm_core arms.items)) (maybe_body last)
at_select word value test arms last = search (rules, the_lemmas, arms_items, selector_held, body_held)

pub at_block : (word : Token) (exit : Option Token) (body : Vec Item) (found : Vec BlockClause) → core_of (seen_statement (Block word exit body found))
    ≡ block exit (body_core body.items) (table.afterwards_of (block_clauses found.items)) (table.cleanup_of (block_clauses found.items)) (catches_of (table.exceptions_of (block_clauses found.items)))
at_block word exit body found = search (rules, the_lemmas, body_items, inner_clauses)

pub at_for : (word : Token) (found : Vec ForClause) (stop : Option (Box Stop)) (body : Vec Item) (last : Option (Vec Item)) → core_of (seen_statement (For word found stop body last))
    ≡ for (clauses_of (map for_clause_core found.items)) (stop_core stop) (body_core body.items) (maybe_body last)
at_for word found stop body last = search (rules, the_lemmas, body_items, for_items, stop_held, body_held)

pub at_local : (word : Token) (found : Vec LocalMethod) → item_core (items.Local word found) ≡ let_methods (methods_of (map method_core found.items))
at_local word found = search (rules, the_lemmas, methods_items)

pub at_from : (variable : Variable) (start : Expression) (limit : Option Limit) (step : Option Expression) → for_clause_core (clauses.From variable start limit step)
    ≡ from_clause variable.name (declared_or integer (seen_variable variable).declared) (core_of (seen_tree start)) (bound_core limit) (maybe_tree step)
at_from variable start limit step = search (rules, the_lemmas, bound_held, step_held)

pub at_set_call : (function : Box Expression) (arguments : Vec Argument) (token : Token) (place value : Core) → name_in (seen_tree function.value) ≡ Some token
    → table.assignment_of (seen_tree (Call function arguments)) place value ≡ setting (setter_at token) (flat_map argument_terms arguments.items) value
at_set_call function arguments token place value named = search (rules, the_lemmas, named_setter, arguments_items, named)

pub at_no_setter : (function : Box Expression) (arguments : Vec Argument) (place value : Core) → name_in (seen_tree function.value) ≡ None
    → table.assignment_of (seen_tree (Call function arguments)) place value ≡ core.no_place (table.first_token (seen_tree function.value)) place value
at_no_setter function arguments place value none = search (rules, the_lemmas, no_setter, none)

pub at_first : (function : Box Expression) (arguments : Vec Argument) → table.first_token (seen_tree (Call function arguments)) ≡ table.first_token (seen_tree function.value)
at_first function arguments = search (rules, the_lemmas)
