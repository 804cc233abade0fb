-- What rows and options of a source tree are in the core, as the lists that they hold.
use Rattle.std.proofs.Common.{◌≡◌, List, [], ◌∷◌, ◌++◌, map, flat_map, refl, ap, ◌∙◌, rules}
use Rattle.std.specs.Prelude.{Bool, Option, Some, None, option_map}
use Rattle.dy_tree.specs.declared.token.Token.{Token}
use Rattle.dy_tree.specs.declared.expression.Argument.TheViews.{the_lemmas}
use Rattle.dy_tree.specs.declared.expression.Expression.{Expression, Row_of-Argument, end_of-Argument, more_of-Argument, items-the_row-Argument}
use Rattle.dy_tree.specs.declared.expression.Statement.{Row_of-Item, end_of-Item, more_of-Item, items-the_row-Item, Row_of-Alternative, end_of-Alternative, more_of-Alternative, items-the_row-Alternative, Row_of-Arm, end_of-Arm, more_of-Arm, items-the_row-Arm, Row_of-Expression, end_of-Expression, more_of-Expression, items-the_row-Expression, Row_of-ForClause, end_of-ForClause, more_of-ForClause, items-the_row-ForClause, Held-Statement-If-4, Statement-If-4-None', Statement-If-4-Some', view-Statement-If-4, Held-Statement-Select-2, Statement-Select-2-None', Statement-Select-2-Some', view-Statement-Select-2, Held-Statement-For-2, Statement-For-2-None', Statement-For-2-Some', view-Statement-For-2}
use Rattle.dy_tree.specs.declared.expression.ForClause.{Held-ForClause-From-2, ForClause-From-2-None', ForClause-From-2-Some', view-ForClause-From-2, Held-ForClause-From-3, ForClause-From-3-None', ForClause-From-3-Some', view-ForClause-From-3}
use Rattle.dy_tree.specs.declared.expression.Item.{Row_of-LocalMethod, end_of-LocalMethod, more_of-LocalMethod, items-the_row-LocalMethod}
use Rattle.dy_tree.specs.declared.expression.LocalMethod.{LocalMethod, LocalMethod', out-LocalMethod}
use Rattle.dy_tree.specs.declared.expression.Keys.{Keys, Keys', out-Keys, Row_of-Key, end_of-Key, more_of-Key, items-the_row-Key}
use Rattle.dy_tree.specs.declared.expression.Parameters.{Parameters, Parameters', out-Parameters, Held-Parameters-keys, Parameters-keys-None', Parameters-keys-Some', view-Parameters-keys}
use Rattle.dy_term.specs.Types.{CoreKey}
use Rattle.dy_term.specs.Drafts.{Core, CoreItem, CoreArm, CoreClause, CoreLambda}
use Rattle.dy_rules.specs.SeenTypes.{seen_required, seen_results, seen_variable}
use Rattle.dy_drafts.specs.Shapes.{required_of, results_of, key_of}
use Rattle.dy_rules.specs.SeenForms.{seen_arguments, seen_body, seen_alternatives, seen_arms, seen_tests, seen_for, seen_methods, seen_parameters, seen_maybe_keys, seen_key_row, seen_default, seen_limit, seen_otherwise, seen_test, seen_stop}
use Rattle.dy_desugar.specs.Table as table
use Rattle.dy_desugar.specs.Lists.{tree_core, argument_terms, item_core, body_core, otherwise_core, maybe_body, maybe_tree, maybe_boxed, alternative_core, case_core, arm_core, default_core, key_default, key_core, keys_defaults, parameter_defaults, lambda_core, method_core, for_clause_core, bound_core, stop_core}

pub arguments_items : {m : _} (row : Row_of-Argument m) → table.arguments_of (seen_arguments row) ≡ flat_map argument_terms (items-the_row-Argument m row)
arguments_items end_of-Argument = refl
arguments_items (more_of-Argument first rest) = ap (λ (others : List Core). argument_terms first ++ others) (arguments_items rest)

pub body_items : {m : _} (row : Row_of-Item m) → table.items_in (seen_body row) ≡ map item_core (items-the_row-Item m row)
body_items end_of-Item = refl
body_items (more_of-Item first rest) = ap (λ (others : List CoreItem). item_core first ∷ others) (body_items rest)

alternatives_more : {n : _} (test : Expression) (shape : _) (body : _) (rest : Row_of-Alternative n) → table.alternatives_of (seen_alternatives rest) ≡ map alternative_core (items-the_row-Alternative n rest)
    → table.alternatives_of (seen_alternatives (more_of-Alternative test shape body rest)) ≡ map alternative_core (items-the_row-Alternative _ (more_of-Alternative test shape body rest))
alternatives_more test shape body rest same = search (rules, the_lemmas, body_items, same)

pub alternatives_items : {m : _} (row : Row_of-Alternative m) → table.alternatives_of (seen_alternatives row) ≡ map alternative_core (items-the_row-Alternative m row)
alternatives_items end_of-Alternative = refl
alternatives_items (more_of-Alternative test shape body rest) = alternatives_more test shape body rest (alternatives_items rest)

pub tests_items : {m : _} (row : Row_of-Expression m) → table.tests_of (seen_tests row) ≡ map tree_core (items-the_row-Expression m row)
tests_items end_of-Expression = refl
tests_items (more_of-Expression first rest) = ap (λ (others : List Core). tree_core first ∷ others) (tests_items rest)

cases_more : {n : _} (shape : _) (tests : _) (others : _) (body : _) (rest : Row_of-Arm n) → table.cases_of (seen_arms rest) ≡ map case_core (items-the_row-Arm n rest)
    → table.cases_of (seen_arms (more_of-Arm shape tests others body rest)) ≡ map case_core (items-the_row-Arm _ (more_of-Arm shape tests others body rest))
cases_more shape tests others body rest same = search (rules, the_lemmas, body_items, tests_items, same)

pub cases_items : {m : _} (row : Row_of-Arm m) → table.cases_of (seen_arms row) ≡ map case_core (items-the_row-Arm m row)
cases_items end_of-Arm = refl
cases_items (more_of-Arm shape tests others body rest) = cases_more shape tests others body rest (cases_items rest)

arms_more : {n : _} (shape : _) (tests : _) (others : _) (body : _) (rest : Row_of-Arm n) → table.select_arms (seen_arms rest) ≡ map arm_core (items-the_row-Arm n rest)
    → table.select_arms (seen_arms (more_of-Arm shape tests others body rest)) ≡ map arm_core (items-the_row-Arm _ (more_of-Arm shape tests others body rest))
arms_more shape tests others body rest same = search (rules, the_lemmas, body_items, tests_items, same)

pub arms_items : {m : _} (row : Row_of-Arm m) → table.select_arms (seen_arms row) ≡ map arm_core (items-the_row-Arm m row)
arms_items end_of-Arm = refl
arms_items (more_of-Arm shape tests others body rest) = arms_more shape tests others body rest (arms_items rest)

pub for_items : {m : _} (row : Row_of-ForClause m) → table.for_clauses_of (seen_for row) ≡ map for_clause_core (items-the_row-ForClause m row)
for_items end_of-ForClause = refl
for_items (more_of-ForClause first rest) = ap (λ (others : List CoreClause). for_clause_core first ∷ others) (for_items rest)

pub otherwise_held : (last : Held-Statement-If-4) → table.or_false (seen_otherwise last) ≡ otherwise_core (view-Statement-If-4 last)
otherwise_held Statement-If-4-None' = refl
otherwise_held (Statement-If-4-Some' shape body) = search (rules, the_lemmas, body_items)

pub body_held : (last : Held-Statement-If-4) → table.maybe_body (seen_otherwise last) ≡ maybe_body (view-Statement-If-4 last)
body_held Statement-If-4-None' = refl
body_held (Statement-If-4-Some' shape body) = search (rules, the_lemmas, body_items)

pub step_held : (step : Held-ForClause-From-3) → table.maybe_of (seen_default step) ≡ maybe_tree (view-ForClause-From-3 step)
step_held ForClause-From-3-None' = refl
step_held (ForClause-From-3-Some' tree) = refl

pub default_held : (step : Held-ForClause-From-3) → table.default_of (seen_default step) ≡ default_core (view-ForClause-From-3 step)
default_held ForClause-From-3-None' = refl
default_held (ForClause-From-3-Some' tree) = refl

pub bound_held : (limit : Held-ForClause-From-2) → table.bound_of (seen_limit limit) ≡ bound_core (view-ForClause-From-2 limit)
bound_held ForClause-From-2-None' = refl
bound_held (ForClause-From-2-Some' word bound) = refl

pub selector_held : (test : Held-Statement-Select-2) → table.maybe_of (seen_test test) ≡ maybe_boxed (view-Statement-Select-2 test)
selector_held Statement-Select-2-None' = refl
selector_held (Statement-Select-2-Some' p tree) = refl

pub stop_held : (stop : Held-Statement-For-2) → table.stop_of (seen_stop stop) ≡ stop_core (view-Statement-For-2 stop)
stop_held Statement-For-2-None' = refl
stop_held (Statement-For-2-Some' p symbol test) = refl

pub keys_items : {m : _} (row : Row_of-Key m) → table.key_rows (seen_key_row row) ≡ map key_core (items-the_row-Key m row)
keys_items end_of-Key = refl
keys_items (more_of-Key symbol variable default rest) = ap (λ (others : List CoreKey). key_of symbol (seen_variable variable) ∷ others) (keys_items rest)

defaults_items : {m : _} (row : Row_of-Key m) → table.defaults_in (seen_key_row row) ≡ map key_default (items-the_row-Key m row)
defaults_items end_of-Key = refl
defaults_items (more_of-Key symbol variable default rest) =
    ap (λ (term : Core). term ∷ table.defaults_in (seen_key_row rest)) (default_held default) ∙ ap (λ (others : List Core). default_core (view-ForClause-From-3 default) ∷ others) (defaults_items rest)

keys_held : (keys : Held-Parameters-keys) → table.key_defaults (seen_maybe_keys keys) ≡ keys_defaults (view-Parameters-keys keys)
keys_held Parameters-keys-None' = refl
keys_held (Parameters-keys-Some' (Keys' shape keys takes_all)) = search (rules, the_lemmas, defaults_items)

pub defaults_same : (row : Parameters) → table.defaults_of (seen_parameters row) ≡ parameter_defaults row
unfolding out-Parameters denote.Hole.Carrier.out
defaults_same (Parameters' required next rest keys results) = keys_held keys

methods_more : {n : _} (word token : Token) (row : Parameters) (shape : _) (body : _) (rest : Row_of-LocalMethod n) → table.local_methods_of (seen_methods rest) ≡ map method_core (items-the_row-LocalMethod n rest)
    → table.local_methods_of (seen_methods (more_of-LocalMethod (LocalMethod' word token row shape body) rest)) ≡ map method_core (items-the_row-LocalMethod _ (more_of-LocalMethod (LocalMethod' word token row shape body) rest))
methods_more word token row shape body rest same = search (rules, the_lemmas, body_items, defaults_same, same)

pub methods_items : {m : _} (row : Row_of-LocalMethod m) → table.local_methods_of (seen_methods row) ≡ map method_core (items-the_row-LocalMethod m row)
methods_items end_of-LocalMethod = refl
methods_items (more_of-LocalMethod (LocalMethod' word token row shape body) rest) = methods_more word token row shape body rest (methods_items rest)
