-- The lists that a tree holds, as the definitions see them.
use Rattle.std.proofs.Common.{◌≡◌, map, refl, ap, ◌∙◌, rules}
use Rattle.dy_tree.specs.declared.expression.Argument.TheViews.{the_lemmas}
use Rattle.dy_tree.specs.declared.expression.Expression.{Expression, Row_of-Argument, end_of-Argument, more_of-Argument, items-the_row-Argument}
use Rattle.dy_tree.specs.declared.expression.Statement.{Row_of-Item, end_of-Item, more_of-Item, items-the_row-Item, Row_of-Alternative, end_of-Alternative, more_of-Alternative, items-the_row-Alternative, Row_of-Arm, end_of-Arm, more_of-Arm, items-the_row-Arm, Row_of-Expression, end_of-Expression, more_of-Expression, items-the_row-Expression, Row_of-BlockClause, end_of-BlockClause, more_of-BlockClause, items-the_row-BlockClause, Row_of-ForClause, end_of-ForClause, more_of-ForClause, items-the_row-ForClause, Held-Statement-If-4, Statement-If-4-None', Statement-If-4-Some', view-Statement-If-4, Held-Statement-Select-2, Statement-Select-2-None', Statement-Select-2-Some', view-Statement-Select-2, Held-Statement-For-2, Statement-For-2-None', Statement-For-2-Some', view-Statement-For-2}
use Rattle.dy_tree.specs.declared.expression.ForClause.{Held-ForClause-From-2, ForClause-From-2-None', ForClause-From-2-Some', view-ForClause-From-2, Held-ForClause-From-3, ForClause-From-3-None', ForClause-From-3-Some', view-ForClause-From-3}
use Rattle.dy_tree.specs.declared.expression.Item.{Row_of-LocalMethod, end_of-LocalMethod, more_of-LocalMethod, items-the_row-LocalMethod}
use Rattle.dy_tree.specs.declared.expression.Keys.{Row_of-Key, end_of-Key, more_of-Key, items-the_row-Key}
use Rattle.dy_tree.specs.declared.expression.Parameters.{Held-Parameters-keys, Parameters-keys-None', Parameters-keys-Some', view-Parameters-keys}
use Rattle.dy_rules.specs.SeenForms.{seen_tree, seen_arguments, seen_argument, seen_body, seen_item, seen_methods, seen_method, seen_alternatives, seen_arms, seen_tests, seen_clauses, seen_clause, seen_for, seen_for_clause, seen_key_row, seen_default, seen_initial, seen_limit, seen_otherwise, seen_test, seen_stop, seen_maybe_keys}
use Rattle.dy_rules.specs.SeenTypes.{seen_variable}
use Rattle.dy_rules.specs.Trees as trees
use Rattle.dy_rules.specs.Held.{held_alternative, held_arm, held_key, held_limit, held_last, held_test, held_stop, held_keys}

pub inner_arguments : {m : _} (row : Row_of-Argument m) → seen_arguments row ≡ trees.arguments_of (map seen_argument (items-the_row-Argument m row))
inner_arguments end_of-Argument = refl
inner_arguments (more_of-Argument first rest) = ap (λ (others : trees.Arguments). trees.argument_and (seen_argument first) others) (inner_arguments rest)

pub inner_items : {m : _} (row : Row_of-Item m) → seen_body row ≡ trees.body_of (map seen_item (items-the_row-Item m row))
inner_items end_of-Item = refl
inner_items (more_of-Item first rest) = ap (λ (others : trees.Body). trees.item_and (seen_item first) others) (inner_items rest)

pub inner_methods : {m : _} (row : Row_of-LocalMethod m) → seen_methods row ≡ trees.methods_of (map seen_method (items-the_row-LocalMethod m row))
inner_methods end_of-LocalMethod = refl
inner_methods (more_of-LocalMethod first rest) = ap (λ (others : trees.LocalMethods). trees.method_and (seen_method first) others) (inner_methods rest)

pub inner_tests : {m : _} (row : Row_of-Expression m) → seen_tests row ≡ trees.tests_of (map seen_tree (items-the_row-Expression m row))
inner_tests end_of-Expression = refl
inner_tests (more_of-Expression first rest) = ap (λ (others : trees.Tests). trees.test_and (seen_tree first) others) (inner_tests rest)

pub inner_clauses : {m : _} (row : Row_of-BlockClause m) → seen_clauses row ≡ trees.block_clauses_of (map seen_clause (items-the_row-BlockClause m row))
inner_clauses end_of-BlockClause = refl
inner_clauses (more_of-BlockClause first rest) = ap (λ (others : trees.BlockClauses). trees.clause_and (seen_clause first) others) (inner_clauses rest)

pub inner_loop : {m : _} (row : Row_of-ForClause m) → seen_for row ≡ trees.for_clauses_of (map seen_for_clause (items-the_row-ForClause m row))
inner_loop end_of-ForClause = refl
inner_loop (more_of-ForClause first rest) = ap (λ (others : trees.ForClauses). trees.for_clause_and (seen_for_clause first) others) (inner_loop rest)

alternatives_more : {n : _} (test : Expression) (shape : _) (body : _) (rest : Row_of-Alternative n) → seen_alternatives rest ≡ trees.alternatives_of (map held_alternative (items-the_row-Alternative n rest))
    → seen_alternatives (more_of-Alternative test shape body rest) ≡ trees.alternatives_of (map held_alternative (items-the_row-Alternative _ (more_of-Alternative test shape body rest)))
alternatives_more test shape body rest same = search (rules, the_lemmas, inner_items, same)

pub inner_alternatives : {m : _} (row : Row_of-Alternative m) → seen_alternatives row ≡ trees.alternatives_of (map held_alternative (items-the_row-Alternative m row))
inner_alternatives end_of-Alternative = refl
inner_alternatives (more_of-Alternative test shape body rest) = alternatives_more test shape body rest (inner_alternatives rest)

arms_more : {n : _} (shape : _) (tests : _) (others : _) (body : _) (rest : Row_of-Arm n) → seen_arms rest ≡ trees.arms_of (map held_arm (items-the_row-Arm n rest))
    → seen_arms (more_of-Arm shape tests others body rest) ≡ trees.arms_of (map held_arm (items-the_row-Arm _ (more_of-Arm shape tests others body rest)))
arms_more shape tests others body rest same = search (rules, the_lemmas, inner_items, inner_tests, same)

pub inner_arms : {m : _} (row : Row_of-Arm m) → seen_arms row ≡ trees.arms_of (map held_arm (items-the_row-Arm m row))
inner_arms end_of-Arm = refl
inner_arms (more_of-Arm shape tests others body rest) = arms_more shape tests others body rest (inner_arms rest)

pub inner_default : (default : Held-ForClause-From-3) → seen_default default ≡ seen_initial (view-ForClause-From-3 default)
inner_default ForClause-From-3-None' = refl
inner_default (ForClause-From-3-Some' value) = refl

pub inner_limit : (limit : Held-ForClause-From-2) → seen_limit limit ≡ held_limit (view-ForClause-From-2 limit)
inner_limit ForClause-From-2-None' = refl
inner_limit (ForClause-From-2-Some' word bound) = refl

pub inner_last : (last : Held-Statement-If-4) → seen_otherwise last ≡ held_last (view-Statement-If-4 last)
inner_last Statement-If-4-None' = refl
inner_last (Statement-If-4-Some' shape body) = search (rules, the_lemmas, inner_items)

pub inner_test : (test : Held-Statement-Select-2) → seen_test test ≡ held_test (view-Statement-Select-2 test)
inner_test Statement-Select-2-None' = refl
inner_test (Statement-Select-2-Some' p value) = refl

pub inner_stop : (stop : Held-Statement-For-2) → seen_stop stop ≡ held_stop (view-Statement-For-2 stop)
inner_stop Statement-For-2-None' = refl
inner_stop (Statement-For-2-Some' p key test) = refl

pub inner_keys : {m : _} (row : Row_of-Key m) → seen_key_row row ≡ trees.keys_of (map held_key (items-the_row-Key m row))
inner_keys end_of-Key = refl
inner_keys (more_of-Key label variable default rest) =
    ap (λ (value : trees.MaybeTree). trees.key_and (trees.a_key label (seen_variable variable) value) (seen_key_row rest)) (inner_default default)
    ∙ ap (λ (others : trees.Keys). trees.key_and (trees.a_key label (seen_variable variable) (seen_initial (view-ForClause-From-3 default))) others) (inner_keys rest)

pub inner_some_keys : (keys : Held-Parameters-keys) → seen_maybe_keys keys ≡ held_keys (view-Parameters-keys keys)
inner_some_keys Parameters-keys-None' = refl
inner_some_keys (Parameters-keys-Some' keys) = refl
