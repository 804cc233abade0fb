-- Parts of expressions, at the lists that an expression holds.
use Rattle.std.proofs.Common.{◌≡◌, ◌++◌, ◌∷◌, ◌∙◌, List, [], Option, codes, map, refl, sym, ap, rules, option_map}
use Rattle.std.proofs.lemmas.List.{append-nil}
use Rattle.std.specs.Global.{Vec, Box}
use Rattle.dy_tree.specs.Fragments.{SeenFragment, one}
use Rattle.dy_tree.specs.declared.brackets.Guard.{Guard}
use Rattle.dy_tree.specs.declared.expression.Alternative.{Alternative}
use Rattle.dy_tree.specs.declared.expression.Argument.{Argument}
use Rattle.dy_tree.specs.declared.expression.Argument.TheViews.{the_lemmas}
use Rattle.dy_tree.specs.declared.expression.Arm.{Arm}
use Rattle.dy_tree.specs.declared.expression.BlockClause.{BlockClause}
use Rattle.dy_tree.specs.declared.expression.BlockClause.TheVariants as clauses
use Rattle.dy_tree.specs.declared.expression.Expression.{Expression}
use Rattle.dy_tree.specs.declared.expression.Expression.TheVariants as expressions
use Rattle.dy_tree.specs.declared.expression.ForClause.{ForClause}
use Rattle.dy_tree.specs.declared.expression.Item.{Item}
use Rattle.dy_tree.specs.declared.expression.Item.TheVariants as items
use Rattle.dy_tree.specs.declared.expression.Keys.{Keys, Keys', out-Keys}
use Rattle.dy_tree.specs.declared.expression.LocalMethod.{LocalMethod, LocalMethod', out-LocalMethod}
use Rattle.dy_tree.specs.declared.expression.Parameters.{Parameters, Parameters', out-Parameters}
use Rattle.dy_tree.specs.declared.expression.Statement.TheVariants as statements
use Rattle.dy_tree.specs.declared.expression.Stop.{Stop}
use Rattle.dy_tree.specs.declared.token.Token.{Token}
use Rattle.dy_tree.specs.declared.types.TypeForm.{TypeForm}
use Rattle.dy_rules.specs.Marks.{in_round, key_mark, semicolon_mark, statement_group, word_mark}
use Rattle.dy_rules.specs.SeenForms.{seen_tree, seen_statement, seen_argument, seen_clause, seen_item, seen_method, seen_parameters, seen_keys}
use Rattle.dy_rules.specs.SeenTypes.{seen_type, seen_required, seen_results}
use Rattle.dy_rules.specs.Trees as trees
use Rattle.dy_rules.specs.Writing.{written_arguments, written_alternatives, written_arms, written_body, written_clause, written_clauses, written_item, written_for, written_stop, written_methods, written_caught, written_method, written_signature, written_keys, written_all, first_keys, written_remains, joined_choices, joined_clauses}
use Rattle.dy_rules.specs.Held.{held_alternative, held_arms, held_test, held_stop, held_body, held_key, held_last, held_keys, held_clauses}
use Rattle.dy_write_parts.specs.Breaks.{choice_break, clause_break}
use Rattle.dy_writer.specs.Plain.{behind_first, before_body, main_body, behind_body, last_body}
use Rattle.dy_rules.proofs.Held.{inner_alternatives, inner_arguments, inner_arms, inner_clauses, inner_items, inner_keys, inner_last, inner_loop, inner_methods, inner_some_keys, inner_stop, inner_test}

pub at_call : (function : Box Expression) (arguments : Vec Argument) → behind_first (seen_tree (expressions.Call function arguments)) ≡ in_round (written_arguments (trees.arguments_of (map seen_argument arguments.items))) ∷ []
at_call function arguments = search (rules, the_lemmas, inner_arguments)

pub at_if : (word : Token) (test : Box Expression) (body : Vec Item) (alternatives : Vec Alternative) (last : Option (Vec Item)) → behind_body (seen_statement (statements.If word test body alternatives last)) ≡ written_alternatives (trees.alternatives_of (map held_alternative alternatives.items)) ++ last_body (codes "else") (held_last last)
at_if word test body alternatives last = search (rules, the_lemmas, inner_alternatives, inner_last)

pub at_block : (word : Token) (exit : Option Token) (body : Vec Item) (found : Vec BlockClause) → behind_body (seen_statement (statements.Block word exit body found)) ≡ written_clauses (trees.block_clauses_of (map seen_clause found.items))
at_block word exit body found = search (rules, the_lemmas, inner_clauses)

pub at_for : (word : Token) (found : Vec ForClause) (stop : Option (Box Stop)) (body : Vec Item) (last : Option (Vec Item)) → behind_body (seen_statement (statements.For word found stop body last)) ≡ last_body (codes "finally") (held_last last)
at_for word found stop body last = search (rules, the_lemmas, inner_last)

pub at_local : (word : Token) (methods : Vec LocalMethod) → written_item (seen_item (items.Local word methods)) ≡ one word ∷ written_methods (trees.methods_of (map seen_method methods.items))
at_local word methods = search (rules, the_lemmas, inner_methods)

pub at_afterwards : (body : Vec Item) → written_clause (seen_clause (clauses.Afterwards body)) ≡ word_mark (codes "afterwards") ∷ written_body (held_body body)
at_afterwards body = search (rules, the_lemmas, inner_items)

pub at_cleanup : (body : Vec Item) → written_clause (seen_clause (clauses.Cleanup body)) ≡ word_mark (codes "cleanup") ∷ written_body (held_body body)
at_cleanup body = search (rules, the_lemmas, inner_items)

pub at_exception : (variable : Option Token) (condition : TypeForm) (body : Vec Item) → written_clause (seen_clause (clauses.Exception variable condition body)) ≡ word_mark (codes "exception") ∷ in_round (written_caught variable (seen_type condition)) ∷ written_body (held_body body)
at_exception variable condition body = search (rules, the_lemmas, inner_items)

pub at_method : (method : LocalMethod) → written_method (seen_method method)
    ≡ statement_group (out-LocalMethod method).word (one (out-LocalMethod method).name ∷ (written_signature (seen_parameters (out-LocalMethod method).parameters) ++ semicolon_mark ∷ written_body (held_body (out-LocalMethod method).body)))
at_method (LocalMethod' word token signature shape body) = search (rules, the_lemmas, inner_items)

pub at_keys : (keys : Keys) → written_keys (seen_keys keys) ≡ key_mark ∷ (first_keys (trees.keys_of (map held_key (out-Keys keys).keys.items)) ++ written_all (out-Keys keys).takes_all)
at_keys (Keys' shape keys takes_all) = search (rules, the_lemmas, inner_keys)

pub at_parameters : (signature : Parameters) → seen_parameters signature
    ≡ trees.parameters (map seen_required (out-Parameters signature).required.items) (out-Parameters signature).next (out-Parameters signature).rest (held_keys (out-Parameters signature).keys) (option_map seen_results (out-Parameters signature).results)
at_parameters (Parameters' required next rest keys results) = search (rules, the_lemmas, inner_some_keys)

choices_parts : (arms : trees.Arms) (last : trees.Otherwise) → joined_choices arms last (written_arms arms) (written_remains last) ≡ written_arms arms ++ (choice_break arms last ++ last_body (codes "otherwise") last)
choices_parts trees.no_arm trees.no_otherwise = refl
choices_parts trees.no_arm (trees.otherwise body) = refl
choices_parts (trees.arm_and first rest) trees.no_otherwise = sym (append-nil (written_arms (trees.arm_and first rest)))
choices_parts (trees.arm_and first rest) (trees.otherwise body) = refl

clauses_parts : (clauses : trees.ForClauses) (stop : trees.MaybeStop) → joined_clauses clauses stop (written_for clauses) (written_stop stop) ≡ written_for clauses ++ (clause_break clauses stop ++ written_stop stop)
clauses_parts trees.no_for_clause trees.no_stop = refl
clauses_parts trees.no_for_clause (trees.a_stop key test) = refl
clauses_parts (trees.for_clause_and first rest) trees.no_stop = sym (append-nil (written_for (trees.for_clause_and first rest)))
clauses_parts (trees.for_clause_and first rest) (trees.a_stop key test) = refl

case_seen : (word : Token) (arms : Vec Arm) (last : Option (Vec Item)) → seen_statement (statements.Case word arms last) ≡ trees.case_tree word (held_arms arms) (held_last last)
case_seen word arms last = search (rules, the_lemmas, inner_arms, inner_last)

pub at_case : (word : Token) (arms : Vec Arm) (last : Option (Vec Item)) → behind_body (seen_statement (statements.Case word arms last)) ≡ written_arms (held_arms arms) ++ (choice_break (held_arms arms) (held_last last) ++ last_body (codes "otherwise") (held_last last))
at_case word arms last = ap behind_body (case_seen word arms last) ∙ choices_parts (held_arms arms) (held_last last)

select_seen : (word : Token) (value : Box Expression) (test : Option (Box Expression)) (arms : Vec Arm) (last : Option (Vec Item)) → seen_statement (statements.Select word value test arms last) ≡ trees.select_tree word (seen_tree value.value) (held_test test) (held_arms arms) (held_last last)
select_seen word value test arms last = search (rules, the_lemmas, inner_arms, inner_last, inner_test)

pub at_select : (word : Token) (value : Box Expression) (test : Option (Box Expression)) (arms : Vec Arm) (last : Option (Vec Item)) → behind_body (seen_statement (statements.Select word value test arms last)) ≡ written_arms (held_arms arms) ++ (choice_break (held_arms arms) (held_last last) ++ last_body (codes "otherwise") (held_last last))
at_select word value test arms last = ap behind_body (select_seen word value test arms last) ∙ choices_parts (held_arms arms) (held_last last)

for_seen : (word : Token) (found : Vec ForClause) (stop : Option (Box Stop)) (body : Vec Item) (last : Option (Vec Item)) → seen_statement (statements.For word found stop body last) ≡ trees.for_tree word (held_clauses found) (held_stop stop) (held_body body) (held_last last)
for_seen word found stop body last = search (rules, the_lemmas, inner_loop, inner_stop, inner_items, inner_last)

pub at_loop : (word : Token) (found : Vec ForClause) (stop : Option (Box Stop)) (body : Vec Item) (last : Option (Vec Item)) → before_body (seen_statement (statements.For word found stop body last))
    ≡ in_round (written_for (held_clauses found) ++ (clause_break (held_clauses found) (held_stop stop) ++ written_stop (held_stop stop))) ∷ []
at_loop word found stop body last = ap before_body (for_seen word found stop body last) ∙ ap (λ (fs : List SeenFragment). in_round fs ∷ []) (clauses_parts (held_clauses found) (held_stop stop))

pub begin_body : (word : Token) (body : Vec Item) → main_body (seen_statement (statements.Begin word body)) ≡ written_body (held_body body)
begin_body word body = search (rules, the_lemmas, inner_items)

pub method_body : (word : Token) (signature : Box Parameters) (body : Vec Item) → main_body (seen_statement (statements.Method word signature body)) ≡ written_body (held_body body)
method_body word signature body = search (rules, the_lemmas, inner_items)

pub if_body : (word : Token) (test : Box Expression) (body : Vec Item) (alternatives : Vec Alternative) (last : Option (Vec Item)) → main_body (seen_statement (statements.If word test body alternatives last)) ≡ written_body (held_body body)
if_body word test body alternatives last = search (rules, the_lemmas, inner_items)

pub guarded_body : (guard : Guard) (word : Token) (test : Box Expression) (body : Vec Item) → main_body (seen_statement (statements.Guarded guard word test body)) ≡ written_body (held_body body)
guarded_body guard word test body = search (rules, the_lemmas, inner_items)

pub block_body : (word : Token) (exit : Option Token) (body : Vec Item) (found : Vec BlockClause) → main_body (seen_statement (statements.Block word exit body found)) ≡ written_body (held_body body)
block_body word exit body found = search (rules, the_lemmas, inner_items)

pub for_body : (word : Token) (found : Vec ForClause) (stop : Option (Box Stop)) (body : Vec Item) (last : Option (Vec Item)) → main_body (seen_statement (statements.For word found stop body last)) ≡ written_body (held_body body)
for_body word found stop body last = ap main_body (for_seen word found stop body last)
