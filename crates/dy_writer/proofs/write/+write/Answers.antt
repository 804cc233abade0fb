use Rattle.std.proofs.Common.{rules, ◌≡◌, ◌++◌, List, [], ◌∷◌, ◌<◌, length, codes, map, option_map, refl, sym, ap, ◌∙◌, arith}
use Rattle.std.proofs.Math.Logic.{⊎_elim}
use Rattle.std.proofs.lemmas.List.{append-nil}
use Rattle.std.proofs.lemmas.Result.{on_ok_weaker}
use Rattle.dy_tree.specs.Fragments.{one, seen_fragments, SeenFragment}
use Rattle.dy_tree.specs.declared.expression.Argument.TheViews.{the_lemmas}
use Rattle.dy_tree.specs.declared.expression.Keys.{out-Keys}
use Rattle.dy_tree.specs.declared.expression.LocalMethod.{out-LocalMethod}
use Rattle.dy_tree.specs.declared.expression.Parameters.{out-Parameters}
use Rattle.dy_tree.specs.declared.fragment.Fragment.{Fragment}
use Rattle.dy_tree.specs.declared.token.Token.{Token}
use Rattle.dy_rules.specs.Marks.{equals_mark, handler_mark, in_round, key_mark, semicolon_mark, statement_group, word_mark}
use Rattle.dy_rules.specs.SeenForms.{seen_tree, seen_statement, seen_argument, seen_item, seen_method, seen_clause, seen_for_clause, seen_parameters}
use Rattle.dy_rules.specs.SeenTypes.{seen_type, seen_required, seen_results}
use Rattle.dy_rules.specs.Trees as trees
use Rattle.dy_rules.specs.TypeWriting.{written_type, written_results, required_joined, next_joined, rest_joined}
use Rattle.dy_rules.specs.Writing.{written, written_argument, written_arguments, written_item, written_body, written_method, written_methods, written_alternative, written_alternatives, written_arm, written_arms, written_tests, written_clause, written_clauses, written_for_clause, written_for, written_key, first_keys, written_caught, written_stop, written_signature, written_keys, written_all}
use Rattle.dy_rules.specs.Held.{held_alternative, held_arm, held_key, held_arms, held_body, held_last, held_keys, held_clauses, held_stop}
use Rattle.dy_write_parts.specs.Breaks.{choice_break, clause_break}
use Rattle.dy_writer.specs.Plain.{behind_first, before_body, main_body, behind_body, last_body}
use Rattle.dy_writer.proofs.Appends.{two_parts, three_parts}
use Rattle.dy_writer.proofs.Joined.{first_step, items_step, parts_step}
use Rattle.dy_writer.proofs.Links.{at_call, at_if, at_block, at_for, at_local, at_afterwards, at_cleanup, at_exception, at_method, at_keys, at_parameters, at_case, at_select, at_loop, begin_body, method_body, if_body, guarded_body, block_body, for_body}
use Rattle.dy_writer.proofs.Statements.{no_operand}
use Rattle.dy_writer.proofs.Wholes.{arguments_joined, body_joined, methods_joined, arms_joined, tests_joined, loop_joined, keys_joined, alternatives_flat, clauses_flat}
use Rattle.dy_writer.proofs.write.+write.Goals as goal

pub bodies::push_body-loop-item-preserved : goal.bodies::push_body-loop-item-preserved
bodies::push_body-loop-item-preserved t c =
    let items = c.deref-item-items.result.now in
    let i = c.loop-item.item-index in
    let lt : i < length items = omega arith in
    record {
      first = first_step seen_item items i c.item-item.result lt c.item-item.is;
      out = items_step (codes ";") seen_item written_item (λ (xs : List trees.ItemTree). written_body (trees.body_of xs)) body_joined items i c.item-item.result lt c.item-item.is (seen_fragments c.args.out.now.items) _ _ _ c.loop-item.first c.loop-item.invariant.first c.loop-item.invariant.out c.in_ok-push_between.ensures c.in_ok-push_item.ensures;
    }

pub bodies::push_methods-loop-method-preserved : goal.bodies::push_methods-loop-method-preserved
bodies::push_methods-loop-method-preserved t c =
    let items = c.deref-method-items.result.now in
    let i = c.loop-method.method-index in
    let lt : i < length items = omega arith in
    record {
      first = first_step seen_method items i c.method-item.result lt c.method-item.is;
      out = items_step (codes ",") seen_method (λ (one : trees.LocalMethod). written_method one ∷ []) (λ (xs : List trees.LocalMethod). written_methods (trees.methods_of xs)) methods_joined items i c.method-item.result lt c.method-item.is (seen_fragments c.args.out.now.items) _ _ _ c.loop-method.first c.loop-method.invariant.first c.loop-method.invariant.out c.in_ok-push_between.ensures c.in_ok-push_method.ensures;
    }

pub choices::push_arms-loop-arm-preserved : goal.choices::push_arms-loop-arm-preserved
choices::push_arms-loop-arm-preserved t c =
    let items = c.deref-arm-items.result.now in
    let i = c.loop-arm.arm-index in
    let lt : i < length items = omega arith in
    record {
      first = first_step held_arm items i c.arm-item.result lt c.arm-item.is;
      out = items_step (codes ";") held_arm written_arm (λ (xs : List trees.Arm). written_arms (trees.arms_of xs)) arms_joined items i c.arm-item.result lt c.arm-item.is (seen_fragments c.args.out.now.items) _ _ _ c.loop-arm.first c.loop-arm.invariant.first c.loop-arm.invariant.out c.in_ok-push_between.ensures c.in_ok-push_arm.ensures;
    }

pub choices::push_tests-loop-test-preserved : goal.choices::push_tests-loop-test-preserved
choices::push_tests-loop-test-preserved t c =
    let items = c.deref-test-items.result.now in
    let i = c.loop-test.test-index in
    let lt : i < length items = omega arith in
    record {
      first = first_step seen_tree items i c.test-item.result lt c.test-item.is;
      out = items_step (codes ",") seen_tree written (λ (xs : List trees.Tree). written_tests (trees.tests_of xs)) tests_joined items i c.test-item.result lt c.test-item.is (seen_fragments c.args.out.now.items) _ _ _ c.loop-test.first c.loop-test.invariant.first c.loop-test.invariant.out c.in_ok-push_between.ensures c.in_ok-push_whole.ensures;
    }

pub expressions::push_arguments-loop-argument-preserved : goal.expressions::push_arguments-loop-argument-preserved
expressions::push_arguments-loop-argument-preserved t c =
    let items = c.deref-argument-items.result.now in
    let i = c.loop-argument.argument-index in
    let lt : i < length items = omega arith in
    record {
      first = first_step seen_argument items i c.argument-item.result lt c.argument-item.is;
      out = items_step (codes ",") seen_argument written_argument (λ (xs : List trees.Argument). written_arguments (trees.arguments_of xs)) arguments_joined items i c.argument-item.result lt c.argument-item.is (seen_fragments c.args.out.now.items) _ _ _ c.loop-argument.first c.loop-argument.invariant.first c.loop-argument.invariant.out c.in_ok-push_between.ensures c.in_ok-push_argument.ensures;
    }

pub loops::push_loop_clauses-loop-clause-preserved : goal.loops::push_loop_clauses-loop-clause-preserved
loops::push_loop_clauses-loop-clause-preserved t c =
    let items = c.deref-clause-items.result.now in
    let i = c.loop-clause.clause-index in
    let lt : i < length items = omega arith in
    record {
      first = first_step seen_for_clause items i c.clause-item.result lt c.clause-item.is;
      out = items_step (codes ",") seen_for_clause written_for_clause (λ (xs : List trees.ForClause). written_for (trees.for_clauses_of xs)) loop_joined items i c.clause-item.result lt c.clause-item.is (seen_fragments c.args.out.now.items) _ _ _ c.loop-clause.first c.loop-clause.invariant.first c.loop-clause.invariant.out c.in_ok-push_between.ensures c.in_ok-push_loop_clause.ensures;
    }

pub parameters::push_key_list-loop-key-preserved : goal.parameters::push_key_list-loop-key-preserved
parameters::push_key_list-loop-key-preserved t c =
    let items = c.deref-key-items.result.now in
    let i = c.loop-key.key-index in
    let lt : i < length items = omega arith in
    record {
      first = first_step held_key items i c.key-item.result lt c.key-item.is;
      out = items_step (codes ",") held_key written_key (λ (xs : List trees.Key). first_keys (trees.keys_of xs)) keys_joined items i c.key-item.result lt c.key-item.is (seen_fragments c.args.out.now.items) _ _ _ c.loop-key.first c.loop-key.invariant.first c.loop-key.invariant.out c.in_ok-push_between.ensures c.in_ok-push_key.ensures;
    }

pub statements::push_alternatives-loop-alternative-preserved : goal.statements::push_alternatives-loop-alternative-preserved
statements::push_alternatives-loop-alternative-preserved t c =
    let items = c.deref-alternative-items.result.now in
    let i = c.loop-alternative.alternative-index in
    let lt : i < length items = omega arith in
    parts_step held_alternative written_alternative (λ (xs : List trees.Alternative). written_alternatives (trees.alternatives_of xs)) alternatives_flat items i c.alternative-item.result lt c.alternative-item.is (seen_fragments c.args.out.now.items) _ _ c.loop-alternative.invariant c.in_ok-push_alternative.ensures

pub blocks::push_clauses-loop-clause-preserved : goal.blocks::push_clauses-loop-clause-preserved
blocks::push_clauses-loop-clause-preserved t c =
    let items = c.deref-clause-items.result.now in
    let i = c.loop-clause.clause-index in
    let lt : i < length items = omega arith in
    parts_step seen_clause written_clause (λ (xs : List trees.BlockClause). written_clauses (trees.block_clauses_of xs)) clauses_flat items i c.clause-item.result lt c.clause-item.is (seen_fragments c.args.out.now.items) _ _ c.loop-clause.invariant c.in_ok-push_clause.ensures

pub blocks::push_clause-returns-in_ok-push_word-in-Afterwards : goal.blocks::push_clause-returns-in_ok-push_word-in-Afterwards
blocks::push_clause-returns-in_ok-push_word-in-Afterwards t c =
    let body = written_body (held_body c.in-Afterwards.body) in
    let from : written_clause (seen_clause c.args.clause.now) ≡ word_mark (codes "afterwards") ∷ body = rw c.in-Afterwards.is (at_afterwards c.in-Afterwards.body) in
    on_ok_weaker c.push_body.result
    (λ done. two_parts (seen_fragments c.args.out.now.items) _ (seen_fragments c.push_body.new.out.items) (word_mark (codes "afterwards") ∷ []) body _ from c.in_ok-push_word-in-Afterwards.ensures done)
    c.push_body.ensures

pub blocks::push_clause-returns-in_ok-push_word-in-Cleanup : goal.blocks::push_clause-returns-in_ok-push_word-in-Cleanup
blocks::push_clause-returns-in_ok-push_word-in-Cleanup t c =
    let body = written_body (held_body c.in-Cleanup.body) in
    let from : written_clause (seen_clause c.args.clause.now) ≡ word_mark (codes "cleanup") ∷ body = rw c.in-Cleanup.is (at_cleanup c.in-Cleanup.body) in
    on_ok_weaker c.push_body-in-Cleanup.result
    (λ done. two_parts (seen_fragments c.args.out.now.items) _ (seen_fragments c.push_body-in-Cleanup.new.out.items) (word_mark (codes "cleanup") ∷ []) body _ from c.in_ok-push_word-in-Cleanup.ensures done)
    c.push_body-in-Cleanup.ensures

pub blocks::push_clause-returns-in_ok-push_exception-in-Exception : goal.blocks::push_clause-returns-in_ok-push_exception-in-Exception
blocks::push_clause-returns-in_ok-push_exception-in-Exception t c =
    let body = written_body (held_body c.in-Exception.body) in
    let caught = in_round (written_caught c.in-Exception.variable (seen_type c.in-Exception.condition)) in
    let from : written_clause (seen_clause c.args.clause.now) ≡ word_mark (codes "exception") ∷ caught ∷ body = rw c.in-Exception.is (at_exception c.in-Exception.variable c.in-Exception.condition c.in-Exception.body) in
    on_ok_weaker c.push_body-in-Exception.result
    (λ done. two_parts (seen_fragments c.args.out.now.items) _ (seen_fragments c.push_body-in-Exception.new.out.items) (word_mark (codes "exception") ∷ caught ∷ []) body _ from c.in_ok-push_exception-in-Exception.ensures done)
    c.push_body-in-Exception.ensures

pub bodies::push_item-returns-in_ok-push_equals-in-Handler : goal.bodies::push_item-returns-in_ok-push_equals-in-Handler
bodies::push_item-returns-in_ok-push_equals-in-Handler t c =
    let condition = written_type (seen_type c.in-Handler.condition) in
    let handler = written (seen_tree c.in-Handler.handler) in
    let from : written_item (seen_item c.args.item.now) ≡ one c.in-Handler.word ∷ handler_mark ∷ (condition ++ equals_mark ∷ handler) = rw c.in-Handler.is (search (rules, the_lemmas)) in
    let new = seen_fragments c.push_whole-in-Handler.new.out.items in
    on_ok_weaker c.push_whole-in-Handler.result
    (λ done.
    two_parts (seen_fragments c.args.out.now.items) _ new (one c.in-Handler.word ∷ []) (handler_mark ∷ (condition ++ equals_mark ∷ handler)) _ from
    (c.in_ok-push_token-in-Handler.ensures ∙ ap (λ (token : Token). seen_fragments c.args.out.now.items ++ one token ∷ []) c.in_ok-copy-in-Handler.ensures)
    (two_parts _ _ new (handler_mark ∷ []) (condition ++ equals_mark ∷ handler) _ refl c.in_ok-push_word-in-Handler.ensures
    (three_parts _ _ _ new condition (equals_mark ∷ []) handler _ refl c.in_ok-push_type-in-Handler.ensures c.in_ok-push_equals-in-Handler.ensures done)))
    c.push_whole-in-Handler.ensures

pub bodies::push_item-returns-in_ok-push_token-in-Local : goal.bodies::push_item-returns-in_ok-push_token-in-Local
bodies::push_item-returns-in_ok-push_token-in-Local t c =
    let methods = written_methods (trees.methods_of (map seen_method c.in-Local.methods.items)) in
    let from : written_item (seen_item c.args.item.now) ≡ one c.in-Local.word ∷ methods = rw c.in-Local.is (at_local c.in-Local.word c.in-Local.methods) in
    on_ok_weaker c.push_methods.result
    (λ done.
    two_parts (seen_fragments c.args.out.now.items) _ (seen_fragments c.push_methods.new.out.items) (one c.in-Local.word ∷ []) methods _ from
    (c.in_ok-push_token-in-Local.ensures ∙ ap (λ (token : Token). seen_fragments c.args.out.now.items ++ one token ∷ []) c.in_ok-copy-in-Local.ensures) done)
    c.push_methods.ensures

pub bodies::push_method-returns : goal.bodies::push_method-returns
bodies::push_method-returns t c =
    let found = out-LocalMethod c.args.method.now in
    let signature = written_signature (seen_parameters found.parameters) in
    let body = written_body (held_body found.body) in
    let started = c.in_ok-push_token.ensures ∙ ap (λ (token : Token). seen_fragments c.new-inner.result.items ++ one token ∷ []) c.in_ok-copy.ensures ∙ ap (λ (fragments : List Fragment). seen_fragments fragments ++ one found.name ∷ []) c.new-inner.ensures.items in
    let inner : seen_fragments c.push_body.new.out.items ≡ one found.name ∷ (signature ++ semicolon_mark ∷ body) =
    two_parts [] _ (seen_fragments c.push_body.new.out.items) (one found.name ∷ []) (signature ++ semicolon_mark ∷ body) _ refl started
    (three_parts _ _ _ (seen_fragments c.push_body.new.out.items) signature (semicolon_mark ∷ []) body _ refl c.in_ok-push_signature.ensures c.in_ok-push_mark.ensures c.in_ok-push_body.ensures)
    in
    on_ok_weaker c.push_statement.result
    (λ done.
    done ∙ ap (λ (fs : List SeenFragment). seen_fragments c.args.out.now.items ++ statement_group found.word fs ∷ []) inner
    ∙ ap (λ (fragment : SeenFragment). seen_fragments c.args.out.now.items ++ fragment ∷ []) (sym (at_method c.args.method.now)))
    c.push_statement.ensures

pub expressions::push_behind_first-returns-in_ok-push_arguments-in-Call : goal.expressions::push_behind_first-returns-in_ok-push_arguments-in-Call
expressions::push_behind_first-returns-in_ok-push_arguments-in-Call t c =
    let arguments = written_arguments (trees.arguments_of (map seen_argument c.in-Call.arguments.items)) in
    let from : behind_first (seen_tree c.args.form.now) ≡ in_round arguments ∷ [] = rw c.in-Call.is (at_call c.in-Call.function c.in-Call.arguments) in
    let inner : seen_fragments c.push_arguments.new.out.items ≡ arguments = c.in_ok-push_arguments-in-Call.ensures ∙ ap (λ (fragments : List Fragment). seen_fragments fragments ++ arguments) c.new-inner.ensures.items in
    on_ok_weaker c.push_round.result
    (λ round. round ∙ ap (λ (fs : List SeenFragment). seen_fragments c.args.out.now.items ++ in_round fs ∷ []) inner ∙ ap (λ (fs : List SeenFragment). seen_fragments c.args.out.now.items ++ fs) (sym from))
    c.push_round.ensures

pub expressions::push_behind_first-returns-in_default : goal.expressions::push_behind_first-returns-in_default
expressions::push_behind_first-returns-in_default t c =
    let out = seen_fragments c.args.out.now.items in
    let none = no_operand c.args.form.now c.in_default.not-Assign c.in_default.not-Operation c.in_default.not-Call c.in_default.not-Element c.in_default.not-Member in
    sym (append-nil out) ∙ ap (λ (fragments : List SeenFragment). out ++ fragments) (sym none)

pub parameters::push_keys-returns-in_ok-push_key_list-in-Some : goal.parameters::push_keys-returns-in_ok-push_key_list-in-Some
parameters::push_keys-returns-in_ok-push_key_list-in-Some t c =
    let found = out-Keys c.in-Some.keys in
    let keys = first_keys (trees.keys_of (map held_key found.keys.items)) in
    let from : written_keys (held_keys c.args.keys.now) ≡ key_mark ∷ (keys ++ written_all found.takes_all) = rw c.in-Some.is (at_keys c.in-Some.keys) in
    on_ok_weaker c.push_all_keys.result
    (λ done.
    three_parts (seen_fragments c.args.out.now.items) _ _ (seen_fragments c.push_all_keys.new.out.items) (key_mark ∷ []) keys (written_all found.takes_all) _ from c.in_ok-push_key_mark-in-Some.ensures c.in_ok-push_key_list-in-Some.ensures done)
    c.push_all_keys.ensures

pub parameters::push_signature-returns : goal.parameters::push_signature-returns
parameters::push_signature-returns t c =
    let found = out-Parameters c.args.parameters.now in
    let keys = written_keys (held_keys found.keys) in
    let listed = λ (fs : List SeenFragment). in_round (required_joined (map seen_required found.required.items) (next_joined found.next (rest_joined found.rest fs))) ∷ [] in
    let from : written_signature (seen_parameters c.args.parameters.now) ≡ listed keys ++ written_results (option_map seen_results found.results) = ap written_signature (at_parameters c.args.parameters.now) in
    let inner : seen_fragments c.push_keys.new.out.items ≡ keys = c.in_ok-push_keys.ensures ∙ ap (λ (fragments : List Fragment). seen_fragments fragments ++ keys) c.new-keys.ensures.items in
    on_ok_weaker c.push_results.result
    (λ done.
    two_parts (seen_fragments c.args.out.now.items) _ (seen_fragments c.push_results.new.out.items) (listed keys) (written_results (option_map seen_results found.results)) _ from
    (c.in_ok-push_listed.ensures ∙ ap (λ (fs : List SeenFragment). seen_fragments c.args.out.now.items ++ listed fs) inner) done)
    c.push_results.ensures

pub statements::push_behind_body-returns-in_ok-push_alternatives-in-If : goal.statements::push_behind_body-returns-in_ok-push_alternatives-in-If
statements::push_behind_body-returns-in_ok-push_alternatives-in-If t c =
    let alternatives = written_alternatives (trees.alternatives_of (map held_alternative c.in-If.alternatives.items)) in
    let last = last_body (codes "else") (held_last c.in-If.otherwise) in
    let from : behind_body (seen_statement c.args.statement.now) ≡ alternatives ++ last = rw c.in-If.is (at_if c.in-If.word c.in-If.test c.in-If.body c.in-If.alternatives c.in-If.otherwise) in
    on_ok_weaker c.push_last.result
    (λ done. two_parts (seen_fragments c.args.out.now.items) _ (seen_fragments c.push_last.new.out.items) alternatives last _ from c.in_ok-push_alternatives-in-If.ensures done)
    c.push_last.ensures

pub statements::push_behind_body-returns-in-Block : goal.statements::push_behind_body-returns-in-Block
statements::push_behind_body-returns-in-Block t c =
    let from : behind_body (seen_statement c.args.statement.now) ≡ written_clauses (trees.block_clauses_of (map seen_clause c.in-Block.clauses.items)) = rw c.in-Block.is (at_block c.in-Block.word c.in-Block.exit c.in-Block.body c.in-Block.clauses) in
    on_ok_weaker c.push_clauses.result (λ done. done ∙ ap (λ (fs : List SeenFragment). seen_fragments c.args.out.now.items ++ fs) (sym from)) c.push_clauses.ensures

pub statements::push_behind_body-returns-in-For : goal.statements::push_behind_body-returns-in-For
statements::push_behind_body-returns-in-For t c =
    let from : behind_body (seen_statement c.args.statement.now) ≡ last_body (codes "finally") (held_last c.in-For.finally) = rw c.in-For.is (at_for c.in-For.word c.in-For.clauses c.in-For.stop c.in-For.body c.in-For.finally) in
    on_ok_weaker c.push_last-in-For.result (λ done. done ∙ ap (λ (fs : List SeenFragment). seen_fragments c.args.out.now.items ++ fs) (sym from)) c.push_last-in-For.ensures

pub statements::push_behind_body-returns-in_ok-push_choice_break-in-Case : goal.statements::push_behind_body-returns-in_ok-push_choice_break-in-Case
statements::push_behind_body-returns-in_ok-push_choice_break-in-Case t c =
    let arms = held_arms c.in-Case.arms in
    let last = held_last c.in-Case.otherwise in
    let from : behind_body (seen_statement c.args.statement.now) ≡ written_arms arms ++ (choice_break arms last ++ last_body (codes "otherwise") last) =
    ⊎_elim (λ case. rw case.1 (at_case case.0 c.in-Case.arms c.in-Case.otherwise)) (λ select. rw select.3 (at_select select.0 select.1 select.2 c.in-Case.arms c.in-Case.otherwise)) c.in-Case.is
    in
    on_ok_weaker c.push_last-in-Case.result
    (λ done.
    three_parts (seen_fragments c.args.out.now.items) _ _ (seen_fragments c.push_last-in-Case.new.out.items) (written_arms arms) (choice_break arms last) (last_body (codes "otherwise") last) _ from
    c.in_ok-push_arms-in-Case.ensures c.in_ok-push_choice_break-in-Case.ensures done)
    c.push_last-in-Case.ensures

pub statements::push_before_body-returns-in_ok-push_stop-in-For : goal.statements::push_before_body-returns-in_ok-push_stop-in-For
statements::push_before_body-returns-in_ok-push_stop-in-For t c =
    let found = held_clauses c.in-For.clauses in
    let stop = held_stop c.in-For.stop in
    let parts = written_for found ++ (clause_break found stop ++ written_stop stop) in
    let from : before_body (seen_statement c.args.statement.now) ≡ in_round parts ∷ [] = rw c.in-For.is (at_loop c.in-For.word c.in-For.clauses c.in-For.stop c.in-For.body c.in-For.finally) in
    let inner : seen_fragments c.push_stop.new.out.items ≡ parts =
    three_parts (seen_fragments c.new-inner-in-For.result.items) _ _ (seen_fragments c.push_stop.new.out.items) (written_for found) (clause_break found stop) (written_stop stop) _ refl
    c.in_ok-push_loop_clauses-in-For.ensures c.in_ok-push_clause_break-in-For.ensures c.in_ok-push_stop-in-For.ensures
    ∙ ap (λ (fragments : List Fragment). seen_fragments fragments ++ parts) c.new-inner-in-For.ensures.items
    in
    on_ok_weaker c.push_round-in-For.result
    (λ round. round ∙ ap (λ (fs : List SeenFragment). seen_fragments c.args.out.now.items ++ in_round fs ∷ []) inner ∙ ap (λ (fs : List SeenFragment). seen_fragments c.args.out.now.items ++ fs) (sym from))
    c.push_round-in-For.ensures

pub statements::push_main_body-returns-in-Begin : goal.statements::push_main_body-returns-in-Begin
statements::push_main_body-returns-in-Begin t c =
    let body = c.in-Begin.body in
    let from : main_body (seen_statement c.args.statement.now) ≡ written_body (held_body body) =
    ⊎_elim (λ h. rw h.1 (begin_body h.0 body))
    (⊎_elim (λ h. rw h.2 (method_body h.0 h.1 body))
    (⊎_elim (λ h. rw h.4 (if_body h.0 h.1 body h.2 h.3))
    (⊎_elim (λ h. rw h.3 (guarded_body h.0 h.1 h.2 body)) (⊎_elim (λ h. rw h.3 (block_body h.0 h.1 body h.2)) (λ h. rw h.4 (for_body h.0 h.1 h.2 body h.3))))))
    c.in-Begin.is
    in
    on_ok_weaker c.push_body.result (λ done. done ∙ ap (λ (fs : List SeenFragment). seen_fragments c.args.out.now.items ++ fs) (sym from)) c.push_body.ensures
