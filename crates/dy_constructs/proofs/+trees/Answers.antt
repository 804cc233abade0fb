use Rattle.std.proofs.Common.{◌≡◌, ℕ, ◌<◌, Bool, not, length, ◌∷◌, ◌++◌, map, flat_map, option_map, refl, sym, ap, ◌∙◌, rules, arith}
use Rattle.dy_construct_parts.specs.declared.construct.Construct.TheVariants as constructs
use Rattle.dy_construct_parts.specs.Table.{absent, first_absent, by_count, where_given, where_true}
use Rattle.dy_tree.specs.declared.expression.Argument.TheViews.{the_lemmas}
use Rattle.dy_rules.specs.ConstantTrees.{tail_of}
use Rattle.dy_rules.specs.Trees as trees
use Rattle.dy_rules.specs.SeenTypes.{seen_constant, seen_target, seen_type, seen_variable}
use Rattle.dy_rules.specs.SeenForms.{seen_tree, seen_statement, seen_argument, seen_item, seen_clause, seen_for_clause, seen_initial, seen_parameters}
use Rattle.dy_rules.specs.Held.{held_body, held_last, held_limit, held_stop, held_test}
use Rattle.dy_construct_parts.specs.Words.{binary, guarded, next_method}
use Rattle.dy_construct_parts.specs.Parts.{in_constant, in_tail, in_target, in_type, in_variable}
use Rattle.dy_constructs.specs.Bodies.{as_function, as_value, as_test, in_tree, in_value, in_test, in_called, in_arguments, in_item, in_body, in_clause, in_else, in_last, in_limit, in_loop_clause, in_maybe, in_parameters, in_stop, in_tests}
use Rattle.dy_constructs.specs.Held.{held_value, held_argument, held_item, held_method, held_alternative, held_arm, held_clause, held_loop_clause, held_key}
use Rattle.dy_construct_parts.proofs.Firsts.{and_part, parts_1, parts_2, parts_3, parts_4, lists_3, lists_5, found_step}
use Rattle.dy_construct_parts.proofs.PartRows.{constants_flat}
use Rattle.dy_constructs.proofs.Rows.{arguments_counted, body_counted, tests_flat}
use Rattle.dy_constructs.proofs.Links.{at_call, at_begin, at_method, at_if, at_guarded, at_case, at_select, at_block, at_for, at_local, at_local_method, at_afterwards, at_cleanup, at_exception, at_from, at_keys, at_parameters, held, held_row}
use Rattle.dy_constructs.proofs.+trees.Goals as goal

pub expressions::in_each_argument-loop-argument-preserved : goal.expressions::in_each_argument-loop-argument-preserved
expressions::in_each_argument-loop-argument-preserved t c =
    let items = c.deref-argument-items.result.now in
    let lt : c.loop-argument.argument-index < length items = omega arith in
    found_step held_argument items c.loop-argument.argument-index c.argument-item.result lt c.argument-item.is _ _ _ c.loop-argument.invariant c.in_argument.ensures c.or-found.ensures

pub bodies::in_items-loop-item-preserved : goal.bodies::in_items-loop-item-preserved
bodies::in_items-loop-item-preserved t c =
    let items = c.deref-item-items.result.now in
    let lt : c.loop-item.item-index < length items = omega arith in
    found_step held_item items c.loop-item.item-index c.item-item.result lt c.item-item.is _ _ _ c.loop-item.invariant c.in_item.ensures c.or-found.ensures

pub parameters::in_methods-loop-method-preserved : goal.parameters::in_methods-loop-method-preserved
parameters::in_methods-loop-method-preserved t c =
    let items = c.deref-method-items.result.now in
    let lt : c.loop-method.method-index < length items = omega arith in
    found_step held_method items c.loop-method.method-index c.method-item.result lt c.method-item.is _ _ _ c.loop-method.invariant c.in_method.ensures c.or-found.ensures

pub parameters::in_key_row-loop-key-preserved : goal.parameters::in_key_row-loop-key-preserved
parameters::in_key_row-loop-key-preserved t c =
    let items = c.deref-key-items.result.now in
    let lt : c.loop-key.key-index < length items = omega arith in
    found_step held_key items c.loop-key.key-index c.key-item.result lt c.key-item.is _ _ _ c.loop-key.invariant c.in_key.ensures c.or-found.ensures

pub choices::in_alternatives-loop-alternative-preserved : goal.choices::in_alternatives-loop-alternative-preserved
choices::in_alternatives-loop-alternative-preserved t c =
    let items = c.deref-alternative-items.result.now in
    let lt : c.loop-alternative.alternative-index < length items = omega arith in
    found_step held_alternative items c.loop-alternative.alternative-index c.alternative-item.result lt c.alternative-item.is _ _ _ c.loop-alternative.invariant c.in_alternative.ensures c.or-found.ensures

pub choices::in_arms-loop-arm-preserved : goal.choices::in_arms-loop-arm-preserved
choices::in_arms-loop-arm-preserved t c =
    let items = c.deref-arm-items.result.now in
    let lt : c.loop-arm.arm-index < length items = omega arith in
    found_step held_arm items c.loop-arm.arm-index c.arm-item.result lt c.arm-item.is _ _ _ c.loop-arm.invariant c.in_arm.ensures c.or-found.ensures

pub choices::in_tests-loop-test-preserved : goal.choices::in_tests-loop-test-preserved
choices::in_tests-loop-test-preserved t c =
    let items = c.deref-test-items.result.now in
    let lt : c.loop-test.test-index < length items = omega arith in
    found_step held_value items c.loop-test.test-index c.test-item.result lt c.test-item.is _ _ _ c.loop-test.invariant c.in_value.ensures c.or-found.ensures

pub scopes::in_clauses-loop-clause-preserved : goal.scopes::in_clauses-loop-clause-preserved
scopes::in_clauses-loop-clause-preserved t c =
    let items = c.deref-clause-items.result.now in
    let lt : c.loop-clause.clause-index < length items = omega arith in
    found_step held_clause items c.loop-clause.clause-index c.clause-item.result lt c.clause-item.is _ _ _ c.loop-clause.invariant c.in_clause.ensures c.or-found.ensures

pub scopes::in_loop-loop-clause-preserved : goal.scopes::in_loop-loop-clause-preserved
scopes::in_loop-loop-clause-preserved t c =
    let items = c.deref-clause-items.result.now in
    let lt : c.loop-clause.clause-index < length items = omega arith in
    found_step held_loop_clause items c.loop-clause.clause-index c.clause-item.result lt c.clause-item.is _ _ _ c.loop-clause.invariant c.in_loop_clause.ensures c.or-found.ensures

pub expressions::in_tree-returns-in-Assign : goal.expressions::in_tree-returns-in-Assign
expressions::in_tree-returns-in-Assign t c =
    let part_0 = in_tree (seen_tree c.in-Assign.place.value) in
    let part_1 = in_value (seen_tree c.in-Assign.value.value) in
    let from : in_tree (seen_tree c.args.expression.now) ≡ constructs.Assignment ∷ (part_0 ++ part_1) = rw c.in-Assign.is refl in
    parts_2 _ _ _ _ _ (constructs.Assignment) part_0 part_1 c.absent.ensures (held in_tree _ _ c.in-Assign.place.value c.in_tree.ensures c.deref.ensures) c.or.ensures (held in_value _ _ c.in-Assign.value.value c.in_value.ensures c.deref-in-Assign.ensures) c.or-in-Assign.ensures ∙ sym (ap first_absent from)

pub expressions::in_tree-returns-in-Operation : goal.expressions::in_tree-returns-in-Operation
expressions::in_tree-returns-in-Operation t c =
    let part_0 = in_value (seen_tree c.in-Operation.left.value) in
    let part_1 = in_value (seen_tree c.in-Operation.right.value) in
    let from : in_tree (seen_tree c.args.expression.now) ≡ binary c.in-Operation.operator ∷ (part_0 ++ part_1) = rw c.in-Operation.is refl in
    parts_2 _ _ _ _ _ (binary c.in-Operation.operator) part_0 part_1 (c.absent-in-Operation.ensures ∙ ap absent c.binary.ensures) (held in_value _ _ c.in-Operation.left.value c.in_value-in-Operation.ensures c.deref-in-Operation.ensures) c.or-in-Operation.ensures (held in_value _ _ c.in-Operation.right.value c.in_value-in-Operation-2.ensures c.deref-in-Operation-2.ensures) c.or-in-Operation-2.ensures ∙ sym (ap first_absent from)

pub expressions::in_tree-returns-in-Call : goal.expressions::in_tree-returns-in-Call
expressions::in_tree-returns-in-Call t c =
    let part_0 = in_called (seen_tree c.in-Call.function.value) in
    let part_1 = in_arguments (trees.arguments_of (map seen_argument c.in-Call.arguments.items)) in
    let from : in_tree (seen_tree c.args.expression.now) ≡ constructs.Call ∷ (part_0 ++ part_1) = rw c.in-Call.is (at_call c.in-Call.function c.in-Call.arguments) in
    parts_2 _ _ _ _ _ (constructs.Call) part_0 part_1 c.absent-in-Call.ensures (held in_called _ _ c.in-Call.function.value c.in_called.ensures c.deref-in-Call.ensures) c.or-in-Call.ensures c.in_arguments.ensures c.or-in-Call-2.ensures ∙ sym (ap first_absent from)

pub expressions::in_tree-returns-in-Element : goal.expressions::in_tree-returns-in-Element
expressions::in_tree-returns-in-Element t c =
    let part_0 = in_value (seen_tree c.in-Element.object.value) in
    let part_1 = in_value (seen_tree c.in-Element.index.value) in
    let from : in_tree (seen_tree c.args.expression.now) ≡ constructs.Element ∷ (part_0 ++ part_1) = rw c.in-Element.is refl in
    parts_2 _ _ _ _ _ (constructs.Element) part_0 part_1 c.absent-in-Element.ensures (held in_value _ _ c.in-Element.object.value c.in_value-in-Element.ensures c.deref-in-Element.ensures) c.or-in-Element.ensures (held in_value _ _ c.in-Element.index.value c.in_value-in-Element-2.ensures c.deref-in-Element-2.ensures) c.or-in-Element-2.ensures ∙ sym (ap first_absent from)

pub expressions::in_tree-returns-in-Member : goal.expressions::in_tree-returns-in-Member
expressions::in_tree-returns-in-Member t c =
    let part_0 = next_method c.in-Member.name in
    let part_1 = in_value (seen_tree c.in-Member.object.value) in
    let from : in_tree (seen_tree c.args.expression.now) ≡ constructs.Member ∷ (part_0 ++ part_1) = rw c.in-Member.is refl in
    parts_2 _ _ _ _ _ (constructs.Member) part_0 part_1 c.absent-in-Member.ensures c.next_method.ensures c.or-in-Member.ensures (held in_value _ _ c.in-Member.object.value c.in_value-in-Member.ensures c.deref-in-Member.ensures) c.or-in-Member-2.ensures ∙ sym (ap first_absent from)

pub expressions::in_tree-returns-in-List : goal.expressions::in_tree-returns-in-List
expressions::in_tree-returns-in-List t c =
    let part_0 = flat_map in_constant (map seen_constant c.in-List.items.items) in
    let part_1 = in_tail (tail_of (option_map seen_constant c.in-List.tail)) in
    let from : in_tree (seen_tree c.args.expression.now) ≡ constructs.List ∷ (part_0 ++ part_1) = rw c.in-List.is (search (rules, the_lemmas, constants_flat)) in
    parts_2 _ _ _ _ _ (constructs.List) part_0 part_1 c.absent-in-List.ensures c.in_constants.ensures c.or-in-List.ensures c.in_tail.ensures c.or-in-List-2.ensures ∙ sym (ap first_absent from)

pub expressions::in_tree-returns-in-Vector : goal.expressions::in_tree-returns-in-Vector
expressions::in_tree-returns-in-Vector t c =
    let part_0 = flat_map in_constant (map seen_constant c.in-Vector.items.items) in
    let from : in_tree (seen_tree c.args.expression.now) ≡ constructs.Vector ∷ (part_0) = rw c.in-Vector.is (search (rules, the_lemmas, constants_flat)) in
    parts_1 _ _ _ (constructs.Vector) part_0 c.absent-in-Vector.ensures c.in_constants-in-Vector.ensures c.or-in-Vector.ensures ∙ sym (ap first_absent from)

pub statements::in_statement-returns-in-Begin : goal.statements::in_statement-returns-in-Begin
statements::in_statement-returns-in-Begin t c =
    let part_0 = in_body (held_body c.in-Begin.body) in
    let from : in_tree (seen_statement c.args.statement.now) ≡ constructs.Begin ∷ (part_0) = rw c.in-Begin.is (at_begin c.in-Begin.word c.in-Begin.body) in
    parts_1 _ _ _ (constructs.Begin) part_0 c.absent.ensures c.in_body.ensures c.or.ensures ∙ sym (ap first_absent from)

pub statements::in_statement-returns-in-Method : goal.statements::in_statement-returns-in-Method
statements::in_statement-returns-in-Method t c =
    let part_0 = in_parameters (seen_parameters c.in-Method.parameters.value) in
    let part_1 = in_body (held_body c.in-Method.body) in
    let from : in_tree (seen_statement c.args.statement.now) ≡ constructs.AnonymousMethod ∷ (part_0 ++ part_1) = rw c.in-Method.is (at_method c.in-Method.word c.in-Method.parameters c.in-Method.body) in
    parts_2 _ _ _ _ _ (constructs.AnonymousMethod) part_0 part_1 c.absent-in-Method.ensures (held_row _ _ c.in-Method.parameters.value c.in_parameters.ensures c.deref.ensures) c.or-in-Method.ensures c.in_body-in-Method.ensures c.or-in-Method-2.ensures ∙ sym (ap first_absent from)

pub statements::in_statement-returns-in-If : goal.statements::in_statement-returns-in-If
statements::in_statement-returns-in-If t c =
    let part_0 = in_test (seen_tree c.in-If.test.value) in
    let part_1 = in_body (held_body c.in-If.body) in
    let part_2 = flat_map held_alternative c.in-If.alternatives.items in
    let part_3 = in_else (held_last c.in-If.otherwise) in
    let from : in_tree (seen_statement c.args.statement.now) ≡ constructs.If ∷ (part_0 ++ part_1 ++ part_2 ++ part_3) = rw c.in-If.is (at_if c.in-If.word c.in-If.test c.in-If.body c.in-If.alternatives c.in-If.otherwise) in
    parts_4 _ _ _ _ _ _ _ _ _ (constructs.If) part_0 part_1 part_2 part_3 c.absent-in-If.ensures (held in_test _ _ c.in-If.test.value c.in_test.ensures c.deref-in-If.ensures) c.or-in-If.ensures c.in_body-in-If.ensures c.or-in-If-2.ensures c.in_alternatives.ensures c.or-in-If-3.ensures c.in_else.ensures c.or-in-If-4.ensures ∙ sym (ap first_absent from)

pub statements::in_statement-returns-in-Guarded : goal.statements::in_statement-returns-in-Guarded
statements::in_statement-returns-in-Guarded t c =
    let part_0 = in_test (seen_tree c.in-Guarded.test.value) in
    let part_1 = in_body (held_body c.in-Guarded.body) in
    let from : in_tree (seen_statement c.args.statement.now) ≡ guarded c.in-Guarded.guard ∷ (part_0 ++ part_1) = rw c.in-Guarded.is (at_guarded c.in-Guarded.guard c.in-Guarded.word c.in-Guarded.test c.in-Guarded.body) in
    parts_2 _ _ _ _ _ (guarded c.in-Guarded.guard) part_0 part_1 (c.absent-in-Guarded.ensures ∙ ap absent c.guarded.ensures) (held in_test _ _ c.in-Guarded.test.value c.in_test-in-Guarded.ensures c.deref-in-Guarded.ensures) c.or-in-Guarded.ensures c.in_body-in-Guarded.ensures c.or-in-Guarded-2.ensures ∙ sym (ap first_absent from)

pub statements::in_statement-returns-in-Case : goal.statements::in_statement-returns-in-Case
statements::in_statement-returns-in-Case t c =
    let part_0 = flat_map held_arm c.in-Case.arms.items in
    let part_1 = in_last constructs.Otherwise (held_last c.in-Case.otherwise) in
    let from : in_tree (seen_statement c.args.statement.now) ≡ constructs.Case ∷ (part_0 ++ part_1) = rw c.in-Case.is (at_case c.in-Case.word c.in-Case.arms c.in-Case.otherwise) in
    parts_2 _ _ _ _ _ (constructs.Case) part_0 part_1 c.absent-in-Case.ensures c.in_arms.ensures c.or-in-Case.ensures c.in_last.ensures c.or-in-Case-2.ensures ∙ sym (ap first_absent from)

pub statements::in_statement-returns-in-Select : goal.statements::in_statement-returns-in-Select
statements::in_statement-returns-in-Select t c =
    let part_0 = in_value (seen_tree c.in-Select.value.value) in
    let part_1 = in_maybe constructs.SelectTest (held_test c.in-Select.test) in
    let part_2 = flat_map held_arm c.in-Select.arms.items in
    let part_3 = in_last constructs.Otherwise (held_last c.in-Select.otherwise) in
    let from : in_tree (seen_statement c.args.statement.now) ≡ constructs.Select ∷ (part_0 ++ part_1 ++ part_2 ++ part_3) = rw c.in-Select.is (at_select c.in-Select.word c.in-Select.value c.in-Select.test c.in-Select.arms c.in-Select.otherwise) in
    parts_4 _ _ _ _ _ _ _ _ _ (constructs.Select) part_0 part_1 part_2 part_3 c.absent-in-Select.ensures (held in_value _ _ c.in-Select.value.value c.in_value.ensures c.deref-in-Select.ensures) c.or-in-Select.ensures c.in_selector.ensures c.or-in-Select-2.ensures c.in_arms-in-Select.ensures c.or-in-Select-3.ensures c.in_last-in-Select.ensures c.or-in-Select-4.ensures ∙ sym (ap first_absent from)

pub statements::in_statement-returns-in-Block : goal.statements::in_statement-returns-in-Block
statements::in_statement-returns-in-Block t c =
    let part_0 = where_given constructs.BlockExit c.in-Block.exit in
    let part_1 = in_body (held_body c.in-Block.body) in
    let part_2 = flat_map held_clause c.in-Block.clauses.items in
    let from : in_tree (seen_statement c.args.statement.now) ≡ constructs.Block ∷ (part_0 ++ part_1 ++ part_2) = rw c.in-Block.is (at_block c.in-Block.word c.in-Block.exit c.in-Block.body c.in-Block.clauses) in
    parts_3 _ _ _ _ _ _ _ (constructs.Block) part_0 part_1 part_2 c.absent-in-Block.ensures c.where_given.ensures c.or-in-Block.ensures c.in_body-in-Block.ensures c.or-in-Block-2.ensures c.in_clauses.ensures c.or-in-Block-3.ensures ∙ sym (ap first_absent from)

pub statements::in_statement-returns-in-For : goal.statements::in_statement-returns-in-For
statements::in_statement-returns-in-For t c =
    let part_0 = flat_map held_loop_clause c.in-For.clauses.items in
    let part_1 = in_stop (held_stop c.in-For.stop) in
    let part_2 = in_body (held_body c.in-For.body) in
    let part_3 = in_last constructs.Finally (held_last c.in-For.finally) in
    let from : in_tree (seen_statement c.args.statement.now) ≡ constructs.For ∷ (part_0 ++ part_1 ++ part_2 ++ part_3) = rw c.in-For.is (at_for c.in-For.word c.in-For.clauses c.in-For.stop c.in-For.body c.in-For.finally) in
    parts_4 _ _ _ _ _ _ _ _ _ (constructs.For) part_0 part_1 part_2 part_3 c.absent-in-For.ensures c.in_loop.ensures c.or-in-For.ensures c.in_stop.ensures c.or-in-For-2.ensures c.in_body-in-For.ensures c.or-in-For-3.ensures c.in_last-in-For.ensures c.or-in-For-4.ensures ∙ sym (ap first_absent from)

pub bodies::in_item-returns-in-Let : goal.bodies::in_item-returns-in-Let
bodies::in_item-returns-in-Let t c =
    let part_0 = in_target (seen_target c.in-Let.target) in
    let part_1 = in_value (seen_tree c.in-Let.value) in
    let from : in_item (seen_item c.args.item.now) ≡ constructs.Let ∷ (part_0 ++ part_1) = rw c.in-Let.is refl in
    parts_2 _ _ _ _ _ (constructs.Let) part_0 part_1 c.absent.ensures c.in_target.ensures c.or.ensures c.in_value.ensures c.or-in-Let.ensures ∙ sym (ap first_absent from)

pub bodies::in_item-returns-in-Handler : goal.bodies::in_item-returns-in-Handler
bodies::in_item-returns-in-Handler t c =
    let part_0 = in_type (seen_type c.in-Handler.condition) in
    let part_1 = in_value (seen_tree c.in-Handler.handler) in
    let from : in_item (seen_item c.args.item.now) ≡ constructs.LetHandler ∷ (part_0 ++ part_1) = rw c.in-Handler.is refl in
    parts_2 _ _ _ _ _ (constructs.LetHandler) part_0 part_1 c.absent-in-Handler.ensures c.in_type.ensures c.or-in-Handler.ensures c.in_value-in-Handler.ensures c.or-in-Handler-2.ensures ∙ sym (ap first_absent from)

pub bodies::in_item-returns-in-Local : goal.bodies::in_item-returns-in-Local
bodies::in_item-returns-in-Local t c =
    let part_0 = flat_map held_method c.in-Local.methods.items in
    let from : in_item (seen_item c.args.item.now) ≡ constructs.LocalMethods ∷ (part_0) = rw c.in-Local.is (at_local c.in-Local.word c.in-Local.methods) in
    parts_1 _ _ _ (constructs.LocalMethods) part_0 c.absent-in-Local.ensures c.in_methods.ensures c.or-in-Local.ensures ∙ sym (ap first_absent from)

pub scopes::in_clause-returns-in-Afterwards : goal.scopes::in_clause-returns-in-Afterwards
scopes::in_clause-returns-in-Afterwards t c =
    let part_0 = in_body (held_body c.in-Afterwards.body) in
    let from : in_clause (seen_clause c.args.clause.now) ≡ constructs.Afterwards ∷ (part_0) = rw c.in-Afterwards.is (at_afterwards c.in-Afterwards.body) in
    parts_1 _ _ _ (constructs.Afterwards) part_0 c.absent.ensures c.in_body.ensures c.or.ensures ∙ sym (ap first_absent from)

pub scopes::in_clause-returns-in-Cleanup : goal.scopes::in_clause-returns-in-Cleanup
scopes::in_clause-returns-in-Cleanup t c =
    let part_0 = in_body (held_body c.in-Cleanup.body) in
    let from : in_clause (seen_clause c.args.clause.now) ≡ constructs.Cleanup ∷ (part_0) = rw c.in-Cleanup.is (at_cleanup c.in-Cleanup.body) in
    parts_1 _ _ _ (constructs.Cleanup) part_0 c.absent-in-Cleanup.ensures c.in_body-in-Cleanup.ensures c.or-in-Cleanup.ensures ∙ sym (ap first_absent from)

pub scopes::in_clause-returns-in-Exception : goal.scopes::in_clause-returns-in-Exception
scopes::in_clause-returns-in-Exception t c =
    let part_0 = in_type (seen_type c.in-Exception.condition) in
    let part_1 = in_body (held_body c.in-Exception.body) in
    let from : in_clause (seen_clause c.args.clause.now) ≡ constructs.ExceptionClause ∷ (part_0 ++ part_1) = rw c.in-Exception.is (at_exception c.in-Exception.variable c.in-Exception.condition c.in-Exception.body) in
    parts_2 _ _ _ _ _ (constructs.ExceptionClause) part_0 part_1 c.absent-in-Exception.ensures c.in_type.ensures c.or-in-Exception.ensures c.in_body-in-Exception.ensures c.or-in-Exception-2.ensures ∙ sym (ap first_absent from)

pub scopes::in_loop_clause-returns-in-Then : goal.scopes::in_loop_clause-returns-in-Then
scopes::in_loop_clause-returns-in-Then t c =
    let part_0 = in_variable constructs.TypedVariable (seen_variable c.in-Then.variable) in
    let part_1 = in_value (seen_tree c.in-Then.first) in
    let part_2 = in_value (seen_tree c.in-Then.next) in
    let from : in_loop_clause (seen_for_clause c.args.clause.now) ≡ constructs.ThenClause ∷ (part_0 ++ part_1 ++ part_2) = rw c.in-Then.is refl in
    parts_3 _ _ _ _ _ _ _ (constructs.ThenClause) part_0 part_1 part_2 c.absent.ensures c.in_variable.ensures c.or.ensures c.in_value.ensures c.or-in-Then.ensures c.in_value-in-Then.ensures c.or-in-Then-2.ensures ∙ sym (ap first_absent from)

pub scopes::in_loop_clause-returns-in-In : goal.scopes::in_loop_clause-returns-in-In
scopes::in_loop_clause-returns-in-In t c =
    let part_0 = in_variable constructs.TypedVariable (seen_variable c.in-In.variable) in
    let part_1 = in_value (seen_tree c.in-In.collection) in
    let from : in_loop_clause (seen_for_clause c.args.clause.now) ≡ constructs.InClause ∷ (part_0 ++ part_1) = rw c.in-In.is refl in
    parts_2 _ _ _ _ _ (constructs.InClause) part_0 part_1 c.absent-in-In.ensures c.in_variable-in-In.ensures c.or-in-In.ensures c.in_value-in-In.ensures c.or-in-In-2.ensures ∙ sym (ap first_absent from)

pub scopes::in_loop_clause-returns-in-From : goal.scopes::in_loop_clause-returns-in-From
scopes::in_loop_clause-returns-in-From t c =
    let part_0 = in_variable constructs.TypedVariable (seen_variable c.in-From.variable) in
    let part_1 = in_value (seen_tree c.in-From.start) in
    let part_2 = in_limit (held_limit c.in-From.limit) in
    let part_3 = in_maybe constructs.Step (seen_initial c.in-From.step) in
    let from : in_loop_clause (seen_for_clause c.args.clause.now) ≡ constructs.FromClause ∷ (part_0 ++ part_1 ++ part_2 ++ part_3) = rw c.in-From.is (at_from c.in-From.variable c.in-From.start c.in-From.limit c.in-From.step) in
    parts_4 _ _ _ _ _ _ _ _ _ (constructs.FromClause) part_0 part_1 part_2 part_3 c.absent-in-From.ensures c.in_variable-in-From.ensures c.or-in-From.ensures c.in_value-in-From.ensures c.or-in-From-2.ensures c.in_limit.ensures c.or-in-From-3.ensures c.in_maybe.ensures c.or-in-From-4.ensures ∙ sym (ap first_absent from)

pub parameters::in_method-returns : goal.parameters::in_method-returns
parameters::in_method-returns t c = and_part _ _ _ _ _ c.in_parameters.ensures c.in_body.ensures c.or.ensures ∙ sym (ap first_absent (at_local_method c.args.method.now))

pub parameters::in_parameters-returns : goal.parameters::in_parameters-returns
parameters::in_parameters-returns t c =
    lists_5 _ _ _ _ _ _ _ _ _ _ _ _ _ _ c.in_all_required.ensures c.where_given.ensures c.or.ensures c.where_given-2.ensures c.or-2.ensures c.in_maybe_keys.ensures c.or-3.ensures c.in_results.ensures c.or-4.ensures
    ∙ sym (ap first_absent (at_parameters c.args.parameters.now))

pub parameters::in_keys-returns : goal.parameters::in_keys-returns
parameters::in_keys-returns t c = parts_2 _ _ _ _ _ constructs.KeyParameters _ _ c.absent.ensures c.in_key_row.ensures c.or.ensures c.where_true.ensures c.or-2.ensures ∙ sym (ap first_absent (at_keys c.args.keys.now))

pub parameters::in_key-returns : goal.parameters::in_key-returns
parameters::in_key-returns t c =
    let key = c.args.key.now in
    lists_3 _ _ _ _ _ (where_given constructs.NamedKeyword key.keyword) (in_variable constructs.TypedKey (seen_variable key.variable)) (in_maybe constructs.KeyDefault (seen_initial key.default))
    c.where_given.ensures c.in_variable.ensures c.or.ensures c.in_maybe.ensures c.or-2.ensures

pub choices::in_alternative-returns : goal.choices::in_alternative-returns
choices::in_alternative-returns t c =
    let alternative = c.args.alternative.now in
    parts_2 _ _ _ _ _ constructs.Elseif (in_test (seen_tree alternative.test)) (in_body (held_body alternative.body)) c.absent.ensures c.in_test.ensures c.or.ensures c.in_body.ensures c.or-2.ensures

pub choices::in_arm-returns : goal.choices::in_arm-returns
choices::in_arm-returns t c =
    let arm = c.args.arm.now in
    and_part _ _ _ (in_tests (trees.tests_of (map seen_tree arm.tests.items))) (in_body (held_body arm.body)) (c.in_tests.ensures ∙ sym (ap first_absent (tests_flat arm.tests.items))) c.in_body.ensures c.or.ensures

pub expressions::in_called-returns : goal.expressions::in_called-returns
expressions::in_called-returns t c =
    let own = c.where_true.ensures ∙ ap (λ (b : Bool). first_absent (where_true constructs.ComputedCall (not b))) c.is_name.ensures in
    and_part _ _ _ (as_function (seen_tree c.args.function.now)) (in_tree (seen_tree c.args.function.now)) own c.in_tree.ensures c.or.ensures

pub expressions::in_value-returns : goal.expressions::in_value-returns
expressions::in_value-returns t c =
    let own = c.where_true.ensures ∙ ap (λ (b : Bool). first_absent (where_true constructs.ComparisonValue b)) c.is_compared.ensures in
    and_part _ _ _ (as_value (seen_tree c.args.expression.now)) (in_tree (seen_tree c.args.expression.now)) own c.in_tree.ensures c.or.ensures

pub expressions::in_test-returns : goal.expressions::in_test-returns
expressions::in_test-returns t c =
    let own = c.where_true.ensures ∙ ap (λ (b : Bool). first_absent (where_true constructs.OtherTest (not b))) c.is_compared.ensures in
    and_part _ _ _ (as_test (seen_tree c.args.test.now)) (in_tree (seen_tree c.args.test.now)) own c.in_tree.ensures c.or.ensures

pub expressions::in_arguments-returns : goal.expressions::in_arguments-returns
expressions::in_arguments-returns t c =
    let items = c.args.arguments.now.items in
    let count : c.len.result ≡ length items = search rules in
    let counted = c.by_count.ensures ∙ ap (λ (n : ℕ). first_absent (by_count constructs.NoArgument constructs.SeveralArguments n)) count in
    and_part _ _ _ (by_count constructs.NoArgument constructs.SeveralArguments (length items)) (flat_map held_argument items) counted c.in_each_argument.ensures c.or.ensures ∙ sym (ap first_absent (arguments_counted items))

pub bodies::in_body-returns : goal.bodies::in_body-returns
bodies::in_body-returns t c =
    let items = c.args.body.now.items in
    let count : c.len.result ≡ length items = search rules in
    let counted = c.by_count.ensures ∙ ap (λ (n : ℕ). first_absent (by_count constructs.EmptyBody constructs.SeveralItems n)) count in
    and_part _ _ _ (by_count constructs.EmptyBody constructs.SeveralItems (length items)) (flat_map held_item items) counted c.in_items.ensures c.or.ensures ∙ sym (ap first_absent (body_counted items))
