use Rattle.std.proofs.Common.{◌≡◌, List, ◌∷◌, map, flat_map, sym, ap, ◌∙◌}
use Rattle.std.specs.Prelude.{Option, Some, None}
use Rattle.std.proofs.lemmas.Result.{IfOk-weaker}
use Rattle.dy_tree.specs.declared.token.Token.{Token}
use Rattle.dy_tree.specs.declared.expression.Expression.{Expression}
use Rattle.dy_term.specs.declared.draft.DraftTerm.{DraftTerm}
use Rattle.dy_term.specs.declared.draft.DraftForClause.{DraftForClause}
use Rattle.dy_term.specs.Types.{integer}
use Rattle.dy_term.specs.Drafts as core
use Rattle.dy_term.specs.Drafts.{CoreLambda, CoreCatch, Core, cond, choice_of, cores_of, arms_of, catches_of, clauses_of, methods_of, seen_term, seen_pair, seen_clause}
use Rattle.dy_rules.specs.SeenTypes.{seen_type, seen_variable}
use Rattle.dy_drafts.specs.Shapes.{type_of, declared_or}
use Rattle.dy_drafts.specs.Parts.{setting, setter_at}
use Rattle.dy_rules.specs.SeenForms as source
use Rattle.dy_rules.specs.SeenForms.{seen_tree, seen_statement}
use Rattle.dy_desugar.specs.Table as table
use Rattle.dy_desugar.specs.Table.{core_of, name_in, guarded_core}
use Rattle.dy_desugar.specs.Lists.{argument_terms, item_core, body_core, given_or_false, otherwise_core, maybe_body, maybe_tree, maybe_boxed, alternative_core, case_core, arm_core, block_clauses, for_clause_core, bound_core, stop_core, own_exception, lambda_core, method_core}
use Rattle.dy_desugar.proofs.Joins.{held_core, call_same, cond_same, guarded_same, select_same, for_same, from_same, block_same, catch_same, lambda_same}
use Rattle.dy_desugar.proofs.Links.{at_call, at_begin, at_method, at_if, at_guarded, at_case, at_select, at_block, at_for, at_local, at_from, at_set_call, at_no_setter, at_first}
use Rattle.dy_desugar.proofs.Clauses.{at_exception}
use Rattle.dy_desugar.proofs.Places.{other_no_place}
use Rattle.dy_desugar.proofs.+terms.Goals as goal

pub expressions::term_of-returns-in_ok-arguments-in-Call : goal.expressions::term_of-returns-in_ok-arguments-in-Call
expressions::term_of-returns-in_ok-arguments-in-Call t c =
    let from : core_of (seen_tree c.args.expression.now) ≡ core.call (core_of (seen_tree c.in-Call.function.value)) (cores_of (flat_map argument_terms c.in-Call.arguments.items)) = rw c.in-Call.is (at_call c.in-Call.function c.in-Call.arguments) in
    let made = call_same _ _ _ _ (held_core _ _ c.in-Call.function.value c.in_ok-function-in-Call.ensures c.deref-in-Call.ensures) c.in_ok-arguments-in-Call.ensures in
    IfOk-weaker c.call_draft.result _ (λ (term : DraftTerm). seen_term term ≡ core_of (seen_tree c.args.expression.now)) (λ term is. is ∙ made ∙ sym from) c.call_draft.ensures

pub expressions::assignment_of-returns-in_ok-operands-in-Some : goal.expressions::assignment_of-returns-in_ok-operands-in-Some
expressions::assignment_of-returns-in_ok-operands-in-Some t c =
    let place = core_of (seen_tree c.args.place.now) in
    let value = seen_term c.args.value in
    let setter = setter_at c.in-Some.name.now in
    let operands = flat_map argument_terms c.in-Call.arguments.items in
    let named : name_in (seen_tree c.in-Call.function.value) ≡ Some c.in-Some.name.now = sym (c.in-Some.ensures ∙ ap (λ (tree : Expression). name_in (seen_tree tree)) c.deref-in-Call.ensures) in
    let from : table.assignment_of (seen_tree c.args.place.now) place value ≡ setting setter operands value =
    ap (λ (tree : Expression). table.assignment_of (seen_tree tree) place value) c.in-Call.is ∙ at_set_call c.in-Call.function c.in-Call.arguments c.in-Some.name.now place value named in
    let made = ap (λ (found : List Core). setting setter found value) c.in_ok-operands-in-Some.ensures in
    IfOk-weaker c.set_call.result _ (λ (term : DraftTerm). seen_term term ≡ table.assignment_of (seen_tree c.args.place.now) place value) (λ term is. is ∙ made ∙ sym from) c.set_call.ensures

pub expressions::assignment_of-returns-in-None : goal.expressions::assignment_of-returns-in-None
expressions::assignment_of-returns-in-None t c =
    let place = core_of (seen_tree c.args.place.now) in
    let value = seen_term c.args.value in
    let none : name_in (seen_tree c.in-Call.function.value) ≡ None = sym (c.in-None.ensures ∙ ap (λ (tree : Expression). name_in (seen_tree tree)) c.deref-in-Call.ensures) in
    let first : table.first_token (seen_tree c.args.place.now) ≡ table.first_token (seen_tree c.in-Call.function.value) =
    ap (λ (tree : Expression). table.first_token (seen_tree tree)) c.in-Call.is ∙ at_first c.in-Call.function c.in-Call.arguments in
    let from : table.assignment_of (seen_tree c.args.place.now) place value ≡ core.no_place (table.first_token (seen_tree c.args.place.now)) place value =
    ap (λ (tree : Expression). table.assignment_of (seen_tree tree) place value) c.in-Call.is
    ∙ at_no_setter c.in-Call.function c.in-Call.arguments place value none
    ∙ sym (ap (λ (token : Token). core.no_place token place value) first) in
    IfOk-weaker c.no_place_of.result _ (λ (term : DraftTerm). seen_term term ≡ table.assignment_of (seen_tree c.args.place.now) place value) (λ term is. is ∙ sym from) c.no_place_of.ensures

pub expressions::assignment_of-returns-in_default : goal.expressions::assignment_of-returns-in_default
expressions::assignment_of-returns-in_default t c =
    let place = core_of (seen_tree c.args.place.now) in
    let value = seen_term c.args.value in
    let from : table.assignment_of (seen_tree c.args.place.now) place value ≡ core.no_place (table.first_token (seen_tree c.args.place.now)) place value =
    other_no_place c.args.place.now place value c.in_default.not-Call c.in_default.not-Element c.in_default.not-Member c.in_default.not-Name in
    IfOk-weaker c.no_place_of-in_default.result _ (λ (term : DraftTerm). seen_term term ≡ table.assignment_of (seen_tree c.args.place.now) place value) (λ term is. is ∙ sym from) c.no_place_of-in_default.ensures

pub statements::statement_of-returns-in-Begin : goal.statements::statement_of-returns-in-Begin
statements::statement_of-returns-in-Begin t c =
    let from : core_of (seen_statement c.args.statement.now) ≡ body_core c.in-Begin.body.items = rw c.in-Begin.is (at_begin c.in-Begin.word c.in-Begin.body) in
    IfOk-weaker c.body_of.result _ (λ (term : DraftTerm). seen_term term ≡ core_of (seen_statement c.args.statement.now)) (λ term is. is ∙ sym from) c.body_of.ensures

pub statements::statement_of-returns-in_ok-lambda-in-Method : goal.statements::statement_of-returns-in_ok-lambda-in-Method
statements::statement_of-returns-in_ok-lambda-in-Method t c =
    let from : core_of (seen_statement c.args.statement.now) ≡ core.method (lambda_core c.in-Method.parameters.value c.in-Method.body.items) = rw c.in-Method.is (at_method c.in-Method.word c.in-Method.parameters c.in-Method.body) in
    let made = lambda_same _ _ _ c.in-Method.parameters.value _ _ c.in-Method.body.items c.in_ok-lambda-in-Method.ensures c.in_ok-defaults-in-Method.ensures c.in_ok-body-in-Method.ensures c.deref.ensures c.deref-in-Method.ensures in
    IfOk-weaker c.method_draft.result _ (λ (term : DraftTerm). seen_term term ≡ core_of (seen_statement c.args.statement.now)) (λ term is. is ∙ ap (λ (lambda : CoreLambda). core.method lambda) made ∙ sym from) c.method_draft.ensures

pub statements::statement_of-returns-in_ok-last-in-If : goal.statements::statement_of-returns-in_ok-last-in-If
statements::statement_of-returns-in_ok-last-in-If t c =
    let others = map alternative_core c.in-If.alternatives.items in
    let whole = cond (choice_of ((core_of (seen_tree c.in-If.test.value), body_core c.in-If.body.items) ∷ others) (otherwise_core c.in-If.otherwise)) in
    let from : core_of (seen_statement c.args.statement.now) ≡ whole = rw c.in-If.is (at_if c.in-If.word c.in-If.test c.in-If.body c.in-If.alternatives c.in-If.otherwise) in
    let made = cond_same _ _ _ _ _ _ _ others c.in_ok-branches-in-If.ensures (held_core _ _ c.in-If.test.value c.in_ok-test-in-If.ensures c.deref-in-If.ensures) c.in_ok-body-in-If.ensures (c.or_false.ensures ∙ ap given_or_false c.in_ok-last-in-If.ensures) in
    IfOk-weaker c.cond_draft.result _ (λ (term : DraftTerm). seen_term term ≡ core_of (seen_statement c.args.statement.now)) (λ term is. is ∙ made ∙ sym from) c.cond_draft.ensures

pub statements::statement_of-returns-in_ok-body-in-Guarded : goal.statements::statement_of-returns-in_ok-body-in-Guarded
statements::statement_of-returns-in_ok-body-in-Guarded t c =
    let guard = c.in-Guarded.guard in
    let whole = guarded_core guard (core_of (seen_tree c.in-Guarded.test.value)) (body_core c.in-Guarded.body.items) in
    let from : core_of (seen_statement c.args.statement.now) ≡ whole = rw c.in-Guarded.is (at_guarded c.in-Guarded.guard c.in-Guarded.word c.in-Guarded.test c.in-Guarded.body) in
    let made = guarded_same guard _ _ _ _ (held_core _ _ c.in-Guarded.test.value c.in_ok-test-in-Guarded.ensures c.deref-in-Guarded.ensures) c.in_ok-body-in-Guarded.ensures in
    IfOk-weaker c.guarded_of.result _ (λ (term : DraftTerm). seen_term term ≡ core_of (seen_statement c.args.statement.now)) (λ term is. is ∙ made ∙ sym from) c.guarded_of.ensures

pub statements::statement_of-returns-in_ok-last-in-Case : goal.statements::statement_of-returns-in_ok-last-in-Case
statements::statement_of-returns-in_ok-last-in-Case t c =
    let whole = cond (choice_of (map case_core c.in-Case.arms.items) (otherwise_core c.in-Case.otherwise)) in
    let from : core_of (seen_statement c.args.statement.now) ≡ whole = rw c.in-Case.is (at_case c.in-Case.word c.in-Case.arms c.in-Case.otherwise) in
    let made : cond (choice_of (map seen_pair c.in_ok-branches-in-Case.branches.items) (seen_term c.or_false-in-Case.result)) ≡ whole =
    ap (λ (pairs : List (Core × Core)). cond (choice_of pairs (seen_term c.or_false-in-Case.result))) c.in_ok-branches-in-Case.ensures
    ∙ ap (λ (last : Core). cond (choice_of (map case_core c.in-Case.arms.items) last)) (c.or_false-in-Case.ensures ∙ ap given_or_false c.in_ok-last-in-Case.ensures) in
    IfOk-weaker c.cond_draft-in-Case.result _ (λ (term : DraftTerm). seen_term term ≡ core_of (seen_statement c.args.statement.now)) (λ term is. is ∙ made ∙ sym from) c.cond_draft-in-Case.ensures

pub statements::statement_of-returns-in_ok-last-in-Select : goal.statements::statement_of-returns-in_ok-last-in-Select
statements::statement_of-returns-in_ok-last-in-Select t c =
    let whole = core.select (core_of (seen_tree c.in-Select.value.value)) (maybe_boxed c.in-Select.test) (arms_of (map arm_core c.in-Select.arms.items)) (maybe_body c.in-Select.otherwise) in
    let from : core_of (seen_statement c.args.statement.now) ≡ whole = rw c.in-Select.is (at_select c.in-Select.word c.in-Select.value c.in-Select.test c.in-Select.arms c.in-Select.otherwise) in
    let made = select_same _ _ _ _ _ _ _ _ (held_core _ _ c.in-Select.value.value c.in_ok-value-in-Select.ensures c.deref-in-Select.ensures) c.in_ok-test-in-Select.ensures c.in_ok-arms-in-Select.ensures c.in_ok-last-in-Select.ensures in
    IfOk-weaker c.select_draft.result _ (λ (term : DraftTerm). seen_term term ≡ core_of (seen_statement c.args.statement.now)) (λ term is. is ∙ made ∙ sym from) c.select_draft.ensures

pub statements::statement_of-returns-in_ok-catches-in-Block : goal.statements::statement_of-returns-in_ok-catches-in-Block
statements::statement_of-returns-in_ok-catches-in-Block t c =
    let clauses = block_clauses c.in-Block.clauses.items in
    let whole = core.block c.in-Block.exit (body_core c.in-Block.body.items) (table.afterwards_of clauses) (table.cleanup_of clauses) (catches_of (table.exceptions_of clauses)) in
    let from : core_of (seen_statement c.args.statement.now) ≡ whole = rw c.in-Block.is (at_block c.in-Block.word c.in-Block.exit c.in-Block.body c.in-Block.clauses) in
    let made = block_same c.in-Block.exit _ _ _ _ _ _ _ _ c.in_ok-body-in-Block.ensures c.in_ok-afterwards-in-Block.ensures c.in_ok-cleanup-in-Block.ensures c.in_ok-catches-in-Block.ensures in
    IfOk-weaker c.block_from.result _ (λ (term : DraftTerm). seen_term term ≡ core_of (seen_statement c.args.statement.now)) (λ term is. is ∙ made ∙ sym from) c.block_from.ensures

pub statements::statement_of-returns-in_ok-finally-in-For : goal.statements::statement_of-returns-in_ok-finally-in-For
statements::statement_of-returns-in_ok-finally-in-For t c =
    let whole = core.for (clauses_of (map for_clause_core c.in-For.clauses.items)) (stop_core c.in-For.stop) (body_core c.in-For.body.items) (maybe_body c.in-For.finally) in
    let from : core_of (seen_statement c.args.statement.now) ≡ whole = rw c.in-For.is (at_for c.in-For.word c.in-For.clauses c.in-For.stop c.in-For.body c.in-For.finally) in
    let made = for_same _ _ _ _ _ _ _ _ c.in_ok-clauses-in-For.ensures c.in_ok-test-in-For.ensures c.in_ok-body-in-For.ensures c.in_ok-finally-in-For.ensures in
    IfOk-weaker c.for_draft.result _ (λ (term : DraftTerm). seen_term term ≡ core_of (seen_statement c.args.statement.now)) (λ term is. is ∙ made ∙ sym from) c.for_draft.ensures

pub scopes::exception_in-returns-in_ok-body-in-Exception : goal.scopes::exception_in-returns-in_ok-body-in-Exception
scopes::exception_in-returns-in_ok-body-in-Exception t c =
    let whole : CoreCatch = record { variable = c.in-Exception.variable; condition = type_of (seen_type c.in-Exception.condition); body = body_core c.in-Exception.body.items } in
    let from : own_exception (source.seen_clause c.args.clause.now) ≡ Some whole = rw c.in-Exception.is (at_exception c.in-Exception.variable c.in-Exception.condition c.in-Exception.body) in
    catch_same _ _ _ _ _ _ c.in_ok-variable-in-Exception.ensures c.in_ok-condition-in-Exception.ensures c.in_ok-body-in-Exception.ensures ∙ sym from

pub bodies::item_of-returns-in_ok-methods-in-Local : goal.bodies::item_of-returns-in_ok-methods-in-Local
bodies::item_of-returns-in_ok-methods-in-Local t c =
    let from : item_core c.args.item.now ≡ core.let_methods (methods_of (map method_core c.in-Local.methods.items)) = rw c.in-Local.is (at_local c.in-Local.word c.in-Local.methods) in
    c.local_draft.ensures ∙ ap (λ (found : List (Token × CoreLambda)). core.let_methods (methods_of found)) c.in_ok-methods-in-Local.ensures ∙ sym from

pub turns::clause_of-returns-in_ok-step-in-From : goal.turns::clause_of-returns-in_ok-step-in-From
turns::clause_of-returns-in_ok-step-in-From t c =
    let declared = declared_or integer (seen_variable c.in-From.variable).declared in
    let whole = core.from_clause c.in-From.variable.name declared (core_of (seen_tree c.in-From.start)) (bound_core c.in-From.limit) (maybe_tree c.in-From.step) in
    let from : for_clause_core c.args.clause.now ≡ whole = rw c.in-From.is (at_from c.in-From.variable c.in-From.start c.in-From.limit c.in-From.step) in
    let made = from_same c.in-From.variable.name declared _ _ _ _ _ _ c.in_ok-start-in-From.ensures c.in_ok-limit-in-From.ensures c.in_ok-step-in-From.ensures in
    IfOk-weaker c.from_clause.result _ (λ (clause : DraftForClause). seen_clause clause ≡ for_clause_core c.args.clause.now) (λ clause is. is ∙ made ∙ sym from) c.from_clause.ensures
