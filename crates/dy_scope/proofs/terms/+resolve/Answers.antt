use Rattle.std.proofs.Common.{◌≡◌, ◌++◌, ◌∷◌, [], length, map, refl, sym, ap, ◌∙◌, subst, IfOk}
use Rattle.std.proofs.Common.{OnOk, rules, arith}
use Rattle.std.specs.Option.{option_map}
use Rattle.dy_term.specs.declared.draft.DraftBlock.{out-DraftBlock}
use Rattle.dy_term.specs.declared.draft.Local.TheVariants.{Named}
use Rattle.dy_term.specs.declared.term.Term.{Term, Op, Body, Cond, Select, Block, Method}
use Rattle.dy_term.specs.declared.term.BlockRow.{roll-BlockRow}
use Rattle.dy_term.specs.declared.term.ForClause.{From}
use Rattle.dy_binding.specs.declared.progress.Apart.{Apart}
use Rattle.dy_term.specs.Drafts.{Core, cores_of, seen_item, seen_term, seen_ending, seen_option}
use Rattle.dy_names.specs.Naming.{Locals}
use Rattle.dy_binding.specs.Reads.{numbered}
use Rattle.dy_binding.specs.Bound.{bound_some, count}
use Rattle.dy_resolution.specs.Terms.{core_term, values_operation}
use Rattle.dy_scope.proofs.Arms.{for_is, block_is, values_is, body_is, method_is}
use Rattle.dy_scope.proofs.Arms.{select_made}
use Rattle.dy_scope.proofs.Blocks.{block_made, block_left}
use Rattle.dy_scope.proofs.Calls.{on_ok, call_made, cond_made}
use Rattle.dy_scope.proofs.Clauses.{first_from, clause_from, catch_next, default_next}
use Rattle.dy_scope.proofs.Lambdas.{lambda_made, lambda_left}
use Rattle.dy_scope.proofs.Leaving.{Keeps, keeps_item, left_some}
use Rattle.dy_scope.proofs.Lets.{let_made, methods_made}
use Rattle.dy_scope.proofs.Loops.{loop_made, loop_left, result_left}
use Rattle.dy_scope.proofs.Next.{item_next}
use Rattle.dy_scope.proofs.Steps.{term_next, arm_next, method_next, first_next, clause_next, pair_next}
use Rattle.dy_scope.proofs.Steps.{clauses_end, defaults_end}
use Rattle.dy_scope.proofs.terms.+resolve.Goals as goal

pub term-returns-in_ok-arguments-in-Call : goal.term-returns-in_ok-arguments-in-Call
term-returns-in_ok-arguments-in-Call g t c =
    let made = call_made (g.E.Environment.outside c.args.environment.now) c.args.draft.now
    c.args.scope.now c.called_term.new.scope c.args.progress.now c.called_term.new.progress
    c.terms.new.progress c.in-Call.function c.deref-in-Call.result.now c.in-Call.arguments
    c.in_ok-called-in-Call.called c.in_ok-arguments-in-Call.arguments c.in-Call.is
    c.deref-in-Call.ensures c.in_ok-called-in-Call.ensures.called
    c.in_ok-called-in-Call.ensures.after c.in_ok-called-in-Call.ensures.same
    c.in_ok-arguments-in-Call.ensures.terms c.in_ok-arguments-in-Call.ensures.after in
    record {
      term = subst (λ (x : Term). IfOk c.call_of.result (λ f. f ≡ x)) made.0 c.call_of.ensures;
      after = on_ok c.call_of.result _ made.1;
      same = on_ok c.call_of.result _ (c.in_ok-arguments-in-Call.ensures.same
          ∙ c.in_ok-called-in-Call.ensures.same);
    }

pub term-returns-in_ok-new-in-Cond : goal.term-returns-in_ok-new-in-Cond
term-returns-in_ok-new-in-Cond g t c =
    let made = cond_made (g.E.Environment.outside c.args.environment.now) c.args.draft.now
    c.args.scope.now c.branch_terms.new.scope c.args.progress.now c.branch_terms.new.progress
    c.term-in-Cond.new.progress c.in-Cond.branches c.in-Cond.last c.deref-in-Cond.result.now
    c.in_ok-branches-in-Cond.branches c.in_ok-last-in-Cond.last c.in-Cond.is
    c.deref-in-Cond.ensures c.in_ok-branches-in-Cond.ensures.branches
    c.in_ok-branches-in-Cond.ensures.same c.in_ok-last-in-Cond.ensures.term
    c.in_ok-last-in-Cond.ensures.after in
    record {
      term = ap (λ x. Cond c.in_ok-branches-in-Cond.branches x) c.in_ok-new-in-Cond.ensures
          ∙ made.0;
      after = made.1;
      same = c.in_ok-last-in-Cond.ensures.same ∙ c.in_ok-branches-in-Cond.ensures.same;
    }

pub term-returns-in-For-clause-term : goal.term-returns-in-For-clause-term
term-returns-in-For-clause-term g t c =
    subst (λ (d : Core). IfOk c.for_term.result
    (λ f. f ≡ (core_term (g.E.Environment.outside c.args.environment.now) d c.args.scope.now
    c.args.progress.now).0))
    (for_is c.args.draft.now c.in-For.row c.deref-in-For.result.now c.in-For.is
    c.deref-in-For.ensures) c.for_term.ensures.term

pub term-returns-in-For-clause-after : goal.term-returns-in-For-clause-after
term-returns-in-For-clause-after g t c =
    subst (λ (d : Core). OnOk c.for_term.result
    (c.for_term.new.progress ≡
    (core_term (g.E.Environment.outside c.args.environment.now) d c.args.scope.now
    c.args.progress.now).1))
    (for_is c.args.draft.now c.in-For.row c.deref-in-For.result.now c.in-For.is
    c.deref-in-For.ensures) c.for_term.ensures.after

pub term-returns-in-Block-clause-term : goal.term-returns-in-Block-clause-term
term-returns-in-Block-clause-term g t c =
    subst (λ (d : Core). IfOk c.block_term.result
    (λ f. f ≡ (core_term (g.E.Environment.outside c.args.environment.now) d c.args.scope.now
    c.args.progress.now).0))
    (block_is c.args.draft.now c.in-Block.row c.deref-in-Block.result.now c.in-Block.is
    c.deref-in-Block.ensures) c.block_term.ensures.term

pub term-returns-in-Block-clause-after : goal.term-returns-in-Block-clause-after
term-returns-in-Block-clause-after g t c =
    subst (λ (d : Core). OnOk c.block_term.result
    (c.block_term.new.progress
    ≡ (core_term (g.E.Environment.outside c.args.environment.now) d c.args.scope.now
    c.args.progress.now).1))
    (block_is c.args.draft.now c.in-Block.row c.deref-in-Block.result.now c.in-Block.is
    c.deref-in-Block.ensures) c.block_term.ensures.after

pub term-returns-in_ok-terms-in-Values-clause-term : goal.term-returns-in_ok-terms-in-Values-clause-term
term-returns-in_ok-terms-in-Values-clause-term g t c =
    ap (λ ts. Op values_operation ts) c.in_ok-terms-in-Values.ensures.terms
    ∙ ap (λ (d : Core). (core_term (g.E.Environment.outside c.args.environment.now) d
    c.args.scope.now c.args.progress.now).0)
    (values_is c.args.draft.now c.in-Values.drafts c.in-Values.is)

pub term-returns-in_ok-terms-in-Values-clause-after : goal.term-returns-in_ok-terms-in-Values-clause-after
term-returns-in_ok-terms-in-Values-clause-after g t c =
    c.in_ok-terms-in-Values.ensures.after
    ∙ ap (λ (d : Core). (core_term (g.E.Environment.outside c.args.environment.now) d
    c.args.scope.now c.args.progress.now).1)
    (values_is c.args.draft.now c.in-Values.drafts c.in-Values.is)

pub term-returns-in_ok-items-in-Body-clause-term : goal.term-returns-in_ok-items-in-Body-clause-term
term-returns-in_ok-items-in-Body-clause-term g t c =
    ap (λ is. Body is) c.in_ok-items-in-Body.ensures.items
    ∙ ap (λ (d : Core). (core_term (g.E.Environment.outside c.args.environment.now) d
    c.args.scope.now c.args.progress.now).0)
    (body_is c.args.draft.now c.in-Body.drafts c.in-Body.is)

pub term-returns-in_ok-items-in-Body-clause-after : goal.term-returns-in_ok-items-in-Body-clause-after
term-returns-in_ok-items-in-Body-clause-after g t c =
    c.in_ok-items-in-Body.ensures.after
    ∙ ap (λ (d : Core). (core_term (g.E.Environment.outside c.args.environment.now) d
    c.args.scope.now c.args.progress.now).1)
    (body_is c.args.draft.now c.in-Body.drafts c.in-Body.is)

pub body_items-loop-draft-preserved : goal.body_items-loop-draft-preserved
body_items-loop-draft-preserved g t c =
    let out = g.E.Environment.outside c.args.environment.now in
    let m = c.len-outside.result in
    let k = subst (Keeps m c.args.scope.now) (sym c.in_ok-item.ensures.scope)
    (keeps_item out (seen_item c.draft-item.result) m c.args.scope.now c.loop-draft.scope
    c.loop-draft.progress (c.loop-draft.invariant.inside, c.loop-draft.invariant.leaves)) in
    record {
      goes = item_next out _ c.loop-draft.draft-index c.draft-item.result c.loop-draft-test.true
          c.draft-item.is _ c.loop-draft.items c.push.new.self
          c.loop-draft.scope c.item.new.scope c.loop-draft.progress c.item.new.progress
          c.in_ok-item.field-0 c.in_ok-item.ensures.item c.in_ok-item.ensures.scope
          c.in_ok-item.ensures.after c.in_ok-push.ensures.ok c.loop-draft.invariant.goes;
      inside = k.0;
      leaves = k.1;
    }

pub term-returns-in_ok-new-in-Select : goal.term-returns-in_ok-new-in-Select
term-returns-in_ok-new-in-Select g t c =
    let made = select_made (g.E.Environment.outside c.args.environment.now) c.args.draft.now
    c.args.scope.now c.term-in-Select.new.scope c.boxed_term.new.scope c.arms.new.scope
    c.args.progress.now c.term-in-Select.new.progress c.boxed_term.new.progress
    c.arms.new.progress c.boxed_term-in-Select.new.progress c.in-Select.value c.deref-in-Select.result.now
    c.in-Select.test c.in-Select.last c.in-Select.drafts c.in_ok-value-in-Select.value
    c.in_ok-test-in-Select.test c.in_ok-last-in-Select.last c.in_ok-arms-in-Select.arms
    c.in-Select.is c.deref-in-Select.ensures c.in_ok-value-in-Select.ensures.term
    c.in_ok-value-in-Select.ensures.after c.in_ok-value-in-Select.ensures.same
    c.in_ok-test-in-Select.ensures.term c.in_ok-test-in-Select.ensures.after
    c.in_ok-test-in-Select.ensures.same c.in_ok-arms-in-Select.ensures.arms
    c.in_ok-arms-in-Select.ensures.after c.in_ok-arms-in-Select.ensures.same
    c.in_ok-last-in-Select.ensures.term c.in_ok-last-in-Select.ensures.after in
    record {
      term = ap (λ x. Select x c.in_ok-test-in-Select.test c.in_ok-arms-in-Select.arms
          c.in_ok-last-in-Select.last) c.in_ok-new-in-Select.ensures ∙ made.0;
      after = made.1;
      same = c.in_ok-last-in-Select.ensures.same ∙ c.in_ok-arms-in-Select.ensures.same
          ∙ c.in_ok-test-in-Select.ensures.same ∙ c.in_ok-value-in-Select.ensures.same;
    }

pub item-returns-in_ok-lambdas-in-LetMethods : goal.item-returns-in_ok-lambdas-in-LetMethods
item-returns-in_ok-lambdas-in-LetMethods g t c =
    let methods = c.in-LetMethods.methods in
    let own : c.take_numbers.new.progress
    ≡ numbered (length methods.items) c.args.progress.now = search rules in
    let made = methods_made (g.E.Environment.outside c.args.environment.now) c.args.scope.now
    c.args.progress.now c.args.draft.now methods c.in_ok-first-in-LetMethods.first
    c.take_numbers.new.progress c.method_lambdas.new.progress
    c.bind_methods.new.scope c.method_lambdas.new.scope c.in_ok-lambdas-in-LetMethods.lambdas
    c.in-LetMethods.is c.in_ok-first-in-LetMethods.ensures.first own
    c.in_ok-bind_methods-in-LetMethods.ensures c.in_ok-lambdas-in-LetMethods.ensures.lambdas
    c.in_ok-lambdas-in-LetMethods.ensures.after c.in_ok-lambdas-in-LetMethods.ensures.same in
    record { item = made.item; after = made.after; scope = made.scope }

pub first_part-returns-in_ok-step-in-From : goal.first_part-returns-in_ok-step-in-From
first_part-returns-in_ok-step-in-From g t c =
    let made = first_from (g.E.Environment.outside c.args.environment.now) c.args.scope.now
    c.args.progress.now c.args.clause.now _ c.in-From.declared c.in-From.start c.in-From.limit
    c.in-From.step c.in-From.is c.read_type-in-From.new.progress c.term-in-From.new.progress
    c.limit_term.new.progress c.some_term.new.progress c.term-in-From.new.scope
    c.limit_term.new.scope c.in_ok-declared-in-From.declared c.in_ok-first-in-From.first
    c.in_ok-limit-in-From.limit c.in_ok-step-in-From.step
    c.in_ok-declared-in-From.ensures.read c.in_ok-declared-in-From.ensures.after
    c.in_ok-first-in-From.ensures.term c.in_ok-first-in-From.ensures.after
    c.in_ok-first-in-From.ensures.same c.in_ok-limit-in-From.ensures.limit
    c.in_ok-limit-in-From.ensures.after c.in_ok-limit-in-From.ensures.same
    c.in_ok-step-in-From.ensures.term c.in_ok-step-in-From.ensures.after in
    record {
      part = made.0;
      after = made.1;
      same = c.in_ok-step-in-From.ensures.same ∙ c.in_ok-limit-in-From.ensures.same
          ∙ c.in_ok-first-in-From.ensures.same;
    }

pub catch_terms-loop-draft-preserved : goal.catch_terms-loop-draft-preserved
catch_terms-loop-draft-preserved g t c =
    let out = g.E.Environment.outside c.args.environment.now in
    let x = c.draft-item.result in
    let n = c.loop-draft.number in
    let same = c.loop-draft.invariant.same in
    let left = left_some c.len-outside.result c.args.scope.now c.len-outside.ensures
    (option_map Named x.variable) n c.term.new.scope c.leave_to.new.self
    (c.in_ok-body.ensures.same ∙ c.in_ok-bind_name.ensures
    ∙ ap (λ (s : Locals). bound_some n (option_map Named x.variable) s) same)
    c.leave_to.ensures in
    record {
      goes = catch_next out _ c.loop-draft.draft-index x c.loop-draft-test.true c.draft-item.is _
          c.loop-draft.clauses c.push.new.self n _ c.loop-draft.scope
          c.bind_name.new.scope c.leave_to.new.self c.loop-draft.progress
          c.read_type.new.progress c.term.new.progress c.in_ok-condition.condition
          c.in_ok-body.body c.in_ok-condition.ensures.read c.in_ok-condition.ensures.after
          c.in_ok-bind_name.ensures c.in_ok-body.ensures.term c.in_ok-body.ensures.after
          (left ∙ sym same) c.in_ok-number.ensures
          (c.in_ok-push.ensures.ok ∙ ap (λ k. c.loop-draft.clauses
          ++ (k, c.in_ok-condition.condition, c.in_ok-body.body) ∷ []) c.number_of.ensures)
          c.loop-draft.invariant.goes;
      outside = c.loop-draft.invariant.outside;
      same = left;
    }

pub term-returns-in_ok-new-in-Method : goal.term-returns-in_ok-new-in-Method
term-returns-in_ok-new-in-Method g t c =
    let whole = ap (λ (d : Core). core_term (g.E.Environment.outside c.args.environment.now) d
    c.args.scope.now c.args.progress.now) (method_is c.args.draft.now c.in-Method.lambda
    c.deref-in-Method.result.now c.in-Method.is c.deref-in-Method.ensures) in
    record {
      term = ap (λ x. Method x) (c.in_ok-new-in-Method.ensures
          ∙ c.in_ok-lambda-in-Method.ensures.lambda) ∙ ap (λ r. r.0) whole;
      after = c.in_ok-lambda-in-Method.ensures.after ∙ ap (λ r. r.1) whole;
      same = c.in_ok-lambda-in-Method.ensures.same;
    }

pub clause_term-returns-in-From : goal.clause_term-returns-in-From
clause_term-returns-in-From g t c =
    let read = c.tell_apart-read.ensures.read in
    let n = c.args.number in
    let made = clause_from (g.E.Environment.outside c.args.environment.now) c.args.scope.now
    c.args.progress.now c.args.draft.now _ _ _ _ _ c.in-From.is c.args.read n
    c.tell_apart-read.new.progress c.tell_apart-read.ensures.after in
    record {
      clause = c.from_clause.ensures
          ∙ ap (λ (x : Apart). From n x.declared x.first x.limit x.step) read ∙ made.0;
      after = made.1;
      same = refl;
    }

pub terms-loop-draft-preserved : goal.terms-loop-draft-preserved
terms-loop-draft-preserved g t c = record {
  goes = term_next (g.E.Environment.outside c.args.environment.now) c.loop-draft.scope
      c.term.new.scope c.loop-draft.progress c.term.new.progress _ c.loop-draft.draft-index
      c.draft-item.result c.loop-draft-test.true c.draft-item.is _ c.loop-draft.terms
      c.push.new.self c.in_ok-term.field-0 c.in_ok-term.ensures.term c.in_ok-term.ensures.after
      c.in_ok-term.ensures.same c.in_ok-push.ensures.ok c.loop-draft.invariant.goes;
  same = c.in_ok-term.ensures.same ∙ c.loop-draft.invariant.same;
}

pub arms-loop-draft-preserved : goal.arms-loop-draft-preserved
arms-loop-draft-preserved g t c = record {
  goes = arm_next (g.E.Environment.outside c.args.environment.now) c.loop-draft.scope
      c.terms.new.scope c.term.new.scope c.loop-draft.progress c.terms.new.progress
      c.term.new.progress _ c.loop-draft.draft-index c.draft-item.result c.loop-draft-test.true
      c.draft-item.is _ c.loop-draft.arms c.push.new.self c.in_ok-values.values c.in_ok-body.body
      c.in_ok-values.ensures.terms c.in_ok-values.ensures.after c.in_ok-values.ensures.same
      c.in_ok-body.ensures.term c.in_ok-body.ensures.after c.in_ok-body.ensures.same
      c.in_ok-push.ensures.ok c.loop-draft.invariant.goes;
  same = c.in_ok-body.ensures.same ∙ c.in_ok-values.ensures.same ∙ c.loop-draft.invariant.same;
}

pub method_lambdas-loop-name-preserved : goal.method_lambdas-loop-name-preserved
method_lambdas-loop-name-preserved g t c =
    let s = c.loop-name.scope in
    let p = c.loop-name.progress in
    let number = c.loop-name.invariant.number in record {
      goes = method_next (g.E.Environment.outside c.args.environment.now) s s
          c.lambda_term.new.scope p p c.lambda_term.new.progress _ c.loop-name._name-index
          c.loop-name-item.result c.loop-name-test.true c.loop-name-item.is _
          c.loop-name.lambdas c.push.new.self c.loop-name.number _ c.in_ok-lambda.lambda
          c.in_ok-lambda.ensures.lambda c.in_ok-lambda.ensures.after c.in_ok-lambda.ensures.same
          refl c.in_ok-push.ensures.ok c.loop-name.invariant.goes;
      number = omega (arith, number);
      same = c.in_ok-lambda.ensures.same ∙ c.loop-name.invariant.same;
    }

pub branch_terms-loop-test-preserved : goal.branch_terms-loop-test-preserved
branch_terms-loop-test-preserved g t c = record {
  goes = λ last. pair_next (g.E.Environment.outside c.args.environment.now) c.loop-test.scope
      c.term.new.scope c.term-in-loop-test.new.scope c.loop-test.progress c.term.new.progress
      c.term-in-loop-test.new.progress _ c.loop-test.test-index c.loop-test-item.result
      c.loop-test-test.true c.loop-test-item.is last _ c.loop-test.pairs c.push.new.self
      c.in_ok-test.test c.in_ok-chosen.chosen c.in_ok-test.ensures.term
      c.in_ok-test.ensures.after c.in_ok-test.ensures.same c.in_ok-chosen.ensures.term
      c.in_ok-chosen.ensures.after c.in_ok-chosen.ensures.same c.in_ok-push.ensures.ok
      (c.loop-test.invariant.goes last);
  same = c.in_ok-chosen.ensures.same ∙ c.in_ok-test.ensures.same ∙ c.loop-test.invariant.same;
}

pub default_terms-loop-draft-preserved : goal.default_terms-loop-draft-preserved
default_terms-loop-draft-preserved g t c =
    let taken = c.in-Some.ensures.items in
    let room = c.loop-draft.invariant.room in
    let left = ap length taken in record {
      goes = default_next (g.E.Environment.outside c.args.environment.now) _
          c.loop-draft.draft-index c.draft-item.result c.loop-draft-test.true c.draft-item.is _
          c.loop-draft.keywords c.push.new.self c.loop-draft.rest.items c.pop_front.new.self.items
          (c.in-Some.variable, c.in-Some.declared) c.loop-draft.number _ c.loop-draft.scope
          c.term.new.scope c.bind.new.self c.loop-draft.progress c.type_or-declared.new.progress
          c.term.new.progress c.type_or-declared.result c.in_ok-default-in-Some.default taken
          c.type_or-declared.ensures.type_or c.type_or-declared.ensures.after c.in_ok-default-in-Some.ensures.term
          c.in_ok-default-in-Some.ensures.after c.in_ok-default-in-Some.ensures.same c.in_ok-bind-in-Some.ensures refl
          c.in_ok-push-in-Some.ensures.ok c.loop-draft.invariant.goes;
      room = omega (arith, room, left);
    }

pub first_terms-loop-clause-preserved : goal.first_terms-loop-clause-preserved
first_terms-loop-clause-preserved g t c = record {
  goes = first_next (g.E.Environment.outside c.args.environment.now) c.loop-clause.scope
      c.loop-clause.scope c.first_part.new.scope c.loop-clause.progress c.loop-clause.progress
      c.loop-clause.progress _ c.loop-clause.clause-index c.clause-item.result
      c.loop-clause-test.true c.clause-item.is _ c.loop-clause.firsts.items
      c.push_back.new.self.items c.loop-clause.progress.next _ _ c.first_part.new.progress
      c.in_ok-declared.field-0 _ refl c.in_ok-declared.ensures.part
      c.in_ok-declared.ensures.after c.in_ok-declared.ensures.same refl refl
      c.in_ok-push_back.ensures.items c.loop-clause.invariant.goes;
  first = c.loop-clause.invariant.first;
  same = c.in_ok-declared.ensures.same ∙ c.loop-clause.invariant.same;
}

pub clause_terms-loop-draft-preserved : goal.clause_terms-loop-draft-preserved
clause_terms-loop-draft-preserved g t c =
    let s = c.loop-draft.scope in
    let p = c.loop-draft.progress in
    let number = c.loop-draft.invariant.number in record {
      goes = clause_next (g.E.Environment.outside c.args.environment.now) s s
          c.clause_term.new.scope p p c.clause_term.new.progress _ c.loop-draft.draft-index
          c.draft-item.result c.loop-draft-test.true c.draft-item.is _ c.loop-draft.clauses
          c.push.new.self c.loop-draft.rest.items c.pop_front.new.self.items c.in-Some.read
          c.loop-draft.number _ c.in_ok-clause_term-in-Some.field-0 c.in-Some.ensures.items
          c.in_ok-clause_term-in-Some.ensures.clause c.in_ok-clause_term-in-Some.ensures.after
          c.in_ok-clause_term-in-Some.ensures.same refl c.in_ok-push-in-Some.ensures.ok
          c.loop-draft.invariant.goes;
      number = omega (arith, number);
      same = c.in_ok-clause_term-in-Some.ensures.same ∙ c.loop-draft.invariant.same;
    }

pub for_term-returns : goal.for_term-returns
for_term-returns g t c =
    let out = g.E.Environment.outside c.args.environment.now in
    let row = c.args.row.now in
    let ds = row.clauses.items in
    let s = c.args.scope.now in
    let p = c.args.progress.now in
    let m = c.len-outside.result in
    let own : c.take_numbers.new.progress ≡ numbered (length ds) p = search rules in
    let left = loop_left out s p m c.len-outside.ensures ds c.in_ok-first.first
    c.first_terms.new.scope c.bind_variables.new.scope c.turn_terms.new.scope
    c.leave_to.new.self c.in_ok-firsts.ensures.same c.in_ok-bind_variables.ensures
    c.in_ok-turns.ensures.same c.leave_to.ensures in
    let made = loop_made out s p m c.len-outside.ensures ds (seen_ending row.test)
    (seen_term row.body) (seen_option row.finally) c.in_ok-first.first
    c.take_numbers.new.progress c.first_terms.new.progress c.turn_terms.new.progress
    c.some_term.new.progress c.first_terms.new.scope c.bind_variables.new.scope
    c.turn_terms.new.scope c.leave_to.new.self c.bind_kept.new.scope
    c.in_ok-firsts.firsts.items c.in_ok-turns.turns c.in_ok-finally.finally
    c.in_ok-first.ensures.first own c.in_ok-firsts.ensures.firsts
    c.in_ok-firsts.ensures.after c.in_ok-firsts.ensures.same c.in_ok-bind_variables.ensures
    c.in_ok-turns.ensures.turns c.in_ok-turns.ensures.after c.in_ok-turns.ensures.same
    c.leave_to.ensures c.in_ok-bind_kept.ensures c.in_ok-finally.ensures.term
    c.in_ok-finally.ensures.after in
    record {
      term = c.in_ok-found.ensures ∙ made.0;
      after = made.1;
      same = result_left out s p m c.len-outside.ensures ds c.in_ok-first.first
          c.leave_to.new.self c.bind_kept.new.scope c.some_term.new.scope c.leave_to-2.new.self
          left c.in_ok-bind_kept.ensures c.in_ok-finally.ensures.same c.leave_to-2.ensures;
    }

pub block_term-returns : goal.block_term-returns
block_term-returns g t c =
    let out = g.E.Environment.outside c.args.environment.now in
    let row = c.args.row.now in
    let s = c.args.scope.now in
    let p = c.args.progress.now in
    let own : c.take_numbers.new.progress ≡ numbered (count (out-DraftBlock row).exit) p =
    search rules in
    let made = block_made out s p row c.in_ok-exit.exit c.take_numbers.new.progress.next
    c.take_numbers.new.progress c.number_catches.new.progress c.body_terms.new.progress
    c.bind_name.new.scope c.in_ok-bodies.bodies c.in_ok-exit.ensures.first own refl
    c.in_ok-number_catches.ensures c.in_ok-bind_name.ensures c.in_ok-bodies.ensures.bodies
    c.in_ok-bodies.ensures.after in
    record {
      term = c.in_ok-found.ensures
          ∙ ap (λ k. Block (roll-BlockRow (record {
            exit = k;
            body = c.in_ok-bodies.bodies.0;
            afterwards = c.in_ok-bodies.bodies.1;
            cleanup = c.in_ok-bodies.bodies.2;
            clauses = c.in_ok-bodies.bodies.3;
          }))) c.number_of.ensures ∙ made.0;
      after = made.1;
      same = block_left c.len-outside.result s c.len-outside.ensures (out-DraftBlock row).exit
          c.in_ok-exit.exit c.bind_name.new.scope c.body_terms.new.scope c.leave_to.new.self
          c.in_ok-bind_name.ensures c.in_ok-bodies.ensures.same c.leave_to.ensures;
    }

pub lambda_term-returns-clause-same : goal.lambda_term-returns-clause-same
lambda_term-returns-clause-same g t c =
    lambda_left (g.E.Environment.outside c.args.environment.now) c.args.draft.now
    c.args.denotation c.args.scope.now c.args.progress.now c.len-outside.result
    c.len-outside.ensures c.in_ok-first.first c.in_ok-rest.rest c.in_ok-key.key
    c.in_ok-keys.keys.items c.read_required.new.progress c.bind_params.new.scope
    c.default_terms.new.scope c.term.new.scope c.leave_to.new.self c.in_ok-bind_params.ensures
    c.in_ok-keywords.ensures.scope c.in_ok-body.ensures.same c.leave_to.ensures
