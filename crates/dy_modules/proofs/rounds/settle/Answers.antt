use Rattle.std.proofs.Common.{rules, ◌≡◌, inr, ℕ, ◌<◌, sym, subst, [], length}
use Rattle.dy_modules.specs.Clauses.{IsIn}
use Rattle.dy_modules.specs.Order.{AreRight, Turns}
use Rattle.dy_modules.proofs.Turns.{begins, seen_after, all_made}
use Rattle.dy_modules.proofs.rounds.settle.Goals as goal

pub loop-todo-init : goal.loop-todo-init
loop-todo-init c =
    let ms = c.args.forms.now in
    let numbers = c.in_ok-todo.ensures in
    record {
      right = subst (AreRight ms) (sym c.in_ok-done.ensures) (begins ms);
      seen = λ m h. inr ((numbers m).1 h);
      within = λ m at. (numbers m).0 at;
    }

pub round-requires-clause-within : goal.round-requires-clause-within
round-requires-clause-within c = subst (λ todo. (m : ℕ) → IsIn m todo → m < length c.args.forms.now) (sym c.deref.ensures.value) c.loop-todo.invariant.within

pub returns-then-len-clause-all : goal.returns-then-len-clause-all
returns-then-len-clause-all c =
    let ms = c.args.forms.now in
    let todo = c.loop-todo.todo.items in
    let left = c.in_ok-left.left.items in
    let t : Turns ms todo [] (length todo) c.loop-todo.done.items c.round.new.done.items left =
    subst (λ xs. Turns ms xs [] (length xs) c.loop-todo.done.items c.round.new.done.items left) c.deref.ensures.value c.in_ok-left.ensures in
    let same : length left ≡ length todo = search rules in
    all_made ms left c.round.new.done.items (seen_after ms todo c.loop-todo.done.items c.round.new.done.items left t c.loop-todo.invariant.seen) (t.stuck same)

pub loop-todo-preserved : goal.loop-todo-preserved
loop-todo-preserved c =
    let ms = c.args.forms.now in
    let todo = c.loop-todo.todo.items in
    let left = c.in_ok-left.left.items in
    let t : Turns ms todo [] (length todo) c.loop-todo.done.items c.round.new.done.items left =
    subst (λ xs. Turns ms xs [] (length xs) c.loop-todo.done.items c.round.new.done.items left) c.deref.ensures.value c.in_ok-left.ensures in
    record {
      right = t.right;
      seen = seen_after ms todo c.loop-todo.done.items c.round.new.done.items left t c.loop-todo.invariant.seen;
      within = λ m at. c.loop-todo.invariant.within m (t.from m at);
    }
