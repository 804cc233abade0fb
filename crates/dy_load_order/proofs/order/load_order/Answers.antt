use Rattle.std.proofs.Common.{◌≡◌, ◌<◌, ◌≤◌, ◌+◌, ◌∷◌, ◌++◌, ℕ, Bool, true, false, List, [], length, map, reverse, get_or, slice_set, sym, ap, subst, ◌∙◌, arith}
use Rattle.std.proofs.lemmas.List.{get_or_read, length_push}
use Rattle.dy_load_order.specs.declared.order.Task.{Task}
use Rattle.dy_load_order.specs.declared.order.Task.TheVariants.{Visit, Place}
use Rattle.dy_load_order.specs.LoadOrder.{used_by}
use Rattle.dy_load_order.proofs.Lawful.{at_most}
use Rattle.dy_load_order.proofs.Walking.{work, less_put, less_passed, less_planned, library_of, within_last, IsUnderWay, passed, planned, put, all_done}
use Rattle.dy_load_order.proofs.order.load_order.Goals as goal

-- the last task, where it is known which one it is
last_is : (todo rest : List Task) (task known : Task) → todo ≡ rest ++ task ∷ [] → task ≡ known → todo ≡ rest ++ known ∷ []
last_is todo rest task known e is = e ∙ ap (λ (t : Task). rest ++ t ∷ []) is

same_visit : (task : Task) (m n : ℕ) → task ≡ Visit m → task ≡ Visit n → m ≡ n
same_visit task m n e f = cc

in_uses : (uses : List (List ℕ)) (main : ℕ) (placed : List Bool) (order : List ℕ) (todo rest : List Task) (task : Task) → todo ≡ rest ++ task ∷ [] → IsUnderWay uses main placed order todo → library_of task < length uses
in_uses uses main placed order todo rest task e way = within_last (length uses) rest task (subst (λ (ts : List Task). IsUnderWay uses main placed order ts) e way).within

in_placed : (uses : List (List ℕ)) (main : ℕ) (placed : List Bool) (order : List ℕ) (todo rest : List Task) (task : Task) → todo ≡ rest ++ task ∷ [] → IsUnderWay uses main placed order todo → library_of task < length placed
in_placed uses main placed order todo rest task e way = let l = in_uses uses main placed order todo rest task e way in let long = way.long in omega arith

pub index-requires : goal.index-requires
index-requires c =
    let popped = last_is c.loop-task.todo.items c.pop.new.self.items c.in-Some.task (Visit c.in-Visit.library) c.in-Some.ensures.items c.in-Visit.is in
    let l = in_placed (c.args.uses.now ++ c.args.used.now ∷ []) (length c.args.uses.now) c.loop-task.placed.items c.loop-task.order.items c.loop-task.todo.items c.pop.new.self.items (Visit c.in-Visit.library) popped c.loop-task.invariant in
    omega (arith, c.loop-task.placed.ok.0)

pub loop-task-smaller-then-index : goal.loop-task-smaller-then-index
loop-task-smaller-then-index c =
    let uses = c.args.uses.now ++ c.args.used.now ∷ [] in
    let popped = last_is c.loop-task.todo.items c.pop.new.self.items c.in-Some.task (Visit c.in-Visit.library) c.in-Some.ensures.items c.in-Visit.is in
    subst (λ (ts : List Task). work uses c.pop.new.self.items < work uses ts) (sym popped) (less_passed uses c.pop.new.self.items c.in-Visit.library)

pub loop-task-preserved-then-index : goal.loop-task-preserved-then-index
loop-task-preserved-then-index c =
    let uses = c.args.uses.now ++ c.args.used.now ∷ [] in
    let placed = c.loop-task.placed.items in
    let order = c.loop-task.order.items in
    let n = c.in-Visit.library in
    let popped = last_is c.loop-task.todo.items c.pop.new.self.items c.in-Some.task (Visit n) c.in-Some.ensures.items c.in-Visit.is in
    let l = in_placed uses (length c.args.uses.now) placed order c.loop-task.todo.items c.pop.new.self.items (Visit n) popped c.loop-task.invariant in
    passed uses (length c.args.uses.now) placed order c.pop.new.self.items n
    (subst (λ (ts : List Task). IsUnderWay uses (length c.args.uses.now) placed order ts) popped c.loop-task.invariant)
    (sym (get_or_read placed n c.index.result.now l c.index.ensures false) ∙ c.if-index.true)

pub plan-requires : goal.plan-requires
plan-requires c =
    let uses = c.args.uses.now ++ c.args.used.now ∷ [] in
    let popped = last_is c.loop-task.todo.items c.pop.new.self.items c.in-Some.task (Visit c.in-Visit-2.library) c.in-Some.ensures.items c.in-Visit-2.is in
    let l : c.in-Visit-2.library < length (c.args.uses.now ++ c.args.used.now ∷ []) =
    in_uses uses (length c.args.uses.now) c.loop-task.placed.items c.loop-task.order.items c.loop-task.todo.items c.pop.new.self.items (Visit c.in-Visit-2.library) popped c.loop-task.invariant in
    omega (arith, length_push c.args.uses.now c.args.used.now)

pub loop-task-smaller-in-Continue-branch-3 : goal.loop-task-smaller-in-Continue-branch-3
loop-task-smaller-in-Continue-branch-3 c =
    let uses = c.args.uses.now ++ c.args.used.now ∷ [] in
    let rest = c.pop.new.self.items in
    let n = c.in-Visit-2.library in
    let popped = last_is c.loop-task.todo.items rest c.in-Some.task (Visit n) c.in-Some.ensures.items c.in-Visit-2.is in
    subst (λ (ts : List Task). work uses ts < work uses c.loop-task.todo.items) (sym c.in_ok-plan-in-Visit-2.ensures)
    (subst (λ (ts : List Task). work uses (rest ++ Place n ∷ map Visit (reverse (used_by uses n))) < work uses ts) (sym popped)
    (less_planned uses c.requires.earlier rest n))

pub loop-task-preserved-in-Continue-branch-3 : goal.loop-task-preserved-in-Continue-branch-3
loop-task-preserved-in-Continue-branch-3 c =
    let uses = c.args.uses.now ++ c.args.used.now ∷ [] in
    let placed = c.loop-task.placed.items in
    let order = c.loop-task.order.items in
    let m = c.in-Visit.library in
    let n = c.in-Visit-2.library in
    let same : m ≡ n = same_visit c.in-Some.task m n c.in-Visit.is c.in-Visit-2.is in
    let read = last_is c.loop-task.todo.items c.pop.new.self.items c.in-Some.task (Visit m) c.in-Some.ensures.items c.in-Visit.is in
    let l = in_placed uses (length c.args.uses.now) placed order c.loop-task.todo.items c.pop.new.self.items (Visit m) read c.loop-task.invariant in
    let popped = last_is c.loop-task.todo.items c.pop.new.self.items c.in-Some.task (Visit n) c.in-Some.ensures.items c.in-Visit-2.is in
    subst (λ (ts : List Task). IsUnderWay uses (length c.args.uses.now) placed order ts) (sym c.in_ok-plan-in-Visit-2.ensures)
    (planned uses (length c.args.uses.now) placed order c.pop.new.self.items n c.requires.earlier
    (subst (λ (ts : List Task). IsUnderWay uses (length c.args.uses.now) placed order ts) popped c.loop-task.invariant)
    (subst (λ (k : ℕ). get_or placed k false ≡ false) same (sym (get_or_read placed m c.index.result.now l c.index.ensures false) ∙ c.if-index.false)))

pub index_mut-requires : goal.index_mut-requires
index_mut-requires c =
    let popped = last_is c.loop-task.todo.items c.pop.new.self.items c.in-Some.task (Place c.in-Place.library) c.in-Some.ensures.items c.in-Place.is in
    let l = in_placed (c.args.uses.now ++ c.args.used.now ∷ []) (length c.args.uses.now) c.loop-task.placed.items c.loop-task.order.items c.loop-task.todo.items c.pop.new.self.items (Place c.in-Place.library) popped c.loop-task.invariant in
    omega (arith, c.loop-task.placed.ok.0)

pub loop-task-smaller : goal.loop-task-smaller
loop-task-smaller c =
    let uses = c.args.uses.now ++ c.args.used.now ∷ [] in
    let popped = last_is c.loop-task.todo.items c.pop.new.self.items c.in-Some.task (Place c.in-Place.library) c.in-Some.ensures.items c.in-Place.is in
    subst (λ (ts : List Task). work uses c.pop.new.self.items < work uses ts) (sym popped) (less_put uses c.pop.new.self.items c.in-Place.library)

pub loop-task-preserved : goal.loop-task-preserved
loop-task-preserved c =
    let uses = c.args.uses.now ++ c.args.used.now ∷ [] in
    let placed = c.loop-task.placed.items in
    let order = c.loop-task.order.items in
    let n = c.in-Place.library in
    let popped = last_is c.loop-task.todo.items c.pop.new.self.items c.in-Some.task (Place n) c.in-Some.ensures.items c.in-Place.is in
    subst (λ (xs : List ℕ). IsUnderWay uses (length c.args.uses.now) (slice_set placed n true) xs c.pop.new.self.items) (sym c.in_ok-push-in-Place.ensures.items)
    (put uses (length c.args.uses.now) placed order c.pop.new.self.items n
    (subst (λ (ts : List Task). IsUnderWay uses (length c.args.uses.now) placed order ts) popped c.loop-task.invariant))

pub returns-clause-few : goal.returns-clause-few
returns-clause-few c =
    let none : length c.loop-task.todo.items ≡ 0 = omega (arith, c.in_default.ensures.cases.0, c.loop-task.todo.ok.0) in
    let all = all_done (c.args.uses.now ++ c.args.used.now ∷ []) (length c.args.uses.now) c.loop-task.placed.items c.loop-task.order.items c.loop-task.todo.items none c.loop-task.invariant in
    subst (λ (xs : List ℕ). length xs ≤ length c.args.uses.now + 1) (sym (c.from_vec.ensures ∙ all)) (at_most (c.args.uses.now ++ c.args.used.now ∷ []) (length c.args.uses.now) c.requires.earlier)
