-- The code of a `for` of any clauses leaves what lies in the frame as it was, where that of its
-- parts does.
use Rattle.std.proofs.Common.{◌≡◌, ℕ, zero, suc, ◌+◌, ◌-◌, ◌≤◌, Bool, true, false, pos, negsuc, List, [], ◌∷◌, ◌++◌, length, Option, Some, None, refl, ap, ◌∙◌, subst, arith, append_assoc, length-append}
use Rattle.std.specs.Prelude.{flat_map}
use Rattle.dy_term.specs.declared.term.Limit.{Limit}
use Rattle.dy_term.specs.declared.term.Limit.TheVariants.{To, Above, Below}
use Rattle.dy_code.specs.Fetching as instr
use Rattle.dy_code.specs.Layouts.{Layout}
use Rattle.dy_code.specs.Validity.{Every, Known as Facts}
use Rattle.dy_lowered.specs.Flat.{Plain, Jump, Code, one, past, past_if_false}
use Rattle.dy_lowered.specs.Parts.{put, cell, choice}
use Rattle.dy_lowered.specs.Turns.{Amount, Known, Given, Clause, Takes, Counts, number, integer, leaves_if, tested, finished, operand, less, operands, all_operands, amount, bound, starting, variable, bindings, its_step, lower_bound, upper_bound, limit_reached, testing, tests, overflows, counted_on, advancing, advances, renewed, turns}
use Rattle.dy_lowering_whole.specs.valid.Shapes.{HasAt, Lays, IsEven}
use Rattle.dy_lowering_whole.proofs.valid.Counting.{IsAmountEven, IsLimitEven, even_number, even_integer}
use Rattle.dy_lowering_whole.proofs.valid.Laying.{shape, has_at, lays_nothing, lays_one, lays_join, lays_first, goes_push, goes_restore, goes_save, goes_spread, goes_values}
use Rattle.dy_lowering_whole.proofs.valid.Leaving.{Leads, Ends, ends_lays, ends_join, ends_even, ends_first, ends_at, ends_from, ends_to, ends_past, ends_leaves_if, Only, ends_guard, Lands, lays_turning}
use Rattle.dy_lowering_whole.proofs.valid.Pieces.{IsHeldEven, even_put, even_cell, even_truth}
use Rattle.dy_lowering_whole.proofs.valid.Straight.{lay}
use Rattle.dy_lowering_whole.proofs.valid.Operands.{IsOver, over_even, over_more, over_operand, over_join, over_choice, over_lower, over_upper, over_falling, over_overflows, lays_counted_on}
use Rattle.dy_lowering_whole.proofs.valid.Turning.{IsClauseEven, IsTestEven, even_finished, ends_tested}

even_amount : (value : Amount) → IsAmountEven value → IsEven (amount value)
even_amount (Known number) h = even_number number
even_amount (Given code) h = even_integer code h

even_bound : (limit : Option (Limit × Amount)) → IsLimitEven limit → IsEven (bound limit)
even_bound None h = even_truth false
even_bound (Some limit) h = even_amount limit.1 h

-- a loop of any clauses
module _ (l : Layout) where
  lays_starting : (clause : Clause) (m t : ℕ) → IsClauseEven clause → Lays (starting clause) (lay m t l) (lay (operands clause + m) t l)
  lays_starting (Takes place start next) m t h = lays_join start (one instr.Push) (lay m t l) (lay m t l) (lay (1 + m) t l) (h.0 (lay m t l)) (lays_one instr.Push (lay m t l) (lay (1 + m) t l) (goes_push m (1 + m) (lay 0 t l) refl))
  lays_starting (Counts place start limit step) m t h =
      let step_and = amount step ++ one instr.Push in
      let bound_and = bound limit ++ (Plain instr.Push ∷ step_and) in
      let here = lay m t l in
      let first = lay (suc m) t l in
      let second = lay (suc (suc m)) t l in
      let end = lay (3 + m) t l in
      lays_join (integer start) (Plain instr.Push ∷ bound_and) here here end (even_integer start h.0 here)
      (lays_first instr.Push bound_and here first end (goes_push m (suc m) (lay 0 t l) (omega arith))
      (lays_join (bound limit) (Plain instr.Push ∷ step_and) first first end (even_bound limit h.1 first)
      (lays_first instr.Push step_and first second end (goes_push (suc m) (suc (suc m)) (lay 0 t l) (omega arith))
      (lays_join (amount step) (one instr.Push) second second end (even_amount step h.2 second) (lays_one instr.Push second end (goes_push (suc (suc m)) (3 + m) (lay 0 t l) (omega arith)))))))

  lays_at : (code : Code) (i j k m t : ℕ) → i ≡ k → j ≡ m → Lays code (lay i t l) (lay j t l) → Lays code (lay k t l) (lay m t l)
  lays_at code i j k m t a b h = subst (λ (q : ℕ). Lays code (lay q t l) (lay m t l)) a (subst (λ (q : ℕ). Lays code (lay i t l) (lay q t l)) b h)

  lays_starts : (clauses : List Clause) (m t : ℕ) → Every IsClauseEven clauses → Lays (flat_map starting clauses) (lay m t l) (lay (all_operands clauses + m) t l)
  lays_starts [] m t every = lays_at [] m m m (all_operands [] + m) t refl (omega arith) (lays_nothing (lay m t l))
  lays_starts (clause ∷ clauses) m t every =
      let count = operands clause in
      lays_join (starting clause) (flat_map starting clauses) (lay m t l) (lay (count + m) t l) (lay (all_operands (clause ∷ clauses) + m) t l) (lays_starting clause m t every.0)
      (lays_at (flat_map starting clauses) (count + m) (all_operands clauses + (count + m)) (count + m) (all_operands (clause ∷ clauses) + m) t refl (omega arith) (lays_starts clauses (count + m) t every.1))

over_bindings : (clauses : List Clause) → IsOver (all_operands clauses) (bindings clauses)
over_bindings [] = over_even 0 [] lays_nothing
over_bindings (clause ∷ clauses) =
    let sum = all_operands (clause ∷ clauses) in
    let place = variable clause in
    over_join sum (operand sum) (put place ++ (cell place ++ bindings clauses)) (over_operand sum)
    (over_join sum (put place) (cell place ++ bindings clauses) (over_even sum (put place) (even_put place))
    (over_join sum (cell place) (bindings clauses) (over_even sum (cell place) (even_cell place)) (over_more (all_operands clauses) sum (bindings clauses) (omega arith) (over_bindings clauses))))

lays_renewed : (count m k t : ℕ) (l : Layout) → k ≡ count + m → Lays (renewed count) (lay (count + k) t l) (lay k t l)
lays_renewed count m k t l e =
    let top = lay (count + k) t l in
    let here = lay k t l in
    let rest = Plain instr.Restore ∷ one (instr.Spread count false) in
    lays_first (instr.Values count) (Plain instr.Save ∷ Plain (instr.Values count) ∷ rest) top here here (goes_values count (count + k) k (lay 0 t l) refl)
    (lays_first instr.Save (Plain (instr.Values count) ∷ rest) here (lay k (suc t) l) here (goes_save here)
    (lays_first (instr.Values count) rest (lay k (suc t) l) (lay m (suc t) l) here (goes_values count k m (lay 0 (suc t) l) e)
    (lays_first instr.Restore (one (instr.Spread count false)) (lay m (suc t) l) (lay m t l) here (goes_restore (lay m t l)) (lays_one (instr.Spread count false) (lay m t l) here (goes_spread count m k (lay 0 t l) e)))))

lands_once : (code : Code) (from to : Layout) → Lays code from to → Lands (Only from) code from to
lands_once code from to h place rank =
    let x = h place rank in
    record {
      shapes = x.shapes;
      long = x.long;
      under = x.under;
      leads = λ known has end. leads known (rank + length code) place x.start x.low (x.starts known has end);
      fine = x.fine;
    }
  where
    leads : (known : Facts) (most p i : ℕ) → i ≤ most → HasAt known p (shape from i) → Leads (Only from) known p most
    leads known most p i few begin zero m same = record { rank = i; at = subst (λ (o : Layout). HasAt known (p + 0) (shape o i)) same (has_at known p (p + 0) (shape from i) (omega arith) begin); few = few }
    leads known most p i few begin (suc k) m same = absurd same

-- so many operands of the loop lie over those that lay there
module _ (l : Layout) (n s sum : ℕ) where
  abbrev full : Layout
  full = lay (sum + n) s l

  ends_limit : (limit : Limit) (above distance : ℕ) → above + 3 ≤ sum → Ends (Only full) (limit_reached limit above distance) distance full full
  ends_limit To above distance few =
      let compare = choice (less (its_step above) (number (pos 0))) (upper_bound above) (lower_bound above) in
      ends_even (Only full) compare (leaves_if true distance) distance full full full
      (over_choice (above + 3) (less (its_step above) (number (pos 0))) (upper_bound above) (lower_bound above) (over_falling above) (over_upper above) (over_lower above) l (sum + n) s (omega (arith, few)))
      (ends_leaves_if (Only full) true distance distance 0 full refl (omega arith))
  ends_limit Above above distance few =
      ends_even (Only full) (lower_bound above) (leaves_if false distance) distance full full full (over_lower above l (sum + n) s (omega (arith, few))) (ends_leaves_if (Only full) false distance distance 0 full refl (omega arith))
  ends_limit Below above distance few =
      ends_even (Only full) (upper_bound above) (leaves_if false distance) distance full full full (over_upper above l (sum + n) s (omega (arith, few))) (ends_leaves_if (Only full) false distance distance 0 full refl (omega arith))

  ends_testing : (clause : Clause) (above distance : ℕ) → above + operands clause ≤ sum → Ends (Only full) (testing clause above distance) distance full full
  ends_testing (Takes place start next) above distance few = ends_lays (Only full) [] distance full full (lays_nothing full)
  ends_testing (Counts place start None step) above distance few = ends_lays (Only full) [] distance full full (lays_nothing full)
  ends_testing (Counts place start (Some limit) step) above distance few = ends_limit limit.0 above distance few

  ends_tests : (clauses : List Clause) (far : ℕ) → all_operands clauses ≤ sum → Ends (Only full) (tests clauses far) far full full
  ends_tests [] far few = ends_lays (Only full) [] far full full (lays_nothing full)
  ends_tests (clause ∷ clauses) far few =
      let rest = tests clauses far in
      let distance = length rest + far in
      ends_join (Only full) (testing clause (all_operands clauses) distance) rest far full full full (ends_testing clause (all_operands clauses) distance (omega (arith, few))) (ends_tests clauses far (omega (arith, few)))

  -- where so many operands of the next turn lie there already
  ends_advancing : (clause : Clause) (before above distance : ℕ) → IsClauseEven clause → above + operands clause ≤ before + sum
      → Ends (Only full) (advancing clause before above distance) distance (lay (before + (sum + n)) s l) (lay (before + operands clause + (sum + n)) s l)
  ends_advancing (Takes place start next) before above distance h few =
      let here = lay (before + (sum + n)) s l in
      let end = lay (before + 1 + (sum + n)) s l in
      ends_lays (Only full) (next ++ one instr.Push) distance here end
      (lays_join next (one instr.Push) here here end (h.1 here) (lays_one instr.Push here end (goes_push (before + (sum + n)) (before + 1 + (sum + n)) (lay 0 s l) (omega arith))))
  ends_advancing (Counts place start limit step) before above distance h few =
      let m = before + (sum + n) in
      let here = lay m s l in
      let end = lay (before + 3 + (sum + n)) s l in
      let goes_on = counted_on above in
      let far = length goes_on + distance in
      let enough : above + 3 ≤ m = omega (arith, few) in
      ends_even (Only full) (overflows step above) (past_if_false 2 ∷ Plain (instr.Values before) ∷ past far ∷ goes_on) distance here here end (over_overflows above step l m s enough)
      (ends_guard (Only full) (Plain (instr.Values before) ∷ past far ∷ []) goes_on distance here end
      (ends_first (Only full) (instr.Values before) (past far ∷ []) far here full here (goes_values before m (sum + n) (lay 0 s l) refl) (ends_past (Only full) far far 0 full here refl (omega arith) (λ k. k)))
      (lays_counted_on above l m (before + 3 + (sum + n)) s enough (omega arith)))

  ends_advances : (clauses : List Clause) (before far : ℕ) → Every IsClauseEven clauses → all_operands clauses ≤ sum → Ends (Only full) (advances before clauses far) far (lay (before + (sum + n)) s l) (lay (before + all_operands clauses + (sum + n)) s l)
  ends_advances [] before far every few =
      let here = lay (before + (sum + n)) s l in
      let same : before + (sum + n) ≡ before + all_operands [] + (sum + n) = omega arith in
      ends_to (Only full) [] far here here (lay (before + all_operands [] + (sum + n)) s l) (ap (λ (q : ℕ). lay q s l) same) (ends_lays (Only full) [] far here here (lays_nothing here))
  ends_advances (clause ∷ clauses) before far every few =
      let next = before + operands clause in
      let rest = advances next clauses far in
      let above = before + all_operands clauses in
      let distance = length rest + far in
      let here = lay (before + (sum + n)) s l in
      let through = lay (next + (sum + n)) s l in
      let end = lay (before + all_operands (clause ∷ clauses) + (sum + n)) s l in
      let same : next + all_operands clauses + (sum + n) ≡ before + all_operands (clause ∷ clauses) + (sum + n) = omega arith in
      ends_join (Only full) (advancing clause before above distance) rest far here through end (ends_advancing clause before above distance every.0 (omega (arith, few)))
      (ends_to (Only full) rest far through (lay (next + all_operands clauses + (sum + n)) s l) end (ap (λ (q : ℕ). lay q s l) same) (ends_advances clauses next far every.1 (omega (arith, few))))

pub even_turns : (clauses : List Clause) (test : Option (Bool × Code)) (inner : Code) (last : Option Code) → Every IsClauseEven clauses → IsTestEven test → IsEven inner → IsHeldEven last → IsEven (turns clauses test inner last)
even_turns clauses test inner last every test_even inner_even last_even l =
    let n = l.operands in
    let s = l.saved in
    let sum = all_operands clauses in
    let top = full l n s sum in
    let exits = Only top in
    let renews = renewed sum in
    let goes_on = advances 0 clauses 6 in
    let post = inner ++ (goes_on ++ renews) in
    let body = Plain instr.Tick ∷ post in
    let test_code = tested test (length body + 1) in
    let rest = test_code ++ body in
    let checks = tests clauses (length rest + 1) in
    let binds = bindings clauses in
    let pre = binds ++ (checks ++ test_code) in
    let turn = binds ++ (checks ++ rest) in
    let assoc : pre ++ body ≡ turn = append_assoc binds (checks ++ test_code) body ∙ ap (λ (c : Code). binds ++ c) (append_assoc checks test_code body) in
    let rest_is = length-append test_code body in
    let distance = 1 + length post + 1 in
    let ends_pre : Ends exits pre distance top top =
    ends_even exits binds (checks ++ test_code) distance top top top (over_bindings clauses l (sum + n) s (omega arith))
    (ends_join exits checks test_code distance top top top (ends_at exits checks (length rest + 1) (length test_code + distance) top top (omega (arith, rest_is)) (ends_tests l n s sum clauses (length rest + 1) (omega arith)))
    (ends_tested exits test (length body + 1) distance 0 top test_even refl (omega arith))) in
    let high = lay (sum + (sum + n)) s l in
    let five : length renews + 1 ≡ 6 = refl in
    let none : 0 + (sum + n) ≡ sum + n = omega arith in
    let all_is : 0 + sum + (sum + n) ≡ sum + (sum + n) = omega arith in
    let ends_post : Ends exits post 1 top top =
    ends_even exits inner (goes_on ++ renews) 1 top top top (inner_even top)
    (ends_join exits goes_on renews 1 top high top
    (ends_from exits goes_on (length renews + 1) (lay (0 + (sum + n)) s l) top high (ap (λ (q : ℕ). lay q s l) none)
    (ends_to exits goes_on (length renews + 1) (lay (0 + (sum + n)) s l) (lay (0 + sum + (sum + n)) s l) high (ap (λ (q : ℕ). lay q s l) all_is)
    (ends_advances l n s sum clauses 0 6 every (omega arith))))
    (ends_lays exits renews 1 high top (lays_renewed sum n (sum + n) s l refl))) in
    let tail = Plain (instr.Values sum) ∷ finished last in
    lays_join (flat_map starting clauses) (turn ++ (Jump (negsuc (length turn)) ∷ tail)) l top l (lays_starts l clauses n s every)
    (subst (λ (t : Code). Lays (t ++ (Jump (negsuc (length t)) ∷ tail)) top l) assoc
    (lays_turning exits pre post tail top top l ends_pre ends_post
    (lands_once tail top l (lays_first (instr.Values sum) (finished last) top l l (goes_values sum (sum + n) n (lay 0 s l) refl) (even_finished last last_even l))) (λ k. k)))
