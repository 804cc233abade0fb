-- The code of a `for` of one clause that counts by a known step leaves what lies in the frame as it
-- was, where that of its parts does.
use Rattle.std.proofs.Common.{◌≡◌, ℕ, zero, suc, ◌+◌, ◌-◌, ◌≤◌, Bool, false, negsuc, [], ◌∷◌, ◌++◌, length, Option, Some, None, refl, ap, ◌∙◌, subst, arith, append_assoc, length-append}
use Rattle.dy_outcome.specs.declared.place.Place.{Place}
use Rattle.dy_code.specs.Fetching as instr
use Rattle.dy_code.specs.Layouts.{Layout}
use Rattle.dy_code.specs.Validity.{Known as Facts}
use Rattle.dy_lowered.specs.Flat.{Plain, Jump, Code, one}
use Rattle.dy_lowered.specs.Parts.{read, put, cell}
use Rattle.dy_lowered.specs.Turns.{Clause, Takes, Counts, Counter, leaves_if, tested, finished, counted, tests}
use Rattle.dy_lowering_whole.specs.valid.Shapes.{HasAt, IsUnder, Lays, IsEven}
use Rattle.dy_lowering_whole.proofs.valid.Counting.{IsAmountEven, IsLimitEven, IsCounter}
use Rattle.dy_lowering_whole.proofs.valid.Laying.{shape, every_append, every_under, has_at, has_front, has_back, fine_join, lays_nothing, lays_one, lays_join, lays_first, goes_push, goes_values}
use Rattle.dy_lowering_whole.proofs.valid.Leaving.{Exits, Leads, Ends, ends_lays, ends_join, ends_even, ends_first, ends_leaves_if, Lands, lays_turning}
use Rattle.dy_lowering_whole.proofs.valid.Pieces.{IsHeldEven, even_read, even_put, even_cell, even_truth}
use Rattle.dy_lowering_whole.proofs.valid.Straight.{lay, more, more_is}

abbrev pub IsClauseEven : Clause → Type 0
IsClauseEven (Takes place start next) = IsEven start × IsEven next
IsClauseEven (Counts place start limit step) = IsEven start × IsLimitEven limit × IsAmountEven step

abbrev pub IsTestEven : Option (Bool × Code) → Type 0
IsTestEven None = Unit {0}
IsTestEven (Some test) = IsEven test.1

pub even_finished : (last : Option Code) → IsHeldEven last → IsEven (finished last)
even_finished None h = even_truth false
even_finished (Some term) h = h

pub ends_tested : (exits : Exits) (test : Option (Bool × Code)) (away distance k : ℕ) (l : Layout) → IsTestEven test → exits k l → away ≡ distance + k → Ends exits (tested test away) distance l l
ends_tested exits None away distance k l h exit same = ends_lays exits [] distance l l (lays_nothing l)
ends_tested exits (Some test) away distance k l h exit same = ends_even exits test.1 (leaves_if test.0 away) distance l l l (h l) (ends_leaves_if exits test.0 away distance k l exit same)

-- two places that follow each other
abbrev Twice : Layout → Layout → Exits
Twice a b zero m = a ≡ m
Twice a b (suc zero) m = b ≡ m
Twice a b (suc (suc k)) m = ⊥

lands_twice : (first second : Code) (a b to : Layout) → length first ≡ 1 → Lays first a b → Lays second b to → Lands (Twice a b) (first ++ second) a to
lands_twice first second a b to is h k place rank =
    let y = k (place + length first) rank in
    let x = h place y.start in
    let code = first ++ second in
    let long = length-append first second in
    let end_is : place + length code ≡ place + length first + length second = omega (arith, long) in
    record {
      shapes = x.shapes ++ y.shapes;
      long = length-append x.shapes y.shapes ∙ omega (arith, x.long, y.long, long);
      under = every_append (IsUnder (rank + length code)) x.shapes y.shapes
          (every_under (y.start + length first) (rank + length code) x.shapes (omega (arith, y.low, long)) x.under)
          (every_under (rank + length second) (rank + length code) y.shapes (omega (arith, long)) y.under);
      leads = λ known has end.
          let last = has_at known (place + length code) (place + length first + length second) (shape to rank) end_is end in
          let next = y.starts known (has_back known place (length first) x.shapes y.shapes x.long has) last in
          let begin = x.starts known (has_front known place x.shapes y.shapes has) next in
          leads known (rank + length code) place (place + length first) x.start y.start (omega (arith, x.low, y.low, long)) (omega (arith, y.low, long)) (omega (arith, is)) begin next;
      fine = λ known has end only.
          let last = has_at known (place + length code) (place + length first + length second) (shape to rank) end_is end in
          let front = has_front known place x.shapes y.shapes has in
          let back = has_back known place (length first) x.shapes y.shapes x.long has in
          fine_join known place x.shapes y.shapes first second (x.fine known front (y.starts known back last) only) (y.fine known back last (x.keeps only));
    }
  where
    leads : (known : Facts) (most p q i j : ℕ) → i ≤ most → j ≤ most → q ≡ p + 1 → HasAt known p (shape a i) → HasAt known q (shape b j) → Leads (Twice a b) known p most
    leads known most p q i j few low next begin second zero m same = record { rank = i; at = subst (λ (o : Layout). HasAt known (p + 0) (shape o i)) same (has_at known p (p + 0) (shape a i) (omega arith) begin); few = few }
    leads known most p q i j few low next begin second (suc zero) m same = record { rank = j; at = subst (λ (o : Layout). HasAt known (p + 1) (shape o j)) same (has_at known q (p + 1) (shape b j) next second); few = low }
    leads known most p q i j few low next begin second (suc (suc k)) m same = absurd same

-- a loop of one clause that counts
module _ (place : Place) (clause : Counter) (is : IsCounter clause) (l : Layout) where
  abbrev hidden : ℕ
  hidden = clause.hidden

  abbrev low : Layout
  low = lay (more hidden l.operands) l.saved l

  abbrev high : Layout
  high = lay (suc (more hidden l.operands)) l.saved l

  pub even_counted : (test : Option (Bool × Code)) (inner : Code) (last : Option Code) → IsTestEven test → IsEven inner → IsHeldEven last → Lays (counted place clause test inner last) l l
  even_counted test inner last test_even inner_even last_even =
      let n = l.operands in
      let s = l.saved in
      let exits = Twice low high in
      let post = inner ++ clause.advancing 2 in
      let body = Plain instr.Tick ∷ post in
      let tests = tested test (length body + 2) in
      let rest = read place ++ (Plain instr.Push ∷ (tests ++ body)) in
      let check = clause.testing place (length rest + 1) in
      let before = read place ++ (Plain instr.Push ∷ tests) in
      let pre = put place ++ (cell place ++ (check ++ before)) in
      let turn = put place ++ (cell place ++ (check ++ rest)) in
      let assoc : pre ++ body ≡ turn =
      append_assoc (put place) (cell place ++ (check ++ before)) body
      ∙ ap (λ (c : Code). put place ++ c) (append_assoc (cell place) (check ++ before) body
      ∙ ap (λ (c : Code). cell place ++ c) (append_assoc check before body ∙ ap (λ (c : Code). check ++ c) (append_assoc (read place) (Plain instr.Push ∷ tests) body))) in
      let rest_is = length-append (read place) (Plain instr.Push ∷ (tests ++ body)) in
      let tests_is = length-append tests body in
      let before_is = length-append (read place) (Plain instr.Push ∷ tests) in
      let distance = 1 + length post + 1 in
      let pushes = goes_push (more hidden n) (suc (more hidden n)) (lay 0 s l) (omega arith) in
      let ends_pre : Ends exits pre distance low high =
      ends_even exits (put place) (cell place ++ (check ++ before)) distance low low high (even_put place low)
      (ends_even exits (cell place) (check ++ before) distance low low high (even_cell place low)
      (ends_join exits check before distance low low high (is.tests exits place (length rest + 1) (length before + distance) 0 n s l refl (omega (arith, rest_is, tests_is, before_is)))
      (ends_even exits (read place) (Plain instr.Push ∷ tests) distance low low high (even_read place low)
      (ends_first exits instr.Push tests distance low high high pushes (ends_tested exits test (length body + 2) distance 1 high test_even refl (omega arith)))))) in
      let ends_post : Ends exits post 1 high low = ends_even exits inner (clause.advancing 2) 1 high high low (inner_even high) (is.advances exits 2 1 1 n s l refl refl) in
      let last_code = Plain (instr.Values (hidden + 1)) ∷ finished last in
      let lands : Lands exits (Plain instr.Push ∷ last_code) low l =
      lands_twice (one instr.Push) last_code low high l refl (lays_one instr.Push low high pushes)
      (lays_first (instr.Values (hidden + 1)) (finished last) high l l (goes_values (hidden + 1) (suc (more hidden n)) n (lay 0 s l) (omega (arith, more_is hidden n))) (even_finished last last_even l)) in
      lays_join clause.starting (turn ++ (Jump (negsuc (length turn)) ∷ Plain instr.Push ∷ last_code)) l low l (is.starts n s l)
      (subst (λ (t : Code). Lays (t ++ (Jump (negsuc (length t)) ∷ Plain instr.Push ∷ last_code)) low l) assoc (lays_turning exits pre post (Plain instr.Push ∷ last_code) low high l ends_pre ends_post lands (λ h. h)))
