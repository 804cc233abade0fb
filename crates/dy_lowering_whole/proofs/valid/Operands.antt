-- Code over operands that it reads and leaves.
use Rattle.std.proofs.Common.{◌≡◌, ℕ, suc, ◌+◌, ◌-◌, ◌≤◌, false, ℤ, pos, negsuc, ◌+ℤ◌, ◌-ℤ◌, ◌∷◌, ◌++◌, arith}
use Rattle.dy_code.specs.Fetching as instr
use Rattle.dy_code.specs.Layouts.{Layout}
use Rattle.dy_lowered.specs.Flat.{Plain, Code, one}
use Rattle.dy_lowered.specs.Parts.{choice}
use Rattle.dy_lowered.specs.Turns.{Amount, Known, Given, addition, multiplication, comparison, opposite, number, least_number, greatest_number, operand, on_both, less, negated, operands, its_step, its_bound, its_number, lower_bound, upper_bound, against, overflows, counted_on}
use Rattle.dy_lowering_whole.specs.valid.Shapes.{Lays, IsEven}
use Rattle.dy_lowering_whole.proofs.valid.Choosing.{lays_choice}
use Rattle.dy_lowering_whole.proofs.valid.Counting.{even_number}
use Rattle.dy_lowering_whole.proofs.valid.Laying.{lays_one, lays_join, lays_first, goes_op, goes_push, goes_spread, goes_values}
use Rattle.dy_lowering_whole.proofs.valid.Straight.{lay}

-- Code that leaves all as it was, where there are so many operands.
abbrev pub IsOver : ℕ → Code → Type 0
IsOver count code = (l : Layout) (m t : ℕ) → count ≤ m → Lays code (lay m t l) (lay m t l)

pub over_even : (count : ℕ) (code : Code) → IsEven code → IsOver count code
over_even count code h l m t few = h (lay m t l)

pub over_more : (count other : ℕ) (code : Code) → count ≤ other → IsOver count code → IsOver other code
over_more count other code less h l m t few = h l m t (omega (arith, less, few))

pub over_operand : (place : ℕ) → IsOver place (operand place)
over_operand place l m t few =
    let below = lay (m - place) t l in
    lays_first (instr.Values place) (one (instr.Spread place false)) (lay m t l) below (lay m t l) (goes_values place m (m - place) (lay 0 t l) (omega (arith, few)))
    (lays_one (instr.Spread place false) below (lay m t l) (goes_spread place (m - place) m (lay 0 t l) (omega (arith, few))))

pub over_join : (count : ℕ) (one other : Code) → IsOver count one → IsOver count other → IsOver count (one ++ other)
over_join count one other a b l m t few = lays_join one other (lay m t l) (lay m t l) (lay m t l) (a l m t few) (b l m t few)

pub over_choice : (count : ℕ) (test guarded other : Code) → IsOver count test → IsOver count guarded → IsOver count other → IsOver count (choice test guarded other)
over_choice count test guarded other a b c l m t few = lays_choice test guarded other (lay m t l) (lay m t l) (lay m t l) (a l m t few) (b l m t few) (c l m t few)

pub over_both : (count other operation : ℕ) (left right : Code) → other ≤ count + 1 → IsOver count left → IsOver other right → IsOver count (on_both operation left right)
over_both count other operation left right less a b l m t few =
    let top = lay (suc m) t l in
    let end = Plain instr.Push ∷ one (instr.Op operation 2) in
    lays_join left (Plain instr.Push ∷ (right ++ end)) (lay m t l) (lay m t l) (lay m t l) (a l m t few)
    (lays_first instr.Push (right ++ end) (lay m t l) top (lay m t l) (goes_push m (suc m) (lay 0 t l) (omega arith))
    (lays_join right end top top (lay m t l) (b l (suc m) t (omega (arith, less, few)))
    (lays_first instr.Push (one (instr.Op operation 2)) top (lay (suc (suc m)) t l) (lay m t l) (goes_push (suc m) (suc (suc m)) (lay 0 t l) (omega arith))
    (lays_one (instr.Op operation 2) (lay (suc (suc m)) t l) (lay m t l) (goes_op operation 2 (suc (suc m)) m (lay 0 t l) (omega arith))))))

pub over_number : (count : ℕ) (value : ℤ) → IsOver count (number value)
over_number count value = over_even count (number value) (even_number value)

pub over_negated : (count : ℕ) (code : Code) → IsOver count code → IsOver count (negated code)
over_negated count code h l m t few =
    let end = Plain instr.Push ∷ one (instr.Op opposite 1) in
    lays_join code end (lay m t l) (lay m t l) (lay m t l) (h l m t few)
    (lays_first instr.Push (one (instr.Op opposite 1)) (lay m t l) (lay (suc m) t l) (lay m t l) (goes_push m (suc m) (lay 0 t l) (omega arith)) (lays_one (instr.Op opposite 1) (lay (suc m) t l) (lay m t l) (goes_op opposite 1 (suc m) m (lay 0 t l) (omega arith))))

-- what a clause that counts has among the operands, below so many others
module _ (above : ℕ) where
  abbrev pub room : ℕ
  room = above + 3

  pub over_step : IsOver room (its_step above)
  over_step = over_more (above + 1) room (its_step above) (omega arith) (over_operand (above + 1))

  pub over_number_of : IsOver room (its_number above)
  over_number_of = over_operand (above + 3)

  pub over_next_number : IsOver (room + 1) (its_number (above + 1))
  over_next_number = over_more (above + 1 + 3) (room + 1) (its_number (above + 1)) (omega arith) (over_operand (above + 1 + 3))

  pub over_lower : IsOver room (lower_bound above)
  over_lower = over_both room (room + 1) comparison (its_bound above) (its_number (above + 1)) (omega arith) (over_more (above + 2) room (its_bound above) (omega arith) (over_operand (above + 2))) over_next_number

  pub over_upper : IsOver room (upper_bound above)
  over_upper =
      over_both room (room + 1) comparison (its_number above) (its_bound (above + 1)) (omega arith) over_number_of (over_more (above + 1 + 2) (room + 1) (its_bound (above + 1)) (omega arith) (over_operand (above + 1 + 2)))

  pub over_falling : IsOver room (less (its_step above) (number (pos 0)))
  over_falling = over_both room (room + 1) comparison (its_step above) (number (pos 0)) (omega arith) over_step (over_number (room + 1) (pos 0))

  pub over_against : (step : Code) (value : ℤ) → IsOver room step → IsOver room (against step value)
  over_against step value h =
      over_both room (room + 1) addition (on_both multiplication step (number (negsuc 0))) (number value) (omega arith)
      (over_both room (room + 1) multiplication step (number (negsuc 0)) (omega arith) h (over_number (room + 1) (negsuc 0))) (over_number (room + 1) value)

  -- compared with the number
  pub over_less : (code : Code) → IsOver room code → IsOver room (less code (its_number (above + 1)))
  over_less code h = over_both room (room + 1) comparison code (its_number (above + 1)) (omega arith) h over_next_number

  pub over_overflows : (step : Amount) → IsOver room (overflows step above)
  over_overflows (Known (pos m)) = over_less (number (greatest_number -ℤ pos m)) (over_number room (greatest_number -ℤ pos m))
  over_overflows (Known (negsuc m)) =
      over_both room (room + 1) comparison (its_number above) (number (least_number +ℤ pos (suc m))) (omega arith) over_number_of (over_number (room + 1) (least_number +ℤ pos (suc m)))
  over_overflows (Given code) =
      let next = on_both addition (its_step above) (number (pos 1)) in
      let down = against next least_number in
      let up = against (its_step above) greatest_number in
      over_choice room (less (its_step above) (number (pos 0))) (negated (less down (its_number (above + 1)))) (less up (its_number (above + 1))) over_falling
      (over_negated room (less down (its_number (above + 1))) (over_less down (over_against next least_number (over_both room (room + 1) addition (its_step above) (number (pos 1)) (omega arith) over_step (over_number (room + 1) (pos 1))))))
      (over_less up (over_against (its_step above) greatest_number over_step))

  pub lays_counted_on : (l : Layout) (m k t : ℕ) → room ≤ m → k ≡ 3 + m → Lays (counted_on above) (lay m t l) (lay k t l)
  lays_counted_on l m k t few e =
      let sum = on_both addition (its_number above) (its_step (above + 1)) in
      let step_and = its_step (above + 2) ++ one instr.Push in
      let bound_and = its_bound (above + 1) ++ (Plain instr.Push ∷ step_and) in
      let here = lay m t l in
      let first = lay (suc m) t l in
      let second = lay (suc (suc m)) t l in
      let end = lay k t l in
      lays_join sum (Plain instr.Push ∷ bound_and) here here end (over_both room (above + 1 + 1) addition (its_number above) (its_step (above + 1)) (omega arith) over_number_of (over_operand (above + 1 + 1)) l m t few)
      (lays_first instr.Push bound_and here first end (goes_push m (suc m) (lay 0 t l) (omega arith))
      (lays_join (its_bound (above + 1)) (Plain instr.Push ∷ step_and) first first end (over_operand (above + 1 + 2) l (suc m) t (omega (arith, few)))
      (lays_first instr.Push step_and first second end (goes_push (suc m) (suc (suc m)) (lay 0 t l) (omega arith))
      (lays_join (its_step (above + 2)) (one instr.Push) second second end (over_operand (above + 2 + 1) l (suc (suc m)) t (omega (arith, few))) (lays_one instr.Push second end (goes_push (suc (suc m)) k (lay 0 t l) (omega (arith, e))))))))
