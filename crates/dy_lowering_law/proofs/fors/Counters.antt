-- How clauses count.
use Rattle.std.proofs.Common.{◌≡◌, ℕ, zero, suc, ◌+◌, ◌≤◌, Bool, true, false, not, ℤ, ◌+ℤ◌, ◌-ℤ◌, pos, negsuc, List, [], ◌∷◌, ◌++◌, length, refl, sym, ap, ◌∙◌, subst, arith, length-append}
use Rattle.std.specs.Prelude.{int_lt, int_le, if◌then◌else◌}
use Rattle.std.specs.declared.option.Option.{Option}
use Rattle.std.specs.declared.option.Option.TheVariants.{None, Some}
use Rattle.std.proofs.lemmas.Int.{ints}
use Rattle.dy_term.specs.declared.term.Limit.{Limit}
use Rattle.dy_term.specs.declared.term.Limit.TheVariants.{To, Above, Below}
use Rattle.dy_term.specs.declared.rows.Program.{Program}
use Rattle.dy_values.specs.declared.value.Variant.{Variant}
use Rattle.dy_values.specs.Identity.{is_same_number}
use Rattle.dy_values.specs.declared.value.Variant.TheVariants.{Int, Bool as Truth}
use Rattle.dy_outcome.specs.declared.state.State.{State}
use Rattle.dy_outcome.specs.declared.place.Place.{Place}
use Rattle.dy_outcome.specs.Places.{read}
use Rattle.dy_outcome.specs.Turns.{is_past, is_over, is_end, fits}
use Rattle.dy_meaning.specs.Meaning.{identity}
use Rattle.dy_code.specs.Fetching as instr
use Rattle.dy_steps.specs.Configurations.{Config, Goes}
use Rattle.dy_steps.specs.Effects.{gives}
use Rattle.dy_lowered.specs.Flat.{Plain, Code, one, past, past_if_false}
use Rattle.dy_lowered.specs.Parts as parts
use Rattle.dy_lowering_law.specs.Force.{RowsFit}
use Rattle.dy_lowering_law.specs.Following.{Spot, standing, Comes, Holds, IsRight}
use Rattle.dy_lowering_law.specs.Machines.{linked_program, machine_of}
use Rattle.dy_lowering_law.specs.Renumbering.{body_of}
use Rattle.dy_lowering_law.proofs.Leading.{comes_on, comes_at, comes_by, comes_behind, stepped, holds_front, holds_back}
use Rattle.dy_lowering_law.proofs.Cases.{read_follows}
use Rattle.dy_lowering_law.proofs.Arguments.{taken_all}
use Rattle.dy_lowering_law.proofs.Exiting.{pushed}
use Rattle.dy_lowering_law.proofs.parts.Reaching.{reach_on}
use Rattle.dy_lowering_law.proofs.parts.Saved.{laid_aside, fits_aside}
use Rattle.dy_lowering_law.proofs.parts.Selecting.{under}
use Rattle.dy_lowered.specs.Turns.{Amount, Known, Given, meeting, raised, leaves_if, limit_test, bound_above, number, addition, comparison, with_number, top_less, room_for, up_to, stepping, bound_below, least_number, greatest_number}
use Rattle.dy_lowering_law.proofs.fors.Doing.{number_comes, less_goes, same_goes, add_goes, top_goes, numbered_comes, top_less_comes}
use Rattle.dy_lowering_law.proofs.fors.Leaving.{under_fits, leap, Lands, place_to, leads}
use Rattle.dy_lowering_law.proofs.fors.Turning.{Advances, Counts}
use Rattle.dy_lowering_law.proofs.fors.Words.{le_not, room_up, room_down, room_below, met, next_not_over}

same_after : (z : ℤ) → z +ℤ pos 0 ≡ z
same_after z = omega (arith, ints)

module _ (program : Program) (n before locals : ℕ) where
  -- a test of a truth, at whose end the machine lands
  truth_lands : (b c ends : Bool) → is_end b (Truth c) ≡ ends → (x : Spot) (p d : ℕ) (s : State) (k : ℕ) → Holds (linked_program program) before x.running.body p (leaves_if b d)
      → Lands program (standing (body_of program) x p (Truth c ∷ []) s k) x (p + length (leaves_if b d) + leap ends d) s
  truth_lands b c ends e x p d s k holds = record {
    register = Truth c ∷ [];
    comes = subst (λ (v : Bool). Comes (machine_of program) (standing (body_of program) x p (Truth c ∷ []) s k) (λ j. Goes (standing (body_of program) x (p + length (leaves_if b d) + leap v d) (Truth c ∷ []) s j))) e
        (leads program before x p d (Truth c ∷ []) s k b holds);
  }

  lands_at : (c : Config) (x : Spot) (p q : ℕ) (s : State) → p ≡ q → Lands program c x p s → Lands program c x q s
  lands_at c x p q s e lands = subst (λ (r : ℕ). Lands program c x r s) e lands

  lands_on : (c d : Config) (through : ℕ → Config) (x : Spot) (p : ℕ) (s : State) → Comes (machine_of program) c (λ k. Goes (through k)) → ((k : ℕ) → Lands program (through k) x p s) → Lands program c x p s
  lands_on c d through x p s comes next = reach_on program c through (λ register k. Goes (standing (body_of program) x p register s k)) comes next

  -- by one up to below a known bound
  pub up_to_counts : (place : Place) (start : Code) (bound : ℤ) → fits bound ≡ true → (limit : Option (Limit × ℤ)) → ((z : ℤ) → is_over z limit (pos 1) ≡ int_le bound z)
      → Counts program n before locals place (up_to start bound) [] limit (pos 1) (λ z. fits z ≡ true)
  up_to_counts place start bound word limit same = record {
    tests = λ number good x p d s k fit right few is holds.
        let m = machine_of program in
        let num = body_of program in
        let y = under (Int number ∷ []) x in
        let c0 = standing num x p (Int number ∷ []) s k in
        let h1 = holds_front (linked_program program) before x.running.body (p + 1) (with_number comparison bound) (leaves_if false d) holds.1 in
        let h2 = holds_back (linked_program program) before x.running.body (p + 1) (with_number comparison bound) (leaves_if false d) holds.1 in
        let end : p + 1 + 3 + 1 + leap (is_over number limit (pos 1)) d ≡ p + 5 + leap (is_over number limit (pos 1)) d = omega arith in
        let over : is_end false (Truth (int_lt number bound)) ≡ is_over number limit (pos 1) = sym (le_not bound number) ∙ sym (same number) in
        lands_at c0 x (p + 1 + 3 + 1 + leap (is_over number limit (pos 1)) d) (p + 5 + leap (is_over number limit (pos 1)) d) s end
        (lands_on c0 c0 (λ j. standing num x (p + 1 + 3) (Truth (int_lt number bound) ∷ []) s j) x (p + 1 + 3 + 1 + leap (is_over number limit (pos 1)) d) s
        (comes_behind m c0 (standing num y (p + 1) (Int number ∷ []) s k) _
        (stepped m num x p before (Int number ∷ []) s k (Plain instr.Push) (with_number comparison bound ++ leaves_if false d) holds)
        (numbered_comes program n before locals x fit s right few comparison number bound (Truth (int_lt number bound)) (p + 1) (Int number ∷ []) k (under_fits (Int number ∷ []) x fit)
        (λ r values j. less_goes program n before locals number bound x r values s j) h1))
        (λ j. truth_lands false (int_lt number bound) (is_over number limit (pos 1)) over x (p + 1 + 3) d s j h2));
    advances = λ number good over x p d register s k fit right few holds.
        let e = room_below number bound good word (sym (same number) ∙ over) in
        subst (λ (b : Bool). Advances program n before locals b (up_to start bound) [] (λ z. fits z ≡ true) number (number +ℤ pos 1) (standing (body_of program) (under (Int number ∷ []) x) p register s k) x p d s) (sym e) (
          e,
          numbered_comes program n before locals x fit s right few addition number (pos 1) (Int (number +ℤ pos 1)) p register k (under_fits (Int number ∷ []) x fit)
              (λ r values j. add_goes program n before locals number (pos 1) x r values s j e) holds,
        );
    words = λ number good. good;
    left = λ value. value ∷ [];
    away = λ value x p register s k. top_goes program n before locals value x p register s k;
  }

  -- the test whether a number may advance
  room_lands : (step number : ℤ) → fits number ≡ true → (x : Spot) (p d : ℕ) (register : List Variant) (s : State) (k : ℕ) → RowsFit x.running → IsRight program locals s → s.fuel.left ≤ n
      → Holds (linked_program program) before x.running.body p (room_for step d)
      → Lands program (standing (body_of program) (under (Int number ∷ []) x) p register s k) (under (Int number ∷ []) x) (p + length (room_for step d) + leap (not (fits (number +ℤ step))) d) s
  room_lands (pos zero) number word x p d register s k fit right few holds =
      let e : fits (number +ℤ pos 0) ≡ true = ap fits (same_after number) ∙ word in
      let end : p ≡ p + 0 + 0 = omega arith in
      record {
        register = register;
        comes = subst (λ (b : Bool). Comes (machine_of program) (standing (body_of program) (under (Int number ∷ []) x) p register s k) (λ j. Goes (standing (body_of program) (under (Int number ∷ []) x) (p + 0 + leap (not b) d) register s j))) (sym e)
            (place_to program _ (under (Int number ∷ []) x) p (p + 0 + 0) register s end (comes_at (machine_of program) _ _ k refl));
      }
  room_lands (pos (suc more)) number word x p d register s k fit right few holds =
      let num = body_of program in
      let y = under (Int number ∷ []) x in
      let bound = greatest_number -ℤ pos more in
      let ends = not (fits (number +ℤ pos (suc more))) in
      let c0 = standing num y p register s k in
      let h1 = holds_front (linked_program program) before x.running.body p (top_less bound) (leaves_if false d) holds in
      let h2 = holds_back (linked_program program) before x.running.body p (top_less bound) (leaves_if false d) holds in
      let end : p + 6 + 1 + leap ends d ≡ p + 7 + leap ends d = omega arith in
      lands_at c0 y (p + 6 + 1 + leap ends d) (p + 7 + leap ends d) s end
      (lands_on c0 c0 (λ j. standing num y (p + 6) (Truth (int_lt number bound) ∷ []) s j) y (p + 6 + 1 + leap ends d) s
      (top_less_comes program n before locals x fit s right few number bound p register k (under_fits (Int number ∷ []) x fit) (under_fits (Int number ∷ Int number ∷ []) x fit) h1)
      (λ j. truth_lands false (int_lt number bound) ends (ap not (room_up number more word)) y (p + 6) d s j h2))
  room_lands (negsuc less) number word x p d register s k fit right few holds =
      let num = body_of program in
      let y = under (Int number ∷ []) x in
      let bound = least_number +ℤ pos (suc less) in
      let ends = not (fits (number +ℤ negsuc less)) in
      let c0 = standing num y p register s k in
      let h1 = holds_front (linked_program program) before x.running.body p (top_less bound) (leaves_if true d) holds in
      let h2 = holds_back (linked_program program) before x.running.body p (top_less bound) (leaves_if true d) holds in
      let end : p + 6 + 2 + leap ends d ≡ p + 8 + leap ends d = omega arith in
      lands_at c0 y (p + 6 + 2 + leap ends d) (p + 8 + leap ends d) s end
      (lands_on c0 c0 (λ j. standing num y (p + 6) (Truth (int_lt number bound) ∷ []) s j) y (p + 6 + 2 + leap ends d) s
      (top_less_comes program n before locals x fit s right few number bound p register k (under_fits (Int number ∷ []) x fit) (under_fits (Int number ∷ Int number ∷ []) x fit) h1)
      (λ j. truth_lands true (int_lt number bound) ends (is_end_true (int_lt number bound) ∙ room_down number less word) y (p + 6) d s j h2))
    where
      is_end_true : (c : Bool) → is_end true (Truth c) ≡ c
      is_end_true true = refl
      is_end_true false = refl

  -- an advance by a known step
  step_advances : (place : Place) (start : Code) (limit : Option (Limit × Amount)) (step number : ℤ) (lying : List Variant) → fits number ≡ true → (x : Spot) (p d : ℕ) (register : List Variant) (s : State) (k : ℕ) → RowsFit x.running → IsRight program locals s → s.fuel.left ≤ n
      → Holds (linked_program program) before x.running.body p (room_for step (3 + d) ++ with_number addition step)
      → Advances program n before locals (fits (number +ℤ step)) (stepping start limit step) lying (λ z. fits z ≡ true) number (number +ℤ step) (standing (body_of program) (under (Int number ∷ lying) x) p register s k) x p d s
  step_advances place start limit step number lying word x p d register s k fit right few holds =
      let z = under lying x in
      let fit_z = under_fits lying x fit in
      by (fits (number +ℤ step)) refl
      (room_lands step number word z p (3 + d) register s k fit_z right few (holds_front (linked_program program) before x.running.body p (room_for step (3 + d)) (with_number addition step) holds))
    where
      by : (c : Bool) → fits (number +ℤ step) ≡ c
          → Lands program (standing (body_of program) (under (Int number ∷ lying) x) p register s k) (under (Int number ∷ lying) x) (p + length (room_for step (3 + d)) + leap (not c) (3 + d)) s
          → Advances program n before locals c (stepping start limit step) lying (λ z. fits z ≡ true) number (number +ℤ step) (standing (body_of program) (under (Int number ∷ lying) x) p register s k) x p d s
      by true e lands =
          let z = under lying x in
          let y = under (Int number ∷ lying) x in
          let r = p + length (room_for step (3 + d)) in
          let there : r + 0 ≡ r = omega arith in
          let end : r + 3 ≡ p + length (room_for step (3 + d) ++ with_number addition step) = omega (arith, length-append (room_for step (3 + d)) (with_number addition step)) in (
            e,
            place_to program (standing (body_of program) y p register s k) z (r + 3) (p + length (room_for step (3 + d) ++ with_number addition step)) (Int (number +ℤ step) ∷ []) s end
                (comes_on (machine_of program) (standing (body_of program) y p register s k) (λ j. standing (body_of program) y r lands.register s j) _
                (place_to program (standing (body_of program) y p register s k) y (r + 0) r lands.register s there lands.comes)
                (λ j. numbered_comes program n before locals z (under_fits lying x fit) s right few addition number step (Int (number +ℤ step)) r lands.register j (under_fits (Int number ∷ lying) x fit)
                (λ v values i. add_goes program n before locals number step z v values s i e) (holds_back (linked_program program) before x.running.body p (room_for step (3 + d)) (with_number addition step) holds))),
          )
      by false e lands =
          let y = under (Int number ∷ lying) x in
          let r = p + length (room_for step (3 + d)) in
          let end : r + (3 + d) ≡ p + length (room_for step (3 + d) ++ with_number addition step) + d = omega (arith, length-append (room_for step (3 + d)) (with_number addition step)) in
          lands_at (standing (body_of program) y p register s k) y (r + (3 + d)) (p + length (room_for step (3 + d) ++ with_number addition step) + d) s end lands

  -- without a bound
  pub endless_counts : (place : Place) (start : Code) (step : ℤ) → Counts program n before locals place (stepping start None step) [] None step (λ z. fits z ≡ true)
  endless_counts place start step = record {
    tests = λ number good x p d s k fit right few is holds.
        let end : p ≡ p + 0 + 0 = omega arith in
        record { register = Int number ∷ []; comes = place_to program _ x p (p + 0 + 0) (Int number ∷ []) s end (comes_at (machine_of program) _ _ k refl) };
    advances = λ number good over x p d register s k fit right few holds. step_advances place start None step number [] good x p d register s k fit right few holds;
    words = λ number good. good;
    left = λ value. value ∷ [];
    away = λ value x p register s k. top_goes program n before locals value x p register s k;
  }

  -- Whether a bound is less than the number, and whether it is greater, where these lie among the operands.
  pub record Asks (place : Place) (bound : Amount) (value : ℤ) (lying : List Variant) : Type 0 where
    pub below : (number : ℤ) (x : Spot) (p : ℕ) (s : State) (k : ℕ) → RowsFit x.running → IsRight program locals s → s.fuel.left ≤ n → read place s ≡ Int number
        → Holds (linked_program program) before x.running.body p (bound_below bound place)
        → Comes (machine_of program) (standing (body_of program) (under lying x) p (Int number ∷ []) s k) (λ j. Goes (standing (body_of program) (under lying x) (p + length (bound_below bound place)) (Truth (int_lt value number) ∷ []) s j))
    pub above : (number : ℤ) (x : Spot) (p : ℕ) (s : State) (k : ℕ) → RowsFit x.running → IsRight program locals s → s.fuel.left ≤ n → read place s ≡ Int number
        → Holds (linked_program program) before x.running.body p (bound_above bound place)
        → Comes (machine_of program) (standing (body_of program) (under lying x) p (Int number ∷ []) s k) (λ j. Goes (standing (body_of program) (under lying x) (p + length (bound_above bound place)) (Truth (int_lt number value) ∷ []) s j))

  -- the variable is laid on an operand, and these are compared
  variable_less : (place : Place) (value number : ℤ) (x : Spot) (p : ℕ) (register : List Variant) (s : State) (k : ℕ) → RowsFit (under (Int value ∷ []) x).running → IsRight program locals s → s.fuel.left ≤ n → read place s ≡ Int number
      → Holds (linked_program program) before x.running.body p (parts.read place ++ (Plain instr.Push ∷ one (instr.Op comparison 2)))
      → Comes (machine_of program) (standing (body_of program) (under (Int value ∷ []) x) p register s k) (λ j. Goes (standing (body_of program) x (p + length (parts.read place) + 1 + 1) (Truth (int_lt value number) ∷ []) s j))
  variable_less place value number x p register s k fit right few is holds =
      let m = machine_of program in
      let num = body_of program in
      let y = under (Int value ∷ []) x in
      let rest : Code = Plain instr.Push ∷ one (instr.Op comparison 2) in
      let r = p + length (parts.read place) in
      let h = holds_back (linked_program program) before x.running.body p (parts.read place) rest holds in
      comes_on m (standing num y p register s k) (λ j. standing num y r (read place s ∷ []) s j) _
      ((read_follows program n before locals place).runs y p register s k (holds_front (linked_program program) before x.running.body p (parts.read place) rest holds) fit right few)
      (λ j. comes_behind m (standing num y r (read place s ∷ []) s j) (standing num (under (read place s ∷ Int value ∷ []) x) (r + 1) (read place s ∷ []) s j) _
      (stepped m num y r before (read place s ∷ []) s j (Plain instr.Push) (one (instr.Op comparison 2)) h)
      (subst (λ (v : Variant). Comes m (standing num (under (v ∷ Int value ∷ []) x) (r + 1) (v ∷ []) s j) (λ i. Goes (standing num x (r + 1 + 1) (Truth (int_lt value number) ∷ []) s i))) (sym is)
      (comes_by m _ _ j (stepped m num (under (Int number ∷ Int value ∷ []) x) (r + 1) before (Int number ∷ []) s j (Plain (instr.Op comparison 2)) [] h.1 ∙ less_goes program n before locals value number x (r + 1 + 1) (Int number ∷ []) s j))))

  known_asks : (place : Place) (value : ℤ) → Asks place (Known value) value []
  known_asks place value = record {
    below = λ number x p s k fit right few is holds.
        let m = machine_of program in
        let num = body_of program in
        let rest : Code = parts.read place ++ (Plain instr.Push ∷ one (instr.Op comparison 2)) in
        let end : p + 1 + 1 + length (parts.read place) + 1 + 1 ≡ p + length (bound_below (Known value) place) = omega (arith, length-append (parts.read place) (Plain instr.Push ∷ one (instr.Op comparison 2))) in
        let c0 = standing num x p (Int number ∷ []) s k in
        place_to program c0 x (p + 1 + 1 + length (parts.read place) + 1 + 1) (p + length (bound_below (Known value) place)) (Truth (int_lt value number) ∷ []) s end
        (comes_on m c0 (λ j. standing num x (p + 1) (Int value ∷ []) s j) _
        (number_comes program n before locals value x p (Int number ∷ []) s k (holds.0, tt))
        (λ j. comes_behind m (standing num x (p + 1) (Int value ∷ []) s j) (standing num (under (Int value ∷ []) x) (p + 1 + 1) (Int value ∷ []) s j) _
        (stepped m num x (p + 1) before (Int value ∷ []) s j (Plain instr.Push) rest holds.1)
        (variable_less place value number x (p + 1 + 1) (Int value ∷ []) s j (under_fits (Int value ∷ []) x fit) right few is holds.1.1)));
    above = λ number x p s k fit right few is holds.
        let m = machine_of program in
        let num = body_of program in
        let end : p + 1 + 3 ≡ p + 4 = omega arith in
        let c0 = standing num x p (Int number ∷ []) s k in
        place_to program c0 x (p + 1 + 3) (p + 4) (Truth (int_lt number value) ∷ []) s end
        (comes_behind m c0 (standing num (under (Int number ∷ []) x) (p + 1) (Int number ∷ []) s k) _
        (stepped m num x p before (Int number ∷ []) s k (Plain instr.Push) (with_number comparison value) holds)
        (numbered_comes program n before locals x fit s right few comparison number value (Truth (int_lt number value)) (p + 1) (Int number ∷ []) k (under_fits (Int number ∷ []) x fit)
        (λ r values j. less_goes program n before locals number value x r values s j) holds.1));
  }

  -- the end of a clause, by its bound
  abbrev Tests : Place → Code → ℕ → List Variant → Bool → Type 0
  Tests place code d lying over = (number : ℤ) (x : Spot) (p : ℕ) (s : State) (k : ℕ) → RowsFit x.running → IsRight program locals s → s.fuel.left ≤ n → read place s ≡ Int number
      → Holds (linked_program program) before x.running.body p code → Lands program (standing (body_of program) (under lying x) p (Int number ∷ []) s k) (under lying x) (p + length code + leap over d) s

  ask_lands : (code : Code) (b c ends : Bool) → is_end b (Truth c) ≡ ends → (from : Config) (x : Spot) (p d : ℕ) (s : State) → Holds (linked_program program) before x.running.body p (code ++ leaves_if b d)
      → Comes (machine_of program) from (λ j. Goes (standing (body_of program) x (p + length code) (Truth c ∷ []) s j)) → Lands program from x (p + length (code ++ leaves_if b d) + leap ends d) s
  ask_lands code b c ends e from x p d s holds comes =
      let end : p + length code + length (leaves_if b d) + leap ends d ≡ p + length (code ++ leaves_if b d) + leap ends d = omega (arith, length-append code (leaves_if b d)) in
      lands_at from x (p + length code + length (leaves_if b d) + leap ends d) (p + length (code ++ leaves_if b d) + leap ends d) s end
      (lands_on from from (λ j. standing (body_of program) x (p + length code) (Truth c ∷ []) s j) x (p + length code + length (leaves_if b d) + leap ends d) s comes
      (λ j. truth_lands b c ends e x (p + length code) d s j (holds_back (linked_program program) before x.running.body p code (leaves_if b d) holds)))

  is_end_true : (c : Bool) → is_end true (Truth c) ≡ c
  is_end_true true = refl
  is_end_true false = refl

  module _ (place : Place) (bound : Amount) (value : ℤ) (lying : List Variant) (asks : Asks place bound value lying) where
    to_lands : (down : Bool) (number : ℤ) (x : Spot) (p d : ℕ) (s : State) (k : ℕ) → RowsFit x.running → IsRight program locals s → s.fuel.left ≤ n → read place s ≡ Int number
        → Holds (linked_program program) before x.running.body p ((if down then bound_above bound place else bound_below bound place) ++ leaves_if true d)
        → Lands program (standing (body_of program) (under lying x) p (Int number ∷ []) s k) (under lying x)
        (p + length ((if down then bound_above bound place else bound_below bound place) ++ leaves_if true d) + leap (if down then int_lt number value else int_lt value number) d) s
    to_lands true number x p d s k fit right few is holds =
        ask_lands (bound_above bound place) true (int_lt number value) (int_lt number value) (is_end_true (int_lt number value)) _ (under lying x) p d s holds
        (asks.above number x p s k fit right few is (holds_front (linked_program program) before x.running.body p (bound_above bound place) (leaves_if true d) holds))
    to_lands false number x p d s k fit right few is holds =
        ask_lands (bound_below bound place) true (int_lt value number) (int_lt value number) (is_end_true (int_lt value number)) _ (under lying x) p d s holds
        (asks.below number x p s k fit right few is (holds_front (linked_program program) before x.running.body p (bound_below bound place) (leaves_if true d) holds))

    pub limit_lands : (kind : Limit) (step number : ℤ) (x : Spot) (p d : ℕ) (s : State) (k : ℕ) → RowsFit x.running → IsRight program locals s → s.fuel.left ≤ n → read place s ≡ Int number
        → Holds (linked_program program) before x.running.body p (limit_test step kind bound place d)
        → Lands program (standing (body_of program) (under lying x) p (Int number ∷ []) s k) (under lying x) (p + length (limit_test step kind bound place d) + leap (is_past kind number value step) d) s
    limit_lands To step number x p d s k fit right few is holds = to_lands (int_lt step (pos 0)) number x p d s k fit right few is holds
    limit_lands Above step number x p d s k fit right few is holds =
        ask_lands (bound_below bound place) false (int_lt value number) (is_past Above number value step) (sym (le_not number value)) _ (under lying x) p d s holds
        (asks.below number x p s k fit right few is (holds_front (linked_program program) before x.running.body p (bound_below bound place) (leaves_if false d) holds))
    limit_lands Below step number x p d s k fit right few is holds =
        ask_lands (bound_above bound place) false (int_lt number value) (is_past Below number value step) (sym (le_not value number)) _ (under lying x) p d s holds
        (asks.above number x p s k fit right few is (holds_front (linked_program program) before x.running.body p (bound_above bound place) (leaves_if false d) holds))

  -- by a known bound
  pub known_counts : (place : Place) (start : Code) (kind : Limit) (value step : ℤ) → Counts program n before locals place (stepping start (Some (kind, Known value)) step) [] (Some (kind, value)) step (λ z. fits z ≡ true)
  known_counts place start kind value step = record {
    tests = λ number good x p d s k fit right few is holds. limit_lands place (Known value) value [] (known_asks place value) kind step number x p d s k fit right few is holds;
    advances = λ number good over x p d register s k fit right few holds. step_advances place start (Some (kind, Known value)) step number [] good x p d register s k fit right few holds;
    words = λ number good. good;
    left = λ v. v ∷ [];
    away = λ v x p register s k. top_goes program n before locals v x p register s k;
  }

  given_asks : (place : Place) (code : Code) (value : ℤ) → Asks place (Given code) value (Int value ∷ [])
  given_asks place code value = record {
    below = λ number x p s k fit right few is holds.
        let m = machine_of program in
        let num = body_of program in
        let y = under (Int value ∷ []) x in
        let rest : Code = parts.read place ++ (Plain instr.Push ∷ one (instr.Op comparison 2)) in
        let end : p + 1 + 1 + 1 + length (parts.read place) + 1 + 1 ≡ p + length (bound_below (Given code) place) = omega (arith, length-append (parts.read place) (Plain instr.Push ∷ one (instr.Op comparison 2))) in
        let c0 = standing num y p (Int number ∷ []) s k in
        place_to program c0 y (p + 1 + 1 + 1 + length (parts.read place) + 1 + 1) (p + length (bound_below (Given code) place)) (Truth (int_lt value number) ∷ []) s end
        (comes_behind m c0 (standing num x (p + 1) (Int value ∷ []) s k) _
        (stepped m num y p before (Int number ∷ []) s k (Plain (instr.Values 1)) (Plain instr.Push ∷ Plain instr.Push ∷ rest) holds ∙ top_goes program n before locals (Int value) x (p + 1) (Int number ∷ []) s k)
        (comes_behind m (standing num x (p + 1) (Int value ∷ []) s k) (standing num y (p + 1 + 1) (Int value ∷ []) s k) _
        (stepped m num x (p + 1) before (Int value ∷ []) s k (Plain instr.Push) (Plain instr.Push ∷ rest) holds.1)
        (comes_behind m (standing num y (p + 1 + 1) (Int value ∷ []) s k) (standing num (under (Int value ∷ Int value ∷ []) x) (p + 1 + 1 + 1) (Int value ∷ []) s k) _
        (stepped m num y (p + 1 + 1) before (Int value ∷ []) s k (Plain instr.Push) rest holds.1.1)
        (variable_less place value number y (p + 1 + 1 + 1) (Int value ∷ []) s k (under_fits (Int value ∷ Int value ∷ []) x fit) right few is holds.1.1.1))));
    above = λ number x p s k fit right few is holds.
        let m = machine_of program in
        let num = body_of program in
        let y = under (Int value ∷ []) x in
        let z = laid_aside (Int value ∷ []) y in
        let last : Code = Plain instr.Push ∷ Plain instr.Restore ∷ Plain instr.Push ∷ one (instr.Op comparison 2) in
        let rest : Code = parts.read place ++ last in
        let r = p + 1 + 1 + 1 + length (parts.read place) in
        let end : r + 1 + 1 + 1 + 1 ≡ p + length (bound_above (Given code) place) = omega (arith, length-append (parts.read place) last) in
        let c0 = standing num y p (Int number ∷ []) s k in
        let h = holds_back (linked_program program) before x.running.body (p + 1 + 1 + 1) (parts.read place) last holds.1.1.1 in
        let v = read place s in
        place_to program c0 y (r + 1 + 1 + 1 + 1) (p + length (bound_above (Given code) place)) (Truth (int_lt number value) ∷ []) s end
        (comes_behind m c0 (standing num x (p + 1) (Int value ∷ []) s k) _
        (stepped m num y p before (Int number ∷ []) s k (Plain (instr.Values 1)) (Plain instr.Push ∷ Plain instr.Save ∷ rest) holds ∙ top_goes program n before locals (Int value) x (p + 1) (Int number ∷ []) s k)
        (comes_behind m (standing num x (p + 1) (Int value ∷ []) s k) (standing num y (p + 1 + 1) (Int value ∷ []) s k) _
        (stepped m num x (p + 1) before (Int value ∷ []) s k (Plain instr.Push) (Plain instr.Save ∷ rest) holds.1)
        (comes_behind m (standing num y (p + 1 + 1) (Int value ∷ []) s k) (standing num z (p + 1 + 1 + 1) (Int value ∷ []) s k) _
        (stepped m num y (p + 1 + 1) before (Int value ∷ []) s k (Plain instr.Save) rest holds.1.1)
        (comes_on m (standing num z (p + 1 + 1 + 1) (Int value ∷ []) s k) (λ j. standing num z r (v ∷ []) s j) _
        ((read_follows program n before locals place).runs z (p + 1 + 1 + 1) (Int value ∷ []) s k (holds_front (linked_program program) before x.running.body (p + 1 + 1 + 1) (parts.read place) last holds.1.1.1)
        (fits_aside (Int value ∷ []) y.running y.running.rows (under_fits (Int value ∷ []) x fit)) right few)
        (λ j. comes_behind m (standing num z r (v ∷ []) s j) (standing num (pushed v z) (r + 1) (v ∷ []) s j) _
        (stepped m num z r before (v ∷ []) s j (Plain instr.Push) (Plain instr.Restore ∷ Plain instr.Push ∷ one (instr.Op comparison 2)) h)
        (comes_behind m (standing num (pushed v z) (r + 1) (v ∷ []) s j) (standing num (under (v ∷ []) y) (r + 1 + 1) (Int value ∷ []) s j) _
        (stepped m num (pushed v z) (r + 1) before (v ∷ []) s j (Plain instr.Restore) (Plain instr.Push ∷ one (instr.Op comparison 2)) h.1)
        (comes_behind m (standing num (under (v ∷ []) y) (r + 1 + 1) (Int value ∷ []) s j) (standing num (under (Int value ∷ v ∷ []) y) (r + 1 + 1 + 1) (Int value ∷ []) s j) _
        (stepped m num (under (v ∷ []) y) (r + 1 + 1) before (Int value ∷ []) s j (Plain instr.Push) (one (instr.Op comparison 2)) h.1.1)
        (subst (λ (w : Variant). Comes m (standing num (under (Int value ∷ w ∷ []) y) (r + 1 + 1 + 1) (Int value ∷ []) s j) (λ i. Goes (standing num y (r + 1 + 1 + 1 + 1) (Truth (int_lt number value) ∷ []) s i))) (sym is)
        (comes_by m _ _ j (stepped m num (under (Int value ∷ Int number ∷ []) y) (r + 1 + 1 + 1) before (Int value ∷ []) s j (Plain (instr.Op comparison 2)) [] h.1.1.1 ∙ less_goes program n before locals number value y (r + 1 + 1 + 1 + 1) (Int value ∷ []) s j))))))))));
  }

  -- by a bound that is evaluated
  pub given_counts : (place : Place) (start code : Code) (kind : Limit) (value step : ℤ) → Counts program n before locals place (stepping start (Some (kind, Given code)) step) (Int value ∷ []) (Some (kind, value)) step (λ z. fits z ≡ true)
  given_counts place start code kind value step = record {
    tests = λ number good x p d s k fit right few is holds. limit_lands place (Given code) value (Int value ∷ []) (given_asks place code value) kind step number x p d s k fit right few is holds;
    advances = λ number good over x p d register s k fit right few holds. step_advances place start (Some (kind, Given code)) step number (Int value ∷ []) good x p d register s k fit right few holds;
    words = λ number good. good;
    left = λ v. Int value ∷ v ∷ [];
    away = λ v x p register s k. taken_all (body_of program) (Int value ∷ v ∷ []) 2 x p register s k gives refl;
  }

  -- What holds of the numbers below a bound, of which the operand is the bound or the first number where that is over it.
  abbrev pub Meets : (operand bound number : ℤ) → Type 0
  Meets operand bound number = (fits number ≡ true) × (is_same_number operand number ≡ int_le bound number) × (int_le bound number ≡ false → operand ≡ bound)

  meets_next : (operand bound number : ℤ) → Meets operand bound number → fits bound ≡ true → int_le bound number ≡ false → Meets operand bound (number +ℤ pos 1)
  meets_next operand bound number meets word over = (
    room_below number bound meets.0 word over,
    subst (λ (b : ℤ). is_same_number b (number +ℤ pos 1) ≡ int_le bound (number +ℤ pos 1)) (sym (meets.2 over)) (met bound (number +ℤ pos 1) (next_not_over bound number over)),
    λ h. meets.2 over,
  )

  pub meeting_counts : (place : Place) (start code : Code) (operand bound : ℤ) → fits bound ≡ true → Counts program n before locals place (meeting start code) (Int operand ∷ []) (Some (Below, bound)) (pos 1) (Meets operand bound)
  meeting_counts place start code operand bound word = record {
    tests = λ number good x p d s k fit right few is holds.
        let m = machine_of program in
        let num = body_of program in
        let y = under (Int operand ∷ []) x in
        let w = under (Int operand ∷ Int operand ∷ []) x in
        let o = Int operand ∷ [] in
        let over = int_le bound number in
        let exits = leaves_if true d in
        let last : Code = Plain instr.Push ∷ Plain (instr.Op identity 2) ∷ exits in
        let rest : Code = parts.read place ++ last in
        let r = p + 1 + 1 + 1 + length (parts.read place) in
        let c0 = standing num y p (Int number ∷ []) s k in
        let h = holds_back (linked_program program) before x.running.body (p + 1 + 1 + 1) (parts.read place) last holds.1.1.1 in
        let end : r + 1 + 1 + length exits + leap over d ≡ p + length ((meeting start code).testing place d) + leap over d = omega (arith, length-append (parts.read place) last) in
        lands_at c0 y (r + 1 + 1 + length exits + leap over d) (p + length ((meeting start code).testing place d) + leap over d) s end
        (lands_on c0 c0 (λ j. standing num y (r + 1 + 1) (Truth (is_same_number operand number) ∷ []) s j) y (r + 1 + 1 + length exits + leap over d) s
        (comes_behind m c0 (standing num x (p + 1) o s k) _
        (stepped m num y p before (Int number ∷ []) s k (Plain (instr.Values 1)) (Plain instr.Push ∷ Plain instr.Push ∷ rest) holds ∙ top_goes program n before locals (Int operand) x (p + 1) (Int number ∷ []) s k)
        (comes_behind m (standing num x (p + 1) o s k) (standing num y (p + 1 + 1) o s k) _
        (stepped m num x (p + 1) before o s k (Plain instr.Push) (Plain instr.Push ∷ rest) holds.1)
        (comes_behind m (standing num y (p + 1 + 1) o s k) (standing num w (p + 1 + 1 + 1) o s k) _
        (stepped m num y (p + 1 + 1) before o s k (Plain instr.Push) rest holds.1.1)
        (comes_on m (standing num w (p + 1 + 1 + 1) o s k) (λ j. standing num w r (read place s ∷ []) s j) _
        ((read_follows program n before locals place).runs w (p + 1 + 1 + 1) o s k (holds_front (linked_program program) before x.running.body (p + 1 + 1 + 1) (parts.read place) last holds.1.1.1) (under_fits (Int operand ∷ Int operand ∷ []) x fit) right few)
        (λ j. comes_behind m (standing num w r (read place s ∷ []) s j) (standing num (under (read place s ∷ Int operand ∷ []) y) (r + 1) (read place s ∷ []) s j) _
        (stepped m num w r before (read place s ∷ []) s j (Plain instr.Push) (Plain (instr.Op identity 2) ∷ exits) h)
        (subst (λ (v : Variant). Comes m (standing num (under (v ∷ Int operand ∷ []) y) (r + 1) (v ∷ []) s j) (λ i. Goes (standing num y (r + 1 + 1) (Truth (is_same_number operand number) ∷ []) s i))) (sym is)
        (comes_by m _ _ j (stepped m num (under (Int number ∷ Int operand ∷ []) y) (r + 1) before (Int number ∷ []) s j (Plain (instr.Op identity 2)) exits h.1 ∙ same_goes program n before locals operand number y (r + 1 + 1) (Int number ∷ []) s j))))))))
        (λ j. truth_lands true (is_same_number operand number) over (is_end_true (is_same_number operand number) ∙ good.1) y (r + 1 + 1) d s j h.1.1));
    advances = λ number good over x p d register s k fit right few holds.
        let z = under (Int operand ∷ []) x in
        let next = meets_next operand bound number good word over in
        subst (λ (b : Bool). Advances program n before locals b (meeting start code) (Int operand ∷ []) (Meets operand bound) number (number +ℤ pos 1) (standing (body_of program) (under (Int number ∷ Int operand ∷ []) x) p register s k) x p d s) (sym next.0) (
          next,
          numbered_comes program n before locals z (under_fits (Int operand ∷ []) x fit) s right few addition number (pos 1) (Int (number +ℤ pos 1)) p register k (under_fits (Int number ∷ Int operand ∷ []) x fit)
              (λ r values j. add_goes program n before locals number (pos 1) z r values s j next.0) holds,
        );
    words = λ number good. good.0;
    left = λ v. Int operand ∷ v ∷ [];
    away = λ v x p register s k. taken_all (body_of program) (Int operand ∷ v ∷ []) 2 x p register s k gives refl;
  }

  -- the bound, or the number where that is over it
  module _ (bound number : ℤ) (x : Spot) (p : ℕ) (s : State) (k : ℕ) where
    abbrev waits : List Variant
    waits = Int number ∷ []

    abbrev both : List Variant
    both = Int bound ∷ Int number ∷ []

    abbrev aside_ : Spot
    aside_ = laid_aside waits x

    abbrev one_lies : Spot
    one_lies = under (Int bound ∷ []) aside_

    abbrev two_lie : Spot
    two_lie = under (Int number ∷ Int bound ∷ []) aside_

    abbrev code12 : Code
    code12 = one instr.Restore

    abbrev code11 : Code
    code11 = Plain (instr.Values 1) ∷ code12

    abbrev code10 : Code
    code10 = past 2 ∷ code11

    abbrev code9 : Code
    code9 = Plain instr.Push ∷ code10

    abbrev code8 : Code
    code8 = Plain instr.Restore ∷ code9

    abbrev code7 : Code
    code7 = Plain (instr.Values 2) ∷ code8

    abbrev code6 : Code
    code6 = past_if_false 4 ∷ code7

    abbrev code5 : Code
    code5 = Plain (instr.Op comparison 2) ∷ code6

    abbrev code4 : Code
    code4 = Plain (instr.Spread 2 false) ∷ code5

    abbrev code3 : Code
    code3 = Plain (instr.Spread 2 false) ∷ code4

    abbrev code2 : Code
    code2 = Plain (instr.Values 2) ∷ code3

    abbrev code1 : Code
    code1 = Plain instr.Push ∷ code2

    abbrev r6 : ℕ
    r6 = p + 1 + 1 + 1 + 1 + 1 + 1

    behind_test : (c : Bool) → Holds (linked_program program) before x.running.body r6 code6
        → Comes (machine_of program) (standing (body_of program) two_lie r6 (Truth c ∷ []) s k) (λ j. Goes (standing (body_of program) (under (Int (if c then number else bound) ∷ []) x) (p + 13) waits s j))
    behind_test true h =
        let m = machine_of program in
        let num = body_of program in
        let v = Truth true ∷ [] in
        let end : r6 + 1 + 1 + 1 + 1 + 1 + 2 ≡ p + 13 = omega arith in
        comes_behind m (standing num two_lie r6 v s k) (standing num two_lie (r6 + 1) v s k) _
        (stepped m num two_lie r6 before v s k (past_if_false 4) code7 h)
        (comes_behind m (standing num two_lie (r6 + 1) v s k) (standing num aside_ (r6 + 1 + 1) both s k) _
        (stepped m num two_lie (r6 + 1) before v s k (Plain (instr.Values 2)) code8 h.1 ∙ taken_all num both 2 aside_ (r6 + 1 + 1) v s k gives refl)
        (comes_behind m (standing num aside_ (r6 + 1 + 1) both s k) (standing num x (r6 + 1 + 1 + 1) waits s k) _
        (stepped m num aside_ (r6 + 1 + 1) before both s k (Plain instr.Restore) code9 h.1.1)
        (comes_behind m (standing num x (r6 + 1 + 1 + 1) waits s k) (standing num (under waits x) (r6 + 1 + 1 + 1 + 1) waits s k) _
        (stepped m num x (r6 + 1 + 1 + 1) before waits s k (Plain instr.Push) code10 h.1.1.1)
        (place_to program _ (under waits x) (r6 + 1 + 1 + 1 + 1 + 1 + 2) (p + 13) waits s end
        (comes_by m _ _ k (stepped m num (under waits x) (r6 + 1 + 1 + 1 + 1) before waits s k (past 2) code11 h.1.1.1.1))))))
    behind_test false h =
        let m = machine_of program in
        let num = body_of program in
        let v = Truth false ∷ [] in
        let r11 = r6 + 1 + 1 + 1 + 1 + 1 in
        let far : r11 ≡ r6 + 1 + 4 = omega arith in
        let end : r11 + 1 + 1 ≡ p + 13 = omega arith in
        comes_behind m (standing num two_lie r6 v s k) (standing num two_lie (r6 + 1 + 4) v s k) _
        (stepped m num two_lie r6 before v s k (past_if_false 4) code7 h)
        (subst (λ (r : ℕ). Comes m (standing num two_lie r v s k) (λ j. Goes (standing num (under (Int bound ∷ []) x) (p + 13) waits s j))) far
        (comes_behind m (standing num two_lie r11 v s k) (standing num one_lies (r11 + 1) waits s k) _
        (stepped m num two_lie r11 before v s k (Plain (instr.Values 1)) code12 h.1.1.1.1.1 ∙ top_goes program n before locals (Int number) one_lies (r11 + 1) v s k)
        (place_to program _ (under (Int bound ∷ []) x) (r11 + 1 + 1) (p + 13) waits s end
        (comes_by m _ _ k (stepped m num one_lies (r11 + 1) before waits s k (Plain instr.Restore) [] h.1.1.1.1.1.1)))))

    pub raised_comes : (c : Bool) → int_lt bound number ≡ c → Holds (linked_program program) before x.running.body p raised
        → Comes (machine_of program) (standing (body_of program) (under (Int bound ∷ []) x) p waits s k) (λ j. Goes (standing (body_of program) (under (Int (if c then number else bound) ∷ []) x) (p + 13) waits s j))
    raised_comes c is holds =
        let m = machine_of program in
        let num = body_of program in
        let y = under (Int bound ∷ []) x in
        let four = under (Int number ∷ Int bound ∷ []) two_lie in
        comes_behind m (standing num y p waits s k) (standing num one_lies (p + 1) waits s k) _
        (stepped m num y p before waits s k (Plain instr.Save) code1 holds)
        (comes_behind m (standing num one_lies (p + 1) waits s k) (standing num two_lie (p + 1 + 1) waits s k) _
        (stepped m num one_lies (p + 1) before waits s k (Plain instr.Push) code2 holds.1)
        (comes_behind m (standing num two_lie (p + 1 + 1) waits s k) (standing num aside_ (p + 1 + 1 + 1) both s k) _
        (stepped m num two_lie (p + 1 + 1) before waits s k (Plain (instr.Values 2)) code3 holds.1.1 ∙ taken_all num both 2 aside_ (p + 1 + 1 + 1) waits s k gives refl)
        (comes_behind m (standing num aside_ (p + 1 + 1 + 1) both s k) (standing num two_lie (p + 1 + 1 + 1 + 1) both s k) _
        (stepped m num aside_ (p + 1 + 1 + 1) before both s k (Plain (instr.Spread 2 false)) code4 holds.1.1.1)
        (comes_behind m (standing num two_lie (p + 1 + 1 + 1 + 1) both s k) (standing num four (p + 1 + 1 + 1 + 1 + 1) both s k) _
        (stepped m num two_lie (p + 1 + 1 + 1 + 1) before both s k (Plain (instr.Spread 2 false)) code5 holds.1.1.1.1)
        (comes_behind m (standing num four (p + 1 + 1 + 1 + 1 + 1) both s k) (standing num two_lie r6 (Truth c ∷ []) s k) _
        (stepped m num four (p + 1 + 1 + 1 + 1 + 1) before both s k (Plain (instr.Op comparison 2)) code6 holds.1.1.1.1.1 ∙ less_goes program n before locals bound number two_lie r6 both s k ∙ ap (λ (b : Bool). Goes (standing num two_lie r6 (Truth b ∷ []) s k)) is)
        (behind_test c holds.1.1.1.1.1.1))))))
