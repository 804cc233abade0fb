-- The clauses of a loop go on.
use Rattle.std.proofs.Common.{◌≡◌, ℕ, suc, ◌+◌, ◌≤◌, Bool, true, false, not, ℤ, ◌+ℤ◌, ◌-ℤ◌, ◌*ℤ◌, ◌≤ℤ◌, pos, negsuc, List, [], ◌∷◌, ◌++◌, reverse, append_assoc, length, refl, sym, ap, ◌∙◌, subst, arith, length-append}
use Rattle.std.specs.Prelude.{int_lt}
use Rattle.std.proofs.lemmas.Int.{ints}
use Rattle.std.specs.declared.option.Option.{Option}
use Rattle.dy_term.specs.declared.term.Limit.{Limit}
use Rattle.dy_term.specs.declared.rows.Program.{Program}
use Rattle.dy_values.specs.declared.value.Variant.{Variant}
use Rattle.dy_values.specs.declared.value.Variant.TheVariants.{Int, Bool as Truth}
use Rattle.dy_values.specs.Spending.{first, is_false}
use Rattle.dy_outcome.specs.declared.state.State.{State}
use Rattle.dy_outcome.specs.declared.place.Place.{Place}
use Rattle.dy_outcome.specs.States.{Outcome}
use Rattle.dy_outcome.specs.Choices.{chosen}
use Rattle.dy_outcome.specs.Turns.{Going, Taking, Counting, advanced, fits}
use Rattle.dy_code.specs.Fetching as instr
use Rattle.dy_steps.specs.Configurations.{Step}
use Rattle.dy_steps.specs.Effects.{gives}
use Rattle.dy_steps.specs.Steps.{step, jump_false}
use Rattle.dy_lowered.specs.Flat.{Plain, Code, one, past, past_if_false}
use Rattle.dy_lowered.specs.Turns.{Amount, Known, Given, Clause, Takes, Counts, addition, multiplication, number as number_code, on_both, less, negated, operands, all_operands, its_step, its_bound, its_number, against, overflows, counted_on, advances, least_number, greatest_number}
use Rattle.dy_lowering_law.specs.Force.{RowsFit}
use Rattle.dy_lowering_law.specs.Following.{Spot, scope_of, standing, after, Comes, IsRight}
use Rattle.dy_lowering_law.specs.Machines.{linked_program, machine_of}
use Rattle.dy_lowering_law.specs.Renumbering.{body_of}
use Rattle.dy_lowering_law.proofs.Arguments.{inside_both}
use Rattle.dy_lowering_law.proofs.Cases.{first_word}
use Rattle.dy_lowering_law.proofs.Leading.{comes_behind, stepped, then_words, Inside, holds_front, holds_back}
use Rattle.dy_lowering_law.proofs.parts.Selecting.{under}
use Rattle.dy_lowering_law.proofs.fors.Clauses.{three, bound_value, lies_of, lies, IsStep, Keeps, AllKeep, Gives, Goes_to, Stands, all_long, step_shown, bound_shown, number_shown}
use Rattle.dy_lowering_law.proofs.fors.Computing.{taken_under, under_append, goes_at, push_goes, number_computes, same_computes, sum_computes, product_computes, less_computes, not_computes, choice_computes}
use Rattle.dy_lowering_law.proofs.fors.Leaving.{under_fits, under_inside}
use Rattle.dy_lowering_law.proofs.fors.Words.{lt_says, lt_not, over_up, room_up_from, room_down, least_up, most_down}

module _ (program : Program) (n before locals : ℕ) where
  abbrev Shown : List Variant → Code → Variant → Type 0
  Shown = Gives program n before locals

  -- whether the next number has no 64 bits
  module _ (top : List Variant) (above : ℕ) (long : length top ≡ above) (step : ℤ) (bound : Variant) (number : ℤ) (word : fits number ≡ true) (by : fits step ≡ true) where
    abbrev all : List Variant
    all = top ++ three step bound number

    abbrev over : Bool
    over = not (fits (number +ℤ step))

    -- the opposite of a number, and a number more
    against_shown : (lying : List Variant) (code : Code) (a c : ℤ) → fits (a *ℤ negsuc 0) ≡ true → fits (a *ℤ negsuc 0 +ℤ c) ≡ true → Shown lying code (Int a) → Shown lying (against code c) (Int (a *ℤ negsuc 0 +ℤ c))
    against_shown lying code a c one other shown =
        sum_computes program n before locals lying (on_both multiplication code (number_code (negsuc 0))) (number_code c) (a *ℤ negsuc 0) c other
        (product_computes program n before locals lying code (number_code (negsuc 0)) a (negsuc 0) one shown (number_computes program n before locals (Int a ∷ lying) (negsuc 0)))
        (number_computes program n before locals (Int (a *ℤ negsuc 0) ∷ lying) c)

    number_above : (value : Variant) → Shown (value ∷ all) (its_number (above + 1)) (Int number)
    number_above value = number_shown program n before locals (value ∷ top) (above + 1) (omega (arith, long)) step bound number

    downwards : int_lt step (pos 0) ≡ true
        → Shown all (negated (less (against (on_both addition (its_step above) (number_code (pos 1))) least_number) (its_number (above + 1)))) (Truth over)
    downwards e =
        let words = least_up step by (lt_says step (pos 0) e) in
        let last = (step +ℤ pos 1) *ℤ negsuc 0 +ℤ least_number in
        let less_than = lt_says step (pos 0) e in
        same_computes program n before locals all (negated (less (against (on_both addition (its_step above) (number_code (pos 1))) least_number) (its_number (above + 1)))) (Truth (not (int_lt last number))) (Truth over)
        (ap (λ (c : Bool). Truth (not c)) (room_up_from number step last word (omega (arith, ints)) words.3))
        (not_computes program n before locals all (less (against (on_both addition (its_step above) (number_code (pos 1))) least_number) (its_number (above + 1))) (int_lt last number)
        (less_computes program n before locals all (against (on_both addition (its_step above) (number_code (pos 1))) least_number) (its_number (above + 1)) last number
        (against_shown all (on_both addition (its_step above) (number_code (pos 1))) (step +ℤ pos 1) least_number words.1 words.2
        (sum_computes program n before locals all (its_step above) (number_code (pos 1)) step (pos 1) words.0 (step_shown program n before locals top above long step bound number) (number_computes program n before locals (Int step ∷ all) (pos 1))))
        (number_above (Int last))))

    upwards : int_lt step (pos 0) ≡ false → Shown all (less (against (its_step above) greatest_number) (its_number (above + 1))) (Truth over)
    upwards e =
        let up = lt_not step (pos 0) e in
        let words = most_down step by up in
        let last = step *ℤ negsuc 0 +ℤ greatest_number in
        same_computes program n before locals all (less (against (its_step above) greatest_number) (its_number (above + 1))) (Truth (int_lt last number)) (Truth over) (ap Truth (over_up number step last word up words.2))
        (less_computes program n before locals all (against (its_step above) greatest_number) (its_number (above + 1)) last number
        (against_shown all (its_step above) step greatest_number words.0 words.1 (step_shown program n before locals top above long step bound number))
        (number_above (Int last)))

    over_shown : (amount : Amount) → IsStep amount step → Shown all (overflows amount above) (Truth over)
    over_shown (Known (pos more)) is =
        let last = greatest_number -ℤ pos more in
        let up : pos 0 ≤ℤ step = subst (λ (z : ℤ). pos 0 ≤ℤ z) is (omega (arith, ints)) in
        let same : last +ℤ step ≡ greatest_number = subst (λ (z : ℤ). last +ℤ z ≡ greatest_number) is (omega (arith, ints)) in
        same_computes program n before locals all (less (number_code last) (its_number (above + 1))) (Truth (int_lt last number)) (Truth over) (ap Truth (over_up number step last word up same))
        (less_computes program n before locals all (number_code last) (its_number (above + 1)) last number (number_computes program n before locals all last) (number_above (Int last)))
    over_shown (Known (negsuc down)) is =
        let last = least_number +ℤ pos (suc down) in
        same_computes program n before locals all (less (its_number above) (number_code last)) (Truth (int_lt number last)) (Truth over)
        (ap Truth (room_down number down word) ∙ ap (λ (z : ℤ). Truth (not (fits (number +ℤ z)))) is)
        (less_computes program n before locals all (its_number above) (number_code last) number last (number_shown program n before locals top above long step bound number) (number_computes program n before locals (Int number ∷ all) last))
    over_shown (Given code) is =
        choice_computes program n before locals all (less (its_step above) (number_code (pos 0))) (negated (less (against (on_both addition (its_step above) (number_code (pos 1))) least_number) (its_number (above + 1)))) (less (against (its_step above) greatest_number) (its_number (above + 1)))
        (int_lt step (pos 0)) (Truth over)
        (less_computes program n before locals all (its_step above) (number_code (pos 0)) step (pos 0) (step_shown program n before locals top above long step bound number) (number_computes program n before locals (Int step ∷ all) (pos 0)))
        downwards upwards

    -- the operands for the next turn
    pub on_comes : (x : Spot) (p : ℕ) (register : List Variant) (s : State) (k : ℕ) (to : ℕ → Step) → RowsFit x.running → IsRight program locals s → s.fuel.left ≤ n → fits (number +ℤ step) ≡ true → Stands program n before locals x p (counted_on above)
        → ((values : List Variant) (j : ℕ) → Goes_to program n before locals (under (three step bound (number +ℤ step) ++ all) x) (p + length (counted_on above)) values s j to)
        → Goes_to program n before locals (under all x) p register s k to
    on_comes x p register s k to fit right few fits_next holds next =
        let linked = linked_program program in
        let body = x.running.body in
        let next_number = number +ℤ step in
        let sum = on_both addition (its_number above) (its_step (above + 1)) in
        let code3 : Code = its_step (above + 2) ++ one instr.Push in
        let code2 : Code = Plain instr.Push ∷ code3 in
        let code1 : Code = its_bound (above + 1) ++ code2 in
        let code0 : Code = Plain instr.Push ∷ code1 in
        let p1 = p + length sum in
        let p2 = p1 + 1 + length (its_bound (above + 1)) in
        let p3 = p2 + 1 + length (its_step (above + 2)) in
        let h1 = holds_back linked before body p sum code0 holds in
        let h2 = holds_back linked before body (p1 + 1) (its_bound (above + 1)) code2 h1.1 in
        let h3 = holds_back linked before body (p2 + 1) (its_step (above + 2)) (one instr.Push) h2.1 in
        let one_above = Int next_number ∷ top in
        let two_above = bound ∷ Int next_number ∷ top in
        let end : p3 + 1 ≡ p + length (counted_on above) = omega (arith, length-append sum code0, length-append (its_bound (above + 1)) code2, length-append (its_step (above + 2)) (one instr.Push)) in
        sum_computes program n before locals all (its_number above) (its_step (above + 1)) number step fits_next (number_shown program n before locals top above long step bound number)
        (step_shown program n before locals (Int number ∷ top) (above + 1) (omega (arith, long)) step bound number) x p register s k to fit right few (holds_front linked before body p sum code0 holds) (λ vs j e.
        push_goes program n before locals (under all x) (Int next_number) p1 code1 vs s j to e h1
        (bound_shown program n before locals one_above (above + 1) (omega (arith, long)) step bound number x (p1 + 1) vs s j to fit right few (holds_front linked before body (p1 + 1) (its_bound (above + 1)) code2 h1.1) (λ ws i f.
        push_goes program n before locals (under (Int next_number ∷ all) x) bound p2 code3 ws s i to f h2
        (step_shown program n before locals two_above (above + 2) (omega (arith, long)) step bound number x (p2 + 1) ws s i to fit right few (holds_front linked before body (p2 + 1) (its_step (above + 2)) (one instr.Push) h2.1) (λ us l g.
        push_goes program n before locals (under (bound ∷ Int next_number ∷ all) x) (Int step) p3 [] us s l to g h3
        (goes_at program n before locals (under (three step bound next_number ++ all) x) (p3 + 1) (p + length (counted_on above)) us s l to end (next us l)))))))

  shifted : (above middle low : List Variant) (x : Spot) → under (above ++ (middle ++ low)) x ≡ under (above ++ middle) (under low x)
  shifted above middle low x = ap (λ (values : List Variant). under values x) (sym (append_assoc above middle low)) ∙ under_append (above ++ middle) low x

  -- What comes behind all clauses: an end has the operands of this turn alone, and those that go on have the next ones over them.
  module _ (out : Spot) (q units : ℕ) (most : units ≤ n) where
    abbrev Comes_to : Spot → ℕ → List Variant → State → ℕ → Outcome → Type 0
    Comes_to x p register s k o = Comes (machine_of program) (standing (body_of program) x p register s k) (after (body_of program) out q o)

    abbrev pub Ending : Spot → ℕ → (State → Outcome) → Type 0
    Ending x p ends = (values : List Variant) (t : State) (j : ℕ) → IsRight program locals t → t.fuel.left ≤ units → Comes_to x p values t j (ends t)

    abbrev pub Going_on : List Clause → List Variant → List Variant → Spot → ℕ → (List Going → State → Outcome) → Type 0
    Going_on clauses news old x p goes = (others : List Going) → AllKeep program n before locals clauses others → (values : List Variant) (t : State) (j : ℕ) → IsRight program locals t → t.fuel.left ≤ units
        → Comes_to (under ((lies others ++ news) ++ old) x) p values t j (goes others t)

    abbrev pub Advances : List Clause → List Going → Type 0
    Advances clauses all = (news : List Variant) (count far : ℕ) → length news ≡ count → (x : Spot) → Inside (machine_of program) (body_of program) x out → (p : ℕ) (register : List Variant) (s : State) (k : ℕ) (ends : State → Outcome) (goes : List Going → State → Outcome)
        → RowsFit x.running → IsRight program locals s → s.fuel.left ≤ units → Stands program n before locals x p (advances count clauses far)
        → Ending (under (lies all) x) (p + length (advances count clauses far) + far) ends
        → Going_on clauses news (lies all) x (p + length (advances count clauses far)) goes
        → Comes_to (under (news ++ lies all) x) p register s k (advanced all (scope_of x) s ends goes)

    -- the others go on, where a clause has laid its operands there
    others_come : (clause : Clause) (clauses : List Clause) (others : List Going) → Advances clauses others → (now new : Going) → Keeps program n before locals clause new → (news : List Variant) (count far : ℕ) → length news ≡ count → length (lies_of new) ≡ operands clause
        → (x : Spot) → Inside (machine_of program) (body_of program) x out → (p : ℕ) (register : List Variant) (s : State) (k : ℕ) (ends : State → Outcome) (goes : List Going → State → Outcome)
        → RowsFit x.running → IsRight program locals s → s.fuel.left ≤ units → Stands program n before locals x p (advances (count + operands clause) clauses far)
        → Ending (under (lies (now ∷ others)) x) (p + length (advances (count + operands clause) clauses far) + far) ends
        → Going_on (clause ∷ clauses) news (lies (now ∷ others)) x (p + length (advances (count + operands clause) clauses far)) goes
        → Comes_to (under (lies_of new ++ (news ++ lies (now ∷ others))) x) p register s k (advanced others (scope_of x) s ends (λ rest t. goes (new ∷ rest) t))
    others_come clause clauses others comes now new keeps news count far long one x inside p register s k ends goes fit right few holds ending next =
        let low = under (lies_of now) x in
        let news1 = lies_of new ++ news in
        let here : under (lies_of new ++ (news ++ (lies others ++ lies_of now))) x ≡ under (news1 ++ lies others) low =
        ap (λ (values : List Variant). under values x) (sym (append_assoc (lies_of new) news (lies others ++ lies_of now))) ∙ shifted news1 (lies others) (lies_of now) x in
        let end = p + length (advances (count + operands clause) clauses far) in
        subst (λ (y : Spot). Comes_to y p register s k (advanced others (scope_of x) s ends (λ rest t. goes (new ∷ rest) t))) (sym here)
        (comes news1 (count + operands clause) far (omega (arith, long, one, length-append (lies_of new) news)) low
        (inside_both program low x out (under_inside program (lies_of now) x fit) inside) p register s k ends (λ rest t. goes (new ∷ rest) t) (under_fits (lies_of now) x fit) right few holds
        (λ values t j right1 few1. subst (λ (y : Spot). Comes_to y (end + far) values t j (ends t)) (under_append (lies others) (lies_of now) x) (ending values t j right1 few1))
        (λ rest keep values t j right1 few1. subst (λ (y : Spot). Comes_to y end values t j (goes (new ∷ rest) t)) (regrouped rest) (next (new ∷ rest) (keeps, keep) values t j right1 few1)))
      where
        regrouped : (rest : List Going) → under (((lies rest ++ lies_of new) ++ news) ++ (lies others ++ lies_of now)) x ≡ under ((lies rest ++ (lies_of new ++ news)) ++ lies others) (under (lies_of now) x)
        regrouped rest =
            ap (λ (values : List Variant). under (values ++ (lies others ++ lies_of now)) x) (append_assoc (lies rest) (lies_of new) news)
            ∙ shifted (lies rest ++ (lies_of new ++ news)) (lies others) (lies_of now) x

    -- an end of a clause that counts, or its operands for the next turn
    leaves_or : (c : Bool) (clauses : List Clause) (others : List Going) → AllKeep program n before locals clauses others → (place other : Place) (start : Code) (limit : Option (Limit × Amount)) (amount : Amount) (number : ℤ) (bound : Option (Limit × ℤ)) (step : ℤ)
        → Keeps program n before locals (Counts place start limit amount) (Counting other number bound step) → fits (number +ℤ step) ≡ c → Advances clauses others → (news : List Variant) (count far : ℕ) → length news ≡ count
        → (x : Spot) → Inside (machine_of program) (body_of program) x out → (p : ℕ) (register : List Variant) (s : State) (k : ℕ) (ends : State → Outcome) (goes : List Going → State → Outcome)
        → RowsFit x.running → IsRight program locals s → s.fuel.left ≤ units
        → Stands program n before locals x p (past_if_false 2 ∷ Plain (instr.Values count) ∷ past (length (counted_on (count + all_operands clauses)) + (length (advances (count + 3) clauses far) + far)) ∷ (counted_on (count + all_operands clauses) ++ advances (count + 3) clauses far))
        → first register ≡ Truth (not (fits (number +ℤ step)))
        → Ending (under (lies (Counting other number bound step ∷ others)) x) (p + 3 + length (counted_on (count + all_operands clauses)) + length (advances (count + 3) clauses far) + far) ends
        → Going_on (Counts place start limit amount ∷ clauses) news (lies (Counting other number bound step ∷ others)) x (p + 3 + length (counted_on (count + all_operands clauses)) + length (advances (count + 3) clauses far)) goes
        → Comes_to (under (news ++ lies (Counting other number bound step ∷ others)) x) p register s k
        (chosen c (λ t. advanced others (scope_of x) t ends (λ rest u. goes (Counting other (number +ℤ step) bound step ∷ rest) u)) ends s)
    leaves_or true clauses others keep place other start limit amount number bound step keeps e comes news count far long x inside p register s k ends goes fit right few holds is ending next =
        let m = machine_of program in
        let num = body_of program in
        let now = Counting other number bound step in
        let new = Counting other (number +ℤ step) bound step in
        let above = count + all_operands clauses in
        let more = advances (count + 3) clauses far in
        let top = news ++ lies others in
        let y = under (news ++ (lies others ++ lies_of now)) x in
        let p1 = p + 1 + 2 in
        let p2 = p1 + length (counted_on above) in
        let e1 : p1 ≡ p + 3 = omega arith in
        let long1 : length top ≡ above = omega (arith, long, length-append news (lies others), all_long program n before locals clauses others keep) in
        let few1 : s.fuel.left ≤ n = omega (arith, few, most) in
        let joined : top ++ three step (bound_value bound) number ≡ news ++ (lies others ++ lies_of now) = append_assoc news (lies others) (lies_of now) in
        let e2 : p + 1 + 1 + 1 ≡ p1 = omega arith in
        let h : Stands program n before locals x p1 (counted_on above ++ more) = subst (λ (r : ℕ). Stands program n before locals x r (counted_on above ++ more)) e2 holds.1.1.1 in
        let whole = advanced others (scope_of x) s ends (λ rest u. goes (new ∷ rest) u) in
        comes_behind m (standing num y p register s k) (standing num y p1 register s k) (after num out q whole)
        (stepped m num y p before register s k (past_if_false 2) (Plain (instr.Values count) ∷ past (length (counted_on above) + (length more + far)) ∷ (counted_on above ++ more)) holds
        ∙ ap (λ (v : Variant). jump_false (is_false v) p1 (standing num y (p + 1) register s k)) (is ∙ ap (λ (b : Bool). Truth (not b)) e))
        (subst (λ (values : List Variant). Goes_to program n before locals (under values x) p1 register s k (after num out q whole)) joined
        (on_comes top above long1 step (bound_value bound) number keeps.2 keeps.3 x p1 register s k (after num out q whole) fit right few1 e (holds_front (linked_program program) before x.running.body p1 (counted_on above) more h) (λ values j.
        subst (λ (all : List Variant). Goes_to program n before locals (under (lies_of new ++ all) x) p2 values s j (after num out q whole)) (sym joined)
        (others_come (Counts place start limit amount) clauses others comes now new (keeps.0, keeps.1, e, keeps.3, keeps.4, keeps.5) news count far long refl x inside p2 values s j ends goes fit right few
        (holds_back (linked_program program) before x.running.body p1 (counted_on above) more h)
        (subst (λ (place : ℕ). Ending (under (lies (now ∷ others)) x) (place + length (counted_on above) + length more + far) ends) (sym e1) ending)
        (subst (λ (r : ℕ). Going_on (Counts place start limit amount ∷ clauses) news (lies (now ∷ others)) x (r + length (counted_on above) + length more) goes) (sym e1) next)))))
    leaves_or false clauses others keep place other start limit amount number bound step keeps e comes news count far long x inside p register s k ends goes fit right few holds is ending next =
        let m = machine_of program in
        let num = body_of program in
        let now = Counting other number bound step in
        let above = count + all_operands clauses in
        let more = advances (count + 3) clauses far in
        let far1 = length (counted_on above) + (length more + far) in
        let low = under (lies (now ∷ others)) x in
        let y = under (news ++ lies (now ∷ others)) x in
        let same : y ≡ under news low = under_append news (lies (now ∷ others)) x in
        let there : p + 1 + 1 + 1 + far1 ≡ p + 3 + length (counted_on above) + length more + far = omega arith in
        let tail : Code = counted_on above ++ more in
        comes_behind m (standing num y p register s k) (standing num y (p + 1) register s k) (after num out q (ends s))
        (stepped m num y p before register s k (past_if_false 2) (Plain (instr.Values count) ∷ past far1 ∷ tail) holds
        ∙ ap (λ (v : Variant). jump_false (is_false v) (p + 1 + 2) (standing num y (p + 1) register s k)) (is ∙ ap (λ (b : Bool). Truth (not b)) e))
        (subst (λ (z : Spot). Comes_to z (p + 1) register s k (ends s)) (sym same)
        (comes_behind m (standing num (under news low) (p + 1) register s k) (standing num low (p + 1 + 1) (reverse news) s k) (after num out q (ends s))
        (stepped m num (under news low) (p + 1) before register s k (Plain (instr.Values count)) (past far1 ∷ tail) holds.1 ∙ taken_under num news count low (p + 1 + 1) register s k gives long)
        (comes_behind m (standing num low (p + 1 + 1) (reverse news) s k) (standing num low (p + 1 + 1 + 1 + far1) (reverse news) s k) (after num out q (ends s))
        (stepped m num low (p + 1 + 1) before (reverse news) s k (past far1) tail holds.1.1)
        (goes_at program n before locals low (p + 1 + 1 + 1 + far1) (p + 3 + length (counted_on above) + length more + far) (reverse news) s k (after num out q (ends s)) there (ending (reverse news) s k right few)))))

    pub all_advance : (clauses : List Clause) (all : List Going) → AllKeep program n before locals clauses all → Advances clauses all
    all_advance [] [] keep news count far long x inside p register s k ends goes fit right few holds ending next =
        let e : p ≡ p + 0 = omega arith in
        goes_at program n before locals (under (news ++ []) x) p (p + 0) register s k (after (body_of program) out q (goes [] s)) e (next [] tt register s k right few)
    all_advance (Takes place start code ∷ clauses) (Taking other value does ∷ others) keep news count far long x inside p register s k ends goes fit right few holds ending next =
        let m = machine_of program in
        let num = body_of program in
        let linked = linked_program program in
        let body = x.running.body in
        let scope = scope_of x in
        let now = Taking other value does in
        let follows = keep.0.2 in
        let more = advances (count + 1) clauses far in
        let last : Code = Plain instr.Push ∷ more in
        let y = under (news ++ lies (now ∷ others)) x in
        let p1 = p + length code in
        let cut : (code ++ one instr.Push) ++ more ≡ code ++ last = append_assoc code (one instr.Push) more in
        let h0 : Stands program n before locals x p (code ++ last) = subst (λ (c : Code). Stands program n before locals x p c) cut holds in
        let h1 = holds_back linked before body p code last h0 in
        let end : p1 + 1 + length more ≡ p + length ((code ++ one instr.Push) ++ more) = omega (arith, length-append (code ++ one instr.Push) more, length-append code (one instr.Push)) in
        let few1 : s.fuel.left ≤ n = omega (arith, few, most) in
        let less = follows.falls scope s in
        then_words m num program locals units (standing num y p register s k) y out p1 q (does scope s) (λ vs t. advanced others scope t ends (λ rest u. goes (Taking other (first vs) does ∷ rest) u))
        (inside_both program y x out (under_inside program (news ++ lies (now ∷ others)) x fit) inside)
        (follows.runs y p register s k (holds_front linked before body p code last h0) (under_fits (news ++ lies (now ∷ others)) x fit) right few1) (omega (arith, less, few)) (follows.keeps scope s right)
        (λ vs t j few2 right2 words.
        push_goes program n before locals y (first vs) p1 more vs t j (after num out q (advanced others scope t ends (λ rest u. goes (Taking other (first vs) does ∷ rest) u))) refl h1
        (others_come (Takes place start code) clauses others (all_advance clauses others keep.1) now (Taking other (first vs) does) (keep.0.0, keep.0.1, follows, first_word vs words) news count far long refl x inside (p1 + 1) vs t j ends goes fit right2 few2 h1.1
        (subst (λ (r : ℕ). Ending (under (lies (now ∷ others)) x) (r + far) ends) (sym end) ending)
        (subst (λ (r : ℕ). Going_on (Takes place start code ∷ clauses) news (lies (now ∷ others)) x r goes) (sym end) next)))
    all_advance (Counts place start limit amount ∷ clauses) (Counting other number bound step ∷ others) keep news count far long x inside p register s k ends goes fit right few holds ending next =
        let m = machine_of program in
        let num = body_of program in
        let linked = linked_program program in
        let body = x.running.body in
        let scope = scope_of x in
        let now = Counting other number bound step in
        let new = Counting other (number +ℤ step) bound step in
        let above = count + all_operands clauses in
        let more = advances (count + 3) clauses far in
        let distance = length more + far in
        let test = overflows amount above in
        let leaving : Code = past_if_false 2 ∷ Plain (instr.Values count) ∷ past (length (counted_on above) + distance) ∷ counted_on above in
        let rest : Code = past_if_false 2 ∷ Plain (instr.Values count) ∷ past (length (counted_on above) + distance) ∷ (counted_on above ++ more) in
        let cut : (test ++ leaving) ++ more ≡ test ++ rest = append_assoc test leaving more in
        let h0 : Stands program n before locals x p (test ++ rest) = subst (λ (c : Code). Stands program n before locals x p c) cut holds in
        let top = news ++ lies others in
        let p1 = p + length test in
        let few1 : s.fuel.left ≤ n = omega (arith, few, most) in
        let long1 : length top ≡ above = omega (arith, long, length-append news (lies others), all_long program n before locals clauses others keep.1) in
        let joined : top ++ three step (bound_value bound) number ≡ news ++ (lies others ++ lies_of now) = append_assoc news (lies others) (lies_of now) in
        let whole = chosen (fits (number +ℤ step)) (λ t. advanced others scope t ends (λ rest u. goes (new ∷ rest) u)) ends s in
        let end : p1 + 3 + length (counted_on above) + length more ≡ p + length ((test ++ leaving) ++ more) = omega (arith, length-append (test ++ leaving) more, length-append test leaving) in
        subst (λ (values : List Variant). Goes_to program n before locals (under values x) p register s k (after num out q whole)) joined
        (over_shown top above long1 step (bound_value bound) number keep.0.2 keep.0.3 amount keep.0.5 x p register s k (after num out q whole) fit right few1 (holds_front linked before body p test rest h0) (λ vs j is.
        subst (λ (values : List Variant). Goes_to program n before locals (under values x) p1 vs s j (after num out q whole)) (sym joined)
        (leaves_or (fits (number +ℤ step)) clauses others keep.1 place other start limit amount number bound step keep.0 refl (all_advance clauses others keep.1) news count far long x inside p1 vs s j ends goes fit right few
        (holds_back linked before body p test rest h0) is
        (subst (λ (r : ℕ). Ending (under (lies (now ∷ others)) x) (r + far) ends) (sym end) ending)
        (subst (λ (r : ℕ). Going_on (Counts place start limit amount ∷ clauses) news (lies (now ∷ others)) x r goes) (sym end) next))))
    all_advance [] (going ∷ others) keep news count far long x inside p register s k ends goes fit right few holds ending next = absurd keep
    all_advance (clause ∷ clauses) [] keep news count far long x inside p register s k ends goes fit right few holds ending next = absurd keep
    all_advance (Takes place start code ∷ clauses) (Counting other number bound step ∷ others) keep news count far long x inside p register s k ends goes fit right few holds ending next = absurd keep.0
    all_advance (Counts place start limit amount ∷ clauses) (Taking other value does ∷ others) keep news count far long x inside p register s k ends goes fit right few holds ending next = absurd keep.0
