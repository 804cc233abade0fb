-- The turns of a loop of any clauses.
use Rattle.std.proofs.Common.{◌≡◌, ℕ, zero, suc, ◌+◌, ◌-◌, ◌≤◌, Bool, false, negsuc, List, [], ◌∷◌, ◌++◌, reverse, length, refl, sym, ap, ◌∙◌, subst, arith, length-append}
use Rattle.std.specs.declared.option.Option.{Option}
use Rattle.std.proofs.lemmas.List.{reverse-reverse, length-reverse}
use Rattle.dy_term.specs.declared.rows.Program.{Program}
use Rattle.dy_values.specs.declared.value.Variant.{Variant}
use Rattle.dy_outcome.specs.declared.state.State.{State}
use Rattle.dy_outcome.specs.States.{Outcome, Does, and_then, spend_unit, exhausted}
use Rattle.dy_outcome.specs.Calls.{returned}
use Rattle.dy_outcome.specs.Choices.{chosen}
use Rattle.dy_outcome.specs.Turns as means
use Rattle.dy_outcome.specs.Turns.{Going, advanced, are_over, bound_anew, for_turns}
use Rattle.dy_outcome.proofs.Near.{no_unit}
use Rattle.dy_code.specs.Fetching as instr
use Rattle.dy_steps.specs.Configurations.{Config, Step, Goes}
use Rattle.dy_steps.specs.Effects.{gives}
use Rattle.dy_lowered.specs.Flat.{Plain, Jump, Code, one}
use Rattle.dy_lowered.specs.Turns.{Clause, all_operands, bindings, tests, tested, advances, renewed, turn_body, turn_rest, turn}
use Rattle.dy_lowering_law.specs.Force.{RowsFit}
use Rattle.dy_lowering_law.specs.Following.{Spot, scope_of, standing, after, Comes, IsRight, Follows}
use Rattle.dy_lowering_law.specs.Machines.{linked_program, machine_of}
use Rattle.dy_lowering_law.specs.Renumbering.{body_of}
use Rattle.dy_lowering_law.proofs.Leading.{comes_behind, stepped, then_comes, inside_self, holds_front, holds_back}
use Rattle.dy_lowering_law.proofs.parts.Looping.{with_left, left_right}
use Rattle.dy_lowering_law.proofs.parts.Saved.{laid_aside}
use Rattle.dy_lowering_law.proofs.parts.Selecting.{under}
use Rattle.dy_lowering_law.specs.fors.Loops.{TestDoes}
use Rattle.dy_lowering_law.proofs.fors.Advancing.{all_advance}
use Rattle.dy_lowering_law.proofs.fors.Clauses.{lies, AllKeep, all_words, all_long, all_test, Goes_to, Stands}
use Rattle.dy_lowering_law.proofs.fors.Computing.{taken_under, returned_all, under_append, goes_at}
use Rattle.dy_lowering_law.proofs.fors.Leaving.{under_fits, under_inside}
use Rattle.dy_lowering_law.proofs.fors.Turning.{tick_at, test_comes}
use Rattle.dy_lowering_law.proofs.fors.Variables.{anew_units, anew_right, variables_bound}

module _ (program : Program) (n before locals : ℕ) where
  -- the topmost operands take the place of others
  renewed_comes : (new old : List Variant) (count : ℕ) → length new ≡ count → length old ≡ count → (x : Spot) (p : ℕ) (register : List Variant) (s : State) (k : ℕ) (to : ℕ → Step) → Stands program n before locals x p (renewed count)
      → ((values : List Variant) → Goes_to program n before locals (under new x) (p + 5) values s k to)
      → Goes_to program n before locals (under (new ++ old) x) p register s k to
  renewed_comes new old count new_long old_long x p register s k to holds next =
      let m = machine_of program in
      let num = body_of program in
      let back = reverse new in
      let away = reverse old in
      let low = under old x in
      let aside = laid_aside back x in
      let same : reverse (returned count false back) ≡ new = ap reverse (returned_all back count (length-reverse new ∙ new_long)) ∙ reverse-reverse new in
      let end : p + 1 + 1 + 1 + 1 + 1 ≡ p + 5 = omega arith in
      subst (λ (y : Spot). Goes_to program n before locals y p register s k to) (sym (under_append new old x))
      (comes_behind m (standing num (under new low) p register s k) (standing num low (p + 1) back s k) to
      (stepped m num (under new low) p before register s k (Plain (instr.Values count)) (Plain instr.Save ∷ Plain (instr.Values count) ∷ Plain instr.Restore ∷ one (instr.Spread count false)) holds ∙ taken_under num new count low (p + 1) register s k gives new_long)
      (comes_behind m (standing num low (p + 1) back s k) (standing num (laid_aside back low) (p + 1 + 1) back s k) to
      (stepped m num low (p + 1) before back s k (Plain instr.Save) (Plain (instr.Values count) ∷ Plain instr.Restore ∷ one (instr.Spread count false)) holds.1)
      (comes_behind m (standing num (under old aside) (p + 1 + 1) back s k) (standing num aside (p + 1 + 1 + 1) away s k) to
      (stepped m num (under old aside) (p + 1 + 1) before back s k (Plain (instr.Values count)) (Plain instr.Restore ∷ one (instr.Spread count false)) holds.1.1 ∙ taken_under num old count aside (p + 1 + 1 + 1) back s k gives old_long)
      (comes_behind m (standing num aside (p + 1 + 1 + 1) away s k) (standing num x (p + 1 + 1 + 1 + 1) back s k) to
      (stepped m num aside (p + 1 + 1 + 1) before away s k (Plain instr.Restore) (one (instr.Spread count false)) holds.1.1.1)
      (comes_behind m (standing num x (p + 1 + 1 + 1 + 1) back s k) (standing num (under new x) (p + 1 + 1 + 1 + 1 + 1) back s k) to
      (stepped m num x (p + 1 + 1 + 1 + 1) before back s k (Plain (instr.Spread count false)) [] holds.1.1.1.1 ∙ ap (λ (vs : List Variant). Goes (standing num (under vs x) (p + 1 + 1 + 1 + 1 + 1) back s k)) same)
      (goes_at program n before locals (under new x) (p + 1 + 1 + 1 + 1 + 1) (p + 5) back s k to end (next back)))))))

  module _ (clauses : List Clause) (test : Option (Bool × Code)) (t : Option (Bool × Does)) (does : TestDoes program n before locals test t) (inner : Code) (b : Does) (fb : Follows program n before locals inner b)
      (last : Code) (f : Does) (ff : Follows program n before locals last f) (x : Spot) (fit : RowsFit x.running) (start : ℕ) where
    abbrev count : ℕ
    count = all_operands clauses

    abbrev whole : Code
    whole = turn clauses test inner

    abbrev behind : Code
    behind = Jump (negsuc (length whole)) ∷ Plain (instr.Values count) ∷ last

    abbrev body : Code
    body = turn_body clauses test inner

    abbrev rest : Code
    rest = turn_rest clauses test inner

    abbrev going_on : Code
    going_on = advances 0 clauses 6

    abbrev far : ℕ
    far = length rest + 1

    abbrev away : ℕ
    away = length body + 1

    -- where the loop is left, and where all is done
    abbrev left_at : ℕ
    left_at = start + length whole + 1

    abbrev q : ℕ
    q = left_at + 1 + length last

    abbrev p1 : ℕ
    p1 = start + length (bindings clauses)

    abbrev p2 : ℕ
    p2 = p1 + length (tests clauses far)

    abbrev p3 : ℕ
    p3 = p2 + length (tested test away)

    abbrev p4 : ℕ
    p4 = p3 + 1 + length inner

    abbrev p5 : ℕ
    p5 = p4 + length going_on

    module _ (holds : Stands program n before locals x start (whole ++ behind)) where
      abbrev Ends : Config → Outcome → Type 0
      Ends c o = Comes (machine_of program) c (after (body_of program) x q o)

      abbrev At : List Going → ℕ → List Variant → State → ℕ → Outcome → Type 0
      At all p register s k o = Ends (standing (body_of program) (under (lies all) x) p register s k) o

      h_turn : Stands program n before locals x start whole
      h_turn = holds_front (linked_program program) before x.running.body start whole behind holds

      h_behind : Stands program n before locals x (start + length whole) behind
      h_behind = holds_back (linked_program program) before x.running.body start whole behind holds

      h1 : Stands program n before locals x p1 (tests clauses far ++ rest)
      h1 = holds_back (linked_program program) before x.running.body start (bindings clauses) (tests clauses far ++ rest) h_turn

      h2 : Stands program n before locals x p2 rest
      h2 = holds_back (linked_program program) before x.running.body p1 (tests clauses far) rest h1

      h3 : Stands program n before locals x p3 body
      h3 = holds_back (linked_program program) before x.running.body p2 (tested test away) body h2

      h4 : Stands program n before locals x p4 (going_on ++ renewed count)
      h4 = holds_back (linked_program program) before x.running.body (p3 + 1) inner (going_on ++ renewed count) h3.1

      h5 : Stands program n before locals x p5 (renewed count)
      h5 = holds_back (linked_program program) before x.running.body p4 going_on (renewed count) h4

      body_long : p3 + length body ≡ p5 + 5
      body_long = omega (arith, length-append inner (going_on ++ renewed count), length-append going_on (renewed count))

      rest_long : p2 + length rest ≡ p5 + 5
      rest_long = omega (arith, length-append (tested test away) body, body_long)

      whole_long : start + length whole ≡ p5 + 5
      whole_long = omega (arith, length-append (bindings clauses) (tests clauses far ++ rest), length-append (tests clauses far) rest, rest_long)

      -- the loop is left
      end_comes : (all : List Going) → AllKeep program n before locals clauses all → (p : ℕ) (register : List Variant) (s : State) (k : ℕ) → p ≡ left_at → IsRight program locals s → s.fuel.left ≤ n → At all p register s k (f (scope_of x) s)
      end_comes all keep p register s k e right few =
          let m = machine_of program in
          let num = body_of program in
          let y = under (lies all) x in
          goes_at program n before locals y p left_at register s k (after num x q (f (scope_of x) s)) e
          (comes_behind m (standing num y left_at register s k) (standing num x (left_at + 1) (reverse (lies all)) s k) (after num x q (f (scope_of x) s))
          (stepped m num y left_at before register s k (Plain (instr.Values count)) last h_behind.1 ∙ taken_under num (lies all) count x (left_at + 1) register s k gives (all_long program n before locals clauses all keep))
          (ff.runs x (left_at + 1) (reverse (lies all)) s k h_behind.1.1 fit right few))

      -- The variables are bound, and the clauses are tested; then more follows.
      framed_comes : (all : List Going) → AllKeep program n before locals clauses all → (go : State → Outcome) (register : List Variant) (s : State) (k : ℕ) → IsRight program locals s → s.fuel.left ≤ n
          → ((values : List Variant) (j : ℕ) → At all p2 values (bound_anew all s) j (go (bound_anew all s)))
          → At all start register s k (chosen (are_over all) (f (scope_of x)) go (bound_anew all s))
      framed_comes all keep go register s k right few next =
          let s1 = bound_anew all s in
          let right1 = anew_right program n before locals all (all_words program n before locals clauses all keep) s right in
          let few1 : s1.fuel.left ≤ n = omega (arith, few, anew_units all s) in
          let there : p2 + far ≡ left_at = omega (arith, rest_long, whole_long) in
          variables_bound program n before locals clauses all keep x start register s k (after (body_of program) x q (chosen (are_over all) (f (scope_of x)) go s1)) fit right few
          (holds_front (linked_program program) before x.running.body start (bindings clauses) (tests clauses far ++ rest) h_turn) (λ values j.
          all_test program n before locals clauses all keep far x p1 values s1 j (after (body_of program) x q (chosen (are_over all) (f (scope_of x)) go s1)) fit right1 few1
          (holds_front (linked_program program) before x.running.body p1 (tests clauses far) rest h1)
          (λ ws i e. subst (λ (c : Bool). At all (p2 + far) ws s1 i (chosen c (f (scope_of x)) go s1)) (sym e) (end_comes all keep (p2 + far) ws s1 i there right1 few1))
          (λ ws i e. subst (λ (c : Bool). At all p2 ws s1 i (chosen c (f (scope_of x)) go s1)) (sym e) (next ws i)))

      turn_test : (all : List Going) → AllKeep program n before locals clauses all → (go : State → Outcome) (register : List Variant) (s : State) (k : ℕ) → IsRight program locals s → s.fuel.left ≤ n
          → ((values : List Variant) (u : State) (j : ℕ) → u.fuel.left ≤ s.fuel.left → IsRight program locals u → At all p3 values u j (go u))
          → At all p2 register s k (means.tested t (scope_of x) s (f (scope_of x)) go)
      turn_test all keep go register s k right few next =
          let there : p3 + away ≡ left_at = omega (arith, body_long, whole_long) in
          test_comes program n before locals (lies all) x fit q p2 away (f (scope_of x)) go test t does register s k right few
          (holds_front (linked_program program) before x.running.body p2 (tested test away) body h2)
          (λ values u j less right1. end_comes all keep (p3 + away) values u j there right1 (omega (arith, less, few))) next

      pub all_turns : (turns : ℕ) (all : List Going) → AllKeep program n before locals clauses all → (register : List Variant) (s : State) (k : ℕ) → IsRight program locals s → s.fuel.left ≤ n → s.fuel.left ≤ turns
          → At all start register s k (for_turns turns all t b f (scope_of x) s)
      all_turns zero all keep register s k right few most =
          let m = machine_of program in
          let num = body_of program in
          let y = under (lies all) x in
          let s1 = bound_anew all s in
          let units = anew_units all s in
          let right1 = anew_right program n before locals all (all_words program n before locals clauses all keep) s right in
          let few1 : s1.fuel.left ≤ n = omega (arith, few, units) in
          framed_comes all keep (λ v. means.tested t (scope_of x) v (f (scope_of x)) exhausted) register s k right few (λ vs j.
          turn_test all keep exhausted vs s1 j right1 few1 (λ values u i less right2.
          subst (λ (o : Outcome). At all p3 values u i o) (no_unit u exhausted (omega (arith, less, units, most)))
          (tick_at program n before locals y x p3 q values u i u.fuel.left exhausted (stepped m num y p3 before values u i (Plain instr.Tick) (inner ++ (going_on ++ renewed count)) h3)
          (λ left e. absurd (omega (arith, e, less, units, most))))))
      all_turns (suc turns) all keep register s k right few most =
          let m = machine_of program in
          let num = body_of program in
          let scope = scope_of x in
          let y = under (lies all) x in
          let s1 = bound_anew all s in
          let units = anew_units all s in
          let right1 = anew_right program n before locals all (all_words program n before locals clauses all keep) s right in
          let few1 : s1.fuel.left ≤ n = omega (arith, few, units) in
          let advance : List Variant → State → Outcome = λ vs v. advanced all scope v (f scope) (λ others w. for_turns turns others t b f scope w) in
          let go : State → Outcome = λ v. and_then (b scope v) advance in
          let back : p5 + 5 - length whole ≡ start = omega (arith, whole_long) in
          let out : p5 + 6 ≡ left_at = omega (arith, whole_long) in
          framed_comes all keep (λ v. means.tested t scope v (f scope) (λ w. spend_unit w go)) register s k right few (λ vs j.
          turn_test all keep (λ w. spend_unit w go) vs s1 j right1 few1 (λ values u i less right2.
          tick_at program n before locals y x p3 q values u i u.fuel.left go (stepped m num y p3 before values u i (Plain instr.Tick) (inner ++ (going_on ++ renewed count)) h3)
          (λ left e. let right3 = left_right program n before locals left u right2 in
          let few3 : left ≤ n = omega (arith, e, less, units, few) in
          then_comes m num program locals left (standing num y (p3 + 1) values (with_left left u) i) y x p4 q (b scope (with_left left u)) advance (under_inside program (lies all) x fit)
          (fb.runs y (p3 + 1) values (with_left left u) i (holds_front (linked_program program) before x.running.body (p3 + 1) inner (going_on ++ renewed count) h3.1) (under_fits (lies all) x fit) right3 few3)
          (fb.falls scope (with_left left u)) (fb.keeps scope (with_left left u) right3)
          (λ ws w l fewer right4.
          all_advance program n before locals x q left few3 clauses all keep [] 0 6 refl x (inside_self m num x) p4 ws w l (f scope) (λ others v. for_turns turns others t b f scope v) fit right4 fewer
          (holds_front (linked_program program) before x.running.body p4 going_on (renewed count) h4)
          (λ us v g right5 few5. end_comes all keep (p5 + 6) us v g out right5 (omega (arith, few5, few3)))
          (λ others kept us v g right5 few5.
          let again = standing num (under (lies others) x) in
          let to = after num x q (for_turns turns others t b f scope v) in
          subst (λ (above : List Variant). Goes_to program n before locals (under (above ++ lies all) x) p5 us v g to) (sym (append_nil (lies others)))
          (renewed_comes (lies others) (lies all) count (all_long program n before locals clauses others kept) (all_long program n before locals clauses all keep) x p5 us v g to h5 (λ zs.
          comes_behind m (again (p5 + 5) zs v g) (again start zs v g) to
          (stepped m num (under (lies others) x) (p5 + 5) before zs v g (Jump (negsuc (length whole))) (Plain (instr.Values count) ∷ last) (subst (λ (r : ℕ). Stands program n before locals x r behind) whole_long h_behind)
          ∙ ap (λ (r : ℕ). Goes (again r zs v g)) back)
          (all_turns turns others kept zs v g right5 (omega (arith, few5, few3)) (omega (arith, few5, e, less, units, most))))))))))
        where
          append_nil : (values : List Variant) → values ++ [] ≡ values
          append_nil [] = refl
          append_nil (value ∷ values) = ap (λ (vs : List Variant). value ∷ vs) (append_nil values)
