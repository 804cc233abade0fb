-- `while` and `until`.
use Rattle.std.proofs.Common.{◌≡◌, ℕ, zero, suc, ◌+◌, ◌-◌, ◌≤◌, false, negsuc, List, ◌∷◌, ◌++◌, length, refl, sym, ap, ◌∙◌, subst, arith, length-append}
use Rattle.dy_term.specs.declared.rows.Program.{Program}
use Rattle.dy_values.specs.declared.value.Variant.{Variant}
use Rattle.dy_values.specs.declared.value.Variant.TheVariants.{Bool as Truth}
use Rattle.dy_values.specs.Spending.{first, is_false}
use Rattle.dy_outcome.specs.declared.state.State.{State}
use Rattle.dy_outcome.specs.States.{Outcome, Does, Scope, and_then, gave, unit_from, spend_unit, exhausted}
use Rattle.dy_outcome.specs.Choices.{chosen}
use Rattle.dy_outcome.specs.Turns.{looping, loop}
use Rattle.dy_outcome.proofs.Near.{no_unit}
use Rattle.dy_outcome.proofs.Whole.{loop_falls}
use Rattle.dy_code.specs.Fetching as instr
use Rattle.dy_steps.specs.Configurations.{Goes}
use Rattle.dy_steps.specs.Effects as effects
use Rattle.dy_steps.specs.Steps.{step}
use Rattle.dy_lowered.specs.Flat.{Plain, Jump, Code, past_if_false}
use Rattle.dy_lowered.specs.Parts as parts
use Rattle.dy_lowering_law.specs.Force.{RowsFit}
use Rattle.dy_lowering_law.specs.Following.{Spot, scope_of, standing, after, Comes, Holds, IsRight, IsRightAfter, Follows}
use Rattle.dy_lowering_law.specs.Machines.{linked_program, machine_of}
use Rattle.dy_lowering_law.specs.Renumbering.{body_of}
use Rattle.dy_lowering_law.proofs.Leading.{comes_by, comes_behind, stepped, then_comes, ends_at, inside_self, holds_front, holds_back}
use Rattle.dy_lowering_law.proofs.Cases.{then_keeps, chosen_comes, chosen_keeps}
use Rattle.dy_lowering_law.proofs.Literals.{truth_follows}

abbrev pub with_left : ℕ → State → State
with_left units s = record s { fuel = record { left = units } }

module _ (program : Program) (n before locals : ℕ) where
  -- a unit is spent, or the run ends for want of it
  pub tick_comes : (x : Spot) (place q : ℕ) (register : List Variant) (s : State) (k units : ℕ) (go : State → Outcome)
      → step (machine_of program) (standing (body_of program) x place register s k) ≡ effects.unit_from units (standing (body_of program) x (place + 1) register s k) Goes
      → ((left : ℕ) → units ≡ suc left → Comes (machine_of program) (standing (body_of program) x (place + 1) register (with_left left s) k) (after (body_of program) x q (go (with_left left s))))
      → Comes (machine_of program) (standing (body_of program) x place register s k) (after (body_of program) x q (unit_from units s go))
  tick_comes x place q register s k zero go does next = comes_by (machine_of program) _ _ k does
  tick_comes x place q register s k (suc left) go does next =
      comes_behind (machine_of program) _ (standing (body_of program) x (place + 1) register (with_left left s) k) _ does (next left refl)

  pub unit_keeps : (units : ℕ) (s : State) (go : State → Outcome) → ((left : ℕ) → IsRightAfter program locals (go (with_left left s))) → IsRightAfter program locals (unit_from units s go)
  unit_keeps zero s go next = tt
  unit_keeps (suc left) s go next = next left

  pub left_right : (left : ℕ) (s : State) → IsRight program locals s → IsRight program locals (with_left left s)
  left_right left s right = record { objects = right.objects; frame = right.frame; words = record { locals = right.words.locals; captured = right.words.captured; globals = right.words.globals } }

  module _ (test inner : Code) (a b : Does) (fa : Follows program n before locals test a) (fb : Follows program n before locals inner b) where
    abbrev back : ℕ
    back = length test + length inner + 2

    abbrev behind_inner : Code
    behind_inner = Jump (negsuc back) ∷ parts.truth false

    -- the test, and then `#f`, or what follows where it holds
    test_comes : (go : State → Outcome) (x : Spot) (place : ℕ) (register : List Variant) (s : State) (k : ℕ)
        → Holds (linked_program program) before x.running.body place (parts.loop test inner) → RowsFit x.running → IsRight program locals s → s.fuel.left ≤ n
        → ((values : List Variant) (t : State) (j : ℕ) → t.fuel.left ≤ s.fuel.left → IsRight program locals t
        → Comes (machine_of program) (standing (body_of program) x (place + length test + 1) values t j) (after (body_of program) x (place + length (parts.loop test inner)) (go t)))
        → Comes (machine_of program) (standing (body_of program) x place register s k)
        (after (body_of program) x (place + length (parts.loop test inner)) (and_then (a (scope_of x) s) (λ vs t. chosen (is_false (first vs)) (gave (Truth false)) go t)))
    test_comes go x place register s k holds fit right few next =
        let m = machine_of program in
        let number = body_of program in
        let linked = linked_program program in
        let body = x.running.body in
        let scope = scope_of x in
        let p1 = place + length test in
        let p2 = p1 + 1 + 1 + length inner in
        let q = place + length (parts.loop test inner) in
        let rest : Code = past_if_false (length inner + 2) ∷ Plain instr.Tick ∷ (inner ++ behind_inner) in
        let h1 = holds_back linked before body place test rest holds in
        let h2 = holds_back linked before body (p1 + 1 + 1) inner behind_inner h1.1.1 in
        let over : p1 + 1 + (length inner + 2) ≡ p2 + 1 = omega arith in
        let end : p2 + 1 + 1 ≡ q = omega (arith, length-append test rest, length-append inner behind_inner) in
        then_comes m number program locals s.fuel.left (standing number x place register s k) x x p1 q (a scope s) _ (inside_self m number x)
        (fa.runs x place register s k (holds_front linked before body place test rest holds) fit right few) (fa.falls scope s) (fa.keeps scope s right)
        (λ values t j less right1. chosen_comes program n before locals (standing number x p1 values t j) x (p1 + 1) (p1 + 1 + (length inner + 2)) q (is_false (first values)) values t j (gave (Truth false)) go
        (stepped m number x p1 before values t j (past_if_false (length inner + 2)) (Plain instr.Tick ∷ (inner ++ behind_inner)) h1)
        (subst (λ (p : ℕ). Comes m (standing number x p values t j) (after number x q (gave (Truth false) t))) (sym over)
        (ends_at m number _ x (p2 + 1 + 1) q (gave (Truth false) t) end
        ((truth_follows program n before locals false).runs x (p2 + 1) values t j h2.1 fit right1 (omega (arith, less, few)))))
        (next values t j less right1))

    looping_comes : (turns : ℕ) (x : Spot) (place : ℕ) (register : List Variant) (s : State) (k : ℕ)
        → Holds (linked_program program) before x.running.body place (parts.loop test inner) → RowsFit x.running → IsRight program locals s → s.fuel.left ≤ n → s.fuel.left ≤ turns
        → Comes (machine_of program) (standing (body_of program) x place register s k) (after (body_of program) x (place + length (parts.loop test inner)) (looping turns a b (scope_of x) s))
    looping_comes zero x place register s k holds fit right few most =
        let m = machine_of program in
        let number = body_of program in
        let rest : Code = past_if_false (length inner + 2) ∷ Plain instr.Tick ∷ (inner ++ behind_inner) in
        let q = place + length (parts.loop test inner) in
        let p2 = place + length test + 1 in
        let h1 = holds_back (linked_program program) before x.running.body place test rest holds in
        test_comes exhausted x place register s k holds fit right few (λ values t j less right1.
        subst (λ (o : Outcome). Comes m (standing number x p2 values t j) (after number x q o)) (no_unit t exhausted (omega (arith, less, most)))
        (tick_comes x p2 q values t j t.fuel.left exhausted (stepped m number x p2 before values t j (Plain instr.Tick) (inner ++ behind_inner) h1.1)
        (λ left e. absurd (omega (arith, e, less, most)))))
    looping_comes (suc turns) x place register s k holds fit right few most =
        let m = machine_of program in
        let number = body_of program in
        let linked = linked_program program in
        let body = x.running.body in
        let scope = scope_of x in
        let rest : Code = past_if_false (length inner + 2) ∷ Plain instr.Tick ∷ (inner ++ behind_inner) in
        let q = place + length (parts.loop test inner) in
        let p2 = place + length test + 1 in
        let p3 = p2 + 1 + length inner in
        let h1 = holds_back linked before body place test rest holds in
        let h2 = holds_back linked before body (p2 + 1) inner behind_inner h1.1.1 in
        let again : p3 - back ≡ place = omega arith in
        test_comes (λ t. spend_unit t (λ u. and_then (b scope u) (λ ws v. looping turns a b scope v))) x place register s k holds fit right few (λ values t j less right1.
        tick_comes x p2 q values t j t.fuel.left (λ u. and_then (b scope u) (λ ws v. looping turns a b scope v)) (stepped m number x p2 before values t j (Plain instr.Tick) (inner ++ behind_inner) h1.1)
        (λ left e. then_comes m number program locals left (standing number x (p2 + 1) values (with_left left t) j) x x p3 q (b scope (with_left left t)) (λ ws v. looping turns a b scope v) (inside_self m number x)
        (fb.runs x (p2 + 1) values (with_left left t) j (holds_front linked before body (p2 + 1) inner behind_inner h1.1.1) fit (left_right left t right1) (omega (arith, e, less, few)))
        (fb.falls scope (with_left left t)) (fb.keeps scope (with_left left t) (left_right left t right1))
        (λ ws v i fewer right2. comes_behind m (standing number x p3 ws v i) (standing number x place ws v i) _
        (stepped m number x p3 before ws v i (Jump (negsuc back)) (parts.truth false) h2 ∙ ap (λ (p : ℕ). Goes (standing number x p ws v i)) again)
        (looping_comes turns x place ws v i holds fit right2 (omega (arith, fewer, e, less, few)) (omega (arith, fewer, e, less, most))))))

    looping_keeps : (turns : ℕ) (scope : Scope) (s : State) → IsRight program locals s → IsRightAfter program locals (looping turns a b scope s)
    looping_keeps zero scope s right =
        then_keeps program locals (a scope s) _ (fa.keeps scope s right) (λ values t right1. chosen_keeps program n before locals (is_false (first values)) (gave (Truth false)) exhausted t (right1, (tt, tt)) tt)
    looping_keeps (suc turns) scope s right =
        then_keeps program locals (a scope s) _ (fa.keeps scope s right) (λ values t right1. chosen_keeps program n before locals (is_false (first values)) (gave (Truth false)) (λ p. spend_unit p (λ u. and_then (b scope u) (λ ws v. looping turns a b scope v))) t (right1, (tt, tt))
        (unit_keeps t.fuel.left t (λ u. and_then (b scope u) (λ ws v. looping turns a b scope v)) (λ left. then_keeps program locals (b scope (with_left left t)) _ (fb.keeps scope (with_left left t) (left_right left t right1)) (λ ws v right2. looping_keeps turns scope v right2))))

    pub loop_follows : Follows program n before locals (parts.loop test inner) (loop a b)
    loop_follows = record {
      falls = loop_falls a b fa.falls fb.falls;
      keeps = λ scope s right. looping_keeps s.fuel.left scope s right;
      runs = λ x place register s k holds fit right few. looping_comes s.fuel.left x place register s k holds fit right few (omega arith);
    }
