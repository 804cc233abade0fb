-- `select`: its values are compared one by one, with what lies among the operands.
use Rattle.std.proofs.Common.{◌≡◌, ℕ, ◌+◌, ◌≤◌, Bool, true, false, List, [], ◌∷◌, ◌++◌, length, sym, ap, ◌∙◌, subst, arith, length-append}
use Rattle.dy_term.specs.declared.rows.Program.{Program}
use Rattle.dy_values.specs.declared.value.Variant.{Variant}
use Rattle.dy_values.specs.Spending.{first, is_false}
use Rattle.dy_outcome.specs.declared.state.State.{State}
use Rattle.dy_outcome.specs.States.{Outcome, Does, Scope, and_then}
use Rattle.dy_outcome.specs.Nearness.{NeverRises}
use Rattle.dy_outcome.specs.Choices.{chosen, matching}
use Rattle.dy_outcome.specs.Choices as choices
use Rattle.dy_code.specs.Fetching as instr
use Rattle.dy_steps.specs.Configurations.{Config, Goes}
use Rattle.dy_steps.specs.Steps.{act, step, jump_false}
use Rattle.dy_lowered.specs.Flat.{Plain, Code, one, past, past_if_false}
use Rattle.dy_lowered.specs.Parts as parts
use Rattle.dy_lowered.specs.Parts.{Comparing, compared, meeting}
use Rattle.dy_lowering_law.specs.Force.{RowsFit}
use Rattle.dy_lowering_law.specs.Following.{Spot, scope_of, standing, after, Comes, numbered, Holds, IsWord, IsRight, IsRightAfter, Follows}
use Rattle.dy_lowering_law.specs.Kinds.{AllDo, GoesOn}
use Rattle.dy_lowering_law.specs.Machines.{linked_program, machine_of}
use Rattle.dy_lowering_law.specs.Renumbering.{body_of}
use Rattle.dy_lowering_law.proofs.Leading.{comes_on, comes_behind, stepped, then_comes, then_words, ends_at, Inside, holds_front, holds_back}
use Rattle.dy_lowering_law.proofs.Arguments.{inside_both, goes_behind}
use Rattle.dy_lowering_law.proofs.Cases.{then_keeps, then_keeps_words, first_word, chosen_keeps, to_end}
use Rattle.dy_lowering_law.proofs.Exiting.{pushed}
use Rattle.dy_lowering_law.specs.parts.Selects.{ArmsDo}
use Rattle.dy_lowering_law.proofs.parts.Binding.{with_all}

-- a spot with more on the operands, the last one first
abbrev pub under : List Variant → Spot → Spot
under lying x = with_all (lying ++ x.running.operands) x

-- How values are compared with what lies among the operands: it is laid there once more; a call
-- takes it with the value, and tells whether that is met; and at last it is taken away.
pub record Compares (program : Program) (n before locals : ℕ) (by : Comparing) (lying kept : List Variant) (met : Variant → Does) : Type 0 where
  pub again : (x : Spot) (place : ℕ) (register : List Variant) (s : State) (k : ℕ) → Holds (linked_program program) before x.running.body place by.again
      → Comes (machine_of program) (standing (body_of program) (under lying x) place register s k) (λ j. Goes (standing (body_of program) (under lying (under lying x)) (place + length by.again) kept s j))
  pub calls : (value : Variant) → IsWord value → (x : Spot) (place : ℕ) (register : List Variant) (s : State) (k : ℕ) → RowsFit x.running → IsRight program locals s → s.fuel.left ≤ n
      → GoesOn (machine_of program) (act (machine_of program) (numbered before by.call) (standing (body_of program) (pushed value (under lying x)) place register s k)) (after (body_of program) x place (met value (scope_of x) s))
  pub falls : (value : Variant) → NeverRises (met value)
  pub keeps : (value : Variant) → IsWord value → (scope : Scope) (s : State) → IsRight program locals s → IsRightAfter program locals (met value scope s)
  pub away : (x : Spot) (place : ℕ) (register : List Variant) (s : State) (k : ℕ)
      → act (machine_of program) (numbered before by.away) (standing (body_of program) (under lying x) place register s k) ≡ Goes (standing (body_of program) x place kept s k)
  pub fits : (x : Spot) → RowsFit x.running → RowsFit (under lying x).running
  pub inside : (x : Spot) → RowsFit x.running → Inside (machine_of program) (body_of program) (under lying x) x

module _ (program : Program) (n before locals : ℕ) where
  -- a jump where a value is `#f`, to one of two places
  forked : (c : Config) (x y : Spot) (p far q : ℕ) (b : Bool) (values : List Variant) (s : State) (k : ℕ) (one other : State → Outcome)
      → step (machine_of program) c ≡ jump_false b far (standing (body_of program) y p values s k)
      → Comes (machine_of program) (standing (body_of program) y far values s k) (after (body_of program) x q (one s))
      → Comes (machine_of program) (standing (body_of program) y p values s k) (after (body_of program) x q (other s))
      → Comes (machine_of program) c (after (body_of program) x q (chosen b one other s))
  forked c x y p far q true values s k one other e first second = comes_behind (machine_of program) c (standing (body_of program) y far values s k) _ e first
  forked c x y p far q false values s k one other e first second = comes_behind (machine_of program) c (standing (body_of program) y p values s k) _ e second

  module _ (by : Comparing) (lying kept : List Variant) (met : Variant → Does) (is : Compares program n before locals by lying kept met) (x : Spot) (fit : RowsFit x.running) (q : ℕ) where
    -- what is known where values come to a place
    abbrev Next : ℕ → (List Variant → State → Outcome) → Type 0
    Next place go = (values : List Variant) (t : State) (j : ℕ) → t.fuel.left ≤ n → IsRight program locals t
        → Comes (machine_of program) (standing (body_of program) (under lying x) place values t j) (after (body_of program) x q (go values t))

    next_at : (p r : ℕ) (go : List Variant → State → Outcome) → p ≡ r → Next p go → Next r go
    next_at p r go e next = subst (λ (place : ℕ). Next place go) e next

    -- one value is compared
    compared_comes : (code : Code) (does : Does) → Follows program n before locals code does → (place : ℕ) (register : List Variant) (s : State) (k : ℕ) (go : List Variant → State → Outcome)
        → Holds (linked_program program) before x.running.body place (compared by code) → IsRight program locals s → s.fuel.left ≤ n
        → Next (place + length (compared by code)) go
        → Comes (machine_of program) (standing (body_of program) (under lying x) place register s k) (after (body_of program) x q (and_then (does (scope_of x) s) (λ vs t. and_then (met (first vs) (scope_of x) t) go)))
    compared_comes code does follows place register s k go holds right few next =
        let m = machine_of program in
        let number = body_of program in
        let linked = linked_program program in
        let body = x.running.body in
        let scope = scope_of x in
        let y = under lying x in
        let z = under lying y in
        let last : Code = Plain instr.Push ∷ one by.call in
        let p1 = place + length by.again in
        let p2 = p1 + length code in
        let h1 = holds_back linked before body place by.again (code ++ last) holds in
        let h2 = holds_back linked before body p1 code last h1 in
        let fit_y = is.fits x fit in
        let fit_z = is.fits y fit_y in
        let end : p2 + 1 + 1 ≡ place + length (compared by code) = omega (arith, length-append by.again (code ++ last), length-append code last) in
        let less = follows.falls scope s in
        comes_on m (standing number y place register s k) (λ j. standing number z p1 kept s j) _
        (is.again x place register s k (holds_front linked before body place by.again (code ++ last) holds))
        (λ j. then_words m number program locals n (standing number z p1 kept s j) z x p2 q (does scope s) (λ vs t. and_then (met (first vs) scope t) go)
        (inside_both program z y x (is.inside y fit_y) (is.inside x fit))
        (follows.runs z p1 kept s j (holds_front linked before body p1 code last h1) fit_z right few) (omega (arith, less, few)) (follows.keeps scope s right)
        (λ vs t i few1 right1 words.
        let value = first vs in
        let word = first_word vs words in
        let lower = is.falls value scope t in
        comes_behind m (standing number z p2 vs t i) (standing number (pushed value z) (p2 + 1) vs t i) _
        (stepped m number z p2 before vs t i (Plain instr.Push) (one by.call) h2)
        (then_comes m number program locals n (standing number (pushed value z) (p2 + 1) vs t i) y x (p2 + 1 + 1) q (met value scope t) go (is.inside x fit)
        (goes_behind program (standing number (pushed value z) (p2 + 1) vs t i) _ _ (stepped m number (pushed value z) (p2 + 1) before vs t i (Plain by.call) [] h2.1)
        (is.calls value word y (p2 + 1 + 1) vs t i fit_y right1 few1))
        (omega (arith, lower, few1)) (is.keeps value word scope t right1)
        (next_at (place + length (compared by code)) (p2 + 1 + 1) go (sym end) next))))

    -- the values of an arm
    meeting_comes : (codes : List Code) (all : List Does) → AllDo program n before locals codes all → (far place : ℕ) (register : List Variant) (s : State) (k : ℕ) (found missed : Does)
        → Holds (linked_program program) before x.running.body place (meeting by codes far) → IsRight program locals s → s.fuel.left ≤ n
        → Next (place + length (meeting by codes far)) (λ values t. found (scope_of x) t)
        → Next (place + length (meeting by codes far) + far) (λ values t. missed (scope_of x) t)
        → Comes (machine_of program) (standing (body_of program) (under lying x) place register s k) (after (body_of program) x q (matching met all found missed (scope_of x) s))
    meeting_comes [] [] follow far place register s k found missed holds right few one other =
        let m = machine_of program in
        let number = body_of program in
        let end : place + 1 + far ≡ place + length (meeting by [] far) + far = omega arith in
        comes_behind m (standing number (under lying x) place register s k) (standing number (under lying x) (place + 1 + far) register s k) _
        (stepped m number (under lying x) place before register s k (past far) [] holds)
        (next_at (place + length (meeting by [] far) + far) (place + 1 + far) (λ values t. missed (scope_of x) t) (sym end) other register s k few right)
    meeting_comes [] (does ∷ others) follow far place register s k found missed holds right few one other = absurd follow
    meeting_comes (code ∷ codes) [] follow far place register s k found missed holds right few one other = absurd follow
    meeting_comes (code ∷ codes) (does ∷ others) follow far place register s k found missed holds right few one other =
        let m = machine_of program in
        let number = body_of program in
        let linked = linked_program program in
        let body = x.running.body in
        let scope = scope_of x in
        let y = under lying x in
        let rest = meeting by codes far in
        let jumps : Code = past_if_false 1 ∷ past (length rest) ∷ rest in
        let p = place + length (compared by code) in
        let h = holds_back linked before body place (compared by code) jumps holds in
        let end : p + 1 + 1 + length rest ≡ place + length (compared by code ++ jumps) = omega (arith, length-append (compared by code) jumps) in
        let further : p + 1 + 1 + length rest + far ≡ place + length (compared by code ++ jumps) + far = omega (arith, end) in
        compared_comes code does follow.0 place register s k (λ ws u. chosen (is_false (first ws)) (matching met others found missed scope) (found scope) u)
        (holds_front linked before body place (compared by code) jumps holds) right few
        (λ ws u j few1 right1. forked (standing number y p ws u j) x y (p + 1) (p + 1 + 1) q (is_false (first ws)) ws u j (matching met others found missed scope) (found scope)
        (stepped m number y p before ws u j (past_if_false 1) (past (length rest) ∷ rest) h)
        (meeting_comes codes others follow.1 far (p + 1 + 1) ws u j found missed h.1.1 right1 few1
        (next_at (place + length (compared by code ++ jumps)) (p + 1 + 1 + length rest) (λ values t. found scope t) (sym end) one)
        (next_at (place + length (compared by code ++ jumps) + far) (p + 1 + 1 + length rest + far) (λ values t. missed scope t) (sym further) other))
        (comes_behind m (standing number y (p + 1) ws u j) (standing number y (p + 1 + 1 + length rest) ws u j) _
        (stepped m number y (p + 1) before ws u j (past (length rest)) rest h.1)
        (next_at (place + length (compared by code ++ jumps)) (p + 1 + 1 + length rest) (λ values t. found scope t) (sym end) one ws u j few1 right1)))

    -- the arms, and what follows where none is met
    pub selecting_comes : (codes : List (List Code × Code)) (all : List (List Does × Does)) → ArmsDo program n before locals codes all → (missed : Code) (last : Does) → Follows program n before locals missed last
        → (place : ℕ) (register : List Variant) (s : State) (k : ℕ) → Holds (linked_program program) before x.running.body place (parts.selecting by codes missed) → place + length (parts.selecting by codes missed) ≡ q
        → IsRight program locals s → s.fuel.left ≤ n
        → Comes (machine_of program) (standing (body_of program) (under lying x) place register s k) (after (body_of program) x q (choices.selecting met all last (scope_of x) s))
    selecting_comes [] [] follow missed last follows place register s k holds end right few =
        let m = machine_of program in
        let number = body_of program in
        let far : place + 1 + length missed ≡ q = omega (arith, end) in
        comes_behind m (standing number (under lying x) place register s k) (standing number x (place + 1) kept s k) _
        (stepped m number (under lying x) place before register s k (Plain by.away) missed holds ∙ is.away x (place + 1) register s k)
        (ends_at m number (standing number x (place + 1) kept s k) x (place + 1 + length missed) q (last (scope_of x) s) far
        (follows.runs x (place + 1) kept s k holds.1 fit right few))
    selecting_comes [] (does ∷ others) follow missed last follows place register s k holds end right few = absurd follow
    selecting_comes (code ∷ codes) [] follow missed last follows place register s k holds end right few = absurd follow
    selecting_comes (code ∷ codes) (does ∷ others) follow missed last follows place register s k holds end right few =
        let m = machine_of program in
        let number = body_of program in
        let linked = linked_program program in
        let body = x.running.body in
        let scope = scope_of x in
        let y = under lying x in
        let rest = parts.selecting by codes missed in
        let jump : Code = past (length rest) ∷ [] in
        let takes : Code = Plain by.away ∷ (code.1 ++ jump) in
        let tests = meeting by code.0 (length takes) in
        let f = place + length tests in
        let p = f + 1 + length code.1 in
        let h1 = holds_back linked before body place tests (takes ++ rest) holds in
        let h2 = holds_front linked before body f takes rest h1 in
        let h3 = holds_back linked before body f takes rest h1 in
        let h4 = holds_back linked before body (f + 1) code.1 jump h2.1 in
        let l1 = length-append tests (takes ++ rest) in
        let l2 = length-append takes rest in
        let l3 = length-append code.1 jump in
        let far : p + 1 + length rest ≡ q = omega (arith, end, l1, l2, l3) in
        let behind : f + length takes + length rest ≡ q = omega (arith, end, l1, l2) in
        meeting_comes code.0 does.0 follow.0 (length takes) place register s k does.1 (choices.selecting met others last)
        (holds_front linked before body place tests (takes ++ rest) holds) right few
        (λ ws u j few1 right1. comes_behind m (standing number y f ws u j) (standing number x (f + 1) kept u j) _
        (stepped m number y f before ws u j (Plain by.away) (code.1 ++ jump) h2 ∙ is.away x (f + 1) ws u j)
        (to_end program n before locals (standing number x (f + 1) kept u j) x p q (does.1 scope u)
        (λ vs v i. stepped m number x p before vs v i (past (length rest)) [] h4 ∙ ap (λ (r : ℕ). Goes (standing number x r vs v i)) far)
        (follow.1.runs x (f + 1) kept u j (holds_front linked before body (f + 1) code.1 jump h2.1) fit right1 few1)))
        (λ ws u j few1 right1. selecting_comes codes others follow.2 missed last follows (f + length takes) ws u j h3 behind right1 few1)

  -- states stay right
  module _ (met : Variant → Does) (keeps : (value : Variant) → IsWord value → (scope : Scope) (s : State) → IsRight program locals s → IsRightAfter program locals (met value scope s)) where
    matching_keeps : (codes : List Code) (all : List Does) → AllDo program n before locals codes all → (found missed : Does) (scope : Scope)
        → ((t : State) → IsRight program locals t → IsRightAfter program locals (found scope t)) → ((t : State) → IsRight program locals t → IsRightAfter program locals (missed scope t))
        → (s : State) → IsRight program locals s → IsRightAfter program locals (matching met all found missed scope s)
    matching_keeps [] [] follow found missed scope one other s right = other s right
    matching_keeps [] (does ∷ others) follow found missed scope one other s right = absurd follow
    matching_keeps (code ∷ codes) [] follow found missed scope one other s right = absurd follow
    matching_keeps (code ∷ codes) (does ∷ others) follow found missed scope one other s right =
        then_keeps_words program locals (does scope s) _ (follow.0.keeps scope s right) (λ vs t right1 words.
        then_keeps program locals (met (first vs) scope t) _ (keeps (first vs) (first_word vs words) scope t right1) (λ ws u right2.
        chosen_keeps program n before locals (is_false (first ws)) (matching met others found missed scope) (found scope) u
        (matching_keeps codes others follow.1 found missed scope one other u right2) (one u right2)))

    pub selecting_keeps : (codes : List (List Code × Code)) (all : List (List Does × Does)) → ArmsDo program n before locals codes all → (last : Does) (scope : Scope)
        → ((t : State) → IsRight program locals t → IsRightAfter program locals (last scope t))
        → (s : State) → IsRight program locals s → IsRightAfter program locals (choices.selecting met all last scope s)
    selecting_keeps [] [] follow last scope other s right = other s right
    selecting_keeps [] (does ∷ others) follow last scope other s right = absurd follow
    selecting_keeps (code ∷ codes) [] follow last scope other s right = absurd follow
    selecting_keeps (code ∷ codes) (does ∷ others) follow last scope other s right =
        matching_keeps code.0 does.0 follow.0 does.1 (choices.selecting met others last) scope (λ t right1. follow.1.keeps scope t right1)
        (λ t right1. selecting_keeps codes others follow.2 last scope other t right1) s right
