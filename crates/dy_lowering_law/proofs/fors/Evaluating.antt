-- What the clauses of a loop evaluate before the first turn.
use Rattle.std.proofs.Common.{◌≡◌, ℕ, ◌+◌, ◌≤◌, true, false, ℤ, pos, List, [], ◌∷◌, ◌++◌, append_assoc, length, refl, ap, ◌∙◌, subst, arith, length-append}
use Rattle.std.specs.Prelude.{flat_map}
use Rattle.std.specs.declared.option.Option.{Option}
use Rattle.std.specs.declared.option.Option.TheVariants.{None, Some}
use Rattle.dy_term.specs.declared.term.Limit.{Limit}
use Rattle.dy_term.specs.declared.rows.Program.{Program}
use Rattle.dy_values.specs.declared.value.Variant.{Variant}
use Rattle.dy_values.specs.declared.value.Variant.TheVariants.{Int, Bool as Truth}
use Rattle.dy_values.specs.Spending.{first}
use Rattle.dy_outcome.specs.declared.state.State.{State}
use Rattle.dy_outcome.specs.States.{Outcome, Does}
use Rattle.dy_outcome.specs.Calls.{calls_within}
use Rattle.dy_outcome.specs.Turns as means
use Rattle.dy_outcome.specs.Turns.{Going, Taking, Counting, number_of, limit_of, step_of, begun, fits}
use Rattle.dy_meaning.specs.Meaning.{no_number}
use Rattle.dy_meaning.specs.Programs.{world}
use Rattle.dy_code.specs.Fetching as instr
use Rattle.dy_lowered.specs.Flat.{Plain, Code, one}
use Rattle.dy_lowered.specs.Turns.{Amount, Known, Given, Clause, Takes, Counts, amount, bound, integer, starting}
use Rattle.dy_lowering_law.specs.Force.{RowsFit}
use Rattle.dy_lowering_law.specs.Following.{Spot, scope_of, standing, after, Comes, IsRight}
use Rattle.dy_lowering_law.specs.Machines.{linked_program, machine_of}
use Rattle.dy_lowering_law.specs.Renumbering.{body_of}
use Rattle.dy_lowering_law.proofs.Arguments.{inside_both}
use Rattle.dy_lowering_law.proofs.Cases.{first_word}
use Rattle.dy_lowering_law.proofs.Leading.{comes_on, then_words, Inside, holds_front, holds_back}
use Rattle.dy_lowering_law.proofs.Literals.{truth_follows}
use Rattle.dy_lowering_law.proofs.parts.Selecting.{under}
use Rattle.dy_lowering_law.specs.fors.Loops.{AmountDoes, LimitDoes, StepDoes, ClausesDo}
use Rattle.dy_lowering_law.proofs.fors.Clauses.{bound_value, lies_of, lies, IsBound, IsStep, Keeps, AllKeep, Stands}
use Rattle.dy_lowering_law.proofs.fors.Computing.{under_append, goes_at, push_goes, number_computes}
use Rattle.dy_lowering_law.proofs.fors.Leaving.{under_fits, under_inside}
use Rattle.dy_lowering_law.proofs.fors.Starting.{integer_comes}
use Rattle.dy_lowering_law.proofs.fors.Whole.{known_is}

module _ (program : Program) (n before locals bound_of : ℕ) (out : Spot) (q : ℕ) where
  abbrev wrong : Variant → Does
  wrong = no_number (calls_within (world program) bound_of)

  abbrev Comes_to : Spot → ℕ → List Variant → State → ℕ → Outcome → Type 0
  Comes_to x p register s k o = Comes (machine_of program) (standing (body_of program) x p register s k) (after (body_of program) out q o)

  abbrev Within : Spot → Type 0
  Within x = Inside (machine_of program) (body_of program) x out

  -- a number that is known or evaluated
  amount_comes : (code : Amount) (does : Does) → AmountDoes program n before locals code does → (x : Spot) → Within x → (p : ℕ) (register : List Variant) (s : State) (k : ℕ) (go : ℤ → State → Outcome)
      → RowsFit x.running → IsRight program locals s → s.fuel.left ≤ n → Stands program n before locals x p (amount code)
      → ((number : ℤ) → fits number ≡ true → IsStep code number → (values : List Variant) (t : State) (j : ℕ) → t.fuel.left ≤ n → IsRight program locals t → first values ≡ Int number → Comes_to x (p + length (amount code)) values t j (go number t))
      → Comes_to x p register s k (number_of wrong does (scope_of x) s go)
  amount_comes (Known value) does is x inside p register s k go fit right few holds next =
      subst (λ (o : Outcome). Comes_to x p register s k o) (known_is program n before locals bound_of value does is.1 (scope_of x) s go)
      (number_computes program n before locals [] value x p register s k (after (body_of program) out q (go value s)) fit right few holds (λ values j e. next value is.0 refl values s j few right e))
  amount_comes (Given code) does is x inside p register s k go fit right few holds next =
      integer_comes program n before locals bound_of code does is x out inside p q register s k go fit right few holds
      (λ number t j few1 right1 word. next number word tt (Int number ∷ []) t j few1 right1 refl)

  -- the bound
  bound_comes : (code : Option (Limit × Amount)) (does : Option (Limit × Does)) → LimitDoes program n before locals code does → (x : Spot) → Within x → (p : ℕ) (register : List Variant) (s : State) (k : ℕ) (go : Option (Limit × ℤ) → State → Outcome)
      → RowsFit x.running → IsRight program locals s → s.fuel.left ≤ n → Stands program n before locals x p (bound code)
      → ((value : Option (Limit × ℤ)) → IsBound code value → (values : List Variant) (t : State) (j : ℕ) → t.fuel.left ≤ n → IsRight program locals t → first values ≡ bound_value value → Comes_to x (p + length (bound code)) values t j (go value t))
      → Comes_to x p register s k (limit_of wrong does (scope_of x) s go)
  bound_comes None None is x inside p register s k go fit right few holds next =
      comes_on (machine_of program) (standing (body_of program) x p register s k) (λ j. standing (body_of program) x (p + 1) (Truth false ∷ []) s j) (after (body_of program) out q (go None s))
      ((truth_follows program n before locals false).runs x p register s k holds fit right few) (λ j. next None tt (Truth false ∷ []) s j few right refl)
  bound_comes (Some code) (Some does) is x inside p register s k go fit right few holds next =
      amount_comes code.1 does.1 is.1 x inside p register s k (λ number t. go (Some (does.0, number)) t) fit right few holds
      (λ number word step values t j few1 right1 e. next (Some (does.0, number)) is.0 values t j few1 right1 e)
  bound_comes None (Some does) is x inside p register s k go fit right few holds next = absurd is
  bound_comes (Some code) None is x inside p register s k go fit right few holds next = absurd is

  -- the step, which is 1 where none is written
  step_comes : (code : Amount) (does : Option Does) → StepDoes program n before locals code does → (x : Spot) → Within x → (p : ℕ) (register : List Variant) (s : State) (k : ℕ) (go : ℤ → State → Outcome)
      → RowsFit x.running → IsRight program locals s → s.fuel.left ≤ n → Stands program n before locals x p (amount code)
      → ((number : ℤ) → fits number ≡ true → IsStep code number → (values : List Variant) (t : State) (j : ℕ) → t.fuel.left ≤ n → IsRight program locals t → first values ≡ Int number → Comes_to x (p + length (amount code)) values t j (go number t))
      → Comes_to x p register s k (step_of wrong does (scope_of x) s go)
  step_comes (Known value) None is x inside p register s k go fit right few holds next =
      number_computes program n before locals [] value x p register s k (after (body_of program) out q (go (pos 1) s)) fit right few holds
      (λ values j e. next (pos 1) refl is values s j few right (e ∙ ap Int is))
  step_comes (Given code) None is x inside p register s k go fit right few holds next = absurd is
  step_comes (Known value) (Some does) is x inside p register s k go fit right few holds next = amount_comes (Known value) does is x inside p register s k go fit right few holds next
  step_comes (Given code) (Some does) is x inside p register s k go fit right few holds next = amount_comes (Given code) does is x inside p register s k go fit right few holds next

  -- all clauses
  abbrev pub Begins : List Clause → List means.Clause → Type 0
  Begins clauses others = (x : Spot) → Within x → (p : ℕ) (register : List Variant) (s : State) (k : ℕ) (go : List Going → State → Outcome)
      → RowsFit x.running → IsRight program locals s → s.fuel.left ≤ n → Stands program n before locals x p (flat_map starting clauses)
      → ((all : List Going) → AllKeep program n before locals clauses all → (values : List Variant) (t : State) (j : ℕ) → t.fuel.left ≤ n → IsRight program locals t → Comes_to (under (lies all) x) (p + length (flat_map starting clauses)) values t j (go all t))
      → Comes_to x p register s k (begun wrong others (scope_of x) s go)

  -- those behind a clause that has begun
  rest_comes : (clause : Clause) (clauses : List Clause) (others : List means.Clause) → Begins clauses others → (going : Going) → Keeps program n before locals clause going → (x : Spot) → Within x → (r end : ℕ) → r + length (flat_map starting clauses) ≡ end → (register : List Variant) (s : State) (k : ℕ) (go : List Going → State → Outcome)
      → RowsFit x.running → IsRight program locals s → s.fuel.left ≤ n → Stands program n before locals x r (flat_map starting clauses)
      → ((all : List Going) → AllKeep program n before locals (clause ∷ clauses) all → (values : List Variant) (t : State) (j : ℕ) → t.fuel.left ≤ n → IsRight program locals t → Comes_to (under (lies all) x) end values t j (go all t))
      → Comes_to (under (lies_of going) x) r register s k (begun wrong others (scope_of x) s (λ all t. go (going ∷ all) t))
  rest_comes clause clauses others begins going keeps x inside r end e register s k go fit right few holds next =
      begins (under (lies_of going) x) (inside_both program (under (lies_of going) x) x out (under_inside program (lies_of going) x fit) inside) r register s k (λ all t. go (going ∷ all) t) (under_fits (lies_of going) x fit) right few holds
      (λ all keep values t j few1 right1.
      goes_at program n before locals (under (lies all) (under (lies_of going) x)) (r + length (flat_map starting clauses)) end values t j (after (body_of program) out q (go (going ∷ all) t)) e
      (subst (λ (y : Spot). Comes_to y end values t j (go (going ∷ all) t)) (under_append (lies all) (lies_of going) x) (next (going ∷ all) (keeps, keep) values t j few1 right1)))

  pub all_begin : (clauses : List Clause) (others : List means.Clause) → ClausesDo program n before locals clauses others → Begins clauses others
  all_begin [] [] does x inside p register s k go fit right few holds next =
      let e : p ≡ p + 0 = omega arith in
      goes_at program n before locals x p (p + 0) register s k (after (body_of program) out q (go [] s)) e (next [] tt register s k few right)
  all_begin (Takes place start code ∷ clauses) (means.Takes other a b ∷ others) does x inside p register s k go fit right few holds next =
      let m = machine_of program in
      let num = body_of program in
      let linked = linked_program program in
      let body = x.running.body in
      let scope = scope_of x in
      let follows = does.0.2 in
      let more = flat_map starting clauses in
      let last : Code = Plain instr.Push ∷ more in
      let p1 = p + length start in
      let h0 : Stands program n before locals x p (start ++ last) = subst (λ (c : Code). Stands program n before locals x p c) (append_assoc start (one instr.Push) more) holds in
      let h1 = holds_back linked before body p start last h0 in
      let end : p1 + 1 + length more ≡ p + length ((start ++ one instr.Push) ++ more) = omega (arith, length-append (start ++ one instr.Push) more, length-append start (one instr.Push)) in
      let less = follows.falls scope s in
      then_words m num program locals n (standing num x p register s k) x out p1 q (a scope s) (λ vs t. begun wrong others scope t (λ all u. go (Taking other (first vs) b ∷ all) u)) inside
      (follows.runs x p register s k (holds_front linked before body p start last h0) fit right few) (omega (arith, less, few)) (follows.keeps scope s right)
      (λ vs t j few1 right1 words.
      push_goes program n before locals x (first vs) p1 more vs t j (after num out q (begun wrong others scope t (λ all u. go (Taking other (first vs) b ∷ all) u))) refl h1
      (rest_comes (Takes place start code) clauses others (all_begin clauses others does.1) (Taking other (first vs) b) (does.0.0, does.0.1, does.0.3, first_word vs words) x inside (p1 + 1) (p + length ((start ++ one instr.Push) ++ more)) end vs t j go fit right1 few1 h1.1 next))
  all_begin (Counts place start limit step ∷ clauses) (means.Counts other a l st ∷ others) does x inside p register s k go fit right few holds next =
      let m = machine_of program in
      let num = body_of program in
      let linked = linked_program program in
      let body = x.running.body in
      let scope = scope_of x in
      let more = flat_map starting clauses in
      let code3 : Code = amount step ++ one instr.Push in
      let code2 : Code = Plain instr.Push ∷ code3 in
      let code1 : Code = bound limit ++ code2 in
      let code0 : Code = Plain instr.Push ∷ code1 in
      let last3 : Code = Plain instr.Push ∷ more in
      let rest3 : Code = amount step ++ last3 in
      let rest2 : Code = bound limit ++ (Plain instr.Push ∷ rest3) in
      let cut3 : code3 ++ more ≡ rest3 = append_assoc (amount step) (one instr.Push) more in
      let cut1 : code1 ++ more ≡ rest2 = append_assoc (bound limit) code2 more ∙ ap (λ (c : Code). bound limit ++ (Plain instr.Push ∷ c)) cut3 in
      let cut0 : (integer start ++ code0) ++ more ≡ integer start ++ (Plain instr.Push ∷ rest2) = append_assoc (integer start) code0 more ∙ ap (λ (c : Code). integer start ++ (Plain instr.Push ∷ c)) cut1 in
      let h0 : Stands program n before locals x p (integer start ++ (Plain instr.Push ∷ rest2)) = subst (λ (c : Code). Stands program n before locals x p c) cut0 holds in
      let p1 = p + length (integer start) in
      let p2 = p1 + 1 + length (bound limit) in
      let p3 = p2 + 1 + length (amount step) in
      let h1 = holds_back linked before body p (integer start) (Plain instr.Push ∷ rest2) h0 in
      let h2 = holds_back linked before body (p1 + 1) (bound limit) (Plain instr.Push ∷ rest3) h1.1 in
      let h3 = holds_back linked before body (p2 + 1) (amount step) last3 h2.1 in
      let whole = p + length ((integer start ++ code0) ++ more) in
      let end : p3 + 1 + length more ≡ whole = omega (arith, length-append (integer start ++ code0) more, length-append (integer start) code0, length-append (bound limit) code2, length-append (amount step) (one instr.Push)) in
      integer_comes program n before locals bound_of start a does.0.2 x out inside p q register s k _ fit right few (holds_front linked before body p (integer start) (Plain instr.Push ∷ rest2) h0)
      (λ number t j few1 right1 word.
      let one_lies = under (Int number ∷ []) x in
      let fit1 = under_fits (Int number ∷ []) x fit in
      let inside1 = inside_both program one_lies x out (under_inside program (Int number ∷ []) x fit) inside in
      push_goes program n before locals x (Int number) p1 rest2 (Int number ∷ []) t j _ refl h1
      (bound_comes limit l does.0.3 one_lies inside1 (p1 + 1) (Int number ∷ []) t j _ fit1 right1 few1 (holds_front linked before body (p1 + 1) (bound limit) (Plain instr.Push ∷ rest3) h1.1)
      (λ value bounds vs u i few2 right2 e.
      let two_lie = under (bound_value value ∷ Int number ∷ []) x in
      let fit2 = under_fits (bound_value value ∷ Int number ∷ []) x fit in
      let inside2 = inside_both program two_lie x out (under_inside program (bound_value value ∷ Int number ∷ []) x fit) inside in
      push_goes program n before locals one_lies (bound_value value) p2 rest3 vs u i _ e h2
      (step_comes step st does.0.4 two_lie inside2 (p2 + 1) vs u i _ fit2 right2 few2 (holds_front linked before body (p2 + 1) (amount step) last3 h2.1)
      (λ by by_word steps ws w g few3 right3 f.
      push_goes program n before locals two_lie (Int by) p3 more ws w g (after num out q (begun wrong others scope w (λ all v. go (Counting other number value by ∷ all) v))) f h3
      (rest_comes (Counts place start limit step) clauses others (all_begin clauses others does.1) (Counting other number value by) (does.0.0, does.0.1, word, by_word, bounds, steps) x inside (p3 + 1) whole end ws w g go fit right3 few3 h3.1 next))))))
  all_begin [] (other ∷ others) does x inside p register s k go fit right few holds next = absurd does
  all_begin (clause ∷ clauses) [] does x inside p register s k go fit right few holds next = absurd does
  all_begin (Takes place start code ∷ clauses) (means.Counts other a l st ∷ others) does x inside p register s k go fit right few holds next = absurd does.0
  all_begin (Counts place start limit step ∷ clauses) (means.Takes other a b ∷ others) does x inside p register s k go fit right few holds next = absurd does.0
