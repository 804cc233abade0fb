-- What is evaluated before the first turn.
use Rattle.std.proofs.Common.{◌≡◌, ℕ, zero, suc, ◌+◌, ◌≤◌, true, ℤ, pos, List, [], ◌∷◌, ◌++◌, length, refl, sym, ap, ◌∙◌, subst, arith, length-append}
use Rattle.std.specs.Prelude.{int_lt}
use Rattle.dy_term.specs.declared.literal.Literal.{Literal, Literal-F, roll-Literal, out-roll-Literal}
use Rattle.dy_term.specs.declared.rows.Program.{Program}
use Rattle.dy_types.specs.Classes.{integer as integer_class}
use Rattle.dy_values.specs.declared.value.Variant.{Variant}
use Rattle.dy_values.specs.declared.value.Variant.TheVariants.{Int, Char, Bool as Truth, Symbol, Nil, Class, TypeValue, Generic, Function, Builtin, Object}
use Rattle.dy_values.specs.declared.error.ErrorRow.{ErrorRow}
use Rattle.dy_values.specs.Errors.{wrong_class}
use Rattle.dy_values.specs.Spending.{first, made_kind}
use Rattle.dy_outcome.specs.declared.state.State.{State}
use Rattle.dy_outcome.specs.States.{Outcome, Ended, Does, Scope, gave, unit_from}
use Rattle.dy_outcome.specs.Calls.{calls_within}
use Rattle.dy_outcome.specs.Turns.{number_in, number_of, fits}
use Rattle.dy_meaning.specs.Meaning.{literal, with_made, no_number}
use Rattle.dy_meaning.specs.Operations.{answer, operated}
use Rattle.dy_meaning.specs.Programs.{world}
use Rattle.dy_prims.specs.Operations as prims
use Rattle.dy_code.specs.Fetching as instr
use Rattle.dy_steps.specs.Steps.{act}
use Rattle.dy_lowered.specs.Flat.{Plain, Code, one}
use Rattle.dy_lowering_law.specs.Force.{RowsFit}
use Rattle.dy_lowering_law.specs.Following.{Spot, scope_of, standing, after, Comes, Holds, IsWord, IsRight, Follows}
use Rattle.dy_lowering_law.specs.Kinds.{GoesOn}
use Rattle.dy_lowering_law.specs.Machines.{linked_program, machine_of}
use Rattle.dy_lowering_law.specs.Renumbering.{body_of}
use Rattle.dy_lowering_law.proofs.Leading.{comes_on, comes_behind, stepped, then_words, Inside, holds_front, holds_back}
use Rattle.dy_lowering_law.proofs.Arguments.{goes_behind}
use Rattle.dy_lowering_law.proofs.Cases.{first_word}
use Rattle.dy_lowering_law.proofs.parts.Answering.{all_taken}
use Rattle.dy_lowering_law.proofs.parts.Selecting.{under}
use Rattle.dy_lowered.specs.Turns.{number, comparison, integer, with_number}
use Rattle.dy_lowering_law.proofs.fors.Doing.{number_comes, less_goes, top_goes}
use Rattle.dy_lowering_law.proofs.fors.Leaving.{under_fits}

-- a literal that is a number
pub literal_is : (value : ℤ) (scope : Scope) (s : State) → literal (roll-Literal (Literal-F.Int value)) scope s ≡ gave (Int value) s
literal_is value scope s = ap (λ (kind : Literal-F Literal). with_made (made_kind kind s.store s.fuel.left) s) (out-roll-Literal (Literal-F.Int value))

module _ (program : Program) (n before locals limit : ℕ) where
  abbrev wrong : Variant → Does
  wrong = no_number (calls_within (world program) limit)

  -- a built-in operation signals as the meaning does
  error_same : (error : ErrorRow) (units : ℕ) (s : State) → answer program (prims.failing error units) s ≡ unit_from units s (λ t. Ended ((world program).line t.store error) t)
  error_same error zero s = refl
  error_same error (suc left) s = refl

  -- the end by an error is the same everywhere
  ends_same : (error : ErrorRow) (units : ℕ) (y x : Spot) (r q : ℕ) (s : State) → after (body_of program) y r (unit_from units s (λ t. Ended ((world program).line t.store error) t)) ≡ after (body_of program) x q (unit_from units s (λ t. Ended ((world program).line t.store error) t))
  ends_same error zero y x r q s = refl
  ends_same error (suc left) y x r q s = refl

  module _ (x out : Spot) (fit : RowsFit x.running) (q : ℕ) (go : ℤ → State → Outcome) (s : State) (right : IsRight program locals s) (few : s.fuel.left ≤ n) where
    -- a value that is no number
    other_comes : (value : Variant) → IsWord value → (r : ℕ) (register : List Variant) (k : ℕ)
        → Holds (linked_program program) before x.running.body r (one (instr.Op comparison 2))
        → operated program comparison (value ∷ Int (pos 0) ∷ []) (scope_of x) s ≡ answer program (prims.failing (wrong_class value integer_class) s.fuel.left) s
        → Comes (machine_of program) (standing (body_of program) (under (Int (pos 0) ∷ value ∷ value ∷ []) x) r register s k) (after (body_of program) out q (wrong value (scope_of x) s))
    other_comes value word r register k holds same =
        let m = machine_of program in
        let num = body_of program in
        let z = under (Int (pos 0) ∷ value ∷ value ∷ []) x in
        let y = under (value ∷ []) x in
        let more : GoesOn m (act m (instr.Op comparison 2) (standing num z (r + 1) register s k)) (after num y (r + 1) (operated program comparison (value ∷ Int (pos 0) ∷ []) (scope_of x) s)) =
        (all_taken program n before locals comparison 2).runs (value ∷ Int (pos 0) ∷ []) y (r + 1) register s k refl (word, (refl, tt)) (under_fits (value ∷ []) x fit) right few in
        let comes = goes_behind program (standing num z r register s k) _ _ (stepped m num z r before register s k (Plain (instr.Op comparison 2)) [] holds) more in
        record {
          count = comes.count;
          searches = comes.searches;
          there = comes.there ∙ ap (λ (o : Outcome). after num y (r + 1) o comes.searches) (same ∙ error_same (wrong_class value integer_class) s.fuel.left s)
              ∙ ap (λ f. f comes.searches) (ends_same (wrong_class value integer_class) s.fuel.left y out (r + 1) q s);
        }

    tested_comes : (value : Variant) (r : ℕ) (register : List Variant) (k : ℕ) → IsWord value
        → Holds (linked_program program) before x.running.body r (Plain (instr.Op comparison 2) ∷ one (instr.Values 1))
        → ((number : ℤ) (j : ℕ) → fits number ≡ true → Comes (machine_of program) (standing (body_of program) x (r + 2) (Int number ∷ []) s j) (after (body_of program) out q (go number s)))
        → Comes (machine_of program) (standing (body_of program) (under (Int (pos 0) ∷ value ∷ value ∷ []) x) r register s k) (after (body_of program) out q (number_in wrong value (scope_of x) s go))
    tested_comes (Int number) r register k word holds next =
        let m = machine_of program in
        let num = body_of program in
        let z = under (Int (pos 0) ∷ Int number ∷ Int number ∷ []) x in
        let y = under (Int number ∷ []) x in
        let end : r + 2 ≡ r + 1 + 1 = omega arith in
        let v = Truth (int_lt number (pos 0)) ∷ [] in
        comes_behind m (standing num z r register s k) (standing num y (r + 1) v s k) _
        (stepped m num z r before register s k (Plain (instr.Op comparison 2)) (one (instr.Values 1)) holds ∙ less_goes program n before locals number (pos 0) y (r + 1) register s k)
        (comes_behind m (standing num y (r + 1) v s k) (standing num x (r + 1 + 1) (Int number ∷ []) s k) _
        (stepped m num y (r + 1) before v s k (Plain (instr.Values 1)) [] holds.1 ∙ top_goes program n before locals (Int number) x (r + 1 + 1) v s k)
        (subst (λ (place : ℕ). Comes m (standing num x place (Int number ∷ []) s k) (after num out q (go number s))) end (next number k word)))
    tested_comes (Char code) r register k word holds next = other_comes (Char code) tt r register k (holds.0, tt) refl
    tested_comes (Truth value) r register k word holds next = other_comes (Truth value) tt r register k (holds.0, tt) refl
    tested_comes (Symbol name) r register k word holds next = other_comes (Symbol name) tt r register k (holds.0, tt) refl
    tested_comes Nil r register k word holds next = other_comes Nil tt r register k (holds.0, tt) refl
    tested_comes (Class class) r register k word holds next = other_comes (Class class) tt r register k (holds.0, tt) refl
    tested_comes (TypeValue value) r register k word holds next = other_comes (TypeValue value) tt r register k (holds.0, tt) refl
    tested_comes (Generic generic) r register k word holds next = other_comes (Generic generic) tt r register k (holds.0, tt) refl
    tested_comes (Function function) r register k word holds next = other_comes (Function function) tt r register k (holds.0, tt) refl
    tested_comes (Builtin builtin) r register k word holds next = other_comes (Builtin builtin) tt r register k (holds.0, tt) refl
    tested_comes (Object object) r register k word holds next = other_comes (Object object) tt r register k (holds.0, tt) refl

  -- a term that gives a number
  pub integer_comes : (code : Code) (does : Does) → Follows program n before locals code does → (x out : Spot) → Inside (machine_of program) (body_of program) x out → (p q : ℕ) (register : List Variant) (s : State) (k : ℕ) (go : ℤ → State → Outcome)
      → RowsFit x.running → IsRight program locals s → s.fuel.left ≤ n → Holds (linked_program program) before x.running.body p (integer code)
      → ((number : ℤ) (t : State) (j : ℕ) → t.fuel.left ≤ n → IsRight program locals t → fits number ≡ true → Comes (machine_of program) (standing (body_of program) x (p + length (integer code)) (Int number ∷ []) t j) (after (body_of program) out q (go number t)))
      → Comes (machine_of program) (standing (body_of program) x p register s k) (after (body_of program) out q (number_of wrong does (scope_of x) s go))
  integer_comes code does follows x out inside p q register s k go fit right few holds next =
      let m = machine_of program in
      let num = body_of program in
      let scope = scope_of x in
      let rest : Code = Plain instr.Push ∷ Plain instr.Push ∷ (with_number comparison (pos 0) ++ one (instr.Values 1)) in
      let r = p + length code in
      let h = holds_back (linked_program program) before x.running.body p code rest holds in
      let less = follows.falls scope s in
      let end : r + 1 + 1 + 1 + 1 + 2 ≡ p + length (integer code) = omega (arith, length-append code rest) in
      then_words m num program locals n (standing num x p register s k) x out r q (does scope s) (λ vs t. number_in wrong (first vs) scope t go) inside
      (follows.runs x p register s k (holds_front (linked_program program) before x.running.body p code rest holds) fit right few) (omega (arith, less, few)) (follows.keeps scope s right)
      (λ values t j few1 right1 words.
      let word = first_word values words in
      let v = first values in
      let y = under (v ∷ []) x in
      let z = under (v ∷ v ∷ []) x in
      comes_behind m (standing num x r values t j) (standing num y (r + 1) values t j) _
      (stepped m num x r before values t j (Plain instr.Push) (Plain instr.Push ∷ (with_number comparison (pos 0) ++ one (instr.Values 1))) h)
      (comes_behind m (standing num y (r + 1) values t j) (standing num z (r + 1 + 1) values t j) _
      (stepped m num y (r + 1) before values t j (Plain instr.Push) (with_number comparison (pos 0) ++ one (instr.Values 1)) h.1)
      (comes_on m (standing num z (r + 1 + 1) values t j) (λ i. standing num z (r + 1 + 1 + 1) (Int (pos 0) ∷ []) t i) _
      (number_comes program n before locals (pos 0) z (r + 1 + 1) values t j (h.1.1.0, tt))
      (λ i. comes_behind m (standing num z (r + 1 + 1 + 1) (Int (pos 0) ∷ []) t i) (standing num (under (Int (pos 0) ∷ v ∷ v ∷ []) x) (r + 1 + 1 + 1 + 1) (Int (pos 0) ∷ []) t i) _
      (stepped m num z (r + 1 + 1 + 1) before (Int (pos 0) ∷ []) t i (Plain instr.Push) (Plain (instr.Op comparison 2) ∷ one (instr.Values 1)) h.1.1.1)
      (tested_comes x out fit q go t right1 few1 v (r + 1 + 1 + 1 + 1) (Int (pos 0) ∷ []) i word h.1.1.1.1
      (λ number l fit1. subst (λ (place : ℕ). Comes m (standing num x place (Int number ∷ []) t l) (after num out q (go number t))) (sym end) (next number t l few1 right1 fit1)))))))
