-- What short code does with numbers among the operands.
use Rattle.std.proofs.Common.{◌≡◌, ℕ, ◌+◌, ◌≤◌, Bool, true, ℤ, ◌+ℤ◌, pos, negsuc, List, [], ◌∷◌, refl, ap, ◌∙◌, subst, arith}
use Rattle.std.specs.Prelude.{int_lt, if◌then◌else◌}
use Rattle.dy_term.specs.declared.literal.Literal.{Literal, Literal-F, roll-Literal, out-roll-Literal}
use Rattle.dy_term.specs.declared.rows.Program.{Program}
use Rattle.dy_values.specs.declared.value.Variant.{Variant}
use Rattle.dy_values.specs.declared.value.Variant.TheVariants.{Int, Bool as Truth}
use Rattle.dy_values.specs.Errors.{integer_overflow}
use Rattle.dy_values.specs.Identity.{is_identical}
use Rattle.dy_values.specs.Spending.{made_kind}
use Rattle.dy_outcome.specs.declared.state.State.{State}
use Rattle.dy_outcome.specs.Turns.{fits}
use Rattle.dy_meaning.specs.Meaning.{with_made, identity}
use Rattle.dy_prims.specs.Operations as prims
use Rattle.dy_code.specs.Fetching as instr
use Rattle.dy_steps.specs.Configurations.{Goes}
use Rattle.dy_steps.specs.Calling.{operate}
use Rattle.dy_steps.specs.Effects.{gives, performed}
use Rattle.dy_steps.specs.Steps.{act}
use Rattle.dy_lowered.specs.Flat.{Plain, one}
use Rattle.dy_lowering_law.specs.Force.{RowsFit}
use Rattle.dy_lowering_law.specs.Following.{Spot, standing, after, Comes, Holds, IsRight}
use Rattle.dy_lowering_law.specs.Machines as machines
use Rattle.dy_lowering_law.specs.Machines.{linked_program, machine_of}
use Rattle.dy_lowering_law.specs.Renumbering.{body_of, renumbered}
use Rattle.dy_lowering_law.proofs.Leading.{comes_on, comes_by, comes_behind, stepped}
use Rattle.dy_lowering_law.proofs.Arguments.{taken_all}
use Rattle.dy_lowering_law.proofs.Literals.{literal_comes}
use Rattle.dy_lowering_law.proofs.parts.Selecting.{under}
use Rattle.dy_lowered.specs.Turns.{number, addition, comparison, with_number, top_less}
use Rattle.dy_lowering_law.proofs.fors.Leaving.{place_to}

same_fits : (z : ℤ) → prims.fits z ≡ fits z
same_fits (pos n) = refl
same_fits (negsuc n) = refl

module _ (program : Program) (n before locals : ℕ) where
  -- a number
  pub number_comes : (value : ℤ) (x : Spot) (place : ℕ) (register : List Variant) (s : State) (k : ℕ) → Holds (linked_program program) before x.running.body place (number value)
      → Comes (machine_of program) (standing (body_of program) x place register s k) (λ j. Goes (standing (body_of program) x (place + 1) (Int value ∷ []) s j))
  number_comes value x place register s k holds =
      subst (λ (kind : Literal-F Literal). Comes (machine_of program) (standing (body_of program) x place register s k) (after (body_of program) x (place + 1) (with_made (made_kind kind s.store s.fuel.left) s))) (out-roll-Literal (Literal-F.Int value))
      (literal_comes program n before locals (roll-Literal (Literal-F.Int value)) x place register s k holds)

  pub less_goes : (a b : ℤ) (x : Spot) (p : ℕ) (register : List Variant) (s : State) (k : ℕ)
      → act (machine_of program) (instr.Op comparison 2) (standing (body_of program) (under (Int b ∷ Int a ∷ []) x) p register s k) ≡ Goes (standing (body_of program) x p (Truth (int_lt a b) ∷ []) s k)
  less_goes a b x p register s k = taken_all (body_of program) (Int a ∷ Int b ∷ []) 2 x p register s k (operate (machine_of program) comparison) refl

  pub same_goes : (a b : ℤ) (x : Spot) (p : ℕ) (register : List Variant) (s : State) (k : ℕ)
      → act (machine_of program) (instr.Op identity 2) (standing (body_of program) (under (Int b ∷ Int a ∷ []) x) p register s k) ≡ Goes (standing (body_of program) x p (Truth (is_identical (Int a) (Int b)) ∷ []) s k)
  same_goes a b x p register s k = taken_all (body_of program) (Int a ∷ Int b ∷ []) 2 x p register s k (operate (machine_of program) identity) refl

  pub add_goes : (a b : ℤ) (x : Spot) (p : ℕ) (register : List Variant) (s : State) (k : ℕ) → fits (a +ℤ b) ≡ true
      → act (machine_of program) (instr.Op addition 2) (standing (body_of program) (under (Int b ∷ Int a ∷ []) x) p register s k) ≡ Goes (standing (body_of program) x p (Int (a +ℤ b) ∷ []) s k)
  add_goes a b x p register s k e =
      taken_all (body_of program) (Int a ∷ Int b ∷ []) 2 x p register s k (operate (machine_of program) addition) refl
      ∙ ap (λ (c : Bool). performed (machine_of program) (machines.answered (prims.paid (prims.single (if c then prims.Gives (Int (a +ℤ b)) else prims.Signals integer_overflow)) s.fuel.left) (renumbered (body_of program) s)) (standing (body_of program) x p register s k) gives) (same_fits (a +ℤ b) ∙ e)

  pub top_goes : (value : Variant) (x : Spot) (p : ℕ) (register : List Variant) (s : State) (k : ℕ)
      → act (machine_of program) (instr.Values 1) (standing (body_of program) (under (value ∷ []) x) p register s k) ≡ Goes (standing (body_of program) x p (value ∷ []) s k)
  top_goes value x p register s k = taken_all (body_of program) (value ∷ []) 1 x p register s k gives refl

  -- an operand with a number behind it, and an operation on both
  module _ (x : Spot) (fit : RowsFit x.running) (s : State) (right : IsRight program locals s) (few : s.fuel.left ≤ n) where
    pub numbered_comes : (operation : ℕ) (a c : ℤ) (result : Variant) (p : ℕ) (register : List Variant) (k : ℕ) → (fits_there : RowsFit (under (Int a ∷ []) x).running)
        → ((r : ℕ) (values : List Variant) (j : ℕ) → act (machine_of program) (instr.Op operation 2) (standing (body_of program) (under (Int c ∷ Int a ∷ []) x) r values s j) ≡ Goes (standing (body_of program) x r (result ∷ []) s j))
        → Holds (linked_program program) before x.running.body p (with_number operation c)
        → Comes (machine_of program) (standing (body_of program) (under (Int a ∷ []) x) p register s k) (λ j. Goes (standing (body_of program) x (p + 3) (result ∷ []) s j))
    numbered_comes operation a c result p register k there acts holds =
        let m = machine_of program in
        let num = body_of program in
        let y = under (Int a ∷ []) x in
        let z = under (Int c ∷ Int a ∷ []) x in
        let end : p + 1 + 1 + 1 ≡ p + 3 = omega arith in
        comes_on m (standing num y p register s k) (λ j. standing num y (p + 1) (Int c ∷ []) s j) _
        (number_comes c y p register s k (holds.0, tt))
        (λ j. comes_behind m (standing num y (p + 1) (Int c ∷ []) s j) (standing num z (p + 1 + 1) (Int c ∷ []) s j) _
        (stepped m num y (p + 1) before (Int c ∷ []) s j (Plain instr.Push) (one (instr.Op operation 2)) holds.1)
        (place_to program _ x (p + 1 + 1 + 1) (p + 3) (result ∷ []) s end
        (comes_by m _ _ j (stepped m num z (p + 1 + 1) before (Int c ∷ []) s j (Plain (instr.Op operation 2)) [] holds.1.1 ∙ acts (p + 1 + 1 + 1) (Int c ∷ []) j))))

    -- the topmost operand is compared, and stays
    pub top_less_comes : (a c : ℤ) (p : ℕ) (register : List Variant) (k : ℕ) → RowsFit (under (Int a ∷ []) x).running → RowsFit (under (Int a ∷ Int a ∷ []) x).running
        → Holds (linked_program program) before x.running.body p (top_less c)
        → Comes (machine_of program) (standing (body_of program) (under (Int a ∷ []) x) p register s k) (λ j. Goes (standing (body_of program) (under (Int a ∷ []) x) (p + 6) (Truth (int_lt a c) ∷ []) s j))
    top_less_comes a c p register k one_fit two_fit holds =
        let m = machine_of program in
        let num = body_of program in
        let y = under (Int a ∷ []) x in
        let z = under (Int a ∷ Int a ∷ []) x in
        let end : p + 1 + 1 + 1 + 3 ≡ p + 6 = omega arith in
        comes_behind m (standing num y p register s k) (standing num x (p + 1) (Int a ∷ []) s k) _
        (stepped m num y p before register s k (Plain (instr.Values 1)) (Plain instr.Push ∷ Plain instr.Push ∷ with_number comparison c) holds ∙ top_goes (Int a) x (p + 1) register s k)
        (comes_behind m (standing num x (p + 1) (Int a ∷ []) s k) (standing num y (p + 1 + 1) (Int a ∷ []) s k) _
        (stepped m num x (p + 1) before (Int a ∷ []) s k (Plain instr.Push) (Plain instr.Push ∷ with_number comparison c) holds.1)
        (comes_behind m (standing num y (p + 1 + 1) (Int a ∷ []) s k) (standing num z (p + 1 + 1 + 1) (Int a ∷ []) s k) _
        (stepped m num y (p + 1 + 1) before (Int a ∷ []) s k (Plain instr.Push) (with_number comparison c) holds.1.1)
        (comes_on m (standing num z (p + 1 + 1 + 1) (Int a ∷ []) s k) (λ j. standing num z (p + 1 + 1 + 1 + 1) (Int c ∷ []) s j) _
        (number_comes c z (p + 1 + 1 + 1) (Int a ∷ []) s k (holds.1.1.1.0, tt))
        (λ j. comes_behind m (standing num z (p + 1 + 1 + 1 + 1) (Int c ∷ []) s j) (standing num (under (Int c ∷ Int a ∷ Int a ∷ []) x) (p + 1 + 1 + 1 + 1 + 1) (Int c ∷ []) s j) _
        (stepped m num z (p + 1 + 1 + 1 + 1) before (Int c ∷ []) s j (Plain instr.Push) (one (instr.Op comparison 2)) holds.1.1.1.1)
        (place_to program _ y (p + 1 + 1 + 1 + 1 + 1 + 1) (p + 6) (Truth (int_lt a c) ∷ []) s (omega arith)
        (comes_by m _ _ j (stepped m num (under (Int c ∷ Int a ∷ Int a ∷ []) x) (p + 1 + 1 + 1 + 1 + 1) before (Int c ∷ []) s j (Plain (instr.Op comparison 2)) [] holds.1.1.1.1.1
        ∙ less_goes a c y (p + 1 + 1 + 1 + 1 + 1 + 1) (Int c ∷ []) s j)))))))
