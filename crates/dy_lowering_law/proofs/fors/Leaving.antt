-- More operands at a spot, and where a test leads.
use Rattle.std.proofs.Common.{◌≡◌, ℕ, ◌+◌, Bool, true, false, not, List, [], ◌∷◌, length, subst, arith}
use Rattle.dy_term.specs.declared.rows.Program.{Program}
use Rattle.dy_values.specs.declared.value.Variant.{Variant}
use Rattle.dy_values.specs.Spending.{first, is_false}
use Rattle.dy_outcome.specs.declared.state.State.{State}
use Rattle.dy_outcome.specs.Turns.{is_end}
use Rattle.dy_steps.specs.Configurations.{Config, Goes}
use Rattle.dy_steps.specs.Steps.{step, jump_false}
use Rattle.dy_steps.proofs.Leading.{exit_laws}
use Rattle.dy_lowered.specs.Flat.{Code, past, past_if_false}
use Rattle.dy_lowering_law.specs.Force.{RowsFit}
use Rattle.dy_lowering_law.specs.Following.{Spot, standing, Comes, Reaches, Holds}
use Rattle.dy_lowering_law.specs.Machines.{linked_program, machine_of}
use Rattle.dy_lowering_law.specs.Renumbering.{body_of}
use Rattle.dy_lowering_law.proofs.Leading.{comes_by, comes_behind, stepped, Inside, inside_self}
use Rattle.dy_lowering_law.proofs.Arguments.{inside_both}
use Rattle.dy_lowering_law.proofs.Exiting.{pushed, inside_push}
use Rattle.dy_lowering_law.proofs.parts.Saved.{fits_laid}
use Rattle.dy_lowering_law.proofs.parts.Selecting.{under}
use Rattle.dy_lowered.specs.Turns.{leaves_if}

pub under_fits : (lying : List Variant) (x : Spot) → RowsFit x.running → RowsFit (under lying x).running
under_fits [] x fit = fit
under_fits (value ∷ lying) x fit = fits_laid value (under lying x).running x.running.rows (under_fits lying x fit)

pub under_inside : (program : Program) (lying : List Variant) (x : Spot) → RowsFit x.running → Inside (machine_of program) (body_of program) (under lying x) x
under_inside program [] x fit = inside_self (machine_of program) (body_of program) x
under_inside program (value ∷ lying) x fit =
    inside_both program (pushed value (under lying x)) (under lying x) x
    (inside_push (machine_of program) exit_laws (body_of program) value (under lying x) (under_fits lying x fit)) (under_inside program lying x fit)

-- how far behind a test its end leads
abbrev pub leap : Bool → ℕ → ℕ
leap true distance = distance
leap false distance = 0

module _ (program : Program) where
  -- the machine comes to a place, whatever is in the register then
  abbrev pub Lands : Config → Spot → ℕ → State → Type 0
  Lands c x place s = Reaches (machine_of program) c (λ register k. Goes (standing (body_of program) x place register s k))

  pub place_to : (c : Config) (x : Spot) (p q : ℕ) (register : List Variant) (s : State) → p ≡ q
      → Comes (machine_of program) c (λ k. Goes (standing (body_of program) x p register s k)) → Comes (machine_of program) c (λ k. Goes (standing (body_of program) x q register s k))
  place_to c x p q register s e comes = subst (λ (place : ℕ). Comes (machine_of program) c (λ k. Goes (standing (body_of program) x place register s k))) e comes

  module _ (before : ℕ) (x : Spot) (place distance : ℕ) (values : List Variant) (s : State) (k : ℕ) where
    abbrev Leads : Code → Bool → Type 0
    Leads code ends = Comes (machine_of program) (standing (body_of program) x place values s k) (λ j. Goes (standing (body_of program) x (place + length code + leap ends distance) values s j))

    leads_true : (c : Bool) → step (machine_of program) (standing (body_of program) x place values s k) ≡ jump_false c (place + 1 + 1) (standing (body_of program) x (place + 1) values s k)
        → Holds (linked_program program) before x.running.body (place + 1) (past distance ∷ []) → Leads (leaves_if true distance) (not c)
    leads_true true e holds =
        let end : place + 1 + 1 ≡ place + 2 + 0 = omega arith in
        place_to _ x (place + 1 + 1) (place + 2 + 0) values s end (comes_by (machine_of program) _ _ k e)
    leads_true false e holds =
        let m = machine_of program in
        let number = body_of program in
        let end : place + 1 + 1 + distance ≡ place + 2 + distance = omega arith in
        place_to _ x (place + 1 + 1 + distance) (place + 2 + distance) values s end
        (comes_behind m _ (standing number x (place + 1) values s k) _ e (comes_by m _ _ k (stepped m number x (place + 1) before values s k (past distance) [] holds)))

    leads_false : (c : Bool) → step (machine_of program) (standing (body_of program) x place values s k) ≡ jump_false c (place + 1 + distance) (standing (body_of program) x (place + 1) values s k)
        → Leads (leaves_if false distance) c
    leads_false true e = comes_by (machine_of program) _ _ k e
    leads_false false e =
        let end : place + 1 ≡ place + 1 + 0 = omega arith in
        place_to _ x (place + 1) (place + 1 + 0) values s end (comes_by (machine_of program) _ _ k e)

    pub leads : (b : Bool) → Holds (linked_program program) before x.running.body place (leaves_if b distance) → Leads (leaves_if b distance) (is_end b (first values))
    leads true holds = leads_true (is_false (first values)) (stepped (machine_of program) (body_of program) x place before values s k (past_if_false 1) (past distance ∷ []) holds) holds.1
    leads false holds = leads_false (is_false (first values)) (stepped (machine_of program) (body_of program) x place before values s k (past_if_false distance) [] holds)
