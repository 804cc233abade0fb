-- The variables of a loop are bound anew.
use Rattle.std.proofs.Common.{◌≡◌, ℕ, suc, ◌+◌, ◌≤◌, true, false, List, [], ◌∷◌, ◌++◌, append_assoc, length, refl, sym, ap, ◌∙◌, subst, arith, length-append}
use Rattle.std.specs.Prelude.{slice_set}
use Rattle.dy_term.specs.declared.rows.Program.{Program}
use Rattle.dy_values.specs.declared.value.Variant.{Variant}
use Rattle.dy_values.specs.Spending.{first}
use Rattle.dy_outcome.specs.declared.state.State.{State}
use Rattle.dy_outcome.specs.declared.place.Place.{Place}
use Rattle.dy_outcome.specs.declared.place.Place.TheVariants.{Own, Captured}
use Rattle.dy_outcome.specs.Places.{bind, value_at, with_local}
use Rattle.dy_outcome.specs.Turns.{Going, Taking, Counting, bound_anew}
use Rattle.dy_code.specs.Fetching as instr
use Rattle.dy_steps.specs.Configurations.{Config, Step, Goes}
use Rattle.dy_lowered.specs.Flat.{Plain, Code}
use Rattle.dy_lowered.specs.Parts as parts
use Rattle.dy_lowered.specs.Turns.{Clause, Takes, Counts, operand, operands, all_operands, variable, bindings}
use Rattle.dy_lowering_law.specs.Force.{RowsFit}
use Rattle.dy_lowering_law.specs.Following.{Spot, standing, Comes, IsRight}
use Rattle.dy_lowering_law.specs.Machines.{linked_program, machine_of}
use Rattle.dy_lowering_law.specs.Renumbering.{body_of, renumbered}
use Rattle.dy_lowering_law.proofs.Leading.{comes_on, comes_by, comes_behind, stepped, holds_front, holds_back}
use Rattle.dy_lowering_law.proofs.Same.{bind_same}
use Rattle.dy_lowering_law.specs.parts.Lets.{IsOwn}
use Rattle.dy_lowering_law.proofs.parts.Binding.{cell_bound, bind_right}
use Rattle.dy_lowering_law.proofs.parts.Selecting.{under}
use Rattle.dy_lowering_law.proofs.fors.Clauses.{lies_of, lies, lead_of, above_lead, place_in, lies_lead, Keeps, AllKeep, AllWords, one_word, Gives, Goes_to, Stands, one_long, all_long}
use Rattle.dy_lowering_law.proofs.fors.Computing.{under_append, goes_at, operand_computes}
use Rattle.dy_lowering_law.proofs.fors.Leaving.{under_fits}
use Rattle.dy_lowering_law.proofs.fors.Turning.{bind_units}

-- the variables, one by one
pub anew_first : (going : Going) (others : List Going) (s : State) → bound_anew (going ∷ others) s ≡ bound_anew others (bind (place_in going) (lead_of going) s)
anew_first (Taking place value next) others s = refl
anew_first (Counting place number bound step) others s = refl

pub anew_units : (all : List Going) (s : State) → (bound_anew all s).fuel.left ≡ s.fuel.left
anew_units [] s = refl
anew_units (going ∷ others) s =
    ap (λ (t : State). t.fuel.left) (anew_first going others s) ∙ anew_units others (bind (place_in going) (lead_of going) s) ∙ bind_units (place_in going) (lead_of going) s

module _ (program : Program) (n before locals : ℕ) where
  pub anew_right : (all : List Going) → AllWords program n before locals all → (s : State) → IsRight program locals s → IsRight program locals (bound_anew all s)
  anew_right [] words s right = right
  anew_right (going ∷ others) words s right =
      subst (λ (t : State). IsRight program locals t) (sym (anew_first going others s))
      (anew_right others words.1 (bind (place_in going) (lead_of going) s) (bind_right program n before locals (place_in going) (lead_of going) words.0 s right))

  -- a variable is bound to the first value
  binds : (place : Place) → IsOwn locals place → (others : Code) (x : Spot) (p : ℕ) (register : List Variant) (s : State) (k : ℕ) → IsRight program locals s
      → Stands program n before locals x p (parts.put place ++ (parts.cell place ++ others))
      → Comes (machine_of program) (standing (body_of program) x p register s k) (λ j. Goes (standing (body_of program) x (p + length (parts.put place) + length (parts.cell place)) (first register ∷ []) (bind place (first register) s) j))
  binds (Own i false) own others x p register s k right holds =
      let value = first register in
      let end : p + 1 ≡ p + 1 + 0 = omega arith in
      subst (λ (place : ℕ). Comes (machine_of program) (standing (body_of program) x p register s k) (λ j. Goes (standing (body_of program) x place (value ∷ []) (with_local i value s) j))) end
      (comes_by (machine_of program) _ _ k (stepped (machine_of program) (body_of program) x p before register s k (Plain (instr.SetLocal i)) others holds))
  binds (Own i true) own others x p register s k right holds =
      let m = machine_of program in
      let number = body_of program in
      let value = first register in
      let t = with_local i value s in
      let here : suc i ≤ length s.frame.locals = subst (λ (l : ℕ). suc i ≤ l) (sym right.frame) own in
      comes_behind m (standing number x p register s k) (standing number x (p + 1) (value ∷ []) t k) _
      (stepped m number x p before register s k (Plain (instr.SetLocal i)) (Plain (instr.NewCell i) ∷ others) holds)
      (comes_by m _ _ k (stepped m number x (p + 1) before (value ∷ []) t k (Plain (instr.NewCell i)) others holds.1
      ∙ ap (λ (u : State). Goes (record (standing number x (p + 1 + 1) (value ∷ []) t k) { state = u })) (bind_same number (Own i true) (value_at (slice_set s.frame.locals i value) i) t ∙ ap (λ (u : State). renumbered number u) (cell_bound i value s here))))
  binds (Captured i) own others x p register s k right holds = absurd own

  -- the operand that a variable is bound to
  lead_shown : (clause : Clause) (going : Going) → Keeps program n before locals clause going → (top : List Variant) (above : ℕ) → length top ≡ above → Gives program n before locals (top ++ lies_of going) (operand (operands clause + above)) (lead_of going)
  lead_shown clause going keeps top above long =
      let one = one_long program n before locals clause going keeps in
      let lead = lies_lead going in
      let cut : length (lies_of going) ≡ length (above_lead going ++ lead_of going ∷ []) = ap (λ (values : List Variant). length values) lead in
      let same : top ++ lies_of going ≡ ((top ++ above_lead going) ++ lead_of going ∷ []) ++ [] =
      ap (λ (values : List Variant). top ++ values) lead ∙ sym (append_assoc top (above_lead going) (lead_of going ∷ [])) ∙ sym (append_nil ((top ++ above_lead going) ++ lead_of going ∷ [])) in
      operand_computes program n before locals (top ++ lies_of going) (top ++ above_lead going) [] (lead_of going) (operands clause + above) same
      (omega (arith, one, cut, long, length-append top (above_lead going), length-append (above_lead going) (lead_of going ∷ [])))
    where
      append_nil : (all : List Variant) → all ++ [] ≡ all
      append_nil [] = refl
      append_nil (value ∷ values) = ap (λ (vs : List Variant). value ∷ vs) (append_nil values)

  variable_is : (clause : Clause) (going : Going) → Keeps program n before locals clause going → (variable clause ≡ place_in going) × IsOwn locals (variable clause)
  variable_is (Takes place start next) (Taking other value does) keeps = (keeps.0, keeps.1)
  variable_is (Counts place start limit step) (Counting other number bound by) keeps = (keeps.0, keeps.1)
  variable_is (Takes place start next) (Counting other number bound by) keeps = absurd keeps
  variable_is (Counts place start limit step) (Taking other value does) keeps = absurd keeps

  pub variables_bound : (clauses : List Clause) (all : List Going) → AllKeep program n before locals clauses all → (x : Spot) (p : ℕ) (register : List Variant) (s : State) (k : ℕ) (to : ℕ → Step) → RowsFit x.running → IsRight program locals s → s.fuel.left ≤ n
      → Stands program n before locals x p (bindings clauses)
      → ((values : List Variant) (j : ℕ) → Goes_to program n before locals (under (lies all) x) (p + length (bindings clauses)) values (bound_anew all s) j to)
      → Goes_to program n before locals (under (lies all) x) p register s k to
  variables_bound [] [] keep x p register s k to fit right few holds next =
      let e : p ≡ p + 0 = omega arith in
      goes_at program n before locals x p (p + 0) register s k to e (next register k)
  variables_bound (clause ∷ clauses) (going ∷ others) keep x p register s k to fit right few holds next =
      let m = machine_of program in
      let num = body_of program in
      let linked = linked_program program in
      let body = x.running.body in
      let place = variable clause in
      let value = lead_of going in
      let above = all_operands clauses in
      let own = variable_is clause going keep.0 in
      let read = operand (operands clause + above) in
      let more = bindings clauses in
      let rest : Code = parts.put place ++ (parts.cell place ++ more) in
      let low = under (lies_of going) x in
      let y = under (lies others ++ lies_of going) x in
      let same = under_append (lies others) (lies_of going) x in
      let p1 = p + length read in
      let p2 = p1 + length (parts.put place) + length (parts.cell place) in
      let h1 = holds_back linked before body p read rest holds in
      let h2 = holds_back linked before body (p1 + length (parts.put place)) (parts.cell place) more (holds_back linked before body p1 (parts.put place) (parts.cell place ++ more) h1) in
      let t = bind place value s in
      let right1 = bind_right program n before locals place value (one_word program n before locals clause going keep.0) s right in
      let few1 : t.fuel.left ≤ n = omega (arith, few, bind_units place value s) in
      let end : p2 + length more ≡ p + length (read ++ rest) = omega (arith, length-append read rest, length-append (parts.put place) (parts.cell place ++ more), length-append (parts.cell place) more) in
      let state : bound_anew (going ∷ others) s ≡ bound_anew others t = anew_first going others s ∙ ap (λ (q : Place). bound_anew others (bind q value s)) (sym own.0) in
      lead_shown clause going keep.0 (lies others) above (all_long program n before locals clauses others keep.1) x p register s k to fit right few (holds_front linked before body p read rest holds)
      (λ values j e.
      bound_comes (standing num y p1 values s j) (first values) value e place s p2 y to
      (binds place own.1 more y p1 values s j right h1)
      (λ i. subst (λ (z : Spot). Goes_to program n before locals z p2 (value ∷ []) t i to) (sym same)
      (variables_bound clauses others keep.1 low p2 (value ∷ []) t i to (under_fits (lies_of going) x fit) right1 few1 h2
      (λ ws l. goes_at program n before locals (under (lies others) low) (p2 + length more) (p + length (read ++ rest)) ws (bound_anew others t) l to end
      (subst (λ (z : Spot). Goes_to program n before locals z (p + length (read ++ rest)) ws (bound_anew others t) l to) same
      (subst (λ (u : State). Goes_to program n before locals y (p + length (read ++ rest)) ws u l to) state (next ws l)))))))
    where
      bound_comes : (c : Config) (got value : Variant) → got ≡ value → (place : Place) (s : State) (q : ℕ) (y : Spot) (to : ℕ → Step)
          → Comes (machine_of program) c (λ j. Goes (standing (body_of program) y q (got ∷ []) (bind place got s) j))
          → ((j : ℕ) → Goes_to program n before locals y q (value ∷ []) (bind place value s) j to) → Comes (machine_of program) c to
      bound_comes c got value e place s q y to comes next =
          comes_on (machine_of program) c (λ j. standing (body_of program) y q (value ∷ []) (bind place value s) j) to
          (subst (λ (v : Variant). Comes (machine_of program) c (λ j. Goes (standing (body_of program) y q (v ∷ []) (bind place v s) j))) e comes) next
  variables_bound [] (going ∷ others) keep x p register s k to fit right few holds next = absurd keep
  variables_bound (clause ∷ clauses) [] keep x p register s k to fit right few holds next = absurd keep
