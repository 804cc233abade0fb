-- `let` of one local.
use Rattle.std.proofs.Common.{◌≡◌, ℕ, zero, suc, ◌+◌, ◌≤◌, ◌<◌, Bool, true, false, List, [], ◌∷◌, ◌++◌, length, refl, sym, ap, ◌∙◌, subst, arith, length-append}
use Rattle.std.specs.Prelude.{slice_set}
use Rattle.std.proofs.lemmas.List.{set-set, get_or-set_same, length-set}
use Rattle.std.specs.declared.option.Option.TheVariants.{None}
use Rattle.dy_term.specs.declared.rows.Program.{Program}
use Rattle.dy_values.specs.declared.value.Variant.{Variant}
use Rattle.dy_values.specs.declared.value.Variant.TheVariants.{Bool as Truth}
use Rattle.dy_values.specs.declared.object.ObjectRow.TheVariants as object
use Rattle.dy_values.specs.Spending.{first}
use Rattle.dy_values.specs.Stores.{with_object, next_object}
use Rattle.dy_outcome.specs.declared.state.State.{State}
use Rattle.dy_outcome.specs.declared.place.Place.TheVariants.{Own}
use Rattle.dy_outcome.specs.States.{Outcome, Gave, Exits, Ended, Spent, Does, and_then}
use Rattle.dy_outcome.specs.Nearness.{units_of}
use Rattle.dy_outcome.specs.Places.{value_at, with_local, bind}
use Rattle.dy_outcome.specs.Parts.{bound, letting}
use Rattle.dy_code.specs.Fetching as instr
use Rattle.dy_steps.specs.Configurations.{Config, Goes}
use Rattle.dy_lowered.specs.Flat.{Plain, Code, one}
use Rattle.dy_lowered.specs.Parts as parts
use Rattle.dy_lowering_law.specs.Force.{RowsFit}
use Rattle.dy_lowering_law.specs.Following.{Spot, scope_of, standing, after, after_any, Comes, Reaches, Holds, IsWord, AreWords, IsRight, IsRightAfter, Follows, Prepares}
use Rattle.dy_lowering_law.specs.Machines.{linked_program, machine_of}
use Rattle.dy_lowering_law.specs.Renumbering.{body_of, renumbered}
use Rattle.dy_lowering_law.proofs.Leading.{comes_on, comes_by, comes_behind, stepped, holds_front, holds_back}
use Rattle.dy_lowering_law.proofs.Same.{bind_same}
use Rattle.dy_lowering_law.proofs.Cases.{then_falls, then_keeps_words, first_word}
use Rattle.dy_lowering_law.proofs.Values.{known_added, local_words, cell_words}

-- a cell with what the local has just taken
cell_bound : (k : ℕ) (value : Variant) (s : State) → k < length s.frame.locals → bind (Own k true) (value_at (slice_set s.frame.locals k value) k) (with_local k value s) ≡ bind (Own k true) value s
cell_bound k value s within =
    let same : value_at (slice_set s.frame.locals k value) k ≡ value = get_or-set_same s.frame.locals k value (Truth false) within in
    ap (λ (v : Variant). bind (Own k true) v (with_local k value s)) same
    ∙ ap (λ (l : List Variant). record s { frame = record (s.frame) { locals = l }; store = with_object s.store (object.Cell value) }) (set-set s.frame.locals k value (next_object s.store))

module _ (program : Program) (n before locals : ℕ) where
  bind_right : (k : ℕ) (in_cell : Bool) (value : Variant) → IsWord value → (s : State) → IsRight program locals s → IsRight program locals (bind (Own k in_cell) value s)
  bind_right k false value word s right = record { objects = right.objects; frame = length-set s.frame.locals k value ∙ right.frame; words = local_words s k value word right.words }
  bind_right k true value word s right = record { objects = known_added program s.store.objects (object.Cell value) right.objects word; frame = length-set s.frame.locals k (next_object s.store) ∙ right.frame; words = cell_words s k value right.words }

  bind_falls : (k : ℕ) (in_cell : Bool) (values : List Variant) (s : State) → units_of (bound (Own k in_cell ∷ []) None values s) ≤ s.fuel.left
  bind_falls k false values s = omega arith
  bind_falls k true values s = omega arith

  bind_keeps : (k : ℕ) (in_cell : Bool) (values : List Variant) → AreWords values → (s : State) → IsRight program locals s → IsRightAfter program locals (bound (Own k in_cell ∷ []) None values s)
  bind_keeps k false values words s right = (bind_right k false (first values) (first_word values words) s right, tt)
  bind_keeps k true values words s right = (bind_right k true (first values) (first_word values words) s right, tt)

  -- the local takes the first value, and perhaps gets its cell
  bind_comes : (k : ℕ) (in_cell : Bool) → k < locals → (x : Spot) (place : ℕ) (values : List Variant) (s : State) (j : ℕ) → Holds (linked_program program) before x.running.body place (parts.bound (Own k in_cell ∷ []) None) → IsRight program locals s
      → Comes (machine_of program) (standing (body_of program) x place values s j) (λ i. Goes (standing (body_of program) x (place + length (parts.bound (Own k in_cell ∷ []) None)) (first values ∷ []) (bind (Own k in_cell) (first values) s) i))
  bind_comes k false within x place values s j holds right =
      comes_by (machine_of program) _ _ j (stepped (machine_of program) (body_of program) x place before values s j (Plain (instr.SetLocal k)) [] holds)
  bind_comes k true within x place values s j holds right =
      let m = machine_of program in
      let number = body_of program in
      let value = first values in
      let t = with_local k value s in
      let here : k < length s.frame.locals = subst (λ (l : ℕ). k < l) (sym right.frame) within in
      let end : place + 1 + 1 ≡ place + 2 = omega arith in
      comes_behind m (standing number x place values s j) (standing number x (place + 1) (value ∷ []) t j) _
      (stepped m number x place before values s j (Plain (instr.SetLocal k)) (one (instr.NewCell k)) holds)
      (comes_by m _ _ j (stepped m number x (place + 1) before (value ∷ []) t j (Plain (instr.NewCell k)) [] holds.1
      ∙ ap (λ (u : State). Goes (record (standing number x (place + 1 + 1) (value ∷ []) t j) { state = u })) (bind_same number (Own k true) (value_at (slice_set s.frame.locals k value) k) t ∙ ap (λ (u : State). renumbered number u) (cell_bound k value s here))
      ∙ ap (λ (p : ℕ). Goes (standing number x p (value ∷ []) (bind (Own k true) value s) j)) end))

  -- the values of a term become the local's
  let_comes : (k : ℕ) (in_cell : Bool) → k < locals → (c : Config) (x : Spot) (p q : ℕ) (o : Outcome) → p + length (parts.bound (Own k in_cell ∷ []) None) ≡ q
      → Holds (linked_program program) before x.running.body p (parts.bound (Own k in_cell ∷ []) None) → Comes (machine_of program) c (after (body_of program) x p o) → IsRightAfter program locals o
      → Reaches (machine_of program) c (after_any (body_of program) x q (and_then o (λ values s. bound (Own k in_cell ∷ []) None values s)))
  let_comes k in_cell within c x p q (Gave values s) e holds comes right = record {
    register = first values ∷ [];
    comes = subst (λ (r : ℕ). Comes (machine_of program) c (λ i. Goes (standing (body_of program) x r (first values ∷ []) (bind (Own k in_cell) (first values) s) i))) e
        (comes_on (machine_of program) c (λ i. standing (body_of program) x p values s i) _ comes (λ i. bind_comes k in_cell within x p values s i holds right.0));
  }
  let_comes k in_cell within c x p q (Exits block values s) e holds comes right = record { register = []; comes = record { count = comes.count; searches = comes.searches; there = comes.there } }
  let_comes k in_cell within c x p q (Ended line s) e holds comes right = record { register = []; comes = record { count = comes.count; searches = comes.searches; there = comes.there } }
  let_comes k in_cell within c x p q (Spent s) e holds comes right = record { register = []; comes = record { count = comes.count; searches = comes.searches; there = comes.there } }

pub let_prepares : (program : Program) (n before locals k : ℕ) (in_cell : Bool) (code : Code) (does : Does) → k < locals → Follows program n before locals code does
    → Prepares program n before locals (parts.letting (Own k in_cell ∷ []) None code) (letting (Own k in_cell ∷ []) None does)
let_prepares program n before locals k in_cell code does within follows = record {
  falls = λ scope s. then_falls s.fuel.left (does scope s) _ (follows.falls scope s) (λ values t. bind_falls program n before locals k in_cell values t);
  keeps = λ scope s right. then_keeps_words program locals (does scope s) _ (follows.keeps scope s right) (λ values t right1 words. bind_keeps program n before locals k in_cell values words t right1);
  runs = λ x place register s j holds fit right few.
      let puts = parts.bound (Own k in_cell ∷ []) None in
      let end : place + length code + length puts ≡ place + length (code ++ puts) = omega (arith, length-append code puts) in
      let_comes program n before locals k in_cell within (standing (body_of program) x place register s j) x (place + length code) (place + length (code ++ puts)) (does (scope_of x) s) end
      (holds_back (linked_program program) before x.running.body place code puts holds)
      (follows.runs x place register s j (holds_front (linked_program program) before x.running.body place code puts holds) fit right few) (follows.keeps (scope_of x) s right);
}
