-- `let`: values on the operands become locals.
use Rattle.std.proofs.Common.{◌≡◌, ◌≢◌, ℕ, zero, suc, ◌+◌, ◌-◌, ◌<◌, Bool, true, false, List, [], ◌∷◌, ◌++◌, reverse, drop, append_assoc, length, refl, sym, ap, ◌∙◌, subst, arith, length-append}
use Rattle.std.specs.Prelude.{nat_le, slice_set}
use Rattle.std.proofs.lemmas.List.{set-set, set_comm, get_or-set_same, length-set, reverse-append}
use Rattle.std.specs.declared.option.Option.{Option}
use Rattle.std.specs.declared.option.Option.TheVariants.{None, Some}
use Rattle.dy_term.specs.declared.rows.Program.{Program}
use Rattle.dy_values.specs.declared.value.Variant.{Variant}
use Rattle.dy_values.specs.declared.value.Variant.TheVariants.{Bool as Truth}
use Rattle.dy_values.specs.declared.object.ObjectRow.TheVariants as object
use Rattle.dy_values.specs.Spending.{first}
use Rattle.dy_values.specs.Stores.{with_object, next_object}
use Rattle.dy_outcome.specs.declared.state.State.{State}
use Rattle.dy_outcome.specs.declared.place.Place.{Place}
use Rattle.dy_outcome.specs.declared.place.Place.TheVariants.{Own, Captured}
use Rattle.dy_outcome.specs.States.{Gave, Does, and_then, spend_if, made}
use Rattle.dy_outcome.specs.Places.{value_at, kept_at, with_local, with_cell, bind}
use Rattle.dy_outcome.specs.Parts.{all_bound, bound, letting}
use Rattle.dy_outcome.specs.Calls.{returned}
use Rattle.dy_outcome.proofs.Alike.{letting_alike}
use Rattle.dy_outcome.proofs.Whole.{itself_alike}
use Rattle.dy_code.specs.Fetching as instr
use Rattle.dy_steps.specs.Configurations.{Config, Goes}
use Rattle.dy_steps.specs.Effects as effects
use Rattle.dy_steps.specs.Effects.{gives}
use Rattle.dy_steps.specs.Arguments.{vector_made}
use Rattle.dy_steps.specs.Steps.{step, pushed_with}
use Rattle.dy_lowered.specs.Flat.{Plain, Code, one}
use Rattle.dy_lowered.specs.Parts as parts
use Rattle.dy_lowering_law.specs.Following.{Spot, scope_of, standing, after_any, Comes, Reaches, Holds, IsWord, AreWords, IsRight, IsRightAfter, Follows, Prepares}
use Rattle.dy_lowering_law.specs.Kinds.{push_all}
use Rattle.dy_lowering_law.specs.Machines.{linked_program, machine_of}
use Rattle.dy_lowering_law.specs.Renumbering.{body_of, renumbered}
use Rattle.dy_lowering_law.proofs.Leading.{comes_at, comes_on, comes_by, comes_behind, stepped, holds_front, holds_back}
use Rattle.dy_lowering_law.proofs.Arguments.{taken_all}
use Rattle.dy_lowering_law.proofs.Cases.{then_keeps_words, first_word, less_words}
use Rattle.dy_lowering_law.proofs.Exiting.{pushed}
use Rattle.dy_lowering_law.proofs.Lets.{let_prepares}
use Rattle.dy_lowering_law.proofs.Same.{bind_same, next_same, added_same}
use Rattle.dy_lowering_law.proofs.Values.{known_added, local_words, cell_words, captured_words}
use Rattle.dy_lowering_law.specs.parts.Lets.{AreOwn, IsNone, AreDistinct, all_places}
use Rattle.dy_lowering_law.proofs.parts.Reaching.{reach_then}

-- locals that take values, and then those that get cells
abbrev stored_in : List Place → List Variant → State → State
stored_in [] values s = s
stored_in (Own k in_cell ∷ places) values s = with_local k (first values) (stored_in places (drop 1 values) s)
stored_in (Captured k ∷ places) values s = stored_in places (drop 1 values) s

abbrev celled : List Place → State → State
celled [] s = s
celled (Own k true ∷ places) s = celled places (bind (Own k true) (kept_at (Own k true) s) s)
celled (Own k false ∷ places) s = celled places s
celled (Captured k ∷ places) s = celled places s

local_comm : (k j : ℕ) (value other : Variant) (s : State) → k ≢ j → with_local j other (with_local k value s) ≡ with_local k value (with_local j other s)
local_comm k j value other s differ =
    ap (λ (l : List Variant). record s { frame = record (s.frame) { locals = l } }) (set_comm s.frame.locals k j value other differ)

stored_local : (k : ℕ) (value : Variant) (places : List Place) (values : List Variant) (s : State) → IsNone k places → stored_in places values (with_local k value s) ≡ with_local k value (stored_in places values s)
stored_local k value [] values s none = refl
stored_local k value (Own j in_cell ∷ places) values s none =
    ap (with_local j (first values)) (stored_local k value places (drop 1 values) s none.1)
    ∙ local_comm k j value (first values) (stored_in places (drop 1 values) s) none.0
stored_local k value (Captured j ∷ places) values s none = stored_local k value places (drop 1 values) s none

stored_cell : (value : Variant) (places : List Place) (values : List Variant) (s : State) → stored_in places values (with_cell value s) ≡ with_cell value (stored_in places values s)
stored_cell value [] values s = refl
stored_cell value (Own j in_cell ∷ places) values s = ap (with_local j (first values)) (stored_cell value places (drop 1 values) s)
stored_cell value (Captured j ∷ places) values s = stored_cell value places (drop 1 values) s

stored_store : (places : List Place) (values : List Variant) (s : State) → (stored_in places values s).store ≡ s.store
stored_store [] values s = refl
stored_store (Own j in_cell ∷ places) values s = stored_store places (drop 1 values) s
stored_store (Captured j ∷ places) values s = stored_store places (drop 1 values) s

stored_length : (places : List Place) (values : List Variant) (s : State) → length (stored_in places values s).frame.locals ≡ length s.frame.locals
stored_length [] values s = refl
stored_length (Own j in_cell ∷ places) values s =
    length-set (stored_in places (drop 1 values) s).frame.locals j (first values) ∙ stored_length places (drop 1 values) s
stored_length (Captured j ∷ places) values s = stored_length places (drop 1 values) s

stored_bind : (k : ℕ) (value : Variant) (places : List Place) (values : List Variant) (s : State) → IsNone k places
    → bind (Own k true) value (stored_in places values s) ≡ stored_in places values (bind (Own k true) value s)
stored_bind k value places values s none =
    ap (λ store. with_local k (next_object store) (with_cell value (stored_in places values s))) (stored_store places values s)
    ∙ ap (with_local k (next_object s.store)) (sym (stored_cell value places values s))
    ∙ sym (stored_local k (next_object s.store) places values (with_cell value s) none)

-- a cell with what the local has just taken
pub cell_bound : (k : ℕ) (value : Variant) (s : State) → k < length s.frame.locals → bind (Own k true) (value_at (slice_set s.frame.locals k value) k) (with_local k value s) ≡ bind (Own k true) value s
cell_bound k value s within =
    let same : value_at (slice_set s.frame.locals k value) k ≡ value = get_or-set_same s.frame.locals k value (Truth false) within in
    ap (λ (v : Variant). bind (Own k true) v (with_local k value s)) same
    ∙ ap (λ (l : List Variant). record s { frame = record (s.frame) { locals = l }; store = with_object s.store (object.Cell value) }) (set-set s.frame.locals k value (next_object s.store))

-- so they are bound one by one
all_same : (locals : ℕ) (places : List Place) (values : List Variant) (s : State) → length s.frame.locals ≡ locals → AreOwn locals places → AreDistinct places
    → celled places (stored_in places values s) ≡ all_bound places values s
all_same locals [] values s long own distinct = refl
all_same locals (Own k false ∷ places) values s long own distinct =
    ap (celled places) (sym (stored_local k (first values) places (drop 1 values) s distinct.0))
    ∙ all_same locals places (drop 1 values) (with_local k (first values) s) (length-set s.frame.locals k (first values) ∙ long) own.1 distinct.1
all_same locals (Own k true ∷ places) values s long own distinct =
    let t = stored_in places (drop 1 values) s in
    let here : k < length t.frame.locals = subst (λ (l : ℕ). k < l) (sym (stored_length places (drop 1 values) s ∙ long)) own.0 in
    ap (celled places) (cell_bound k (first values) t here ∙ stored_bind k (first values) places (drop 1 values) s distinct.0)
    ∙ all_same locals places (drop 1 values) (bind (Own k true) (first values) s) (length-set s.frame.locals k (next_object s.store) ∙ long) own.1 distinct.1
all_same locals (Captured k ∷ places) values s long own distinct = absurd own.0

-- values that are cut, or filled with `#f`
returned_long : (n : ℕ) (values : List Variant) → length (returned n false values) ≡ n
returned_long zero values = refl
returned_long (suc n) values = ap suc (returned_long n (drop 1 values))

plain_bound : (places : List Place) (values : List Variant) (s : State) → all_bound places (returned (length places) false values) s ≡ all_bound places values s
plain_bound [] values s = refl
plain_bound (place ∷ places) values s = plain_bound places (drop 1 values) (bind place (first values) s)

ends_bound : (places : List Place) (rest : Place) (values : List Variant) (vector : Variant) (s : State)
    → all_bound (places ++ rest ∷ []) (returned (length places) false values ++ vector ∷ []) s ≡ bind rest vector (all_bound places values s)
ends_bound [] rest values vector s = refl
ends_bound (place ∷ places) rest values vector s = ends_bound places rest (drop 1 values) vector (bind place (first values) s)

-- values on the operands
abbrev pub with_all : List Variant → Spot → Spot
with_all operands x = record x { running = record (x.running) { operands = operands } }

pub laid_same : (values : List Variant) (x : Spot) → with_all (reverse values ++ x.running.operands) x ≡ push_all values x
laid_same [] x = refl
laid_same (value ∷ values) x =
    ap (λ (o : List Variant). with_all o x) (ap (λ (r : List Variant). r ++ x.running.operands) (reverse-append (value ∷ []) values) ∙ append_assoc (reverse values) (value ∷ []) x.running.operands)
    ∙ laid_same values (pushed value x)

push_more : (values : List Variant) (last : Variant) (x : Spot) → pushed last (push_all values x) ≡ push_all (values ++ last ∷ []) x
push_more [] last x = refl
push_more (value ∷ values) last x = push_more values last (pushed value x)

abbrev left_behind : List Variant → List Variant → List Variant
left_behind register [] = register
left_behind register (value ∷ values) = value ∷ []

module _ (program : Program) (n before locals : ℕ) where
  pub goes_at : (c : Config) (x : Spot) (p q : ℕ) (register : List Variant) (s : State) → p ≡ q
      → Comes (machine_of program) c (λ j. Goes (standing (body_of program) x p register s j)) → Comes (machine_of program) c (λ j. Goes (standing (body_of program) x q register s j))
  goes_at c x p q register s e comes = subst (λ (r : ℕ). Comes (machine_of program) c (λ j. Goes (standing (body_of program) x r register s j))) e comes

  stored_comes : (places : List Place) (values : List Variant) (x : Spot) (place : ℕ) (register : List Variant) (s : State) (k : ℕ)
      → AreOwn locals places → length values ≡ length places → Holds (linked_program program) before x.running.body place (parts.stored places)
      → Comes (machine_of program) (standing (body_of program) (push_all values x) place register s k) (λ j. Goes (standing (body_of program) x (place + length (parts.stored places)) (left_behind register values) (stored_in places values s) j))
  stored_comes [] [] x place register s k own long holds =
      goes_at (standing (body_of program) x place register s k) x place (place + 0) register s (omega arith) (comes_at (machine_of program) _ _ k refl)
  stored_comes [] (value ∷ values) x place register s k own long holds = absurd (omega (arith, long))
  stored_comes (at ∷ places) [] x place register s k own long holds = absurd (omega (arith, long))
  stored_comes (Captured i ∷ places) (value ∷ values) x place register s k own long holds = absurd own.0
  stored_comes (Own i in_cell ∷ places) (value ∷ values) x place register s k own long holds =
      let m = machine_of program in
      let number = body_of program in
      let linked = linked_program program in
      let last : Code = Plain (instr.Values 1) ∷ one (instr.SetLocal i) in
      let p1 = place + length (parts.stored places) in
      let t = stored_in places values s in
      let r = left_behind register values in
      let shorter : length values ≡ length places = omega (arith, long) in
      let h = holds_back linked before x.running.body place (parts.stored places) last holds in
      let end : p1 + 1 + 1 ≡ place + length (parts.stored places ++ last) = omega (arith, length-append (parts.stored places) last) in
      comes_on m (standing number (push_all values (pushed value x)) place register s k) (λ j. standing number (pushed value x) p1 r t j) _
      (stored_comes places values (pushed value x) place register s k own.1 shorter (holds_front linked before x.running.body place (parts.stored places) last holds))
      (λ j. comes_behind m (standing number (pushed value x) p1 r t j) (standing number x (p1 + 1) (value ∷ []) t j) _
      (stepped m number (pushed value x) p1 before r t j (Plain (instr.Values 1)) (one (instr.SetLocal i)) h
      ∙ taken_all number (value ∷ []) 1 x (p1 + 1) r t j gives refl)
      (goes_at (standing number x (p1 + 1) (value ∷ []) t j) x (p1 + 1 + 1) (place + length (parts.stored places ++ last)) (value ∷ []) (with_local i value t) end
      (comes_by m _ _ j (stepped m number x (p1 + 1) before (value ∷ []) t j (Plain (instr.SetLocal i)) [] h.1))))

  cells_come : (places : List Place) (x : Spot) (place : ℕ) (register : List Variant) (s : State) (k : ℕ) → Holds (linked_program program) before x.running.body place (parts.cells places)
      → Comes (machine_of program) (standing (body_of program) x place register s k) (λ j. Goes (standing (body_of program) x (place + length (parts.cells places)) register (celled places s) j))
  cells_come [] x place register s k holds =
      goes_at (standing (body_of program) x place register s k) x place (place + 0) register s (omega arith) (comes_at (machine_of program) _ _ k refl)
  cells_come (Own i false ∷ places) x place register s k holds = cells_come places x place register s k holds
  cells_come (Captured i ∷ places) x place register s k holds = cells_come places x place register s k holds
  cells_come (Own i true ∷ places) x place register s k holds =
      let m = machine_of program in
      let number = body_of program in
      let t = bind (Own i true) (kept_at (Own i true) s) s in
      let end : place + 1 + length (parts.cells places) ≡ place + length (parts.cells (Own i true ∷ places)) = omega arith in
      comes_behind m (standing number x place register s k) (standing number x (place + 1) register t k) _
      (stepped m number x place before register s k (Plain (instr.NewCell i)) (parts.cells places) holds
      ∙ ap (λ (u : State). Goes (record (standing number x (place + 1) register s k) { state = u })) (bind_same number (Own i true) (kept_at (Own i true) s) s))
      (goes_at (standing number x (place + 1) register t k) x (place + 1 + length (parts.cells places)) (place + length (parts.cells (Own i true ∷ places))) register (celled places t) end
      (cells_come places x (place + 1) register t k holds.1))

  abbrev bound_code : List Place → Code
  bound_code places = parts.stored places ++ parts.cells places

  -- operands become locals, and then locals get their cells
  locals_come : (places : List Place) (values : List Variant) (x : Spot) (place : ℕ) (register : List Variant) (s : State) (k : ℕ)
      → AreOwn locals places → AreDistinct places → length values ≡ length places → Holds (linked_program program) before x.running.body place (bound_code places) → IsRight program locals s
      → Comes (machine_of program) (standing (body_of program) (push_all values x) place register s k) (λ j. Goes (standing (body_of program) x (place + length (bound_code places)) (left_behind register values) (all_bound places values s) j))
  locals_come places values x place register s k own distinct long holds right =
      let m = machine_of program in
      let number = body_of program in
      let linked = linked_program program in
      let p1 = place + length (parts.stored places) in
      let t = stored_in places values s in
      let r = left_behind register values in
      let end : p1 + length (parts.cells places) ≡ place + length (bound_code places) = omega (arith, length-append (parts.stored places) (parts.cells places)) in
      subst (λ (u : State). Comes m (standing number (push_all values x) place register s k) (λ j. Goes (standing number x (place + length (bound_code places)) r u j)))
      (all_same locals places values s right.frame own distinct)
      (goes_at (standing number (push_all values x) place register s k) x (p1 + length (parts.cells places)) (place + length (bound_code places)) r (celled places t) end
      (comes_on m (standing number (push_all values x) place register s k) (λ j. standing number x p1 r t j) _
      (stored_comes places values x place register s k own long (holds_front linked before x.running.body place (parts.stored places) (parts.cells places) holds))
      (λ j. cells_come places x p1 r t j (holds_back linked before x.running.body place (parts.stored places) (parts.cells places) holds))))

  abbrev spread_code : List Place → Code
  spread_code places = Plain (instr.Spread (length places) false) ∷ bound_code places

  -- values without a rest
  spread_comes : (places : List Place) (x : Spot) (place q : ℕ) (values : List Variant) (s : State) (k : ℕ) → place + length (spread_code places) ≡ q
      → AreOwn locals places → AreDistinct places → Holds (linked_program program) before x.running.body place (spread_code places) → IsRight program locals s
      → Reaches (machine_of program) (standing (body_of program) x place values s k) (after_any (body_of program) x q (bound places None values s))
  spread_comes places x place q values s k end own distinct holds right =
      let m = machine_of program in
      let number = body_of program in
      let kept = returned (length places) false values in
      let r = left_behind values kept in
      let far : place + 1 + length (bound_code places) ≡ q = omega (arith, end) in
      record {
        register = r;
        comes = comes_behind m (standing number x place values s k) (standing number (push_all kept x) (place + 1) values s k) _
            (stepped m number x place before values s k (Plain (instr.Spread (length places) false)) (bound_code places) holds
            ∙ ap (λ (y : Spot). Goes (standing number y (place + 1) values s k)) (laid_same kept x))
            (goes_at (standing number (push_all kept x) (place + 1) values s k) x (place + 1 + length (bound_code places)) q r (all_bound places values s) far
            (subst (λ (u : State). Comes m (standing number (push_all kept x) (place + 1) values s k) (λ j. Goes (standing number x (place + 1 + length (bound_code places)) r u j))) (plain_bound places values s)
            (locals_come places kept x (place + 1) values s k own distinct (returned_long (length places) values) holds.1 right)));
      }

  abbrev rest_code : List Place → Place → Code
  rest_code places rest = Plain (instr.Spread (length places) true) ∷ bound_code (places ++ rest ∷ [])

  -- a state with the vector of surplus values, once it is paid for
  abbrev with_vector : List Variant → State → State
  with_vector surplus s = record s { fuel = record { left = s.fuel.left - (length surplus + 1) }; store = with_object s.store (object.Vector false surplus) }

  vector_right : (surplus : List Variant) (s : State) → IsRight program locals s → IsRight program locals (with_vector surplus s)
  vector_right surplus s right = record { objects = known_added program s.store.objects (object.Vector false surplus) right.objects tt; frame = right.frame; words = record { locals = right.words.locals; captured = right.words.captured; globals = right.words.globals } }

  collected_comes : (b : Bool) (places : List Place) (rest : Place) (surplus : List Variant) (x : Spot) (place q : ℕ) (values : List Variant) (s : State) (k : ℕ) → place + length (rest_code places rest) ≡ q
      → step (machine_of program) (standing (body_of program) x place values s k)
      ≡ effects.spend_if b (length surplus + 1) (standing (body_of program) x (place + 1) values s k) (vector_made surplus (pushed_with (returned (length places) false values)))
      → AreOwn locals (places ++ rest ∷ []) → AreDistinct (places ++ rest ∷ []) → Holds (linked_program program) before x.running.body (place + 1) (bound_code (places ++ rest ∷ [])) → IsRight program locals s
      → Reaches (machine_of program) (standing (body_of program) x place values s k)
      (after_any (body_of program) x q (and_then (spend_if b (length surplus + 1) s (made (object.Vector false surplus))) (λ vs t. Gave [] (bind rest (first vs) (all_bound places values t)))))
  collected_comes false places rest surplus x place q values s k end does own distinct holds right = record { register = []; comes = comes_by (machine_of program) _ _ k does }
  collected_comes true places rest surplus x place q values s k end does own distinct holds right =
      let m = machine_of program in
      let number = body_of program in
      let all = places ++ rest ∷ [] in
      let kept = returned (length places) false values in
      let vector = next_object s.store in
      let given = kept ++ vector ∷ [] in
      let t = with_vector surplus s in
      let r = left_behind values given in
      let below = reverse kept ++ x.running.operands in
      let here : length given ≡ length all = omega (arith, length-append kept (vector ∷ []), length-append places (rest ∷ []), returned_long (length places) values) in
      let far : place + 1 + length (bound_code all) ≡ q = omega (arith, end) in
      record {
        register = r;
        comes = comes_behind m (standing number x place values s k) (standing number (push_all given x) (place + 1) values t k) _
            (does
            ∙ (λ i. Goes (record (standing number (with_all (next_same number s.store i ∷ below) x) (place + 1) values t k) {
              state = record (renumbered number t) { store = added_same number s.store (object.Vector false surplus) i };
            }))
            ∙ ap (λ (y : Spot). Goes (standing number (pushed vector y) (place + 1) values t k)) (laid_same kept x)
            ∙ ap (λ (y : Spot). Goes (standing number y (place + 1) values t k)) (push_more kept vector x))
            (goes_at (standing number (push_all given x) (place + 1) values t k) x (place + 1 + length (bound_code all)) q r (bind rest vector (all_bound places values t)) far
            (subst (λ (u : State). Comes m (standing number (push_all given x) (place + 1) values t k) (λ j. Goes (standing number x (place + 1 + length (bound_code all)) r u j))) (ends_bound places rest values vector t)
            (locals_come all given x (place + 1) values t k own distinct here holds (vector_right surplus s right))));
      }

  rest_comes : (places : List Place) (rest : Place) (x : Spot) (place q : ℕ) (values : List Variant) (s : State) (k : ℕ) → place + length (rest_code places rest) ≡ q
      → AreOwn locals (places ++ rest ∷ []) → AreDistinct (places ++ rest ∷ []) → Holds (linked_program program) before x.running.body place (rest_code places rest) → IsRight program locals s
      → Reaches (machine_of program) (standing (body_of program) x place values s k) (after_any (body_of program) x q (bound places (Some rest) values s))
  rest_comes places rest x place q values s k end own distinct holds right =
      let surplus = drop (length places) values in
      collected_comes (nat_le (length surplus + 1) s.fuel.left) places rest surplus x place q values s k end
      (stepped (machine_of program) (body_of program) x place before values s k (Plain (instr.Spread (length places) true)) (bound_code (places ++ rest ∷ [])) holds)
      own distinct holds.1 right

  pub bind_right : (place : Place) (value : Variant) → IsWord value → (s : State) → IsRight program locals s → IsRight program locals (bind place value s)
  bind_right (Own k false) value word s right = record { objects = right.objects; frame = length-set s.frame.locals k value ∙ right.frame; words = local_words s k value word right.words }
  bind_right (Own k true) value word s right = record { objects = known_added program s.store.objects (object.Cell value) right.objects word; frame = length-set s.frame.locals k (next_object s.store) ∙ right.frame; words = cell_words s k value right.words }
  bind_right (Captured k) value word s right = record { objects = right.objects; frame = right.frame; words = captured_words s k value word right.words }

  all_right : (places : List Place) (values : List Variant) → AreWords values → (s : State) → IsRight program locals s → IsRight program locals (all_bound places values s)
  all_right [] values words s right = right
  all_right (place ∷ places) values words s right = all_right places (drop 1 values) (less_words values words) (bind place (first values) s) (bind_right place (first values) (first_word values words) s right)

  collected_right : (b : Bool) (places : List Place) (rest : Place) (surplus values : List Variant) → AreWords values → (s : State) → IsRight program locals s
      → IsRightAfter program locals (and_then (spend_if b (length surplus + 1) s (made (object.Vector false surplus))) (λ vs t. Gave [] (bind rest (first vs) (all_bound places values t))))
  collected_right false places rest surplus values words s right = tt
  collected_right true places rest surplus values words s right = (bind_right rest (next_object s.store) tt (all_bound places values (with_vector surplus s)) (all_right places values words (with_vector surplus s) (vector_right surplus s right)), tt)

  bound_right : (places : List Place) (rest : Option Place) (values : List Variant) → AreWords values → (s : State) → IsRight program locals s → IsRightAfter program locals (bound places rest values s)
  bound_right places None values words s right = (all_right places values words s right, tt)
  bound_right places (Some rest) values words s right =
      let surplus = drop (length places) values in
      collected_right (nat_le (length surplus + 1) s.fuel.left) places rest surplus values words s right

  -- code that binds the values of a term
  abbrev Binds : List Place → Option Place → Code → Type 0
  Binds places rest code = (x : Spot) (place q : ℕ) (values : List Variant) (s : State) (k : ℕ) → place + length code ≡ q
      → Holds (linked_program program) before x.running.body place code → IsRight program locals s
      → Reaches (machine_of program) (standing (body_of program) x place values s k) (after_any (body_of program) x q (bound places rest values s))

  -- a term, and code that binds its values
  prepares_by : (places : List Place) (rest : Option Place) (puts code : Code) (does : Does) → Binds places rest puts → Follows program n before locals code does
      → Prepares program n before locals (code ++ puts) (letting places rest does)
  prepares_by places rest puts code does binds follows = record {
    falls = λ scope s. (letting_alike 0 places rest does does (itself_alike 0 does follows.falls) scope s).falls;
    keeps = λ scope s right. then_keeps_words program locals (does scope s) _ (follows.keeps scope s right) (λ values t right1 words. bound_right places rest values words t right1);
    runs = λ x place register s k holds fit right few.
        let end : place + length code + length puts ≡ place + length (code ++ puts) = omega (arith, length-append code puts) in
        reach_then program n locals (standing (body_of program) x place register s k) x (place + length code) (place + length (code ++ puts)) (does (scope_of x) s) (λ values t. bound places rest values t)
        (follows.runs x place register s k (holds_front (linked_program program) before x.running.body place code puts holds) fit right few) (omega (arith, follows.falls (scope_of x) s, few)) (follows.keeps (scope_of x) s right)
        (λ values t j few1 right1. binds x (place + length code) (place + length (code ++ puts)) values t j end (holds_back (linked_program program) before x.running.body place code puts holds) right1);
  }

  rest_is : (places : List Place) (rest : Place) → rest_code places rest ≡ parts.bound places (Some rest)
  rest_is [] rest = refl
  rest_is (place ∷ []) rest = refl
  rest_is (place ∷ other ∷ places) rest = refl

  pub all_lets_follow : (places : List Place) (rest : Option Place) (code : Code) (does : Does) → AreOwn locals (all_places places rest) → AreDistinct (all_places places rest) → Follows program n before locals code does
      → Prepares program n before locals (parts.letting places rest code) (letting places rest does)
  all_lets_follow [] None code does own distinct follows =
      prepares_by [] None (spread_code []) code does (λ x place q values s k end holds right. spread_comes [] x place q values s k end own distinct holds right) follows
  all_lets_follow (Own k in_cell ∷ []) None code does own distinct follows = let_prepares program n before locals k in_cell code does own.0 follows
  all_lets_follow (Captured k ∷ []) None code does own distinct follows = absurd own.0
  all_lets_follow (place ∷ other ∷ places) None code does own distinct follows =
      let all = place ∷ other ∷ places in
      prepares_by all None (spread_code all) code does (λ x at q values s k end holds right. spread_comes all x at q values s k end own distinct holds right) follows
  all_lets_follow places (Some rest) code does own distinct follows =
      subst (λ (puts : Code). Prepares program n before locals (code ++ puts) (letting places (Some rest) does)) (rest_is places rest)
      (prepares_by places (Some rest) (rest_code places rest) code does (λ x place q values s k end holds right. rest_comes places rest x place q values s k end own distinct holds right) follows)
