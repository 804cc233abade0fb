-- Arguments become locals, and those that live in cells get theirs.
use Rattle.std.proofs.Common.{◌≡◌, ℕ, zero, suc, ◌+◌, ◌-◌, ◌≤◌, Bool, true, false, List, [], ◌∷◌, ◌++◌, map, take, drop, length, refl, sym, ap, ◌∙◌, subst, arith, append_assoc, length-append, take-append-drop, length-take-le}
use Rattle.std.specs.Prelude.{nat_lt, slice_set}
use Rattle.dy_term.specs.declared.rows.Program.{Program}
use Rattle.dy_values.specs.declared.value.Variant.{Variant}
use Rattle.dy_values.specs.Stores.{next_object}
use Rattle.dy_outcome.specs.declared.place.Place.{Place}
use Rattle.dy_outcome.specs.declared.place.Place.TheVariants.{Own, Captured}
use Rattle.dy_outcome.specs.declared.state.State.{State}
use Rattle.dy_outcome.specs.Places.{value_at, kept_at, bind, with_cell}
use Rattle.dy_outcome.specs.Parts.{all_bound}
use Rattle.dy_code.specs.Fetching as instr
use Rattle.dy_meaning.specs.Layouts.{Layout, own_or_captured, place_of, from}
use Rattle.dy_steps.specs.Configurations.{Goes}
use Rattle.dy_steps.specs.Arguments.{with_locals}
use Rattle.dy_lowered.specs.Flat.{Plain}
use Rattle.dy_lowered.specs.Parts.{cells}
use Rattle.dy_lowering_law.specs.Following.{Spot, standing, Comes, Holds}
use Rattle.dy_lowering_law.specs.Machines.{linked_program, machine_of}
use Rattle.dy_lowering_law.specs.Renumbering.{body_of}
use Rattle.dy_lowering_law.proofs.Leading.{comes_at, comes_behind, stepped}
use Rattle.dy_lowering_law.proofs.Same.{bind_same}

-- a list at the place behind its first part
set_here : {A : Type 0} (before : List A) (old new : A) (others : List A) (k : ℕ) → length before ≡ k → slice_set (before ++ old ∷ others) k new ≡ before ++ new ∷ others
set_here [] old new others zero e = refl
set_here [] old new others (suc k) e = absurd (omega (arith, e))
set_here (x ∷ before) old new others zero e = absurd (omega (arith, e))
set_here (x ∷ before) old new others (suc k) e = λ i. x ∷ set_here before old new others k (omega (arith, e)) i

value_here : (before : List Variant) (value : Variant) (others : List Variant) (k : ℕ) → length before ≡ k → value_at (before ++ value ∷ others) k ≡ value
value_here [] value others zero e = refl
value_here [] value others (suc k) e = absurd (omega (arith, e))
value_here (x ∷ before) value others zero e = absurd (omega (arith, e))
value_here (x ∷ before) value others (suc k) e = value_here before value others k (omega (arith, e))

-- locals of the body, one after the other
abbrev pub owns : ℕ → List Bool → List Place
owns k [] = []
owns k (in_cell ∷ flags) = Own k in_cell ∷ owns (k + 1) flags

not_below : (a b : ℕ) → b ≤ a → nat_lt a b ≡ false
not_below a b h = grind (arith, h)

own_place : (layout : Layout) (k at : ℕ) → at ≡ layout.first + k → place_of layout at ≡ Own k (layout.in_cell at)
own_place layout k at e =
    let here : at - layout.first ≡ k = omega (arith, e) in
    ap (λ b. own_or_captured b layout at) (not_below at layout.first (omega (arith, e))) ∙ ap (λ j. Own j (layout.in_cell at)) here

pub owned : (layout : Layout) (n k at : ℕ) → at ≡ layout.first + k → map (place_of layout) (from at n) ≡ owns k (map layout.in_cell (from at n))
owned layout zero k at e = refl
owned layout (suc n) k at e =
    let next : at + 1 ≡ layout.first + (k + 1) = omega (arith, e) in
    λ i. own_place layout k at e i ∷ owned layout n (k + 1) (at + 1) next i

-- those that live in cells get them, in order
abbrev pub celled : List Place → State → State
celled [] s = s
celled (Own k true ∷ places) s = celled places (bind (Own k true) (kept_at (Own k true) s) s)
celled (Own k false ∷ places) s = celled places s
celled (Captured k ∷ places) s = celled places s

abbrev at_locals : List Variant → State → State
at_locals locals s = record s { frame = record (s.frame) { locals = locals } }

-- It is the same whether each local is bound with its cell, or all take their values first.
bound_there : (flags : List Bool) (before values old behind : List Variant) (k : ℕ) (s : State) → length before ≡ k → length values ≡ length flags → length old ≡ length flags
    → all_bound (owns k flags) values (at_locals (before ++ (old ++ behind)) s) ≡ celled (owns k flags) (at_locals (before ++ (values ++ behind)) s)
bound_there [] before [] [] behind k s here long other = refl
bound_there [] before (v ∷ values) old behind k s here long other = absurd (omega (arith, long))
bound_there [] before [] (o ∷ old) behind k s here long other = absurd (omega (arith, other))
bound_there (b ∷ flags) before [] old behind k s here long other = absurd (omega (arith, long))
bound_there (b ∷ flags) before (v ∷ values) [] behind k s here long other = absurd (omega (arith, other))
bound_there (false ∷ flags) before (v ∷ values) (o ∷ old) behind k s here long other =
    let places = owns (k + 1) flags in
    let front = before ++ v ∷ [] in
    let next : length front ≡ k + 1 = omega (arith, here, length-append before (v ∷ [])) in
    ap (λ (l : List Variant). all_bound places values (at_locals l s)) (set_here before o v (old ++ behind) k here ∙ sym (append_assoc before (v ∷ []) (old ++ behind)))
    ∙ bound_there flags front values old behind (k + 1) s next (omega (arith, long)) (omega (arith, other))
    ∙ ap (λ (l : List Variant). celled places (at_locals l s)) (append_assoc before (v ∷ []) (values ++ behind))
bound_there (true ∷ flags) before (v ∷ values) (o ∷ old) behind k s here long other =
    let places = owns (k + 1) flags in
    let cell = next_object s.store in
    let front = before ++ cell ∷ [] in
    let next : length front ≡ k + 1 = omega (arith, here, length-append before (cell ∷ [])) in
    ap (λ (l : List Variant). all_bound places values (at_locals l (with_cell v s))) (set_here before o cell (old ++ behind) k here ∙ sym (append_assoc before (cell ∷ []) (old ++ behind)))
    ∙ bound_there flags front values old behind (k + 1) (with_cell v s) next (omega (arith, long)) (omega (arith, other))
    ∙ ap (λ (l : List Variant). celled places (at_locals l (with_cell v s))) (append_assoc before (cell ∷ []) (values ++ behind) ∙ sym (set_here before v cell (values ++ behind) k here))
    ∙ ap (λ (w : Variant). celled places (at_locals (slice_set (before ++ v ∷ (values ++ behind)) k cell) (with_cell w s))) (sym (value_here before v (values ++ behind) k here))

bound_all : (flags : List Bool) (values : List Variant) (s : State) → length values ≡ length flags → length flags ≤ length s.frame.locals → all_bound (owns 0 flags) values s ≡ celled (owns 0 flags) (with_locals values s)
bound_all flags values s long room =
    let locals = s.frame.locals in
    let n = length values in
    let few : n ≤ length locals = omega (arith, long, room) in
    let taken : length (take n locals) ≡ length flags = length-take-le n locals few ∙ long in
    ap (λ (l : List Variant). all_bound (owns 0 flags) values (at_locals l s)) (sym (take-append-drop n locals))
    ∙ bound_there flags [] values (take n locals) (drop n locals) 0 s refl long taken

pub bound_places : (places : List Place) (flags : List Bool) (values : List Variant) (s : State) → places ≡ owns 0 flags → length values ≡ length flags → length flags ≤ length s.frame.locals
    → celled places (with_locals values s) ≡ all_bound places values s
bound_places places flags values s e long room =
    (λ i. celled (e i) (with_locals values s)) ∙ sym (bound_all flags values s long room) ∙ (λ i. all_bound (sym e i) values s)

-- surplus values are bound nowhere
pub taken_bound : (places : List Place) (values : List Variant) (s : State) → all_bound places (take (length places) values) s ≡ all_bound places values s
taken_bound [] values s = refl
taken_bound (place ∷ places) [] s = refl
taken_bound (place ∷ places) (value ∷ values) s = taken_bound places values (bind place value s)

pub last_bound : (places : List Place) (place : Place) (values : List Variant) (value : Variant) (s : State) → length values ≡ length places
    → all_bound (places ++ place ∷ []) (values ++ value ∷ []) s ≡ bind place value (all_bound places values s)
last_bound [] place [] value s e = refl
last_bound [] place (v ∷ values) value s e = absurd (omega (arith, e))
last_bound (p ∷ places) place [] value s e = absurd (omega (arith, e))
last_bound (p ∷ places) place (v ∷ values) value s e = last_bound places place values value (bind p v s) (omega (arith, e))

module _ (program : Program) (before : ℕ) where
  -- the cells of locals
  pub cells_come : (places : List Place) (y : Spot) (place : ℕ) (register : List Variant) (s : State) (j : ℕ) → Holds (linked_program program) before y.running.body place (cells places)
      → Comes (machine_of program) (standing (body_of program) y place register s j) (λ k. Goes (standing (body_of program) y (place + length (cells places)) register (celled places s) k))
  cells_come [] y place register s j holds =
      let end : place ≡ place + 0 = omega arith in
      comes_at (machine_of program) _ _ j (λ i. Goes (standing (body_of program) y (end i) register s j))
  cells_come (Own k true ∷ places) y place register s j holds =
      let m = machine_of program in
      let number = body_of program in
      let t = bind (Own k true) (kept_at (Own k true) s) s in
      let end : place + 1 + length (cells places) ≡ place + length (cells (Own k true ∷ places)) = omega arith in
      subst (λ (p : ℕ). Comes m (standing number y place register s j) (λ i. Goes (standing number y p register (celled places t) i))) end
      (comes_behind m (standing number y place register s j) (standing number y (place + 1) register t j) _
      (stepped m number y place before register s j (Plain (instr.NewCell k)) (cells places) holds
      ∙ ap (λ (u : State). Goes (record (standing number y (place + 1) register s j) { state = u })) (bind_same number (Own k true) (kept_at (Own k true) s) s))
      (cells_come places y (place + 1) register t j holds.1))
  cells_come (Own k false ∷ places) y place register s j holds = cells_come places y place register s j holds
  cells_come (Captured k ∷ places) y place register s j holds = cells_come places y place register s j holds
