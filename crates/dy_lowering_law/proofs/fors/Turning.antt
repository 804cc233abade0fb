-- The turns of a loop of one clause that counts.
use Rattle.std.proofs.Common.{◌≡◌, ℕ, zero, suc, ◌+◌, ◌-◌, ◌≤◌, Bool, true, false, ◌||◌, ℤ, ◌+ℤ◌, negsuc, List, [], ◌∷◌, ◌++◌, length, refl, sym, ap, ◌∙◌, subst, arith, length-append}
use Rattle.std.specs.Prelude.{slice_set, slice_get}
use Rattle.std.specs.declared.option.Option.{Option}
use Rattle.std.specs.declared.option.Option.TheVariants.{None, Some}
use Rattle.std.proofs.lemmas.List.{get_or-set_same}
use Rattle.dy_term.specs.declared.term.Limit.{Limit}
use Rattle.dy_term.specs.declared.rows.Program.{Program}
use Rattle.dy_values.specs.declared.value.Variant.{Variant}
use Rattle.dy_values.specs.declared.value.Variant.TheVariants.{Int, Bool as Truth}
use Rattle.dy_values.specs.declared.object.ObjectRow.{ObjectRow}
use Rattle.dy_values.specs.declared.object.ObjectRow.TheVariants as object
use Rattle.dy_values.specs.Stores.{with_object, next_object}
use Rattle.dy_values.specs.Spending.{first}
use Rattle.dy_outcome.specs.declared.state.State.{State}
use Rattle.dy_outcome.specs.declared.place.Place.{Place}
use Rattle.dy_outcome.specs.declared.place.Place.TheVariants.{Own, Captured}
use Rattle.dy_outcome.specs.States.{Outcome, Does, and_then, unit_from, spend_unit, exhausted}
use Rattle.dy_outcome.specs.Choices.{chosen}
use Rattle.dy_outcome.specs.Places.{read, bind, value_at, with_local, content, or_itself, cell_in}
use Rattle.dy_outcome.specs.Turns as means
use Rattle.dy_outcome.specs.Turns.{Counting, is_over, is_end, fits, for_turns}
use Rattle.dy_outcome.proofs.Near.{no_unit}
use Rattle.dy_code.specs.Fetching as instr
use Rattle.dy_steps.specs.Configurations.{Config, Goes}
use Rattle.dy_steps.specs.Effects as effects
use Rattle.dy_steps.specs.Steps.{act, step}
use Rattle.dy_lowered.specs.Flat.{Plain, Jump, Code}
use Rattle.dy_lowered.specs.Parts as parts
use Rattle.dy_lowering_law.specs.Force.{RowsFit}
use Rattle.dy_lowering_law.specs.Following.{Spot, scope_of, standing, after, Comes, Holds, IsRight, Follows}
use Rattle.dy_lowering_law.specs.Machines.{linked_program, machine_of}
use Rattle.dy_lowering_law.specs.Renumbering.{body_of, renumbered}
use Rattle.dy_lowering_law.proofs.Leading.{comes_on, comes_by, comes_behind, stepped, then_comes, holds_front, holds_back}
use Rattle.dy_lowering_law.proofs.Cases.{read_follows}
use Rattle.dy_lowering_law.proofs.Same.{bind_same}
use Rattle.dy_lowering_law.specs.parts.Lets.{IsOwn}
use Rattle.dy_lowering_law.proofs.parts.Binding.{cell_bound, bind_right}
use Rattle.dy_lowering_law.proofs.parts.Looping.{with_left, left_right}
use Rattle.dy_lowering_law.proofs.parts.Selecting.{under}
use Rattle.dy_lowering_law.specs.fors.Loops.{TestDoes}
use Rattle.dy_lowered.specs.Turns.{Counter, leaves_if, tested, counted_body, counted_rest, counted_turn}
use Rattle.dy_lowering_law.proofs.fors.Leaving.{under_fits, under_inside, leap, Lands, place_to, leads}

pub bind_units : (place : Place) (value : Variant) (s : State) → (bind place value s).fuel.left ≡ s.fuel.left
bind_units (Own k false) value s = refl
bind_units (Own k true) value s = refl
bind_units (Captured k) value s = refl

last_row : (rows : List ObjectRow) (row : ObjectRow) → slice_get (rows ++ row ∷ []) (length rows) ≡ Some row
last_row [] row = refl
last_row (other ∷ rows) row = last_row rows row

module _ (program : Program) (n before locals : ℕ) where
  -- the value that a variable was bound to
  read_bound : (place : Place) → IsOwn locals place → (value : Variant) (s : State) → IsRight program locals s → read place (bind place value s) ≡ value
  read_bound (Own i false) own value s right =
      let here : suc i ≤ length s.frame.locals = subst (λ (l : ℕ). suc i ≤ l) (sym right.frame) own in
      get_or-set_same s.frame.locals i value (Truth false) here
  read_bound (Own i true) own value s right =
      let here : suc i ≤ length s.frame.locals = subst (λ (l : ℕ). suc i ≤ l) (sym right.frame) own in
      ap (λ (v : Variant). content (with_object s.store (object.Cell value)) v) (get_or-set_same s.frame.locals i (next_object s.store) (Truth false) here)
      ∙ ap (λ (row : Option ObjectRow). or_itself (cell_in row) (next_object s.store)) (last_row s.store.objects (object.Cell value))
  read_bound (Captured i) own value s right = absurd own

  -- from what lands somewhere on
  pub land_on : (c : Config) (x y : Spot) (p q : ℕ) (s : State) (o : Outcome) → Lands program c y p s
      → ((register : List Variant) (k : ℕ) → Comes (machine_of program) (standing (body_of program) y p register s k) (after (body_of program) x q o))
      → Comes (machine_of program) c (after (body_of program) x q o)
  land_on c x y p q s o lands next =
      comes_on (machine_of program) c (λ k. standing (body_of program) y p lands.register s k) (after (body_of program) x q o) lands.comes (λ k. next lands.register k)

  -- a variable is bound to the first value
  binds : (place : Place) → IsOwn locals place → (others : Code) (x : Spot) (p : ℕ) (value : Variant) (s : State) (k : ℕ) → IsRight program locals s
      → Holds (linked_program program) before x.running.body p (parts.put place ++ (parts.cell place ++ others))
      → Comes (machine_of program) (standing (body_of program) x p (value ∷ []) s k) (λ j. Goes (standing (body_of program) x (p + length (parts.put place) + length (parts.cell place)) (value ∷ []) (bind place value s) j))
  binds (Own i false) own others x p value s k right holds =
      let end : p + 1 ≡ p + 1 + 0 = omega arith in
      place_to program _ x (p + 1) (p + 1 + 0) (value ∷ []) (bind (Own i false) value s) end
      (comes_by (machine_of program) _ _ k (stepped (machine_of program) (body_of program) x p before (value ∷ []) s k (Plain (instr.SetLocal i)) others holds))
  binds (Own i true) own others x p value s k right holds =
      let m = machine_of program in
      let number = body_of program in
      let t = with_local i value s in
      let here : suc i ≤ length s.frame.locals = subst (λ (l : ℕ). suc i ≤ l) (sym right.frame) own in
      comes_behind m (standing number x p (value ∷ []) s k) (standing number x (p + 1) (value ∷ []) t k) _
      (stepped m number x p before (value ∷ []) s k (Plain (instr.SetLocal i)) (Plain (instr.NewCell i) ∷ others) holds)
      (comes_by m _ _ k (stepped m number x (p + 1) before (value ∷ []) t k (Plain (instr.NewCell i)) others holds.1
      ∙ ap (λ (u : State). Goes (record (standing number x (p + 1 + 1) (value ∷ []) t k) { state = u })) (bind_same number (Own i true) (value_at (slice_set s.frame.locals i value) i) t ∙ ap (λ (u : State). renumbered number u) (cell_bound i value s here))))
  binds (Captured i) own others x p value s k right holds = absurd own

  -- How a clause counts, where these lie among the operands: the test ends where the meaning does;
  -- and where the next number has 64 bits, it goes on with that, else it ends.
  abbrev pub Advances : Bool → Counter → List Variant → (ℤ → Type 0) → (number next : ℤ) → Config → Spot → (p d : ℕ) → State → Type 0
  Advances true clause lying Good number next c x p d s =
      Good next × Comes (machine_of program) c (λ j. Goes (standing (body_of program) (under lying x) (p + length (clause.advancing d)) (Int next ∷ []) s j))
  Advances false clause lying Good number next c x p d s = Lands program c (under (Int number ∷ lying) x) (p + length (clause.advancing d) + d) s

  pub record Counts (place : Place) (clause : Counter) (lying : List Variant) (limit : Option (Limit × ℤ)) (step : ℤ) (Good : ℤ → Type 0) : Type 0 where
    pub tests : (number : ℤ) → Good number → (x : Spot) (p d : ℕ) (s : State) (k : ℕ) → RowsFit x.running → IsRight program locals s → s.fuel.left ≤ n → read place s ≡ Int number
        → Holds (linked_program program) before x.running.body p (clause.testing place d)
        → Lands program (standing (body_of program) (under lying x) p (Int number ∷ []) s k) (under lying x) (p + length (clause.testing place d) + leap (is_over number limit step) d) s
    pub advances : (number : ℤ) → Good number → is_over number limit step ≡ false → (x : Spot) (p d : ℕ) (register : List Variant) (s : State) (k : ℕ) → RowsFit x.running → IsRight program locals s → s.fuel.left ≤ n
        → Holds (linked_program program) before x.running.body p (clause.advancing d)
        → Advances (fits (number +ℤ step)) clause lying Good number (number +ℤ step) (standing (body_of program) (under (Int number ∷ lying) x) p register s k) x p d s
    pub words : (number : ℤ) → Good number → fits number ≡ true
    pub left : Variant → List Variant
    pub away : (value : Variant) (x : Spot) (p : ℕ) (register : List Variant) (s : State) (k : ℕ)
        → act (machine_of program) (instr.Values (clause.hidden + 1)) (standing (body_of program) (under (value ∷ lying) x) p register s k) ≡ Goes (standing (body_of program) x p (left value) s k)

  -- a unit is spent at a spot inside of another
  pub tick_at : (y x : Spot) (place q : ℕ) (register : List Variant) (s : State) (k units : ℕ) (go : State → Outcome)
      → step (machine_of program) (standing (body_of program) y place register s k) ≡ effects.unit_from units (standing (body_of program) y (place + 1) register s k) Goes
      → ((left : ℕ) → units ≡ suc left → Comes (machine_of program) (standing (body_of program) y (place + 1) register (with_left left s) k) (after (body_of program) x q (go (with_left left s))))
      → Comes (machine_of program) (standing (body_of program) y place register s k) (after (body_of program) x q (unit_from units s go))
  tick_at y x place q register s k zero go does next = comes_by (machine_of program) _ _ k does
  tick_at y x place q register s k (suc left) go does next =
      comes_behind (machine_of program) _ (standing (body_of program) y (place + 1) register (with_left left s) k) _ does (next left refl)

  -- from a place to the same one
  pub starts_at : (y x : Spot) (p r q : ℕ) (register : List Variant) (s : State) (k : ℕ) (o : Outcome) → p ≡ r
      → Comes (machine_of program) (standing (body_of program) y p register s k) (after (body_of program) x q o) → Comes (machine_of program) (standing (body_of program) y r register s k) (after (body_of program) x q o)
  starts_at y x p r q register s k o e comes = subst (λ (place : ℕ). Comes (machine_of program) (standing (body_of program) y place register s k) (after (body_of program) x q o)) e comes

  -- the test of a loop, where more lies among the operands
  module _ (lying : List Variant) (x : Spot) (fit : RowsFit x.running) (q p distance : ℕ) (ends go : State → Outcome) where
    abbrev At : ℕ → List Variant → State → ℕ → Outcome → Type 0
    At place register s k o = Comes (machine_of program) (standing (body_of program) (under lying x) place register s k) (after (body_of program) x q o)

    abbrev Next : ℕ → ℕ → (State → Outcome) → Type 0
    Next place units to = (values : List Variant) (u : State) (j : ℕ) → u.fuel.left ≤ units → IsRight program locals u → At place values u j (to u)

    by_end : (c : Bool) (r : ℕ) (units : ℕ) (values : List Variant) (u : State) (j : ℕ) → u.fuel.left ≤ units → IsRight program locals u
        → (Next (r + distance) units ends) → (Next r units go)
        → Comes (machine_of program) (standing (body_of program) (under lying x) (r + leap c distance) values u j) (after (body_of program) x q (chosen c ends go u))
    by_end true r units values u j less right ending going = ending values u j less right
    by_end false r units values u j less right ending going =
        let e : r ≡ r + 0 = omega arith in
        starts_at (under lying x) x r (r + 0) q values u j (go u) e (going values u j less right)

    pub test_comes : (test : Option (Bool × Code)) (t : Option (Bool × Does)) → TestDoes program n before locals test t → (register : List Variant) (s : State) (k : ℕ) → IsRight program locals s → s.fuel.left ≤ n
        → Holds (linked_program program) before x.running.body p (tested test distance)
        → Next (p + length (tested test distance) + distance) s.fuel.left ends → Next (p + length (tested test distance)) s.fuel.left go
        → At p register s k (means.tested t (scope_of x) s ends go)
    test_comes None None does register s k right few holds ending going =
        let e : p + 0 ≡ p = omega arith in
        starts_at (under lying x) x (p + 0) p q register s k (go s) e (going register s k (omega arith) right)
    test_comes (Some test) (Some other) does register s k right few holds ending going =
        let m = machine_of program in
        let number = body_of program in
        let scope = scope_of x in
        let y = under lying x in
        let code = test.1 in
        let exits = leaves_if test.0 distance in
        let pc = p + length code in
        let less = does.1.falls scope s in
        let e1 : p + length (code ++ exits) + distance ≡ pc + length exits + distance = omega (arith, length-append code exits) in
        let e2 : p + length (code ++ exits) ≡ pc + length exits = omega (arith, length-append code exits) in
        let ending1 : Next (pc + length exits + distance) s.fuel.left ends = subst (λ (r : ℕ). Next r s.fuel.left ends) e1 ending in
        let going1 : Next (pc + length exits) s.fuel.left go = subst (λ (r : ℕ). Next r s.fuel.left go) e2 going in
        subst (λ (kind : Bool). At p register s k (and_then (other.1 scope s) (λ vs u. chosen (is_end kind (first vs)) ends go u))) does.0
        (then_comes m number program locals s.fuel.left (standing number y p register s k) y x pc q (other.1 scope s) (λ vs u. chosen (is_end test.0 (first vs)) ends go u) (under_inside program lying x fit)
        (does.1.runs y p register s k (holds_front (linked_program program) before x.running.body p code exits holds) (under_fits lying x fit) right few) less (does.1.keeps scope s right)
        (λ values u j low right1. comes_on m (standing number y pc values u j) (λ i. standing number y (pc + length exits + leap (is_end test.0 (first values)) distance) values u i) _
        (leads program before y pc distance values u j test.0 (holds_back (linked_program program) before x.running.body p code exits holds))
        (λ i. by_end (is_end test.0 (first values)) (pc + length exits) s.fuel.left values u i low right1 ending1 going1)))
    test_comes None (Some other) does register s k right few holds ending going = absurd does
    test_comes (Some test) None does register s k right few holds ending going = absurd does

  module _ (place : Place) (own : IsOwn locals place) (clause : Counter) (lying : List Variant) (limit : Option (Limit × ℤ)) (step : ℤ) (Good : ℤ → Type 0) (counts : Counts place clause lying limit step Good)
      (test : Option (Bool × Code)) (t : Option (Bool × Does)) (tests : TestDoes program n before locals test t) (inner : Code) (b : Does) (fb : Follows program n before locals inner b)
      (last : Code) (f : Does) (ff : Follows program n before locals last f) (x : Spot) (fit : RowsFit x.running) (start : ℕ) where
    abbrev whole : Code
    whole = counted_turn place clause test inner

    abbrev behind : Code
    behind = Jump (negsuc (length whole)) ∷ Plain instr.Push ∷ Plain (instr.Values (clause.hidden + 1)) ∷ last

    -- where no number lies there, where one does, and where all is done
    abbrev without : ℕ
    without = start + length whole + 1

    abbrev with_one : ℕ
    with_one = without + 1

    abbrev q : ℕ
    q = with_one + 1 + length last

    abbrev rest : Code
    rest = counted_rest place clause test inner

    abbrev turned : Code
    turned = counted_body place clause test inner

    abbrev far : ℕ
    far = length rest + 1

    abbrev p1 : ℕ
    p1 = start + length (parts.put place) + length (parts.cell place)

    abbrev p2 : ℕ
    p2 = p1 + length (clause.testing place far)

    abbrev p3 : ℕ
    p3 = p2 + length (parts.read place) + 1

    abbrev away_by : ℕ
    away_by = length turned + 2

    abbrev p4 : ℕ
    p4 = p3 + length (tested test away_by)

    abbrev p5 : ℕ
    p5 = p4 + 1 + length inner

    abbrev p6 : ℕ
    p6 = p5 + length (clause.advancing 2)

    module _ (holds : Holds (linked_program program) before x.running.body start (whole ++ behind)) where
      abbrev Ends : (c : Config) → Outcome → Type 0
      Ends c o = Comes (machine_of program) c (after (body_of program) x q o)

      h_turn : Holds (linked_program program) before x.running.body start whole
      h_turn = holds_front (linked_program program) before x.running.body start whole behind holds

      h_behind : Holds (linked_program program) before x.running.body (start + length whole) behind
      h_behind = holds_back (linked_program program) before x.running.body start whole behind holds

      h1 : Holds (linked_program program) before x.running.body p1 (clause.testing place far ++ rest)
      h1 = holds_back (linked_program program) before x.running.body (start + length (parts.put place)) (parts.cell place) (clause.testing place far ++ rest)
          (holds_back (linked_program program) before x.running.body start (parts.put place) (parts.cell place ++ (clause.testing place far ++ rest)) h_turn)

      h2 : Holds (linked_program program) before x.running.body p2 rest
      h2 = holds_back (linked_program program) before x.running.body p1 (clause.testing place far) rest h1

      h2_push : Holds (linked_program program) before x.running.body (p2 + length (parts.read place)) (Plain instr.Push ∷ (tested test away_by ++ turned))
      h2_push = holds_back (linked_program program) before x.running.body p2 (parts.read place) (Plain instr.Push ∷ (tested test away_by ++ turned)) h2

      h4 : Holds (linked_program program) before x.running.body p4 turned
      h4 = holds_back (linked_program program) before x.running.body p3 (tested test away_by) turned h2_push.1

      h5 : Holds (linked_program program) before x.running.body p5 (clause.advancing 2)
      h5 = holds_back (linked_program program) before x.running.body (p4 + 1) inner (clause.advancing 2) h4.1

      long : p6 ≡ start + length whole
      long = omega (
        arith,
        length-append (parts.put place) (parts.cell place ++ (clause.testing place far ++ rest)),
        length-append (parts.cell place) (clause.testing place far ++ rest),
        length-append (clause.testing place far) rest,
        length-append (parts.read place) (Plain instr.Push ∷ (tested test away_by ++ turned)),
        length-append (tested test away_by) turned,
        length-append inner (clause.advancing 2),
      )

      rest_long : p2 + length rest ≡ p6
      rest_long = omega (arith, length-append (parts.read place) (Plain instr.Push ∷ (tested test away_by ++ turned)), length-append (tested test away_by) turned, length-append inner (clause.advancing 2))

      turned_long : p4 + length turned ≡ p6
      turned_long = omega (arith, length-append inner (clause.advancing 2))

      -- an end with one operand more
      end_comes : (value : Variant) (p : ℕ) (register : List Variant) (s : State) (k : ℕ) → p ≡ with_one → IsRight program locals s → s.fuel.left ≤ n
          → Ends (standing (body_of program) (under (value ∷ lying) x) p register s k) (f (scope_of x) s)
      end_comes value p register s k e right few =
          let m = machine_of program in
          let number = body_of program in
          let y = under (value ∷ lying) x in
          let from : Comes m (standing number y with_one register s k) (after number x q (f (scope_of x) s)) =
          comes_behind m (standing number y with_one register s k) (standing number x (with_one + 1) (counts.left value) s k) _
          (stepped m number y with_one before register s k (Plain (instr.Values (clause.hidden + 1))) last h_behind.1.1 ∙ counts.away value x (with_one + 1) register s k)
          (ff.runs x (with_one + 1) (counts.left value) s k h_behind.1.1.1 fit right few) in
          subst (λ (r : ℕ). Comes m (standing number y r register s k) (after number x q (f (scope_of x) s))) (sym e) from

      -- an end without it
      over_comes : (p : ℕ) (register : List Variant) (s : State) (k : ℕ) → p ≡ without → IsRight program locals s → s.fuel.left ≤ n
          → Ends (standing (body_of program) (under lying x) p register s k) (f (scope_of x) s)
      over_comes p register s k e right few =
          let m = machine_of program in
          let number = body_of program in
          let from : Comes m (standing number (under lying x) without register s k) (after number x q (f (scope_of x) s)) =
          comes_behind m (standing number (under lying x) without register s k) (standing number (under (first register ∷ lying) x) with_one register s k) _
          (stepped m number (under lying x) without before register s k (Plain instr.Push) (Plain (instr.Values (clause.hidden + 1)) ∷ last) h_behind.1)
          (end_comes (first register) with_one register s k refl right few) in
          subst (λ (r : ℕ). Comes m (standing number (under lying x) r register s k) (after number x q (f (scope_of x) s))) (sym e) from

      -- The variable is bound, and the clause is tested; then more follows, where the number lies among the operands.
      module _ (number : ℤ) (good : Good number) where
        abbrev y : Spot
        y = under (Int number ∷ lying) x

        abbrev Next_to : State → (State → Outcome) → Type 0
        Next_to u go = is_over number limit step ≡ false → (register : List Variant) (j : ℕ) → Comes (machine_of program) (standing (body_of program) y p3 register u j) (after (body_of program) x q (go u))

        over_or : (c : Bool) → is_over number limit step ≡ c → (from : Config) (u : State) (go : State → Outcome) → IsRight program locals u → u.fuel.left ≤ n → read place u ≡ Int number
            → Lands program from (under lying x) (p2 + leap c far) u → Next_to u go → Comes (machine_of program) from (after (body_of program) x q (chosen (c || false) (f (scope_of x)) go u))
        over_or true same from u go right few is lands next =
            let there : p2 + far ≡ without = omega (arith, rest_long, long) in
            land_on from x (under lying x) (p2 + far) q u (f (scope_of x) u) lands (λ register j. over_comes (p2 + far) register u j there right few)
        over_or false same from u go right few is lands next =
            let m = machine_of program in
            let number1 = body_of program in
            let z = under lying x in
            let at = p2 + length (parts.read place) in
            let e : p2 ≡ p2 + 0 = omega arith in
            land_on from x z (p2 + 0) q u (go u) lands (λ register j. starts_at z x p2 (p2 + 0) q register u j (go u) e
            (comes_on m (standing number1 z p2 register u j) (λ i. standing number1 z at (read place u ∷ []) u i) (after number1 x q (go u))
            ((read_follows program n before locals place).runs z p2 register u j (holds_front (linked_program program) before x.running.body p2 (parts.read place) (Plain instr.Push ∷ (tested test away_by ++ turned)) h2) (under_fits lying x fit) right few)
            (λ i. comes_behind m (standing number1 z at (read place u ∷ []) u i) (standing number1 (under (read place u ∷ lying) x) p3 (read place u ∷ []) u i) (after number1 x q (go u))
            (stepped m number1 z at before (read place u ∷ []) u i (Plain instr.Push) (tested test away_by ++ turned) h2_push)
            (subst (λ (v : Variant). Comes m (standing number1 (under (v ∷ lying) x) p3 (read place u ∷ []) u i) (after number1 x q (go u))) (sym is) (next same (read place u ∷ []) i)))))

        framed_comes : (go : State → Outcome) (s : State) (k : ℕ) → IsRight program locals s → s.fuel.left ≤ n → Next_to (bind place (Int number) s) go
            → Comes (machine_of program) (standing (body_of program) (under lying x) start (Int number ∷ []) s k) (after (body_of program) x q (chosen (is_over number limit step || false) (f (scope_of x)) go (bind place (Int number) s)))
        framed_comes go s k right few next =
            let m = machine_of program in
            let number1 = body_of program in
            let z = under lying x in
            let u = bind place (Int number) s in
            let right1 = bind_right program n before locals place (Int number) (counts.words number good) s right in
            let few1 : u.fuel.left ≤ n = omega (arith, few, bind_units place (Int number) s) in
            let is = read_bound place own (Int number) s right in
            comes_on m (standing number1 z start (Int number ∷ []) s k) (λ j. standing number1 z p1 (Int number ∷ []) u j) _
            (binds place own (clause.testing place far ++ rest) z start (Int number) s k right h_turn)
            (λ j. over_or (is_over number limit step) refl (standing number1 z p1 (Int number ∷ []) u j) u go right1 few1 is
            (counts.tests number good x p1 far u j fit right1 few1 is (holds_front (linked_program program) before x.running.body p1 (clause.testing place far) rest h1)) next)

      -- a number goes on, or the loop ends
      going : (c : Bool) (next number : ℤ) (turns : ℕ) (register : List Variant) (w : State) (i : ℕ) → IsRight program locals w → w.fuel.left ≤ n
          → Advances c clause lying Good number next (standing (body_of program) (under (Int number ∷ lying) x) p5 register w i) x p5 2 w
          → ((good : Good next) (j : ℕ) → Ends (standing (body_of program) (under lying x) start (Int next ∷ []) w j) (for_turns turns (Counting place next limit step ∷ []) t b f (scope_of x) w))
          → Ends (standing (body_of program) (under (Int number ∷ lying) x) p5 register w i) (chosen c (λ z. for_turns turns (Counting place next limit step ∷ []) t b f (scope_of x) z) (f (scope_of x)) w)
      going true next number turns register w i right few advances more =
          let m = machine_of program in
          let number1 = body_of program in
          let z = under lying x in
          let back : p6 - length whole ≡ start = omega (arith, long) in
          comes_on m _ (λ j. standing number1 z p6 (Int next ∷ []) w j) _ advances.1
          (λ j. comes_behind m (standing number1 z p6 (Int next ∷ []) w j) (standing number1 z start (Int next ∷ []) w j) _
          (stepped m number1 z p6 before (Int next ∷ []) w j (Jump (negsuc (length whole))) (Plain instr.Push ∷ Plain (instr.Values (clause.hidden + 1)) ∷ last) (subst (λ (r : ℕ). Holds (linked_program program) before x.running.body r behind) (sym long) h_behind)
          ∙ ap (λ (r : ℕ). Goes (standing number1 z r (Int next ∷ []) w j)) back)
          (more advances.0 j))
      going false next number turns register w i right few advances more =
          let there : p6 + 2 ≡ with_one = omega (arith, long) in
          land_on _ x (under (Int number ∷ lying) x) (p6 + 2) q w (f (scope_of x) w) advances (λ r j. end_comes (Int number) (p6 + 2) r w j there right few)

      -- the test, where the number lies there
      module _ (number : ℤ) where
        turn_test : (go : State → Outcome) (register : List Variant) (s : State) (k : ℕ) → IsRight program locals s → s.fuel.left ≤ n
            → ((values : List Variant) (u : State) (j : ℕ) → u.fuel.left ≤ s.fuel.left → IsRight program locals u → Ends (standing (body_of program) (under (Int number ∷ lying) x) p4 values u j) (go u))
            → Ends (standing (body_of program) (under (Int number ∷ lying) x) p3 register s k) (means.tested t (scope_of x) s (f (scope_of x)) go)
        turn_test go register s k right few next =
            let there : p4 + away_by ≡ with_one = omega (arith, turned_long, long) in
            test_comes (Int number ∷ lying) x fit q p3 away_by (f (scope_of x)) go test t tests register s k right few
            (holds_front (linked_program program) before x.running.body p3 (tested test away_by) turned h2_push.1)
            (λ values u j less right1. end_comes (Int number) (p4 + away_by) values u j there right1 (omega (arith, less, few))) next

      pub turns_come : (turns : ℕ) (number : ℤ) → Good number → (s : State) (k : ℕ) → IsRight program locals s → s.fuel.left ≤ n → s.fuel.left ≤ turns
          → Ends (standing (body_of program) (under lying x) start (Int number ∷ []) s k) (for_turns turns (Counting place number limit step ∷ []) t b f (scope_of x) s)
      turns_come zero number good s k right few most =
          let m = machine_of program in
          let number1 = body_of program in
          let y = under (Int number ∷ lying) x in
          let s1 = bind place (Int number) s in
          let right1 = bind_right program n before locals place (Int number) (counts.words number good) s right in
          let units = bind_units place (Int number) s in
          let few1 : s1.fuel.left ≤ n = omega (arith, few, units) in
          framed_comes number good (λ v. means.tested t (scope_of x) v (f (scope_of x)) exhausted) s k right few (λ goes register j.
          turn_test number exhausted register s1 j right1 few1 (λ values u i less right2.
          subst (λ (o : Outcome). Comes m (standing number1 y p4 values u i) (after number1 x q o)) (no_unit u exhausted (omega (arith, less, units, most)))
          (tick_at y x p4 q values u i u.fuel.left exhausted (stepped m number1 y p4 before values u i (Plain instr.Tick) (inner ++ clause.advancing 2) h4)
          (λ left e. absurd (omega (arith, e, less, units, most))))))
      turns_come (suc turns) number good s k right few most =
          let m = machine_of program in
          let number1 = body_of program in
          let scope = scope_of x in
          let y = under (Int number ∷ lying) x in
          let s1 = bind place (Int number) s in
          let right1 = bind_right program n before locals place (Int number) (counts.words number good) s right in
          let units = bind_units place (Int number) s in
          let few1 : s1.fuel.left ≤ n = omega (arith, few, units) in
          let advance : List Variant → State → Outcome = λ vs v. means.advanced (Counting place number limit step ∷ []) scope v (f scope) (λ others w. for_turns turns others t b f scope w) in
          let go : State → Outcome = λ v. and_then (b scope v) advance in
          framed_comes number good (λ v. means.tested t scope v (f scope) (λ w. spend_unit w go)) s k right few (λ goes register j.
          turn_test number (λ w. spend_unit w go) register s1 j right1 few1 (λ values u i less right2.
          tick_at y x p4 q values u i u.fuel.left go (stepped m number1 y p4 before values u i (Plain instr.Tick) (inner ++ clause.advancing 2) h4)
          (λ left e. let right3 = left_right program n before locals left u right2 in
          then_comes m number1 program locals left (standing number1 y (p4 + 1) values (with_left left u) i) y x p5 q (b scope (with_left left u)) advance (under_inside program (Int number ∷ lying) x fit)
          (fb.runs y (p4 + 1) values (with_left left u) i (holds_front (linked_program program) before x.running.body (p4 + 1) inner (clause.advancing 2) h4.1) (under_fits (Int number ∷ lying) x fit) right3 (omega (arith, e, less, units, few)))
          (fb.falls scope (with_left left u)) (fb.keeps scope (with_left left u) right3)
          (λ ws w l fewer right4. going (fits (number +ℤ step)) (number +ℤ step) number turns ws w l right4 (omega (arith, fewer, e, less, units, few))
          (counts.advances number good goes x p5 2 ws w l fit right4 (omega (arith, fewer, e, less, units, few)) h5)
          (λ good1 o. turns_come turns (number +ℤ step) good1 w o right4 (omega (arith, fewer, e, less, units, few)) (omega (arith, fewer, e, less, units, most)))))))
