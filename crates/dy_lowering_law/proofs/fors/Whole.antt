-- A loop of one clause that counts, from what is evaluated first to its end.
use Rattle.std.proofs.Common.{◌≡◌, ℕ, zero, suc, ◌+◌, ◌≤◌, Bool, true, false, ◌||◌, ℤ, ◌+ℤ◌, pos, negsuc, List, [], ◌∷◌, ◌++◌, length, refl, sym, ap, ◌∙◌, arith, length-append}
use Rattle.std.specs.declared.option.Option.{Option}
use Rattle.std.specs.declared.option.Option.TheVariants.{None, Some}
use Rattle.dy_term.specs.declared.literal.Literal.{Literal-F, roll-Literal}
use Rattle.dy_term.specs.declared.term.Limit.{Limit}
use Rattle.dy_term.specs.declared.rows.Program.{Program}
use Rattle.dy_values.specs.declared.value.Variant.{Variant}
use Rattle.dy_values.specs.declared.value.Variant.TheVariants.{Int}
use Rattle.dy_types.specs.Classes.{integer}
use Rattle.dy_values.specs.Errors.{wrong_class}
use Rattle.dy_values.specs.Spending.{first}
use Rattle.dy_outcome.specs.declared.state.State.{State}
use Rattle.dy_outcome.specs.declared.place.Place.{Place}
use Rattle.dy_outcome.specs.States.{Outcome, Ended, Does, Scope, and_then, spend_unit, exhausted}
use Rattle.dy_outcome.specs.Nearness.{NeverRises}
use Rattle.dy_outcome.specs.Calls.{calls_within}
use Rattle.dy_outcome.specs.Choices.{chosen}
use Rattle.dy_outcome.specs.Places.{bind}
use Rattle.dy_outcome.specs.Turns as means
use Rattle.dy_outcome.specs.Turns.{Counting, number_in, number_of, limit_of, step_of, is_over, is_end, fits, for_turns}
use Rattle.dy_outcome.proofs.Alike.{HeldAlike}
use Rattle.dy_outcome.proofs.Near.{unit_near, itself_near}
use Rattle.dy_outcome.proofs.Turning.{TestAlike, LimitAlike, counts, for_alike}
use Rattle.dy_outcome.proofs.Whole.{itself_alike}
use Rattle.dy_meaning.specs.Meaning.{literal, no_number}
use Rattle.dy_meaning.specs.Programs.{world}
use Rattle.dy_code.specs.Fetching as instr
use Rattle.dy_lowered.specs.Flat.{Plain, Jump, Code}
use Rattle.dy_lowering_law.specs.Force.{RowsFit}
use Rattle.dy_lowering_law.specs.Following.{Spot, scope_of, standing, after, Comes, Holds, IsWord, IsRight, IsRightAfter, Follows}
use Rattle.dy_lowering_law.specs.Machines.{linked_program, machine_of}
use Rattle.dy_lowering_law.specs.Renumbering.{body_of}
use Rattle.dy_lowering_law.proofs.Leading.{ends_at, holds_front, holds_back}
use Rattle.dy_lowering_law.proofs.Cases.{then_keeps, then_keeps_words, first_word, chosen_keeps}
use Rattle.dy_lowering_law.proofs.Literals.{truth_follows}
use Rattle.dy_lowering_law.specs.parts.Lets.{IsOwn}
use Rattle.dy_lowering_law.specs.parts.Selects.{HeldDo}
use Rattle.dy_lowering_law.proofs.parts.Binding.{bind_right}
use Rattle.dy_lowering_law.proofs.parts.Looping.{with_left, unit_keeps, left_right}
use Rattle.dy_lowering_law.proofs.parts.Selecting.{under}
use Rattle.dy_lowering_law.specs.fors.Loops.{TestDoes}
use Rattle.dy_lowered.specs.Turns.{Counter, counted_turn, counted, finished}
use Rattle.dy_lowering_law.proofs.fors.Starting.{literal_is}
use Rattle.dy_lowering_law.proofs.fors.Turning.{Counts, turns_come}

module _ (program : Program) (n before locals limit : ℕ) where
  abbrev wrong : Variant → Does
  wrong = no_number (calls_within (world program) limit)

  -- a number that is known
  pub known_is : (value : ℤ) (does : Does) → does ≡ literal (roll-Literal (Literal-F.Int value)) → (scope : Scope) (s : State) (go : ℤ → State → Outcome) → go value s ≡ number_of wrong does scope s go
  known_is value does same scope s go =
      sym (ap (λ (d : Does). number_of wrong d scope s go) same ∙ ap (λ (o : Outcome). and_then o (λ vs t. number_in wrong (first vs) scope t go)) (literal_is value scope s))

  pub wrong_falls : (value : Variant) → NeverRises (wrong value)
  wrong_falls value scope s =
      let go : State → Outcome = λ t. Ended ((world program).line t.store (wrong_class value integer)) t in
      (unit_near 0 s go go (λ t. itself_near 0 t.fuel.left (Ended ((world program).line t.store (wrong_class value integer)) t) (omega arith))).falls

  -- states stay right
  pub number_keeps : (value : Variant) → IsWord value → (scope : Scope) (s : State) (go : ℤ → State → Outcome) → IsRight program locals s → ((number : ℤ) → fits number ≡ true → IsRightAfter program locals (go number s)) → IsRightAfter program locals (number_in wrong value scope s go)
  number_keeps (Int number) word scope s go right next = next number word
  number_keeps value word scope s go right next = unit_keeps program n before locals s.fuel.left s _ (λ left. tt)

  pub number_of_keeps : (does : Does) → ((scope : Scope) (s : State) → IsRight program locals s → IsRightAfter program locals (does scope s)) → (scope : Scope) (s : State) (go : ℤ → State → Outcome) → IsRight program locals s
      → ((number : ℤ) (t : State) → fits number ≡ true → IsRight program locals t → IsRightAfter program locals (go number t)) → IsRightAfter program locals (number_of wrong does scope s go)
  number_of_keeps does keeps scope s go right next =
      then_keeps_words program locals (does scope s) (λ vs t. number_in wrong (first vs) scope t go) (keeps scope s right) (λ vs t right1 words. number_keeps (first vs) (first_word vs words) scope t go right1 (λ number word. next number t word right1))

  -- where something is chosen, it is known to be so
  pub chosen_so : (b : Bool) (one other : State → Outcome) (s : State) → (b ≡ true → IsRightAfter program locals (one s)) → IsRightAfter program locals (other s) → IsRightAfter program locals (chosen b one other s)
  chosen_so true one other s h g = h refl
  chosen_so false one other s h g = g

  -- what terms do that are evaluated once keeps states right, and adds no units
  abbrev pub Plain_does : Does → Type 0
  Plain_does does = NeverRises does × ((scope : Scope) (s : State) → IsRight program locals s → IsRightAfter program locals (does scope s))

  abbrev pub Held : Option Does → Type 0
  Held None = Unit {0}
  Held (Some does) = Plain_does does

  abbrev pub Limited : Option (Limit × Does) → Type 0
  Limited None = Unit {0}
  Limited (Some limit) = Plain_does limit.1

  pub limit_keeps : (l : Option (Limit × Does)) → Limited l → (scope : Scope) (s : State) (go : Option (Limit × ℤ) → State → Outcome) → IsRight program locals s
      → ((bound : Option (Limit × ℤ)) (t : State) → IsRight program locals t → IsRightAfter program locals (go bound t)) → IsRightAfter program locals (limit_of wrong l scope s go)
  limit_keeps None plain scope s go right next = next None s right
  limit_keeps (Some l) plain scope s go right next = number_of_keeps l.1 plain.1 scope s (λ number t. go (Some (l.0, number)) t) right (λ number t word right1. next (Some (l.0, number)) t right1)

  pub step_keeps : (d : Option Does) → Held d → (scope : Scope) (s : State) (go : ℤ → State → Outcome) → IsRight program locals s
      → ((number : ℤ) (t : State) → IsRight program locals t → IsRightAfter program locals (go number t)) → IsRightAfter program locals (step_of wrong d scope s go)
  step_keeps None plain scope s go right next = next (pos 1) s right
  step_keeps (Some d) plain scope s go right next = number_of_keeps d plain.1 scope s go right (λ number t word right1. next number t right1)

  pub test_keeps : (test : Option (Bool × Code)) (t : Option (Bool × Does)) → TestDoes program n before locals test t → (scope : Scope) (s : State) (ends go : State → Outcome) → IsRight program locals s
      → ((u : State) → IsRight program locals u → IsRightAfter program locals (ends u)) → ((u : State) → IsRight program locals u → IsRightAfter program locals (go u)) → IsRightAfter program locals (means.tested t scope s ends go)
  test_keeps None None does scope s ends go right over on = on s right
  test_keeps (Some test) (Some other) does scope s ends go right over on =
      then_keeps program locals (other.1 scope s) _ (does.1.keeps scope s right) (λ vs u right1. chosen_keeps program n before locals (is_end other.0 (first vs)) ends go u (over u right1) (on u right1))
  test_keeps None (Some other) does scope s ends go right over on = absurd does
  test_keeps (Some test) None does scope s ends go right over on = absurd does

  module _ (place : Place) (own : IsOwn locals place) (clause : Counter) (a : Does) (l : Option (Limit × Does)) (st : Option Does) (one : Plain_does a) (two : Limited l) (three : Held st)
      (test : Option (Bool × Code)) (t : Option (Bool × Does)) (tests : TestDoes program n before locals test t) (inner : Code) (b : Does) (fb : Follows program n before locals inner b)
      (last : Option Code) (f : Option Does) (lasts : HeldDo program n before locals last f) where
    abbrev whole : Does
    whole = means.for_loop wrong (means.Counts place a l st ∷ []) t b f

    last_follows : (code : Option Code) (does : Option Does) → HeldDo program n before locals code does → Follows program n before locals (finished code) (means.finished does)
    last_follows None None held = truth_follows program n before locals false
    last_follows (Some code) (Some does) held = held
    last_follows None (Some does) held = absurd held
    last_follows (Some code) None held = absurd held

    ff : Follows program n before locals (finished last) (means.finished f)
    ff = last_follows last f lasts

    turns_keep : (turns : ℕ) (number : ℤ) → fits number ≡ true → (bound : Option (Limit × ℤ)) (step : ℤ) (scope : Scope) (s : State) → IsRight program locals s
        → IsRightAfter program locals (for_turns turns (Counting place number bound step ∷ []) t b (means.finished f) scope s)
    turns_keep zero number word bound step scope s right =
        let s1 = bind place (Int number) s in
        let right1 = bind_right program n before locals place (Int number) word s right in
        chosen_keeps program n before locals (is_over number bound step || false) (means.finished f scope) (λ u. means.tested t scope u (means.finished f scope) exhausted) s1 (ff.keeps scope s1 right1)
        (test_keeps test t tests scope s1 (means.finished f scope) exhausted right1 (λ u right2. ff.keeps scope u right2) (λ u right2. tt))
    turns_keep (suc turns) number word bound step scope s right =
        let s1 = bind place (Int number) s in
        let right1 = bind_right program n before locals place (Int number) word s right in
        let advance : List Variant → State → Outcome = λ vs v. means.advanced (Counting place number bound step ∷ []) scope v (means.finished f scope) (λ others w. for_turns turns others t b (means.finished f) scope w) in
        let go : State → Outcome = λ v. and_then (b scope v) advance in
        chosen_keeps program n before locals (is_over number bound step || false) (means.finished f scope) (λ u. means.tested t scope u (means.finished f scope) (λ w. spend_unit w go)) s1 (ff.keeps scope s1 right1)
        (test_keeps test t tests scope s1 (means.finished f scope) (λ w. spend_unit w go) right1 (λ u right2. ff.keeps scope u right2)
        (λ u right2. unit_keeps program n before locals u.fuel.left u go (λ left.
        then_keeps program locals (b scope (with_left left u)) advance (fb.keeps scope (with_left left u) (left_right program n before locals left u right2))
        (λ ws v right3. chosen_so (fits (number +ℤ step)) (λ w. for_turns turns (Counting place (number +ℤ step) bound step ∷ []) t b (means.finished f) scope w) (means.finished f scope) v
        (λ word1. turns_keep turns (number +ℤ step) word1 bound step scope v right3) (ff.keeps scope v right3)))))

    whole_keeps : (scope : Scope) (s : State) → IsRight program locals s → IsRightAfter program locals (whole scope s)
    whole_keeps scope s right =
        number_of_keeps a one.1 scope s _ right (λ number s1 word right1. limit_keeps l two scope s1 _ right1 (λ bound s2 right2. step_keeps st three scope s2 _ right2 (λ by s3 right3. turns_keep s3.fuel.left number word bound by scope s3 right3)))

    held_alike : (d : Option Does) → Held d → HeldAlike 0 d d
    held_alike None plain = tt
    held_alike (Some d) plain = itself_alike 0 d plain.0

    limit_alike : (d : Option (Limit × Does)) → Limited d → LimitAlike 0 d d
    limit_alike None plain = tt
    limit_alike (Some d) plain = (refl, itself_alike 0 d.1 plain.0)

    test_alike : (c : Option (Bool × Code)) (d : Option (Bool × Does)) → TestDoes program n before locals c d → TestAlike 0 d d
    test_alike None None does = tt
    test_alike (Some c) (Some d) does = (refl, itself_alike 0 d.1 does.1.falls)
    test_alike None (Some d) does = absurd does
    test_alike (Some c) None does = absurd does

    last_alike : (c : Option Code) (d : Option Does) → HeldDo program n before locals c d → HeldAlike 0 d d
    last_alike None None does = tt
    last_alike (Some c) (Some d) does = itself_alike 0 d does.falls
    last_alike None (Some d) does = absurd does
    last_alike (Some c) None does = absurd does

    whole_falls : NeverRises whole
    whole_falls scope s =
        (for_alike 0 wrong wrong (λ value. itself_alike 0 (wrong value) (wrong_falls value)) (means.Counts place a l st ∷ []) (means.Counts place a l st ∷ [])
        (counts place a a l l st st (itself_alike 0 a one.0) (limit_alike l two) (held_alike st three), tt) t t (test_alike test t tests) b b (itself_alike 0 b fb.falls) f f (last_alike last f lasts) scope s).falls

    -- What is evaluated first comes to where the clause counts, with its number in the register.
    pub record Begins : Type 1 where
      pub begins : (x : Spot) (p q : ℕ) (register : List Variant) (s : State) (k : ℕ) (go : ℤ → Option (Limit × ℤ) → ℤ → State → Outcome) → RowsFit x.running → IsRight program locals s → s.fuel.left ≤ n
          → Holds (linked_program program) before x.running.body p clause.starting
          → ((number : ℤ) (bound : Option (Limit × ℤ)) (step : ℤ) (lying : List Variant) (Good : ℤ → Type 0) → Counts program n before locals place clause lying bound step Good → Good number → (u : State) (j : ℕ) → u.fuel.left ≤ n → IsRight program locals u
          → Comes (machine_of program) (standing (body_of program) (under lying x) (p + length clause.starting) (Int number ∷ []) u j) (after (body_of program) x q (go number bound step u)))
          → Comes (machine_of program) (standing (body_of program) x p register s k) (after (body_of program) x q
          (number_of wrong a (scope_of x) s (λ number s1. limit_of wrong l (scope_of x) s1 (λ bound s2. step_of wrong st (scope_of x) s2 (λ by s3. go number bound by s3)))))

    pub counted_follows : Begins → Follows program n before locals (counted place clause test inner last) whole
    counted_follows starts = record {
      falls = whole_falls;
      keeps = whole_keeps;
      runs = λ x p register s k holds fit right few.
          let turn = counted_turn place clause test inner in
          let back : Code = Jump (negsuc (length turn)) ∷ Plain instr.Push ∷ Plain (instr.Values (clause.hidden + 1)) ∷ finished last in
          let start = p + length clause.starting in
          let q = start + length turn + 1 + 1 + 1 + length (finished last) in
          let end : q ≡ p + length (counted place clause test inner last) = omega (arith, length-append clause.starting (turn ++ back), length-append turn back) in
          ends_at (machine_of program) (body_of program) (standing (body_of program) x p register s k) x q (p + length (counted place clause test inner last)) (whole (scope_of x) s) end
          (starts.begins x p q register s k (λ number bound by u. for_turns u.fuel.left (Counting place number bound by ∷ []) t b (means.finished f) (scope_of x) u) fit right few
          (holds_front (linked_program program) before x.running.body p clause.starting (turn ++ back) holds)
          (λ number bound step lying Good counting good u j few1 right1.
          turns_come program n before locals place own clause lying bound step Good counting test t tests inner b fb (finished last) (means.finished f) ff x fit start
          (holds_back (linked_program program) before x.running.body p clause.starting (turn ++ back) holds) u.fuel.left number good u j right1 few1 (omega arith)));
    }
