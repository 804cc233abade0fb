-- What the clauses of a loop keep among the operands, and their tests.
use Rattle.std.proofs.Common.{◌≡◌, ℕ, ◌+◌, ◌≤◌, Bool, true, false, ◌||◌, ℤ, pos, List, [], ◌∷◌, ◌++◌, append_assoc, length, refl, sym, ap, ◌∙◌, subst, arith, length-append}
use Rattle.std.specs.Prelude.{int_lt, if◌then◌else◌}
use Rattle.std.specs.declared.option.Option.{Option}
use Rattle.std.specs.declared.option.Option.TheVariants.{None, Some}
use Rattle.dy_term.specs.declared.term.Limit.{Limit}
use Rattle.dy_term.specs.declared.term.Limit.TheVariants.{To, Above, Below}
use Rattle.dy_term.specs.declared.rows.Program.{Program}
use Rattle.dy_values.specs.declared.value.Variant.{Variant}
use Rattle.dy_values.specs.declared.value.Variant.TheVariants.{Int, Bool as Truth}
use Rattle.dy_values.specs.Spending.{first}
use Rattle.dy_outcome.specs.declared.state.State.{State}
use Rattle.dy_outcome.specs.declared.place.Place.{Place}
use Rattle.dy_outcome.specs.Turns.{Going, Taking, Counting, is_over, is_past, are_over, is_end, fits}
use Rattle.dy_steps.specs.Configurations.{Step}
use Rattle.dy_lowered.specs.Flat.{Code}
use Rattle.dy_lowered.specs.Parts.{choice}
use Rattle.dy_lowered.specs.Turns.{Amount, Known, Given, Clause, Takes, Counts, number as number_code, less, operands, all_operands, its_step, its_bound, its_number, lower_bound, upper_bound, limit_reached, testing, tests, leaves_if}
use Rattle.dy_lowering_law.specs.Force.{RowsFit}
use Rattle.dy_lowering_law.specs.Following.{Spot, standing, Comes, Holds, IsWord, IsRight, Follows}
use Rattle.dy_lowering_law.specs.Machines.{linked_program, machine_of}
use Rattle.dy_lowering_law.specs.Renumbering.{body_of}
use Rattle.dy_lowering_law.proofs.Leading.{comes_on, holds_front, holds_back}
use Rattle.dy_lowering_law.specs.parts.Lets.{IsOwn}
use Rattle.dy_lowering_law.proofs.parts.Selecting.{under}
use Rattle.dy_lowering_law.proofs.fors.Computing.{Computes, under_append, goes_at, number_computes, same_computes, operand_computes, less_computes, choice_computes}
use Rattle.dy_lowering_law.proofs.fors.Leaving.{under_fits, leap, leads}
use Rattle.dy_lowering_law.proofs.fors.Words.{le_not}

-- the bound of a clause, which is `#f` where there is none
abbrev pub bound_value : Option (Limit × ℤ) → Variant
bound_value None = Truth false
bound_value (Some bound) = Int bound.1

-- the operands of a clause that counts, the last one first
abbrev pub three : (step : ℤ) → Variant → (number : ℤ) → List Variant
three step bound number = Int step ∷ bound ∷ Int number ∷ []

-- those of a clause under way, and of several, of which the last one lies on top
abbrev pub lies_of : Going → List Variant
lies_of (Taking place value next) = value ∷ []
lies_of (Counting place number bound step) = three step (bound_value bound) number

abbrev pub lies : List Going → List Variant
lies [] = []
lies (going ∷ others) = lies others ++ lies_of going

-- the last operand, to which the variable is bound, and those above it
abbrev pub lead_of : Going → Variant
lead_of (Taking place value next) = value
lead_of (Counting place number bound step) = Int number

abbrev pub above_lead : Going → List Variant
above_lead (Taking place value next) = []
above_lead (Counting place number bound step) = Int step ∷ bound_value bound ∷ []

abbrev pub place_in : Going → Place
place_in (Taking place value next) = place
place_in (Counting place number bound step) = place

abbrev pub is_over_one : Going → Bool
is_over_one (Taking place value next) = false
is_over_one (Counting place number bound step) = is_over number bound step

pub lies_lead : (going : Going) → lies_of going ≡ above_lead going ++ lead_of going ∷ []
lies_lead (Taking place value next) = refl
lies_lead (Counting place number bound step) = refl

pub over_or : (going : Going) (others : List Going) → are_over (going ∷ others) ≡ is_over_one going || are_over others
over_or (Taking place value next) others = refl
over_or (Counting place number bound step) others = refl

-- the bound and the step of a clause are those of the code
abbrev pub IsBound : Option (Limit × Amount) → Option (Limit × ℤ) → Type 0
IsBound None None = Unit {0}
IsBound (Some limit) (Some bound) = limit.0 ≡ bound.0
IsBound limit bound = ⊥

abbrev pub IsStep : Amount → ℤ → Type 0
IsStep (Known value) step = value ≡ step
IsStep (Given code) step = Unit {0}

module _ (program : Program) (n before locals : ℕ) where
  -- a clause of the code is under way so
  abbrev pub Keeps : Clause → Going → Type 0
  Keeps (Takes place start next) (Taking other value does) = (place ≡ other) × IsOwn locals place × Follows program n before locals next does × IsWord value
  Keeps (Counts place start limit step) (Counting other number bound by) =
      (place ≡ other) × IsOwn locals place × (fits number ≡ true) × (fits by ≡ true) × IsBound limit bound × IsStep step by
  Keeps clause going = ⊥

  abbrev pub AllKeep : List Clause → List Going → Type 0
  AllKeep [] [] = Unit {0}
  AllKeep (clause ∷ clauses) (going ∷ others) = Keeps clause going × AllKeep clauses others
  AllKeep clauses all = ⊥

  pub one_long : (clause : Clause) (going : Going) → Keeps clause going → length (lies_of going) ≡ operands clause
  one_long (Takes place start next) (Taking other value does) keeps = refl
  one_long (Counts place start limit step) (Counting other number bound by) keeps = refl
  one_long (Takes place start next) (Counting other number bound by) keeps = absurd keeps
  one_long (Counts place start limit step) (Taking other value does) keeps = absurd keeps

  pub all_long : (clauses : List Clause) (all : List Going) → AllKeep clauses all → length (lies all) ≡ all_operands clauses
  all_long [] [] keep = refl
  all_long (clause ∷ clauses) (going ∷ others) keep =
      let one = one_long clause going keep.0 in
      let more = all_long clauses others keep.1 in
      omega (arith, one, more, length-append (lies others) (lies_of going))
  all_long [] (going ∷ others) keep = absurd keep
  all_long (clause ∷ clauses) [] keep = absurd keep

  -- the variables are bound to values of 64 bits
  pub one_word : (clause : Clause) (going : Going) → Keeps clause going → IsWord (lead_of going)
  one_word (Takes place start next) (Taking other value does) keeps = keeps.3
  one_word (Counts place start limit step) (Counting other number bound by) keeps = keeps.2
  one_word (Takes place start next) (Counting other number bound by) keeps = absurd keeps
  one_word (Counts place start limit step) (Taking other value does) keeps = absurd keeps

  abbrev pub AllWords : List Going → Type 0
  AllWords [] = Unit {0}
  AllWords (going ∷ others) = IsWord (lead_of going) × AllWords others

  pub all_words : (clauses : List Clause) (all : List Going) → AllKeep clauses all → AllWords all
  all_words [] [] keep = tt
  all_words (clause ∷ clauses) (going ∷ others) keep = (one_word clause going keep.0, all_words clauses others keep.1)
  all_words [] (going ∷ others) keep = absurd keep
  all_words (clause ∷ clauses) [] keep = absurd keep

  abbrev pub Gives : List Variant → Code → Variant → Type 0
  Gives = Computes program n before locals

  -- the operands of a clause that counts, where others lie above
  module _ (top : List Variant) (above : ℕ) (long : length top ≡ above) (step : ℤ) (bound : Variant) (number : ℤ) where
    pub step_shown : Gives (top ++ three step bound number) (its_step above) (Int step)
    step_shown =
        operand_computes program n before locals (top ++ three step bound number) top (bound ∷ Int number ∷ []) (Int step) (above + 1)
        (sym (append_assoc top (Int step ∷ []) (bound ∷ Int number ∷ []))) (omega (arith, long))

    pub bound_shown : Gives (top ++ three step bound number) (its_bound above) bound
    bound_shown =
        operand_computes program n before locals (top ++ three step bound number) (top ++ Int step ∷ []) (Int number ∷ []) bound (above + 2)
        (sym (append_assoc (top ++ Int step ∷ []) (bound ∷ []) (Int number ∷ []) ∙ append_assoc top (Int step ∷ []) (bound ∷ Int number ∷ []))) (omega (arith, long, length-append top (Int step ∷ [])))

    pub number_shown : Gives (top ++ three step bound number) (its_number above) (Int number)
    number_shown =
        operand_computes program n before locals (top ++ three step bound number) (top ++ Int step ∷ bound ∷ []) [] (Int number) (above + 3)
        (sym (append_nil ((top ++ Int step ∷ bound ∷ []) ++ Int number ∷ []) ∙ append_assoc top (Int step ∷ bound ∷ []) (Int number ∷ []))) (omega (arith, long, length-append top (Int step ∷ bound ∷ [])))
      where
        append_nil : (all : List Variant) → all ++ [] ≡ all
        append_nil [] = refl
        append_nil (value ∷ values) = ap (λ (vs : List Variant). value ∷ vs) (append_nil values)

  -- how the number lies to its bound
  module _ (top : List Variant) (above : ℕ) (long : length top ≡ above) (step bound number : ℤ) where
    more_above : (value : Variant) → length (value ∷ top) ≡ above + 1
    more_above value = omega (arith, long)

    lower_shown : Gives (top ++ three step (Int bound) number) (lower_bound above) (Truth (int_lt bound number))
    lower_shown =
        less_computes program n before locals (top ++ three step (Int bound) number) (its_bound above) (its_number (above + 1)) bound number
        (bound_shown top above long step (Int bound) number) (number_shown (Int bound ∷ top) (above + 1) (more_above (Int bound)) step (Int bound) number)

    upper_shown : Gives (top ++ three step (Int bound) number) (upper_bound above) (Truth (int_lt number bound))
    upper_shown =
        less_computes program n before locals (top ++ three step (Int bound) number) (its_number above) (its_bound (above + 1)) number bound
        (number_shown top above long step (Int bound) number) (bound_shown (Int number ∷ top) (above + 1) (more_above (Int number)) step (Int bound) number)

    pub negative_shown : Gives (top ++ three step (Int bound) number) (less (its_step above) (number_code (pos 0))) (Truth (int_lt step (pos 0)))
    negative_shown = less_computes program n before locals (top ++ three step (Int bound) number) (its_step above) (number_code (pos 0)) step (pos 0) (step_shown top above long step (Int bound) number) (number_computes program n before locals (Int step ∷ (top ++ three step (Int bound) number)) (pos 0))

    past_shown : Gives (top ++ three step (Int bound) number) (choice (less (its_step above) (number_code (pos 0))) (upper_bound above) (lower_bound above)) (Truth (is_past To number bound step))
    past_shown =
        choice_computes program n before locals (top ++ three step (Int bound) number) (less (its_step above) (number_code (pos 0))) (upper_bound above) (lower_bound above) (int_lt step (pos 0)) (Truth (is_past To number bound step)) negative_shown
        (λ e. same_computes program n before locals (top ++ three step (Int bound) number) (upper_bound above) (Truth (int_lt number bound)) (Truth (is_past To number bound step)) (ap (λ (c : Bool). Truth (if c then int_lt number bound else int_lt bound number)) (sym e)) upper_shown)
        (λ e. same_computes program n before locals (top ++ three step (Int bound) number) (lower_bound above) (Truth (int_lt bound number)) (Truth (is_past To number bound step)) (ap (λ (c : Bool). Truth (if c then int_lt number bound else int_lt bound number)) (sym e)) lower_shown)

  abbrev pub Goes_to : Spot → ℕ → List Variant → State → ℕ → (ℕ → Step) → Type 0
  Goes_to x p register s k to = Comes (machine_of program) (standing (body_of program) x p register s k) to

  abbrev pub Stands : Spot → ℕ → Code → Type 0
  Stands x p code = Holds (linked_program program) before x.running.body p code

  -- A test leads to the place behind its code, or so far behind that where it ends.
  abbrev pub Tests : List Variant → Code → ℕ → Bool → Type 0
  Tests lying code distance ends = (x : Spot) (p : ℕ) (register : List Variant) (s : State) (k : ℕ) (to : ℕ → Step) → RowsFit x.running → IsRight program locals s → s.fuel.left ≤ n → Stands x p code
      → ((values : List Variant) (j : ℕ) → ends ≡ true → Goes_to (under lying x) (p + length code + distance) values s j to)
      → ((values : List Variant) (j : ℕ) → ends ≡ false → Goes_to (under lying x) (p + length code) values s j to)
      → Goes_to (under lying x) p register s k to

  pub leaves_test : (lying : List Variant) (code : Code) (c b ends : Bool) (distance : ℕ) → is_end b (Truth c) ≡ ends → Gives lying code (Truth c) → Tests lying (code ++ leaves_if b distance) distance ends
  leaves_test lying code c b ends distance same gives x p register s k to fit right few holds ending going =
      let exits = leaves_if b distance in
      let p1 = p + length code in
      let y = under lying x in
      let e1 : p1 + length exits + distance ≡ p + length (code ++ exits) + distance = omega (arith, length-append code exits) in
      let e2 : p1 + length exits + 0 ≡ p + length (code ++ exits) = omega (arith, length-append code exits) in
      gives x p register s k to fit right few (holds_front (linked_program program) before x.running.body p code exits holds) (λ values j e.
      let is : is_end b (first values) ≡ ends = ap (λ (v : Variant). is_end b v) e ∙ same in
      comes_on (machine_of program) (standing (body_of program) y p1 values s j) (λ i. standing (body_of program) y (p1 + length exits + leap (is_end b (first values)) distance) values s i) to
      (leads program before y p1 distance values s j b (holds_back (linked_program program) before x.running.body p code exits holds))
      (λ i. subst (λ (d : Bool). Goes_to y (p1 + length exits + leap d distance) values s i to) (sym is)
      (by ends refl values i (λ f. goes_at program n before locals y (p1 + length exits + distance) (p + length (code ++ exits) + distance) values s i to e1 (ending values i f))
      (λ f. goes_at program n before locals y (p1 + length exits + 0) (p + length (code ++ exits)) values s i to e2 (going values i f)))))
    where
      by : (d : Bool) → ends ≡ d → (values : List Variant) (i : ℕ)
          → (ends ≡ true → Goes_to (under lying x) (p + length code + length (leaves_if b distance) + distance) values s i to)
          → (ends ≡ false → Goes_to (under lying x) (p + length code + length (leaves_if b distance) + 0) values s i to)
          → Goes_to (under lying x) (p + length code + length (leaves_if b distance) + leap ends distance) values s i to
      by true e values i one other = subst (λ (c : Bool). Goes_to (under lying x) (p + length code + length (leaves_if b distance) + leap c distance) values s i to) (sym e) (one e)
      by false e values i one other = subst (λ (c : Bool). Goes_to (under lying x) (p + length code + length (leaves_if b distance) + leap c distance) values s i to) (sym e) (other e)

  end_true : (c : Bool) → is_end true (Truth c) ≡ c
  end_true true = refl
  end_true false = refl

  reached_tests : (kind : Limit) (top : List Variant) (above : ℕ) → length top ≡ above → (step bound number : ℤ) (distance : ℕ) → Tests (top ++ three step (Int bound) number) (limit_reached kind above distance) distance (is_past kind number bound step)
  reached_tests To top above long step bound number distance =
      leaves_test (top ++ three step (Int bound) number) (choice (less (its_step above) (number_code (pos 0))) (upper_bound above) (lower_bound above)) (is_past To number bound step) true (is_past To number bound step) distance
      (end_true (is_past To number bound step)) (past_shown top above long step bound number)
  reached_tests Above top above long step bound number distance =
      leaves_test (top ++ three step (Int bound) number) (lower_bound above) (int_lt bound number) false (is_past Above number bound step) distance
      (sym (le_not number bound)) (lower_shown top above long step bound number)
  reached_tests Below top above long step bound number distance =
      leaves_test (top ++ three step (Int bound) number) (upper_bound above) (int_lt number bound) false (is_past Below number bound step) distance
      (sym (le_not bound number)) (upper_shown top above long step bound number)

  -- no test
  goes_on : (lying : List Variant) (distance : ℕ) → Tests lying [] distance false
  goes_on lying distance x p register s k to fit right few holds ending going =
      let e : p ≡ p + 0 = omega arith in
      goes_at program n before locals (under lying x) p (p + 0) register s k to e (going register k refl)

  limit_tests : (limit : Option (Limit × Amount)) (other : Option (Limit × ℤ)) → IsBound limit other → (place : Place) (start : Code) (amount : Amount) (top : List Variant) (above : ℕ) → length top ≡ above → (step number : ℤ) (distance : ℕ)
      → Tests (top ++ three step (bound_value other) number) (testing (Counts place start limit amount) above distance) distance (is_over number other step)
  limit_tests None None is place start amount top above long step number distance = goes_on (top ++ three step (Truth false) number) distance
  limit_tests (Some limit) (Some other) is place start amount top above long step number distance =
      subst (λ (kind : Limit). Tests (top ++ three step (Int other.1) number) (limit_reached limit.0 above distance) distance (is_past kind number other.1 step)) is
      (reached_tests limit.0 top above long step other.1 number distance)
  limit_tests None (Some other) is place start amount top above long step number distance = absurd is
  limit_tests (Some limit) None is place start amount top above long step number distance = absurd is

  one_tests : (clause : Clause) (going : Going) → Keeps clause going → (top : List Variant) (above : ℕ) → length top ≡ above → (distance : ℕ) → Tests (top ++ lies_of going) (testing clause above distance) distance (is_over_one going)
  one_tests (Takes place start next) (Taking other value does) keeps top above long distance = goes_on (top ++ value ∷ []) distance
  one_tests (Counts place start limit amount) (Counting other number bound step) keeps top above long distance =
      limit_tests limit bound keeps.4 place start amount top above long step number distance
  one_tests (Takes place start next) (Counting other number bound by) keeps top above long distance = absurd keeps
  one_tests (Counts place start limit step) (Taking other value does) keeps top above long distance = absurd keeps

  -- the tests of all clauses
  pub all_test : (clauses : List Clause) (all : List Going) → AllKeep clauses all → (far : ℕ) → Tests (lies all) (tests clauses far) far (are_over all)
  all_test [] [] keep far x p register s k to fit right few holds ending next = goes_on [] far x p register s k to fit right few holds ending next
  all_test (clause ∷ clauses) (going ∷ others) keep far x p register s k to fit right few holds ending next =
      let more = tests clauses far in
      let distance = length more + far in
      let above = all_operands clauses in
      let mine = testing clause above distance in
      let low = under (lies_of going) x in
      let y = under (lies others ++ lies_of going) x in
      let same = under_append (lies others) (lies_of going) x in
      let p1 = p + length mine in
      let e1 : p1 + distance ≡ p + length (mine ++ more) + far = omega (arith, length-append mine more) in
      let e2 : p1 + length more + far ≡ p + length (mine ++ more) + far = omega (arith, length-append mine more) in
      let e3 : p1 + length more ≡ p + length (mine ++ more) = omega (arith, length-append mine more) in
      one_tests clause going keep.0 (lies others) above (all_long clauses others keep.1) distance x p register s k to fit right few (holds_front (linked_program program) before x.running.body p mine more holds)
      (λ values j over. goes_at program n before locals y (p1 + distance) (p + length (mine ++ more) + far) values s j to e1 (ending values j (over_or going others ∙ ap (λ (b : Bool). b || are_over others) over)))
      (λ values j over.
      let whole : are_over (going ∷ others) ≡ are_over others = over_or going others ∙ ap (λ (b : Bool). b || are_over others) over in
      subst (λ (z : Spot). Goes_to z p1 values s j to) (sym same)
      (all_test clauses others keep.1 far low p1 values s j to (under_fits (lies_of going) x fit) right few (holds_back (linked_program program) before x.running.body p mine more holds)
      (λ ws i e. goes_at program n before locals (under (lies others) low) (p1 + length more + far) (p + length (mine ++ more) + far) ws s i to e2 (subst (λ (z : Spot). Goes_to z (p + length (mine ++ more) + far) ws s i to) same (ending ws i (whole ∙ e))))
      (λ ws i e. goes_at program n before locals (under (lies others) low) (p1 + length more) (p + length (mine ++ more)) ws s i to e3 (subst (λ (z : Spot). Goes_to z (p + length (mine ++ more)) ws s i to) same (next ws i (whole ∙ e))))))
  all_test [] (going ∷ others) keep far x p register s k to fit right few holds ending next = absurd keep
  all_test (clause ∷ clauses) [] keep far x p register s k to fit right few holds ending next = absurd keep
