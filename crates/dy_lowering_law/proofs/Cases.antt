-- Of kinds of terms: where the code of the parts does what these do, so does that of the whole.
use Rattle.std.proofs.Common.{◌≡◌, ℕ, zero, suc, ◌+◌, ◌≤◌, Bool, true, false, not, pos, List, [], ◌∷◌, ◌++◌, length, drop, refl, sym, ap, ◌∙◌, subst, arith, length-append}
use Rattle.std.specs.Prelude.{slice_get}
use Rattle.std.specs.declared.option.Option.{Option}
use Rattle.std.specs.declared.option.Option.TheVariants.{None, Some}
use Rattle.std.proofs.lemmas.Option.{same_Some, none-some}
use Rattle.dy_term.specs.declared.rows.Program.{Program}
use Rattle.dy_values.specs.declared.value.Variant.{Variant}
use Rattle.dy_values.specs.declared.value.Variant.TheVariants.{Int, Char, Bool as Truth, Symbol, Nil, Class, TypeValue, Generic, Function, Builtin, Object}
use Rattle.dy_values.specs.declared.object.ObjectRow.{ObjectRow}
use Rattle.dy_values.specs.declared.object.ObjectRow.TheVariants as object
use Rattle.dy_values.specs.declared.store.Store.{Store}
use Rattle.dy_values.specs.Spending.{first, is_false}
use Rattle.dy_outcome.specs.declared.state.State.{State}
use Rattle.dy_outcome.specs.declared.place.Place.{Place}
use Rattle.dy_outcome.specs.declared.place.Place.TheVariants.{Own, Captured}
use Rattle.dy_outcome.specs.States.{Outcome, Gave, Exits, Ended, Spent, Scope, Does, and_then, gave}
use Rattle.dy_outcome.specs.Nearness.{units_of, NeverRises}
use Rattle.dy_outcome.specs.Places.{read, value_at, kept_at, content, or_itself, cell_in}
use Rattle.dy_outcome.specs.Choices.{chosen, branching}
use Rattle.dy_code.specs.Fetching.{Instruction}
use Rattle.dy_code.specs.Fetching as instr
use Rattle.dy_code.specs.Validity.{Every}
use Rattle.dy_steps.specs.Configurations.{Config, Step, Goes}
use Rattle.dy_steps.specs.Steps.{act, step, steps, jump_false}
use Rattle.dy_lowered.specs.Flat.{Flat, Plain, Jump, JumpFalse, Code, one, past, past_if_false, placed}
use Rattle.dy_lowered.specs.Parts as parts
use Rattle.dy_lowering_law.specs.Force.{RowsFit}
use Rattle.dy_lowering_law.specs.Following.{Spot, scope_of, standing, after, Comes, numbered, Holds, IsWord, AreWords, IsWordOrNone, IsKnown, IsRight, IsRightAfter, Follows}
use Rattle.dy_lowering_law.specs.Machines.{linked_program, machine_of}
use Rattle.dy_lowering_law.specs.Renumbering.{body_of, renumbered}
use Rattle.dy_steps.proofs.More.{steps_more}
use Rattle.dy_lowering_law.proofs.Leading.{comes_by, comes_behind, stepped, then_comes, ends_at, inside_self, holds_front, holds_back}
use Rattle.dy_lowering_law.proofs.Same.{read_same}

pub then_falls : (units : ℕ) (o : Outcome) (go : List Variant → State → Outcome) → units_of o ≤ units → ((values : List Variant) (s : State) → units_of (go values s) ≤ s.fuel.left) → units_of (and_then o go) ≤ units
then_falls units (Gave values s) go few falls = let less = falls values s in omega (arith, few, less)
then_falls units (Exits block values s) go few falls = few
then_falls units (Ended line s) go few falls = few
then_falls units (Spent s) go few falls = few

module _ (program : Program) (locals : ℕ) where
  pub then_keeps : (o : Outcome) (go : List Variant → State → Outcome) → IsRightAfter program locals o → ((values : List Variant) (s : State) → IsRight program locals s → IsRightAfter program locals (go values s)) → IsRightAfter program locals (and_then o go)
  then_keeps (Gave values s) go right keeps = keeps values s right.0
  then_keeps (Exits block values s) go right keeps = right
  then_keeps (Ended line s) go right keeps = right
  then_keeps (Spent s) go right keeps = right

  -- the same, where the values have 64 bits
  pub then_keeps_words : (o : Outcome) (go : List Variant → State → Outcome) → IsRightAfter program locals o → ((values : List Variant) (s : State) → IsRight program locals s → AreWords values → IsRightAfter program locals (go values s)) → IsRightAfter program locals (and_then o go)
  then_keeps_words (Gave values s) go right keeps = keeps values s right.0 right.1
  then_keeps_words (Exits block values s) go right keeps = right
  then_keeps_words (Ended line s) go right keeps = right
  then_keeps_words (Spent s) go right keeps = right

-- values of 64 bits
pub first_word : (values : List Variant) → AreWords values → IsWord (first values)
first_word [] words = tt
first_word (value ∷ values) words = words.0

pub less_words : (values : List Variant) → AreWords values → AreWords (drop 1 values)
less_words [] words = tt
less_words (value ∷ values) words = words.1

pub word_at : (values : List Variant) (place : ℕ) → AreWords values → IsWord (value_at values place)
word_at [] place words = tt
word_at (value ∷ values) zero words = words.0
word_at (value ∷ values) (suc place) words = word_at values place words.1

known_row : (program : Program) (objects : List ObjectRow) (place : ℕ) → Every (IsKnown program) objects → (found : Option ObjectRow) → slice_get objects place ≡ found → IsWordOrNone (cell_in found)
known_row program objects place known (Some (object.Cell value)) e = known_at objects place known e
  where
    known_at : (rows : List ObjectRow) (i : ℕ) → Every (IsKnown program) rows → slice_get rows i ≡ Some (object.Cell value) → IsWord value
    known_at [] i all f = absurd (none-some (object.Cell value) f)
    known_at (row ∷ rows) zero all f = subst (λ (r : ObjectRow). IsKnown program r) (same_Some row (object.Cell value) f) all.0
    known_at (row ∷ rows) (suc i) all f = known_at rows i all.1 f
known_row program objects place known found e = tt

or_itself_word : (held : Option Variant) (value : Variant) → IsWordOrNone held → IsWord value → IsWord (or_itself held value)
or_itself_word (Some held) value one other = one
or_itself_word None value one other = other

content_word : (program : Program) (store : Store) (value : Variant) → Every (IsKnown program) store.objects → IsWord value → IsWord (content store value)
content_word program store (Object place) known word = or_itself_word (cell_in (slice_get store.objects place)) (Object place) (known_row program store.objects place known (slice_get store.objects place) refl) word
content_word program store value known word = word

-- what is read has 64 bits, and so has what is kept
pub kept_word : (program : Program) (locals : ℕ) (place : Place) (s : State) → IsRight program locals s → IsWord (kept_at place s)
kept_word program locals (Own k in_cell) s right = word_at s.frame.locals k right.words.locals
kept_word program locals (Captured k) s right = word_at s.frame.captured k right.words.captured

pub read_word : (program : Program) (locals : ℕ) (place : Place) (s : State) → IsRight program locals s → IsWord (read place s)
read_word program locals (Own k false) s right = word_at s.frame.locals k right.words.locals
read_word program locals (Own k true) s right = content_word program s.store (value_at s.frame.locals k) right.objects (word_at s.frame.locals k right.words.locals)
read_word program locals (Captured k) s right = content_word program s.store (value_at s.frame.captured k) right.objects (word_at s.frame.captured k right.words.captured)

module _ (program : Program) (n before locals : ℕ) where
  -- one instruction that gives a value
  pub value_follows : (i : Instruction) (value : State → Variant) → ((s : State) → IsRight program locals s → IsWord (value s))
      → ((x : Spot) (place : ℕ) (register : List Variant) (s : State) (k : ℕ) → act (machine_of program) (numbered before i) (standing (body_of program) x place register s k) ≡ Goes (standing (body_of program) x place (value s ∷ []) s k))
      → Follows program n before locals (one i) (λ scope s. gave (value s) s)
  value_follows i value words acts = record {
    falls = λ scope s. omega arith;
    keeps = λ scope s right. (right, (words s right, tt));
    runs = λ x place register s k holds fit right few.
        comes_by (machine_of program) _ _ k (stepped (machine_of program) (body_of program) x place before register s k (Plain i) [] holds ∙ acts x (place + 1) register s k);
  }

  pub read_follows : (place : Place) → Follows program n before locals (parts.read place) (λ scope s. gave (read place s) s)
  read_follows (Own k false) = value_follows (instr.Local k) (read (Own k false)) (read_word program locals (Own k false)) (λ x place register s j. refl)
  read_follows (Own k true) = value_follows (instr.CellGet k) (read (Own k true)) (read_word program locals (Own k true)) (λ x place register s j. ap (λ value. Goes (standing (body_of program) x place (value ∷ []) s j)) (read_same (body_of program) (Own k true) s))
  read_follows (Captured k) = value_follows (instr.FreeGet k) (read (Captured k)) (read_word program locals (Captured k)) (λ x place register s j. ap (λ value. Goes (standing (body_of program) x place (value ∷ []) s j)) (read_same (body_of program) (Captured k) s))

  -- code, and an instruction that takes its values
  pub then_follows : (code : Code) (does : Does) (flat : Flat) (go : List Variant → State → Outcome) → Follows program n before locals code does
      → ((values : List Variant) (s : State) → units_of (go values s) ≤ s.fuel.left)
      → ((values : List Variant) (s : State) → IsRight program locals s → AreWords values → IsRightAfter program locals (go values s))
      → ((x : Spot) (place : ℕ) (values : List Variant) (s : State) (k : ℕ) → act (machine_of program) (numbered before (placed place flat)) (standing (body_of program) x (place + 1) values s k) ≡ after (body_of program) x (place + 1) (go values s) k)
      → Follows program n before locals (code ++ flat ∷ []) (λ scope s. and_then (does scope s) go)
  then_follows code does flat go follows falls keeps acts = record {
    falls = λ scope s. then_falls s.fuel.left (does scope s) go (follows.falls scope s) falls;
    keeps = λ scope s right. then_keeps_words program locals (does scope s) go (follows.keeps scope s right) keeps;
    runs = λ x place register s k holds fit right few.
        let m = machine_of program in
        let number = body_of program in
        let end : place + length code + 1 ≡ place + length (code ++ flat ∷ []) = omega (arith, length-append code (flat ∷ [])) in
        let less = follows.falls (scope_of x) s in
        ends_at m number _ x (place + length code + 1) _ (and_then (does (scope_of x) s) go) end
        (then_comes m number program locals n (standing number x place register s k) x x (place + length code) (place + length code + 1) (does (scope_of x) s) go (inside_self m number x)
        (follows.runs x place register s k (holds_front (linked_program program) before x.running.body place code (flat ∷ []) holds) fit right few)
        (omega (arith, less, few)) (follows.keeps (scope_of x) s right)
        (λ values t j few1 right1. comes_by m _ _ j (stepped m number x (place + length code) before values t j flat [] (holds_back (linked_program program) before x.running.body place code (flat ∷ []) holds)
        ∙ acts x (place + length code) values t j)));
  }

  -- a jump where a value is `#f`
  jumped : (value : Variant) (x : Spot) (place far : ℕ) (register : List Variant) (s : State) (k : ℕ) → is_false value ≡ true
      → jump_false (is_false value) far (standing (body_of program) x place register s k) ≡ Goes (standing (body_of program) x far register s k)
  jumped value x place far register s k e = ap (λ b. jump_false b far (standing (body_of program) x place register s k)) e

  pub chosen_comes : (c : Config) (x : Spot) (p far q : ℕ) (b : Bool) (values : List Variant) (s : State) (k : ℕ) (one other : State → Outcome)
      → step (machine_of program) c ≡ jump_false b far (standing (body_of program) x p values s k)
      → Comes (machine_of program) (standing (body_of program) x far values s k) (after (body_of program) x q (one s))
      → Comes (machine_of program) (standing (body_of program) x p values s k) (after (body_of program) x q (other s))
      → Comes (machine_of program) c (after (body_of program) x q (chosen b one other s))
  chosen_comes c x p far q true values s k one other e first second = comes_behind (machine_of program) c (standing (body_of program) x far values s k) _ e first
  chosen_comes c x p far q false values s k one other e first second = comes_behind (machine_of program) c (standing (body_of program) x p values s k) _ e second

  pub chosen_falls : (units : ℕ) (b : Bool) (one other : State → Outcome) (s : State) → units_of (one s) ≤ units → units_of (other s) ≤ units → units_of (chosen b one other s) ≤ units
  chosen_falls units true one other s h g = h
  chosen_falls units false one other s h g = g

  pub chosen_keeps : (b : Bool) (one other : State → Outcome) (s : State) → IsRightAfter program locals (one s) → IsRightAfter program locals (other s) → IsRightAfter program locals (chosen b one other s)
  chosen_keeps true one other s h g = h
  chosen_keeps false one other s h g = g

  -- a jump behind code, where it gives values
  pub to_end : (c : Config) (x : Spot) (p q : ℕ) (o : Outcome)
      → ((values : List Variant) (s : State) (k : ℕ) → step (machine_of program) (standing (body_of program) x p values s k) ≡ Goes (standing (body_of program) x q values s k))
      → Comes (machine_of program) c (after (body_of program) x p o) → Comes (machine_of program) c (after (body_of program) x q o)
  to_end c x p q (Gave values s) jumps comes =
      record {
        count = comes.count + 1;
        searches = comes.searches;
        there = steps_more (machine_of program) comes.count 1 (Goes c) ∙ ap (steps (machine_of program) 1) comes.there ∙ jumps values s comes.searches;
      }
  to_end c x p q (Exits block values s) jumps comes = record { count = comes.count; searches = comes.searches; there = comes.there }
  to_end c x p q (Ended line s) jumps comes = record { count = comes.count; searches = comes.searches; there = comes.there }
  to_end c x p q (Spent s) jumps comes = record { count = comes.count; searches = comes.searches; there = comes.there }

  pub choice_follows : (test guarded other : Code) (a b c : Does) → Follows program n before locals test a → Follows program n before locals guarded b → Follows program n before locals other c
      → Follows program n before locals (parts.choice test guarded other) (λ scope s. and_then (a scope s) (λ values t. chosen (is_false (first values)) (c scope) (b scope) t))
  choice_follows test guarded other a b c fa fb fc = record {
    falls = λ scope s. then_falls s.fuel.left (a scope s) _ (fa.falls scope s) (λ values t. chosen_falls t.fuel.left (is_false (first values)) (c scope) (b scope) t (fc.falls scope t) (fb.falls scope t));
    keeps = λ scope s right. then_keeps program locals (a scope s) _ (fa.keeps scope s right) (λ values t right1. chosen_keeps (is_false (first values)) (c scope) (b scope) t (fc.keeps scope t right1) (fb.keeps scope t right1));
    runs = λ x place register s k holds fit right few.
        let m = machine_of program in
        let number = body_of program in
        let linked = linked_program program in
        let body = x.running.body in
        let scope = scope_of x in
        let p1 = place + length test in
        let p2 = p1 + 1 + length guarded in
        let q = place + length (parts.choice test guarded other) in
        let h1 = holds_back linked before body place test _ holds in
        let h2 = holds_back linked before body (p1 + 1) guarded _ h1.1 in
        let l1 = length-append test (past_if_false (length guarded + 1) ∷ (guarded ++ (past (length other) ∷ other))) in
        let l2 = length-append guarded (past (length other) ∷ other) in
        let end : p2 + 1 + length other ≡ q = omega (arith, l1, l2) in
        let over : p1 + 1 + (length guarded + 1) ≡ p2 + 1 = omega arith in
        let less = fa.falls scope s in
        then_comes m number program locals n (standing number x place register s k) x x p1 q (a scope s) _ (inside_self m number x)
        (fa.runs x place register s k (holds_front linked before body place test _ holds) fit right few) (omega (arith, less, few)) (fa.keeps scope s right)
        (λ values t j few1 right1. chosen_comes (standing number x p1 values t j) x (p1 + 1) (p1 + 1 + (length guarded + 1)) q (is_false (first values)) values t j (c scope) (b scope)
        (stepped m number x p1 before values t j (past_if_false (length guarded + 1)) _ h1)
        (subst (λ (p : ℕ). Comes m (standing number x p values t j) (after number x q (c scope t))) (sym over) (ends_at m number _ x (p2 + 1 + length other) q (c scope t) end (fc.runs x (p2 + 1) values t j h2.1 fit right1 few1)))
        (ends_at m number _ x (p2 + 1 + length other) q (b scope t) end
        (to_end (standing number x (p1 + 1) values t j) x p2 (p2 + 1 + length other) (b scope t) (λ ws u i. stepped m number x p2 before ws u i (past (length other)) _ h2)
        (fb.runs x (p1 + 1) values t j (holds_front linked before body (p1 + 1) guarded _ h1.1) fit right1 few1))));
  }
