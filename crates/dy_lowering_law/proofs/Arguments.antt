-- Arguments on the operands, and instructions that take them.
use Rattle.std.proofs.Common.{◌≡◌, ℕ, zero, suc, ◌+◌, ◌≤◌, ◌<◌, Bool, true, List, [], ◌∷◌, ◌++◌, reverse, append_assoc, length, refl, sym, ap, ◌∙◌, subst, arith, length-append}
use Rattle.std.specs.Prelude.{nat_le}
use Rattle.std.proofs.lemmas.List.{reverse-append, reverse-reverse, length-reverse, take_at, drop_at}
use Rattle.dy_term.specs.declared.rows.Program.{Program}
use Rattle.dy_values.specs.declared.value.Variant.{Variant}
use Rattle.dy_values.specs.Spending.{first}
use Rattle.dy_outcome.specs.declared.state.State.{State}
use Rattle.dy_outcome.specs.States.{Outcome, Gave, Exits, Ended, Spent, Scope, Does, and_then}
use Rattle.dy_outcome.specs.Nearness.{units_of, NeverRises}
use Rattle.dy_outcome.specs.Parts.{arguments}
use Rattle.dy_code.specs.Fetching.{Instruction}
use Rattle.dy_code.specs.Fetching as instr
use Rattle.dy_meaning.specs.Meaning.{with_arguments}
use Rattle.dy_code.specs.Layouts.{Landing}
use Rattle.dy_code.specs.Validity.{Every}
use Rattle.dy_steps.specs.Configurations.{Row, Leaves, Cleans, Handles, Catches, Activation, Config, Step, Goes}
use Rattle.dy_steps.specs.Effects.{gives, taken_if, take_operands}
use Rattle.dy_steps.specs.Exits.{ExitLaws, with_operand}
use Rattle.dy_steps.specs.Steps.{step, steps}
use Rattle.dy_steps.proofs.Leading.{exit_laws}
use Rattle.dy_lowered.specs.Flat.{Flat, Plain, Code, one}
use Rattle.dy_lowered.specs.Parts as parts
use Rattle.dy_lowering_law.specs.Force.{Keeps, KeepsWithin, RowsFit}
use Rattle.dy_lowering_law.specs.Following.{Spot, scope_of, standing, after, Comes, Holds, AreWords, IsRight, IsRightAfter, Follows}
use Rattle.dy_lowering_law.specs.Kinds.{AllDo, push_all, GoesOn, Takes}
use Rattle.dy_lowering_law.specs.Machines.{linked_program, machine_of}
use Rattle.dy_lowering_law.specs.Renumbering.{body_of}
use Rattle.dy_lowering_law.proofs.Leading.{comes_behind, stepped, then_words, ends_at, Inside, inside_self, holds_front, holds_back}
use Rattle.dy_lowering_law.proofs.Cases.{then_falls, then_keeps_words, first_word}
use Rattle.dy_lowering_law.proofs.Exiting.{pushed, inside_push}

pub then_assoc : (o : Outcome) (f g : List Variant → State → Outcome) → and_then (and_then o f) g ≡ and_then o (λ values s. and_then (f values s) g)
then_assoc (Gave values s) f g = refl
then_assoc (Exits block values s) f g = refl
then_assoc (Ended line s) f g = refl
then_assoc (Spent s) f g = refl

pub inside_both : (program : Program) (x y z : Spot) → Inside (machine_of program) (body_of program) x y → Inside (machine_of program) (body_of program) y z → Inside (machine_of program) (body_of program) x z
inside_both program x y z a b = record { by = λ block values state searches. a.by block values state searches ∙ b.by block values state searches }

keeps_push : (value : Variant) (a : Activation) (to : Landing) → Keeps a to → Keeps (with_operand value a) to
keeps_push value a to h = (omega (arith, h.0), h.1, h.2)

fits_push : (value : Variant) (a : Activation) (rows : List Row) → Every (KeepsWithin a) rows → Every (KeepsWithin (with_operand value a)) rows
fits_push value a [] h = tt
fits_push value a (Leaves number to ∷ rows) h = (keeps_push value a to h.0, fits_push value a rows h.1)
fits_push value a (Cleans number to ∷ rows) h = (keeps_push value a to h.0, fits_push value a rows h.1)
fits_push value a (Handles number condition function ∷ rows) h = (tt, fits_push value a rows h.1)
fits_push value a (Catches number condition to ∷ rows) h = (keeps_push value a to h.0, fits_push value a rows h.1)

module _ (program : Program) (n before locals : ℕ) where
  module _ (laws : ExitLaws) (y : Spot) (q : ℕ) where
    -- the arguments are evaluated and pushed; what follows is told what is known then
    pub arguments_come : (codes : List Code) (all : List Does) → AllDo program n before locals codes all → (x : Spot) (place : ℕ) (register : List Variant) (s : State) (k : ℕ) (go : List Variant → State → Outcome)
        → Holds (linked_program program) before x.running.body place (parts.arguments codes) → RowsFit x.running → Inside (machine_of program) (body_of program) x y → IsRight program locals s → s.fuel.left ≤ n
        → ((values register1 : List Variant) (t : State) (j : ℕ) → length values ≡ length codes → AreWords values → t.fuel.left ≤ n → IsRight program locals t
        → Comes (machine_of program) (standing (body_of program) (push_all values x) (place + length (parts.arguments codes)) register1 t j) (after (body_of program) y q (go values t)))
        → Comes (machine_of program) (standing (body_of program) x place register s k) (after (body_of program) y q (and_then (arguments all (scope_of x) s) go))
    arguments_come [] [] follow x place register s k go holds fit inside right few next =
        let e : place + 0 ≡ place = omega arith in
        subst (λ (p : ℕ). Comes (machine_of program) (standing (body_of program) x p register s k) (after (body_of program) y q (go [] s))) e (next [] register s k refl tt few right)
    arguments_come [] (does ∷ others) follow x place register s k go holds fit inside right few next = absurd follow
    arguments_come (code ∷ codes) [] follow x place register s k go holds fit inside right few next = absurd follow
    arguments_come (code ∷ codes) (does ∷ others) follow x place register s k go holds fit inside right few next =
        let m = machine_of program in
        let number = body_of program in
        let linked = linked_program program in
        let body = x.running.body in
        let scope = scope_of x in
        let p1 = place + length code in
        let back = holds_back linked before body place code (Plain instr.Push ∷ parts.arguments codes) holds in
        let less = follow.0.falls scope s in
        let long : p1 + 1 + length (parts.arguments codes) ≡ place + length (parts.arguments (code ∷ codes)) = omega (arith, length-append code (Plain instr.Push ∷ parts.arguments codes)) in
        subst (λ (o : Outcome). Comes m (standing number x place register s k) (after number y q o))
        (sym (then_assoc (does scope s) (λ vs t. and_then (arguments others scope t) (λ ws u. Gave (first vs ∷ ws) u)) go))
        (then_words m number program locals n (standing number x place register s k) x y p1 q (does scope s) _ inside
        (follow.0.runs x place register s k (holds_front linked before body place code (Plain instr.Push ∷ parts.arguments codes) holds) fit right few)
        (omega (arith, less, few)) (follow.0.keeps scope s right)
        (λ vs t j few1 right1 words.
        subst (λ (o : Outcome). Comes m (standing number x p1 vs t j) (after number y q o))
        (sym (then_assoc (arguments others scope t) (λ ws u. Gave (first vs ∷ ws) u) go))
        (comes_behind m (standing number x p1 vs t j) (standing number (pushed (first vs) x) (p1 + 1) vs t j) (after number y q (and_then (arguments others scope t) (λ ws u. go (first vs ∷ ws) u)))
        (stepped m number x p1 before vs t j (Plain instr.Push) (parts.arguments codes) back)
        (arguments_come codes others follow.1 (pushed (first vs) x) (p1 + 1) vs t j (λ ws u. go (first vs ∷ ws) u)
        back.1 (fits_push (first vs) x.running x.running.rows fit) (inside_both program (pushed (first vs) x) x y (inside_push m laws number (first vs) x fit) inside) right1 few1
        (λ ws register1 u i count words2 few2 right2.
        subst (λ (p : ℕ). Comes m (standing number (push_all ws (pushed (first vs) x)) p register1 u i) (after number y q (go (first vs ∷ ws) u))) (sym long)
        (next (first vs ∷ ws) register1 u i (ap suc count) (first_word vs words, words2) few2 right2))))))

-- operands are taken
le_true : (n m : ℕ) → n ≤ m → nat_le n m ≡ true
le_true n m h = grind (arith, h)

abbrev onto : List Variant → List Variant → List Variant
onto [] operands = operands
onto (value ∷ values) operands = onto values (value ∷ operands)

onto_is : (values operands : List Variant) → onto values operands ≡ reverse values ++ operands
onto_is [] operands = refl
onto_is (value ∷ values) operands =
    onto_is values (value ∷ operands) ∙ sym (append_assoc (reverse values) (value ∷ []) operands)
    ∙ ap (λ (r : List Variant). r ++ operands) (sym (reverse-append (value ∷ []) values))

abbrev with_all : List Variant → Spot → Spot
with_all operands x = record x { running = record (x.running) { operands = operands } }

pushed_all : (values : List Variant) (x : Spot) → push_all values x ≡ with_all (onto values x.running.operands) x
pushed_all [] x = refl
pushed_all (value ∷ values) x = pushed_all values (pushed value x)

module _ (number : ℕ → ℕ) where
  pub taken_all : (values : List Variant) (count : ℕ) (x : Spot) (place : ℕ) (register : List Variant) (s : State) (k : ℕ) (go : List Variant → Config → Step) → length values ≡ count
      → take_operands count (standing number (push_all values x) place register s k) go ≡ go values (standing number x place register s k)
  taken_all values count x place register s k go long =
      let operands = x.running.operands in
      let back = reverse values in
      let same : length back ≡ count = length-reverse values ∙ long in
      let enough : count ≤ length (back ++ operands) = omega (arith, length-append back operands, same) in
      ap (λ (y : Spot). take_operands count (standing number y place register s k) go) (pushed_all values x ∙ ap (λ (o : List Variant). with_all o x) (onto_is values operands))
      ∙ ap (λ b. taken_if b count (back ++ operands) (standing number (with_all (back ++ operands) x) place register s k) go) (le_true count (length (back ++ operands)) enough)
      ∙ (λ i. go (reverse (take_at back operands count same i)) (standing number (with_all (drop_at back operands count same i) x) place register s k))
      ∙ ap (λ (v : List Variant). go v (standing number x place register s k)) (reverse-reverse values)

pub goes_behind : (program : Program) (c : Config) (from : Step) (to : ℕ → Step) → step (machine_of program) c ≡ from → GoesOn (machine_of program) from to → Comes (machine_of program) c to
goes_behind program c from to e more = record { count = suc more.count; searches = more.searches; there = ap (steps (machine_of program) more.count) e ∙ more.there }

module _ (program : Program) (n before locals : ℕ) where
  arguments_fall : (codes : List Code) (all : List Does) → AllDo program n before locals codes all → NeverRises (arguments all)
  arguments_fall [] [] follow scope s = omega arith
  arguments_fall [] (does ∷ others) follow scope s = absurd follow
  arguments_fall (code ∷ codes) [] follow scope s = absurd follow
  arguments_fall (code ∷ codes) (does ∷ others) follow scope s =
      then_falls s.fuel.left (does scope s) _ (follow.0.falls scope s)
      (λ vs t. then_falls t.fuel.left (arguments others scope t) _ (arguments_fall codes others follow.1 scope t) (λ ws u. omega arith))

  arguments_keep : (codes : List Code) (all : List Does) → AllDo program n before locals codes all → (scope : Scope) (s : State) → IsRight program locals s → IsRightAfter program locals (arguments all scope s)
  arguments_keep [] [] follow scope s right = (right, tt)
  arguments_keep [] (does ∷ others) follow scope s right = absurd follow
  arguments_keep (code ∷ codes) [] follow scope s right = absurd follow
  arguments_keep (code ∷ codes) (does ∷ others) follow scope s right =
      then_keeps_words program locals (does scope s) _ (follow.0.keeps scope s right)
      (λ vs t right1 words. then_keeps_words program locals (arguments others scope t) _ (arguments_keep codes others follow.1 scope t right1) (λ ws u right2 words2. (right2, (first_word vs words, words2))))

  pub arguments_follow : (codes : List Code) (all : List Does) (call : Instruction) (go : List Variant → Does) → AllDo program n before locals codes all → Takes program n before locals (length codes) call go
      → Follows program n before locals (parts.with_arguments codes call) (with_arguments all go)
  arguments_follow codes all call go follow takes = record {
    falls = λ scope s. then_falls s.fuel.left (arguments all scope s) _ (arguments_fall codes all follow scope s) (λ vs t. takes.falls vs scope t);
    keeps = λ scope s right. then_keeps_words program locals (arguments all scope s) _ (arguments_keep codes all follow scope s right) (λ vs t right1 words. takes.keeps vs words scope t right1);
    runs = λ x place register s k holds fit right few.
        let m = machine_of program in
        let number = body_of program in
        let linked = linked_program program in
        let p1 = place + length (parts.arguments codes) in
        let end : p1 + 1 ≡ place + length (parts.with_arguments codes call) = omega (arith, length-append (parts.arguments codes) (one call)) in
        ends_at m number _ x (p1 + 1) _ (with_arguments all go (scope_of x) s) end
        (arguments_come program n before locals exit_laws x (p1 + 1) codes all follow x place register s k (λ vs t. go vs (scope_of x) t)
        (holds_front linked before x.running.body place (parts.arguments codes) (one call) holds) fit (inside_self m number x) right few
        (λ values register1 t j long words few1 right1. goes_behind program _ _ _
        (stepped m number (push_all values x) p1 before register1 t j (Plain call) [] (body_same values x (p1) (holds_back linked before x.running.body place (parts.arguments codes) (one call) holds)))
        (takes.runs values x (p1 + 1) register1 t j long words fit right1 few1)));
  }
    where
      body_same : (values : List Variant) (x : Spot) (p : ℕ) → Holds (linked_program program) before x.running.body p (one call) → Holds (linked_program program) before (push_all values x).running.body p (one call)
      body_same values x p h = subst (λ (y : Spot). Holds (linked_program program) before y.running.body p (one call)) (sym (pushed_all values x)) h

  pub values_taken : (count : ℕ) → Takes program n before locals count (instr.Values count) (λ values scope s. Gave values s)
  values_taken count = record {
    falls = λ values scope s. omega arith;
    keeps = λ values words scope s right. (right, words);
    runs = λ values x place register s k long words fit right few. record { count = 0; searches = k; there = taken_all (body_of program) values count x place register s k gives long };
  }
