-- Built-in operations that print nothing.
use Rattle.std.proofs.Common.{◌≡◌, ℕ, zero, suc, ◌+◌, ◌≤◌, Bool, true, false, ℤ, ◌+ℤ◌, ◌-ℤ◌, ◌*ℤ◌, pos, negsuc, List, [], ◌∷◌, length, refl, sym, ap, ◌∙◌, subst, arith}
use Rattle.std.specs.Prelude.{nat_eq, nat_lt, int_lt, neg_ℤ, if◌then◌else◌}
use Rattle.std.specs.declared.option.Option.{Option}
use Rattle.std.specs.declared.option.Option.TheVariants.{None, Some}
use Rattle.dy_term.specs.declared.rows.Program.{Program}
use Rattle.dy_values.specs.declared.value.Variant.{Variant}
use Rattle.dy_values.specs.declared.value.Variant.TheVariants.{Int}
use Rattle.dy_values.specs.Errors.{integer_overflow}
use Rattle.dy_values.specs.Identity.{is_identical}
use Rattle.dy_values.specs.Spending.{is_false}
use Rattle.dy_prims.specs.declared.operation.Operation.{Operation}
use Rattle.dy_prims.specs.declared.operation.Operation.TheVariants.{Add, Subtract, Multiply, Negative, LessIntegers, LessCharacters, Identical, Not, Values}
use Rattle.dy_prims.specs.Operations as prims
use Rattle.dy_prims.specs.Operations.{Answered, Answers, Fails, NoUnit, applied}
use Rattle.dy_outcome.specs.declared.state.State.{State}
use Rattle.dy_outcome.specs.States.{Outcome, Scope}
use Rattle.dy_outcome.specs.Nearness.{units_of}
use Rattle.dy_outcome.specs.Turns.{fits}
use Rattle.dy_code.specs.Fetching as instr
use Rattle.dy_meaning.specs.Operations.{answer, operated, operated_if, output}
use Rattle.dy_steps.specs.Configurations.{Config, Step, Goes, Stops, Signalled}
use Rattle.dy_steps.specs.Effects.{gives, performed, ended, take_operands}
use Rattle.dy_steps.specs.Calling.{operate}
use Rattle.dy_lowering_law.specs.Following.{Spot, scope_of, standing, after, AreWords, IsRight, IsRightAfter}
use Rattle.dy_lowering_law.specs.Kinds.{Takes, GoesOn, IsLow}
use Rattle.dy_lowering_law.specs.Machines as machines
use Rattle.dy_lowering_law.specs.Machines.{machine_of}
use Rattle.dy_lowering_law.specs.Renumbering.{body_of, renumbered}
use Rattle.dy_lowering_law.proofs.Arguments.{taken_all}
use Rattle.dy_lowering_law.proofs.Lines.{line_same}

-- operations give integers of 64 bits
abbrev IsAnswerWords : Answered → Type 0
IsAnswerWords (Answers values units) = AreWords values
IsAnswerWords (Fails error units) = Unit {0}
IsAnswerWords NoUnit = Unit {0}

abbrev GivesWords : prims.Outcome (List Variant) → Type 0
GivesWords (prims.Gives values) = AreWords values
GivesWords (prims.Signals error) = Unit {0}

same_fits : (z : ℤ) → prims.fits z ≡ fits z
same_fits (pos k) = refl
same_fits (negsuc k) = refl

number_words : (z : ℤ) → GivesWords (prims.single (prims.number z))
number_words z = by (prims.fits z) refl
  where
    by : (b : Bool) → prims.fits z ≡ b → GivesWords (prims.single (if b then prims.Gives (Int z) else prims.Signals integer_overflow))
    by true e = (sym (same_fits z) ∙ e, tt)
    by false e = tt

truth_words : (b : Bool) → GivesWords (prims.single (prims.truth b))
truth_words b = (tt, tt)

then_words : {A : Type 0} (o : prims.Outcome A) (go : A → prims.Outcome Variant) → ((a : A) → GivesWords (prims.single (go a))) → GivesWords (prims.single (prims.and_then o go))
then_words (prims.Gives a) go words = words a
then_words (prims.Signals error) go words = tt

given_words : (operation : Operation) (values : List Variant) → AreWords values → GivesWords (prims.given operation values)
given_words Add values words = then_words (prims.two_integers values) _ (λ pair. number_words (pair.0 +ℤ pair.1))
given_words Subtract values words = then_words (prims.two_integers values) _ (λ pair. number_words (pair.0 -ℤ pair.1))
given_words Multiply values words = then_words (prims.two_integers values) _ (λ pair. number_words (pair.0 *ℤ pair.1))
given_words Negative values words = then_words (prims.one values) _ (λ value. then_words (prims.an_integer value) _ (λ x. number_words (neg_ℤ x)))
given_words LessIntegers values words = then_words (prims.two_integers values) _ (λ pair. truth_words (int_lt pair.0 pair.1))
given_words LessCharacters values words = then_words (prims.two_characters values) _ (λ pair. truth_words (nat_lt pair.0 pair.1))
given_words Identical values words = then_words (prims.two values) _ (λ pair. truth_words (is_identical pair.0 pair.1))
given_words Not values words = then_words (prims.one values) _ (λ value. truth_words (is_false value))
given_words Values values words = words

paid_words : (o : prims.Outcome (List Variant)) (units : ℕ) → GivesWords o → IsAnswerWords (prims.paid o units)
paid_words (prims.Gives values) units words = words
paid_words (prims.Signals error) zero words = tt
paid_words (prims.Signals error) (suc units) words = tt

of_words : (operation : Option Operation) (values : List Variant) (units : ℕ) → AreWords values → IsAnswerWords (prims.of_number operation values units)
of_words (Some operation) values units words = paid_words (prims.given operation values) units (given_words operation values words)
of_words None values units words = tt

applied_words : (number : ℕ) (values : List Variant) → AreWords values → (units : ℕ) → IsAnswerWords (applied number values units)
applied_words number values words units = of_words (prims.operation_at number) values units words

module _ (program : Program) (n before locals : ℕ) where
  answer_after : (answered : Answered) (x : Spot) (place : ℕ) (register : List Variant) (s : State) (k : ℕ)
      → performed (machine_of program) (machines.answered answered (renumbered (body_of program) s)) (standing (body_of program) x place register s k) gives ≡ after (body_of program) x place (answer program answered s) k
  answer_after (Answers values units) x place register s k = refl
  answer_after (Fails error units) x place register s k = ap (λ line. ended (Signalled line) (renumbered (body_of program) (record s { fuel = record { left = units } })) k) (line_same (body_of program) program s.store error)
  answer_after NoUnit x place register s k = refl

  answer_low : (answered : Answered) (s : State) → IsLow answered s.fuel.left → units_of (answer program answered s) ≤ s.fuel.left
  answer_low (Answers values units) s low = low
  answer_low (Fails error units) s low = low
  answer_low NoUnit s low = omega arith

  answer_right : (answered : Answered) → IsAnswerWords answered → (s : State) → IsRight program locals s → IsRightAfter program locals (answer program answered s)
  answer_right (Answers values units) words s right = (record { objects = right.objects; frame = right.frame; words = record { locals = right.words.locals; captured = right.words.captured; globals = right.words.globals } }, words)
  answer_right (Fails error units) words s right = tt
  answer_right NoUnit words s right = tt

  pub operation_takes : (number count : ℕ) → nat_eq number output ≡ false → ((values : List Variant) (units : ℕ) → IsLow (applied number values units) units) → Takes program n before locals count (instr.Op number count) (operated program number)
  operation_takes number count other low = record {
    falls = λ values scope s. subst (λ b. units_of (operated_if b program number values s) ≤ s.fuel.left) (sym other) (answer_low (applied number values s.fuel.left) s (low values s.fuel.left));
    keeps = λ values words scope s right. subst (λ b. IsRightAfter program locals (operated_if b program number values s)) (sym other) (answer_right (applied number values s.fuel.left) (applied_words number values words s.fuel.left) s right);
    runs = λ values x place register s k long words fit right few. record {
      count = 0;
      searches = k;
      there = taken_all (body_of program) values count x place register s k (operate (machine_of program) number) long
          ∙ (λ i. performed (machine_of program) (machines.operated_if (other i) program number values (renumbered (body_of program) s)) (standing (body_of program) x place register s k) gives)
          ∙ answer_after (applied number values s.fuel.left) x place register s k
          ∙ (λ i. after (body_of program) x place (operated_if (sym other i) program number values s) k);
    };
  }
