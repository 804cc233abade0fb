-- Loops of one clause, by how it counts.
use Rattle.std.proofs.Common.{◌≡◌, ℕ, zero, suc, ◌+◌, ◌≤◌, Bool, true, false, ℤ, ◌+ℤ◌, pos, negsuc, List, [], ◌∷◌, ◌++◌, length, refl, sym, ap, ◌∙◌, subst, arith, length-append}
use Rattle.std.specs.Prelude.{int_lt, int_le, if◌then◌else◌}
use Rattle.std.specs.declared.option.Option.{Option}
use Rattle.std.specs.declared.option.Option.TheVariants.{None, Some}
use Rattle.std.proofs.lemmas.Bool.{true≢false}
use Rattle.dy_term.specs.declared.literal.Literal.{Literal-F, roll-Literal, out-roll-Literal}
use Rattle.dy_term.specs.declared.term.Limit.{Limit}
use Rattle.dy_term.specs.declared.term.Limit.TheVariants.{To, Above, Below}
use Rattle.dy_term.specs.declared.rows.Program.{Program}
use Rattle.dy_values.specs.declared.value.Variant.{Variant}
use Rattle.dy_values.specs.declared.value.Variant.TheVariants.{Int}
use Rattle.dy_outcome.specs.declared.state.State.{State}
use Rattle.dy_outcome.specs.declared.place.Place.{Place}
use Rattle.dy_outcome.specs.States.{Outcome, Does, Scope}
use Rattle.dy_outcome.specs.Calls.{calls_within}
use Rattle.dy_outcome.specs.Turns as means
use Rattle.dy_outcome.specs.Turns.{number_of, limit_of, step_of, is_over, fits}
use Rattle.dy_meaning.specs.Meaning.{literal, no_number}
use Rattle.dy_meaning.specs.Programs.{world}
use Rattle.dy_code.specs.Fetching as instr
use Rattle.dy_lowered.specs.Flat.{Plain, Code, one}
use Rattle.dy_lowered.specs.Words.{is_word}
use Rattle.dy_lowering_law.specs.Force.{RowsFit}
use Rattle.dy_lowering_law.specs.Following.{Spot, scope_of, standing, after, Comes, Holds, IsRight, Follows}
use Rattle.dy_lowering_law.specs.Machines.{linked_program, machine_of}
use Rattle.dy_lowering_law.specs.Renumbering.{body_of}
use Rattle.dy_lowering_law.proofs.Exiting.{pushed}
use Rattle.dy_lowering_law.proofs.Leading.{comes_on, comes_behind, stepped, inside_self, holds_front, holds_back}
use Rattle.dy_lowering_law.proofs.Literals.{literal_follows}
use Rattle.dy_lowering_law.specs.parts.Lets.{IsOwn}
use Rattle.dy_lowering_law.specs.parts.Selects.{HeldDo}
use Rattle.dy_lowering_law.proofs.parts.Saved.{laid_aside, inside_aside, fits_aside}
use Rattle.dy_lowering_law.proofs.parts.Selecting.{under}
use Rattle.dy_lowering_law.specs.fors.Loops.{AmountDoes, LimitDoes, StepDoes, TestDoes}
use Rattle.dy_lowered.specs.Turns.{Amount, Known, Given, Counter, bound_starting, raised, meeting, integer, up_to, stepping, by_one, counter, counted, greatest_number}
use Rattle.dy_lowering_law.proofs.fors.Counters.{up_to_counts, endless_counts, known_counts, given_counts, Meets, meeting_counts, raised_comes}
use Rattle.dy_lowering_law.proofs.fors.Starting.{integer_comes}
use Rattle.dy_lowering_law.proofs.fors.Turning as turning
use Rattle.dy_lowering_law.proofs.fors.Whole.{known_is, Plain_does, Held, Limited, counted_follows}
use Rattle.dy_lowering_law.proofs.fors.Words.{next_bound, next_fits, met, met_itself, over_not}

module _ (program : Program) (n before locals limit : ℕ) where
  abbrev wrong : Variant → Does
  wrong = no_number (calls_within (world program) limit)

  -- a step that is known
  step_is : (value : ℤ) (st : Option Does) → StepDoes program n before locals (Known value) st → (scope : Scope) (s : State) (go : ℤ → State → Outcome) → go value s ≡ step_of wrong st scope s go
  step_is value None same scope s go = ap (λ (v : ℤ). go v s) same
  step_is value (Some does) same scope s go = known_is program n before locals limit value does same.1 scope s go

  known_plain : (value : ℤ) (does : Does) → fits value ≡ true → does ≡ literal (roll-Literal (Literal-F.Int value)) → Plain_does program n before locals limit does
  known_plain value does word same =
      let follows = literal_follows program n before locals (roll-Literal (Literal-F.Int value)) (ap is_word (out-roll-Literal (Literal-F.Int value)) ∙ word) in
      subst (λ (d : Does). Plain_does program n before locals limit d) (sym same) (follows.falls, follows.keeps)

  pub amount_plain : (amount : Amount) (does : Does) → AmountDoes program n before locals amount does → Plain_does program n before locals limit does
  amount_plain (Known value) does is = known_plain value does is.0 is.1
  amount_plain (Given code) does is = (is.falls, is.keeps)

  pub limit_plain : (code : Option (Limit × Amount)) (does : Option (Limit × Does)) → LimitDoes program n before locals code does → Limited program n before locals limit does
  limit_plain None None is = tt
  limit_plain (Some code) (Some does) is = amount_plain code.1 does.1 is.1
  limit_plain None (Some does) is = absurd is
  limit_plain (Some code) None is = absurd is

  pub step_plain : (amount : Amount) (does : Option Does) → StepDoes program n before locals amount does → Held program n before locals limit does
  step_plain amount None is = tt
  step_plain amount (Some does) is = amount_plain amount does is

  module _ (place : Place) (own : IsOwn locals place) (start : Code) (a : Does) (fa : Follows program n before locals start a) (st : Option Does) (step : ℤ) (steps : StepDoes program n before locals (Known step) st)
      (test : Option (Bool × Code)) (t : Option (Bool × Does)) (tests : TestDoes program n before locals test t) (inner : Code) (b : Does) (fb : Follows program n before locals inner b)
      (last : Option Code) (f : Option Does) (lasts : HeldDo program n before locals last f) where
    abbrev All : Counter → Option (Limit × Does) → Type 0
    All clause l = Follows program n before locals (counted place clause test inner last) (means.for_loop wrong (means.Counts place a l st ∷ []) t b f)

    -- a clause whose number alone is evaluated first
    plain_follows : (clause : Counter) (l : Option (Limit × Does)) → Limited program n before locals limit l → clause.starting ≡ integer start → (bound : Option (Limit × ℤ))
        → ((scope : Scope) (s : State) (go : Option (Limit × ℤ) → State → Outcome) → go bound s ≡ limit_of wrong l scope s go)
        → turning.Counts program n before locals place clause [] bound step (λ z. fits z ≡ true) → All clause l
    plain_follows clause l limited starts bound is counts =
        counted_follows program n before locals limit place own clause a l st (fa.falls, fa.keeps) limited (step_plain (Known step) st steps) test t tests inner b fb last f lasts (record {
          begins = λ x p q register s k go fit right few holds next.
              let m = machine_of program in
              let num = body_of program in
              let scope = scope_of x in
              integer_comes program n before locals limit start a fa x x (inside_self m num x) p q register s k (λ number s1. limit_of wrong l scope s1 (λ bound1 s2. step_of wrong st scope s2 (λ by s3. go number bound1 by s3))) fit right few
              (subst (λ (code : Code). Holds (linked_program program) before x.running.body p code) starts holds)
              (λ number u j few1 right1 word.
              let same : go number bound step u ≡ limit_of wrong l scope u (λ bound1 s2. step_of wrong st scope s2 (λ by s3. go number bound1 by s3)) =
              step_is step st steps scope u (λ by s3. go number bound by s3) ∙ is scope u (λ bound1 s2. step_of wrong st scope s2 (λ by s3. go number bound1 by s3)) in
              subst (λ (o : Outcome). Comes m (standing num x (p + length (integer start)) (Int number ∷ []) u j) (after num x q o)) same
              (subst (λ (code : Code). Comes m (standing num x (p + length code) (Int number ∷ []) u j) (after num x q (go number bound step u))) starts
              (next number bound step [] (λ z. fits z ≡ true) counts word u j few1 right1)));
        })

    endless_follows : All (stepping start None step) None
    endless_follows = plain_follows (stepping start None step) None tt refl None (λ scope s go. refl) (endless_counts program n before locals place start step)

    limit_is : (other : Limit × Does) (value : ℤ) → other.1 ≡ literal (roll-Literal (Literal-F.Int value)) → (scope : Scope) (s : State) (go : Option (Limit × ℤ) → State → Outcome) → go (Some (other.0, value)) s ≡ limit_of wrong (Some other) scope s go
    limit_is other value same scope s go = known_is program n before locals limit value other.1 same scope s (λ number u. go (Some (other.0, number)) u)

    known_follows : (kind : Limit) (value : ℤ) (other : Limit × Does) → kind ≡ other.0 → AmountDoes program n before locals (Known value) other.1 → All (stepping start (Some (kind, Known value)) step) (Some other)
    known_follows kind value other same does =
        plain_follows (stepping start (Some (kind, Known value)) step) (Some other) (amount_plain (Known value) other.1 does) refl (Some (other.0, value)) (limit_is other value does.1)
        (subst (λ (k : Limit). turning.Counts program n before locals place (stepping start (Some (kind, Known value)) step) [] (Some (k, value)) step (λ z. fits z ≡ true)) same (known_counts program n before locals place start kind value step))

    -- up to below a known bound
    up_to_follows : (value bound : ℤ) (other : Limit × Does) → step ≡ pos 1 → fits bound ≡ true → AmountDoes program n before locals (Known value) other.1
        → ((z : ℤ) → is_over z (Some (other.0, value)) (pos 1) ≡ int_le bound z) → All (up_to start bound) (Some other)
    up_to_follows value bound other one word does over =
        plain_follows (up_to start bound) (Some other) (amount_plain (Known value) other.1 does) refl (Some (other.0, value)) (limit_is other value does.1)
        (subst (λ (by : ℤ). turning.Counts program n before locals place (up_to start bound) [] (Some (other.0, value)) by (λ z. fits z ≡ true)) (sym one) (up_to_counts program n before locals place start bound word (Some (other.0, value)) over))

    below_follows : (value : ℤ) (other : Limit × Does) → step ≡ pos 1 → Below ≡ other.0 → AmountDoes program n before locals (Known value) other.1 → All (up_to start value) (Some other)
    below_follows value other one same does = up_to_follows value value other one does.0 does (λ z. ap (λ (k : Limit). is_over z (Some (k, value)) (pos 1)) (sym same))

    to_follows : (value : ℤ) (other : Limit × Does) → step ≡ pos 1 → To ≡ other.0 → AmountDoes program n before locals (Known value) other.1
        → (c : Bool) → int_lt value greatest_number ≡ c → All (if c then up_to start (value +ℤ pos 1) else stepping start (Some (To, Known value)) (pos 1)) (Some other)
    to_follows value other one same does true e =
        up_to_follows value (value +ℤ pos 1) other one (next_fits value does.0 e) does (λ z. ap (λ (k : Limit). is_over z (Some (k, value)) (pos 1)) (sym same) ∙ next_bound value z)
    to_follows value other one same does false e =
        subst (λ (by : ℤ). All (stepping start (Some (To, Known value)) by) (Some other)) one (known_follows To value other same does)

    -- a bound that is evaluated behind the number, which waits
    bound_comes : (code : Code) (other : Limit × Does) → AmountDoes program n before locals (Given code) other.1 → (x : Spot) (p q : ℕ) (register : List Variant) (s : State) (k : ℕ) (go : ℤ → Option (Limit × ℤ) → ℤ → State → Outcome) → RowsFit x.running → IsRight program locals s → s.fuel.left ≤ n
        → Holds (linked_program program) before x.running.body p (bound_starting start (Some (other.0, Given code)))
        → ((number value : ℤ) → fits number ≡ true → fits value ≡ true → (w : State) (i : ℕ) → w.fuel.left ≤ n → IsRight program locals w
        → Comes (machine_of program) (standing (body_of program) (under (Int value ∷ []) x) (p + length (bound_starting start (Some (other.0, Given code)))) (Int number ∷ []) w i) (after (body_of program) x q (go number (Some (other.0, value)) step w)))
        → Comes (machine_of program) (standing (body_of program) x p register s k) (after (body_of program) x q
        (number_of wrong a (scope_of x) s (λ number s1. limit_of wrong (Some other) (scope_of x) s1 (λ bound1 s2. step_of wrong st (scope_of x) s2 (λ by s3. go number bound1 by s3)))))
    bound_comes code other does x p q register s k go fit right few holds next =
        let m = machine_of program in
        let num = body_of program in
        let linked = linked_program program in
        let body = x.running.body in
        let scope = scope_of x in
        let last1 : Code = Plain instr.Push ∷ one instr.Restore in
        let rest : Code = Plain instr.Save ∷ (integer code ++ last1) in
        let p1 = p + length (integer start) in
        let p2 = p1 + 1 + length (integer code) in
        let h1 = holds_back linked before body p (integer start) rest holds in
        let h2 = holds_back linked before body (p1 + 1) (integer code) last1 h1.1 in
        let end : p + length (integer start ++ rest) ≡ p2 + 1 + 1 = omega (arith, length-append (integer start) rest, length-append (integer code) last1) in
        integer_comes program n before locals limit start a fa x x (inside_self m num x) p q register s k (λ number s1. limit_of wrong (Some other) scope s1 (λ bound1 s2. step_of wrong st scope s2 (λ by s3. go number bound1 by s3))) fit right few
        (holds_front linked before body p (integer start) rest holds)
        (λ number u j few1 right1 word.
        let waits = Int number ∷ [] in
        let y = laid_aside waits x in
        comes_behind m (standing num x p1 waits u j) (standing num y (p1 + 1) waits u j) _
        (stepped m num x p1 before waits u j (Plain instr.Save) (integer code ++ last1) h1)
        (integer_comes program n before locals limit code other.1 does y x (inside_aside m num waits x fit) (p1 + 1) q waits u j (λ v w. step_of wrong st scope w (λ by s3. go number (Some (other.0, v)) by s3))
        (fits_aside waits x.running x.running.rows fit) right1 few1 (holds_front linked before body (p1 + 1) (integer code) last1 h1.1)
        (λ value w i few2 right2 word2.
        let v = Int value ∷ [] in
        comes_behind m (standing num y p2 v w i) (standing num (pushed (Int value) y) (p2 + 1) v w i) _
        (stepped m num y p2 before v w i (Plain instr.Push) (one instr.Restore) h2)
        (comes_behind m (standing num (pushed (Int value) y) (p2 + 1) v w i) (standing num (under v x) (p2 + 1 + 1) waits w i) _
        (stepped m num (pushed (Int value) y) (p2 + 1) before v w i (Plain instr.Restore) [] h2.1)
        (turning.starts_at program n before locals (under v x) x (p + length (integer start ++ rest)) (p2 + 1 + 1) q waits w i (step_of wrong st scope w (λ by s3. go number (Some (other.0, value)) by s3)) end
        (subst (λ (o : Outcome). Comes m (standing num (under v x) (p + length (integer start ++ rest)) waits w i) (after num x q o)) (step_is step st steps scope w (λ by s3. go number (Some (other.0, value)) by s3))
        (next number value word word2 w i few2 right2)))))))

    given_follows : (kind : Limit) (code : Code) (other : Limit × Does) → kind ≡ other.0 → AmountDoes program n before locals (Given code) other.1 → All (stepping start (Some (kind, Given code)) step) (Some other)
    given_follows kind code other same does =
        counted_follows program n before locals limit place own (stepping start (Some (kind, Given code)) step) a (Some other) st (fa.falls, fa.keeps) (amount_plain (Given code) other.1 does) (step_plain (Known step) st steps) test t tests inner b fb last f lasts (record {
          begins = λ x p q register s k go fit right few holds next.
              bound_comes code other does x p q register s k go fit right few holds
              (λ number value word word2 w i few2 right2. next number (Some (other.0, value)) step (Int value ∷ []) (λ z. fits z ≡ true)
              (subst (λ (c : Limit). turning.Counts program n before locals place (stepping start (Some (kind, Given code)) step) (Int value ∷ []) (Some (c, value)) step (λ z. fits z ≡ true)) same (given_counts program n before locals place start code kind value step))
              word w i few2 right2);
        })

    -- by one up to below such a bound
    meets_first : (value number : ℤ) → fits number ≡ true → (c : Bool) → int_lt value number ≡ c → Meets program n before locals (if c then number else value) value number
    meets_first value number word true e = (word, met_itself value number e, λ h. absurd (true≢false (sym (over_not value number e) ∙ h)))
    meets_first value number word false e = (word, met value number e, λ h. refl)

    meeting_follows : (code : Code) (other : Limit × Does) → step ≡ pos 1 → Below ≡ other.0 → AmountDoes program n before locals (Given code) other.1 → All (meeting start code) (Some other)
    meeting_follows code other one_ same does =
        counted_follows program n before locals limit place own (meeting start code) a (Some other) st (fa.falls, fa.keeps) (amount_plain (Given code) other.1 does) (step_plain (Known step) st steps) test t tests inner b fb last f lasts (record {
          begins = λ x p q register s k go fit right few holds next.
              let first1 = bound_starting start (Some (Below, Given code)) in
              let r = p + length first1 in
              let end : p + length (first1 ++ raised) ≡ r + 13 = omega (arith, length-append first1 raised) in
              bound_comes code other does x p q register s k go fit right few (holds_front (linked_program program) before x.running.body p first1 raised holds)
              (λ number value word word2 w i few2 right2.
              let c = int_lt value number in
              let lies = Int (if c then number else value) ∷ [] in
              let waits = Int number ∷ [] in
              comes_on (machine_of program) (standing (body_of program) (under (Int value ∷ []) x) r waits w i) (λ j. standing (body_of program) (under lies x) (r + 13) waits w j) _
              (raised_comes program n before locals value number x r w i c refl (holds_back (linked_program program) before x.running.body p first1 raised holds))
              (λ j. turning.starts_at program n before locals (under lies x) x (p + length (first1 ++ raised)) (r + 13) q waits w j (go number (Some (other.0, value)) step w) end
              (next number (Some (other.0, value)) step lies (Meets program n before locals (if c then number else value) value)
              (subst (λ (by : ℤ). turning.Counts program n before locals place (meeting start code) lies (Some (other.0, value)) by (Meets program n before locals (if c then number else value) value)) (sym one_)
              (subst (λ (kind : Limit). turning.Counts program n before locals place (meeting start code) lies (Some (kind, value)) (pos 1) (Meets program n before locals (if c then number else value) value)) same
              (meeting_counts program n before locals place start code (if c then number else value) value word2)))
              (meets_first value number word c refl) w j few2 right2)));
        })

    -- by a known step, with a known bound or none
    stepping_follows : (limit1 : Option (Limit × Amount)) (l : Option (Limit × Does)) → Unit {0} → LimitDoes program n before locals limit1 l → All (stepping start limit1 step) l
    stepping_follows None None known is = endless_follows
    stepping_follows (Some (kind, Known value)) (Some other) known is = known_follows kind value other is.0 is.1
    stepping_follows (Some (kind, Given code)) (Some other) known is = given_follows kind code other is.0 is.1
    stepping_follows (Some (kind, Given code)) None known is = absurd is
    stepping_follows None (Some other) known is = absurd is
    stepping_follows (Some (kind, Known value)) None known is = absurd is

    by_one_follows : step ≡ pos 1 → (limit1 : Option (Limit × Amount)) (l : Option (Limit × Does)) → Unit {0} → LimitDoes program n before locals limit1 l → All (by_one start limit1) l
    by_one_follows one None None known is = subst (λ (by : ℤ). All (stepping start None by) None) one endless_follows
    by_one_follows one (Some (Below, Known value)) (Some other) known is = below_follows value other one is.0 is.1
    by_one_follows one (Some (To, Known value)) (Some other) known is = to_follows value other one is.0 is.1 (int_lt value greatest_number) refl
    by_one_follows one (Some (Above, Known value)) (Some other) known is = subst (λ (by : ℤ). All (stepping start (Some (Above, Known value)) by) (Some other)) one (known_follows Above value other is.0 is.1)
    by_one_follows one (Some (To, Given code)) (Some other) known is = subst (λ (by : ℤ). All (stepping start (Some (To, Given code)) by) (Some other)) one (given_follows To code other is.0 is.1)
    by_one_follows one (Some (Above, Given code)) (Some other) known is = subst (λ (by : ℤ). All (stepping start (Some (Above, Given code)) by) (Some other)) one (given_follows Above code other is.0 is.1)
    by_one_follows one (Some (Below, Given code)) (Some other) known is = meeting_follows code other one is.0 is.1
    by_one_follows one (Some (kind, Given code)) None known is = absurd is
    by_one_follows one None (Some other) known is = absurd is
    by_one_follows one (Some (kind, Known value)) None known is = absurd is

pub counts_follow : (program : Program) (n before locals bound : ℕ) (place : Place) (start : Code) (a : Does) (limit : Option (Limit × Amount)) (l : Option (Limit × Does)) (step : ℤ) (s : Option Does)
    (test : Option (Bool × Code)) (t : Option (Bool × Does)) (inner : Code) (b : Does) (last : Option Code) (f : Option Does) → IsOwn locals place → Follows program n before locals start a
    → LimitDoes program n before locals limit l → StepDoes program n before locals (Known step) s → TestDoes program n before locals test t → Follows program n before locals inner b → HeldDo program n before locals last f
    → Follows program n before locals (counted place (counter start limit step) test inner last) (means.for_loop (no_number (calls_within (world program) bound)) (means.Counts place a l s ∷ []) t b f)
counts_follow program n before locals bound place start a limit l (pos (suc zero)) s test t inner b last f own fa is steps tests fb lasts =
    by_one_follows program n before locals bound place own start a fa s (pos 1) steps test t tests inner b fb last f lasts refl limit l tt is
counts_follow program n before locals bound place start a limit l (pos zero) s test t inner b last f own fa is steps tests fb lasts =
    stepping_follows program n before locals bound place own start a fa s (pos 0) steps test t tests inner b fb last f lasts limit l tt is
counts_follow program n before locals bound place start a limit l (pos (suc (suc more))) s test t inner b last f own fa is steps tests fb lasts =
    stepping_follows program n before locals bound place own start a fa s (pos (suc (suc more))) steps test t tests inner b fb last f lasts limit l tt is
counts_follow program n before locals bound place start a limit l (negsuc less) s test t inner b last f own fa is steps tests fb lasts =
    stepping_follows program n before locals bound place own start a fa s (negsuc less) steps test t tests inner b fb last f lasts limit l tt is
