-- Loops of any clauses.
use Rattle.std.proofs.Common.{◌≡◌, ℕ, zero, suc, ◌+◌, Bool, true, false, ℤ, ◌+ℤ◌, negsuc, List, [], ◌∷◌, ◌++◌, length, refl, subst, arith, length-append}
use Rattle.std.specs.Prelude.{flat_map}
use Rattle.std.specs.declared.option.Option.{Option}
use Rattle.std.specs.declared.option.Option.TheVariants.{None, Some}
use Rattle.dy_term.specs.declared.term.Limit.{Limit}
use Rattle.dy_term.specs.declared.rows.Program.{Program}
use Rattle.dy_values.specs.declared.value.Variant.{Variant}
use Rattle.dy_values.specs.Spending.{first}
use Rattle.dy_outcome.specs.declared.state.State.{State}
use Rattle.dy_outcome.specs.declared.place.Place.{Place}
use Rattle.dy_outcome.specs.States.{Outcome, Does, Scope, and_then, spend_unit, exhausted}
use Rattle.dy_outcome.specs.Nearness.{NeverRises}
use Rattle.dy_outcome.specs.Calls.{calls_within}
use Rattle.dy_outcome.specs.Turns as means
use Rattle.dy_outcome.specs.Turns.{Going, Taking, Counting, begun, bound_anew, are_over, advanced, for_turns, fits}
use Rattle.dy_outcome.proofs.Alike.{HeldAlike}
use Rattle.dy_outcome.proofs.Turning.{TestAlike, LimitAlike, ClausesAlike, takes, counts, for_alike}
use Rattle.dy_outcome.proofs.Whole.{itself_alike}
use Rattle.dy_meaning.specs.Meaning.{no_number}
use Rattle.dy_meaning.specs.Programs.{world}
use Rattle.dy_code.specs.Fetching as instr
use Rattle.dy_lowered.specs.Flat.{Plain, Jump, Code}
use Rattle.dy_lowered.specs.Turns.{Known, Given, Clause, Takes, Counts, all_operands, starting, turn, turns, finished, for_loop}
use Rattle.dy_lowering_law.specs.Following.{scope_of, standing, IsWord, IsRight, IsRightAfter, Follows}
use Rattle.dy_lowering_law.specs.Machines.{linked_program, machine_of}
use Rattle.dy_lowering_law.specs.Renumbering.{body_of}
use Rattle.dy_lowering_law.proofs.Cases.{then_keeps, then_keeps_words, first_word, chosen_keeps}
use Rattle.dy_lowering_law.proofs.Leading.{ends_at, inside_self, holds_front, holds_back}
use Rattle.dy_lowering_law.proofs.Literals.{truth_follows}
use Rattle.dy_lowering_law.specs.parts.Selects.{HeldDo}
use Rattle.dy_lowering_law.proofs.parts.Looping.{with_left, unit_keeps, left_right}
use Rattle.dy_lowering_law.specs.fors.Loops.{TestDoes, ClausesDo}
use Rattle.dy_lowering_law.proofs.fors.Clauses.{AllWords}
use Rattle.dy_lowering_law.proofs.fors.Beginning.{limit_plain, step_plain, counts_follow}
use Rattle.dy_lowering_law.proofs.fors.Evaluating.{all_begin}
use Rattle.dy_lowering_law.proofs.fors.Several.{all_turns}
use Rattle.dy_lowering_law.proofs.fors.Variables.{anew_right}
use Rattle.dy_lowering_law.proofs.fors.Whole.{Plain_does, Held, Limited, wrong_falls, number_of_keeps, limit_keeps, step_keeps, test_keeps, chosen_so}

module _ (program : Program) (n before locals bound : ℕ) where
  abbrev wrong : Variant → Does
  wrong = no_number (calls_within (world program) bound)

  abbrev Rightly : Outcome → Type 0
  Rightly = IsRightAfter program locals

  -- the next values of clauses under way keep states right
  abbrev Kept : Going → Type 0
  Kept (Taking place value next) = Plain_does program n before locals bound next × IsWord value
  Kept (Counting place number limit step) = fits number ≡ true

  abbrev AllKept : List Going → Type 0
  AllKept [] = Unit {0}
  AllKept (going ∷ others) = Kept going × AllKept others

  kept_words : (all : List Going) → AllKept all → AllWords program n before locals all
  kept_words [] kept = tt
  kept_words (Taking place value next ∷ others) kept = (kept.0.1, kept_words others kept.1)
  kept_words (Counting place number limit step ∷ others) kept = (kept.0, kept_words others kept.1)

  begun_keeps : (clauses : List Clause) (others : List means.Clause) → ClausesDo program n before locals clauses others → (scope : Scope) (s : State) (go : List Going → State → Outcome) → IsRight program locals s
      → ((all : List Going) (t : State) → AllKept all → IsRight program locals t → Rightly (go all t)) → Rightly (begun wrong others scope s go)
  begun_keeps [] [] does scope s go right next = next [] s tt right
  begun_keeps (Takes place start code ∷ clauses) (means.Takes other a b ∷ others) does scope s go right next =
      let follows = does.0.3 in
      then_keeps_words program locals (a scope s) _ (does.0.2.keeps scope s right)
      (λ vs t right1 words. begun_keeps clauses others does.1 scope t (λ all u. go (Taking other (first vs) b ∷ all) u) right1 (λ all u kept right2. next (Taking other (first vs) b ∷ all) u (((follows.falls, follows.keeps), first_word vs words), kept) right2))
  begun_keeps (Counts place start limit step ∷ clauses) (means.Counts other a l st ∷ others) does scope s go right next =
      number_of_keeps program n before locals bound a does.0.2.keeps scope s _ right (λ number t word right1.
      limit_keeps program n before locals bound l (limit_plain program n before locals bound limit l does.0.3) scope t _ right1 (λ value u right2.
      step_keeps program n before locals bound st (step_plain program n before locals bound step st does.0.4) scope u _ right2 (λ by v right3.
      begun_keeps clauses others does.1 scope v (λ all w. go (Counting other number value by ∷ all) w) right3 (λ all w kept right4. next (Counting other number value by ∷ all) w (word, kept) right4))))
  begun_keeps [] (other ∷ others) does scope s go right next = absurd does
  begun_keeps (clause ∷ clauses) [] does scope s go right next = absurd does
  begun_keeps (Takes place start code ∷ clauses) (means.Counts other a l st ∷ others) does scope s go right next = absurd does.0
  begun_keeps (Counts place start limit step ∷ clauses) (means.Takes other a b ∷ others) does scope s go right next = absurd does.0

  advanced_keeps : (all : List Going) → AllKept all → (scope : Scope) (s : State) (ends : State → Outcome) (goes : List Going → State → Outcome) → IsRight program locals s
      → ((t : State) → IsRight program locals t → Rightly (ends t)) → ((others : List Going) (t : State) → AllKept others → IsRight program locals t → Rightly (goes others t)) → Rightly (advanced all scope s ends goes)
  advanced_keeps [] kept scope s ends goes right over on = on [] s tt right
  advanced_keeps (Taking place value next ∷ others) kept scope s ends goes right over on =
      then_keeps_words program locals (next scope s) _ (kept.0.0.1 scope s right)
      (λ vs t right1 words. advanced_keeps others kept.1 scope t ends (λ rest u. goes (Taking place (first vs) next ∷ rest) u) right1 over (λ rest u more right2. on (Taking place (first vs) next ∷ rest) u ((kept.0.0, first_word vs words), more) right2))
  advanced_keeps (Counting place number limit step ∷ others) kept scope s ends goes right over on =
      chosen_so program n before locals bound (fits (number +ℤ step)) (λ t. advanced others scope t ends (λ rest u. goes (Counting place (number +ℤ step) limit step ∷ rest) u)) ends s
      (λ word. advanced_keeps others kept.1 scope s ends (λ rest u. goes (Counting place (number +ℤ step) limit step ∷ rest) u) right over (λ rest u more right2. on (Counting place (number +ℤ step) limit step ∷ rest) u (word, more) right2))
      (over s right)

  module _ (clauses : List Clause) (others : List means.Clause) (does : ClausesDo program n before locals clauses others) (test : Option (Bool × Code)) (t : Option (Bool × Does)) (tests : TestDoes program n before locals test t)
      (inner : Code) (b : Does) (fb : Follows program n before locals inner b) (last : Option Code) (f : Option Does) (lasts : HeldDo program n before locals last f) where
    abbrev whole : Does
    whole = means.for_loop wrong others t b f

    abbrev ends : Does
    ends = means.finished f

    last_does : (code : Option Code) (d : Option Does) → HeldDo program n before locals code d → Follows program n before locals (finished code) (means.finished d)
    last_does None None held = truth_follows program n before locals false
    last_does (Some code) (Some d) held = held
    last_does None (Some d) held = absurd held
    last_does (Some code) None held = absurd held

    ff : Follows program n before locals (finished last) ends
    ff = last_does last f lasts

    turns_keep : (left : ℕ) (all : List Going) → AllKept all → (scope : Scope) (s : State) → IsRight program locals s → Rightly (for_turns left all t b ends scope s)
    turns_keep zero all kept scope s right =
        let s1 = bound_anew all s in
        let right1 = anew_right program n before locals all (kept_words all kept) s right in
        chosen_keeps program n before locals (are_over all) (ends scope) (λ u. means.tested t scope u (ends scope) exhausted) s1 (ff.keeps scope s1 right1)
        (test_keeps program n before locals bound test t tests scope s1 (ends scope) exhausted right1 (λ u right2. ff.keeps scope u right2) (λ u right2. tt))
    turns_keep (suc left) all kept scope s right =
        let s1 = bound_anew all s in
        let right1 = anew_right program n before locals all (kept_words all kept) s right in
        let advance : List Variant → State → Outcome = λ vs v. advanced all scope v (ends scope) (λ rest w. for_turns left rest t b ends scope w) in
        let go : State → Outcome = λ v. and_then (b scope v) advance in
        chosen_keeps program n before locals (are_over all) (ends scope) (λ u. means.tested t scope u (ends scope) (λ w. spend_unit w go)) s1 (ff.keeps scope s1 right1)
        (test_keeps program n before locals bound test t tests scope s1 (ends scope) (λ w. spend_unit w go) right1 (λ u right2. ff.keeps scope u right2)
        (λ u right2. unit_keeps program n before locals u.fuel.left u go (λ units.
        then_keeps program locals (b scope (with_left units u)) advance (fb.keeps scope (with_left units u) (left_right program n before locals units u right2))
        (λ ws v right3. advanced_keeps all kept scope v (ends scope) (λ rest w. for_turns left rest t b ends scope w) right3 (λ w right4. ff.keeps scope w right4) (λ rest w more right4. turns_keep left rest more scope w right4)))))

    whole_keeps : (scope : Scope) (s : State) → IsRight program locals s → Rightly (whole scope s)
    whole_keeps scope s right = begun_keeps clauses others does scope s _ right (λ all u kept right1. turns_keep u.fuel.left all kept scope u right1)

    alike_held : (d : Option Does) → Held program n before locals bound d → HeldAlike 0 d d
    alike_held None plain = tt
    alike_held (Some d) plain = itself_alike 0 d plain.0

    alike_limit : (d : Option (Limit × Does)) → Limited program n before locals bound d → LimitAlike 0 d d
    alike_limit None plain = tt
    alike_limit (Some d) plain = (refl, itself_alike 0 d.1 plain.0)

    alike_test : (c : Option (Bool × Code)) (d : Option (Bool × Does)) → TestDoes program n before locals c d → TestAlike 0 d d
    alike_test None None is = tt
    alike_test (Some c) (Some d) is = (refl, itself_alike 0 d.1 is.1.falls)
    alike_test None (Some d) is = absurd is
    alike_test (Some c) None is = absurd is

    alike_last : (c : Option Code) (d : Option Does) → HeldDo program n before locals c d → HeldAlike 0 d d
    alike_last None None is = tt
    alike_last (Some c) (Some d) is = itself_alike 0 d is.falls
    alike_last None (Some d) is = absurd is
    alike_last (Some c) None is = absurd is

    alike_all : (codes : List Clause) (all : List means.Clause) → ClausesDo program n before locals codes all → ClausesAlike 0 all all
    alike_all [] [] is = tt
    alike_all (Takes place start code ∷ codes) (means.Takes other a d ∷ all) is =
        (takes other a a d d (itself_alike 0 a is.0.2.falls) (itself_alike 0 d is.0.3.falls), alike_all codes all is.1)
    alike_all (Counts place start limit step ∷ codes) (means.Counts other a l st ∷ all) is =
        (counts other a a l l st st (itself_alike 0 a is.0.2.falls) (alike_limit l (limit_plain program n before locals bound limit l is.0.3)) (alike_held st (step_plain program n before locals bound step st is.0.4)), alike_all codes all is.1)
    alike_all [] (other ∷ all) is = absurd is
    alike_all (code ∷ codes) [] is = absurd is
    alike_all (Takes place start code ∷ codes) (means.Counts other a l st ∷ all) is = absurd is.0
    alike_all (Counts place start limit step ∷ codes) (means.Takes other a d ∷ all) is = absurd is.0

    whole_falls : NeverRises whole
    whole_falls scope s =
        (for_alike 0 wrong wrong (λ value. itself_alike 0 (wrong value) (wrong_falls program n before locals bound value)) others others (alike_all clauses others does) t t (alike_test test t tests) b b (itself_alike 0 b fb.falls) f f (alike_last last f lasts) scope s).falls

    pub turns_follow : Follows program n before locals (turns clauses test inner last) whole
    turns_follow = record {
      falls = whole_falls;
      keeps = whole_keeps;
      runs = λ x p register s k holds fit right few.
          let m = machine_of program in
          let num = body_of program in
          let first1 = flat_map starting clauses in
          let turn1 = turn clauses test inner in
          let back : Code = Jump (negsuc (length turn1)) ∷ Plain (instr.Values (all_operands clauses)) ∷ finished last in
          let start = p + length first1 in
          let q = start + length turn1 + 1 + 1 + length (finished last) in
          let end : q ≡ p + length (turns clauses test inner last) = omega (arith, length-append first1 (turn1 ++ back), length-append turn1 back) in
          ends_at m num (standing num x p register s k) x q (p + length (turns clauses test inner last)) (whole (scope_of x) s) end
          (all_begin program n before locals bound x q clauses others does x (inside_self m num x) p register s k (λ all u. for_turns u.fuel.left all t b ends (scope_of x) u) fit right few
          (holds_front (linked_program program) before x.running.body p first1 (turn1 ++ back) holds)
          (λ all keep values u j few1 right1.
          all_turns program n before locals clauses test t tests inner b fb (finished last) ends ff x fit start
          (holds_back (linked_program program) before x.running.body p first1 (turn1 ++ back) holds) u.fuel.left all keep values u j right1 few1 (omega arith)));
    }

pub fors_follow : (program : Program) (n before locals bound : ℕ) (clauses : List Clause) (others : List means.Clause) (test : Option (Bool × Code)) (t : Option (Bool × Does)) (inner : Code) (b : Does) (last : Option Code) (f : Option Does)
    → ClausesDo program n before locals clauses others → TestDoes program n before locals test t → Follows program n before locals inner b → HeldDo program n before locals last f
    → Follows program n before locals (for_loop clauses test inner last) (means.for_loop (no_number (calls_within (world program) bound)) others t b f)
fors_follow program n before locals bound (Counts place start limit (Known step) ∷ []) (means.Counts other a l st ∷ []) test t inner b last f does tests fb lasts =
    subst (λ (at : Place). Follows program n before locals (for_loop (Counts place start limit (Known step) ∷ []) test inner last) (means.for_loop (no_number (calls_within (world program) bound)) (means.Counts at a l st ∷ []) t b f)) does.0.0
    (counts_follow program n before locals bound place start a limit l step st test t inner b last f does.0.1 does.0.2 does.0.3 does.0.4 tests fb lasts)
fors_follow program n before locals bound (Counts place start limit (Given step) ∷ []) others test t inner b last f does tests fb lasts =
    turns_follow program n before locals bound (Counts place start limit (Given step) ∷ []) others does test t tests inner b fb last f lasts
fors_follow program n before locals bound (Takes place start next ∷ []) others test t inner b last f does tests fb lasts =
    turns_follow program n before locals bound (Takes place start next ∷ []) others does test t tests inner b fb last f lasts
fors_follow program n before locals bound [] others test t inner b last f does tests fb lasts = turns_follow program n before locals bound [] others does test t tests inner b fb last f lasts
fors_follow program n before locals bound (Counts place start limit (Known step) ∷ clause ∷ clauses) others test t inner b last f does tests fb lasts =
    turns_follow program n before locals bound (Counts place start limit (Known step) ∷ clause ∷ clauses) others does test t tests inner b fb last f lasts
fors_follow program n before locals bound (Counts place start limit (Given step) ∷ clause ∷ clauses) others test t inner b last f does tests fb lasts =
    turns_follow program n before locals bound (Counts place start limit (Given step) ∷ clause ∷ clauses) others does test t tests inner b fb last f lasts
fors_follow program n before locals bound (Takes place start next ∷ clause ∷ clauses) others test t inner b last f does tests fb lasts =
    turns_follow program n before locals bound (Takes place start next ∷ clause ∷ clauses) others does test t tests inner b fb last f lasts
fors_follow program n before locals bound (Counts place start limit (Known step) ∷ []) [] test t inner b last f does tests fb lasts = absurd does
fors_follow program n before locals bound (Counts place start limit (Known step) ∷ []) (means.Takes other a d ∷ others) test t inner b last f does tests fb lasts = absurd does.0
fors_follow program n before locals bound (Counts place start limit (Known step) ∷ []) (means.Counts other a l st ∷ more ∷ others) test t inner b last f does tests fb lasts = absurd does.1
