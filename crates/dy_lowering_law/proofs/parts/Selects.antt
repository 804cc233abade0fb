-- `select`, by `==` and by a function.
use Rattle.std.proofs.Common.{◌≡◌, ℕ, zero, suc, ◌+◌, false, List, [], ◌∷◌, ◌++◌, length, refl, ap, ◌∙◌, subst, arith, length-append}
use Rattle.std.specs.declared.option.Option.{Option}
use Rattle.std.specs.declared.option.Option.TheVariants.{None, Some}
use Rattle.dy_term.specs.declared.rows.Program.{Program}
use Rattle.dy_values.specs.declared.value.Variant.{Variant}
use Rattle.dy_values.specs.declared.error.ErrorRow.{ErrorRow}
use Rattle.dy_values.specs.Errors.{no_match}
use Rattle.dy_values.specs.Spending.{first}
use Rattle.dy_printing.specs.Unhandled.{unhandled_line}
use Rattle.dy_outcome.specs.declared.state.State.{State}
use Rattle.dy_outcome.specs.States.{Ended, Does, and_then, unit_from}
use Rattle.dy_outcome.specs.Nearness.{NeverRises}
use Rattle.dy_outcome.specs.Choices as choices
use Rattle.dy_outcome.specs.Calls.{calls_within, signalled}
use Rattle.dy_outcome.proofs.Alike.{AllAlike, ArmsAlike, HeldAlike, select_alike}
use Rattle.dy_outcome.proofs.Near.{unit_near, itself_near}
use Rattle.dy_outcome.proofs.Whole.{itself_alike}
use Rattle.dy_code.specs.Fetching as instr
use Rattle.dy_meaning.specs.Meaning.{identity, or_no_match, selecting_in}
use Rattle.dy_meaning.specs.Operations.{operated}
use Rattle.dy_meaning.specs.Programs.{world}
use Rattle.dy_steps.specs.Configurations.{Goes, Signalled}
use Rattle.dy_steps.specs.Effects as effects
use Rattle.dy_steps.specs.Effects.{gives, raised, ended}
use Rattle.dy_steps.proofs.Leading.{exit_laws}
use Rattle.dy_lowered.specs.Flat.{Plain, Code, one}
use Rattle.dy_lowered.specs.Parts as parts
use Rattle.dy_lowered.specs.Parts.{by_identity, by_function}
use Rattle.dy_lowering_law.specs.Following.{Spot, scope_of, standing, after, Holds, IsWord, Follows}
use Rattle.dy_lowering_law.specs.Kinds.{AllDo}
use Rattle.dy_lowering_law.specs.Machines.{linked_program, machine_of}
use Rattle.dy_lowering_law.specs.Renumbering.{body_of, renumbered}
use Rattle.dy_lowering_law.proofs.Leading.{comes_by, comes_behind, stepped, then_words, inside_self, holds_front, holds_back}
use Rattle.dy_lowering_law.proofs.Arguments.{taken_all, inside_both}
use Rattle.dy_lowering_law.proofs.Cases.{then_keeps_words, first_word}
use Rattle.dy_lowering_law.proofs.Exiting.{pushed, inside_push}
use Rattle.dy_lowering_law.proofs.Lines.{line_same}
use Rattle.dy_lowering_law.specs.parts.Selects.{CallsTaken, HeldDo, ArmsDo}
use Rattle.dy_lowering_law.proofs.parts.Answering.{all_taken}
use Rattle.dy_lowering_law.proofs.parts.Looping.{with_left, unit_keeps}
use Rattle.dy_lowering_law.proofs.parts.Saved.{laid_aside, inside_aside, fits_aside, fits_laid}
use Rattle.dy_lowering_law.proofs.parts.Selecting.{Compares, selecting_comes, selecting_keeps}

module _ (program : Program) (n before locals : ℕ) where
  -- by `==`: the value lies among the operands
  identity_compares : (v : Variant) → IsWord v → Compares program n before locals by_identity (v ∷ []) (v ∷ []) (λ w. operated program identity (v ∷ w ∷ []))
  identity_compares v word =
      let m = machine_of program in
      let number = body_of program in
      let takes = all_taken program n before locals identity 2 in
      record {
        again = λ x place register s k holds.
            let end : place + 1 + 1 + 1 ≡ place + 3 = omega arith in
            comes_behind m (standing number (pushed v x) place register s k) (standing number x (place + 1) (v ∷ []) s k) _
            (stepped m number (pushed v x) place before register s k (Plain (instr.Values 1)) (Plain instr.Push ∷ one instr.Push) holds ∙ taken_all number (v ∷ []) 1 x (place + 1) register s k gives refl)
            (comes_behind m (standing number x (place + 1) (v ∷ []) s k) (standing number (pushed v x) (place + 1 + 1) (v ∷ []) s k) _
            (stepped m number x (place + 1) before (v ∷ []) s k (Plain instr.Push) (one instr.Push) holds.1)
            (comes_by m _ _ k (stepped m number (pushed v x) (place + 1 + 1) before (v ∷ []) s k (Plain instr.Push) [] holds.1.1
            ∙ ap (λ (p : ℕ). Goes (standing number (pushed v (pushed v x)) p (v ∷ []) s k)) end)));
        calls = λ w other x place register s k fit right few. takes.runs (v ∷ w ∷ []) x place register s k refl (word, (other, tt)) fit right few;
        falls = λ w. takes.falls (v ∷ w ∷ []);
        keeps = λ w other scope s right. takes.keeps (v ∷ w ∷ []) (word, (other, tt)) scope s right;
        away = λ x place register s k. taken_all number (v ∷ []) 1 x place register s k gives refl;
        fits = λ x fit. fits_laid v x.running x.running.rows fit;
        inside = λ x fit. inside_push m exit_laws number v x fit;
      }

  -- by a function: it lies under the value
  function_compares : (bound : ℕ) → CallsTaken program n before locals bound 2 → (f v : Variant) → IsWord f → IsWord v
      → Compares program n before locals by_function (v ∷ f ∷ []) (f ∷ v ∷ []) (λ w. (calls_within (world program) bound).value f (v ∷ w ∷ []))
  function_compares bound takes f v called word =
      let m = machine_of program in
      let number = body_of program in
      let both = f ∷ v ∷ [] in
      record {
        again = λ x place register s k holds.
            let y = pushed v (pushed f x) in
            let end : place + 1 + 1 + 1 ≡ place + 3 = omega arith in
            comes_behind m (standing number y place register s k) (standing number x (place + 1) both s k) _
            (stepped m number y place before register s k (Plain (instr.Values 2)) (Plain (instr.Spread 2 false) ∷ one (instr.Spread 2 false)) holds ∙ taken_all number both 2 x (place + 1) register s k gives refl)
            (comes_behind m (standing number x (place + 1) both s k) (standing number y (place + 1 + 1) both s k) _
            (stepped m number x (place + 1) before both s k (Plain (instr.Spread 2 false)) (one (instr.Spread 2 false)) holds.1)
            (comes_by m _ _ k (stepped m number y (place + 1 + 1) before both s k (Plain (instr.Spread 2 false)) [] holds.1.1
            ∙ ap (λ (p : ℕ). Goes (standing number (pushed v (pushed f y)) p both s k)) end)));
        calls = λ w other x place register s k fit right few. takes.runs (f ∷ v ∷ w ∷ []) x place register s k refl (called, (word, (other, tt))) fit right few;
        falls = λ w. takes.falls (f ∷ v ∷ w ∷ []);
        keeps = λ w other scope s right. takes.keeps (f ∷ v ∷ w ∷ []) (called, (word, (other, tt))) scope s right;
        away = λ x place register s k. taken_all number both 2 x place register s k gives refl;
        fits = λ x fit. fits_laid v (pushed f x).running x.running.rows (fits_laid f x.running x.running.rows fit);
        inside = λ x fit. inside_both program (pushed v (pushed f x)) (pushed f x) x
            (inside_push m exit_laws number v (pushed f x) (fits_laid f x.running x.running.rows fit)) (inside_push m exit_laws number f x fit);
      }

  signal_after : (error : ErrorRow) (units : ℕ) (x : Spot) (place : ℕ) (register : List Variant) (s : State) (k : ℕ)
      → effects.unit_from units (standing (body_of program) x place register s k) (raised (machine_of program) error)
      ≡ after (body_of program) x place (unit_from units s (λ t. Ended (unhandled_line program t.store error) t)) k
  signal_after error zero x place register s k = refl
  signal_after error (suc left) x place register s k =
      ap (λ line. ended (Signalled line) (renumbered (body_of program) (with_left left s)) k) (line_same (body_of program) program s.store error)

  -- no arm is met, and there is none for that
  no_match_follows : Follows program n before locals (one instr.NoMatch) (signalled (world program) no_match)
  no_match_follows = record {
    falls = λ scope s. (unit_near 0 s (λ t. Ended (unhandled_line program t.store no_match) t) (λ t. Ended (unhandled_line program t.store no_match) t) (λ t. itself_near 0 t.fuel.left (Ended (unhandled_line program t.store no_match) t) (omega arith))).falls;
    keeps = λ scope s right. unit_keeps program n before locals s.fuel.left s (λ t. Ended (unhandled_line program t.store no_match) t) (λ left. tt);
    runs = λ x place register s k holds fit right few.
        comes_by (machine_of program) _ _ k (stepped (machine_of program) (body_of program) x place before register s k (Plain instr.NoMatch) [] holds
        ∙ signal_after no_match s.fuel.left x (place + 1) register s k);
  }

  last_follows : (bound : ℕ) (last : Option Code) (l : Option Does) → HeldDo program n before locals last l → Follows program n before locals (parts.or_no_match last) (or_no_match (calls_within (world program) bound) l)
  last_follows bound None None follow = no_match_follows
  last_follows bound (Some code) (Some does) follow = follow
  last_follows bound None (Some does) follow = absurd follow
  last_follows bound (Some code) None follow = absurd follow

  -- none of them adds to the units
  all_alike : (codes : List Code) (all : List Does) → AllDo program n before locals codes all → AllAlike 0 all all
  all_alike [] [] follow = tt
  all_alike (code ∷ codes) (does ∷ others) follow = (itself_alike 0 does follow.0.falls, all_alike codes others follow.1)
  all_alike [] (does ∷ others) follow = absurd follow
  all_alike (code ∷ codes) [] follow = absurd follow

  arms_alike : (codes : List (List Code × Code)) (all : List (List Does × Does)) → ArmsDo program n before locals codes all → ArmsAlike 0 all all
  arms_alike [] [] follow = tt
  arms_alike (code ∷ codes) (does ∷ others) follow = (all_alike code.0 does.0 follow.0, itself_alike 0 does.1 follow.1.falls, arms_alike codes others follow.2)
  arms_alike [] (does ∷ others) follow = absurd follow
  arms_alike (code ∷ codes) [] follow = absurd follow

  held_alike : (code : Option Code) (does : Option Does) → HeldDo program n before locals code does → HeldAlike 0 does does
  held_alike None None follow = tt
  held_alike (Some code) (Some does) follow = itself_alike 0 does follow.falls
  held_alike None (Some does) follow = absurd follow
  held_alike (Some code) None follow = absurd follow

  module _ (bound : ℕ) (takes : CallsTaken program n before locals bound 2) where
    abbrev calls_do : Variant → Variant → Variant → Does
    calls_do function left right = (calls_within (world program) bound).value function (left ∷ right ∷ [])

    abbrev same_do : Variant → Variant → Does
    same_do left right = operated program identity (left ∷ right ∷ [])

    module _ (value : Code) (v : Does) (arms : List (List Code × Code)) (all : List (List Does × Does)) (missed : Code) (other : Does)
        (fv : Follows program n before locals value v) (fa : ArmsDo program n before locals arms all) (fm : Follows program n before locals missed other) where
      select_falls : (test : Option Code) (t : Option Does) → HeldDo program n before locals test t → NeverRises (choices.select calls_do same_do v t all other)
      select_falls test t follow scope s =
          (select_alike 0 calls_do calls_do same_do same_do v v t t all all other other
          (λ f l r. itself_alike 0 (calls_do f l r) (takes.falls (f ∷ l ∷ r ∷ []))) (λ l r. itself_alike 0 (same_do l r) ((all_taken program n before locals identity 2).falls (l ∷ r ∷ [])))
          (itself_alike 0 v fv.falls) (held_alike test t follow) (arms_alike arms all fa) (itself_alike 0 other fm.falls) scope s).falls

      same_follows : Follows program n before locals (value ++ (Plain instr.Push ∷ parts.selecting by_identity arms missed)) (choices.select calls_do same_do v None all other)
      same_follows = record {
        falls = select_falls None None tt;
        keeps = λ scope s right. then_keeps_words program locals (v scope s) _ (fv.keeps scope s right) (λ vs t right1 words.
            selecting_keeps program n before locals (same_do (first vs)) (λ w word scope1 s1 right2. (all_taken program n before locals identity 2).keeps (first vs ∷ w ∷ []) (first_word vs words, (word, tt)) scope1 s1 right2) arms all fa other scope (λ u right2. fm.keeps scope u right2) t right1);
        runs = λ x place register s k holds fit right few.
            let m = machine_of program in
            let number = body_of program in
            let linked = linked_program program in
            let body = x.running.body in
            let scope = scope_of x in
            let chain = parts.selecting by_identity arms missed in
            let rest : Code = Plain instr.Push ∷ chain in
            let p1 = place + length value in
            let q = place + length (value ++ rest) in
            let h1 = holds_back linked before body place value rest holds in
            let end : p1 + 1 + length chain ≡ q = omega (arith, length-append value rest) in
            let less = fv.falls scope s in
            then_words m number program locals n (standing number x place register s k) x x p1 q (v scope s) (λ vs t. choices.selecting (same_do (first vs)) all other scope t) (inside_self m number x)
            (fv.runs x place register s k (holds_front linked before body place value rest holds) fit right few) (omega (arith, less, few)) (fv.keeps scope s right)
            (λ vs t j few1 right1 words. comes_behind m (standing number x p1 vs t j) (standing number (pushed (first vs) x) (p1 + 1) vs t j) _
            (stepped m number x p1 before vs t j (Plain instr.Push) chain h1)
            (selecting_comes program n before locals by_identity (first vs ∷ []) (first vs ∷ []) (same_do (first vs)) (identity_compares (first vs) (first_word vs words)) x fit q arms all fa missed other fm (p1 + 1) vs t j h1.1 end right1 few1));
      }

      test_follows : (test : Code) (t : Does) → Follows program n before locals test t
          → Follows program n before locals (value ++ (parts.waiting test ++ parts.selecting by_function arms missed)) (choices.select calls_do same_do v (Some t) all other)
      test_follows test t ft = record {
        falls = select_falls (Some test) (Some t) ft;
        keeps = λ scope s right. then_keeps_words program locals (v scope s) _ (fv.keeps scope s right) (λ vs s1 right1 words.
            then_keeps_words program locals (t scope s1) _ (ft.keeps scope s1 right1) (λ fs s2 right2 words2.
            selecting_keeps program n before locals (calls_do (first fs) (first vs)) (λ w word scope1 s3 right3. takes.keeps (first fs ∷ first vs ∷ w ∷ []) (first_word fs words2, (first_word vs words, (word, tt))) scope1 s3 right3) arms all fa other scope (λ u right3. fm.keeps scope u right3) s2 right2));
        runs = λ x place register s k holds fit right few.
            let m = machine_of program in
            let number = body_of program in
            let linked = linked_program program in
            let body = x.running.body in
            let scope = scope_of x in
            let chain = parts.selecting by_function arms missed in
            let lays : Code = Plain instr.Push ∷ Plain instr.Restore ∷ one instr.Push in
            let rest : Code = parts.waiting test ++ chain in
            let p1 = place + length value in
            let p2 = p1 + 1 + length test in
            let q = place + length (value ++ rest) in
            let h1 = holds_back linked before body place value rest holds in
            let h2 = holds_front linked before body (p1 + 1) (test ++ lays) chain h1.1 in
            let h3 = holds_back linked before body (p1 + 1) test lays h2 in
            let l1 = length-append value rest in
            let l2 = length-append (test ++ lays) chain in
            let l3 = length-append test lays in
            let there : p1 + 1 + length (test ++ lays) ≡ p2 + 1 + 1 + 1 = omega (arith, l3) in
            let h4 = subst (λ (p : ℕ). Holds linked before body p chain) there (holds_back linked before body (p1 + 1) (test ++ lays) chain h1.1) in
            let end : p2 + 1 + 1 + 1 + length chain ≡ q = omega (arith, l1, l2, l3) in
            let less = fv.falls scope s in
            then_words m number program locals n (standing number x place register s k) x x p1 q (v scope s) (λ vs s1. and_then (t scope s1) (λ fs s2. choices.selecting (calls_do (first fs) (first vs)) all other scope s2)) (inside_self m number x)
            (fv.runs x place register s k (holds_front linked before body place value rest holds) fit right few) (omega (arith, less, few)) (fv.keeps scope s right)
            (λ vs s1 j few1 right1 words.
            let y = laid_aside vs x in
            let lower = ft.falls scope s1 in
            comes_behind m (standing number x p1 vs s1 j) (standing number y (p1 + 1) vs s1 j) _
            (stepped m number x p1 before vs s1 j (Plain instr.Save) ((test ++ lays) ++ chain) h1)
            (then_words m number program locals n (standing number y (p1 + 1) vs s1 j) y x p2 q (t scope s1) (λ fs s2. choices.selecting (calls_do (first fs) (first vs)) all other scope s2) (inside_aside m number vs x fit)
            (ft.runs y (p1 + 1) vs s1 j (holds_front linked before body (p1 + 1) test lays h2) (fits_aside vs x.running x.running.rows fit) right1 few1) (omega (arith, lower, few1)) (ft.keeps scope s1 right1)
            (λ fs s2 i few2 right2 words2.
            let f = first fs in
            let w = first vs in
            comes_behind m (standing number y p2 fs s2 i) (standing number (pushed f y) (p2 + 1) fs s2 i) _
            (stepped m number y p2 before fs s2 i (Plain instr.Push) (Plain instr.Restore ∷ one instr.Push) h3)
            (comes_behind m (standing number (pushed f y) (p2 + 1) fs s2 i) (standing number (pushed f x) (p2 + 1 + 1) vs s2 i) _
            (stepped m number (pushed f y) (p2 + 1) before fs s2 i (Plain instr.Restore) (one instr.Push) h3.1)
            (comes_behind m (standing number (pushed f x) (p2 + 1 + 1) vs s2 i) (standing number (pushed w (pushed f x)) (p2 + 1 + 1 + 1) vs s2 i) _
            (stepped m number (pushed f x) (p2 + 1 + 1) before vs s2 i (Plain instr.Push) [] h3.1.1)
            (selecting_comes program n before locals by_function (w ∷ f ∷ []) (f ∷ w ∷ []) (calls_do f w) (function_compares bound takes f w (first_word fs words2) (first_word vs words)) x fit q arms all fa missed other fm (p2 + 1 + 1 + 1) vs s2 i h4 end right2 few2))))));
      }

pub select_follows : (program : Program) (n before locals bound : ℕ) (value : Code) (v : Does) (test : Option Code) (t : Option Does) (arms : List (List Code × Code)) (all : List (List Does × Does)) (last : Option Code) (l : Option Does)
    → CallsTaken program n before locals bound 2 → Follows program n before locals value v → HeldDo program n before locals test t → ArmsDo program n before locals arms all → HeldDo program n before locals last l
    → Follows program n before locals (parts.select value test arms last) (selecting_in (calls_within (world program) bound) v t all l)
select_follows program n before locals bound value v None None arms all last l takes fv ft fa fl =
    same_follows program n before locals bound takes value v arms all (parts.or_no_match last) (or_no_match (calls_within (world program) bound) l) fv fa (last_follows program n before locals bound last l fl)
select_follows program n before locals bound value v (Some test) (Some t) arms all last l takes fv ft fa fl =
    test_follows program n before locals bound takes value v arms all (parts.or_no_match last) (or_no_match (calls_within (world program) bound) l) fv fa (last_follows program n before locals bound last l fl) test t ft
select_follows program n before locals bound value v None (Some t) arms all last l takes fv ft fa fl = absurd ft
select_follows program n before locals bound value v (Some test) None arms all last l takes fv ft fa fl = absurd ft
