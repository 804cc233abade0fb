-- A body is entered and returns.
use Rattle.std.proofs.Common.{◌≡◌, ℕ, zero, suc, ◌+◌, ◌-◌, ◌<◌, ◌≤◌, Bool, true, false, List, [], ◌∷◌, ◌++◌, drop, length, Option, Some, None, refl, sym, ap, ◌∙◌, subst, arith, is_some}
use Rattle.std.specs.Prelude.{nat_le, replicate}
use Rattle.std.proofs.lemmas.List.{length-replicate, length-set}
use Rattle.dy_term.specs.declared.term.Lambda.{Lambda, out-Lambda}
use Rattle.dy_term.specs.declared.types.DyType.{DyType}
use Rattle.dy_term.specs.declared.rows.Program.{Program}
use Rattle.dy_values.specs.declared.value.Variant.{Variant}
use Rattle.dy_values.specs.declared.value.Variant.TheVariants.{Bool as Truth}
use Rattle.dy_values.specs.declared.object.ObjectRow.TheVariants as object
use Rattle.dy_values.specs.declared.error.ErrorRow.{ErrorRow}
use Rattle.dy_values.specs.Errors.{wrong_number}
use Rattle.dy_values.specs.Spending.{first}
use Rattle.dy_values.specs.Stores.{next_object}
use Rattle.dy_outcome.specs.declared.place.Place.{Place}
use Rattle.dy_outcome.specs.declared.place.Place.TheVariants.{Own, Captured}
use Rattle.dy_outcome.specs.declared.state.Frame.{Frame}
use Rattle.dy_outcome.specs.declared.state.State.{State}
use Rattle.dy_outcome.specs.States.{Outcome, Gave, Exits, Ended, Spent, Scope, and_then, spend_if, made, back_to}
use Rattle.dy_outcome.specs.Nearness.{units_of}
use Rattle.dy_outcome.specs.Choices.{chosen}
use Rattle.dy_outcome.specs.Places.{bind}
use Rattle.dy_outcome.specs.Parts.{all_bound, bound, collected as gathered}
use Rattle.dy_outcome.specs.Calls.{Fun, returned, is_taken, new_frame, running, entered, calls_within, signalled}
use Rattle.dy_outcome.proofs.Alike.{bound_near}
use Rattle.dy_code.specs.Fetching as instr
use Rattle.dy_code.specs.Fetching.{rest_locals}
use Rattle.dy_code.specs.Programs.{Located}
use Rattle.dy_meaning.specs.Lambdas.{of_defaults}
use Rattle.dy_meaning.specs.Layouts.{layout_of, place_of}
use Rattle.dy_meaning.specs.Programs.{fun_of, has_more, world, meaning_within}
use Rattle.dy_steps.specs.Configurations.{Following, Goes}
use Rattle.dy_steps.specs.Effects.{gives}
use Rattle.dy_steps.specs.Arguments.{unless_wrong, collected, results_of}
use Rattle.dy_steps.specs.Calling.{begun, enter_body}
use Rattle.dy_steps.specs.Steps.{step, steps}
use Rattle.dy_lowered.specs.Flat.{Code, Plain, one}
use Rattle.dy_lowered.specs.Parts.{cells}
use Rattle.dy_lowered.specs.Bodies.{parameters, lambda_body}
use Rattle.dy_lowered.specs.Terms.{code_of}
use Rattle.dy_lowering_law.specs.Following.{Spot, scope_of, standing, after, Comes, Holds, IsWord, AreWords, IsRight, IsRightAfter}
use Rattle.dy_lowering_law.specs.Machines.{linked_program, machine_of}
use Rattle.dy_lowering_law.specs.Renumbering.{body_of, renumbered}
use Rattle.dy_lowering_law.proofs.Leading.{comes_by, comes_behind, stepped, holds_front, holds_back}
use Rattle.dy_lowering_law.proofs.Arguments.{goes_behind}
use Rattle.dy_lowering_law.proofs.Values.{known_added, local_words, cell_words, captured_words}
use Rattle.dy_lowering_law.proofs.Cases.{then_keeps, then_keeps_words, first_word, less_words}
use Rattle.dy_lowering_law.specs.calls.Entering.{Enters, Stands, IsPlain, TermFollows}
use Rattle.dy_lowering_law.proofs.calls.Binding.{none_wrong, unless_taken, error_is, length_places, binds}
use Rattle.dy_lowering_law.proofs.calls.Returning.{inner, out_comes, out_any}
use Rattle.dy_lowering_law.proofs.calls.Signals.{signal_inside, signal_keeps}

-- states stay right
module _ (program : Program) where
  bind_right : (locals : ℕ) (place : Place) (value : Variant) → IsWord value → (s : State) → IsRight program locals s → IsRight program locals (bind place value s)
  bind_right locals (Own k false) value word s right = record { objects = right.objects; frame = length-set s.frame.locals k value ∙ right.frame; words = local_words s k value word right.words }
  bind_right locals (Own k true) value word s right = record { objects = known_added program s.store.objects (object.Cell value) right.objects word; frame = length-set s.frame.locals k (next_object s.store) ∙ right.frame; words = cell_words s k value right.words }
  bind_right locals (Captured k) value word s right = record { objects = right.objects; frame = right.frame; words = captured_words s k value word right.words }

  all_right : (locals : ℕ) (places : List Place) (values : List Variant) → AreWords values → (s : State) → IsRight program locals s → IsRight program locals (all_bound places values s)
  all_right locals [] values words s right = right
  all_right locals (place ∷ places) values words s right = all_right locals places (drop 1 values) (less_words values words) (bind place (first values) s) (bind_right locals place (first values) (first_word values words) s right)

  vector_right : (locals : ℕ) (cost : Bool) (units : ℕ) (items : List Variant) (s : State) → IsRight program locals s → IsRightAfter program locals (spend_if cost units s (made (object.Vector false items)))
  vector_right locals true units items s right = (record { objects = known_added program s.store.objects (object.Vector false items) right.objects tt; frame = right.frame; words = record { locals = right.words.locals; captured = right.words.captured; globals = right.words.globals } }, (tt, tt))
  vector_right locals false units items s right = tt

  bound_right : (locals : ℕ) (places : List Place) (rest : Option Place) (values : List Variant) → AreWords values → (s : State) → IsRight program locals s → IsRightAfter program locals (bound places rest values s)
  bound_right locals places None values words s right = (all_right locals places values words s right, tt)
  bound_right locals places (Some rest) values words s right =
      then_keeps_words program locals (gathered (drop (length places) values) s) (λ vs t. Gave [] (bind rest (first vs) (all_bound places values t)))
      (vector_right locals (nat_le (length (drop (length places) values) + 1) s.fuel.left) (length (drop (length places) values) + 1) (drop (length places) values) s right) (λ vs t right1 made1. (bind_right locals rest (first vs) (first_word vs made1) (all_bound places values t) (all_right locals places values words t right1), tt))

  -- back in the frame of a caller
  back_right : (inside locals : ℕ) (o : Outcome) (frame : Frame) → IsRightAfter program inside o → length frame.locals ≡ locals → AreWords frame.locals → AreWords frame.captured → IsRightAfter program locals (back_to frame o)
  back_right inside locals (Gave values s) frame right e one other = (record { objects = right.0.objects; frame = e; words = record { locals = one; captured = other; globals = right.0.words.globals } }, right.1)
  back_right inside locals (Exits block values s) frame right e one other = (record { objects = right.0.objects; frame = e; words = record { locals = one; captured = other; globals = right.0.words.globals } }, right.1)
  back_right inside locals (Ended line s) frame right e one other = tt
  back_right inside locals (Spent s) frame right e one other = tt

-- values that are cut or filled
returned_words : (count : ℕ) (more : Bool) (values : List Variant) → AreWords values → AreWords (returned count more values)
returned_words zero true values words = words
returned_words zero false values words = tt
returned_words (suc count) more values words = (first_word values words, returned_words count more (drop 1 values) (less_words values words))

no_words : (count : ℕ) → AreWords (replicate count (Truth false))
no_words zero = tt
no_words (suc count) = (tt, no_words count)

more_same : (rest : Option DyType) → is_some rest ≡ has_more rest
more_same None = refl
more_same (Some type) = refl

module _ (program : Program) (before body closure number : ℕ) (lambda : Lambda) (plain : IsPlain lambda) (stands : Stands program before body (lambda_body lambda closure)) where
  abbrev fun : Fun
  fun = fun_of program lambda number

  abbrev locals : ℕ
  locals = (out-Lambda lambda).locals - (out-Lambda lambda).first

  abbrev rest_code : Code
  rest_code = Plain (instr.CheckResults (out-Lambda lambda).results) ∷ one instr.Return

  abbrev term_code : Code
  term_code = code_of (layout_of lambda) (out-Lambda lambda).body (closure + length (of_defaults (out-Lambda lambda).keywords))

  abbrev behind_tick : Code
  behind_tick = (Plain (instr.Args (out-Lambda lambda).params) ∷ cells (parameters lambda)) ++ (term_code ++ rest_code)

  abbrev start : ℕ
  start = 2 + length (cells (parameters lambda))

  -- within, where at most m units are left
  module _ (m : ℕ) (follows : TermFollows program m before closure number lambda) (captured values : List Variant) (kept : AreWords captured) (words : AreWords values) where
    frame_right : (outer : ℕ) (t : State) → IsRight program outer t → IsRight program locals (new_frame locals captured t)
    frame_right outer t right = record { objects = right.objects; frame = length-replicate locals _; words = record { locals = no_words locals; captured = kept; globals = right.words.globals } }

    run_right : (scope : Scope) (outer : ℕ) (t : State) → IsRight program outer t → IsRightAfter program locals (running fun captured values (calls_within (world program) m) scope t)
    run_right scope outer t right =
        then_keeps program locals (bound fun.parameters fun.rest values (new_frame locals captured t)) _
        (bound_right program locals fun.parameters fun.rest values words (new_frame locals captured t) (frame_right outer t right))
        (λ vs u right1. then_keeps_words program locals (meaning_within program m (layout_of lambda) (out-Lambda lambda).body (number + 1 + length (of_defaults (out-Lambda lambda).keywords)) scope u) _ (follows.keeps scope u right1) (λ ws v right2 words2. (right2, returned_words fun.results fun.more ws words2)))

    inside_right : (taken : Bool) (scope : Scope) (outer : ℕ) (t : State) → IsRight program outer t
        → IsRightAfter program outer (back_to t.frame (chosen taken (running fun captured values (calls_within (world program) m) scope) (signalled (world program) wrong_number scope) t))
    inside_right true scope outer t right = back_right program locals outer _ t.frame (run_right scope outer t right) right.frame right.words.locals right.words.captured
    inside_right false scope outer t right = back_right program outer outer _ t.frame (signal_keeps program wrong_number outer scope t) right.frame right.words.locals right.words.captured

    module _ (following : Option Following) (x : Spot) (place : ℕ) (frame : Frame) where
      abbrev y : Spot
      y = inner body values following x place frame

      -- the values are cut or filled, and the caller goes on
      return_comes : (q : ℕ) (ws : List Variant) (v : State) (j : ℕ) → Holds (linked_program program) before body q rest_code
          → Comes (machine_of program) (standing (body_of program) y q ws v j) (after (body_of program) x place (Gave (returned fun.results fun.more ws) (record v { frame = frame })))
      return_comes q ws v j holds =
          let number = body_of program in
          let row = out-Lambda lambda in
          let given = results_of row.results ws in
          let same : given ≡ returned fun.results fun.more ws = ap (λ b. returned (length row.results.required) b ws) (more_same row.results.rest) in
          comes_behind (machine_of program) (standing number y q ws v j) (standing number y (q + 1) given v j) _
          (stepped (machine_of program) number y q before ws v j (Plain (instr.CheckResults row.results)) (one instr.Return) holds
          ∙ ap (λ (e : Option ErrorRow). unless_wrong (machine_of program) e (standing number y (q + 1) ws v j) (gives given)) (none_wrong program (renumbered number v).store given row.results.required row.results.rest))
          (comes_by (machine_of program) _ _ j
          (stepped (machine_of program) number y (q + 1) before given v j (Plain instr.Return) [] holds.1
          ∙ ap (λ (l : List Variant). Goes (standing number x place l (record v { frame = frame }) j)) same))

      -- the term, and the return
      term_comes : (u : State) (j : ℕ) → Holds (linked_program program) before body start (term_code ++ rest_code) → IsRight program locals u → u.fuel.left ≤ m
          → Comes (machine_of program) (standing (body_of program) y start [] u j)
          (after (body_of program) x place (back_to frame (and_then (meaning_within program m (layout_of lambda) (out-Lambda lambda).body (number + 1 + length (of_defaults (out-Lambda lambda).keywords)) (scope_of y) u)
          (λ ws v. Gave (returned fun.results fun.more ws) v))))
      term_comes u j holds right few =
          out_comes program body values following x place frame (standing (body_of program) y start [] u j) (start + length term_code) _ _
          (follows.runs y start [] u j (holds_front (linked_program program) before body start term_code rest_code holds) tt right few)
          (λ ws v i gave. return_comes (start + length term_code) ws v i (holds_back (linked_program program) before body start term_code rest_code holds))

      -- what the arguments come to, where the body has looked at them
      args_step : (s1 : State) (j : ℕ) (taken : Bool) → is_taken fun.rest (length fun.parameters) (length values) ≡ taken
          → step (machine_of program) (standing (body_of program) y 1 [] s1 j)
          ≡ unless_wrong (machine_of program) (unless_taken taken) (standing (body_of program) y 2 [] s1 j) (collected (out-Lambda lambda).params.rest (out-Lambda lambda).params values)
      args_step s1 j taken e =
          let number = body_of program in
          let params = (out-Lambda lambda).params in
          let required = length params.required in
          let last = place_of (layout_of lambda) ((out-Lambda lambda).first + required) in
          stepped (machine_of program) number y 1 before [] s1 j (Plain (instr.Args params)) (cells (parameters lambda) ++ (term_code ++ rest_code)) stands.code.1
          ∙ ap (λ (o : Option ErrorRow). unless_wrong (machine_of program) o (standing number y 2 [] s1 j) (collected params.rest params values))
          (error_is program (renumbered number s1).store params last values plain.keys
          ∙ (λ i. unless_taken (is_taken fun.rest (sym (length_places (layout_of lambda) required (out-Lambda lambda).first) i) (length values)))
          ∙ ap unless_taken e)

      -- the parameters, the term, and the return
      run_comes : (t : State) (j : ℕ) → t.fuel.left ≤ m → (outer : ℕ) → IsRight program outer t → is_taken fun.rest (length fun.parameters) (length values) ≡ true
          → Comes (machine_of program) (standing (body_of program) y 1 [] (new_frame locals captured t) j)
          (after (body_of program) x place (back_to frame (running fun captured values (calls_within (world program) m) (scope_of y) t)))
      run_comes t j few outer right taken =
          let params = (out-Lambda lambda).params in
          let required = length params.required in
          let s1 = new_frame locals captured t in
          let c1 = standing (body_of program) y 1 [] s1 j in
          let long : length s1.frame.locals ≡ locals = length-replicate locals _ in
          let room = plain.room in
          let counted : is_taken fun.rest required (length values) ≡ true = ap (λ n. is_taken fun.rest n (length values)) (sym (length_places (layout_of lambda) required (out-Lambda lambda).first)) ∙ taken in
          let h1 = holds_front (linked_program program) before body 2 (cells (parameters lambda)) (term_code ++ rest_code) stands.code.1.1 in
          let h2 = holds_back (linked_program program) before body 2 (cells (parameters lambda)) (term_code ++ rest_code) stands.code.1.1 in
          let first_part = goes_behind program c1 _ _ (args_step s1 j true taken) (binds program before (layout_of lambda) params plain.keys y params.rest values s1 j counted (omega (arith, long, room)) h1) in
          let falls = (bound_near m fun.parameters fun.rest values s1).falls in
          let rights = bound_right program locals fun.parameters fun.rest values words s1 (frame_right outer t right) in
          out_any program body values following x place frame c1 start (bound fun.parameters fun.rest values s1) [] _ first_part
          (λ vs u i gave.
          let less : u.fuel.left ≤ t.fuel.left = subst (λ o. units_of o ≤ t.fuel.left) gave falls in
          term_comes u i h2 (subst (λ o. IsRightAfter program locals o) gave rights).0 (omega (arith, less, few)))

      chosen_comes : (taken : Bool) (t : State) (j : ℕ) → t.fuel.left ≤ m → (outer : ℕ) → IsRight program outer t → is_taken fun.rest (length fun.parameters) (length values) ≡ taken
          → Comes (machine_of program) (standing (body_of program) y 1 [] (new_frame locals captured t) j)
          (after (body_of program) x place (back_to frame (chosen taken (running fun captured values (calls_within (world program) m) (scope_of y)) (signalled (world program) wrong_number (scope_of y)) t)))
      chosen_comes true t j few outer right taken = run_comes t j few outer right taken
      chosen_comes false t j few outer right taken =
          comes_by (machine_of program) _ _ j (args_step (new_frame locals captured t) j false taken
          ∙ signal_inside program wrong_number y x 2 place [] (new_frame locals captured t).frame frame t j (scope_of y))

  abbrev units_left : ℕ → State → State
  units_left units s = record s { fuel = record { left = units } }

  -- a unit is spent first
  tick_comes : (n units : ℕ) → ((m : ℕ) → m < n → TermFollows program m before closure number lambda) → units ≤ n → (captured values : List Variant) → AreWords captured → AreWords values → (following : Option Following) (x : Spot) (place : ℕ) (s : State) (outer j : ℕ) → IsRight program outer s
      → Comes (machine_of program) (standing (body_of program) (inner body values following x place s.frame) 0 [] (new_frame locals captured (units_left units s)) j)
      (after (body_of program) x place (entered (world program) n fun captured values (scope_of x) (units_left units s)))
  tick_comes zero zero terms few captured values kept words following x place s outer j right =
      comes_by (machine_of program) _ _ j (stepped (machine_of program) (body_of program) (inner body values following x place s.frame) 0 before [] (new_frame locals captured (units_left 0 s)) j (Plain instr.Tick) behind_tick stands.code)
  tick_comes (suc m) zero terms few captured values kept words following x place s outer j right =
      comes_by (machine_of program) _ _ j (stepped (machine_of program) (body_of program) (inner body values following x place s.frame) 0 before [] (new_frame locals captured (units_left 0 s)) j (Plain instr.Tick) behind_tick stands.code)
  tick_comes zero (suc units) terms few captured values kept words following x place s outer j right = absurd (omega (arith, few))
  tick_comes (suc m) (suc units) terms few captured values kept words following x place s outer j right =
      comes_behind (machine_of program) _ (standing (body_of program) (inner body values following x place s.frame) 1 [] (new_frame locals captured (units_left units s)) j) _
      (stepped (machine_of program) (body_of program) (inner body values following x place s.frame) 0 before [] (new_frame locals captured (units_left (suc units) s)) j (Plain instr.Tick) behind_tick stands.code)
      (chosen_comes m (terms m (omega arith)) captured values kept words following x place s.frame (is_taken fun.rest (length fun.parameters) (length values)) (units_left units s) j (omega (arith, few)) outer (record { objects = right.objects; frame = right.frame; words = record { locals = right.words.locals; captured = right.words.captured; globals = right.words.globals } }) refl)

  entered_keeps : (n units : ℕ) → ((m : ℕ) → m < n → TermFollows program m before closure number lambda) → (captured values : List Variant) → AreWords captured → AreWords values → (scope : Scope) (outer : ℕ) (s : State) → IsRight program outer s
      → IsRightAfter program outer (entered (world program) n fun captured values scope (units_left units s))
  entered_keeps zero units terms captured values kept words scope outer s right = tt
  entered_keeps (suc m) zero terms captured values kept words scope outer s right = tt
  entered_keeps (suc m) (suc units) terms captured values kept words scope outer s right =
      inside_right m (terms m (omega arith)) captured values kept words (is_taken fun.rest (length fun.parameters) (length values)) scope outer (units_left units s) (record { objects = right.objects; frame = right.frame; words = record { locals = right.words.locals; captured = right.words.captured; globals = right.words.globals } })

  -- the machine enters the body
  begins : (captured values : List Variant) (following : Option Following) (x : Spot) (place : ℕ) (register : List Variant) (s : State) (k : ℕ)
      → enter_body (machine_of program) body captured values following (standing (body_of program) x place register s k)
      ≡ Goes (standing (body_of program) (inner body values following x place s.frame) 0 [] (new_frame locals captured s) k)
  begins captured values following x place register s k =
      let c = standing (body_of program) x place register s k in
      ap (λ (o : Option Located). begun o body captured values following (record { activation = c.running; frame = s.frame } ∷ x.waiting) c) stands.here
      ∙ ap (λ (l : ℕ). Goes (standing (body_of program) (inner body values following x place s.frame) 0 [] (new_frame l captured s) k)) stands.locals

  pub enters : (n : ℕ) → ((m : ℕ) → m < n → TermFollows program m before closure number lambda) → Enters program n body fun
  enters n terms = record {
    keeps = λ captured values kept words scope outer s right. entered_keeps n s.fuel.left terms captured values kept words scope outer s right;
    runs = λ captured values kept words following x place register s k outer right few.
        let comes = tick_comes n s.fuel.left terms few captured values kept words following x place s outer k right in
        record { count = comes.count; searches = comes.searches; there = ap (steps (machine_of program) comes.count) (begins captured values following x place register s k) ∙ comes.there };
  }

pub entries_follow : (program : Program) (n before body closure number : ℕ) (lambda : Lambda) → IsPlain lambda → Stands program before body (lambda_body lambda closure)
    → ((m : ℕ) → m < n → TermFollows program m before closure number lambda) → Enters program n body (fun_of program lambda number)
entries_follow program n before body closure number lambda plain stands terms = enters program before body closure number lambda plain stands n terms
