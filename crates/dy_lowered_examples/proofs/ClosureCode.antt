-- The code of a method whose closures count, and of one that calls them.
use Rattle.std.proofs.Common.{◌≡◌, ℕ, ◌+◌, pos, Bool, true, false, List, [], ◌∷◌, ◌++◌}
use Rattle.std.proofs.Common.{length, map, ap, ◌∙◌, refl, arith}
use Rattle.std.specs.Prelude.{nat_lt, nat_eq}
use Rattle.std.specs.declared.option.Option.{Option}
use Rattle.std.specs.declared.option.Option.TheVariants.{None, Some}
use Rattle.dy_base.specs.declared.ids.BindingId.{BindingId}
use Rattle.dy_term.specs.declared.literal.Literal.{Literal}
use Rattle.dy_term.specs.declared.types.DyType.{DyType}
use Rattle.dy_term.specs.declared.term.Item.{Item, Item-F, roll-Item}
use Rattle.dy_term.specs.declared.term.Term.{Term, Term-F, roll-Term, out-roll-Term}
use Rattle.dy_term.specs.declared.term.Lambda.{Lambda, roll-Lambda, out-Lambda, out-roll-Lambda}
use Rattle.dy_outcome.specs.declared.place.Place.{Place}
use Rattle.dy_outcome.specs.declared.place.Place.TheVariants.{Own, Captured}
use Rattle.dy_captures.specs.Marks.{Marks, unmarked, mentioned_at, assigned_at, marks_of}
use Rattle.dy_captures.specs.Marks.{marks_of_item, marks_of_lambda, join_all, join, outside}
use Rattle.dy_captures.specs.Marks.{is_captured_by}
use Rattle.dy_code.specs.Fetching.{Const, Local, FreeGet, Push, Tick, Search, CheckResults, Args}
use Rattle.dy_code.specs.Fetching.{Return}
use Rattle.dy_meaning.specs.Lambdas.{lambdas_in, lambdas_in_item}
use Rattle.dy_meaning.specs.Layouts.{Layout, place_of, layout_of, captured_by, all_below, with_last}
use Rattle.dy_meaning.specs.Layouts.{lives_in_cell, own_or_captured, index_of}
use Rattle.dy_lowered.specs.Flat.{Plain, Code, one}
use Rattle.dy_lowered.specs.Parts.{read, assigned, assigning, calling, with_arguments, letting}
use Rattle.dy_lowered.specs.Parts.{closing, body, Runs, Binds, Part}
use Rattle.dy_lowered.specs.Terms.{function_of, function_named, when_function, code_of, item_code}
use Rattle.dy_lowered.specs.Bodies.{FlatBody, lambda_body}
use Rattle.dy_lowered_examples.specs.Building.{A_lambda, format_out, number, no_params, local, lit}
use Rattle.dy_lowered_examples.specs.Building.{printer, run}
use Rattle.dy_lowered_examples.specs.Closures.{values_function, plus, counter_function, directives}
use Rattle.dy_lowered_examples.specs.Closures.{any_results, sum, step, counting, closure_row}
use Rattle.dy_lowered_examples.specs.Closures.{closure, let_zero, closure_term, counter_term}
use Rattle.dy_lowered_examples.specs.Closures.{counter_row, counter, counter_body, closure_body}
use Rattle.dy_lowered_examples.specs.Closures.{called, values_term, both_values, printed}
use Rattle.dy_lowered_examples.specs.Closures.{let_counter, let_values, main_term, main_row, main}
use Rattle.dy_lowered_examples.specs.Closures.{main_code, main_body}
use Rattle.dy_lowered_examples.proofs.Computing.{code, part, marks, item, lambda}
use Rattle.dy_lowered_examples.proofs.Computing.{inside, inside_item, body_made, own_place, next}

abbrev behind_item : Item → ℕ → ℕ
behind_item part number = number + length (lambdas_in_item part)

module _ (any : DyType) where
  -- what is done with `n`: the closure reads it and assigns it
  sum_marks : marks_of 0 sum ≡ mentioned_at true
  sum_marks = marks 0 (Term-F.Site plus (local 0 ∷ lit (number (pos 1)) ∷ []))
      ∙ (λ k. join_all (marks 0 (Term-F.Local 0) k ∷ marks 0 (Term-F.Lit (number (pos 1))) k ∷ []))

  abbrev used : Marks
  used = record { mentioned = true; captured = false; assigned = true }

  step_marks : marks_of 0 step ≡ used
  step_marks = marks 0 (Term-F.SetLocal 0 sum)
      ∙ (λ k. join (mentioned_at true) (join (assigned_at true) (sum_marks k)))

  counting_marks : marks_of 0 counting ≡ used
  counting_marks = marks 0 (Term-F.Body (run step ∷ run (local 0) ∷ []))
      ∙ (λ k. join_all ((item 0 (Item-F.Run step) ∙ step_marks) k
      ∷ (item 0 (Item-F.Run (local 0)) ∙ marks 0 (Term-F.Local 0)) k ∷ []))

  abbrev shared : Marks
  shared = record { mentioned = true; captured = true; assigned = true }

  closure_marks : marks_of_lambda 0 (closure any) ≡ shared
  closure_marks = lambda 0 (closure_row any) ∙ (λ k. outside 0 1 (join unmarked (counting_marks k)))

  closure_captures : captured_by (closure any) ≡ 0 ∷ []
  closure_captures = (λ k. all_below (λ l. is_captured_by l (closure any))
      (out-roll-Lambda (closure_row any) k).first)
      ∙ (λ k. with_last (closure_marks k).mentioned 0 [])

  body_marks : marks_of 0 (roll-Term (counter_term any)) ≡ shared
  body_marks = marks 0 (counter_term any)
      ∙ (λ k. join_all ((item 0 (let_zero any) ∙ marks 0
      (Term-F.Lit (number (pos 0)))) k
      ∷ (item 0 (Item-F.Run (closure_term any)) ∙ marks 0 (Term-F.Method (closure any))
      ∙ closure_marks) k
      ∷ []))

  in_a_cell : lives_in_cell (marks_of_lambda 0 (counter any)) ≡ true
  in_a_cell = ap lives_in_cell
      (lambda 0 (counter_row any) ∙ (λ k. outside 0 0 (join unmarked (body_marks k))))

  counter_captures : length (captured_by (counter any)) ≡ 0
  counter_captures = ap (λ (r : A_lambda). length
      (all_below (λ k. is_captured_by k (counter any)) r.first)) (out-roll-Lambda (counter_row any))

  none_inside : length (lambdas_in_item (roll-Item (let_zero any))) ≡ 0
  none_inside = ap length (inside_item (let_zero any) ∙ inside (Term-F.Lit (number (pos 0))))

  pub counter_is : (n : ℕ) → lambda_body (counter any) n ≡ counter_body any n
  counter_is n =
      let layout = layout_of (counter any) in
      let here = own_place (counter_row any) 0 true refl refl in_a_cell in
      body_made (counter_row any) n
      ∙ (λ k. record {
        locals = 1;
        captures = counter_captures k;
        code = Plain Tick ∷ Plain (Args no_params)
            ∷ (whole layout here k ++ (Plain (CheckResults (any_results any)) ∷ Plain Return ∷ []));
      })
    where
      binds : (layout : Layout) (m : ℕ) → place_of layout 0 ≡ Own 0 true
          → item_code layout (roll-Item (let_zero any)) m
          ≡ Binds (letting (Own 0 true ∷ []) None (one (Const (number (pos 0)))))
      binds layout m here = part layout (let_zero any) m
          ∙ (λ k. Binds (letting (here k ∷ []) None
          (code layout (Term-F.Lit (number (pos 0))) m k)))

      closes : (layout : Layout) (m : ℕ) → place_of layout 0 ≡ Own 0 true
          → item_code layout (run (closure_term any)) m ≡ Runs (closing m (Own 0 true ∷ []))
      closes layout m here = part layout (Item-F.Run (closure_term any)) m
          ∙ ap Runs (code layout (Term-F.Method (closure any)) m
          ∙ (λ k. closing m (map (place_of layout) (closure_captures k)))
          ∙ (λ k. closing m (here k ∷ [])))

      same : n + 0 + 0 ≡ n
      same = omega arith

      whole : (layout : Layout) → place_of layout 0 ≡ Own 0 true
          → code_of layout (roll-Term (counter_term any)) (n + 0)
          ≡ body (Binds (letting (Own 0 true ∷ []) None (one (Const (number (pos 0)))))
          ∷ Runs (closing n (Own 0 true ∷ [])) ∷ [])
      whole layout here = code layout (counter_term any) (n + 0)
          ∙ (λ k. body (binds layout (n + 0) here k
          ∷ item_code layout (run (closure_term any)) (n + 0 + none_inside k) ∷ []))
          ∙ (λ k. body (Binds (letting (Own 0 true ∷ []) None (one (Const (number (pos 0)))))
          ∷ item_code layout (run (closure_term any)) (same k) ∷ []))
          ∙ (λ k. body (Binds (letting (Own 0 true ∷ []) None (one (Const (number (pos 0)))))
          ∷ closes layout n here k ∷ []))

  pub closure_is : (n : ℕ) → lambda_body (closure any) n ≡ closure_body any
  closure_is n =
      let layout = layout_of (closure any) in
      body_made (closure_row any) n
      ∙ (λ k. record {
        locals = 0;
        captures = length (closure_captures k);
        code = Plain Tick ∷ Plain (Args no_params)
            ∷ (whole layout there (n + 0) k
            ++ (Plain (CheckResults (any_results any)) ∷ Plain Return ∷ []));
      })
    where
      there : place_of (layout_of (closure any)) 0 ≡ Captured 0
      there =
          let first = ap (λ (r : A_lambda). r.first) (out-roll-Lambda (closure_row any)) in
          (λ k. own_or_captured (nat_lt 0 (first k)) (layout_of (closure any)) 0)
          ∙ (λ k. Captured (index_of 0 (closure_captures k)))

      sum_code : (layout : Layout) → place_of layout 0 ≡ Captured 0 → (m : ℕ) → code_of layout sum m
          ≡ with_arguments (one (FreeGet 0) ∷ one (Const (number (pos 1))) ∷ []) (Search plus 2)
      sum_code layout here m = code layout
          (Term-F.Site plus (local 0 ∷ lit (number (pos 1)) ∷ [])) m
          ∙ (λ k. with_arguments ((code layout (Term-F.Local 0) m ∙ ap read here) k
          ∷ code layout (Term-F.Lit (number (pos 1))) (next (local 0) m) k ∷ [])
          (Search plus 2))

      step_code : (layout : Layout) → place_of layout 0 ≡ Captured 0 → (m : ℕ)
          → code_of layout step m
          ≡ assigning (Captured 0) (with_arguments
          (one (FreeGet 0) ∷ one (Const (number (pos 1))) ∷ []) (Search plus 2))
      step_code layout here m = code layout (Term-F.SetLocal 0 sum) m
          ∙ (λ k. assigning (here k) (sum_code layout here m k))

      whole : (layout : Layout) → place_of layout 0 ≡ Captured 0 → (m : ℕ)
          → code_of layout counting m
          ≡ body (Runs (assigning (Captured 0)
          (with_arguments (one (FreeGet 0) ∷ one (Const (number (pos 1))) ∷ [])
          (Search plus 2))) ∷ Runs (one (FreeGet 0)) ∷ [])
      whole layout here m = code layout (Term-F.Body (run step ∷ run (local 0) ∷ [])) m
          ∙ (λ k. body ((part layout (Item-F.Run step) m ∙ ap Runs (step_code layout here m)) k
          ∷ (part layout (Item-F.Run (local 0)) (behind_item (run step) m) ∙ ap Runs
          (code layout (Term-F.Local 0) (behind_item (run step) m) ∙ ap read here)) k ∷ []))

  -- its locals, none of which a closure shares
  abbrev at : ℕ → ℕ → Marks
  at k number = mentioned_at (nat_eq number k)

  abbrev called_at : ℕ → Marks
  called_at k = join (at k 0) unmarked

  called_marks : (k : ℕ) → marks_of k called ≡ called_at k
  called_marks k = marks k (Term-F.Call (local 0) []) ∙
      (λ l. join (marks k (Term-F.Local 0) l) unmarked)

  values_marks : (k : ℕ) → marks_of_item k (roll-Item (let_values any))
      ≡ join unmarked (join_all (called_at k ∷ unmarked ∷ []))
  values_marks k = item k (let_values any)
      ∙ marks k (Term-F.Call values_term (called ∷ lit (number (pos 7)) ∷ []))
      ∙ (λ l. join (marks k (Term-F.Global values_function) l)
      (join_all (called_marks k l ∷ marks k (Term-F.Lit (number (pos 7))) l ∷ [])))

  printed_marks : (k : ℕ) → marks_of_item k (run printed)
      ≡ join unmarked (join_all (unmarked ∷ at k 1 ∷ at k 2 ∷ at k 3 ∷ []))
  printed_marks k = item k (Item-F.Run printed)
      ∙ marks k (Term-F.Call printer (lit directives ∷ local 1 ∷ local 2 ∷ local 3 ∷ []))
      ∙ (λ l. join (marks k (Term-F.Global format_out) l)
      (join_all (marks k (Term-F.Lit directives) l
      ∷ marks k (Term-F.Local 1) l ∷ marks k (Term-F.Local 2) l ∷ marks k (Term-F.Local 3) l ∷ [])))

  main_marks : (k : ℕ) → marks_of_lambda k (main any)
      ≡ outside k 0 (join unmarked
      (join_all (unmarked ∷ called_at k ∷ join unmarked (join_all (called_at k ∷ unmarked ∷ []))
      ∷ join unmarked (join_all (unmarked ∷ at k 1 ∷ at k 2 ∷ at k 3 ∷ [])) ∷ [])))
  main_marks k = lambda k (main_row any)
      ∙ (λ l. outside k 0 (join unmarked (marks k (main_term any) l)))
      ∙ (λ l. outside k 0 (join unmarked (join_all (
      (item k (let_counter any) ∙ marks k (Term-F.Site counter_function [])) l
      ∷ (item k (Item-F.Run called) ∙ called_marks k) l ∷ values_marks k l ∷ printed_marks k l
      ∷ []))))

  main_captures : length (captured_by (main any)) ≡ 0
  main_captures =
      ap (λ (r : A_lambda). length (all_below (λ k. is_captured_by k (main any)) r.first))
      (out-roll-Lambda (main_row any))

  function_is : (b : BindingId)
      → function_named (roll-Term (Term-F.Global b)) ≡ when_function b.what b
  function_is b = ap function_of (out-roll-Term (Term-F.Global b))

  no_function : (k : ℕ) → function_named (local k) ≡ None
  no_function k = ap function_of (out-roll-Term (Term-F.Local k))

  -- where its locals stand
  abbrev Stand : Layout → Type 0
  Stand layout = (place_of layout 0 ≡ Own 0 false) × (place_of layout 1 ≡ Own 1 false)
      × (place_of layout 2 ≡ Own 2 false) × (place_of layout 3 ≡ Own 3 false)

  module _ (layout : Layout) (here : Stand layout) where
    local_code : (k number : ℕ) → place_of layout k ≡ Own number false → (m : ℕ)
        → code_of layout (local k) m ≡ one (Local number)
    local_code k number e m = code layout (Term-F.Local k) m ∙ ap read e

    lit_code : (v : Literal) (m : ℕ) → code_of layout (lit v) m ≡ one (Const v)
    lit_code v m = code layout (Term-F.Lit v) m

    abbrev call : Code
    call = calling None (one (Local 0)) []

    called_code : (m : ℕ) → code_of layout called m ≡ call
    called_code m = code layout (Term-F.Call (local 0) []) m
        ∙ (λ k. calling (no_function 0 k) (local_code 0 0 here.0 m k) [])

    values_code : (m : ℕ) → code_of layout both_values m
        ≡ calling (Some values_function) [] (call ∷ one (Const (number (pos 7))) ∷ [])
    values_code m = code layout (Term-F.Call values_term (called ∷ lit (number (pos 7)) ∷ [])) m
        ∙ (λ k. calling (function_is values_function k) (code_of layout values_term m)
        (called_code (next values_term m) k
        ∷ lit_code (number (pos 7)) (next called (next values_term m)) k ∷ []))

    printed_code : (m : ℕ) → code_of layout printed m
        ≡ calling (Some format_out) []
        (one (Const directives) ∷ one (Local 1) ∷ one (Local 2) ∷ one (Local 3) ∷ [])
    printed_code m = code layout
        (Term-F.Call printer (lit directives ∷ local 1 ∷ local 2 ∷ local 3 ∷ [])) m
        ∙ (λ k. calling (function_is format_out k) (code_of layout printer m)
        (lit_code directives (next printer m) k
        ∷ local_code 1 1 here.1 (next (lit directives) (next printer m)) k
        ∷ local_code 2 2 here.2 (next (local 1) (next (lit directives) (next printer m))) k
        ∷ local_code 3 3 here.3 (next (local 2)
        (next (local 1) (next (lit directives) (next printer m)))) k ∷ []))

    first_part : (m : ℕ) → item_code layout (roll-Item (let_counter any)) m
        ≡ Binds (letting (Own 0 false ∷ []) None (one (Search counter_function 0)))
    first_part m = part layout (let_counter any) m
        ∙ (λ k. Binds (letting (here.0 k ∷ []) None
        (code layout (Term-F.Site counter_function []) m k)))

    third_part : (m : ℕ) → item_code layout (roll-Item (let_values any)) m
        ≡ Binds (letting (Own 1 false ∷ Own 2 false ∷ Own 3 false ∷ []) None
        (calling (Some values_function) [] (call ∷ one (Const (number (pos 7))) ∷ [])))
    third_part m = part layout (let_values any) m
        ∙ (λ k. Binds (letting (here.1 k ∷ here.2 k ∷ here.3 k ∷ []) None (values_code m k)))

    whole_main : (m : ℕ) → code_of layout (roll-Term (main_term any)) m ≡ main_code
    whole_main m =
        let second = behind_item (roll-Item (let_counter any)) m in
        let third = behind_item (run called) second in
        let fourth = behind_item (roll-Item (let_values any)) third in
        code layout (main_term any) m
        ∙ (λ k. body (first_part m k
        ∷ (part layout (Item-F.Run called) second ∙ ap Runs (called_code second)) k
        ∷ third_part third k ∷ (part layout (Item-F.Run printed) fourth ∙ ap Runs
        (printed_code fourth)) k ∷ []))

  pub main_is : (n : ℕ) → lambda_body (main any) n ≡ main_body any
  main_is n =
      let layout = layout_of (main any) in
      let here : Stand layout = (
        own_place (main_row any) 0 false refl refl (ap lives_in_cell (main_marks 0)),
        own_place (main_row any) 1 false refl refl (ap lives_in_cell (main_marks 1)),
        own_place (main_row any) 2 false refl refl (ap lives_in_cell (main_marks 2)),
        own_place (main_row any) 3 false refl refl (ap lives_in_cell (main_marks 3)),
      ) in
      body_made (main_row any) n ∙ (λ k. record {
        locals = 4;
        captures = main_captures k;
        code = Plain Tick ∷ Plain (Args no_params)
            ∷ (whole_main layout here (n + 0) k
            ++ (Plain (CheckResults (any_results any)) ∷ Plain Return ∷ []));
      })
