-- The code of a method that prints numbers in a loop.
use Rattle.std.proofs.Common.{◌≡◌, ℕ, ◌+◌, pos, Bool, true, false, List, [], ◌∷◌, ◌++◌}
use Rattle.std.proofs.Common.{length, ap, ◌∙◌, refl}
use Rattle.std.specs.declared.option.Option.TheVariants.{None, Some}
use Rattle.dy_term.specs.declared.literal.Literal.{Literal, Literal-F, out-Literal}
use Rattle.dy_term.specs.declared.literal.Literal.{out-roll-Literal}
use Rattle.dy_term.specs.declared.types.DyType.{DyType}
use Rattle.dy_term.specs.declared.term.Item.{Item-F}
use Rattle.dy_term.specs.declared.term.Term.{Term-F, roll-Term, out-Term, out-roll-Term}
use Rattle.dy_term.specs.declared.term.ForRow.{roll-ForRow}
use Rattle.dy_term.specs.declared.term.Lambda.{roll-Lambda, out-Lambda, out-roll-Lambda}
use Rattle.dy_term.specs.declared.term.Limit.TheVariants.{To}
use Rattle.dy_outcome.specs.declared.place.Place.TheVariants.{Own}
use Rattle.dy_captures.specs.Marks.{Marks, unmarked, mentioned_at, marks_of, marks_of_item}
use Rattle.dy_captures.specs.Marks.{marks_of_clause, marks_of_for, marks_of_lambda, join_all, join}
use Rattle.dy_captures.specs.Marks.{outside, is_captured_by}
use Rattle.dy_code.specs.Fetching.{Const, Local, Tick, CheckResults, Args, Return}
use Rattle.dy_meaning.specs.Lambdas.{lambdas_in_clause}
use Rattle.dy_meaning.specs.Layouts.{Layout, place_of, layout_of, captured_by, all_below}
use Rattle.dy_meaning.specs.Layouts.{lives_in_cell}
use Rattle.dy_lowered.specs.Flat.{Plain, one}
use Rattle.dy_lowered.specs.Parts.{read, calling, body, Runs}
use Rattle.dy_lowered.specs.Turns.{Counts, for_loop}
use Rattle.dy_lowered.specs.Terms.{function_of, function_named, number_in, number_of, known_or}
use Rattle.dy_lowered.specs.Terms.{code_of, clause_code}
use Rattle.dy_lowered.specs.Bodies.{lambda_body}
use Rattle.dy_lowered_examples.specs.Building.{A_lambda, format_out, number, no_params, local}
use Rattle.dy_lowered_examples.specs.Building.{lit, printer, run, sequence}
use Rattle.dy_lowered_examples.specs.Loop.{directive, print, inner, clause_row, from_one}
use Rattle.dy_lowered_examples.specs.Loop.{loop_row, no_results, main_row, main, loop_code}
use Rattle.dy_lowered_examples.specs.Loop.{main_body}
use Rattle.dy_lowered_examples.specs.Loop as example
use Rattle.dy_lowered_examples.proofs.Computing.{code, part, counting, loop, marks, item, clause}
use Rattle.dy_lowered_examples.proofs.Computing.{turns, lambda, body_made, own_place, next}

module _ (any : DyType) where
  named : function_named printer ≡ Some format_out
  named = ap function_of (out-roll-Term (Term-F.Global format_out))

  known : number_of (out-Term (lit (number (pos 10)))) ≡ Some (pos 10)
  known = ap number_of (out-roll-Term (Term-F.Lit (number (pos 10))))
      ∙ ap number_in (out-roll-Literal (Literal-F.Int (pos 10)))

  module _ (layout : Layout) (here : place_of layout 0 ≡ Own 0 false) where
    print_code : (n : ℕ) → code_of layout print n
        ≡ calling (Some format_out) (code_of layout printer n)
        (one (Const directive) ∷ one (Local 0) ∷ [])
    print_code n = code layout (Term-F.Call printer (lit directive ∷ local 0 ∷ [])) n
        ∙ (λ k. calling (named k) (code_of layout printer n)
        (code layout (Term-F.Lit directive) (next printer n) k
        ∷ i_code (next (lit directive) (next printer n)) k ∷ []))
      where
        i_code : (n : ℕ) → code_of layout (local 0) n ≡ one (Local 0)
        i_code n = code layout (Term-F.Local 0) n ∙ ap read here

    inner_code : (n : ℕ) → code_of layout inner n
        ≡ body (Runs (calling (Some format_out) [] (one (Const directive) ∷ one (Local 0) ∷ []))
        ∷ [])
    inner_code n = code layout (Term-F.Body (run print ∷ [])) n
        ∙ (λ k. body ((part layout (Item-F.Run print) n ∙ ap Runs (print_code n)) k ∷ []))

    clause_is : (n : ℕ) → clause_code layout (from_one any) n
        ≡ Counts (Own 0 false) (one (Const (number (pos 1))))
        (Some (To, known_or (Some (pos 10)) [])) (known_or (Some (pos 1)) [])
    clause_is n = counting layout (clause_row any) n
        ∙ (λ k. Counts (here k) (code layout (Term-F.Lit (number (pos 1))) n k)
        (Some (
          To,
          known_or (known k)
              (code_of layout (lit (number (pos 10))) (next (lit (number (pos 1))) n)),
        ))
        (known_or (Some (pos 1)) []))

    whole_code : (n : ℕ) → code_of layout (sequence (run (example.loop any) ∷ [])) n ≡ loop_code
    whole_code n = code layout (Term-F.Body (run (example.loop any) ∷ [])) n
        ∙ (λ k. body ((part layout (Item-F.Run (example.loop any)) n ∙ ap Runs
        (code layout (Term-F.For (roll-ForRow (loop_row any))) n ∙ loop layout (loop_row any) n)) k
        ∷ []))
        ∙ (λ k. body (Runs (for_loop (clause_is n k ∷ []) None
        (inner_code (n + length (lambdas_in_clause (from_one any))) k) None) ∷ []))

  -- the number is read, and never captured
  lit_marks : (v : Literal) → marks_of 0 (lit v) ≡ unmarked
  lit_marks v = marks 0 (Term-F.Lit v)

  print_marks : marks_of 0 print ≡ mentioned_at true
  print_marks = marks 0 (Term-F.Call printer (lit directive ∷ local 0 ∷ []))
      ∙ (λ k. join (marks 0 (Term-F.Global format_out) k)
      (join_all (lit_marks directive k ∷ marks 0 (Term-F.Local 0) k ∷ [])))

  inner_marks : marks_of 0 inner ≡ mentioned_at true
  inner_marks = marks 0 (Term-F.Body (run print ∷ []))
      ∙ (λ k. join_all ((item 0 (Item-F.Run print) ∙ print_marks) k ∷ []))

  clause_marks : marks_of_clause 0 (from_one any) ≡ unmarked
  clause_marks = clause 0 (clause_row any)
      ∙ (λ k. join (lit_marks (number (pos 1)) k) (join (lit_marks (number (pos 10)) k) unmarked))

  loop_marks : marks_of 0 (example.loop any) ≡ mentioned_at true
  loop_marks = marks 0 (Term-F.For (roll-ForRow (loop_row any)))
      ∙ turns 0 (loop_row any)
      ∙ (λ k. join (join_all (clause_marks k ∷ [])) (join unmarked (join (inner_marks k) unmarked)))

  whole_marks : marks_of 0 (sequence (run (example.loop any) ∷ [])) ≡ mentioned_at true
  whole_marks = marks 0 (Term-F.Body (run (example.loop any) ∷ []))
      ∙ (λ k. join_all ((item 0 (Item-F.Run (example.loop any)) ∙ loop_marks) k ∷ []))

  no_cell : lives_in_cell (marks_of_lambda 0 (main any)) ≡ false
  no_cell = ap lives_in_cell
      (lambda 0 (main_row any) ∙ (λ k. outside 0 0 (join unmarked (whole_marks k))))

  captures_nothing : length (captured_by (main any)) ≡ 0
  captures_nothing =
      ap (λ (r : A_lambda). length (all_below (λ k. is_captured_by k (main any)) r.first))
      (out-roll-Lambda (main_row any))

  pub main_is : (n : ℕ) → lambda_body (main any) n ≡ main_body
  main_is n =
      let layout = layout_of (main any) in
      let here = own_place (main_row any) 0 false refl refl no_cell in
      body_made (main_row any) n ∙ (λ k. record {
        locals = 1;
        captures = captures_nothing k;
        code = Plain Tick ∷ Plain (Args no_params)
            ∷ (whole_code layout here (n + 0) k
            ++ (Plain (CheckResults no_results) ∷ Plain Return ∷ []));
      })
