-- Clauses one after the other, from the last one.
use Rattle.std.proofs.Common.{◌≡◌, ℕ, ◌+◌, ◌-◌, ◌<◌, List, ◌++◌, drop, get_or, length, refl, sym, ap, ◌∙◌, append_assoc}
use Rattle.std.specs.declared.option.Option.{Option}
use Rattle.std.specs.declared.option.Option.TheVariants.{None, Some}
use Rattle.dy_term.specs.declared.term.ForClause.{ForClause}
use Rattle.dy_term.specs.declared.term.Limit.{Limit}
use Rattle.dy_term.specs.declared.term.Term.{Term}
use Rattle.dy_meaning.specs.Lambdas.{lambdas_in_clause}
use Rattle.dy_meaning.specs.Layouts.{Layout}
use Rattle.dy_lowered.specs.Flat.{Code}
use Rattle.dy_lowered.specs.Parts.{put, cell}
use Rattle.dy_lowered.specs.Terms.{clause_code, known_or}
use Rattle.dy_lowered.specs.Turns.{operand, operands, all_operands, variable, bindings, testing, tests}
use Rattle.dy_lower_parts.proofs.Made.{more_terms}
use Rattle.dy_lower_turns.specs.ClauseCode.{clauses_code, bounded, known_limit, known_step, limit_code, step_code, bound_given, step_given}
use Rattle.dy_lower_turns.proofs.Turned.{farther}

module _ (layout : Layout) where
  -- the number of the first body behind a clause
  abbrev next : ForClause → ℕ → ℕ
  next x n = n + length (lambdas_in_clause x)

  pub operands_more : (cs : List ForClause) (i j : ℕ) (x : ForClause) (k0 k1 own : ℕ) → i + 1 ≡ j → i < length cs → x ≡ get_or cs i x
      → ((n : ℕ) → k0 ≡ all_operands (clauses_code layout (drop j cs) n)) → ((n : ℕ) → own ≡ operands (clause_code layout x n)) → k1 ≡ own + k0
      → (n : ℕ) → k1 ≡ all_operands (clauses_code layout (drop i cs) n)
  operands_more cs i j x k0 k1 own ej l e h f g n =
      g ∙ (λ p. f n p + h (next x n) p) ∙ ap (λ (xs : List ForClause). all_operands (clauses_code layout xs n)) (sym (more_terms cs i j x ej l e))

  pub bindings_more : (cs : List ForClause) (i j : ℕ) (x : ForClause) (k0 place own : ℕ) (c0 c1 old : Code) → i + 1 ≡ j → i < length cs → x ≡ get_or cs i x
      → ((n : ℕ) → k0 ≡ all_operands (clauses_code layout (drop j cs) n)) → ((n : ℕ) → own ≡ operands (clause_code layout x n)) → place ≡ own + k0
      → ((n : ℕ) → c0 ≡ bindings (clauses_code layout (drop j cs) n) ++ old)
      → ((n : ℕ) → c1 ≡ operand place ++ (put (variable (clause_code layout x n)) ++ (cell (variable (clause_code layout x n)) ++ c0)))
      → (n : ℕ) → c1 ≡ bindings (clauses_code layout (drop i cs) n) ++ old
  bindings_more cs i j x k0 place own c0 c1 old ej l e h f g hc h1 n =
      let m = next x n in
      let here = clause_code layout x n in
      let rest = clauses_code layout (drop j cs) m in
      let at : place ≡ operands here + all_operands rest = g ∙ (λ p. f n p + h m p) in
      let puts = put (variable here) in
      let own_cell = cell (variable here) in
      h1 n ∙ (λ p. operand (at p) ++ (puts ++ (own_cell ++ hc m p)))
      ∙ ap (λ (c : Code). operand (operands here + all_operands rest) ++ (puts ++ c)) (sym (append_assoc own_cell (bindings rest) old))
      ∙ ap (λ (c : Code). operand (operands here + all_operands rest) ++ c) (sym (append_assoc puts (own_cell ++ bindings rest) old))
      ∙ sym (append_assoc (operand (operands here + all_operands rest)) (puts ++ (own_cell ++ bindings rest)) old)
      ∙ ap (λ (xs : List ForClause). bindings (clauses_code layout xs n) ++ old) (sym (more_terms cs i j x ej l e))

  pub tests_more : (cs : List ForClause) (i j : ℕ) (x : ForClause) (above exit : ℕ) (c0 c1 old : Code) → i + 1 ≡ j → i < length cs → x ≡ get_or cs i x
      → ((n : ℕ) → above ≡ all_operands (clauses_code layout (drop j cs) n))
      → ((n far : ℕ) → far + exit ≡ length old → c0 ≡ tests (clauses_code layout (drop j cs) n) far ++ old)
      → ((n : ℕ) → c1 ≡ testing (clause_code layout x n) above (length c0 - exit) ++ c0)
      → (n far : ℕ) → far + exit ≡ length old → c1 ≡ tests (clauses_code layout (drop i cs) n) far ++ old
  tests_more cs i j x above exit c0 c1 old ej l e h hc h1 n far long =
      let m = next x n in
      let here = clause_code layout x n in
      let rest = clauses_code layout (drop j cs) m in
      let s0 : c0 ≡ tests rest far ++ old = hc m far long in
      let over : length c0 - exit ≡ length (tests rest far) + far = farther far exit (tests rest far) old c0 long s0 in
      h1 n ∙ (λ p. testing here (h m p) (over p) ++ s0 p)
      ∙ sym (append_assoc (testing here (all_operands rest) (length (tests rest far) + far)) (tests rest far) old)
      ∙ ap (λ (xs : List ForClause). tests (clauses_code layout xs n) far ++ old) (sym (more_terms cs i j x ej l e))

  -- what is known of a limit and of a step, and what gives the rest
  pub limit_known : (limit : Option (Limit × Term)) (n : ℕ) → bounded (known_limit limit) (bound_given layout limit n) ≡ limit_code layout limit n
  limit_known None n = refl
  limit_known (Some limit) n = refl

  pub step_known : (step : Option Term) (n : ℕ) → known_or (known_step step) (step_given layout step n) ≡ step_code layout step n
  step_known None n = refl
  step_known (Some step) n = refl
