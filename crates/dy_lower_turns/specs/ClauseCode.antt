-- The clauses of a `for` of the program, with their code.
use Rattle.std.specs.Prelude.{ℕ, ℤ, pos, List, [], map}
use Rattle.std.specs.Option.{option_map}
use Rattle.std.specs.declared.option.Option.{Option}
use Rattle.std.specs.declared.option.Option.TheVariants.{None, Some}
use Rattle.dy_term.specs.declared.term.ForClause.{ForClause}
use Rattle.dy_term.specs.declared.term.Limit.{Limit}
use Rattle.dy_term.specs.declared.term.Term.{Term, out-Term}
use Rattle.dy_meaning.specs.Layouts.{Layout}
use Rattle.dy_meaning.specs.Numbering.{Numbered, clauses_from}
use Rattle.dy_lowered.specs.Flat.{Code}
use Rattle.dy_lowered.specs.Terms.{clause_code, code_of, known_or, limit_from, number_of, step_from}
use Rattle.dy_lowered.specs.Turns.{Amount, Clause}
use Rattle.dy_lower_parts.specs.Seen.{with_code}

-- a bound that may be known, where else this gives it
abbrev pub bounded : Option (Limit × Option ℤ) → Code → Option (Limit × Amount)
bounded None given = None
bounded (Some limit) given = Some (limit.0, known_or limit.1 given)

-- a step that is a number in the text, which is 1 where none is written
abbrev pub known_step : Option Term → Option ℤ
known_step None = Some (pos 1)
known_step (Some step) = number_of (out-Term step)

-- a limit whose bound is a number in the text
abbrev pub known_limit : Option (Limit × Term) → Option (Limit × Option ℤ)
known_limit None = None
known_limit (Some limit) = Some (limit.0, number_of (out-Term limit.1))

module _ (layout : Layout) where
  abbrev pub clause_with_code : ForClause → Numbered ForClause Clause
  clause_with_code clause = (clause, clause_code layout clause)

  -- clauses, where the first body of a closure has this number
  abbrev pub clauses_code : List ForClause → ℕ → List Clause
  clauses_code clauses = clauses_from (map clause_with_code clauses)

  abbrev pub pair_with_code : {A : Type 0} → A × Term → A × Numbered Term Code
  pair_with_code pair = (pair.0, with_code layout pair.1)

  abbrev pub limit_code : Option (Limit × Term) → ℕ → Option (Limit × Amount)
  limit_code limit = limit_from (option_map pair_with_code limit)

  abbrev pub step_code : Option Term → ℕ → Amount
  step_code step = step_from (option_map (with_code layout) step)

  -- what evaluates a bound, and a step, if one is written
  abbrev pub bound_given : Option (Limit × Term) → ℕ → Code
  bound_given None n = []
  bound_given (Some limit) n = code_of layout limit.1 n

  abbrev pub step_given : Option Term → ℕ → Code
  step_given None n = []
  step_given (Some step) n = code_of layout step n
