-- Parts of the code of a `for` of the program.
use Rattle.std.specs.Prelude.{ℕ, ◌+◌, negsuc, Bool, ◌∷◌, ◌++◌, length, flat_map}
use Rattle.std.specs.Option.{option_map}
use Rattle.std.specs.declared.option.Option.{Option}
use Rattle.dy_term.specs.declared.term.ForRow.{ForRow, out-ForRow}
use Rattle.dy_term.specs.declared.term.Term.{Term}
use Rattle.dy_outcome.specs.declared.place.Place.{Place}
use Rattle.dy_code.specs.Fetching.{Push, Values}
use Rattle.dy_meaning.specs.Lambdas.{lambdas_in, lambdas_in_clause}
use Rattle.dy_meaning.specs.Layouts.{Layout}
use Rattle.dy_meaning.specs.Numbering.{held_from, second_from}
use Rattle.dy_lambdas.specs.Listed.{in_second}
use Rattle.dy_lowered.specs.Flat.{Code, Plain, Jump}
use Rattle.dy_lowered.specs.Terms.{code_of}
use Rattle.dy_lowered.specs.Turns.{Counter, finished, turns}
use Rattle.dy_lowered.specs.Turns.{counted_turn}
use Rattle.dy_lower_parts.specs.Seen.{with_code}
use Rattle.dy_lower_turns.specs.ClauseCode.{clauses_code, pair_with_code}

module _ (layout : Layout) where
  abbrev pub test_code : Option (Bool × Term) → ℕ → Option (Bool × Code)
  test_code test = second_from (option_map (pair_with_code layout) test)

  abbrev pub last_code : Option Term → ℕ → Option Code
  last_code last = held_from (option_map (with_code layout) last)

  -- the code of the body and of what gives the values, where the first body of a closure behind the
  -- clauses has this number
  abbrev pub body_code : ForRow → ℕ → Code
  body_code row n =
      code_of layout (out-ForRow row).body (n + length (in_second (out-ForRow row).test))

  abbrev pub finally_code : ForRow → ℕ → Option Code
  finally_code row n =
      last_code (out-ForRow row).finally
      (n + length (in_second (out-ForRow row).test) + length (lambdas_in (out-ForRow row).body))

  -- the turns of a fast loop, and what is behind them
  abbrev pub counted_turns : Place → Counter → ForRow → ℕ → Code
  counted_turns place clause row n =
      let test = test_code (out-ForRow row).test n in
      let once = counted_turn place clause test (body_code row n) in
      once ++ (Jump (negsuc (length once)) ∷ Plain Push ∷ Plain (Values (clause.hidden + 1))
      ∷ finished (finally_code row n))

  -- the loop of any clauses
  abbrev pub row_turns : ForRow → ℕ → Code
  row_turns row n =
      let all = (out-ForRow row).clauses in
      let m = n + length (flat_map lambdas_in_clause all) in
      turns (clauses_code layout all n) (test_code (out-ForRow row).test m) (body_code row m)
      (finally_code row m)
