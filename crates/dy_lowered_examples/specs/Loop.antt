-- A method that prints numbers in a loop, and its code, worked out by hand:
--
--     define method main () => () for (i from 1 to 10) format-out("%d ", i) end end;
use Rattle.std.specs.Prelude.{pos, negsuc, true, false, List, [], ◌∷◌, ◌++◌, codes}
use Rattle.std.specs.declared.option.Option.TheVariants.{None, Some}
use Rattle.dy_term.specs.declared.literal.Literal.{Literal, Literal-F, roll-Literal}
use Rattle.dy_term.specs.declared.types.DyType.{DyType}
use Rattle.dy_term.specs.declared.types.Results.{Results}
use Rattle.dy_term.specs.declared.term.ForClause.{ForClause, ForClause-F, roll-ForClause}
use Rattle.dy_term.specs.declared.term.Term.{Term, Term-F, roll-Term}
use Rattle.dy_term.specs.declared.term.ForRow.{ForRow, roll-ForRow}
use Rattle.dy_term.specs.declared.term.Lambda.{Lambda, roll-Lambda}
use Rattle.dy_term.specs.declared.term.Limit.TheVariants.{To}
use Rattle.dy_code.specs.Fetching.{Const, Local, SetLocal, Push, Tick, CallKnown, Values, Op}
use Rattle.dy_code.specs.Fetching.{CheckResults, Args, Return}
use Rattle.dy_lowered.specs.Flat.{Plain, Jump, JumpFalse, Code}
use Rattle.dy_lowered.specs.Bodies.{FlatBody}
use Rattle.dy_lowered_examples.specs.Building.{A_lambda, A_clause, A_loop, format_out, number}
use Rattle.dy_lowered_examples.specs.Building.{no_params, local, lit, printer, run, sequence}

abbrev pub directive : Literal
directive = roll-Literal (Literal-F.Str (codes "%d "))

abbrev pub print : Term
print = roll-Term (Term-F.Call printer (lit directive ∷ local 0 ∷ []))

abbrev pub inner : Term
inner = sequence (run print ∷ [])

abbrev pub clause_row : DyType → A_clause
clause_row any = ForClause-F.From 0 any (lit (number (pos 1))) (Some (To, lit (number (pos 10))))
    None

abbrev pub from_one : DyType → ForClause
from_one any = roll-ForClause (clause_row any)

abbrev pub loop_row : DyType → A_loop
loop_row any = record { clauses = from_one any ∷ []; test = None; body = inner; finally = None }

abbrev pub loop : DyType → Term
loop any = roll-Term (Term-F.For (roll-ForRow (loop_row any)))

-- without values
abbrev pub no_results : Results
no_results = record { required = []; rest = None }

abbrev pub main_row : DyType → A_lambda
main_row any = record {
  params = no_params;
  keywords = [];
  next = false;
  first = 0;
  locals = 1;
  body = sequence (run (loop any) ∷ []);
  results = no_results;
}

abbrev pub main : DyType → Lambda
main any = roll-Lambda (main_row any)

-- Numbers count from 1. The bound is known, so each turn compares its number with 11: the loop is
-- left where it is not less.
abbrev pub loop_code : Code
loop_code =
    Plain (Const (number (pos 1))) ∷ Plain Push ∷ Plain Push ∷ Plain (Const (number (pos 0)))
    ∷ Plain Push ∷ Plain (Op 4 2) ∷ Plain (Values 1)
    ∷ Plain (SetLocal 0) ∷ Plain Push ∷ Plain (Const (number (pos 11))) ∷ Plain Push
    ∷ Plain (Op 4 2) ∷ JumpFalse (pos 12) ∷ Plain (Local 0) ∷ Plain Push ∷ Plain Tick
    ∷ Plain (Const directive) ∷ Plain Push ∷ Plain (Local 0) ∷ Plain Push
    ∷ Plain (CallKnown format_out 2)
    ∷ Plain (Const (number (pos 1))) ∷ Plain Push ∷ Plain (Op 0 2) ∷ Jump (negsuc 17)
    ∷ Plain Push ∷ Plain (Values 1) ∷ Plain (Const (roll-Literal (Literal-F.Bool false))) ∷ []

abbrev pub main_body : FlatBody
main_body = record {
  locals = 1;
  captures = 0;
  code = Plain Tick ∷ Plain (Args no_params)
      ∷ (loop_code ++ (Plain (CheckResults no_results) ∷ Plain Return ∷ []));
}
