-- A method whose closures count, one that calls them, and their code, worked out by hand:
--
--     define method counter () let n = 0; method () n := n + 1; n end end;
--     define method main ()
--       let c = counter(); c();
--       let (a, b, d) = values(c(), 7);
--       format-out("%d %d %=\n", a, b, d);
--     end;
use Rattle.std.specs.Prelude.{ℕ, pos, true, false, List, [], ◌∷◌, ◌++◌, codes}
use Rattle.std.specs.declared.option.Option.TheVariants.{None, Some}
use Rattle.dy_base.specs.declared.ids.BindingId.{BindingId}
use Rattle.dy_base.specs.declared.ids.GenericId.{GenericId}
use Rattle.dy_base.specs.declared.ids.What.TheVariants as whats
use Rattle.dy_term.specs.declared.literal.Literal.{Literal, Literal-F, roll-Literal}
use Rattle.dy_term.specs.declared.types.DyType.{DyType}
use Rattle.dy_term.specs.declared.types.Results.{Results}
use Rattle.dy_term.specs.declared.term.Item.{Item, Item-F, roll-Item}
use Rattle.dy_term.specs.declared.term.Term.{Term, Term-F, roll-Term}
use Rattle.dy_term.specs.declared.term.Lambda.{Lambda, roll-Lambda}
use Rattle.dy_code.specs.Fetching.{Const, Local, SetLocal, NewCell, FreeGet, FreeSet, Push, Tick}
use Rattle.dy_code.specs.Fetching.{Closure, Search, CallKnown, CallValue, Values, Spread}
use Rattle.dy_code.specs.Fetching.{CheckResults, Args, Return}
use Rattle.dy_lowered.specs.Flat.{Plain, Code}
use Rattle.dy_lowered.specs.Bodies.{FlatBody}
use Rattle.dy_lowered_examples.specs.Building.{A_lambda, A_term, An_item, format_out, number}
use Rattle.dy_lowered_examples.specs.Building.{no_params, local, lit, printer, run, sequence}

abbrev pub values_function : BindingId
values_function = record { what = whats.Function; at = record { library = 0; row = 2 } }

abbrev pub plus : GenericId
plus = record { 0 = record { library = 0; row = 0 } }

abbrev pub counter_function : GenericId
counter_function = record { 0 = record { library = 2; row = 0 } }

abbrev pub directives : Literal
directives = roll-Literal (Literal-F.Str (codes "%d %d %=\n"))

abbrev pub any_results : DyType → Results
any_results any = record { required = []; rest = Some any }

-- `n + 1` and `n := n + 1`
abbrev pub sum : Term
sum = roll-Term (Term-F.Site plus (local 0 ∷ lit (number (pos 1)) ∷ []))

abbrev pub step : Term
step = roll-Term (Term-F.SetLocal 0 sum)

abbrev pub counting : Term
counting = sequence (run step ∷ run (local 0) ∷ [])

abbrev pub closure_row : DyType → A_lambda
closure_row any = record {
  params = no_params;
  keywords = [];
  next = false;
  first = 1;
  locals = 1;
  body = counting;
  results = any_results any;
}

abbrev pub closure : DyType → Lambda
closure any = roll-Lambda (closure_row any)

abbrev pub let_zero : DyType → An_item
let_zero any = Item-F.Let ((0, any) ∷ []) None (lit (number (pos 0)))

abbrev pub closure_term : DyType → Term
closure_term any = roll-Term (Term-F.Method (closure any))

abbrev pub counter_term : DyType → A_term
counter_term any = Term-F.Body (roll-Item (let_zero any) ∷ run (closure_term any) ∷ [])

abbrev pub counter_row : DyType → A_lambda
counter_row any = record {
  params = no_params;
  keywords = [];
  next = false;
  first = 0;
  locals = 1;
  body = roll-Term (counter_term any);
  results = any_results any;
}

abbrev pub counter : DyType → Lambda
counter any = roll-Lambda (counter_row any)

-- A cell is made for `n`, and the closure holds it.
abbrev pub counter_body : DyType → ℕ → FlatBody
counter_body any number_of_closure = record {
  locals = 1;
  captures = 0;
  code = Plain Tick ∷ Plain (Args no_params) ∷ Plain (Const (number (pos 0))) ∷ Plain (SetLocal 0)
      ∷ Plain (NewCell 0) ∷ Plain (Local 0) ∷ Plain Push ∷ Plain (Closure number_of_closure 1)
      ∷ Plain (CheckResults (any_results any)) ∷ Plain Return ∷ [];
}

-- The closure assigns what it shares.
abbrev pub closure_body : DyType → FlatBody
closure_body any = record {
  locals = 0;
  captures = 1;
  code = Plain Tick ∷ Plain (Args no_params) ∷ Plain (FreeGet 0) ∷ Plain Push
      ∷ Plain (Const (number (pos 1))) ∷ Plain Push ∷ Plain (Search plus 2) ∷ Plain (FreeSet 0)
      ∷ Plain (FreeGet 0) ∷ Plain (CheckResults (any_results any)) ∷ Plain Return ∷ [];
}

-- the method that calls it
abbrev pub called : Term
called = roll-Term (Term-F.Call (local 0) [])

abbrev pub values_term : Term
values_term = roll-Term (Term-F.Global values_function)

abbrev pub both_values : Term
both_values = roll-Term (Term-F.Call values_term (called ∷ lit (number (pos 7)) ∷ []))

abbrev pub printed : Term
printed = roll-Term (Term-F.Call printer (lit directives ∷ local 1 ∷ local 2 ∷ local 3 ∷ []))

abbrev pub let_counter : DyType → An_item
let_counter any = Item-F.Let ((0, any) ∷ []) None (roll-Term (Term-F.Site counter_function []))

abbrev pub let_values : DyType → An_item
let_values any = Item-F.Let ((1, any) ∷ (2, any) ∷ (3, any) ∷ []) None both_values

abbrev pub main_term : DyType → A_term
main_term any = Term-F.Body (roll-Item (let_counter any) ∷ run called ∷ roll-Item (let_values any)
    ∷ run printed ∷ [])

abbrev pub main_row : DyType → A_lambda
main_row any = record {
  params = no_params;
  keywords = [];
  next = false;
  first = 0;
  locals = 4;
  body = roll-Term (main_term any);
  results = any_results any;
}

abbrev pub main : DyType → Lambda
main any = roll-Lambda (main_row any)

-- Three values are bound, of which the last is missing.
abbrev pub main_code : Code
main_code =
    Plain (Search counter_function 0) ∷ Plain (SetLocal 0)
    ∷ Plain (Local 0) ∷ Plain Push ∷ Plain (CallValue 0)
    ∷ Plain (Local 0) ∷ Plain Push ∷ Plain (CallValue 0) ∷ Plain Push
    ∷ Plain (Const (number (pos 7))) ∷ Plain Push ∷ Plain (CallKnown values_function 2)
    ∷ Plain (Spread 3 false) ∷ Plain (Values 1) ∷ Plain (SetLocal 3) ∷ Plain (Values 1)
    ∷ Plain (SetLocal 2) ∷ Plain (Values 1) ∷ Plain (SetLocal 1)
    ∷ Plain (Const directives) ∷ Plain Push ∷ Plain (Local 1) ∷ Plain Push ∷ Plain (Local 2)
    ∷ Plain Push ∷ Plain (Local 3) ∷ Plain Push ∷ Plain (CallKnown format_out 4) ∷ []

abbrev pub main_body : DyType → FlatBody
main_body any = record {
  locals = 4;
  captures = 0;
  code = Plain Tick ∷ Plain (Args no_params)
      ∷ (main_code ++ (Plain (CheckResults (any_results any)) ∷ Plain Return ∷ []));
}
