-- The code of a term.
use Rattle.std.specs.Prelude.{ℕ, ◌+◌, ℤ, pos, List, [], ◌∷◌, ◌++◌, length, map}
use Rattle.std.specs.Option.{option_map}
use Rattle.std.specs.declared.option.Option.{Option}
use Rattle.std.specs.declared.option.Option.TheVariants.{None, Some}
use Rattle.dy_base.specs.declared.ids.BindingId.{BindingId}
use Rattle.dy_base.specs.declared.ids.ClassId.{ClassId}
use Rattle.dy_base.specs.declared.ids.GenericId.{GenericId}
use Rattle.dy_base.specs.declared.ids.What.{What}
use Rattle.dy_base.specs.declared.ids.What.TheVariants as what
use Rattle.dy_term.specs.declared.literal.Literal.{Literal, Literal-F, out-Literal}
use Rattle.dy_term.specs.declared.term.Limit.{Limit}
use Rattle.dy_term.specs.declared.term.ForClause.{ForClause, ForClause-F, para-ForClause}
use Rattle.dy_term.specs.declared.term.Item.{Item, Item-F, para-Item}
use Rattle.dy_term.specs.declared.term.Term.{Term, Term-F, out-Term, para-Term}
use Rattle.dy_term.specs.declared.term.BlockRow.{BlockRow, BlockRow-F, para-BlockRow}
use Rattle.dy_term.specs.declared.term.ForRow.{ForRow, ForRow-F, para-ForRow}
use Rattle.dy_term.specs.declared.term.Lambda.{Lambda, Lambda-F, para-Lambda}
use Rattle.dy_code.specs.Fetching.{Const, Global, SetGlobal, Search, Op}
use Rattle.dy_meaning.specs.Lambdas.{with_inner}
use Rattle.dy_meaning.specs.Layouts.{Layout, place_of, captured_by}
use Rattle.dy_meaning.specs.Numbering.{Numbered, behind, terms_from, items_from, branches_from}
use Rattle.dy_meaning.specs.Numbering.{behind_branches, arms_from, behind_arms, held_from}
use Rattle.dy_meaning.specs.Numbering.{behind_held, clauses_from, behind_clauses, second_from}
use Rattle.dy_meaning.specs.Numbering.{behind_second}
use Rattle.dy_lowered.specs.Flat.{Code, one}
use Rattle.dy_lowered.specs.Parts.{read, with_arguments, calling, assigning, branching, both}
use Rattle.dy_lowered.specs.Parts.{either, select, letting, closing, Method, local_methods, Part}
use Rattle.dy_lowered.specs.Parts.{Runs, Binds, Handles, body, loop}
use Rattle.dy_lowered.specs.Turns.{Amount, Known, Given, Clause, Takes, Counts, for_loop}

abbrev pub class_named : ClassId → BindingId
class_named class = record { what = what.Class; at = class.0 }

abbrev pub generic_named : GenericId → BindingId
generic_named generic = record { what = what.Generic; at = generic.0 }

abbrev pub when_function : What → BindingId → Option BindingId
when_function what.Function binding = Some binding
when_function kind binding = None

abbrev pub function_of : Term-F ForClause Item Term BlockRow ForRow Lambda → Option BindingId
function_of (Term-F.Global binding) = when_function binding.what binding
function_of term = None

-- the function that a term names
abbrev pub function_named : Term → Option BindingId
function_named term = function_of (out-Term term)

-- What no code has yet, as blocks and walks over collections.
abbrev pub not_yet : Code
not_yet = []

-- the number that a term is, if it is the literal of one
abbrev pub number_in : Literal-F Literal → Option ℤ
number_in (Literal-F.Int number) = Some number
number_in literal = None

abbrev pub number_of : Term-F ForClause Item Term BlockRow ForRow Lambda → Option ℤ
number_of (Term-F.Lit literal) = number_in (out-Literal literal)
number_of term = None

abbrev pub known_or : Option ℤ → Code → Amount
known_or (Some number) code = Known number
known_or None code = Given code

abbrev pub amount : Numbered Term Code → ℕ → Amount
amount term number = known_or (number_of (out-Term term.0)) (term.1 number)

-- where a clause that counts ends, and its step, which is 1 where none is written
abbrev pub limit_from : Option (Limit × Numbered Term Code) → ℕ → Option (Limit × Amount)
limit_from None number = None
limit_from (Some limit) number = Some (limit.0, amount limit.1 number)

abbrev pub step_from : Option (Numbered Term Code) → ℕ → Amount
step_from None number = Known (pos 1)
step_from (Some step) number = amount step number

-- local methods, where the first body of a closure has this number
abbrev pub methods_from : Layout → List (ℕ × (Lambda × Unit {0})) → ℕ → List Method
methods_from layout [] number = []
methods_from layout (method ∷ methods) number =
    record {
      place = place_of layout method.0;
      body = number;
      captured = map (place_of layout) (captured_by method.1.0);
    } ∷ methods_from layout methods (number + length (with_inner method.1.0))

-- The code of terms in a body with this layout, where the body of the first closure inside has this
-- number in its library, and the others follow it in the order of the text.
module _ (layout : Layout) where
  abbrev pub clause_coded : ForClause-F (Numbered ForClause Clause) (Numbered Item Part)
      (Numbered Term Code) (Numbered BlockRow Code) (Numbered ForRow Code) (Lambda × Unit {0}) → ℕ
      → Clause
  clause_coded (ForClause-F.Then local type start next) number =
      Takes (place_of layout local) (start.1 number) (next.1 (behind start number))
  clause_coded (ForClause-F.In local type collection) number =
      Takes (place_of layout local) not_yet not_yet
  clause_coded (ForClause-F.From local type start limit step) number =
      Counts (place_of layout local) (start.1 number) (limit_from limit (behind start number))
      (step_from step (behind_second limit (behind start number)))

  abbrev pub item_coded : Item-F (Numbered ForClause Clause) (Numbered Item Part)
      (Numbered Term Code) (Numbered BlockRow Code) (Numbered ForRow Code) (Lambda × Unit {0}) → ℕ
      → Part
  item_coded (Item-F.Run term) number = Runs (term.1 number)
  item_coded (Item-F.Let locals rest term) number =
      Binds (letting (map (λ local. place_of layout local.0) locals)
      (option_map (place_of layout) rest) (term.1 number))
  item_coded (Item-F.LetMethods methods) number =
      Binds (local_methods (methods_from layout methods number))
  item_coded (Item-F.Handler type function) number = Handles type (function.1 number)

  abbrev pub term_coded : Term-F (Numbered ForClause Clause) (Numbered Item Part)
      (Numbered Term Code) (Numbered BlockRow Code) (Numbered ForRow Code) (Lambda × Unit {0}) → ℕ
      → Code
  term_coded (Term-F.Lit value) number = one (Const value)
  term_coded (Term-F.Local local) number = read (place_of layout local)
  term_coded (Term-F.Global binding) number = one (Global binding)
  term_coded (Term-F.ClassName class) number = one (Global (class_named class))
  term_coded (Term-F.GenericName generic) number = one (Global (generic_named generic))
  term_coded (Term-F.SetLocal local term) number =
      assigning (place_of layout local) (term.1 number)
  term_coded (Term-F.SetGlobal binding term) number = term.1 number ++ one (SetGlobal binding)
  term_coded (Term-F.Call function terms) number =
      calling (function_named function.0) (function.1 number)
      (terms_from terms (behind function number))
  term_coded (Term-F.Site generic terms) number =
      with_arguments (terms_from terms number) (Search generic (length terms))
  term_coded (Term-F.Cond branches other) number =
      branching (branches_from branches number) (other.1 (behind_branches branches number))
  term_coded (Term-F.And left right) number = both (left.1 number) (right.1 (behind left number))
  term_coded (Term-F.Or left right) number = either (left.1 number) (right.1 (behind left number))
  term_coded (Term-F.Select value test arms last) number =
      select (value.1 number) (held_from test (behind value number))
      (arms_from arms (behind_held test (behind value number)))
      (held_from last (behind_arms arms (behind_held test (behind value number))))
  term_coded (Term-F.Body items) number = body (items_from items number)
  term_coded (Term-F.Loop test inner) number = loop (test.1 number) (inner.1 (behind test number))
  term_coded (Term-F.For row) number = row.1 number
  term_coded (Term-F.Method lambda) number =
      closing number (map (place_of layout) (captured_by lambda.0))
  term_coded (Term-F.Block row) number = row.1 number
  term_coded (Term-F.Op operation terms) number =
      with_arguments (terms_from terms number) (Op operation (length terms))
  term_coded (Term-F.Next terms) number = not_yet

  abbrev pub block_coded : BlockRow-F (Numbered ForClause Clause) (Numbered Item Part)
      (Numbered Term Code) (Numbered BlockRow Code) (Numbered ForRow Code) (Lambda × Unit {0}) → ℕ
      → Code
  block_coded row number = not_yet

  abbrev pub for_coded : ForRow-F (Numbered ForClause Clause) (Numbered Item Part)
      (Numbered Term Code) (Numbered BlockRow Code) (Numbered ForRow Code) (Lambda × Unit {0}) → ℕ
      → Code
  for_coded row number =
      let test = behind_clauses row.clauses number in
      let inner = behind_second row.test test in
      for_loop (clauses_from row.clauses number) (second_from row.test test) (row.body.1 inner)
      (held_from row.finally (behind row.body inner))

  -- A closure's body is a body of its own.
  abbrev pub lambda_coded : Lambda-F (Numbered ForClause Clause) (Numbered Item Part)
      (Numbered Term Code) (Numbered BlockRow Code) (Numbered ForRow Code) (Lambda × Unit {0})
      → Unit {0}
  lambda_coded row = tt

  abbrev pub code_of : Term → ℕ → Code
  code_of = para-Term (ℕ → Clause) (ℕ → Part) (ℕ → Code) (ℕ → Code) (ℕ → Code) (Unit {0})
      clause_coded item_coded term_coded block_coded for_coded lambda_coded

  abbrev pub item_code : Item → ℕ → Part
  item_code = para-Item (ℕ → Clause) (ℕ → Part) (ℕ → Code) (ℕ → Code) (ℕ → Code) (Unit {0})
      clause_coded item_coded term_coded block_coded for_coded lambda_coded

  abbrev pub clause_code : ForClause → ℕ → Clause
  clause_code = para-ForClause (ℕ → Clause) (ℕ → Part) (ℕ → Code) (ℕ → Code) (ℕ → Code) (Unit {0})
      clause_coded item_coded term_coded block_coded for_coded lambda_coded

  abbrev pub block_code : BlockRow → ℕ → Code
  block_code = para-BlockRow (ℕ → Clause) (ℕ → Part) (ℕ → Code) (ℕ → Code) (ℕ → Code) (Unit {0})
      clause_coded item_coded term_coded block_coded for_coded lambda_coded

  abbrev pub for_code : ForRow → ℕ → Code
  for_code = para-ForRow (ℕ → Clause) (ℕ → Part) (ℕ → Code) (ℕ → Code) (ℕ → Code) (Unit {0})
      clause_coded item_coded term_coded block_coded for_coded lambda_coded

  abbrev pub lambda_code : Lambda → Unit {0}
  lambda_code = para-Lambda (ℕ → Clause) (ℕ → Part) (ℕ → Code) (ℕ → Code) (ℕ → Code) (Unit {0})
      clause_coded item_coded term_coded block_coded for_coded lambda_coded
