-- Which terms can stand in a body with so many locals, of those kinds that are lowered yet.
use Rattle.std.specs.Prelude.{ℕ, ◌+◌, Bool, true, false, not, ◌&&◌, ◌||◌, nat_eq, nat_lt, nat_le}
use Rattle.std.specs.Prelude.{List, [], ◌∷◌, ◌++◌, map}
use Rattle.std.specs.List.{list_all, list_any}
use Rattle.std.specs.declared.option.Option.{Option}
use Rattle.std.specs.declared.option.Option.TheVariants.{None, Some}
use Rattle.dy_base.specs.declared.ids.What.{What}
use Rattle.dy_base.specs.declared.ids.What.TheVariants as what
use Rattle.dy_term.specs.declared.types.DyType.{DyType}
use Rattle.dy_term.specs.declared.term.Item.{Item, Item-F, fold-Item}
use Rattle.dy_term.specs.declared.term.ForClause.{ForClause, ForClause-F, fold-ForClause}
use Rattle.dy_term.specs.declared.term.Term.{Term, Term-F, fold-Term}
use Rattle.dy_term.specs.declared.term.BlockRow.{BlockRow, BlockRow-F, fold-BlockRow}
use Rattle.dy_term.specs.declared.term.ForRow.{ForRow, ForRow-F, fold-ForRow}
use Rattle.dy_term.specs.declared.term.Lambda.{Lambda, Lambda-F, fold-Lambda}
use Rattle.dy_meaning.specs.Globals.{is_variable}
use Rattle.dy_lowered.specs.Words.{is_word_literal}

abbrev pub all_ready : List Bool → Bool
all_ready [] = true
all_ready (ready ∷ others) = ready && all_ready others

abbrev pub held_ready : Option Bool → Bool
held_ready None = true
held_ready (Some ready) = ready

-- a variable or a constant may be set
abbrev pub is_set : What → Bool
is_set what.Variable = true
is_set what.Constant = true
is_set kind = false

-- no two numbers are the same
abbrev pub are_distinct : List ℕ → Bool
are_distinct [] = true
are_distinct (number ∷ numbers) = not (list_any (nat_eq number) numbers) && are_distinct numbers

abbrev pub with_rest : List ℕ → Option ℕ → List ℕ
with_rest numbers None = numbers
with_rest numbers (Some rest) = numbers ++ rest ∷ []

-- The locals of the body have the numbers from the first one to below the last one. Those below are
-- captured.
module _ (first last : ℕ) where
  abbrev pub is_there : ℕ → Bool
  is_there number = nat_lt number last

  abbrev pub is_own : ℕ → Bool
  is_own number = nat_le first number && nat_lt number last

  abbrev pub are_bound : List ℕ → Bool
  are_bound numbers = list_all is_own numbers && are_distinct numbers

  abbrev pub clause_ready : ForClause-F Bool Bool Bool Bool Bool Bool → Bool
  clause_ready clause = false

  abbrev pub item_ready : Item-F Bool Bool Bool Bool Bool Bool → Bool
  item_ready (Item-F.Run term) = term
  item_ready (Item-F.Let locals rest term) =
      are_bound (with_rest (map (λ local. local.0) locals) rest) && term
  item_ready (Item-F.LetMethods methods) = false
  item_ready (Item-F.Handler type function) = false

  abbrev pub term_ready : Term-F Bool Bool Bool Bool Bool Bool → Bool
  term_ready (Term-F.Lit value) = is_word_literal value
  term_ready (Term-F.Local local) = is_there local
  term_ready (Term-F.Global binding) = is_variable binding.what
  term_ready (Term-F.ClassName class) = true
  term_ready (Term-F.GenericName generic) = true
  term_ready (Term-F.SetLocal local term) = is_there local && term
  term_ready (Term-F.SetGlobal binding term) = is_set binding.what && term
  term_ready (Term-F.Call function terms) = function && all_ready terms
  term_ready (Term-F.Site generic terms) = all_ready terms
  term_ready (Term-F.Cond branches other) =
      all_ready (map (λ branch. branch.0 && branch.1) branches) && other
  term_ready (Term-F.And left right) = left && right
  term_ready (Term-F.Or left right) = left && right
  term_ready (Term-F.Select value test arms last) =
      value && (held_ready test
      && (all_ready (map (λ arm. all_ready arm.0 && arm.1) arms) && held_ready last))
  term_ready (Term-F.Body items) = all_ready items
  term_ready (Term-F.Op operation terms) = all_ready terms
  term_ready term = false

  abbrev pub block_ready : BlockRow-F Bool Bool Bool Bool Bool Bool → Bool
  block_ready row = false

  abbrev pub for_ready : ForRow-F Bool Bool Bool Bool Bool Bool → Bool
  for_ready row = false

  abbrev pub lambda_ready : Lambda-F Bool Bool Bool Bool Bool Bool → Bool
  lambda_ready row = false

  abbrev pub is_ready : Term → Bool
  is_ready = fold-Term Bool Bool Bool Bool Bool Bool clause_ready item_ready term_ready
      block_ready for_ready lambda_ready

  abbrev pub is_item_ready : Item → Bool
  is_item_ready = fold-Item Bool Bool Bool Bool Bool Bool clause_ready item_ready term_ready
      block_ready for_ready lambda_ready
