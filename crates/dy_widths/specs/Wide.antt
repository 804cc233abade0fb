-- Lambdas with more than eight required parameters, wherever they stand in a term.
use Rattle.std.specs.Prelude.{ℕ, Bool, false, List, [], ◌∷◌, length, Option, Some, None, nat_lt}
use Rattle.std.specs.Prelude.{◌||◌}
use Rattle.dy_term.specs.declared.term.ForClause.{ForClause, ForClause-F, fold-ForClause}
use Rattle.dy_term.specs.declared.term.Item.{Item, Item-F, fold-Item}
use Rattle.dy_term.specs.declared.term.Term.{Term, Term-F, fold-Term}
use Rattle.dy_term.specs.declared.term.BlockRow.{BlockRow, BlockRow-F, fold-BlockRow}
use Rattle.dy_term.specs.declared.term.ForRow.{ForRow, ForRow-F, fold-ForRow}
use Rattle.dy_term.specs.declared.term.Lambda.{Lambda, Lambda-F, fold-Lambda}
use Rattle.dy_term.specs.declared.types.DyType.{DyType}
use Rattle.dy_term.specs.declared.types.Params.{Params}

abbrev pub parameter_limit : ℕ
parameter_limit = 8

-- more required parameters than the limit
abbrev pub are_many : Params → Bool
are_many params = nat_lt parameter_limit (length params.required)

abbrev pub any_of : List Bool → Bool
any_of [] = false
any_of (b ∷ bs) = b || any_of bs

abbrev pub some_of : Option Bool → Bool
some_of None = false
some_of (Some b) = b

abbrev pub any_branch : List (Bool × Bool) → Bool
any_branch [] = false
any_branch (b ∷ bs) = b.0 || (b.1 || any_branch bs)

abbrev pub any_arm : List (List Bool × Bool) → Bool
any_arm [] = false
any_arm (a ∷ others) = any_of a.0 || (a.1 || any_arm others)

abbrev pub any_behind : {A : Type 0} → List (A × Bool) → Bool
any_behind [] = false
any_behind (d ∷ ds) = d.1 || any_behind ds

abbrev pub some_behind : {A : Type 0} → Option (A × Bool) → Bool
some_behind None = false
some_behind (Some d) = d.1

abbrev pub any_clause : List (Option ℕ × DyType × Bool) → Bool
any_clause [] = false
any_clause (c ∷ cs) = c.2 || any_clause cs

abbrev pub some_list : Option (List Bool) → Bool
some_list None = false
some_list (Some bs) = any_of bs

abbrev pub clause_wide : ForClause-F Bool Bool Bool Bool Bool Bool → Bool
clause_wide (ForClause-F.Then number declared first next) = first || next
clause_wide (ForClause-F.In number declared collection) = collection
clause_wide (ForClause-F.From number declared start limit step) =
    start || (some_behind limit || some_of step)

abbrev pub item_wide : Item-F Bool Bool Bool Bool Bool Bool → Bool
item_wide (Item-F.Run term) = term
item_wide (Item-F.Let numbers rest term) = term
item_wide (Item-F.LetMethods methods) = any_behind methods
item_wide (Item-F.Handler condition function) = function

abbrev pub term_wide : Term-F Bool Bool Bool Bool Bool Bool → Bool
term_wide (Term-F.Lit value) = false
term_wide (Term-F.Local number) = false
term_wide (Term-F.Global binding) = false
term_wide (Term-F.ClassName class) = false
term_wide (Term-F.GenericName generic) = false
term_wide (Term-F.SetLocal number value) = value
term_wide (Term-F.SetGlobal binding value) = value
term_wide (Term-F.Call function arguments) = function || any_of arguments
term_wide (Term-F.Site generic arguments) = any_of arguments
term_wide (Term-F.Cond branches last) = any_branch branches || last
term_wide (Term-F.And left right) = left || right
term_wide (Term-F.Or left right) = left || right
term_wide (Term-F.Select value test arms last) =
    value || (some_of test || (any_arm arms || some_of last))
term_wide (Term-F.Body items) = any_of items
term_wide (Term-F.Loop test body) = test || body
term_wide (Term-F.For row) = row
term_wide (Term-F.Method lambda) = lambda
term_wide (Term-F.Block row) = row
term_wide (Term-F.Op operation arguments) = any_of arguments
term_wide (Term-F.Next arguments) = some_list arguments

abbrev pub block_wide : BlockRow-F Bool Bool Bool Bool Bool Bool → Bool
block_wide row = row.body
    || (some_of row.afterwards || (some_of row.cleanup || any_clause row.clauses))

abbrev pub for_wide : ForRow-F Bool Bool Bool Bool Bool Bool → Bool
for_wide row = any_of row.clauses || (some_behind row.test || (row.body || some_of row.finally))

abbrev pub lambda_wide : Lambda-F Bool Bool Bool Bool Bool Bool → Bool
lambda_wide lambda = are_many lambda.params || (any_behind lambda.keywords || lambda.body)

-- whether a clause, an item, a term and so on has such a lambda inside, itself included
abbrev pub is_wide_clause : ForClause → Bool
is_wide_clause = fold-ForClause Bool Bool Bool Bool Bool Bool clause_wide item_wide term_wide
    block_wide for_wide lambda_wide

abbrev pub is_wide_item : Item → Bool
is_wide_item = fold-Item Bool Bool Bool Bool Bool Bool clause_wide item_wide term_wide block_wide
    for_wide lambda_wide

abbrev pub is_wide_term : Term → Bool
is_wide_term = fold-Term Bool Bool Bool Bool Bool Bool clause_wide item_wide term_wide block_wide
    for_wide lambda_wide

abbrev pub is_wide_block : BlockRow → Bool
is_wide_block = fold-BlockRow Bool Bool Bool Bool Bool Bool clause_wide item_wide term_wide
    block_wide for_wide lambda_wide

abbrev pub is_wide_for : ForRow → Bool
is_wide_for = fold-ForRow Bool Bool Bool Bool Bool Bool clause_wide item_wide term_wide block_wide
    for_wide lambda_wide

abbrev pub is_wide_lambda : Lambda → Bool
is_wide_lambda = fold-Lambda Bool Bool Bool Bool Bool Bool clause_wide item_wide term_wide
    block_wide for_wide lambda_wide
