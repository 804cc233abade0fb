-- How large terms are, by their nodes: each term, each part of a body, each clause, each lambda, and
-- each local that one of these binds.
use Rattle.std.specs.Prelude.{ℕ, ◌+◌, Bool, true, false, List, [], ◌∷◌, length, map}
use Rattle.std.specs.declared.option.Option.{Option}
use Rattle.std.specs.declared.option.Option.TheVariants.{None, Some}
use Rattle.dy_term.specs.declared.types.Params.{Params}
use Rattle.dy_term.specs.declared.term.ForClause.{ForClause, ForClause-F, fold-ForClause}
use Rattle.dy_term.specs.declared.term.Item.{Item, Item-F, fold-Item}
use Rattle.dy_term.specs.declared.term.Term.{Term, Term-F, fold-Term}
use Rattle.dy_term.specs.declared.term.BlockRow.{BlockRow, BlockRow-F, fold-BlockRow}
use Rattle.dy_term.specs.declared.term.ForRow.{ForRow, ForRow-F, fold-ForRow}
use Rattle.dy_term.specs.declared.term.Lambda.{Lambda, Lambda-F, fold-Lambda}
use Rattle.dy_term.specs.declared.rows.Init.{Init}
use Rattle.dy_term.specs.declared.rows.Init.TheVariants.{Each, Calling}
use Rattle.dy_term.specs.declared.rows.MethodCode.{MethodCode}
use Rattle.dy_term.specs.declared.rows.MethodCode.TheVariants.{Dylan}
use Rattle.dy_term.specs.declared.rows.TopTerm.{TopTerm}
use Rattle.dy_term.specs.declared.rows.TopTerm.TheVariants as tops
use Rattle.dy_term.specs.declared.rows.LibraryRow.{LibraryRow}
use Rattle.dy_lowered.specs.Bodies.{all_slots}

abbrev pub total : List ℕ → ℕ
total [] = 0
total (count ∷ counts) = count + total counts

abbrev pub held : Option ℕ → ℕ
held None = 0
held (Some count) = count

abbrev pub second : {A : Type 0} → Option (A × ℕ) → ℕ
second None = 0
second (Some pair) = pair.1

abbrev pub given : Option (List ℕ) → ℕ
given None = 0
given (Some counts) = total counts

-- a local, if one is bound
abbrev pub one_if : Bool → ℕ
one_if true = 1
one_if false = 0

abbrev pub one_in : Option ℕ → ℕ
one_in None = 0
one_in (Some local) = 1

abbrev pub clause_nodes : ForClause-F ℕ ℕ ℕ ℕ ℕ ℕ → ℕ
clause_nodes (ForClause-F.Then local type start next) = 1 + (start + next)
clause_nodes (ForClause-F.In local type collection) = 1 + collection
clause_nodes (ForClause-F.From local type start limit step) =
    1 + (start + (second limit + held step))

abbrev pub item_nodes : Item-F ℕ ℕ ℕ ℕ ℕ ℕ → ℕ
item_nodes (Item-F.Run term) = 1 + term
item_nodes (Item-F.Let locals rest term) = 1 + (length locals + (one_in rest + term))
item_nodes (Item-F.LetMethods methods) = 1 + total (map (λ method. 1 + method.1) methods)
item_nodes (Item-F.Handler type function) = 1 + function

abbrev pub term_nodes : Term-F ℕ ℕ ℕ ℕ ℕ ℕ → ℕ
term_nodes (Term-F.SetLocal local term) = 1 + term
term_nodes (Term-F.SetGlobal binding term) = 1 + term
term_nodes (Term-F.Call function terms) = 1 + (function + total terms)
term_nodes (Term-F.Site generic terms) = 1 + total terms
term_nodes (Term-F.Cond branches other) =
    1 + (total (map (λ branch. branch.0 + branch.1) branches) + other)
term_nodes (Term-F.And left right) = 1 + (left + right)
term_nodes (Term-F.Or left right) = 1 + (left + right)
term_nodes (Term-F.Select value test arms last) =
    1 + (value + (held test + (total (map (λ arm. total arm.0 + arm.1) arms) + held last)))
term_nodes (Term-F.Body items) = 1 + total items
term_nodes (Term-F.Loop test inner) = 1 + (test + inner)
term_nodes (Term-F.For row) = row
term_nodes (Term-F.Method lambda) = lambda
term_nodes (Term-F.Block row) = row
term_nodes (Term-F.Op operation terms) = 1 + total terms
term_nodes (Term-F.Next terms) = 1 + given terms
term_nodes term = 1

abbrev pub block_nodes : BlockRow-F ℕ ℕ ℕ ℕ ℕ ℕ → ℕ
block_nodes row =
    1 + (row.body + (held row.afterwards + (held row.cleanup
    + total (map (λ clause. 1 + clause.2) row.clauses))))

abbrev pub for_nodes : ForRow-F ℕ ℕ ℕ ℕ ℕ ℕ → ℕ
for_nodes row = 1 + (total row.clauses + (second row.test + (row.body + held row.finally)))

-- the locals that parameters become, but those of keywords
abbrev pub parameter_nodes : Params → ℕ
parameter_nodes params = length params.required + one_if params.rest

abbrev pub lambda_nodes : Lambda-F ℕ ℕ ℕ ℕ ℕ ℕ → ℕ
lambda_nodes row =
    1 + (parameter_nodes row.params + (total (map (λ keyword. 1 + keyword.1) row.keywords)
    + row.body))

abbrev pub nodes_of_clause : ForClause → ℕ
nodes_of_clause = fold-ForClause ℕ ℕ ℕ ℕ ℕ ℕ clause_nodes item_nodes term_nodes block_nodes
    for_nodes lambda_nodes

abbrev pub nodes_of_item : Item → ℕ
nodes_of_item = fold-Item ℕ ℕ ℕ ℕ ℕ ℕ clause_nodes item_nodes term_nodes block_nodes for_nodes
    lambda_nodes

abbrev pub nodes_of : Term → ℕ
nodes_of = fold-Term ℕ ℕ ℕ ℕ ℕ ℕ clause_nodes item_nodes term_nodes block_nodes for_nodes
    lambda_nodes

abbrev pub nodes_of_block : BlockRow → ℕ
nodes_of_block = fold-BlockRow ℕ ℕ ℕ ℕ ℕ ℕ clause_nodes item_nodes term_nodes block_nodes
    for_nodes lambda_nodes

abbrev pub nodes_of_for : ForRow → ℕ
nodes_of_for = fold-ForRow ℕ ℕ ℕ ℕ ℕ ℕ clause_nodes item_nodes term_nodes block_nodes for_nodes
    lambda_nodes

abbrev pub nodes_of_lambda : Lambda → ℕ
nodes_of_lambda = fold-Lambda ℕ ℕ ℕ ℕ ℕ ℕ clause_nodes item_nodes term_nodes block_nodes
    for_nodes lambda_nodes

-- of rows
abbrev pub nodes_of_code : MethodCode → ℕ
nodes_of_code (Dylan lambda) = nodes_of_lambda lambda
nodes_of_code code = 0

abbrev pub nodes_of_function : Option Lambda → ℕ
nodes_of_function None = 0
nodes_of_function (Some lambda) = nodes_of_lambda lambda

abbrev pub nodes_of_init : Option Init → ℕ
nodes_of_init None = 0
nodes_of_init (Some (Each term)) = nodes_of term
nodes_of_init (Some (Calling term)) = nodes_of term

abbrev pub nodes_of_top : TopTerm → ℕ
nodes_of_top (tops.Init bindings term) = nodes_of term
nodes_of_top (tops.Run term) = nodes_of term

-- all nodes of a library
abbrev pub nodes_of_library : LibraryRow → ℕ
nodes_of_library library =
    total (map (λ method. nodes_of_code method.code) library.methods)
    + (total (map (λ variable. nodes_of_function variable.function) library.variables)
    + (total (map (λ slot. nodes_of_init slot.init) (all_slots library))
    + total (map nodes_of_top library.tops)))
