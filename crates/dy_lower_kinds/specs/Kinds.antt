-- Which terms are of kinds that have code, and of which each part is. A block, a next method and a
-- walk over a collection have none yet, nor have defaults of keywords; that of a handler is not yet
-- known to do what it means.
use Rattle.std.specs.Prelude.{Bool, true, false, ◌&&◌, map}
use Rattle.std.specs.List.{list_all}
use Rattle.std.specs.declared.option.Option.{Option}
use Rattle.std.specs.declared.option.Option.TheVariants.{None, Some}
use Rattle.dy_term.specs.declared.term.ForClause.{ForClause, ForClause-F, fold-ForClause}
use Rattle.dy_term.specs.declared.term.Item.{Item, Item-F, fold-Item}
use Rattle.dy_term.specs.declared.term.Term.{Term, Term-F, fold-Term}
use Rattle.dy_term.specs.declared.term.BlockRow.{BlockRow, BlockRow-F, fold-BlockRow}
use Rattle.dy_term.specs.declared.term.ForRow.{ForRow, ForRow-F, fold-ForRow}
use Rattle.dy_term.specs.declared.term.Lambda.{Lambda, Lambda-F, fold-Lambda}
use Rattle.dy_term.specs.declared.rows.Init.{Init}
use Rattle.dy_term.specs.declared.rows.Init.TheVariants.{Each, Calling}
use Rattle.dy_term.specs.declared.rows.ClassRow.{ClassRow}
use Rattle.dy_term.specs.declared.rows.MethodCode.{MethodCode}
use Rattle.dy_term.specs.declared.rows.MethodCode.TheVariants.{Dylan}
use Rattle.dy_term.specs.declared.rows.TopTerm.{TopTerm}
use Rattle.dy_term.specs.declared.rows.TopTerm.TheVariants as tops
use Rattle.dy_term.specs.declared.rows.LibraryRow.{LibraryRow}
use Rattle.dy_lowered.specs.Readiness.{all_ready, held_ready}
use Rattle.dy_lowering_law.specs.Ready.{is_empty}
use Rattle.dy_lowering_whole.specs.Lowered.{second_lowered}

abbrev pub clause_kind : ForClause-F Bool Bool Bool Bool Bool Bool → Bool
clause_kind (ForClause-F.Then local type start next) = start && next
clause_kind (ForClause-F.In local type collection) = false
clause_kind (ForClause-F.From local type start limit step) =
    start && (second_lowered limit && held_ready step)

abbrev pub item_kind : Item-F Bool Bool Bool Bool Bool Bool → Bool
item_kind (Item-F.Run term) = term
item_kind (Item-F.Let locals rest term) = term
item_kind (Item-F.LetMethods methods) = all_ready (map (λ method. method.1) methods)
item_kind (Item-F.Handler type function) = false

abbrev pub term_kind : Term-F Bool Bool Bool Bool Bool Bool → Bool
term_kind (Term-F.Lit value) = true
term_kind (Term-F.Local local) = true
term_kind (Term-F.Global binding) = true
term_kind (Term-F.ClassName class) = true
term_kind (Term-F.GenericName generic) = true
term_kind (Term-F.SetLocal local term) = term
term_kind (Term-F.SetGlobal binding term) = term
term_kind (Term-F.Call function terms) = function && all_ready terms
term_kind (Term-F.Site generic terms) = all_ready terms
term_kind (Term-F.Cond branches other) =
    all_ready (map (λ branch. branch.0 && branch.1) branches) && other
term_kind (Term-F.And left right) = left && right
term_kind (Term-F.Or left right) = left && right
term_kind (Term-F.Select value test arms last) =
    value && (held_ready test
    && (all_ready (map (λ arm. all_ready arm.0 && arm.1) arms) && held_ready last))
term_kind (Term-F.Body items) = all_ready items
term_kind (Term-F.Loop test inner) = test && inner
term_kind (Term-F.For row) = row
term_kind (Term-F.Method lambda) = lambda
term_kind (Term-F.Op operation terms) = all_ready terms
term_kind term = false

abbrev pub block_kind : BlockRow-F Bool Bool Bool Bool Bool Bool → Bool
block_kind row = false

abbrev pub for_kind : ForRow-F Bool Bool Bool Bool Bool Bool → Bool
for_kind row =
    all_ready row.clauses && (second_lowered row.test && (row.body && held_ready row.finally))

abbrev pub lambda_kind : Lambda-F Bool Bool Bool Bool Bool Bool → Bool
lambda_kind row = is_empty row.keywords && row.body

abbrev pub has_code : Term → Bool
has_code = fold-Term Bool Bool Bool Bool Bool Bool clause_kind item_kind term_kind block_kind
    for_kind lambda_kind

abbrev pub item_has_code : Item → Bool
item_has_code = fold-Item Bool Bool Bool Bool Bool Bool clause_kind item_kind term_kind block_kind
    for_kind lambda_kind

abbrev pub clause_has_code : ForClause → Bool
clause_has_code = fold-ForClause Bool Bool Bool Bool Bool Bool clause_kind item_kind term_kind
    block_kind for_kind lambda_kind

abbrev pub block_has_code : BlockRow → Bool
block_has_code = fold-BlockRow Bool Bool Bool Bool Bool Bool clause_kind item_kind term_kind
    block_kind for_kind lambda_kind

abbrev pub for_has_code : ForRow → Bool
for_has_code = fold-ForRow Bool Bool Bool Bool Bool Bool clause_kind item_kind term_kind block_kind
    for_kind lambda_kind

abbrev pub lambda_has_code : Lambda → Bool
lambda_has_code = fold-Lambda Bool Bool Bool Bool Bool Bool clause_kind item_kind term_kind
    block_kind for_kind lambda_kind

-- of rows
abbrev pub method_has_code : MethodCode → Bool
method_has_code (Dylan lambda) = lambda_has_code lambda
method_has_code code = true

abbrev pub function_has_code : Option Lambda → Bool
function_has_code None = true
function_has_code (Some lambda) = lambda_has_code lambda

abbrev pub init_has_code : Option Init → Bool
init_has_code None = true
init_has_code (Some (Each term)) = has_code term
init_has_code (Some (Calling term)) = has_code term

abbrev pub class_has_code : ClassRow → Bool
class_has_code class = list_all (λ slot. init_has_code slot.init) class.slots

abbrev pub top_has_code : TopTerm → Bool
top_has_code (tops.Init bindings term) = has_code term
top_has_code (tops.Run term) = has_code term

-- each term of a library
abbrev pub library_has_code : LibraryRow → Bool
library_has_code library =
    list_all class_has_code library.classes
    && (list_all (λ method. method_has_code method.code) library.methods
    && (list_all (λ variable. function_has_code variable.function) library.variables
    && list_all top_has_code library.tops))
