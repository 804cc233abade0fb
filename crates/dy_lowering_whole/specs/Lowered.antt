-- Which terms are lowered yet, by their kinds; and that numbers have 64 bits. That they are in
-- scope is told apart.
use Rattle.std.specs.Prelude.{◌≡◌, Bool, true, false, ◌&&◌, map}
use Rattle.std.specs.List.{list_all}
use Rattle.std.specs.declared.option.Option.{Option}
use Rattle.std.specs.declared.option.Option.TheVariants.{None, Some}
use Rattle.dy_term.specs.declared.term.ForClause.{ForClause-F}
use Rattle.dy_term.specs.declared.term.Item.{Item, Item-F, fold-Item}
use Rattle.dy_term.specs.declared.term.Term.{Term, Term-F, fold-Term}
use Rattle.dy_term.specs.declared.term.BlockRow.{BlockRow-F}
use Rattle.dy_term.specs.declared.term.ForRow.{ForRow-F}
use Rattle.dy_term.specs.declared.term.Lambda.{Lambda, Lambda-F, fold-Lambda}
use Rattle.dy_term.specs.declared.rows.ClassRow.{ClassRow}
use Rattle.dy_term.specs.declared.rows.MethodCode.{MethodCode}
use Rattle.dy_term.specs.declared.rows.MethodCode.TheVariants.{Dylan}
use Rattle.dy_term.specs.declared.rows.TopTerm.{TopTerm}
use Rattle.dy_term.specs.declared.rows.TopTerm.TheVariants as tops
use Rattle.dy_term.specs.declared.rows.LibraryRow.{LibraryRow}
use Rattle.dy_term.specs.declared.rows.Program.{Program}
use Rattle.dy_lowered.specs.Readiness.{all_ready, held_ready, are_distinct, with_rest}
use Rattle.dy_lowered.specs.Words.{is_word_literal}
use Rattle.dy_lowering_law.specs.Ready.{has_no_keywords, generic_ready, is_empty}

abbrev pub second_lowered : {A : Type 0} → Option (A × Bool) → Bool
second_lowered None = true
second_lowered (Some pair) = pair.1

-- Walks over collections come later.
abbrev pub clause_lowered : ForClause-F Bool Bool Bool Bool Bool Bool → Bool
clause_lowered (ForClause-F.Then local type start next) = start && next
clause_lowered (ForClause-F.In local type collection) = false
clause_lowered (ForClause-F.From local type start limit step) =
    start && (second_lowered limit && held_ready step)

-- No local is bound twice in one `let`.
abbrev pub item_lowered : Item-F Bool Bool Bool Bool Bool Bool → Bool
item_lowered (Item-F.Run term) = term
item_lowered (Item-F.Let locals rest term) =
    are_distinct (with_rest (map (λ local. local.0) locals) rest) && term
item_lowered (Item-F.LetMethods methods) = all_ready (map (λ method. method.1) methods)
item_lowered (Item-F.Handler type function) = false

abbrev pub term_lowered : Term-F Bool Bool Bool Bool Bool Bool → Bool
term_lowered (Term-F.Lit value) = is_word_literal value
term_lowered (Term-F.Local local) = true
term_lowered (Term-F.Global binding) = true
term_lowered (Term-F.ClassName class) = true
term_lowered (Term-F.GenericName generic) = true
term_lowered (Term-F.SetLocal local term) = term
term_lowered (Term-F.SetGlobal binding term) = term
term_lowered (Term-F.Call function terms) = function && all_ready terms
term_lowered (Term-F.Site generic terms) = all_ready terms
term_lowered (Term-F.Cond branches other) =
    all_ready (map (λ branch. branch.0 && branch.1) branches) && other
term_lowered (Term-F.And left right) = left && right
term_lowered (Term-F.Or left right) = left && right
term_lowered (Term-F.Select value test arms last) =
    value && (held_ready test
    && (all_ready (map (λ arm. all_ready arm.0 && arm.1) arms) && held_ready last))
term_lowered (Term-F.Body items) = all_ready items
term_lowered (Term-F.Loop test inner) = test && inner
term_lowered (Term-F.For row) = row
term_lowered (Term-F.Method lambda) = lambda
term_lowered (Term-F.Op operation terms) = all_ready terms
term_lowered term = false

abbrev pub block_lowered : BlockRow-F Bool Bool Bool Bool Bool Bool → Bool
block_lowered row = false

abbrev pub for_lowered : ForRow-F Bool Bool Bool Bool Bool Bool → Bool
for_lowered row =
    all_ready row.clauses && (second_lowered row.test && (row.body && held_ready row.finally))

-- Keywords come later.
abbrev pub lambda_lowered : Lambda-F Bool Bool Bool Bool Bool Bool → Bool
lambda_lowered row = has_no_keywords row.params && (is_empty row.keywords && row.body)

abbrev pub is_lowered : Term → Bool
is_lowered = fold-Term Bool Bool Bool Bool Bool Bool clause_lowered item_lowered term_lowered
    block_lowered for_lowered lambda_lowered

abbrev pub is_item_lowered : Item → Bool
is_item_lowered = fold-Item Bool Bool Bool Bool Bool Bool clause_lowered item_lowered
    term_lowered block_lowered for_lowered lambda_lowered

abbrev pub is_lambda_lowered : Lambda → Bool
is_lambda_lowered = fold-Lambda Bool Bool Bool Bool Bool Bool clause_lowered item_lowered
    term_lowered block_lowered for_lowered lambda_lowered

abbrev pub is_code_lowered : MethodCode → Bool
is_code_lowered (Dylan lambda) = is_lambda_lowered lambda
is_code_lowered code = true

abbrev pub is_function_lowered : Option Lambda → Bool
is_function_lowered None = true
is_function_lowered (Some lambda) = is_lambda_lowered lambda

abbrev pub is_top_lowered : TopTerm → Bool
is_top_lowered (tops.Init bindings term) = is_lowered term
is_top_lowered (tops.Run term) = is_lowered term

-- Slots come later.
abbrev pub has_no_slots : ClassRow → Bool
has_no_slots class = is_empty class.slots

abbrev pub is_library_lowered : LibraryRow → Bool
is_library_lowered library =
    list_all has_no_slots library.classes && (list_all generic_ready library.generics
    && (list_all (λ method. is_code_lowered method.code) library.methods
    && (list_all (λ variable. is_function_lowered variable.function) library.variables
    && list_all is_top_lowered library.tops)))

abbrev pub IsLowered : Program → Type 0
IsLowered program = list_all is_library_lowered program.libraries ≡ true
