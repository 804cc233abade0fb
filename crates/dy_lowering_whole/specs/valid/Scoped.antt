-- Programs in which each term names what its body has.
use Rattle.std.specs.Prelude.{◌≡◌, ℕ, ◌+◌, Bool, true, ◌&&◌, nat_lt, nat_le, List, [], ◌∷◌}
use Rattle.std.specs.Prelude.{map}
use Rattle.std.specs.List.{list_all}
use Rattle.std.specs.declared.option.Option.{Option}
use Rattle.std.specs.declared.option.Option.TheVariants.{None, Some}
use Rattle.dy_term.specs.declared.types.DyType.{DyType}
use Rattle.dy_term.specs.declared.term.ForClause.{ForClause, ForClause-F, fold-ForClause}
use Rattle.dy_term.specs.declared.term.Item.{Item, Item-F, fold-Item}
use Rattle.dy_term.specs.declared.term.Term.{Term, Term-F, fold-Term}
use Rattle.dy_term.specs.declared.term.BlockRow.{BlockRow, BlockRow-F, fold-BlockRow}
use Rattle.dy_term.specs.declared.term.ForRow.{ForRow, ForRow-F, fold-ForRow}
use Rattle.dy_term.specs.declared.term.Lambda.{Lambda, Lambda-F, fold-Lambda}
use Rattle.dy_term.specs.declared.rows.Init.{Init}
use Rattle.dy_term.specs.declared.rows.Init.TheVariants.{Each, Calling}
use Rattle.dy_term.specs.declared.rows.MethodCode.{MethodCode}
use Rattle.dy_term.specs.declared.rows.MethodCode.TheVariants.{Dylan}
use Rattle.dy_term.specs.declared.rows.TopTerm.{TopTerm}
use Rattle.dy_term.specs.declared.rows.TopTerm.TheVariants as tops
use Rattle.dy_term.specs.declared.rows.LibraryRow.{LibraryRow}
use Rattle.dy_term.specs.declared.rows.Program.{Program}
use Rattle.dy_code.specs.Fetching.{locals_of}
use Rattle.dy_meaning.specs.Globals.{is_variable}
use Rattle.dy_meaning.specs.Numbers.{numbers_in}
use Rattle.dy_lowered.specs.Bodies.{all_slots}
use Rattle.dy_lowered.specs.Readiness.{is_own, is_set, with_rest}

-- The locals of a body have the numbers from the first one to below the last one; those below are
-- captured. A term is in scope there where it binds locals of the body alone, and names such and
-- captured ones.
abbrev pub Scoping : Type 0
Scoping = (first last : ℕ) → Bool

abbrev pub all_scoped : List Scoping → Scoping
all_scoped [] first last = true
all_scoped (part ∷ parts) first last = part first last && all_scoped parts first last

abbrev pub held_scoped : Option Scoping → Scoping
held_scoped None first last = true
held_scoped (Some part) first last = part first last

abbrev pub second_scoped : {A : Type 0} → Option (A × Scoping) → Scoping
second_scoped None first last = true
second_scoped (Some pair) first last = pair.1 first last

abbrev pub given_scoped : Option (List Scoping) → Scoping
given_scoped None first last = true
given_scoped (Some parts) first last = all_scoped parts first last

abbrev pub pairs_scoped : List (Scoping × Scoping) → Scoping
pairs_scoped [] first last = true
pairs_scoped (pair ∷ pairs) first last =
    (pair.0 first last && pair.1 first last) && pairs_scoped pairs first last

abbrev pub arms_scoped : List (List Scoping × Scoping) → Scoping
arms_scoped [] first last = true
arms_scoped (arm ∷ arms) first last =
    (all_scoped arm.0 first last && arm.1 first last) && arms_scoped arms first last

abbrev pub typed_scoped : List (DyType × Scoping) → Scoping
typed_scoped [] first last = true
typed_scoped (pair ∷ pairs) first last = pair.1 first last && typed_scoped pairs first last

abbrev pub clauses_scoped : List (Option ℕ × DyType × Scoping) → Scoping
clauses_scoped [] first last = true
clauses_scoped (clause ∷ clauses) first last =
    clause.2 first last && clauses_scoped clauses first last

-- local methods
abbrev pub methods_scoped : List (ℕ × Scoping) → Scoping
methods_scoped [] first last = true
methods_scoped (method ∷ methods) first last =
    (is_own first last method.0 && method.1 first last) && methods_scoped methods first last

abbrev pub are_own : List ℕ → Scoping
are_own numbers first last = list_all (is_own first last) numbers

abbrev pub clause_scoped : ForClause-F Scoping Scoping Scoping Scoping Scoping Scoping → Scoping
clause_scoped (ForClause-F.Then local type start next) first last =
    is_own first last local && (start first last && next first last)
clause_scoped (ForClause-F.In local type collection) first last =
    is_own first last local && collection first last
clause_scoped (ForClause-F.From local type start limit step) first last =
    is_own first last local &&
    (start first last && (second_scoped limit first last && held_scoped step first last))

abbrev pub item_scoped : Item-F Scoping Scoping Scoping Scoping Scoping Scoping → Scoping
item_scoped (Item-F.Run term) first last = term first last
item_scoped (Item-F.Let locals rest term) first last =
    are_own (with_rest (map (λ local. local.0) locals) rest) first last && term first last
item_scoped (Item-F.LetMethods methods) first last = methods_scoped methods first last
item_scoped (Item-F.Handler type function) first last = function first last

abbrev pub term_scoped : Term-F Scoping Scoping Scoping Scoping Scoping Scoping → Scoping
term_scoped (Term-F.Lit value) first last = true
term_scoped (Term-F.Local local) first last = nat_lt local last
term_scoped (Term-F.Global binding) first last = is_variable binding.what
term_scoped (Term-F.ClassName class) first last = true
term_scoped (Term-F.GenericName generic) first last = true
term_scoped (Term-F.SetLocal local term) first last = nat_lt local last && term first last
term_scoped (Term-F.SetGlobal binding term) first last = is_set binding.what && term first last
term_scoped (Term-F.Call function terms) first last =
    function first last && all_scoped terms first last
term_scoped (Term-F.Site generic terms) first last = all_scoped terms first last
term_scoped (Term-F.Cond branches other) first last =
    pairs_scoped branches first last && other first last
term_scoped (Term-F.And left right) first last = left first last && right first last
term_scoped (Term-F.Or left right) first last = left first last && right first last
term_scoped (Term-F.Select value test arms other) first last =
    value first last && (held_scoped test first last
    && (arms_scoped arms first last && held_scoped other first last))
term_scoped (Term-F.Body items) first last = all_scoped items first last
term_scoped (Term-F.Loop test inner) first last = test first last && inner first last
term_scoped (Term-F.For row) first last = row first last
term_scoped (Term-F.Method lambda) first last = lambda first last
term_scoped (Term-F.Block row) first last = row first last
term_scoped (Term-F.Op operation terms) first last = all_scoped terms first last
term_scoped (Term-F.Next terms) first last = given_scoped terms first last

abbrev pub block_scoped : BlockRow-F Scoping Scoping Scoping Scoping Scoping Scoping → Scoping
block_scoped row first last =
    row.body first last && (held_scoped row.afterwards first last
    && (held_scoped row.cleanup first last && clauses_scoped row.clauses first last))

abbrev pub for_scoped : ForRow-F Scoping Scoping Scoping Scoping Scoping Scoping → Scoping
for_scoped row first last =
    all_scoped row.clauses first last && (second_scoped row.test first last
    && (row.body first last && held_scoped row.finally first last))

-- A lambda has a body of its own, with room for its arguments. What it names of the locals around
-- it has numbers below its first one, which is not past the last of those.
abbrev pub lambda_scoped : Lambda-F Scoping Scoping Scoping Scoping Scoping Scoping → Scoping
lambda_scoped row first last =
    nat_le row.first last && (nat_le (row.first + locals_of row.params) row.locals
    && (typed_scoped row.keywords row.first row.locals && row.body row.first row.locals))

abbrev pub is_clause_scoped : ForClause → Scoping
is_clause_scoped = fold-ForClause Scoping Scoping Scoping Scoping Scoping Scoping clause_scoped
    item_scoped term_scoped block_scoped for_scoped lambda_scoped

abbrev pub is_item_scoped : Item → Scoping
is_item_scoped = fold-Item Scoping Scoping Scoping Scoping Scoping Scoping clause_scoped
    item_scoped term_scoped block_scoped for_scoped lambda_scoped

abbrev pub is_scoped : Term → Scoping
is_scoped = fold-Term Scoping Scoping Scoping Scoping Scoping Scoping clause_scoped item_scoped
    term_scoped block_scoped for_scoped lambda_scoped

abbrev pub is_block_scoped : BlockRow → Scoping
is_block_scoped = fold-BlockRow Scoping Scoping Scoping Scoping Scoping Scoping clause_scoped
    item_scoped term_scoped block_scoped for_scoped lambda_scoped

abbrev pub is_for_scoped : ForRow → Scoping
is_for_scoped = fold-ForRow Scoping Scoping Scoping Scoping Scoping Scoping clause_scoped
    item_scoped term_scoped block_scoped for_scoped lambda_scoped

abbrev pub is_lambda_scoped : Lambda → Scoping
is_lambda_scoped = fold-Lambda Scoping Scoping Scoping Scoping Scoping Scoping clause_scoped
    item_scoped term_scoped block_scoped for_scoped lambda_scoped

-- Around a lambda of a row there are no locals.
abbrev pub is_code_scoped : MethodCode → Bool
is_code_scoped (Dylan lambda) = is_lambda_scoped lambda 0 0
is_code_scoped code = true

abbrev pub is_function_scoped : Option Lambda → Bool
is_function_scoped None = true
is_function_scoped (Some lambda) = is_lambda_scoped lambda 0 0

abbrev pub is_alone_scoped : Term → Bool
is_alone_scoped term = is_scoped term 0 (numbers_in term)

abbrev pub is_init_scoped : Option Init → Bool
is_init_scoped None = true
is_init_scoped (Some (Each term)) = is_alone_scoped term
is_init_scoped (Some (Calling term)) = is_alone_scoped term

abbrev pub is_top_scoped : TopTerm → Bool
is_top_scoped (tops.Init bindings term) = is_alone_scoped term
is_top_scoped (tops.Run term) = is_alone_scoped term

abbrev pub is_library_scoped : LibraryRow → Bool
is_library_scoped library =
    list_all (λ slot. is_init_scoped slot.init) (all_slots library)
    && (list_all (λ method. is_code_scoped method.code) library.methods
    && (list_all (λ variable. is_function_scoped variable.function) library.variables
    && list_all is_top_scoped library.tops))

abbrev pub IsScoped : Program → Type 0
IsScoped program = list_all is_library_scoped program.libraries ≡ true
