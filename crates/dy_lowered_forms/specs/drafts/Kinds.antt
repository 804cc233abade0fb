-- Drafts of which every part is of a kind that is lowered: no `block`, no handler, no walk over a
-- collection, no keywords, no class, and nothing that names the next method; and of which each
-- literal passes a test.
use Rattle.std.specs.Prelude.{ℕ, Bool, true, false, not, ◌&&◌, List, [], ◌∷◌, codes, Option, Some}
use Rattle.std.specs.Prelude.{None, is_some}
use Rattle.dy_term.specs.declared.literal.Literal.{Literal}
use Rattle.dy_tree.specs.declared.token.Token.{Token}
use Rattle.dy_tree.specs.Spelling.{is_spelled}
use Rattle.dy_term.specs.Types.{CoreParams}
use Rattle.dy_term.specs.Drafts.{Core, literal, name, hidden, set, no_place, call, values, cond}
use Rattle.dy_term.specs.Drafts.{and, or, select, body, loop, for, method, block, Cores, no_core}
use Rattle.dy_term.specs.Drafts.{core_and, MaybeCore, nothing, just, Choice, otherwise, branch}
use Rattle.dy_term.specs.Drafts.{CoreArms, no_arm, arm_and, CoreItems, no_item, item_and, CoreItem}
use Rattle.dy_term.specs.Drafts.{run, let_values, let_methods, handler, CoreMethods, no_method}
use Rattle.dy_term.specs.Drafts.{method_and, CoreLambda, lambda, CoreClauses, no_clause, clause_and}
use Rattle.dy_term.specs.Drafts.{CoreClause, then_clause, in_clause, from_clause, CoreLimit}
use Rattle.dy_term.specs.Drafts.{no_limit, a_limit, CoreTest, no_test, a_test}
use Rattle.dy_term.specs.Rows as forms
use Rattle.dy_term.specs.Rows.{CoreDraft, class_row, generic_row, method_row, domain_row}
use Rattle.dy_term.specs.Rows.{variable_row, top_term, CoreVariable, CoreTop}

-- the name that means the next method where a method does not say another
abbrev pub names_next : Token → Bool
names_next token = is_spelled (codes "next-method") token

-- parameters without a name for the next method, and without keywords
abbrev pub takes_plainly : CoreParams → Bool
takes_plainly params =
    not (is_some params.next) && (not (is_some params.keys) && not params.all_keys)

-- the name of the next method is not written, or is the usual one
abbrev pub is_usual : Option Token → Bool
is_usual None = true
is_usual (Some token) = names_next token

module _ (fits : Literal → Bool) where
  abbrev mutual
    pub term_with : Core → Bool
    term_with (literal value) = fits value
    term_with (name token) = not (names_next token)
    term_with (hidden number) = true
    term_with (set token value) = term_with value
    term_with (no_place token place value) = term_with place && term_with value
    term_with (call function arguments) = term_with function && terms_with arguments
    term_with (values terms) = terms_with terms
    term_with (cond choice) = choice_with choice
    term_with (and left right) = term_with left && term_with right
    term_with (or left right) = term_with left && term_with right
    term_with (select value test arms last) =
        term_with value && (maybe_with test && (arms_with arms && maybe_with last))
    term_with (body items) = items_with items
    term_with (loop test inner) = term_with test && term_with inner
    term_with (for clauses test inner finally) =
        clauses_with clauses && (test_with test && (term_with inner && maybe_with finally))
    term_with (method row) = lambda_with row
    term_with (block exit inner afterwards cleanup clauses) = false

    pub terms_with : Cores → Bool
    terms_with no_core = true
    terms_with (core_and first rest) = term_with first && terms_with rest

    pub maybe_with : MaybeCore → Bool
    maybe_with nothing = true
    maybe_with (just term) = term_with term

    pub choice_with : Choice → Bool
    choice_with (otherwise term) = term_with term
    choice_with (branch test term others) =
        (term_with test && term_with term) && choice_with others

    pub arms_with : CoreArms → Bool
    arms_with no_arm = true
    arms_with (arm_and keys inner rest) =
        (terms_with keys && term_with inner) && arms_with rest

    pub items_with : CoreItems → Bool
    items_with no_item = true
    items_with (item_and first rest) = item_with first && items_with rest

    pub item_with : CoreItem → Bool
    item_with (run term) = term_with term
    item_with (let_values locals rest term) = term_with term
    item_with (let_methods methods) = methods_with methods
    item_with (handler condition function) = false

    pub methods_with : CoreMethods → Bool
    methods_with no_method = true
    methods_with (method_and token first rest) =
        lambda_with first && methods_with rest

    pub lambda_with : CoreLambda → Bool
    lambda_with (lambda params defaults inner results) = takes_plainly params && term_with inner

    pub clauses_with : CoreClauses → Bool
    clauses_with no_clause = true
    clauses_with (clause_and first rest) = clause_with first && clauses_with rest

    pub clause_with : CoreClause → Bool
    clause_with (then_clause variable declared first next) = term_with first && term_with next
    clause_with (in_clause variable declared collection) = false
    clause_with (from_clause variable declared start limit step) =
        term_with start && (limit_with limit && maybe_with step)

    pub limit_with : CoreLimit → Bool
    limit_with no_limit = true
    limit_with (a_limit limit bound) = term_with bound

    pub test_with : CoreTest → Bool
    test_with no_test = true
    test_with (a_test ends test) = term_with test

  abbrev pub variable_with : CoreVariable → Bool
  variable_with (forms.function adjectives token code) = lambda_with code
  variable_with (forms.type_constant token declared meant) = true

  abbrev pub top_with : CoreTop → Bool
  top_with (forms.init is_constant variables term) = term_with term
  top_with (forms.run term) = term_with term

  -- the same of a form; classes come later
  abbrev pub form_with : CoreDraft → Bool
  form_with (class_row class) = false
  form_with (generic_row generic) = takes_plainly generic.params
  form_with (method_row found) = is_usual found.next && lambda_with found.code
  form_with (domain_row domain) = true
  form_with (variable_row variable) = variable_with variable
  form_with (top_term top) = top_with top
