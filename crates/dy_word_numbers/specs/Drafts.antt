-- How many integers of drafts have no 64 bits.
use Rattle.std.specs.Prelude.{ℕ, ◌+◌, Bool, true, false, List, [], ◌∷◌, Option, Some, None}
use Rattle.dy_term.specs.declared.literal.Literal.{Literal}
use Rattle.dy_term.specs.Drafts.{Core, literal, name, hidden, set, no_place, call, values, cond}
use Rattle.dy_term.specs.Drafts.{and, or, select, body, loop, for, method, block, Cores, no_core}
use Rattle.dy_term.specs.Drafts.{core_and, MaybeCore, nothing, just, Choice, otherwise, branch}
use Rattle.dy_term.specs.Drafts.{CoreArms, no_arm, arm_and, CoreItems, no_item, item_and, CoreItem}
use Rattle.dy_term.specs.Drafts.{run, let_values, let_methods, handler, CoreMethods, no_method}
use Rattle.dy_term.specs.Drafts.{method_and, CoreLambda, lambda, CoreClauses, no_clause, clause_and}
use Rattle.dy_term.specs.Drafts.{CoreClause, then_clause, in_clause, from_clause, CoreLimit}
use Rattle.dy_term.specs.Drafts.{no_limit, a_limit, CoreTest, no_test, a_test, CoreCatches}
use Rattle.dy_term.specs.Drafts.{no_catch, catch_and}
use Rattle.dy_term.specs.Rows.{CoreInit, each, calling, CoreSlot, CoreVariable, CoreTop, CoreDraft}
use Rattle.dy_term.specs.Rows.{class_row, generic_row, method_row, domain_row, variable_row}
use Rattle.dy_term.specs.Rows.{top_term}
use Rattle.dy_term.specs.Rows as rows
use Rattle.dy_lowered.specs.Words.{is_word_literal}

abbrev pub unless : Bool → ℕ
unless true = 0
unless false = 1

abbrev pub wide_literal : Literal → ℕ
wide_literal value = unless (is_word_literal value)

abbrev mutual
  pub wide : Core → ℕ
  wide (literal value) = wide_literal value
  wide (name token) = 0
  wide (hidden number) = 0
  wide (set token value) = wide value
  wide (no_place token place value) = wide place + wide value
  wide (call function arguments) = wide function + terms_wide arguments
  wide (values terms) = terms_wide terms
  wide (cond choice) = choice_wide choice
  wide (and left right) = wide left + wide right
  wide (or left right) = wide left + wide right
  wide (select value test arms last) =
      wide value + (maybe_wide test + (arms_wide arms + maybe_wide last))
  wide (body items) = items_wide items
  wide (loop test inner) = wide test + wide inner
  wide (for clauses test inner finally) =
      clauses_wide clauses + (test_wide test + (wide inner + maybe_wide finally))
  wide (method row) = lambda_wide row
  wide (block exit inner afterwards cleanup clauses) =
      wide inner + (maybe_wide afterwards + (maybe_wide cleanup + catches_wide clauses))

  pub terms_wide : Cores → ℕ
  terms_wide no_core = 0
  terms_wide (core_and first rest) = wide first + terms_wide rest

  pub maybe_wide : MaybeCore → ℕ
  maybe_wide nothing = 0
  maybe_wide (just term) = wide term

  pub choice_wide : Choice → ℕ
  choice_wide (otherwise term) = wide term
  choice_wide (branch test term others) = wide test + (wide term + choice_wide others)

  pub arms_wide : CoreArms → ℕ
  arms_wide no_arm = 0
  arms_wide (arm_and tests inner rest) = terms_wide tests + (wide inner + arms_wide rest)

  pub items_wide : CoreItems → ℕ
  items_wide no_item = 0
  items_wide (item_and first rest) = item_wide first + items_wide rest

  pub item_wide : CoreItem → ℕ
  item_wide (run term) = wide term
  item_wide (let_values locals rest term) = wide term
  item_wide (let_methods methods) = methods_wide methods
  item_wide (handler condition term) = wide term

  pub methods_wide : CoreMethods → ℕ
  methods_wide no_method = 0
  methods_wide (method_and token first rest) = lambda_wide first + methods_wide rest

  pub lambda_wide : CoreLambda → ℕ
  lambda_wide (lambda params defaults inner results) =
      defaults_wide defaults + wide inner

  -- the keyword parameters, each with its default
  pub defaults_wide : Cores → ℕ
  defaults_wide no_core = 0
  defaults_wide (core_and first rest) = wide first + defaults_wide rest

  pub clauses_wide : CoreClauses → ℕ
  clauses_wide no_clause = 0
  clauses_wide (clause_and first rest) = clause_wide first + clauses_wide rest

  pub clause_wide : CoreClause → ℕ
  clause_wide (then_clause variable declared first next) = wide first + wide next
  clause_wide (in_clause variable declared collection) = wide collection
  clause_wide (from_clause variable declared start limit step) =
      wide start + (limit_wide limit + maybe_wide step)

  pub limit_wide : CoreLimit → ℕ
  limit_wide no_limit = 0
  limit_wide (a_limit limit bound) = wide bound

  pub test_wide : CoreTest → ℕ
  test_wide no_test = 0
  test_wide (a_test ends test) = wide test

  pub catches_wide : CoreCatches → ℕ
  catches_wide no_catch = 0
  catches_wide (catch_and variable condition inner rest) = wide inner + catches_wide rest

-- of forms
abbrev pub init_wide : Option CoreInit → ℕ
init_wide None = 0
init_wide (Some (each term)) = wide term
init_wide (Some (calling term)) = wide term

abbrev pub slots_wide : List CoreSlot → ℕ
slots_wide [] = 0
slots_wide (slot ∷ slots) = init_wide slot.init + slots_wide slots

abbrev pub variable_wide : CoreVariable → ℕ
variable_wide (rows.function adjectives token code) = lambda_wide code
variable_wide (rows.type_constant token declared meant) = 0

abbrev pub top_wide : CoreTop → ℕ
top_wide (rows.init is_constant locals term) = wide term
top_wide (rows.run term) = wide term

abbrev pub draft_wide : CoreDraft → ℕ
draft_wide (class_row class) = slots_wide class.slots
draft_wide (generic_row generic) = 0
draft_wide (method_row definition) = lambda_wide definition.code
draft_wide (domain_row domain) = 0
draft_wide (variable_row variable) = variable_wide variable
draft_wide (top_term top) = top_wide top
