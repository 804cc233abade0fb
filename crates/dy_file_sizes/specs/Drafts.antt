-- How large drafts are, by their nodes, as terms are counted (`Nodes` of `dy_lowered_sizes`).
use Rattle.std.specs.Prelude.{ℕ, ◌+◌, List, [], ◌∷◌, length, Option, Some, None}
use Rattle.dy_term.specs.Types.{CoreParams}
use Rattle.dy_term.specs.Drafts.{Core, literal, name, hidden, set, no_place, call, values, cond}
use Rattle.dy_term.specs.Drafts.{and, or, select, body, loop, for, method, block, Cores, no_core}
use Rattle.dy_term.specs.Drafts.{core_and, MaybeCore, nothing, just, Choice, otherwise, branch}
use Rattle.dy_term.specs.Drafts.{CoreArms, no_arm, arm_and, CoreItems, no_item, item_and, CoreItem}
use Rattle.dy_term.specs.Drafts.{run, let_values, let_methods, handler, CoreMethods, no_method}
use Rattle.dy_term.specs.Drafts.{method_and, CoreLambda, lambda, CoreClauses, no_clause, clause_and}
use Rattle.dy_term.specs.Drafts.{CoreClause, then_clause, in_clause, from_clause, CoreLimit}
use Rattle.dy_term.specs.Drafts.{no_limit, a_limit, CoreTest, no_test, a_test, CoreCatches}
use Rattle.dy_term.specs.Drafts.{no_catch, catch_and}
use Rattle.dy_term.specs.Rows.{CoreInit, each, calling, CoreSlot, CoreVariable, CoreTop, CoreDraft}
use Rattle.dy_term.specs.Rows.{class_row, generic_row, method_row, domain_row, variable_row}
use Rattle.dy_term.specs.Rows.{top_term}
use Rattle.dy_term.specs.Rows as rows
use Rattle.dy_binding.specs.Bound.{count}

-- the locals that parameters become, but those of keywords
abbrev pub parameters_size : CoreParams → ℕ
parameters_size params = length params.required + count params.rest

abbrev mutual
  pub size : Core → ℕ
  size (literal value) = 1
  size (name token) = 1
  size (hidden number) = 1
  size (set token value) = 1 + size value
  size (no_place token place value) = 1 + (size place + size value)
  size (call function arguments) = 1 + (size function + terms_size arguments)
  size (values terms) = 1 + terms_size terms
  size (cond choice) = 1 + choice_size choice
  size (and left right) = 1 + (size left + size right)
  size (or left right) = 1 + (size left + size right)
  size (select value test arms last) =
      1 + (size value + (maybe_size test + (arms_size arms + maybe_size last)))
  size (body items) = 1 + items_size items
  size (loop test inner) = 1 + (size test + size inner)
  size (for clauses test inner finally) =
      1 + (clauses_size clauses + (test_size test + (size inner + maybe_size finally)))
  size (method row) = lambda_size row
  size (block exit inner afterwards cleanup clauses) =
      1 + (size inner + (maybe_size afterwards + (maybe_size cleanup + catches_size clauses)))

  pub terms_size : Cores → ℕ
  terms_size no_core = 0
  terms_size (core_and first rest) = size first + terms_size rest

  pub maybe_size : MaybeCore → ℕ
  maybe_size nothing = 0
  maybe_size (just term) = size term

  pub choice_size : Choice → ℕ
  choice_size (otherwise term) = size term
  choice_size (branch test term others) = size test + (size term + choice_size others)

  pub arms_size : CoreArms → ℕ
  arms_size no_arm = 0
  arms_size (arm_and tests inner rest) = terms_size tests + (size inner + arms_size rest)

  pub items_size : CoreItems → ℕ
  items_size no_item = 0
  items_size (item_and first rest) = item_size first + items_size rest

  pub item_size : CoreItem → ℕ
  item_size (run term) = 1 + size term
  item_size (let_values locals rest term) = 1 + (length locals + (count rest + size term))
  item_size (let_methods methods) = 1 + methods_size methods
  item_size (handler condition term) = 1 + size term

  pub methods_size : CoreMethods → ℕ
  methods_size no_method = 0
  methods_size (method_and token first rest) = 1 + (lambda_size first + methods_size rest)

  pub lambda_size : CoreLambda → ℕ
  lambda_size (lambda params defaults inner results) =
      1 + (parameters_size params + (defaults_size defaults + size inner))

  -- the keyword parameters, each with its default
  pub defaults_size : Cores → ℕ
  defaults_size no_core = 0
  defaults_size (core_and first rest) = 1 + (size first + defaults_size rest)

  pub clauses_size : CoreClauses → ℕ
  clauses_size no_clause = 0
  clauses_size (clause_and first rest) = clause_size first + clauses_size rest

  pub clause_size : CoreClause → ℕ
  clause_size (then_clause variable declared first next) = 1 + (size first + size next)
  clause_size (in_clause variable declared collection) = 1 + size collection
  clause_size (from_clause variable declared start limit step) =
      1 + (size start + (limit_size limit + maybe_size step))

  pub limit_size : CoreLimit → ℕ
  limit_size no_limit = 0
  limit_size (a_limit limit bound) = size bound

  pub test_size : CoreTest → ℕ
  test_size no_test = 0
  test_size (a_test ends test) = size test

  pub catches_size : CoreCatches → ℕ
  catches_size no_catch = 0
  catches_size (catch_and variable condition inner rest) = 1 + (size inner + catches_size rest)

-- of forms
abbrev pub init_size : Option CoreInit → ℕ
init_size None = 0
init_size (Some (each term)) = size term
init_size (Some (calling term)) = size term

abbrev pub slots_size : List CoreSlot → ℕ
slots_size [] = 0
slots_size (slot ∷ slots) = init_size slot.init + slots_size slots

abbrev pub variable_size : CoreVariable → ℕ
variable_size (rows.function adjectives token code) = lambda_size code
variable_size (rows.type_constant token declared meant) = 0

abbrev pub top_size : CoreTop → ℕ
top_size (rows.init is_constant locals term) = size term
top_size (rows.run term) = size term

abbrev pub draft_size : CoreDraft → ℕ
draft_size (class_row class) = slots_size class.slots
draft_size (generic_row generic) = 0
draft_size (method_row definition) = lambda_size definition.code
draft_size (domain_row domain) = 0
draft_size (variable_row variable) = variable_size variable
draft_size (top_term top) = top_size top
