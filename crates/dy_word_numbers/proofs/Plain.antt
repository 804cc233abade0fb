-- A draft of kinds that are lowered whose integers have 64 bits is lowered, by induction over drafts.
use Rattle.std.proofs.Common.{◌≡◌, ℕ, ◌+◌, Bool, true, false, ◌&&◌, Option, Some, None, refl, sym, ap, ◌∙◌, arith}
use Rattle.dy_term.specs.declared.literal.Literal.{Literal}
use Rattle.dy_term.specs.Drafts.{Core, literal, name, hidden, set, no_place, call, values, cond}
use Rattle.dy_term.specs.Drafts.{and, or, select, body, loop, for, method, block, Cores, no_core}
use Rattle.dy_term.specs.Drafts.{core_and, MaybeCore, nothing, just, Choice, otherwise, branch}
use Rattle.dy_term.specs.Drafts.{CoreArms, no_arm, arm_and, CoreItems, no_item, item_and, CoreItem}
use Rattle.dy_term.specs.Drafts.{run, let_values, let_methods, handler, CoreMethods, no_method}
use Rattle.dy_term.specs.Drafts.{method_and, CoreLambda, lambda, CoreClauses, no_clause, clause_and}
use Rattle.dy_term.specs.Drafts.{CoreClause, then_clause, in_clause, from_clause, CoreLimit}
use Rattle.dy_term.specs.Drafts.{no_limit, a_limit, CoreTest, no_test, a_test}
use Rattle.dy_term.specs.Rows as forms
use Rattle.dy_term.specs.Rows.{CoreDraft, class_row, generic_row, method_row, domain_row}
use Rattle.dy_term.specs.Rows.{variable_row, top_term, CoreVariable, CoreTop}
use Rattle.dy_lowered.specs.Words.{is_word_literal}
use Rattle.dy_scoped_rows.proofs.terms.Facts.{untrue, both_true, and_true}
use Rattle.dy_lowered_forms.specs.drafts.Kinds as kinds
use Rattle.dy_lowered_forms.specs.drafts.Kinds.{is_usual, takes_plainly}
use Rattle.dy_lowered_forms.specs.drafts.Plain.{is_plain, are_plain, is_maybe_plain, is_choice_plain}
use Rattle.dy_lowered_forms.specs.drafts.Plain.{are_arms_plain, are_items_plain, is_item_plain}
use Rattle.dy_lowered_forms.specs.drafts.Plain.{are_methods_plain, is_lambda_plain, are_clauses_plain}
use Rattle.dy_lowered_forms.specs.drafts.Plain.{is_clause_plain, is_limit_plain, is_test_plain}
use Rattle.dy_lowered_forms.specs.drafts.Plain.{is_variable_plain, is_top_plain, is_form_plain}
use Rattle.dy_lowered_forms.specs.Forms.{any_literal}
use Rattle.dy_word_numbers.specs.Drafts.{unless, wide, terms_wide, maybe_wide, choice_wide, arms_wide, items_wide, item_wide, methods_wide, lambda_wide, defaults_wide, clauses_wide, clause_wide, limit_wide, test_wide, variable_wide, top_wide, draft_wide}

-- no number is left where a sum is none
left : (a b : ℕ) → a + b ≡ 0 → a ≡ 0
left a b none = omega (arith, none)

right : (a b : ℕ) → a + b ≡ 0 → b ≡ 0
right a b none = omega (arith, none)

unless_none : (b : Bool) → unless b ≡ 0 → b ≡ true
unless_none true none = refl
unless_none false none = absurd (omega (arith, none))

abbrev Yes : Bool → Type 0
Yes b = b ≡ true

-- two parts
both : (a b c d : Bool) (m n : ℕ) → (Yes a → m ≡ 0 → Yes c) → (Yes b → n ≡ 0 → Yes d) → Yes (a && b) → m + n ≡ 0 → Yes (c && d)
both a b c d m n f g is none =
    let h = both_true a b is in
    and_true c d (f h.0 (left m n none)) (g h.1 (right m n none))

mutual
  term : (core : Core) → Yes (kinds.term_with any_literal core) → wide core ≡ 0 → Yes (is_plain core)
  term (literal value) is none = unless_none (is_word_literal value) none
  term (name token) is none = is
  term (hidden number) is none = refl
  term (set token value) is none = term value is none
  term (no_place token place value) is none = both _ _ (is_plain place) (is_plain value) (wide place) (wide value) (term place) (term value) is none
  term (call function arguments) is none = both _ _ (is_plain function) (are_plain arguments) (wide function) (terms_wide arguments) (term function) (terms arguments) is none
  term (values inner) is none = terms inner is none
  term (cond choice) is none = chosen choice is none
  term (and l r) is none = both _ _ (is_plain l) (is_plain r) (wide l) (wide r) (term l) (term r) is none
  term (or l r) is none = both _ _ (is_plain l) (is_plain r) (wide l) (wide r) (term l) (term r) is none
  term (select value test arms last) is none =
      both _ _ (is_plain value) (is_maybe_plain test && (are_arms_plain arms && is_maybe_plain last)) (wide value) (maybe_wide test + (arms_wide arms + maybe_wide last)) (term value)
      (both _ _ (is_maybe_plain test) (are_arms_plain arms && is_maybe_plain last) (maybe_wide test) (arms_wide arms + maybe_wide last) (maybe test)
      (both _ _ (are_arms_plain arms) (is_maybe_plain last) (arms_wide arms) (maybe_wide last) (all_arms arms) (maybe last))) is none
  term (body items) is none = all_items items is none
  term (loop test inner) is none = both _ _ (is_plain test) (is_plain inner) (wide test) (wide inner) (term test) (term inner) is none
  term (for clauses test inner finally) is none =
      both _ _ (are_clauses_plain clauses) (is_test_plain test && (is_plain inner && is_maybe_plain finally)) (clauses_wide clauses) (test_wide test + (wide inner + maybe_wide finally)) (all_clauses clauses)
      (both _ _ (is_test_plain test) (is_plain inner && is_maybe_plain finally) (test_wide test) (wide inner + maybe_wide finally) (tested test)
      (both _ _ (is_plain inner) (is_maybe_plain finally) (wide inner) (maybe_wide finally) (term inner) (maybe finally))) is none
  term (method row) is none = lambda_of row is none
  term (block exit inner afterwards cleanup clauses) is none = untrue is

  terms : (cores : Cores) → Yes (kinds.terms_with any_literal cores) → terms_wide cores ≡ 0 → Yes (are_plain cores)
  terms no_core is none = refl
  terms (core_and first rest) is none = both _ _ (is_plain first) (are_plain rest) (wide first) (terms_wide rest) (term first) (terms rest) is none

  maybe : (core : MaybeCore) → Yes (kinds.maybe_with any_literal core) → maybe_wide core ≡ 0 → Yes (is_maybe_plain core)
  maybe nothing is none = refl
  maybe (just inner) is none = term inner is none

  chosen : (choice : Choice) → Yes (kinds.choice_with any_literal choice) → choice_wide choice ≡ 0 → Yes (is_choice_plain choice)
  chosen (otherwise inner) is none = term inner is none
  chosen (branch test inner others) is none =
      let h = both_true (kinds.term_with any_literal test && kinds.term_with any_literal inner) (kinds.choice_with any_literal others) is in
      let g = both_true (kinds.term_with any_literal test) (kinds.term_with any_literal inner) h.0 in
      let rest = right (wide test) (wide inner + choice_wide others) none in
      and_true (is_plain test && is_plain inner) (is_choice_plain others)
      (and_true (is_plain test) (is_plain inner) (term test g.0 (left (wide test) (wide inner + choice_wide others) none)) (term inner g.1 (left (wide inner) (choice_wide others) rest)))
      (chosen others h.1 (right (wide inner) (choice_wide others) rest))

  all_arms : (arms : CoreArms) → Yes (kinds.arms_with any_literal arms) → arms_wide arms ≡ 0 → Yes (are_arms_plain arms)
  all_arms no_arm is none = refl
  all_arms (arm_and keys inner others) is none =
      let h = both_true (kinds.terms_with any_literal keys && kinds.term_with any_literal inner) (kinds.arms_with any_literal others) is in
      let g = both_true (kinds.terms_with any_literal keys) (kinds.term_with any_literal inner) h.0 in
      let rest = right (terms_wide keys) (wide inner + arms_wide others) none in
      and_true (are_plain keys && is_plain inner) (are_arms_plain others)
      (and_true (are_plain keys) (is_plain inner) (terms keys g.0 (left (terms_wide keys) (wide inner + arms_wide others) none)) (term inner g.1 (left (wide inner) (arms_wide others) rest)))
      (all_arms others h.1 (right (wide inner) (arms_wide others) rest))

  all_items : (items : CoreItems) → Yes (kinds.items_with any_literal items) → items_wide items ≡ 0 → Yes (are_items_plain items)
  all_items no_item is none = refl
  all_items (item_and first rest) is none = both _ _ (is_item_plain first) (are_items_plain rest) (item_wide first) (items_wide rest) (item first) (all_items rest) is none

  item : (one : CoreItem) → Yes (kinds.item_with any_literal one) → item_wide one ≡ 0 → Yes (is_item_plain one)
  item (run inner) is none = term inner is none
  item (let_values locals rest inner) is none = term inner is none
  item (let_methods methods) is none = all_methods methods is none
  item (handler condition function) is none = untrue is

  all_methods : (methods : CoreMethods) → Yes (kinds.methods_with any_literal methods) → methods_wide methods ≡ 0 → Yes (are_methods_plain methods)
  all_methods no_method is none = refl
  all_methods (method_and token first rest) is none = both _ _ (is_lambda_plain first) (are_methods_plain rest) (lambda_wide first) (methods_wide rest) (lambda_of first) (all_methods rest) is none

  lambda_of : (row : CoreLambda) → Yes (kinds.lambda_with any_literal row) → lambda_wide row ≡ 0 → Yes (is_lambda_plain row)
  lambda_of (lambda params defaults inner results) is none =
      let h = both_true (takes_plainly params) (kinds.term_with any_literal inner) is in
      and_true (takes_plainly params) (is_plain inner) h.0 (term inner h.1 (right (defaults_wide defaults) (wide inner) none))

  all_clauses : (clauses : CoreClauses) → Yes (kinds.clauses_with any_literal clauses) → clauses_wide clauses ≡ 0 → Yes (are_clauses_plain clauses)
  all_clauses no_clause is none = refl
  all_clauses (clause_and first rest) is none = both _ _ (is_clause_plain first) (are_clauses_plain rest) (clause_wide first) (clauses_wide rest) (clause first) (all_clauses rest) is none

  clause : (one : CoreClause) → Yes (kinds.clause_with any_literal one) → clause_wide one ≡ 0 → Yes (is_clause_plain one)
  clause (then_clause variable declared first next) is none = both _ _ (is_plain first) (is_plain next) (wide first) (wide next) (term first) (term next) is none
  clause (in_clause variable declared collection) is none = untrue is
  clause (from_clause variable declared start limit step) is none =
      both _ _ (is_plain start) (is_limit_plain limit && is_maybe_plain step) (wide start) (limit_wide limit + maybe_wide step) (term start)
      (both _ _ (is_limit_plain limit) (is_maybe_plain step) (limit_wide limit) (maybe_wide step) (limited limit) (maybe step)) is none

  limited : (limit : CoreLimit) → Yes (kinds.limit_with any_literal limit) → limit_wide limit ≡ 0 → Yes (is_limit_plain limit)
  limited no_limit is none = refl
  limited (a_limit limit bound) is none = term bound is none

  tested : (test : CoreTest) → Yes (kinds.test_with any_literal test) → test_wide test ≡ 0 → Yes (is_test_plain test)
  tested no_test is none = refl
  tested (a_test ends inner) is none = term inner is none

variable : (one : CoreVariable) → Yes (kinds.variable_with any_literal one) → variable_wide one ≡ 0 → Yes (is_variable_plain one)
variable (forms.function adjectives token code) is none = lambda_of code is none
variable (forms.type_constant token declared meant) is none = refl

top : (one : CoreTop) → Yes (kinds.top_with any_literal one) → top_wide one ≡ 0 → Yes (is_top_plain one)
top (forms.init is_constant variables inner) is none = term inner is none
top (forms.run inner) is none = term inner is none

pub words_plain : (draft : CoreDraft) → kinds.form_with any_literal draft ≡ true → draft_wide draft ≡ 0 → is_form_plain draft ≡ true
words_plain (class_row class) is none = untrue is
words_plain (generic_row generic) is none = is
words_plain (method_row found) is none =
    let h = both_true (is_usual found.next) (kinds.lambda_with any_literal found.code) is in
    and_true (is_usual found.next) (is_lambda_plain found.code) h.0 (lambda_of found.code h.1 none)
words_plain (domain_row domain) is none = refl
words_plain (variable_row one) is none = variable one is none
words_plain (top_term one) is none = top one is none
