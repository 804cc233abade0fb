-- Drafts of which every part is lowered: they are of such kinds, and their numbers have 64 bits.
use Rattle.std.specs.Prelude.{Bool}
use Rattle.dy_term.specs.Drafts.{Core, Cores, MaybeCore, Choice, CoreArms, CoreItems, CoreItem}
use Rattle.dy_term.specs.Drafts.{CoreMethods, CoreLambda, CoreClauses, CoreClause, CoreLimit}
use Rattle.dy_term.specs.Drafts.{CoreTest}
use Rattle.dy_term.specs.Rows.{CoreVariable, CoreTop, CoreDraft}
use Rattle.dy_lowered.specs.Words.{is_word_literal}
use Rattle.dy_lowered_forms.specs.drafts.Kinds as kinds

abbrev pub is_plain : Core → Bool
is_plain = kinds.term_with is_word_literal

abbrev pub are_plain : Cores → Bool
are_plain = kinds.terms_with is_word_literal

abbrev pub is_maybe_plain : MaybeCore → Bool
is_maybe_plain = kinds.maybe_with is_word_literal

abbrev pub is_choice_plain : Choice → Bool
is_choice_plain = kinds.choice_with is_word_literal

abbrev pub are_arms_plain : CoreArms → Bool
are_arms_plain = kinds.arms_with is_word_literal

abbrev pub are_items_plain : CoreItems → Bool
are_items_plain = kinds.items_with is_word_literal

abbrev pub is_item_plain : CoreItem → Bool
is_item_plain = kinds.item_with is_word_literal

abbrev pub are_methods_plain : CoreMethods → Bool
are_methods_plain = kinds.methods_with is_word_literal

abbrev pub is_lambda_plain : CoreLambda → Bool
is_lambda_plain = kinds.lambda_with is_word_literal

abbrev pub are_clauses_plain : CoreClauses → Bool
are_clauses_plain = kinds.clauses_with is_word_literal

abbrev pub is_clause_plain : CoreClause → Bool
is_clause_plain = kinds.clause_with is_word_literal

abbrev pub is_limit_plain : CoreLimit → Bool
is_limit_plain = kinds.limit_with is_word_literal

abbrev pub is_test_plain : CoreTest → Bool
is_test_plain = kinds.test_with is_word_literal

abbrev pub is_variable_plain : CoreVariable → Bool
is_variable_plain = kinds.variable_with is_word_literal

abbrev pub is_top_plain : CoreTop → Bool
is_top_plain = kinds.top_with is_word_literal

abbrev pub is_form_plain : CoreDraft → Bool
is_form_plain = kinds.form_with is_word_literal
