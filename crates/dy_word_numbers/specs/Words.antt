-- The integers of a library have 64 bits, from the bytes of its files to the drafts of its forms.
use Rattle.std.specs.Prelude.{◌≡◌, ℕ, ◌≤◌, Bool, true, List}
use Rattle.dy_tree.specs.declared.token.Token.{Token}
use Rattle.dy_tree.specs.declared.words.Words.{Words}
use Rattle.dy_tree.specs.Fragments.{SeenFragment}
use Rattle.dy_lexer.specs.declared.source.Source.{Source}
use Rattle.dy_lexer.specs.Sources.{IsSource}
use Rattle.dy_fragment.specs.Groups.{Grouped}
use Rattle.dy_rules.specs.Forms.{FormTree, IsForm}
use Rattle.dy_term.specs.Rows.{CoreDraft}
use Rattle.dy_surface.specs.Forms.{draft_of}
use Rattle.dy_lowered_forms.specs.drafts.Kinds.{form_with}
use Rattle.dy_lowered_forms.specs.drafts.Plain.{is_form_plain}
use Rattle.dy_lowered_forms.specs.Forms.{any_literal}
use Rattle.dy_word_numbers.specs.Tokens.{wide_tokens, tokens_of}
use Rattle.dy_word_numbers.specs.Drafts.{draft_wide}

-- The numbers of the tokens of a source file do.
abbrev pub TokensAreWords : Type 0
TokensAreWords = (file : ℕ) (text : List ℕ) (source : Source) → IsSource file text source
    → wide_tokens source.tokens ≡ 0

-- Fragments have no other numbers than the tokens that they were grouped from.
abbrev pub GroupsAreWords : Type 0
GroupsAreWords = (known : Words) (tokens : List Token) (fragments : List SeenFragment)
    → Grouped known tokens fragments → tokens_of fragments ≤ wide_tokens tokens

-- The draft of a form has no other integers than its fragments.
abbrev pub DraftsAreWords : Type 0
DraftsAreWords = (form : FormTree) (fragments : List SeenFragment) → IsForm form fragments
    → draft_wide (draft_of form) ≤ tokens_of fragments

-- A draft of kinds that are lowered whose integers have 64 bits is lowered.
abbrev pub WordsArePlain : Type 0
WordsArePlain = (draft : CoreDraft) → form_with any_literal draft ≡ true → draft_wide draft ≡ 0
    → is_form_plain draft ≡ true
