-- The forms of a library that is accepted are of kinds that are lowered, and their integers have 64
-- bits.
use Rattle.std.proofs.Common.{◌≡◌, ℕ, ◌+◌, ◌≤◌, Bool, true, false, List, [], ◌∷◌, ◌++◌, map, flat_map, Option, Some, None, Ok, refl, sym, subst, arith}
use Rattle.std.specs.Prelude.{position}
use Rattle.std.specs.List.{list_all}
use Rattle.std.specs.Str.{bytes_eq}
use Rattle.dy_base.specs.declared.fault.Fault.{Fault}
use Rattle.dy_base.specs.declared.fault.Place.{Place}
use Rattle.dy_tree.specs.declared.token.Token.{Token}
use Rattle.dy_tree.specs.declared.words.Words.{Words}
use Rattle.dy_tree.specs.Fragments.{SeenFragment}
use Rattle.dy_lexer.specs.declared.source.Source.{Source}
use Rattle.dy_rules.specs.Forms.{FormTree}
use Rattle.dy_rules.specs.Parsing.{Parsed, accepted, too_deep, no_form, parsed}
use Rattle.dy_rules.proofs.Parsing.{accepts}
use Rattle.dy_construct_parts.specs.declared.construct.Construct.{Construct}
use Rattle.dy_construct_parts.specs.Table.{first_absent}
use Rattle.dy_constructs.specs.Forms.{in_form}
use Rattle.dy_surface.specs.Forms.{draft_of}
use Rattle.dy_modules.specs.Clauses.{Name}
use Rattle.dy_module_names.specs.Tokens.{in_module}
use Rattle.dy_library_rows.specs.Libraries.{Form, or_fault}
use Rattle.dy_library_modules.specs.declared.lexing.Lexed.{Lexed}
use Rattle.dy_library_modules.specs.declared.lexing.Lexed.TheVariants.{Read, Faulty}
use Rattle.dy_library_modules.specs.Texts.{AreLexed, sources_of, GivesSources}
use Rattle.dy_library_modules.specs.Users.{is_user}
use Rattle.dy_scoped_rows.proofs.terms.Facts.{no_fault, both_true, and_true}
use Rattle.dy_lowered_forms.specs.drafts.Plain.{is_form_plain}
use Rattle.dy_lowered_forms.proofs.Forms.{forms_plain}
use Rattle.dy_word_numbers.specs.Drafts.{draft_wide}
use Rattle.dy_word_numbers.specs.Tokens.{wide_token, wide_tokens, tokens_in, tokens_of}
use Rattle.dy_word_numbers.proofs.Forms.{drafts_wide}
use Rattle.dy_word_numbers.proofs.Plain.{words_plain}
use Rattle.dy_word_numbers.proofs.Tokens.{tokens_words, groups_wide}
use Rattle.dy_verdict.specs.Pieces.{Piece, place_of, semicolon_of, with_fragment, before_pieces, pieces_of}
use Rattle.dy_verdict.specs.Forms.{form_reading, told_reading, reading, fault_in, form_in, first_refused, forms_of}
use Rattle.dy_verdict.specs.Trees as trees
use Rattle.dy_verdict.specs.Trees.{form_tokens, AreGrouped}
use Rattle.dy_verdict_laws.proofs.Come.{all_run}

-- ---- numbers without 64 bits: no file has any

-- the numbers in pieces are those of their file
abbrev in_pieces : List Piece → ℕ
in_pieces [] = 0
in_pieces (piece ∷ pieces) = tokens_of piece.fragments + in_pieces pieces

with_less : (fragment : SeenFragment) (pieces : List Piece) → in_pieces (with_fragment fragment pieces) ≤ tokens_in fragment + in_pieces pieces
with_less fragment [] = omega arith
with_less fragment (piece ∷ pieces) = omega arith

before_less : (fragment : SeenFragment) (end : Option Place) (pieces : List Piece) → in_pieces (before_pieces fragment end pieces) ≤ tokens_in fragment + in_pieces pieces
before_less fragment (Some place) pieces = omega arith
before_less fragment None pieces = with_less fragment pieces

pieces_less : (trees : List SeenFragment) → in_pieces (pieces_of trees) ≤ tokens_of trees
pieces_less [] = omega arith
pieces_less (first ∷ rest) = omega (arith, before_less first (semicolon_of first) (pieces_of rest), pieces_less rest)

join_pieces : (some more : List Piece) → in_pieces (some ++ more) ≡ in_pieces some + in_pieces more
join_pieces [] more = omega arith
join_pieces (piece ∷ some) more = omega (arith, join_pieces some more)

-- none of these files has one
abbrev AreNarrow : List (List Token) → Type 0
AreNarrow [] = Unit {0}
AreNarrow (tokens ∷ files) = (wide_tokens tokens ≡ 0) × AreNarrow files

grouped_narrow : (known : Words) (files : List (List Token)) (all : List (List SeenFragment)) → AreNarrow files → AreGrouped known files (Ok all) → in_pieces (flat_map pieces_of all) ≡ 0
grouped_narrow known [] all narrow none = subst (λ (a : List (List SeenFragment)). in_pieces (flat_map pieces_of a) ≡ 0) (sym none) refl
grouped_narrow known (tokens ∷ files) all narrow (here, others, grouped, rest, is) =
    subst (λ (a : List (List SeenFragment)). in_pieces (flat_map pieces_of a) ≡ 0) (sym is)
    (omega (arith, narrow.0, groups_wide known tokens here grouped.0, pieces_less here, join_pieces (pieces_of here) (flat_map pieces_of others), grouped_narrow known files others narrow.1 rest))

module_narrow : (number : ℕ) (tokens : List Token) → wide_tokens (map (in_module number) tokens) ≡ wide_tokens tokens
module_narrow number [] = refl
module_narrow number (token ∷ tokens) = omega (arith, module_narrow number tokens)

in_narrow : (number : Option ℕ) (tokens : List Token) → wide_tokens tokens ≡ 0 → wide_tokens (trees.tokens_in number tokens) ≡ 0
in_narrow None tokens narrow = refl
in_narrow (Some number) tokens narrow = omega (arith, narrow, module_narrow number tokens)

form_narrow : (user : Bool) (number : Option ℕ) (tokens : List Token) → wide_tokens tokens ≡ 0 → wide_tokens (trees.unless_user user (trees.tokens_in number tokens)) ≡ 0
form_narrow true number tokens narrow = refl
form_narrow false number tokens narrow = in_narrow number tokens narrow

lexed_narrow : (names : List Name) (number : ℕ) (texts : List (List ℕ)) (lexed : List Lexed) → AreLexed number texts lexed → AreNarrow (map (form_tokens names) (sources_of lexed))
lexed_narrow names number [] [] are = tt
lexed_narrow names number [] (found ∷ lexed) are = absurd are
lexed_narrow names number (text ∷ texts) [] are = absurd are
lexed_narrow names number (text ∷ texts) (Read source ∷ lexed) are =
    (form_narrow (is_user source) (position (bytes_eq source.«module») names) source.tokens (tokens_words number text source are.0), lexed_narrow names (number + 1) texts lexed are.1)
lexed_narrow names number (text ∷ texts) (Faulty fault ∷ lexed) are = lexed_narrow names (number + 1) texts lexed are.1

sources_narrow : (names : List Name) (texts : List (List ℕ)) (sources : List Source) → GivesSources texts sources → AreNarrow (map (form_tokens names) sources)
sources_narrow names texts sources (lexed, are, none, is) = subst (λ (s : List Source). AreNarrow (map (form_tokens names) s)) (sym is) (lexed_narrow names 0 texts lexed are)

-- ---- forms

abbrev pub are_plain : List Form → Type 0
are_plain forms = list_all (λ (form : Form). is_form_plain form.1) forms ≡ true

plain_behind : (some more : List Form) → are_plain some → are_plain more → are_plain (some ++ more)
plain_behind [] more h g = g
plain_behind (form ∷ some) more h g =
    let p = both_true (is_form_plain form.1) (list_all (λ (f : Form). is_form_plain f.1) some) h in
    and_true (is_form_plain form.1) (list_all (λ (f : Form). is_form_plain f.1) (some ++ more)) p.0 (plain_behind some more p.1 g)

form_plain : (fragments : List SeenFragment) (form : FormTree) (place : Place) → parsed fragments ≡ accepted form → tokens_of fragments ≡ 0
    → (found : Option Construct) → first_absent (in_form form) ≡ found → fault_in place (form_reading form found) ≡ None → are_plain (form_in place (form_reading form found))
form_plain fragments form place is none (Some construct) found fine = absurd (no_fault _ fine)
form_plain fragments form place is none None found fine =
    let narrow : draft_wide (draft_of form) ≡ 0 = omega (arith, none, drafts_wide form fragments (accepts fragments form is).0) in
    and_true (is_form_plain (draft_of form)) true (words_plain (draft_of form) (forms_plain form (all_run (in_form form) found)) narrow) refl

told_plain : (fragments : List SeenFragment) (place : Place) → tokens_of fragments ≡ 0 → (told : Parsed) → parsed fragments ≡ told
    → fault_in place (told_reading told) ≡ None → are_plain (form_in place (told_reading told))
told_plain fragments place none no_form is fine = absurd (no_fault _ fine)
told_plain fragments place none too_deep is fine = absurd (no_fault _ fine)
told_plain fragments place none (accepted form) is fine = form_plain fragments form place is none (first_absent (in_form form)) refl fine

or_none : (first other : Option Fault) → or_fault first other ≡ None → (first ≡ None) × (other ≡ None)
or_none None other is = (refl, is)
or_none (Some fault) other is = absurd (no_fault fault is)

pieces_plain : (pieces : List Piece) → in_pieces pieces ≡ 0 → first_refused pieces ≡ None → are_plain (forms_of pieces)
pieces_plain [] none fine = refl
pieces_plain (piece ∷ pieces) none fine =
    let h = or_none (fault_in (place_of piece) (reading piece.fragments)) (first_refused pieces) fine in
    plain_behind (form_in (place_of piece) (reading piece.fragments)) (forms_of pieces)
    (told_plain piece.fragments (place_of piece) (omega (arith, none)) (parsed piece.fragments) refl h.0)
    (pieces_plain pieces (omega (arith, none)) h.1)

-- the forms of files of which none is refused
pub files_plain : (known : Words) (names : List Name) (texts : List (List ℕ)) (sources : List Source) (all : List (List SeenFragment)) → GivesSources texts sources
    → AreGrouped known (map (form_tokens names) sources) (Ok all) → first_refused (flat_map pieces_of all) ≡ None → are_plain (forms_of (flat_map pieces_of all))
files_plain known names texts sources all gives grouped fine =
    pieces_plain (flat_map pieces_of all) (grouped_narrow known (map (form_tokens names) sources) all (sources_narrow names texts sources gives) grouped) fine
