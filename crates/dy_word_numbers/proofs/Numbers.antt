-- Which numbers have 64 bits.
use Rattle.std.proofs.Common.{◌≡◌, ℕ, ◌<◌, ◌^◌, Bool, true, false, true≢false, List, [], ◌∷◌, Option, Some, None, ◌≤◌, refl, sym, ap, subst, ◌∙◌, arith}
use Rattle.std.specs.Prelude.{ℤ, pos, negsuc, nat_lt}
use Rattle.std.specs.Int.{int_wrapping_neg, int_wrap, w64}
use Rattle.std.specs.Int.RustNames.{FitsSigned}
use Rattle.std.proofs.lemmas.Bool.{ltb-true, lt-ltb}
use Rattle.std.proofs.lemmas.Int.{wrapping_neg_is, SFits-int_wrap}
use Rattle.dy_tree.specs.declared.token.Token.{Token}
use Rattle.dy_term.specs.declared.literal.Literal.{Literal, Literal-F}
use Rattle.dy_term.specs.declared.literal.Literal as core
use Rattle.dy_term.specs.declared.literal.Literal.TheVariants.{outs-Int, outs-Char, outs-Str, outs-Bool, outs-Symbol, outs-Nil, outs-List, outs-Vector}
use Rattle.dy_tree.specs.declared.types.LiteralForm.{LiteralForm}
use Rattle.dy_tree.specs.declared.types.LiteralForm.TheVariants as literals
use Rattle.dy_drafts.specs.Shapes.{literal_of, integer_of, list_of}
use Rattle.dy_rules.specs.Roles.{positive, negative}
use Rattle.dy_outcome.specs.Turns.{fits}
use Rattle.dy_lowered.specs.Words.{is_word, is_word_literal}
use Rattle.dy_word_numbers.specs.Drafts.{unless, wide_literal}
use Rattle.dy_word_numbers.specs.Tokens.{wide_token}

fits_is : (n : ℤ) → fits n ≡ true → FitsSigned w64 n
fits_is (pos n) is = record { sfits = ltb-true n (2 ^ 63) is }
fits_is (negsuc n) is = record { sfits = ltb-true n (2 ^ 63) is }

is_fits : (n : ℤ) → FitsSigned w64 n → fits n ≡ true
is_fits (pos n) is = lt-ltb n (2 ^ 63) is.sfits
is_fits (negsuc n) is = lt-ltb n (2 ^ 63) is.sfits

-- A minus keeps 64 bits.
pub negative_fits : (n : ℤ) → fits n ≡ true → fits (int_wrapping_neg w64 n) ≡ true
negative_fits n is =
    is_fits (int_wrapping_neg w64 n)
    (subst (λ (m : ℤ). FitsSigned w64 m) (sym (wrapping_neg_is w64 n (fits_is n is))) (SFits-int_wrap w64 _))

-- literals
int_wide : (n : ℤ) → wide_literal (core.Int n) ≡ unless (fits n)
int_wide n = ap (λ (row : Literal-F Literal). unless (is_word row)) (outs-Int n)

pub truth_narrow : (b : Bool) → wide_literal (core.Bool b) ≡ 0
truth_narrow b = ap (λ (row : Literal-F Literal). unless (is_word row)) (outs-Bool b)

char_narrow : (byte : ℕ) → wide_literal (core.Char byte) ≡ 0
char_narrow byte = ap (λ (row : Literal-F Literal). unless (is_word row)) (outs-Char byte)

str_narrow : (text : List ℕ) → wide_literal (core.Str text) ≡ 0
str_narrow text = ap (λ (row : Literal-F Literal). unless (is_word row)) (outs-Str text)

symbol_narrow : (text : List ℕ) → wide_literal (core.Symbol text) ≡ 0
symbol_narrow text = ap (λ (row : Literal-F Literal). unless (is_word row)) (outs-Symbol text)

nil_narrow : wide_literal core.Nil ≡ 0
nil_narrow = ap (λ (row : Literal-F Literal). unless (is_word row)) outs-Nil

pub list_narrow : (items : List Literal) (last : Option Literal) → wide_literal (list_of items last) ≡ 0
list_narrow [] last = nil_narrow
list_narrow (first ∷ rest) last = ap (λ (row : Literal-F Literal). unless (is_word row)) (outs-List (first ∷ rest) last)

pub vector_narrow : (items : List Literal) → wide_literal (core.Vector items) ≡ 0
vector_narrow items = ap (λ (row : Literal-F Literal). unless (is_word row)) (outs-Vector items)

pub positive_wide : (token : Token) → wide_literal (literal_of (positive token)) ≡ wide_token token
positive_wide token = int_wide token.number

unless_less : (a b : Bool) → (b ≡ true → a ≡ true) → unless a ≤ unless b
unless_less true true h = omega arith
unless_less true false h = omega arith
unless_less false true h = absurd (true≢false (sym (h refl)))
unless_less false false h = omega arith

pub negative_wide : (sign digits : Token) → wide_literal (literal_of (negative sign digits)) ≤ wide_token digits
negative_wide sign digits =
    omega (arith, int_wide (int_wrapping_neg w64 digits.number), unless_less (fits (int_wrapping_neg w64 digits.number)) (fits digits.number) (negative_fits digits.number))

pub character_narrow : (token : Token) → wide_literal (literal_of (literals.Char token)) ≡ 0
character_narrow token = char_narrow _

pub string_narrow : (token : Token) → wide_literal (literal_of (literals.Str token)) ≡ 0
string_narrow token = str_narrow _

pub boolean_narrow : (token : Token) → wide_literal (literal_of (literals.Bool token)) ≡ 0
boolean_narrow token = truth_narrow _

pub name_narrow : (token : Token) → wide_literal (literal_of (literals.Symbol token)) ≡ 0
name_narrow token = symbol_narrow _
