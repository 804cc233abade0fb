-- Names that are made of operators, members and setters do not mean the next method.
use Rattle.std.proofs.Common.{◌≡◌, ◌≢◌, ℕ, Bool, true, false, not, ◌&&◌, List, [], ◌∷◌, ◌++◌, refl, sym, ap, ◌∙◌, cond}
use Rattle.std.specs.Prelude.{codes, nat_eq, if◌then◌else◌}
use Rattle.std.specs.Str.{bytes_eq}
use Rattle.std.specs.Cmp.Lexicographic.{bytes_decides}
use Rattle.dy_tree.specs.declared.token.Token.{Token}
use Rattle.dy_tree.specs.Spelling.{is_spelled}
use Rattle.dy_construct_parts.specs.declared.construct.Construct.{Construct}
use Rattle.dy_construct_parts.specs.declared.construct.Construct.TheVariants.{NextMethod}
use Rattle.dy_construct_parts.specs.Words.{binary, unary, next_method}
use Rattle.dy_drafts.specs.Shapes.{name_at}
use Rattle.dy_drafts.specs.Parts.{unary_name, setter_at}
use Rattle.dy_scoped_rows.proofs.terms.Facts.{untrue}
use Rattle.dy_lowered_forms.specs.drafts.Kinds.{names_next}
use Rattle.dy_lowered_forms.specs.Table.{runs}
use Rattle.dy_lowered_forms.proofs.Lists.{Run, first_runs}

abbrev pub next_text : List ℕ
next_text = codes "next-method"

pub by_text : (b : Bool) → (b ≡ true → ⊥) → not b ≡ true
by_text true never = absurd (never refl)
by_text false never = refl

pub spelled : (token : Token) → names_next token ≡ true → token.text ≡ next_text
spelled token is = (bytes_decides token.text next_text).0 is

pub binary_named : (operator : Token) → runs (binary operator) ≡ true → not (names_next operator) ≡ true
binary_named operator run = by_text (names_next operator) (λ is.
    untrue (sym (ap (λ (text : List ℕ). runs (binary (record operator { text = text }))) (spelled operator is)) ∙ run))

pub unary_named : (operator : Token) → runs (unary operator) ≡ true → not (names_next operator) ≡ true
unary_named operator run = by_text (names_next operator) (λ is.
    untrue (sym (ap (λ (text : List ℕ). runs (unary (record operator { text = text }))) (spelled operator is)) ∙ run))

by_minus : (b : Bool) (operator : Token) → not (names_next operator) ≡ true
    → not (names_next (if b then name_at (codes "negative") operator else operator)) ≡ true
by_minus true operator other = refl
by_minus false operator other = other

pub unary_name_named : (operator : Token) → runs (unary operator) ≡ true → not (names_next (unary_name operator)) ≡ true
unary_name_named operator run = by_minus (is_spelled (codes "-") operator) operator (unary_named operator run)

by_name : (b : Bool) → Run (if b then NextMethod ∷ [] else []) → not b ≡ true
by_name true run = untrue run
by_name false run = refl

pub name_named : (token : Token) → Run (next_method token) → not (names_next token) ≡ true
name_named token run = by_name (names_next token) run

-- the name of a setter ends in another letter
abbrev last_byte : List ℕ → ℕ
last_byte [] = 0
last_byte (byte ∷ []) = byte
last_byte (byte ∷ other ∷ bytes) = last_byte (other ∷ bytes)

ends : (text : List ℕ) → last_byte (text ++ codes "-setter") ≡ 114
ends [] = refl
ends (byte ∷ []) = refl
ends (byte ∷ other ∷ bytes) = ends (other ∷ bytes)

pub setter_named : (token : Token) → not (names_next (setter_at token)) ≡ true
setter_named token = by_text (names_next (setter_at token)) (λ is.
    let same : token.text ++ codes "-setter" ≡ next_text = (bytes_decides (token.text ++ codes "-setter") next_text).0 is in
    untrue (ap (λ (n : ℕ). nat_eq n 100) (sym (ends token.text) ∙ ap last_byte same)))
