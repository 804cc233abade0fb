-- Tokens and groups that stand in no text, of which a tree is written.
use Rattle.std.specs.Prelude.{ℕ, pos, List, [], ◌∷◌, codes, Option, Some, None}
use Rattle.dy_tree.specs.declared.token.TokenKind.{TokenKind}
use Rattle.dy_tree.specs.declared.token.TokenKind.TheVariants as kinds
use Rattle.dy_tree.specs.declared.token.Token.{Token}
use Rattle.dy_tree.specs.declared.types.LiteralForm.{LiteralForm}
use Rattle.dy_tree.specs.declared.types.LiteralForm.TheVariants as literals
use Rattle.dy_tree.specs.Fragments.{SeenFragment, one, group, pack}

-- a token that stands in no text
abbrev pub made : TokenKind → List ℕ → Token
made kind text = record {
  kind = kind;
  text = text;
  number = pos 0;
  place = record { file = 0; offset = 0 };
  origin = 0;
  «module» = 0;
}

abbrev pub mark : List ℕ → Token
mark text = made kinds.Punctuation text

abbrev pub enclosed : List ℕ → List ℕ → List SeenFragment → SeenFragment
enclosed opener closer fragments = group (mark opener) (pack fragments) (mark closer)

abbrev pub in_round : List SeenFragment → SeenFragment
in_round fragments = enclosed (codes "(") (codes ")") fragments

abbrev pub written_integer : Option Token → Token → List SeenFragment
written_integer None digits = one digits ∷ []
written_integer (Some sign) digits = one sign ∷ one digits ∷ []

abbrev pub written_literal : LiteralForm → List SeenFragment
written_literal (literals.Int form) = written_integer form.minus form.digits
written_literal (literals.Char token) = one token ∷ []
written_literal (literals.Str token) = one token ∷ []
written_literal (literals.Bool token) = one token ∷ []
written_literal (literals.Symbol token) = one token ∷ []

abbrev pub assigns_mark : SeenFragment
assigns_mark = one (made kinds.Operator (codes ":="))

abbrev pub dot_mark : SeenFragment
dot_mark = one (mark (codes "."))

abbrev pub comma_mark : SeenFragment
comma_mark = one (mark (codes ","))

-- a list, a vector and the index of an element keep their opener
abbrev pub list_group : Token → List SeenFragment → SeenFragment
list_group opener fragments = group opener (pack fragments) (mark (codes ")"))

abbrev pub square_group : Token → List SeenFragment → SeenFragment
square_group opener fragments = group opener (pack fragments) (mark (codes "]"))

abbrev pub semicolon_mark : SeenFragment
semicolon_mark = one (mark (codes ";"))

abbrev pub word_mark : List ℕ → SeenFragment
word_mark text = one (made kinds.Name text)

-- a statement keeps its word
abbrev pub statement_group : Token → List SeenFragment → SeenFragment
statement_group word fragments = group word (pack fragments) (made kinds.Name (codes "end"))

abbrev pub colons_mark : SeenFragment
colons_mark = one (mark (codes "::"))

abbrev pub arrow_mark : SeenFragment
arrow_mark = one (mark (codes "=>"))

abbrev pub identity_mark : SeenFragment
identity_mark = one (made kinds.Operator (codes "=="))

abbrev pub equals_mark : SeenFragment
equals_mark = one (made kinds.Operator (codes "="))

abbrev pub handler_mark : SeenFragment
handler_mark = one (made kinds.Name (codes "handler"))

abbrev pub next_mark : SeenFragment
next_mark = one (made kinds.Mark (codes "#next"))

abbrev pub key_mark : SeenFragment
key_mark = one (made kinds.Mark (codes "#key"))

abbrev pub all_keys_mark : SeenFragment
all_keys_mark = one (made kinds.Mark (codes "#all-keys"))

abbrev pub rest_mark : SeenFragment
rest_mark = one (made kinds.Mark (codes "#rest"))
