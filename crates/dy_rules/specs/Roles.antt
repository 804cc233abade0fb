-- What tokens and groups are to the grammar (DRM 2 and appendix A).
use Rattle.std.specs.Prelude.{ℕ, Bool, true, false, if◌then◌else◌, List, [], ◌∷◌, codes, Option}
use Rattle.std.specs.Prelude.{Some, None}
use Rattle.std.specs.List.{list_any}
use Rattle.dy_tree.specs.declared.token.TokenKind.{TokenKind}
use Rattle.dy_tree.specs.declared.token.TokenKind.TheVariants as kinds
use Rattle.dy_tree.specs.declared.token.Token.{Token}
use Rattle.dy_tree.specs.declared.types.LiteralForm.{LiteralForm}
use Rattle.dy_tree.specs.declared.types.LiteralForm.TheVariants as literals
use Rattle.dy_tree.specs.declared.roles.Role.{Role}
use Rattle.dy_tree.specs.declared.roles.Role.TheVariants as roles
use Rattle.dy_tree.specs.declared.roles.Precedence.{Precedence}
use Rattle.dy_tree.specs.declared.roles.Precedence.TheVariants as precedences
use Rattle.dy_tree.specs.declared.brackets.Guard.TheVariants as guards
use Rattle.dy_tree.specs.declared.brackets.Keyword.TheVariants as keywords
use Rattle.dy_tree.specs.declared.brackets.Bracket.{Bracket}
use Rattle.dy_tree.specs.declared.brackets.Bracket.TheVariants as brackets
use Rattle.dy_tree.specs.declared.splitters.Splitting.{Splitting}
use Rattle.dy_tree.specs.declared.splitters.Splitting.TheVariants as splittings
use Rattle.dy_tree.specs.declared.splitters.Splitter.{Splitter}
use Rattle.dy_tree.specs.declared.splitters.Splitter.TheVariants as splitters
use Rattle.dy_tree.specs.Spelling.{is_spelled, is_sign, is_word}

-- spelled as one of the texts
abbrev pub is_among : List (List ℕ) → Token → Bool
is_among texts token = list_any (λ text. is_spelled text token) texts

-- further names that are words in every module, and so no names to the grammar
abbrev pub reserved : List (List ℕ)
reserved = codes "end" ∷ codes "macro" ∷ []

abbrev pub name_role : Token → Role
name_role token =
    if is_spelled (codes "let") token then roles.Lets
    else if is_spelled (codes "local") token then roles.Locals
    else if is_spelled (codes "handler") token then roles.Handlers
    else if is_spelled (codes "otherwise") token then roles.Remains
    else if is_spelled (codes "define") token then roles.Defines
    else if is_among reserved token then roles.Other
    else roles.Named

abbrev pub mark_role : Token → Role
mark_role token = if is_among (codes "#t" ∷ codes "#f" ∷ []) token then roles.Boolean
    else roles.Other

abbrev pub operator_role : Token → Role
operator_role token =
    if is_spelled (codes "-") token then roles.Minus
    else if is_spelled (codes "~") token then roles.Tilde
    else if is_spelled (codes ":=") token then roles.Assigns
    else if is_spelled (codes "^") token then roles.Operator precedences.Power
    else if is_among (codes "*" ∷ codes "/" ∷ []) token then roles.Operator precedences.Product
    else if is_spelled (codes "+") token then roles.Operator precedences.Sum
    else if is_among (codes "=" ∷ codes "==" ∷ codes "<" ∷ codes ">" ∷ codes "<=" ∷ codes ">="
    ∷ codes "~=" ∷ codes "~==" ∷ []) token then roles.Operator precedences.Comparison
    else if is_among (codes "&" ∷ codes "|" ∷ []) token then roles.Operator precedences.Logical
    else roles.Other

abbrev pub punctuation_role : Token → Role
punctuation_role token =
    if is_spelled (codes ".") token then roles.Dot
    else if is_spelled (codes ",") token then roles.Comma
    else if is_spelled (codes ";") token then roles.Semicolon
    else if is_spelled (codes "=>") token then roles.Arrow
    else if is_spelled (codes "::") token then roles.Colons
    else roles.Other

abbrev pub role_by : TokenKind → Token → Role
role_by kinds.Name token = name_role token
role_by kinds.Escaped token = roles.Named
role_by kinds.Symbol token = roles.Symbol
role_by kinds.Int token = roles.Integer
role_by kinds.Char token = roles.Character
role_by kinds.Str token = roles.Text
role_by kinds.Mark token = mark_role token
role_by kinds.PatternVar token = roles.Other
role_by kinds.CallSite token = roles.Other
role_by kinds.Operator token = operator_role token
role_by kinds.Punctuation token = punctuation_role token

abbrev pub role_of : Token → Role
role_of token = role_by token.kind token

-- the operators of two operands
abbrev pub precedence_of : Role → Option Precedence
precedence_of (roles.Operator precedence) = Some precedence
precedence_of roles.Minus = Some precedences.Sum
precedence_of _ = None

abbrev pub spelled_splitter : Token → Splitter
spelled_splitter token =
    if is_spelled (codes "else") token then splitters.Else
    else if is_spelled (codes "elseif") token then splitters.Elseif
    else if is_spelled (codes "afterwards") token then splitters.Afterwards
    else if is_spelled (codes "cleanup") token then splitters.Cleanup
    else if is_spelled (codes "exception") token then splitters.Exception
    else if is_spelled (codes "finally") token then splitters.Finally
    else if is_spelled (codes "then") token then splitters.Then
    else if is_spelled (codes "from") token then splitters.From
    else if is_spelled (codes "to") token then splitters.To
    else if is_spelled (codes "above") token then splitters.Above
    else if is_spelled (codes "below") token then splitters.Below
    else if is_spelled (codes "by") token then splitters.By
    else if is_spelled (codes "in") token then splitters.In
    else splitters.Absent

-- An escaped name is never a word.
abbrev pub splitter_by : Role → TokenKind → Token → Splitter
splitter_by roles.Named kinds.Name token = spelled_splitter token
splitter_by _ _ token = splitters.Absent

abbrev pub splitter_of : Token → Splitter
splitter_of token = splitter_by (role_of token) token.kind token

abbrev pub splits_as : Splitting → Splitter → Bool
splits_as splittings.Branches splitters.Else = true
splits_as splittings.Branches splitters.Elseif = true
splits_as splittings.Endings splitters.Afterwards = true
splits_as splittings.Endings splitters.Cleanup = true
splits_as splittings.Endings splitters.Exception = true
splits_as splittings.LastPart splitters.Finally = true
splits_as splittings.Steps splitters.Then = true
splits_as splittings.Steps splitters.From = true
splits_as splittings.Steps splitters.To = true
splits_as splittings.Steps splitters.Above = true
splits_as splittings.Steps splitters.Below = true
splits_as splittings.Steps splitters.By = true
splits_as splittings.Tests splitters.By = true
splits_as _ _ = false

abbrev pub splits : Splitting → Token → Bool
splits splitting token = splits_as splitting (splitter_of token)

-- what a word begins
abbrev pub begun_by_word : Token → Bracket
begun_by_word opener =
    if is_word (codes "begin") opener then brackets.Statement keywords.Begin
    else if is_word (codes "if") opener then brackets.Statement keywords.If
    else if is_word (codes "unless") opener then brackets.Statement (keywords.Guard guards.Unless)
    else if is_word (codes "while") opener then brackets.Statement (keywords.Guard guards.While)
    else if is_word (codes "until") opener then brackets.Statement (keywords.Guard guards.Until)
    else if is_word (codes "case") opener then brackets.Statement keywords.Case
    else if is_word (codes "select") opener then brackets.Statement keywords.Select
    else if is_word (codes "block") opener then brackets.Statement keywords.Block
    else if is_word (codes "for") opener then brackets.Statement keywords.For
    else if is_word (codes "method") opener then brackets.Statement keywords.Method
    else if is_word (codes "define") opener then brackets.Statement keywords.Define
    else brackets.Special

-- what an opener begins
abbrev pub begun_by : Token → Bracket
begun_by opener =
    if is_sign (codes "(") opener then brackets.Round
    else if is_sign (codes "[") opener then brackets.Square
    else if is_sign [] opener then brackets.Hidden
    else if is_sign (codes "#(") opener then brackets.SharpRound
    else if is_sign (codes "#[") opener then brackets.SharpSquare
    else begun_by_word opener

abbrev pub closed_by : Bracket → Token → Bracket
closed_by brackets.Round closer = if is_sign (codes ")") closer then brackets.Round
    else brackets.Special
closed_by brackets.Square closer = if is_sign (codes "]") closer then brackets.Square
    else brackets.Special
closed_by brackets.Hidden closer = if is_sign [] closer then brackets.Hidden else brackets.Special
closed_by brackets.SharpRound closer = if is_sign (codes ")") closer then brackets.SharpRound
    else brackets.Special
closed_by brackets.SharpSquare closer = if is_sign (codes "]") closer then brackets.SharpSquare
    else brackets.Special
closed_by (brackets.Statement kind) closer =
    if is_word (codes "end") closer then brackets.Statement kind else brackets.Special
closed_by brackets.Special closer = brackets.Special

abbrev pub bracket_of : Token → Token → Bracket
bracket_of opener closer = closed_by (begun_by opener) closer

-- an integer, without a minus and with one
abbrev pub positive : Token → LiteralForm
positive digits = literals.Int (record { minus = None; digits = digits })

abbrev pub negative : Token → Token → LiteralForm
negative sign digits = literals.Int (record { minus = Some sign; digits = digits })
