-- The fixed spellings: operators, punctuation, marks and constraints (DRM 2, "Lexical syntax", and
-- appendix A).
use Rattle.std.specs.Prelude.{ℕ, Bool, true, false, ◌&&◌, ◌||◌, ◌==◌, if◌then◌else◌, List, [], ◌∷◌}
use Rattle.std.specs.Prelude.{length, codes, Option, Some, None}
use Rattle.dy_base.specs.Folding.{folded_byte}
use Rattle.dy_tree.specs.declared.token.TokenKind.{TokenKind}
use Rattle.dy_tree.specs.declared.token.TokenKind.TheVariants.{Operator, Punctuation}

abbrev pub operators : List (List ℕ)
operators =
    codes "~==" ∷ codes "==" ∷ codes "~=" ∷ codes "<=" ∷ codes ">=" ∷ codes ":="
    ∷ codes "+" ∷ codes "-" ∷ codes "*" ∷ codes "/" ∷ codes "^" ∷ codes "=" ∷ codes "<" ∷ codes ">"
    ∷ codes "&" ∷ codes "|" ∷ codes "~" ∷ []

-- the punctuation that does not begin with #
abbrev pub punctuation : List (List ℕ)
punctuation =
    codes "..." ∷ codes "::" ∷ codes "=>"
    ∷ codes "(" ∷ codes ")" ∷ codes "[" ∷ codes "]" ∷ codes "{" ∷ codes "}" ∷ codes "," ∷ codes ";"
    ∷ codes "." ∷ []

-- the operators that are a name after a backslash
abbrev pub escapable : List (List ℕ)
escapable =
    codes "~==" ∷ codes "==" ∷ codes "~=" ∷ codes "<=" ∷ codes ">="
    ∷ codes "+" ∷ codes "-" ∷ codes "*" ∷ codes "/" ∷ codes "^" ∷ codes "=" ∷ codes "<" ∷ codes ">"
    ∷ codes "~" ∷ []

-- the marks after their #, longer ones first
abbrev pub marks : List (List ℕ)
marks = codes "all-keys" ∷ codes "next" ∷ codes "rest" ∷ codes "key" ∷ codes "t" ∷ codes "f" ∷ []

-- the constraints of a pattern variable, longer ones first
abbrev pub constraints : List (List ℕ)
constraints = codes "expression" ∷ codes "case-body" ∷ codes "variable" ∷ codes "token"
    ∷ codes "name" ∷ codes "body" ∷ codes "*" ∷ []

abbrev pub is_same : List ℕ → List ℕ → Bool
is_same [] [] = true
is_same [] (b ∷ bs) = false
is_same (x ∷ xs) [] = false
is_same (x ∷ []) (b ∷ []) = b == x
is_same (x ∷ []) (b ∷ c ∷ bs) = false
is_same (x ∷ y ∷ xs) (b ∷ []) = false
is_same (x ∷ y ∷ xs) (b ∷ c ∷ bs) = b == x && is_same (y ∷ xs) (c ∷ bs)

abbrev pub is_listed : List (List ℕ) → List ℕ → Bool
is_listed [] bytes = false
is_listed (word ∷ words) bytes = is_same word bytes || is_listed words bytes

abbrev pub sign_of : List ℕ → Option TokenKind
sign_of bytes =
    if is_listed operators bytes then Some Operator
    else if is_listed punctuation bytes then Some Punctuation
    else None

-- whether the text begins with this word, which is in lower case, in either case
abbrev pub begins : List ℕ → List ℕ → Bool
begins [] text = true
begins (x ∷ word) [] = false
begins (x ∷ word) (b ∷ text) = folded_byte b == x && begins word text

-- the length of the first of the words with which the text begins
abbrev pub front_in : List (List ℕ) → List ℕ → Option ℕ
front_in [] text = None
front_in (word ∷ words) text = if begins word text then Some (length word) else front_in words text
