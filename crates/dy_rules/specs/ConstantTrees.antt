-- Lists and vectors of literals without where they lie in memory (DRM, appendix A).
use Rattle.std.specs.Prelude.{Bool, true, false, List, [], ◌∷◌, Option, Some, None}
use Rattle.dy_tree.specs.declared.token.Token.{Token}
use Rattle.dy_tree.specs.declared.types.LiteralForm.{LiteralForm}

mutual
  pub data Constant : Type 0 where
    literal_item : (value : LiteralForm) → Constant
    list_item : (opener : Token) (items : Constants) (tail : Tail) → Constant
    vector_item : (opener : Token) (items : Constants) → Constant

  pub data Constants : Type 0 where
    no_constant : Constants
    constant_and : (first : Constant) (rest : Constants) → Constants

  pub data Tail : Type 0 where
    no_tail : Tail
    tail : (value : Constant) → Tail

-- constants one after the other
abbrev pub constants_of : List Constant → Constants
constants_of [] = no_constant
constants_of (first ∷ rest) = constant_and first (constants_of rest)

abbrev pub tail_of : Option Constant → Tail
tail_of None = no_tail
tail_of (Some value) = tail value

-- whether a list is `#()`
abbrev pub is_nil : Constants → Tail → Bool
is_nil no_constant no_tail = true
is_nil _ _ = false
