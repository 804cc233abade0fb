-- Which tokens stand in the trees, and which in none: those that an `end` absorbs (own).
use Rattle.std.specs.Prelude.{◌≡◌, Bool, true, List, [], ◌∷◌, ◌++◌, length, codes}
use Rattle.dy_tree.specs.declared.token.Token.{Token}
use Rattle.dy_tree.specs.declared.words.Words.{Words}
use Rattle.dy_tree.specs.Spelling.{is_spelled}
use Rattle.dy_tree.specs.Fragments.{SeenFragment, one, group, pack}
use Rattle.dy_fragment.specs.declared.word.Defined.TheVariants.{Ended}
use Rattle.dy_fragment.specs.Words.{is_end, is_define, defined_from}
use Rattle.dy_fragment.specs.Closings.{is_same_word, is_same_name}

-- a token again, or nothing
abbrev pub IsRepeated : (Token → Token → Bool) → Token → List Token → Type 0
IsRepeated same wanted [] = Unit {0}
IsRepeated same wanted (t ∷ []) = same wanted t ≡ true
IsRepeated same wanted (t ∷ u ∷ more) = ⊥

-- the first of these tokens again, as a name, or nothing
abbrev pub IsNameRepeated : List Token → List Token → Type 0
IsNameRepeated [] repeated = repeated ≡ []
IsNameRepeated (name ∷ others) repeated = IsRepeated is_same_name name repeated

-- What a closer absorbs behind it, where these tokens stand between it and its opener: nothing, but
-- for an `end`.
pub data Absorbs (words : Words) (opener : Token) (between : List Token)
    (closer : Token) : List Token → Type 0 where
  no_token : Absorbs words opener between closer []
  -- of a statement its word
  statement : (again : Token) → is_end closer ≡ true → is_same_word opener again ≡ true
      → Absorbs words opener between closer (again ∷ [])
  -- of a method of a `local` its word, and then the name directly behind that word
  local_method : (word_again name_again : List Token) → is_end closer ≡ true
      → is_spelled (codes "method") opener ≡ true
      → IsRepeated is_same_word opener word_again → IsNameRepeated between name_again
      → Absorbs words opener between closer (word_again ++ name_again)
  -- of a definition its definition word, and then the name directly behind that word
  definition : (before behind : List Token) (word : Token) (word_again name_again : List Token)
      → is_end closer ≡ true → is_define opener ≡ true
      → between ≡ before ++ word ∷ behind → defined_from words 0 between ≡ Ended (length before)
      → IsRepeated is_same_word word word_again → IsNameRepeated behind name_again
      → Absorbs words opener between closer (word_again ++ name_again)

-- The tokens that trees stand for: those of the trees in order, and behind each closer what it
-- absorbs.
pub data StandFor (words : Words) : List SeenFragment → List Token → Type 0 where
  no_tree : StandFor words [] []
  token_then : (t : Token) (fs : List SeenFragment) (ts : List Token) → StandFor words fs ts
      → StandFor words (one t ∷ fs) (t ∷ ts)
  group_then : (opener closer : Token) (inner fs : List SeenFragment)
      (between absorbed ts : List Token)
      → StandFor words inner between → Absorbs words opener between closer absorbed
      → StandFor words fs ts
      → StandFor words (group opener (pack inner) closer ∷ fs)
      (opener ∷ (between ++ closer ∷ (absorbed ++ ts)))
