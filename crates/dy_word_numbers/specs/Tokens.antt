-- How many tokens have numbers without 64 bits, in files and in fragments.
use Rattle.std.specs.Prelude.{ℕ, ◌+◌, List, [], ◌∷◌}
use Rattle.dy_tree.specs.declared.token.Token.{Token}
use Rattle.dy_tree.specs.Fragments.{SeenFragment, SeenFragments, one, group, no_fragment}
use Rattle.dy_tree.specs.Fragments.{fragment_and}
use Rattle.dy_outcome.specs.Turns.{fits}
use Rattle.dy_word_numbers.specs.Drafts.{unless}

abbrev pub wide_token : Token → ℕ
wide_token token = unless (fits token.number)

abbrev pub wide_tokens : List Token → ℕ
wide_tokens [] = 0
wide_tokens (token ∷ tokens) = wide_token token + wide_tokens tokens

-- those between the brackets of groups, and those outside of groups
abbrev mutual
  pub tokens_in : SeenFragment → ℕ
  tokens_in (one token) = wide_token token
  tokens_in (group opener inner closer) = tokens_within inner

  pub tokens_within : SeenFragments → ℕ
  tokens_within no_fragment = 0
  tokens_within (fragment_and first rest) = tokens_in first + tokens_within rest

abbrev pub tokens_of : List SeenFragment → ℕ
tokens_of [] = 0
tokens_of (first ∷ rest) = tokens_in first + tokens_of rest
