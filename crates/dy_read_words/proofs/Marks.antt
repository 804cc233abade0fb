-- Marks that stand alone.
use Rattle.std.proofs.Common.{◌≡◌, Bool, false, List, [], ◌∷◌, Option, Some, None, refl}
use Rattle.dy_tree.specs.declared.token.Token.{Token}
use Rattle.dy_tree.specs.Fragments.{SeenFragment, one, group}
use Rattle.dy_rules.specs.Signatures.{is_all_word, is_all_keys}
use Rattle.dy_rules.specs.Types.{part_word}
use Rattle.dy_read_words.specs.Alone.{token_alone}

abbrev is_all_token : Option Token → Bool
is_all_token None = false
is_all_token (Some mark) = is_all_word (part_word mark)

pub all_keys_alone : (fragments : List SeenFragment) → is_all_keys fragments ≡ is_all_token (token_alone fragments)
all_keys_alone [] = refl
all_keys_alone (one mark ∷ []) = refl
all_keys_alone (one mark ∷ second ∷ rest) = refl
all_keys_alone (group opener inner closer ∷ []) = refl
all_keys_alone (group opener inner closer ∷ second ∷ rest) = refl
