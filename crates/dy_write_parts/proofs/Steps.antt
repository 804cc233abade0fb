-- One part more of what is written.
use Rattle.std.proofs.Common.{◌≡◌, List, [], ◌∷◌, ◌++◌, Option, Some, None, refl, sym, ap, ◌∙◌, append_assoc, false}
use Rattle.std.proofs.lemmas.List.{append-nil}
use Rattle.dy_tree.specs.declared.token.Token.{Token}
use Rattle.dy_tree.specs.Fragments.{SeenFragment, one}
use Rattle.dy_rules.specs.Marks.{in_round, written_integer}
use Rattle.dy_write_parts.specs.Parts.{maybe_one, is_none_of}

abbrev Fragments : Type 0
Fragments = List SeenFragment

pub integer_parts : (old middle new : Fragments) (sign : Option Token) (digits : Token) → middle ≡ old ++ maybe_one sign → new ≡ middle ++ one digits ∷ [] → new ≡ old ++ written_integer sign digits
integer_parts old middle new None digits e f = f ∙ ap (λ (fs : Fragments). fs ++ one digits ∷ []) (e ∙ append-nil old)
integer_parts old middle new (Some sign) digits e f = f ∙ ap (λ (fs : Fragments). fs ++ one digits ∷ []) e ∙ append_assoc old (one sign ∷ []) (one digits ∷ [])

pub not_none : {X : Type 0} (xs : List X) (x : X) → is_none_of (xs ++ x ∷ []) ≡ false
not_none [] x = refl
not_none (first ∷ rest) x = refl

-- a word, and round brackets behind it
pub word_and_round : (old middle new inner written whole : Fragments) (word : Token) → whole ≡ one word ∷ in_round written ∷ [] → middle ≡ old ++ one word ∷ [] → inner ≡ written → new ≡ middle ++ in_round inner ∷ [] → new ≡ old ++ whole
word_and_round old middle new inner written whole word e f g h =
    h ∙ ap (λ (fs : Fragments). fs ++ in_round inner ∷ []) f ∙ append_assoc old (one word ∷ []) (in_round inner ∷ []) ∙ ap (λ (fs : Fragments). old ++ one word ∷ in_round fs ∷ []) g
    ∙ ap (λ (fs : Fragments). old ++ fs) (sym e)
