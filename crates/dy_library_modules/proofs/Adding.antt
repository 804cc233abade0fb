-- Words that are added one after the other.
use Rattle.std.proofs.Common.{◌≡◌, List, [], ◌∷◌, ◌++◌, ap, ◌∙◌}
use Rattle.std.proofs.lemmas.List.{append_assoc}
use Rattle.std.specs.Prelude.{Result, Ok, Err, OnOk}
use Rattle.dy_tree.specs.declared.words.Word.{Word}

-- one more word
pub word_more : (old before after front : List Word) (word : Word) → before ≡ old ++ front → after ≡ before ++ word ∷ [] → after ≡ old ++ (front ++ word ∷ [])
word_more old before after front word is added = added ∙ ap (λ (words : List Word). words ++ word ∷ []) is ∙ append_assoc old front (word ∷ [])

-- the last word, unless memory ran out
pub last_word : {T E : Type 0} (result : Result T E) (old before after front : List Word) (word : Word) → before ≡ old ++ front → OnOk result (after ≡ before ++ word ∷ []) → OnOk result (after ≡ old ++ (front ++ word ∷ []))
last_word (Ok given) old before after front word is added = word_more old before after front word is added
last_word (Err error) old before after front word is added = tt
