-- A file's name up to its last slash.
use Rattle.std.proofs.Common.{◌≡◌, ℕ, suc, zero, ◌<◌, ◌≢◌, true, false, cond, eqb, List, [], ◌∷◌, length, get_or, take, refl, ap, ◌∙◌, arith}
use Rattle.std.proofs.lemmas.Bool.Decides.{nat_tests}
use Rattle.std.proofs.lemmas.List.Recursion.{or_at, or_from_places}
use Rattle.dy_sources.specs.Layout.{has_slash, folder_of}

is_slash-no : (b : ℕ) → b ≢ 47 → eqb b 47 ≡ false
is_slash-no b h = grind (arith, nat_tests)

pub folder_of-none : (bytes : List ℕ) → ((i : ℕ) → i < length bytes → get_or bytes i 0 ≢ 47) → folder_of bytes ≡ []
folder_of-none [] none = refl
folder_of-none (b ∷ bytes) none =
    ap (λ t. cond t (b ∷ folder_of bytes) [])
    (or_from_places has_slash (λ byte. eqb byte 47) refl (λ _ _. refl) (b ∷ bytes) 0 (λ i within. is_slash-no (get_or (b ∷ bytes) i 0) (none i within)))

has_slash-at : (bytes : List ℕ) (i : ℕ) → i < length bytes → get_or bytes i 0 ≡ 47 → has_slash bytes ≡ true
has_slash-at bytes i within e =
    or_at has_slash (λ byte. eqb byte 47) refl (λ _ _. refl) bytes i 0 within (ap (λ b. eqb b 47) e)

pub folder_of-at : (bytes : List ℕ) (k : ℕ) → k < length bytes → get_or bytes k 0 ≡ 47 → ((i : ℕ) → k < i → i < length bytes → get_or bytes i 0 ≢ 47) → folder_of bytes ≡ take (suc k) bytes
folder_of-at [] k within e last = absurd (omega arith)
folder_of-at (b ∷ bytes) zero within e last =
    ap (λ t. cond t (b ∷ folder_of bytes) []) (has_slash-at (b ∷ bytes) 0 within e)
    ∙ ap (λ rest. b ∷ rest) (folder_of-none bytes (λ i h. last (suc i) (omega arith) (omega arith)))
folder_of-at (b ∷ bytes) (suc k) within e last =
    ap (λ t. cond t (b ∷ folder_of bytes) []) (has_slash-at (b ∷ bytes) (suc k) within e)
    ∙ ap (λ rest. b ∷ rest) (folder_of-at bytes k (omega arith) e (λ i after h. last (suc i) (omega arith) (omega arith)))
