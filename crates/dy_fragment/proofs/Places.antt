-- Tokens from a place on.
use Rattle.std.proofs.Common.{◌≡◌, ℕ, zero, suc, ◌+◌, List, [], ◌∷◌, ◌++◌, length, drop, Option, Some, None, refl, sym, ap, ◌∙◌, append_assoc}
use Rattle.std.specs.Prelude.{slice_get}
use Rattle.std.proofs.lemmas.List.{drop_more, drop-drop, drop_at}
use Rattle.std.proofs.lemmas.Option.{slice_get_within, get_or_from_slice_get}
use Rattle.dy_tree.specs.declared.token.Token.{Token}

pub drop_found : (tokens : List Token) (at : ℕ) (t : Token) → slice_get tokens at ≡ Some t → drop at tokens ≡ t ∷ drop (at + 1) tokens
drop_found tokens at t e =
    drop_more tokens at t (slice_get_within tokens at t e) ∙ ap (λ (u : Token). u ∷ drop (at + 1) tokens) (get_or_from_slice_get tokens at t t e)

pub drop_ended : (tokens : List Token) (at : ℕ) → slice_get tokens at ≡ None → drop at tokens ≡ []
drop_ended [] zero e = refl
drop_ended [] (suc at) e = refl
drop_ended (u ∷ us) zero e = absurd cc
drop_ended (u ∷ us) (suc at) e = drop_ended us at e

none_stands : (t : Token) (rest : List Token) → [] ≡ t ∷ rest → ⊥
none_stands t rest e = absurd cc

same_first : (u t : Token) (us rest : List Token) → u ∷ us ≡ t ∷ rest → Some u ≡ Some t
same_first u t us rest e = cc

pub found_dropped : (tokens : List Token) (at : ℕ) (t : Token) (rest : List Token) → drop at tokens ≡ t ∷ rest → slice_get tokens at ≡ Some t
found_dropped [] zero t rest e = absurd (none_stands t rest e)
found_dropped [] (suc at) t rest e = absurd (none_stands t rest e)
found_dropped (u ∷ us) zero t rest e = same_first u t us rest e
found_dropped (u ∷ us) (suc at) t rest e = found_dropped us at t rest e

pub drop_tail : (tokens : List Token) (at : ℕ) (t : Token) (rest : List Token) → drop at tokens ≡ t ∷ rest → drop (at + 1) tokens ≡ rest
drop_tail tokens at t rest e = sym (drop-drop 1 at tokens) ∙ ap (λ (ts : List Token). drop 1 ts) e

-- a token among those from a place on, and what stands behind it
pub drop_split : (tokens : List Token) (from word : ℕ) (before behind tail : List Token) (w : Token)
    → drop from tokens ≡ (before ++ w ∷ behind) ++ tail → word ≡ from + length before → (slice_get tokens word ≡ Some w) × (drop (word + 1) tokens ≡ behind ++ tail)
drop_split tokens from word before behind tail w e place = (found_dropped tokens word w (behind ++ tail) here, drop_tail tokens word w (behind ++ tail) here)
  where
    here : drop word tokens ≡ w ∷ (behind ++ tail)
    here =
        ap (λ (n : ℕ). drop n tokens) place
        ∙ sym (drop-drop (length before) from tokens)
        ∙ ap (λ (ts : List Token). drop (length before) ts) (e ∙ append_assoc before (w ∷ behind) tail)
        ∙ drop_at before (w ∷ (behind ++ tail)) (length before) refl
