-- A token after others, from what stands last.
use Rattle.std.proofs.Common.{◌≡◌, ℕ, Bool, true, false, ◌&&◌, List, [], ◌∷◌, ◌++◌, Ok, Option, Some, None, refl, sym, ap, append_assoc}
use Rattle.dy_base.specs.declared.fault.Place.{Place}
use Rattle.dy_tree.specs.declared.token.Token.{Token}
use Rattle.dy_lexer.specs.Tokens.{OneToken, Tokens, is_string, joined_pair, with_token, added, characters, string_after}

pub with_token-last : (front : List Token) (last t : Token) → with_token (front ++ last ∷ []) t ≡ front ++ joined_pair (is_string last.kind && is_string t.kind) last t
with_token-last [] last t = refl
with_token-last (f ∷ []) last t = refl
with_token-last (f ∷ g ∷ rest) last t = ap (λ (ts : List Token). f ∷ ts) (with_token-last (g ∷ rest) last t)

pair_plain : (a b : Bool) (first second : Token) → b ≡ false → joined_pair (a && b) first second ≡ first ∷ second ∷ []
pair_plain true b first second e = rw e refl
pair_plain false b first second e = refl

pub with_token-plain : (ts : List Token) (t : Token) → is_string t.kind ≡ false → with_token ts t ≡ ts ++ t ∷ []
with_token-plain [] t e = refl
with_token-plain (last ∷ []) t e = pair_plain (is_string last.kind) (is_string t.kind) last t e
with_token-plain (first ∷ second ∷ rest) t e = ap (λ (ts : List Token). first ∷ ts) (with_token-plain (second ∷ rest) t e)

ok_tokens : (a b : List Token) (r : Tokens) → r ≡ Ok a → r ≡ Ok b → a ≡ b
ok_tokens a b r e f = cc

pub add_second : (front : List Token) (last second : Token) (mid : List Token) (one : OneToken)
    → is_string last.kind ≡ false → mid ≡ front ++ last ∷ [] → one ≡ Ok second → added (front ++ last ∷ []) one ≡ Ok (mid ++ second ∷ [])
add_second front last second mid one plain is e =
    rw (e, with_token-last front last second, plain, is) (ap (λ (ts : List Token). Ok ts) (sym (append_assoc front (last ∷ []) (second ∷ []))))

joins : (last : Token) (vs : List ℕ) (t : Token) → t.text ≡ vs → is_string t.kind ≡ true → is_string last.kind ≡ true
    → joined_pair (is_string last.kind && is_string t.kind) last t ≡ record last { text = last.text ++ vs } ∷ []
joins last vs t e f g = rw (g, f, e) refl

pub add_joined : (front : List Token) (last whole : Token) (place : Place) (vs : Option (List ℕ))
    → is_string last.kind ≡ true → string_after last place vs ≡ Ok whole → added (front ++ last ∷ []) (characters place vs) ≡ Ok (front ++ whole ∷ [])
add_joined front last whole place None is e = absurd cc
add_joined front last whole place (Some vs) is e =
    let same : record last { text = last.text ++ vs } ≡ whole = cc in
    rw (with_token-last front last, is, same) refl

abbrev done : List Token → Tokens
done ts = Ok ts

pub done_same : (a b : List Token) → done a ≡ done b → b ≡ a
done_same a b e = cc
