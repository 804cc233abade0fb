-- The characters of a literal are read as they are spelled.
use Rattle.std.proofs.Common.{◌≡◌, ℕ, ◌+◌, ◌*◌, ◌↔◌, Bool, true, false, cond, List, [], ◌∷◌, Option, Some, None, refl, sym, ap, subst, ◌∙◌}
use Rattle.std.proofs.lemmas.Bool.{eqb-true}
use Rattle.std.proofs.Math.Dec.{eqb}
use Rattle.dy_pieces.specs.declared.spelling.Spelling.{Spelling}
use Rattle.dy_pieces.specs.declared.spelling.Spelling.TheVariants.{Plain, Escape, Open, Digit, Digits}
use Rattle.dy_pieces.specs.declared.spelling.Read.TheVariants.{Value, GoesOn, Wrong}
use Rattle.dy_pieces.specs.Bytes.{digit_of}
use Rattle.dy_pieces.specs.Scan.{escape_of, is_plain, value_and, spelled, given, digit_read, decoded, decoded_from}
use Rattle.dy_pieces.specs.Characters.{Characters, none, plain, escape, one_digit, two_digits}

abbrev values_of : List ℕ → Option (List ℕ)
values_of vs = Some vs

not_byte : (f : ℕ → Option ℕ) (x b v : ℕ) → f x ≡ None → f b ≡ Some v → eqb b x ≡ false
not_byte f x b v bar is = go (eqb b x) refl
  where
    go : (t : Bool) → eqb b x ≡ t → t ≡ false
    go true e = let bad : f x ≡ Some v = ap f (sym (eqb-true b x e)) ∙ is in absurd (clash (f x) bar bad)
      where
        clash : (r : Option ℕ) → r ≡ None → r ≡ Some v → ⊥
        clash r e f = absurd cc
    go false e = refl

-- what is so spelled is read
pub characters_read : (tabs : Bool) (text vs : List ℕ) → Characters tabs text vs → decoded tabs text ≡ Some vs
characters_read tabs text vs none = refl
characters_read tabs text vs (plain b rest values text2 all slash is below parts same) =
    let read = characters_read tabs rest values below in
    ap (decoded tabs) parts ∙ rw (slash, is, read) (ap values_of (sym same))
characters_read tabs text vs (escape e v rest values text2 all is below parts same) =
    let read = characters_read tabs rest values below in
    let other = not_byte escape_of 60 e v refl is in
    ap (decoded tabs) parts ∙ rw (other, is, read) (ap values_of (sym same))
characters_read tabs text vs (one_digit h v rest values text2 all is below parts same) =
    let read = characters_read tabs rest values below in
    ap (decoded tabs) parts ∙ rw (is, read) (ap values_of (sym same))
characters_read tabs text vs (two_digits h i v w rest values text2 all is is2 below parts same) =
    let read = characters_read tabs rest values below in
    let other = not_byte digit_of 62 i w refl is2 in
    ap (decoded tabs) parts ∙ rw (is, other, is2, read) (ap values_of (sym same))

-- what stands before the bytes that are left, by how far the spelling has been read
abbrev Left : Bool → Spelling → List ℕ → List ℕ → Type 0
Left tabs Plain bs vs = Characters tabs bs vs
Left tabs Escape bs vs = Characters tabs (92 ∷ bs) vs
Left tabs Open bs vs = Characters tabs (92 ∷ 60 ∷ bs) vs
Left tabs (Digit v) bs vs = (h : ℕ) → digit_of h ≡ Some v → Characters tabs (92 ∷ 60 ∷ h ∷ bs) vs
Left tabs (Digits x) bs vs = (h i v w : ℕ) → digit_of h ≡ Some v → digit_of i ≡ Some w → x ≡ 16 * v + w → Characters tabs (92 ∷ 60 ∷ h ∷ i ∷ bs) vs

value_some : (v : ℕ) (r : Option (List ℕ)) (vs : List ℕ) → value_and v r ≡ Some vs → (values : List ℕ) × (r ≡ Some values) × (vs ≡ v ∷ values)
value_some v None vs e = absurd cc
value_some v (Some values) vs e = (values, refl, same_values vs (v ∷ values) e)
  where
    same_values : (xs ys : List ℕ) → values_of ys ≡ values_of xs → xs ≡ ys
    same_values xs ys e = cc

module _ (tabs : Bool) (b : ℕ) (bs vs : List ℕ) (below : (s : Spelling) (values : List ℕ) → decoded_from tabs s bs ≡ Some values → Left tabs s bs values) where
  valued : (v : ℕ) → value_and v (decoded_from tabs Plain bs) ≡ Some vs → (values : List ℕ) × Characters tabs bs values × (vs ≡ v ∷ values)
  valued v e =
      let (values, is, same) = value_some v (decoded_from tabs Plain bs) vs e in
      (values, below Plain values is, same)

  from_plain : (t u : Bool) → eqb b 92 ≡ t → is_plain tabs b ≡ u
      → spelled (cond t (GoesOn Escape) (cond u (Value b) Wrong)) (λ s. decoded_from tabs s bs) ≡ Some vs → Characters tabs (b ∷ bs) vs
  from_plain true u slash is e =
      let here : Characters tabs (92 ∷ bs) vs = below Escape vs e in
      subst (λ (x : ℕ). Characters tabs (x ∷ bs) vs) (sym (eqb-true b 92 slash)) here
  from_plain false true slash is e = let (values, rest, same) = valued b e in plain b bs values (b ∷ bs) vs slash is rest refl same
  from_plain false false slash is e = absurd cc

  from_escape : (t : Bool) (r : Option ℕ) → eqb b 60 ≡ t → escape_of b ≡ r
      → spelled (cond t (GoesOn Open) (given r)) (λ s. decoded_from tabs s bs) ≡ Some vs → Characters tabs (92 ∷ b ∷ bs) vs
  from_escape true r angle is e =
      let here : Characters tabs (92 ∷ 60 ∷ bs) vs = below Open vs e in
      subst (λ (x : ℕ). Characters tabs (92 ∷ x ∷ bs) vs) (sym (eqb-true b 60 angle)) here
  from_escape false (Some v) angle is e = let (values, rest, same) = valued v e in escape b v bs values (92 ∷ b ∷ bs) vs is rest refl same
  from_escape false None angle is e = absurd cc

  from_open : (r : Option ℕ) → digit_of b ≡ r → spelled (digit_read (λ v. Digit v) r) (λ s. decoded_from tabs s bs) ≡ Some vs → Characters tabs (92 ∷ 60 ∷ b ∷ bs) vs
  from_open (Some v) is e = below (Digit v) vs e b is
  from_open None is e = absurd cc

  from_digit : (v : ℕ) (t : Bool) (r : Option ℕ) → eqb b 62 ≡ t → digit_of b ≡ r
      → spelled (cond t (Value v) (digit_read (λ w. Digits (16 * v + w)) r)) (λ s. decoded_from tabs s bs) ≡ Some vs → Left tabs (Digit v) (b ∷ bs) vs
  from_digit v true r angle is e h first =
      let (values, rest, same) = valued v e in
      one_digit h v bs values (92 ∷ 60 ∷ h ∷ b ∷ bs) vs first rest (ap (λ (x : ℕ). 92 ∷ 60 ∷ h ∷ x ∷ bs) (eqb-true b 62 angle)) same
  from_digit v false (Some w) angle is e h first = below (Digits (16 * v + w)) vs e h b v w first is refl
  from_digit v false None angle is e h first = absurd cc

  from_digits : (x : ℕ) (t : Bool) → eqb b 62 ≡ t → spelled (cond t (Value x) Wrong) (λ s. decoded_from tabs s bs) ≡ Some vs → Left tabs (Digits x) (b ∷ bs) vs
  from_digits x true angle e h i v w first second sum =
      let (values, rest, same) = valued x e in
      two_digits h i v w bs values (92 ∷ 60 ∷ h ∷ i ∷ b ∷ bs) vs first second rest (ap (λ (y : ℕ). 92 ∷ 60 ∷ h ∷ i ∷ y ∷ bs) (eqb-true b 62 angle)) (same ∙ ap (λ (y : ℕ). y ∷ values) sum)
  from_digits x false angle e h i v w first second sum = absurd cc

  left_turn : (s : Spelling) → decoded_from tabs s (b ∷ bs) ≡ Some vs → Left tabs s (b ∷ bs) vs
  left_turn Plain e = from_plain (eqb b 92) (is_plain tabs b) refl refl e
  left_turn Escape e = from_escape (eqb b 60) (escape_of b) refl refl e
  left_turn Open e = from_open (digit_of b) refl e
  left_turn (Digit v) e = from_digit v (eqb b 62) (digit_of b) refl refl e
  left_turn (Digits x) e = from_digits x (eqb b 62) refl e

left : (tabs : Bool) (bs : List ℕ) (s : Spelling) (vs : List ℕ) → decoded_from tabs s bs ≡ Some vs → Left tabs s bs vs
left tabs [] Plain vs e = end vs e
  where
    end : (vs : List ℕ) → values_of [] ≡ Some vs → Characters tabs [] vs
    end [] e = none
    end (v ∷ vs) e = absurd cc
left tabs [] Escape vs e = absurd cc
left tabs [] Open vs e = absurd cc
left tabs [] (Digit v) vs e = absurd cc
left tabs [] (Digits x) vs e = absurd cc
left tabs (b ∷ bs) s vs e = left_turn tabs b bs vs (λ t values. left tabs bs t values) s e

-- what is read is so spelled
pub read_characters : (tabs : Bool) (text vs : List ℕ) → decoded tabs text ≡ Some vs → Characters tabs text vs
read_characters tabs text vs e = left tabs text Plain vs e

pub characters_law : (tabs : Bool) (text vs : List ℕ) → (decoded tabs text ≡ Some vs) ↔ Characters tabs text vs
characters_law tabs text vs = (read_characters tabs text vs, characters_read tabs text vs)
