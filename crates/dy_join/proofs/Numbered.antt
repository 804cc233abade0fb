-- Names with their places, and the longest stretch, of units one after the other.
use Rattle.std.proofs.Common.{◌≡◌, ℕ, ◌+◌, ◌<◌, ◌≤◌, Bool, true, false, true≢false, cond, Bor}
use Rattle.std.proofs.Common.{is_some, List, [], ◌∷◌, ◌++◌, map, take, get_or, length, Option, Some}
use Rattle.std.proofs.Common.{None, position, refl, sym, ap, ◌∙◌, arith}
use Rattle.std.specs.Prelude.{max}
use Rattle.std.specs.Option.{option_copied}
use Rattle.std.specs.FinMap.{get, insert, get-insert}
use Rattle.std.specs.Str.{bytes_eq}
use Rattle.std.specs.Cmp.Lexicographic.{nat_list_cmp_total, texts_ties, bytes_decides}
use Rattle.std.proofs.lemmas.List.{take_more, map_push, length-map, length-take-le}
use Rattle.std.proofs.lemmas.Option.{none-some}
use Rattle.dy_base.specs.Tables.{NameMap}
use Rattle.dy_base.proofs.Positions.{or_last, position-push}
use Rattle.dy_meaning.specs.Numbers.{greatest}
use Rattle.dy_code.specs.declared.unit.Unit.{Unit as CodeUnit}
use Rattle.dy_join.specs.Numbering.{HoldsPlaces}

stays : (o : Option ℕ) (b : Bool) (n : ℕ) → (b ≡ true → o ≡ None → ⊥) → o ≡ or_last o b n
stays (Some i) b n never = refl
stays None true n never = absurd (never refl refl)
stays None false n never = refl

comes_last : (o : Option ℕ) (b : Bool) (n : ℕ) → (b ≡ true → o ≡ None)
    → cond b (Some n) o ≡ or_last o b n
comes_last (Some i) true n none = absurd (none-some i (sym (none refl)))
comes_last (Some i) false n none = refl
comes_last None true n none = refl
comes_last None false n none = refl

nothing : (o : Option ℕ) → is_some o ≡ false → o ≡ None
nothing (Some at) is = absurd (true≢false is)
nothing None is = refl

-- whether a reference was found
pub was_found : (o : Option (Bor ℕ)) (found : Option ℕ) (b is : Bool) → option_copied o ≡ found
    → b ≡ is_some o → b ≡ is → is_some found ≡ is
was_found o found b is e f t = ap is_some (sym e) ∙ seen_alike o ∙ sym f ∙ t
  where
    seen_alike : (o : Option (Bor ℕ)) → is_some (option_copied o) ≡ is_some o
    seen_alike None = refl
    seen_alike (Some at) = refl

module _ (table : NameMap ℕ) (names : List (List ℕ)) (name : List ℕ)
    (held : HoldsPlaces table names) where
  at_name : (other : List ℕ) → bytes_eq other name ≡ true
      → position (bytes_eq other) names ≡ get table name
  at_name other same =
      ap (λ (k : List ℕ). position (bytes_eq k) names) ((bytes_decides other name).0 same)
      ∙ sym (held name)

  -- a name that is there keeps its place
  pub held_still : is_some (get table name) ≡ true → HoldsPlaces table (names ++ name ∷ [])
  held_still is other =
      held other
      ∙ stays (position (bytes_eq other) names) (bytes_eq other name) (length names)
      (λ same none. true≢false (sym is ∙ ap is_some (sym (at_name other same) ∙ none)))
      ∙ sym (position-push (bytes_eq other) names name)

  -- a name that is not there yet gets the next place
  pub held_more : (at : ℕ) → is_some (get table name) ≡ false → at ≡ length names
      → HoldsPlaces (insert table name at) (names ++ name ∷ [])
  held_more at is last other =
      get-insert nat_list_cmp_total table name at other
      ∙ ap (λ (b : Bool). cond b (Some at) (get table other)) (sym (texts_ties other name))
      ∙ (λ i. cond (bytes_eq other name) (Some (last i)) (held other i))
      ∙ comes_last (position (bytes_eq other) names) (bytes_eq other name) (length names)
      (λ same. at_name other same ∙ nothing (get table name) is)
      ∙ sym (position-push (bytes_eq other) names name)

-- with the next item
pub taken : {A B : Type 0} (f : A → B) (xs : List A) (i : ℕ) (x : A) → i < length xs
    → x ≡ get_or xs i x → map f (take (i + 1) xs) ≡ map f (take i xs) ++ f x ∷ []
taken f xs i x l e =
    ap (map f) (take_more xs i x l ∙ ap (λ y. take i xs ++ y ∷ []) (sym e))
    ∙ map_push f (take i xs) x

pub count_taken : {A B : Type 0} (f : A → B) (xs : List A) (i : ℕ) → i < length xs
    → length (map f (take i xs)) ≡ i
count_taken f xs i l =
    let within : i ≤ length xs = omega (arith, l) in
    length-map (take i xs) f ∙ length-take-le i xs within

greatest_more : (numbers : List ℕ) (n : ℕ) → greatest (numbers ++ n ∷ []) ≡ max (greatest numbers) n
greatest_more [] n = omega arith
greatest_more (m ∷ numbers) n = omega (arith, greatest_more numbers n)

abbrev pub longest : List CodeUnit → ℕ
longest units = greatest (map (λ (unit : CodeUnit). unit.code.stretch) units)

pub longest_more : (units : List CodeUnit) (i : ℕ) (unit : CodeUnit) → i < length units
    → unit ≡ get_or units i unit
    → longest (take (i + 1) units) ≡ max (longest (take i units)) unit.code.stretch
longest_more units i unit l e =
    let stretches = map (λ (unit : CodeUnit). unit.code.stretch) (take i units) in
    ap greatest (taken (λ (unit : CodeUnit). unit.code.stretch) units i unit l e)
    ∙ greatest_more stretches unit.code.stretch
