-- What is listed at the places of lists that are made of others.
use Rattle.std.proofs.Common.{◌≡◌, ℕ, zero, suc, ◌<◌, List, [], ◌∷◌, ◌++◌, map, length, Option, Some, None, slice_get, option_map, inl, inr, refl, sym, ap, subst, ◌∙◌, append_assoc, arith}
use Rattle.dy_tree.specs.declared.token.Token.{Token}
use Rattle.dy_term.specs.Types.{CoreType}
use Rattle.dy_names.specs.Naming.{Table}
use Rattle.dy_rings.specs.Rings.{In, listed}
use Rattle.dy_rings.specs.Rings.{uses_at as used_by}
use Rattle.dy_type_names.specs.Constants.{row_owned, names_in}
use Rattle.dy_type_names.specs.RowTables.{Written, flat, declared_at, row_if_there, used_row, rows_used, uses_at, uses_of}
use Rattle.dy_type_names.proofs.Ins.{in_left, in_right, in_cases}

pub get_map : {A B : Type 0} (f : A → B) (xs : List A) (i : ℕ) → slice_get (map f xs) i ≡ option_map f (slice_get xs i)
get_map f [] i = refl
get_map f (x ∷ xs) zero = refl
get_map f (x ∷ xs) (suc i) = get_map f xs i

pub get_within : {A : Type 0} (xs : List A) (i : ℕ) (x : A) → slice_get xs i ≡ Some x → i < length xs
get_within [] i x e = absurd cc
get_within (y ∷ xs) zero x e = omega arith
get_within (y ∷ xs) (suc i) x e = let l : i < length xs = get_within xs i x e in omega (arith, l)

got : (o : Option (Option CoreType)) (type : CoreType) → flat o ≡ Some type → o ≡ Some (Some type)
got None type e = absurd cc
got (Some (Some other)) type e = ap Some e
got (Some None) type e = absurd cc

pub declared_got : (written : Written) (row : ℕ) (type : CoreType) → declared_at written row ≡ Some type → slice_get written row ≡ Some (Some type)
declared_got written row type e = got (slice_get written row) type e

pub declared_within : (written : Written) (row : ℕ) (type : CoreType) → declared_at written row ≡ Some type → row < length written
declared_within written row type e = get_within written row (Some type) (declared_got written row type e)

there_in : (o : Option CoreType) (row : ℕ) (type : CoreType) → o ≡ Some type → In row (row_if_there o row)
there_in None row type e = absurd cc
there_in (Some other) row type e = inl refl

there_back : (o : Option CoreType) (row other : ℕ) → In row (row_if_there o other) → (row ≡ other) × ((type : CoreType) × (o ≡ Some type))
there_back None row other i = absurd i
there_back (Some type) row other (inl e) = (e, (type, refl))
there_back (Some type) row other (inr i) = absurd i

used_in : (written : Written) (o : Option ℕ) (row : ℕ) (type : CoreType) → o ≡ Some row → declared_at written row ≡ Some type → In row (used_row written o)
used_in written None row type e d = absurd cc
used_in written (Some other) row type e d =
    let k : other ≡ row = cc in
    subst (λ n. In row (used_row written (Some n))) (sym k) (there_in (declared_at written row) row type d)

used_back : (written : Written) (o : Option ℕ) (row : ℕ) → In row (used_row written o) → (o ≡ Some row) × ((type : CoreType) × (declared_at written row ≡ Some type))
used_back written None row i = absurd i
used_back written (Some other) row i =
    let back = there_back (declared_at written other) row other i in
    (ap Some (sym back.0), (back.1.0, ap (declared_at written) back.0 ∙ back.1.1))

module _ (table : Table) (library : ℕ) (written : Written) where
  rows_in : (names : List Token) (name : Token) (row : ℕ) (type : CoreType) → In name names → row_owned library (table name) ≡ Some row → declared_at written row ≡ Some type
      → In row (rows_used table library written names)
  rows_in [] name row type i o d = absurd i
  rows_in (first ∷ names) name row type (inl e) o d =
      in_left row (used_row written (row_owned library (table first))) (rows_used table library written names)
      (used_in written (row_owned library (table first)) row type (ap (λ n. row_owned library (table n)) (sym e) ∙ o) d)
  rows_in (first ∷ names) name row type (inr i) o d =
      in_right row (used_row written (row_owned library (table first))) (rows_used table library written names) (rows_in names name row type i o d)

  pub rows_append : (names others : List Token) → rows_used table library written (names ++ others) ≡ rows_used table library written names ++ rows_used table library written others
  rows_append [] others = refl
  rows_append (first ∷ names) others =
      ap (λ (rows : List ℕ). used_row written (row_owned library (table first)) ++ rows) (rows_append names others)
      ∙ sym (append_assoc (used_row written (row_owned library (table first))) (rows_used table library written names) (rows_used table library written others))

  rows_back : (names : List Token) (row : ℕ) → In row (rows_used table library written names)
      → (name : Token) × In name names × (row_owned library (table name) ≡ Some row) × ((type : CoreType) × (declared_at written row ≡ Some type))
  rows_back [] row i = absurd i
  rows_back (first ∷ names) row i = elim (in_cases row (used_row written (row_owned library (table first))) (rows_used table library written names) i) [
    | inl a ↦ let back = used_back written (row_owned library (table first)) row a in (first, inl refl, back.0, back.1)
    | inr b ↦ let back = rows_back names row b in (back.0, inr back.1, back.2, back.3)
  ]

  -- what the row of a constant uses
  pub used_by_row : (row : ℕ) (type : CoreType) → declared_at written row ≡ Some type → used_by (uses_of table library written) row ≡ rows_used table library written (names_in type)
  used_by_row row type d =
      ap listed (get_map (uses_at table library written) written row ∙ ap (option_map (uses_at table library written)) (declared_got written row type d))

  pub uses_there : (row other : ℕ) (type used : CoreType) (name : Token) → declared_at written row ≡ Some type → In name (names_in type) → row_owned library (table name) ≡ Some other → declared_at written other ≡ Some used
      → In other (used_by (uses_of table library written) row)
  uses_there row other type used name d i o u =
      subst (λ rows. In other rows) (sym (used_by_row row type d)) (rows_in (names_in type) name other used i o u)

  none_used : (o : Option (Option CoreType)) → flat o ≡ None → listed (option_map (uses_at table library written) o) ≡ []
  none_used None e = refl
  none_used (Some None) e = refl
  none_used (Some (Some type)) e = absurd cc

  -- what uses a row is written as a type that names its constant
  uses_by : (d : Option CoreType) (row other : ℕ) → declared_at written row ≡ d → In other (used_by (uses_of table library written) row)
      → (type : CoreType) × (declared_at written row ≡ Some type) × ((name : Token) × In name (names_in type) × (row_owned library (table name) ≡ Some other) × ((used : CoreType) × (declared_at written other ≡ Some used)))
  uses_by None row other d i =
      absurd (subst (λ rows. In other rows) (ap listed (get_map (uses_at table library written) written row) ∙ none_used (slice_get written row) d) i)
  uses_by (Some type) row other d i =
      (type, d, rows_back (names_in type) other (subst (λ rows. In other rows) (used_by_row row type d) i))

  pub uses_back : (row other : ℕ) → In other (used_by (uses_of table library written) row)
      → (type : CoreType) × (declared_at written row ≡ Some type) × ((name : Token) × In name (names_in type) × (row_owned library (table name) ≡ Some other) × ((used : CoreType) × (declared_at written other ≡ Some used)))
  uses_back row other i = uses_by (declared_at written row) row other refl i
