-- What stands in tables when one place of them is set.
use Rattle.std.proofs.Common.{◌≡◌, ◌⊎◌, ℕ, zero, suc, ◌<◌, Bool, true, false, List, [], ◌∷◌, ◌++◌, ◌==◌, map, set, length, get_or, Option, Some, None, IsSome, slice_get, inl, inr, refl, sym, ap, subst, ◌∙◌, eqb-true, eq-eqb, arith}
use Rattle.std.specs.Prelude.{if◌then◌else◌}
use Rattle.std.specs.Borrow.{Bor}
use Rattle.std.specs.Option.{is_none}
use Rattle.dy_base.specs.declared.ids.BindingId.{BindingId}
use Rattle.dy_base.specs.declared.ids.What.{What}
use Rattle.dy_base.specs.declared.ids.What.TheVariants as whats
use Rattle.dy_term.specs.declared.draft.DraftType.{DraftType}
use Rattle.dy_term.specs.Types.{CoreType, seen_type}
use Rattle.dy_type_names.specs.declared.standing.Standing.{Standing}
use Rattle.dy_type_names.specs.Constants.{row_by, is_row}
use Rattle.dy_type_names.specs.RowTables.{declared_at, seen_written, kept_or}
use Rattle.dy_type_names.specs.Standings.{Rows, at_row, or_no_type, standing_by, IsThere}

clash : (b : Bool) → b ≡ true → b ≡ false → ⊥
clash true e f = absurd cc
clash false e f = absurd cc

flag : (b : Bool) → (b ≡ true) ⊎ (b ≡ false)
flag true = inl refl
flag false = inr refl

chosen : {A : Type 0} (b : Bool) (x y : A) → b ≡ true → (if b then x else y) ≡ x
chosen true x y e = refl
chosen false x y e = absurd cc

passed : {A : Type 0} (b : Bool) (x y : A) → b ≡ false → (if b then x else y) ≡ y
passed true x y e = absurd cc
passed false x y e = refl

set_same : {A : Type 0} (xs : List A) (i : ℕ) (x : A) → i < length xs → slice_get (set xs i x) i ≡ Some x
set_same [] i x l = absurd (omega (arith, l))
set_same (y ∷ xs) zero x l = refl
set_same (y ∷ xs) (suc i) x l = let k : i < length xs = omega (arith, l) in set_same xs i x k

set_other : {A : Type 0} (xs : List A) (i j : ℕ) (x : A) → (i ≡ j → ⊥) → slice_get (set xs i x) j ≡ slice_get xs j
set_other [] i j x n = refl
set_other (y ∷ xs) zero zero x n = absurd (n refl)
set_other (y ∷ xs) zero (suc j) x n = refl
set_other (y ∷ xs) (suc i) zero x n = refl
set_other (y ∷ xs) (suc i) (suc j) x n = set_other xs i j x (λ e. n (ap suc e))

apart : (i j : ℕ) → (i == j) ≡ false → i ≡ j → ⊥
apart i j f e = clash (i == j) (eq-eqb i j e) f

pub get_set : {A : Type 0} (xs : List A) (i j : ℕ) (x : A) → i < length xs → slice_get (set xs i x) j ≡ (if i == j then Some x else slice_get xs j)
get_set xs i j x l = elim (flag (i == j)) [
  | inl hit ↦ ap (slice_get (set xs i x)) (sym (eqb-true i j hit)) ∙ set_same xs i x l ∙ sym (chosen (i == j) (Some x) (slice_get xs j) hit)
  | inr miss ↦ set_other xs i j x (apart i j miss) ∙ sym (passed (i == j) (Some x) (slice_get xs j) miss)
]

pub got : {A : Type 0} (xs : List A) (i : ℕ) (d : A) → i < length xs → slice_get xs i ≡ Some (get_or xs i d)
got [] i d l = absurd (omega (arith, l))
got (x ∷ xs) zero d l = refl
got (x ∷ xs) (suc i) d l = let k : i < length xs = omega (arith, l) in got xs i d k

-- ---- what rows are written as

abbrev pub Drafts : Type 0
Drafts = List (Option (Bor DraftType))

pub at_place : (ws : Drafts) (place : ℕ) (d : Option (Bor DraftType)) → place < length ws → declared_at (map seen_written ws) place ≡ seen_written (get_or ws place d)
at_place [] place d l = absurd (omega (arith, l))
at_place (w ∷ ws) zero d l = refl
at_place (w ∷ ws) (suc place) d l = let k : place < length ws = omega (arith, l) in at_place ws place d k

at_set_same : (ws : Drafts) (place : ℕ) (x : Option (Bor DraftType)) → place < length ws → declared_at (map seen_written (set ws place x)) place ≡ seen_written x
at_set_same [] place x l = absurd (omega (arith, l))
at_set_same (w ∷ ws) zero x l = refl
at_set_same (w ∷ ws) (suc place) x l = let k : place < length ws = omega (arith, l) in at_set_same ws place x k

at_set_other : (ws : Drafts) (place n : ℕ) (x : Option (Bor DraftType)) → (place ≡ n → ⊥) → declared_at (map seen_written (set ws place x)) n ≡ declared_at (map seen_written ws) n
at_set_other [] place n x a = refl
at_set_other (w ∷ ws) zero zero x a = absurd (a refl)
at_set_other (w ∷ ws) zero (suc n) x a = refl
at_set_other (w ∷ ws) (suc place) zero x a = refl
at_set_other (w ∷ ws) (suc place) (suc n) x a = at_set_other ws place n x (λ e. a (ap suc e))

at_set : (ws : Drafts) (place n : ℕ) (x : Option (Bor DraftType)) → place < length ws → declared_at (map seen_written (set ws place x)) n ≡ (if place == n then seen_written x else declared_at (map seen_written ws) n)
at_set ws place n x l = elim (flag (place == n)) [
  | inl hit ↦
      ap (declared_at (map seen_written (set ws place x))) (sym (eqb-true place n hit)) ∙ at_set_same ws place x l
      ∙ sym (chosen (place == n) (seen_written x) (declared_at (map seen_written ws) n) hit)
  | inr miss ↦ at_set_other ws place n x (apart place n miss) ∙ sym (passed (place == n) (seen_written x) (declared_at (map seen_written ws) n) miss)
]

pub at_push : (ws : Drafts) (n : ℕ) → declared_at (map seen_written (ws ++ None ∷ [])) n ≡ declared_at (map seen_written ws) n
at_push [] zero = refl
at_push [] (suc n) = refl
at_push (w ∷ ws) zero = refl
at_push (w ∷ ws) (suc n) = at_push ws n

pub none_seen : (o : Option (Bor DraftType)) → is_none o ≡ true → seen_written o ≡ None
none_seen None e = refl
none_seen (Some x) e = absurd cc

pub some_seen : (o : Option (Bor DraftType)) → is_none o ≡ false → (type : CoreType) × (seen_written o ≡ Some type)
some_seen None e = absurd cc
some_seen (Some x) e = (seen_type x.now, refl)

-- what a row without a constant gets
pub put_new : (ws : Drafts) (place n : ℕ) (x : Bor DraftType) → place < length ws → declared_at (map seen_written ws) place ≡ None
    → declared_at (map seen_written (set ws place (Some x))) n ≡ (if place == n then Some (kept_or (declared_at (map seen_written ws) place) (seen_type x.now)) else declared_at (map seen_written ws) n)
put_new ws place n x l e =
    at_set ws place n (Some x) l
    ∙ ap (λ (o : Option CoreType). if place == n then Some (kept_or o (seen_type x.now)) else declared_at (map seen_written ws) n) (sym e)

-- a row that has one keeps it
pub put_kept : (ws : Drafts) (place n : ℕ) (x kept : CoreType) → declared_at (map seen_written ws) place ≡ Some kept
    → declared_at (map seen_written ws) n ≡ (if place == n then Some (kept_or (declared_at (map seen_written ws) place) x) else declared_at (map seen_written ws) n)
put_kept ws place n x kept e = elim (flag (place == n)) [
  | inl hit ↦
      let same : place ≡ n = eqb-true place n hit in
      ap (declared_at (map seen_written ws)) (sym same) ∙ e
      ∙ sym (chosen (place == n) (Some (kept_or (declared_at (map seen_written ws) place) x)) (declared_at (map seen_written ws) n) hit ∙ ap (λ (o : Option CoreType). Some (kept_or o x)) e)
  | inr miss ↦ sym (passed (place == n) (Some (kept_or (declared_at (map seen_written ws) place) x)) (declared_at (map seen_written ws) n) miss)
]

-- ---- what rows stand for

turned : (i j : ℕ) → (i == j) ≡ true → (j == i) ≡ true
turned i j e = eq-eqb j i (sym (eqb-true i j e))

turned_no : (i j : ℕ) → (i == j) ≡ false → (j == i) ≡ false
turned_no i j e = elim (flag (j == i)) [ inl hit ↦ absurd (both (i == j) (turned j i hit) e) | inr miss ↦ miss ]
  where
    both : (b : Bool) → b ≡ true → b ≡ false → ⊥
    both true e f = absurd cc
    both false e f = absurd cc

at_constant : (rows : Rows) (library row l k : ℕ) (r : List Standing) (s : Standing) → slice_get rows library ≡ Some r → library < length rows → row < length r
    → or_no_type (at_row k (slice_get (set rows library (set r row s)) l)) ≡ (if is_row row (if l == library then Some k else None) then s else or_no_type (at_row k (slice_get rows l)))
at_constant rows library row l k r s e low within = elim (flag (l == library)) [
  | inl hit ↦
      let same : library ≡ l = sym (eqb-true l library hit) in
      ap (λ (o : Option (List Standing)). or_no_type (at_row k o)) (get_set rows library l (set r row s) low ∙ chosen (library == l) (Some (set r row s)) (slice_get rows l) (turned l library hit))
      ∙ ap or_no_type (get_set r row k s within)
      ∙ at_own k
      ∙ ap (λ (o : Option (List Standing)). if is_row row (Some k) then s else or_no_type (at_row k o)) (sym e ∙ ap (slice_get rows) same)
      ∙ ap (λ (o : Option ℕ). if is_row row o then s else or_no_type (at_row k (slice_get rows l))) (sym (chosen (l == library) (Some k) None hit))
  | inr miss ↦
      ap (λ (o : Option (List Standing)). or_no_type (at_row k o)) (get_set rows library l (set r row s) low ∙ passed (library == l) (Some (set r row s)) (slice_get rows l) (turned_no l library miss))
      ∙ ap (λ (o : Option ℕ). if is_row row o then s else or_no_type (at_row k (slice_get rows l))) (sym (passed (l == library) (Some k) None miss))
]
  where
    at_own : (k : ℕ) → or_no_type (if row == k then Some s else slice_get r k) ≡ (if row == k then s else or_no_type (slice_get r k))
    at_own k = elim (flag (row == k)) [
      | inl hit ↦ ap or_no_type (chosen (row == k) (Some s) (slice_get r k) hit) ∙ sym (chosen (row == k) s (or_no_type (slice_get r k)) hit)
      | inr miss ↦ ap or_no_type (passed (row == k) (Some s) (slice_get r k) miss) ∙ sym (passed (row == k) s (or_no_type (slice_get r k)) miss)
    ]

pub at_binding : (rows : Rows) (library row : ℕ) (r : List Standing) (s : Standing) → slice_get rows library ≡ Some r → library < length rows → row < length r → (b : BindingId) (w : What)
    → standing_by (set rows library (set r row s)) b w ≡ (if is_row row (row_by library b w) then s else standing_by rows b w)
at_binding rows library row r s e low within b whats.Class = refl
at_binding rows library row r s e low within b whats.Generic = refl
at_binding rows library row r s e low within b whats.Variable = refl
at_binding rows library row r s e low within b whats.Constant = at_constant rows library row b.at.library b.at.row r s e low within
at_binding rows library row r s e low within b whats.Function = refl
at_binding rows library row r s e low within b whats.Macro = refl

-- ---- the rows that are there

pub there_within : (rows : Rows) (library row : ℕ) (r : List Standing) → slice_get rows library ≡ Some r → IsThere library row rows → row < length r
there_within rows library row r e t = some_within r row (subst (λ (o : Option (List Standing)). IsSome (at_row row o)) e t)
  where
    some_within : (xs : List Standing) (i : ℕ) → IsSome (slice_get xs i) → i < length xs
    some_within [] i e = absurd cc
    some_within (x ∷ xs) zero e = omega arith
    some_within (x ∷ xs) (suc i) e = let l : i < length xs = some_within xs i e in omega (arith, l)

pub there_low : (rows : Rows) (library row : ℕ) → IsThere library row rows → library < length rows
there_low [] library row t = absurd cc
there_low (r ∷ rows) zero row t = omega arith
there_low (r ∷ rows) (suc library) row t = let l : library < length rows = there_low rows library row t in omega (arith, l)

pub there_still : (rows : Rows) (library row n : ℕ) (r : List Standing) (s : Standing) → slice_get rows library ≡ Some r → library < length rows → row < length r → IsThere library n rows → IsThere library n (set rows library (set r row s))
there_still rows library row n r s e low within t =
    subst (λ (o : Option (List Standing)). IsSome (at_row n o)) (sym (get_set rows library library (set r row s) low ∙ chosen (library == library) (Some (set r row s)) (slice_get rows library) (eq-eqb library library refl)))
    (subst (λ (o : Option Standing). IsSome o) (sym (get_set r row n s within)) (still (row == n) (slice_get r n) (subst (λ (o : Option (List Standing)). IsSome (at_row n o)) e t)))
  where
    still : (b : Bool) (o : Option Standing) → IsSome o → IsSome (if b then Some s else o)
    still true o i = refl
    still false o i = i
