-- Lists of owners that are compared, and modules of libraries row by row.
use Rattle.std.proofs.Common.{◌≡◌, ℕ, zero, suc, ◌+◌, Bool, true, false, ◌&&◌, if◌then◌else◌, nat_eq, List, [], ◌∷◌, ◌++◌, length, drop, Option, Some, None, slice_get, append_assoc, append-nil, refl, sym, ap, ◌∙◌, arith}
use Rattle.std.specs.Str.{bytes_eq}
use Rattle.dy_base.specs.Tables.{NamedList}
use Rattle.dy_modules.specs.declared.owner.Owner.{Owner}
use Rattle.dy_modules.specs.declared.clause.UseClause.{UseClause}
use Rattle.dy_modules.specs.Clauses.{Name, brought, is_same_owner}
use Rattle.dy_modules.proofs.Rows.{one_more}
use Rattle.dy_modules.proofs.Says.{is_eq}
use Rattle.dy_module_numbers.specs.Numbers.{same_given, is_same_row, with_brought, brought_modules, with_row}

both_tests : (b c r : Bool) → (if b then (if c then r else false) else false) ≡ ((b && c) && r)
both_tests true true r = refl
both_tests true false r = refl
both_tests false c r = refl

given_suc : (xs ys : NamedList Owner) → length xs ≡ length ys → (i : ℕ) → same_given (drop i xs) (drop i ys) ≡ (is_same_row (slice_get xs i) (slice_get ys i) && same_given (drop (suc i) xs) (drop (suc i) ys))
given_suc [] [] e zero = refl
given_suc [] [] e (suc i) = refl
given_suc [] (y ∷ ys) e i = absurd (omega (arith, e))
given_suc (x ∷ xs) [] e i = absurd (omega (arith, e))
given_suc (x ∷ xs) (y ∷ ys) e zero = both_tests (bytes_eq x.0 y.0) (is_same_owner x.1 y.1) (same_given xs ys)
given_suc (x ∷ xs) (y ∷ ys) e (suc i) = given_suc xs ys (omega (arith, e)) i

pub given_more : (xs ys : NamedList Owner) → length xs ≡ length ys → (i : ℕ) → same_given (drop i xs) (drop i ys) ≡ (is_same_row (slice_get xs i) (slice_get ys i) && same_given (drop (i + 1) xs) (drop (i + 1) ys))
given_more xs ys e i = given_suc xs ys e i ∙ ap (λ j. is_same_row (slice_get xs i) (slice_get ys i) && same_given (drop j xs) (drop j ys)) (one_more i)

-- lists of other lengths differ
pub given_apart : (xs ys : NamedList Owner) → (length xs ≡ length ys → ⊥) → same_given xs ys ≡ false
given_apart [] [] other = absurd (other refl)
given_apart [] (y ∷ ys) other = refl
given_apart (x ∷ xs) [] other = refl
given_apart (x ∷ xs) (y ∷ ys) other = by_tests (bytes_eq x.0 y.0) (is_same_owner x.1 y.1) (given_apart xs ys (λ e. other (ap suc e)))
  where
    by_tests : (b c : Bool) → same_given xs ys ≡ false → (if b then (if c then same_given xs ys else false) else false) ≡ false
    by_tests true true e = e
    by_tests true false e = refl
    by_tests false c e = refl

never_zero : (n : ℕ) → nat_eq (suc n) 0 ≡ false
never_zero n = by_test (nat_eq (suc n) 0) refl
  where
    by_test : (b : Bool) → nat_eq (suc n) 0 ≡ b → b ≡ false
    by_test true e = absurd (omega (arith, is_eq (suc n) 0 e))
    by_test false e = refl

pub given_none : (xs : NamedList Owner) → nat_eq (length xs) 0 ≡ same_given xs []
given_none [] = refl
given_none (x ∷ xs) = never_zero (length xs)

pub none_given : (xs : NamedList Owner) → nat_eq (length xs) 0 ≡ same_given [] xs
none_given [] = refl
none_given (x ∷ xs) = never_zero (length xs)

-- a row more of what a clause makes of modules
with_here : (pairs : NamedList ℕ) (o : Option Name) (v : ℕ) (rest : NamedList ℕ) → (pairs ++ with_brought o v []) ++ rest ≡ pairs ++ with_brought o v rest
with_here pairs None v rest = ap (λ l. l ++ rest) (append-nil pairs)
with_here pairs (Some name) v rest = append_assoc pairs ((name, v) ∷ []) rest

brought_suc : (u : UseClause) (pairs rows : NamedList ℕ) (i : ℕ) → with_row pairs u (slice_get rows i) ++ brought_modules u (drop (suc i) rows) ≡ pairs ++ brought_modules u (drop i rows)
brought_suc u pairs [] zero = refl
brought_suc u pairs [] (suc i) = refl
brought_suc u pairs (r ∷ rows) zero = with_here pairs (brought u r.0) r.1 (brought_modules u rows)
brought_suc u pairs (r ∷ rows) (suc i) = brought_suc u pairs rows i

pub brought_more : (u : UseClause) (pairs rows : NamedList ℕ) (i : ℕ) → with_row pairs u (slice_get rows i) ++ brought_modules u (drop (i + 1) rows) ≡ pairs ++ brought_modules u (drop i rows)
brought_more u pairs rows i = ap (λ j. with_row pairs u (slice_get rows i) ++ brought_modules u (drop j rows)) (sym (one_more i)) ∙ brought_suc u pairs rows i
