-- One constant more in the table of rows.
use Rattle.std.proofs.Common.{◌≡◌, ◌⊎◌, ℕ, ◌<◌, ◌^◌, Bool, true, false, List, [], ◌∷◌, ◌++◌, ◌==◌, length, Option, Some, None, inl, inr, refl, sym, ap, subst, ◌∙◌, append_assoc, append-nil, eqb-true, eq-eqb}
use Rattle.std.specs.Prelude.{if◌then◌else◌}
use Rattle.dy_term.specs.Types.{CoreType}
use Rattle.dy_names.specs.Naming.{Table}
use Rattle.dy_type_names.specs.Constants.{Constant, row_owned, is_row, first_of_row}
use Rattle.dy_type_names.specs.RowTables.{Written, declared_at, row_if_new, kept_or, new_row, first_rows, IsTable}
use Rattle.dy_type_names.proofs.Rows.{is_row_same, is_row_other}

abbrev or_else : Option CoreType → Option CoreType → Option CoreType
or_else None behind = behind
or_else (Some first) behind = Some first

or_if : (b : Bool) (x : CoreType) (y z o : Option CoreType) → y ≡ or_else z o → (if b then Some x else y) ≡ or_else (if b then Some x else z) o
or_if true x y z o e = refl
or_if false x y z o e = e

or_none : (o : Option CoreType) → or_else o None ≡ o
or_none None = refl
or_none (Some x) = refl

or_kept : (o : Option CoreType) (x : CoreType) → or_else o (Some x) ≡ Some (kept_or o x)
or_kept None x = refl
or_kept (Some y) x = refl

chosen : (b : Bool) (x y : Option CoreType) → b ≡ true → (if b then x else y) ≡ x
chosen true x y e = refl
chosen false x y e = absurd cc

passed : (b : Bool) (x y : Option CoreType) → b ≡ false → (if b then x else y) ≡ y
passed true x y e = absurd cc
passed false x y e = refl

flag : (b : Bool) → (b ≡ true) ⊎ (b ≡ false)
flag true = inl refl
flag false = inr refl

true_is_not : (b : Bool) → b ≡ true → b ≡ false → ⊥
true_is_not true e f = absurd cc
true_is_not false e f = absurd cc

same_test : (row n : ℕ) → Some row ≡ Some n → (row == n) ≡ true
same_test row n e = let k : row ≡ n = cc in eq-eqb row n k

module _ (table : Table) (library : ℕ) where
  first_of_push : (row : ℕ) (cs : List Constant) (c : Constant)
      → first_of_row table library row (cs ++ c ∷ []) ≡ or_else (first_of_row table library row cs) (if is_row row (row_owned library (table c.0)) then Some c.1 else None)
  first_of_push row [] c = refl
  first_of_push row (d ∷ cs) c =
      or_if (is_row row (row_owned library (table d.0))) d.1 (first_of_row table library row (cs ++ c ∷ [])) (first_of_row table library row cs)
      (if is_row row (row_owned library (table c.0)) then Some c.1 else None) (first_of_push row cs c)

  first_rows_push : (before cs : List Constant) (c : Constant) → first_rows table library before (cs ++ c ∷ []) ≡ first_rows table library before cs ++ new_row table library (before ++ cs) (row_owned library (table c.0))
  first_rows_push before [] c =
      append-nil (new_row table library before (row_owned library (table c.0)))
      ∙ ap (λ (cs : List Constant). new_row table library cs (row_owned library (table c.0))) (sym (append-nil before))
  first_rows_push before (d ∷ cs) c =
      ap (λ (rows : List ℕ). new_row table library before (row_owned library (table d.0)) ++ rows) (first_rows_push (before ++ d ∷ []) cs c)
      ∙ sym (append_assoc (new_row table library before (row_owned library (table d.0))) (first_rows table library (before ++ d ∷ []) cs)
      (new_row table library ((before ++ d ∷ []) ++ cs) (row_owned library (table c.0))))
      ∙ ap (λ (bs : List Constant). first_rows table library before (d ∷ cs) ++ new_row table library bs (row_owned library (table c.0))) (append_assoc before (d ∷ []) cs)

  pub table_empty : (written : Written) (rows : List ℕ) → written ≡ [] → rows ≡ [] → 0 < 2 ^ 32 → IsTable table library [] written rows
  table_empty written rows e f l = record {
    at = λ row. ap (λ (w : Written). declared_at w row) e;
    listed = f;
    least = subst (λ (w : Written). length w < 2 ^ 32) (sym e) l;
  }

  -- one that is no constant of this library
  pub table_kept : (cs : List Constant) (written : Written) (rows : List ℕ) (c : Constant) → IsTable table library cs written rows → row_owned library (table c.0) ≡ None → IsTable table library (cs ++ c ∷ []) written rows
  table_kept cs written rows c T none = record {
    at = λ row.
        T.at row ∙ sym (first_of_push row cs c
        ∙ ap (λ (o : Option ℕ). or_else (first_of_row table library row cs) (if is_row row o then Some c.1 else None)) none
        ∙ or_none (first_of_row table library row cs));
    listed =
        T.listed ∙ sym (first_rows_push [] cs c
        ∙ ap (λ (o : Option ℕ). first_rows table library [] cs ++ new_row table library cs o) none
        ∙ append-nil (first_rows table library [] cs));
    least = T.least;
  }

  -- one of a row
  pub table_added : (cs : List Constant) (written again : Written) (rows more : List ℕ) (c : Constant) (row : ℕ) → IsTable table library cs written rows → row_owned library (table c.0) ≡ Some row
      → ((n : ℕ) → declared_at again n ≡ (if row == n then Some (kept_or (declared_at written row) c.1) else declared_at written n))
      → more ≡ rows ++ row_if_new (declared_at written row) row → length again < 2 ^ 32 → IsTable table library (cs ++ c ∷ []) again more
  table_added cs written again rows more c row T e A L S = record {
    at = λ n.
        A n ∙ at_each n
        ∙ sym (first_of_push n cs c
        ∙ ap (λ (o : Option ℕ). or_else (first_of_row table library n cs) (if is_row n o then Some c.1 else None)) e);
    listed =
        L ∙ ap (λ (rs : List ℕ). rs ++ row_if_new (declared_at written row) row) T.listed
        ∙ ap (λ (o : Option CoreType). first_rows table library [] cs ++ row_if_new o row) (T.at row)
        ∙ sym (first_rows_push [] cs c ∙ ap (λ (o : Option ℕ). first_rows table library [] cs ++ new_row table library cs o) e);
    least = S;
  }
    where
      at_each : (n : ℕ) → (if row == n then Some (kept_or (declared_at written row) c.1) else declared_at written n)
          ≡ or_else (first_of_row table library n cs) (if is_row n (Some row) then Some c.1 else None)
      at_each n = elim (flag (row == n)) [
        | inl hit ↦
            let same : row ≡ n = eqb-true row n hit in
            chosen (row == n) (Some (kept_or (declared_at written row) c.1)) (declared_at written n) hit
            ∙ ap (λ (o : Option CoreType). Some (kept_or o c.1)) (ap (declared_at written) same ∙ T.at n)
            ∙ sym (ap (or_else (first_of_row table library n cs)) (chosen (is_row n (Some row)) (Some c.1) None (is_row_same n row (Some row) refl (sym same)))
            ∙ or_kept (first_of_row table library n cs) c.1)
        | inr miss ↦
            passed (row == n) (Some (kept_or (declared_at written row) c.1)) (declared_at written n) miss ∙ T.at n
            ∙ sym (ap (or_else (first_of_row table library n cs)) (passed (is_row n (Some row)) (Some c.1) None (is_row_other n (Some row) (λ q. true_is_not (row == n) (same_test row n q) miss)))
            ∙ or_none (first_of_row table library n cs))
      ]
