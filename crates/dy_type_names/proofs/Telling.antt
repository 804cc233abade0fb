-- The faults of the constants on rings, by their rows.
use Rattle.std.proofs.Common.{◌≡◌, ℕ, Bool, true, false, List, [], ◌∷◌, ◌++◌, ◌&&◌, Option, Some, None, slice_get, refl, sym, ap, ◌∙◌, append_assoc, append-nil}
use Rattle.std.specs.Prelude.{if◌then◌else◌}
use Rattle.std.specs.Option.{is_none}
use Rattle.dy_base.specs.declared.fault.Fault.{Fault}
use Rattle.dy_base.specs.declared.ids.BindingId.{BindingId}
use Rattle.dy_tree.specs.declared.token.Token.{Token}
use Rattle.dy_term.specs.Types.{CoreType}
use Rattle.dy_names.specs.Naming.{Table}
use Rattle.dy_type_names.specs.Constants.{Constant, row_of, row_owned, is_row, first_of, first_of_row, written_as, is_first_on_ring, ring_told, ring_faults}
use Rattle.dy_type_names.specs.RowTables.{Written, declared_at, row_if_new, new_row, first_rows, IsTable, told_at, truth, told_on}
use Rattle.dy_type_names.proofs.Rows.{is_row_same}

told_on_append : (written : Written) (on_ring : List Bool) (xs ys : List ℕ) → told_on written on_ring (xs ++ ys) ≡ told_on written on_ring xs ++ told_on written on_ring ys
told_on_append written on_ring [] ys = refl
told_on_append written on_ring (x ∷ xs) ys =
    ap (λ (fs : List Fault). told_at (truth (slice_get on_ring x)) (declared_at written x) ++ fs) (told_on_append written on_ring xs ys)
    ∙ sym (append_assoc (told_at (truth (slice_get on_ring x)) (declared_at written x)) (told_on written on_ring xs) (told_on written on_ring ys))

and_no : (b : Bool) → (b && false) ≡ false
and_no true = refl
and_no false = refl

and_yes : (b : Bool) → (b && true) ≡ b
and_yes true = refl
and_yes false = refl

told_if : (b : Bool) (type : CoreType) → told_at b (Some type) ≡ (if b then ring_told type else [])
told_if true type = refl
told_if false type = refl

chosen : (b : Bool) (type : CoreType) (rest : Option CoreType) → b ≡ true → (if b then Some type else rest) ≡ Some type
chosen true type rest e = refl
chosen false type rest e = absurd cc

passed : (b : Bool) (type : CoreType) (rest : Option CoreType) → (if b then Some type else rest) ≡ None → b ≡ false
passed true type rest e = absurd cc
passed false type rest e = refl

passed_on : (b : Bool) (type : CoreType) (rest : Option CoreType) → (if b then Some type else rest) ≡ None → rest ≡ None
passed_on true type rest e = absurd cc
passed_on false type rest e = e

behind : (b : Bool) (type : CoreType) (rest more : Option CoreType) → b ≡ false → rest ≡ more → (if b then Some type else rest) ≡ more
behind true type rest more e f = absurd cc
behind false type rest more e f = f

module _ (table : Table) (library : ℕ) where
  -- where none of some constants is of a row, the first of others behind them is the first of all
  first_behind : (row : ℕ) (before rest : List Constant) → first_of_row table library row before ≡ None → first_of_row table library row (before ++ rest) ≡ first_of_row table library row rest
  first_behind row [] rest e = refl
  first_behind row (c ∷ before) rest e =
      behind (is_row row (row_owned library (table c.0))) c.1 (first_of_row table library row (before ++ rest)) (first_of_row table library row rest)
      (passed (is_row row (row_owned library (table c.0))) c.1 (first_of_row table library row before) e)
      (first_behind row before rest (passed_on (is_row row (row_owned library (table c.0))) c.1 (first_of_row table library row before) e))

  module _ (written : Written) (on_ring : List Bool) (ring : BindingId → Bool) (row_ring : Option ℕ → Bool) (N : row_ring None ≡ false) (S : (row : ℕ) → row_ring (Some row) ≡ truth (slice_get on_ring row))
      (G : (b : BindingId) → ring b ≡ row_ring (row_of library b)) where
    abbrev told_here : List Constant → Constant → List Fault
    told_here before constant = if is_first_on_ring table library ring before (table constant.0) then ring_told constant.1 else []

    at_row : (row : ℕ) (name : Token) (type : CoreType) (before : List Constant) (b : BindingId) (f : Option CoreType) → row_of library b ≡ Some row → first_of_row table library row before ≡ f
        → (f ≡ None → declared_at written row ≡ Some type)
        → told_on written on_ring (row_if_new f row) ≡ (if ring b && is_none f then ring_told type else [])
    at_row row name type before b None r e d =
        append-nil (told_at (truth (slice_get on_ring row)) (declared_at written row))
        ∙ ap (told_at (truth (slice_get on_ring row))) (d refl) ∙ told_if (truth (slice_get on_ring row)) type
        ∙ ap (λ (is : Bool). if is then ring_told type else []) (sym (and_yes (ring b) ∙ G b ∙ ap row_ring r ∙ S row))
    at_row row name type before b (Some kept) r e d = ap (λ (is : Bool). if is then ring_told type else []) (sym (and_no (ring b)))

    at_binding : (name : Token) (type : CoreType) (before rest : List Constant) (b : BindingId) (r : Option ℕ) → row_of library b ≡ r → table name ≡ Some b
        → ((row : ℕ) → declared_at written row ≡ first_of_row table library row (before ++ (name, type) ∷ rest))
        → told_on written on_ring (new_row table library before (row_of library b)) ≡ (if is_first_on_ring table library ring before (Some b) then ring_told type else [])
    at_binding name type before rest b None r o d =
        ap (λ n. told_on written on_ring (new_row table library before n)) r
        ∙ ap (λ (is : Bool). if is && is_none (written_as table library before b) then ring_told type else []) (sym (G b ∙ ap row_ring r ∙ N))
    at_binding name type before rest b (Some row) r o d =
        ap (λ n. told_on written on_ring (new_row table library before n)) r
        ∙ at_row row name type before b (first_of_row table library row before) r refl
        (λ none. d row ∙ first_behind row before ((name, type) ∷ rest) none
        ∙ chosen (is_row row (row_owned library (table name))) type (first_of_row table library row rest) (is_row_same row row (row_owned library (table name)) (ap (row_owned library) o ∙ r) refl))
        ∙ ap (λ n. if ring b && is_none (first_of table library before n) then ring_told type else []) (sym r)

    at_owner : (name : Token) (type : CoreType) (before rest : List Constant) (owner : Option BindingId) → table name ≡ owner
        → ((row : ℕ) → declared_at written row ≡ first_of_row table library row (before ++ (name, type) ∷ rest))
        → told_on written on_ring (new_row table library before (row_owned library owner)) ≡ (if is_first_on_ring table library ring before owner then ring_told type else [])
    at_owner name type before rest None o d = refl
    at_owner name type before rest (Some b) o d = at_binding name type before rest b (row_of library b) refl o d

    told_behind : (before constants : List Constant) → ((row : ℕ) → declared_at written row ≡ first_of_row table library row (before ++ constants))
        → told_on written on_ring (first_rows table library before constants) ≡ ring_faults table library ring before constants
    told_behind before [] d = refl
    told_behind before (c ∷ constants) d =
        told_on_append written on_ring (new_row table library before (row_owned library (table c.0))) (first_rows table library (before ++ c ∷ []) constants)
        ∙ ap (λ (fs : List Fault). fs ++ told_on written on_ring (first_rows table library (before ++ c ∷ []) constants)) (at_owner c.0 c.1 before constants (table c.0) refl d)
        ∙ ap (λ (fs : List Fault). told_here before c ++ fs)
        (told_behind (before ++ c ∷ []) constants (λ row. d row ∙ ap (first_of_row table library row) (sym (append_assoc before (c ∷ []) constants))))

    -- the faults of the rows are those of the constants
    pub told_is : (constants : List Constant) (rows : List ℕ) → IsTable table library constants written rows → told_on written on_ring rows ≡ ring_faults table library ring [] constants
    told_is constants rows T = ap (told_on written on_ring) T.listed ∙ told_behind [] constants T.at
