-- One row is evaluated behind others.
use Rattle.std.proofs.Common.{◌≡◌, ◌⊎◌, ◌↔◌, ℕ, ◌<◌, Bool, true, false, List, [], ◌∷◌, ◌++◌, ◌+◌, length, take, drop, get_or, take-append-drop, Option, Some, None, slice_get, inl, inr, refl, sym, ap, subst, ◌∙◌, arith}
use Rattle.std.specs.Prelude.{if◌then◌else◌}
use Rattle.std.proofs.Math.Path.{fun_ext}
use Rattle.std.proofs.lemmas.List.{length-map, at_drop_more}
use Rattle.dy_base.specs.declared.ids.BindingId.{BindingId}
use Rattle.dy_tree.specs.declared.token.Token.{Token}
use Rattle.dy_term.specs.Types.{CoreType}
use Rattle.dy_names.specs.Naming.{Table}
use Rattle.dy_rings.specs.Rings.{In, Once, Before, Leads, further, IsBehindUsed}
use Rattle.dy_rings.specs.Rings.{Uses as RowUses}
use Rattle.dy_type_names.specs.declared.standing.Standing.{Standing}
use Rattle.dy_type_names.specs.declared.standing.Standing.TheVariants.{Faulty}
use Rattle.dy_type_names.specs.Members.{ReadType, read_members}
use Rattle.dy_type_names.specs.Constants.{row_of, row_owned, is_row, names_in}
use Rattle.dy_type_names.specs.RowTables.{Written, declared_at, uses_at, uses_of, truth}
use Rattle.dy_type_names.specs.Standings.{standing_of}
use Rattle.dy_type_names.specs.Evaluations.{declared_standing, with_row, AreEvaluated}
use Rattle.dy_type_names.proofs.Ins.{in_left, in_right, in_cases}
use Rattle.dy_type_names.proofs.Listed.{none_behind}
use Rattle.dy_type_names.proofs.Rows.{is_row_same, is_row_other, is_row_back}
use Rattle.dy_type_names.proofs.Tables.{declared_within, uses_there}
use Rattle.dy_type_names.proofs.ReadParts.{read_same}

choice_same : (b : Bool) (s t : Standing) → (b ≡ false → s ≡ t) → (if b then Faulty else s) ≡ (if b then Faulty else t)
choice_same true s t h = refl
choice_same false s t h = h refl

if_true : (b : Bool) (s t : Standing) → b ≡ true → (if b then s else t) ≡ s
if_true true s t e = refl
if_true false s t e = absurd cc

if_false : (b : Bool) (s t : Standing) → b ≡ false → (if b then s else t) ≡ t
if_false true s t e = absurd cc
if_false false s t e = refl

bool_cases : (b : Bool) → (b ≡ true) ⊎ (b ≡ false)
bool_cases true = inl refl
bool_cases false = inr refl

pub split_at : (xs : List ℕ) (i d : ℕ) → i < length xs → xs ≡ take i xs ++ get_or xs i d ∷ drop (i + 1) xs
split_at xs i d l = sym (take-append-drop i xs) ∙ at_drop_more (λ (ys : List ℕ). take i xs ++ ys) xs i d l

true_is_not : (b : Bool) → b ≡ true → b ≡ false → ⊥
true_is_not true e f = absurd cc
true_is_not false e f = absurd cc

not_both : (o : Option CoreType) (type : CoreType) → o ≡ Some type → o ≡ None → ⊥
not_both None type e f = absurd cc
not_both (Some other) type e f = absurd cc

pub with_same : (table : Table) (library row : ℕ) (ring is : Bool) (o declared : Option CoreType) (before : BindingId → Standing) (b : BindingId) → ring ≡ is → o ≡ declared
    → with_row table library row ring o before b ≡ with_row table library row is declared before b
with_same table library row ring is o declared before b e f =
    ap (λ (x : Bool). with_row table library row x o before b) e ∙ ap (λ (x : Option CoreType). with_row table library row is x before b) f

module _ (table : Table) (library : ℕ) (written : Written) (on_ring : List Bool) where
  -- none of these rows that is on no ring is written as a type that names this one
  abbrev Quiet : ℕ → List ℕ → Type 0
  Quiet row rows = (user : ℕ) (type : CoreType) → In user rows → declared_at written user ≡ Some type → truth (slice_get on_ring user) ≡ false
      → (name : Token) → In name (names_in type) → (row_owned library (table name) ≡ Some row → ⊥)

  -- where a row is put, what a type without its name stands for stays
  kept_read : (row : ℕ) (s : Standing) (before after : BindingId → Standing) → ((b : BindingId) → after b ≡ (if is_row row (row_of library b) then s else before b))
      → (type : CoreType) → ((name : Token) → In name (names_in type) → (row_owned library (table name) ≡ Some row → ⊥))
      → read_members before table [] type ≡ read_members after table [] type
  kept_read row s before after P type quiet =
      read_same table [] before after type (λ name b i o.
      sym (P b ∙ if_false (is_row row (row_of library b)) s (before b) (is_row_other row (row_of library b) (λ e. quiet name i (ap (row_owned library) o ∙ e)))))

  put_row : (rows : List ℕ) (row : ℕ) (start before after : BindingId → Standing) (type : CoreType) → AreEvaluated table library written on_ring rows start before
      → declared_at written row ≡ Some type
      → ((b : BindingId) → after b ≡ (if is_row row (row_of library b) then declared_standing table (truth (slice_get on_ring row)) before type else before b))
      → Quiet row (rows ++ row ∷ []) → AreEvaluated table library written on_ring (rows ++ row ∷ []) start after
  put_row rows row start before after type E d P quiet =
      let kept : (user : ℕ) (t : CoreType) → In user (rows ++ row ∷ []) → declared_at written user ≡ Some t → declared_standing table (truth (slice_get on_ring user)) before t ≡ declared_standing table (truth (slice_get on_ring user)) after t =
      λ user t i e. choice_same (truth (slice_get on_ring user)) (standing_of (read_members before table [] t)) (standing_of (read_members after table [] t))
      (λ off. ap (λ (r : ReadType). standing_of r) (kept_read row (declared_standing table (truth (slice_get on_ring row)) before type) before after P t (λ name n. quiet user t i e off name n))) in
      record {
        constant = λ b user t r i e. elim (bool_cases (is_row row (row_of library b))) [
          | inl hit ↦
              let same : user ≡ row = let k : Some user ≡ Some row = sym r ∙ is_row_back row (row_of library b) hit in cc in
              let alike : t ≡ type = let k : Some t ≡ Some type = sym e ∙ ap (declared_at written) same ∙ d in cc in
              P b ∙ if_true (is_row row (row_of library b)) (declared_standing table (truth (slice_get on_ring row)) before type) (before b) hit
              ∙ ap (λ (n : ℕ). declared_standing table (truth (slice_get on_ring n)) before type) (sym same)
              ∙ ap (λ (u : CoreType). declared_standing table (truth (slice_get on_ring user)) before u) (sym alike)
              ∙ kept user t i e
          | inr miss ↦
              let done : In user rows = elim (in_cases user rows (row ∷ []) i) [
                | inl a ↦ a
                | inr a ↦ elim a [ inl same ↦ absurd (true_is_not (is_row row (row_of library b)) (is_row_same row user (row_of library b) r (sym same)) miss) | inr none ↦ absurd none ]
              ] in
              P b ∙ if_false (is_row row (row_of library b)) (declared_standing table (truth (slice_get on_ring row)) before type) (before b) miss
              ∙ E.constant b user t r done e ∙ kept user t i e
        ];
        other = λ b none.
            P b ∙ if_false (is_row row (row_of library b)) (declared_standing table (truth (slice_get on_ring row)) before type) (before b)
            (is_row_other row (row_of library b) (λ e. not_both (declared_at written row) type d (none row e (in_right row rows (row ∷ []) (inl refl)))))
            ∙ E.other b (λ n e i. none n e (in_left n rows (row ∷ []) i));
      }

  skip_row : (rows : List ℕ) (row : ℕ) (start before after : BindingId → Standing) → AreEvaluated table library written on_ring rows start before
      → declared_at written row ≡ None → ((b : BindingId) → after b ≡ before b) → AreEvaluated table library written on_ring (rows ++ row ∷ []) start after
  skip_row rows row start before after E d P =
      let all : AreEvaluated table library written on_ring (rows ++ row ∷ []) start before = record {
        constant = λ b user t r i e. elim (in_cases user rows (row ∷ []) i) [
          | inl a ↦ E.constant b user t r a e
          | inr a ↦ elim a [ inl is ↦ absurd (not_both (declared_at written user) t e (ap (declared_at written) is ∙ d)) | inr none ↦ absurd none ]
        ];
        other = λ b none. E.other b (λ n e i. none n e (in_left n rows (row ∷ []) i));
      } in
      subst (λ (f : BindingId → Standing). AreEvaluated table library written on_ring (rows ++ row ∷ []) start f) (fun_ext (λ b. sym (P b))) all

  evaluate_row : (rows : List ℕ) (row : ℕ) (start before after : BindingId → Standing) (o : Option CoreType) → AreEvaluated table library written on_ring rows start before
      → declared_at written row ≡ o → ((b : BindingId) → after b ≡ with_row table library row (truth (slice_get on_ring row)) o before b)
      → ((type : CoreType) → declared_at written row ≡ Some type → Quiet row (rows ++ row ∷ [])) → AreEvaluated table library written on_ring (rows ++ row ∷ []) start after
  evaluate_row rows row start before after None E d P quiet = skip_row rows row start before after E d P
  evaluate_row rows row start before after (Some type) E d P quiet = put_row rows row start before after type E d P (quiet type d)

  module _ (order : List ℕ) (B : IsBehindUsed (uses_of table library written) order)
      (R : (i : ℕ) → (slice_get on_ring i ≡ Some true) ↔ Leads (uses_of table library written) i i) where
    node : (row : ℕ) (type : CoreType) → declared_at written row ≡ Some type → row < length (uses_of table library written)
    node row type d =
        let l : row < length written = declared_within written row type d in
        let counted : length (uses_of table library written) ≡ length written = length-map written (uses_at table library written) in
        omega (arith, l, counted)

    -- a row in the order is not used by those in front of it that are on no ring, nor by itself
    quiet_at : (rows : List ℕ) (row : ℕ) (rest : List ℕ) → order ≡ rows ++ row ∷ rest → (used : CoreType) → declared_at written row ≡ Some used → Quiet row (rows ++ row ∷ [])
    quiet_at rows row rest w used e user type i d off name n o =
        let uses : RowUses (uses_of table library written) user row = record {
          user = node user type d;
          used = node row used e;
          named = uses_there table library written user row type used name d n o e;
        } in
        elim (B.behind user row uses) [
          | inl b ↦ none_behind row user rows rest (subst (λ xs. Once xs) w B.once) i (subst (λ xs. Before row user xs) w b)
          | inr l ↦ true_is_not (truth (slice_get on_ring user)) (ap truth ((R user).1 (further user row user uses l))) off
        ]

    -- a row in the order has a place in the table
    pub low_at : (rows : List ℕ) (row : ℕ) (rest : List ℕ) → order ≡ rows ++ row ∷ rest → row < length written
    low_at rows row rest w =
        let l : row < length (uses_of table library written) = (B.nodes row).0 (subst (λ xs. In row xs) (sym w) (in_right row rows (row ∷ rest) (inl refl))) in
        let counted : length (uses_of table library written) ≡ length written = length-map written (uses_at table library written) in
        omega (arith, l, counted)

    -- nothing is evaluated yet
    pub none_evaluated : (start : BindingId → Standing) → AreEvaluated table library written on_ring [] start start
    none_evaluated start = record { constant = λ b row type r i e. absurd i; other = λ b none. refl }

    pub next_evaluated : (rows : List ℕ) (row : ℕ) (rest : List ℕ) → order ≡ rows ++ row ∷ rest → (start before after : BindingId → Standing) → AreEvaluated table library written on_ring rows start before
        → ((b : BindingId) → after b ≡ with_row table library row (truth (slice_get on_ring row)) (declared_at written row) before b)
        → AreEvaluated table library written on_ring (rows ++ row ∷ []) start after
    next_evaluated rows row rest w start before after E P = evaluate_row rows row start before after (declared_at written row) E refl P (quiet_at rows row rest w)
