-- Chains of uses among constants are chains among their rows.
use Rattle.std.proofs.Common.{◌≡◌, ◌↔◌, ℕ, ◌<◌, Bool, true, false, List, length, Option, Some, None, IsSome, IsTrue, slice_get, refl, sym, ap, subst, ◌∙◌, arith}
use Rattle.std.specs.Option.{is_some}
use Rattle.std.proofs.lemmas.List.{length-map}
use Rattle.dy_base.specs.declared.ids.BindingId.{BindingId}
use Rattle.dy_tree.specs.declared.token.Token.{Token}
use Rattle.dy_term.specs.Types.{CoreType}
use Rattle.dy_names.specs.Naming.{Table}
use Rattle.dy_rings.specs.Rings.{In, straight, further}
use Rattle.dy_rings.specs.Rings.{Uses as RowUses}
use Rattle.dy_rings.specs.Rings.{Leads as RowLeads}
use Rattle.dy_type_names.specs.Constants.{Constant, row_of, row_owned, first_of, names_in, written_as, Uses, Leads, one, more, IsOnRing}
use Rattle.dy_type_names.specs.RowTables.{Written, declared_at, uses_at, uses_of, IsTable, truth}
use Rattle.dy_type_names.proofs.Rows.{constant_at, row_of_constant, constant_is, owner_is}
use Rattle.dy_type_names.proofs.Tables.{declared_within, uses_there, uses_back}

some_is : (o : Option CoreType) → IsSome o → (type : CoreType) × (o ≡ Some type)
some_is None i = absurd cc
some_is (Some type) i = (type, refl)

some_from : (o : Option CoreType) (type : CoreType) → o ≡ Some type → IsSome o
some_from o type e = ap is_some e

module _ (table : Table) (library : ℕ) (constants : List Constant) (written : Written) (rows : List ℕ) (T : IsTable table library constants written rows) where
  row_by : (o : Option ℕ) (type : CoreType) → first_of table library constants o ≡ Some type → (row : ℕ) × (o ≡ Some row) × (declared_at written row ≡ Some type)
  row_by None type e = absurd cc
  row_by (Some row) type e = (row, refl, T.at row ∙ e)

  -- the row of a constant
  pub row_of_written : (b : BindingId) (type : CoreType) → written_as table library constants b ≡ Some type → (row : ℕ) × (row_of library b ≡ Some row) × (declared_at written row ≡ Some type)
  row_of_written b type e = row_by (row_of library b) type e

  pub written_row : (b : BindingId) (row : ℕ) → row_of library b ≡ Some row → written_as table library constants b ≡ declared_at written row
  written_row b row e = ap (first_of table library constants) e ∙ sym (T.at row)

  counted : length (uses_of table library written) ≡ length written
  counted = length-map written (uses_at table library written)

  -- rows with constants are nodes
  pub is_node : (row : ℕ) (type : CoreType) → declared_at written row ≡ Some type → row < length (uses_of table library written)
  is_node row type d = let l : row < length written = declared_within written row type d in omega (arith, l, counted)

  pub row_uses : (row other : ℕ) (type used : CoreType) (name : Token) → declared_at written row ≡ Some type → In name (names_in type) → row_owned library (table name) ≡ Some other → declared_at written other ≡ Some used
      → RowUses (uses_of table library written) row other
  row_uses row other type used name d i o u = record {
    user = is_node row type d;
    used = is_node other used u;
    named = uses_there table library written row other type used name d i o u;
  }

  pub use_of_rows : (a b : BindingId) → Uses table library constants a b
      → (i : ℕ) × (j : ℕ) × (row_of library a ≡ Some i) × (row_of library b ≡ Some j) × RowUses (uses_of table library written) i j
  use_of_rows a b u =
      let user = row_of_written a u.type u.written in
      let is = some_is (written_as table library constants b) u.is in
      let used = row_of_written b is.0 is.1 in
      (user.0, used.0, user.1, used.1, row_uses user.0 used.0 u.type is.0 u.name user.2 u.names (ap (row_owned library) u.owner ∙ used.1) used.2)

  lead_of_rows : {a b : BindingId} → Leads table library constants a b → (i : ℕ) × (j : ℕ) × (row_of library a ≡ Some i) × (row_of library b ≡ Some j) × RowLeads (uses_of table library written) i j
  lead_of_rows (one u) =
      let pair = use_of_rows _ _ u in
      (pair.0, pair.1, pair.2, pair.3, straight pair.0 pair.1 pair.4)
  lead_of_rows (more u l) =
      let pair = use_of_rows _ _ u in
      let lead = lead_of_rows l in
      let meet : pair.1 ≡ lead.0 = let e : Some pair.1 ≡ Some lead.0 = sym pair.3 ∙ lead.2 in cc in
      (pair.0, lead.1, pair.2, lead.3, further pair.0 lead.0 lead.1 (subst (λ j. RowUses (uses_of table library written) pair.0 j) meet pair.4) lead.4)

  row_lead : (a : BindingId) (i : ℕ) → row_of library a ≡ Some i → IsOnRing table library constants a → RowLeads (uses_of table library written) i i
  row_lead a i e l =
      let lead = lead_of_rows l in
      let from : lead.0 ≡ i = let k : Some lead.0 ≡ Some i = sym lead.2 ∙ e in cc in
      let to : lead.1 ≡ i = let k : Some lead.1 ≡ Some i = sym lead.3 ∙ e in cc in
      subst (λ j. RowLeads (uses_of table library written) j i) from (subst (λ j. RowLeads (uses_of table library written) lead.0 j) to lead.4)

  use_back : (i j : ℕ) → RowUses (uses_of table library written) i j → Uses table library constants (constant_at library i) (constant_at library j)
  use_back i j u =
      let back = uses_back table library written i j u.named in
      let name = back.2.0 in
      record {
        type = back.0;
        written = written_row (constant_at library i) i (row_of_constant library i) ∙ back.1;
        name = name;
        names = back.2.1;
        owner = owner_is library j (table name) back.2.2;
        is = some_from (written_as table library constants (constant_at library j)) back.2.3.0
            (written_row (constant_at library j) j (row_of_constant library j) ∙ back.2.3.1);
      }

  lead_back : {i j : ℕ} → RowLeads (uses_of table library written) i j → Leads table library constants (constant_at library i) (constant_at library j)
  lead_back (straight i j u) = one (use_back i j u)
  lead_back (further i j k u l) = more (use_back i j u) (lead_back l)

  module _ (on_ring : List Bool) (R : (i : ℕ) → (slice_get on_ring i ≡ Some true) ↔ RowLeads (uses_of table library written) i i) where
    -- whether a row is on a ring, and no binding of other libraries is
    abbrev pub row_ring : Option ℕ → Bool
    row_ring None = false
    row_ring (Some row) = truth (slice_get on_ring row)

    truth_is : (o : Option Bool) → truth o ≡ true → o ≡ Some true
    truth_is None e = absurd cc
    truth_is (Some is) e = ap Some e

    pub ring_truth : (row : ℕ) → RowLeads (uses_of table library written) row row → truth (slice_get on_ring row) ≡ true
    ring_truth row l = ap truth ((R row).1 l)

    ring_there : (b : BindingId) (o : Option ℕ) → row_of library b ≡ o → row_ring o ≡ true → IsOnRing table library constants b
    ring_there b None e t = absurd cc
    ring_there b (Some row) e t =
        let lead = lead_back ((R row).0 (truth_is (slice_get on_ring row) t)) in
        subst (λ c. Leads table library constants c c) (sym (constant_is library row b e)) lead

    ring_back : (b : BindingId) → IsOnRing table library constants b → row_ring (row_of library b) ≡ true
    ring_back b l =
        let lead = lead_of_rows l in
        ap row_ring lead.2 ∙ ring_truth lead.0 (row_lead b lead.0 lead.2 l)

    pub rings_are : (b : BindingId) → IsTrue (row_ring (row_of library b)) ↔ IsOnRing table library constants b
    rings_are b = (λ t. ring_there b (row_of library b) refl t, λ l. ring_back b l)
