-- What the evaluated rows of a library say of its constants.
use Rattle.std.proofs.Common.{◌≡◌, ◌↔◌, ℕ, zero, ◌<◌, Bool, true, false, List, Option, Some, None, slice_get, inl, inr, refl, sym, ap, subst, ◌∙◌, arith}
use Rattle.dy_base.specs.declared.fault.Fault.{Fault}
use Rattle.dy_base.specs.declared.ids.BindingId.{BindingId}
use Rattle.dy_names.specs.Naming.{Table}
use Rattle.dy_rings.specs.Rings.{Leads, further, IsBehindUsed}
use Rattle.dy_type_names.specs.declared.standing.Standing.{Standing}
use Rattle.dy_type_names.specs.Constants.{Constant, row_of, Uses}
use Rattle.dy_type_names.specs.RowTables.{Written, uses_of, IsTable, told_on}
use Rattle.dy_type_names.specs.Standings.{AreStanding, AreTold}
use Rattle.dy_type_names.specs.Evaluations.{declared_standing, AreEvaluated}
use Rattle.dy_type_names.proofs.Listed.{place, place_before}
use Rattle.dy_type_names.proofs.Leading.{row_of_written, written_row, is_node, use_of_rows, row_ring, ring_truth, rings_are}
use Rattle.dy_type_names.proofs.Telling.{told_is}

abbrev place_of : List ℕ → Option ℕ → ℕ
place_of order None = zero
place_of order (Some row) = place row order

true_is_not : (b : Bool) → b ≡ true → b ≡ false → ⊥
true_is_not true e f = absurd cc
true_is_not false e f = absurd cc

module _ (table : Table) (library : ℕ) (constants : List Constant) (written : Written) (rows : List ℕ) (on_ring : List Bool) (order : List ℕ) (others start standing : BindingId → Standing)
    (T : IsTable table library constants written rows)
    (R : (i : ℕ) → (slice_get on_ring i ≡ Some true) ↔ Leads (uses_of table library written) i i)
    (B : IsBehindUsed (uses_of table library written) order)
    (S : (b : BindingId) → start b ≡ others b)
    (E : AreEvaluated table library written on_ring order start standing) where
  abbrev ring : BindingId → Bool
  ring b = row_ring table library constants written rows T on_ring R (row_of library b)

  lower : (user used : BindingId) → ring user ≡ false → Uses table library constants user used → place_of order (row_of library used) < place_of order (row_of library user)
  lower user used off u =
      let pair = use_of_rows table library constants written rows T user used u in
      let i = pair.0 in
      let j = pair.1 in
      let is : row_of library user ≡ Some i = pair.2 in
      let other : row_of library used ≡ Some j = pair.3 in
      let less : place j order < place i order = elim (B.behind i j pair.4) [
        | inl b ↦ place_before j i order B.once b
        | inr l ↦ absurd (true_is_not (ring user)
            (ap (row_ring table library constants written rows T on_ring R) is ∙ ring_truth table library constants written rows T on_ring R i (further i j i pair.4 l)) off)
      ] in
      let a : place_of order (row_of library user) ≡ place i order = ap (place_of order) is in
      let b : place_of order (row_of library used) ≡ place j order = ap (place_of order) other in
      omega (arith, less, a, b)

  abbrev are_standing : AreStanding table library constants others standing
  are_standing = record {
    on_ring = ring;
    rings = λ b. rings_are table library constants written rows T on_ring R b;
    constant = λ b type e.
        let row = row_of_written table library constants written rows T b type e in
        E.constant b row.0 type row.1 ((B.nodes row.0).1 (is_node table library constants written rows T row.0 type row.2)) row.2
        ∙ ap (λ (is : Bool). declared_standing table is standing type) (sym (ap (row_ring table library constants written rows T on_ring R) row.1));
    other = λ b e. E.other b (λ row r i. sym (written_row table library constants written rows T b row r) ∙ e) ∙ S b;
    rank = λ b. place_of order (row_of library b);
    behind = lower;
  }

  pub are_told : (faults : List Fault) → faults ≡ told_on written on_ring rows → AreTold table library constants others standing faults
  are_told faults f = record {
    are = are_standing;
    told = f ∙ told_is table library written on_ring ring (row_ring table library constants written rows T on_ring R) refl (λ row. refl) (λ b. refl) constants rows T;
  }

pub whole : (table : Table) (library : ℕ) (constants listed : List Constant) (written : Written) (rows : List ℕ) (on_ring : List Bool) (order : List ℕ) (uses : List (List ℕ)) (others start standing : BindingId → Standing) (faults : List Fault)
    → listed ≡ constants → IsTable table library listed written rows → uses ≡ uses_of table library written
    → ((i : ℕ) → (slice_get on_ring i ≡ Some true) ↔ Leads uses i i) → IsBehindUsed uses order → ((b : BindingId) → start b ≡ others b)
    → AreEvaluated table library written on_ring order start standing → faults ≡ told_on written on_ring rows → AreTold table library constants others standing faults
whole table library constants listed written rows on_ring order uses others start standing faults l T u R B S E f =
    are_told table library constants written rows on_ring order others start standing
    (subst (λ (cs : List Constant). IsTable table library cs written rows) l T)
    (subst (λ (us : List (List ℕ)). (i : ℕ) → (slice_get on_ring i ≡ Some true) ↔ Leads us i i) u R)
    (subst (λ (us : List (List ℕ)). IsBehindUsed us order) u B) S E faults f
