-- Lists in which each item stands once.
use Rattle.std.proofs.Common.{◌≡◌, Bool, true, false, List, [], ◌∷◌, refl}
use Rattle.std.specs.Prelude.{not, filter, if◌then◌else◌}
use Rattle.dy_term.specs.declared.rows.LibraryRow.{LibraryRow}
use Rattle.dy_term.specs.declared.rows.Program.{Program}
use Rattle.dy_lowered.specs.Tables.{distinct}
use Rattle.dy_lowered.specs.Once.{Differ, Once, HoldsOnce}
use Rattle.dy_lowered.specs.Units.{lowered}

module _ {A : Type 0} (same : A → A → Bool) where
  differ_if : (item other : A) (b : Bool) (kept : List A) → same item other ≡ false → Differ same item kept → Differ same item (if b then other ∷ kept else kept)
  differ_if item other true kept e h = (e, h)
  differ_if item other false kept e h = h

  differ_kept : (item : A) (test : A → Bool) (items : List A) → Differ same item items → Differ same item (filter test items)
  differ_kept item test [] h = tt
  differ_kept item test (other ∷ others) h = differ_if item other (test other) (filter test others) h.0 (differ_kept item test others h.1)

  once_if : (item : A) (b : Bool) (kept : List A) → Differ same item kept → Once same kept → Once same (if b then item ∷ kept else kept)
  once_if item true kept d h = (d, h)
  once_if item false kept d h = h

  once_kept : (test : A → Bool) (items : List A) → Once same items → Once same (filter test items)
  once_kept test [] h = tt
  once_kept test (item ∷ items) h = once_if item (test item) (filter test items) (differ_kept item test items h.0) (once_kept test items h.1)

  differ_other : (item other : A) (b : Bool) (kept : List A) → same item other ≡ b → Differ same item kept → Differ same item (if not b then other ∷ kept else kept)
  differ_other item other true kept e h = h
  differ_other item other false kept e h = (e, h)

  differ_left : (item : A) (items : List A) → Differ same item (filter (λ other. not (same item other)) items)
  differ_left item [] = tt
  differ_left item (other ∷ others) = differ_other item other (same item other) (filter (λ o. not (same item o)) others) refl (differ_left item others)

  pub once_distinct : (items : List A) → Once same (distinct same items)
  once_distinct [] = tt
  once_distinct (item ∷ items) = (differ_left item (distinct same items), once_kept (λ other. not (same item other)) (distinct same items) (once_distinct items))

pub holds_once : (view : Program) (library : LibraryRow) → HoldsOnce (lowered view library)
holds_once view library = record {
  constants = once_distinct _ _;
  names = once_distinct _ _;
  bound = once_distinct _ _;
  lists = once_distinct _ _;
  types = once_distinct _ _;
  results = once_distinct _ _;
}
