-- Classes at or below others.
use Rattle.std.proofs.Common.{◌≡◌, ℕ, inl, inr, List, [], Option, Some, None, slice_get, Contains, Any, refl, sym, subst, arith}
use Rattle.std.proofs.lemmas.Option.{slice_get_within, get_or_from_slice_get}
use Rattle.dy_base.specs.declared.ids.ClassId.{ClassId}
use Rattle.dy_term.specs.declared.rows.ClassRow.{ClassRow}
use Rattle.dy_term.specs.declared.rows.LibraryRow.{LibraryRow}
use Rattle.dy_term.specs.declared.rows.Program.{Program}
use Rattle.dy_types.specs.Classes.{order_in, row_in, order_of, IsAtOrBelow}
use Rattle.dy_types.specs.Members.{HaveCommonClass}
use Rattle.dy_types.specs.Laws.{AreOrdersClosed}

pub class_transitive : (p : Program) → AreOrdersClosed p → (a b c : ClassId) → IsAtOrBelow p a b → IsAtOrBelow p b c → IsAtOrBelow p a c
class_transitive p closed a b c (inl e) below = subst (λ (x : ClassId). IsAtOrBelow p x c) (sym e) below
class_transitive p closed a b c (inr listed) (inl e) = inr (subst (λ (x : ClassId). Contains (order_of p a) x) e listed)
class_transitive p closed a b c (inr listed) (inr further) = inr (closed a b c listed further)

-- an element at a place
pub any_at : {X : Type 0} (P : X → Type 0) (xs : List X) (i : ℕ) (x : X) → slice_get xs i ≡ Some x → P x → Any P xs
any_at P xs i x is holds = (i, x, slice_get_within xs i x is, get_or_from_slice_get xs i x x is, holds)

nothing_listed : (class : ClassId) → Contains [] class → ⊥
nothing_listed class listed = omega (arith, listed.1)

in_library : (library : LibraryRow) (n : ℕ) (c d : ClassId) (found : Option ClassRow) → slice_get library.classes n ≡ found → Contains (order_in found) c → Contains (order_in found) d → Any (λ (row : ClassRow). Contains row.order c × Contains row.order d) library.classes
in_library library n c d None is first second = absurd (nothing_listed c first)
in_library library n c d (Some row) is first second = any_at (λ (r : ClassRow). Contains r.order c × Contains r.order d) library.classes n row is (first, second)

in_program : (p : Program) (k c d : ClassId) (found : Option LibraryRow) → slice_get p.libraries k.0.library ≡ found → Contains (order_in (row_in k.0.row found)) c → Contains (order_in (row_in k.0.row found)) d → HaveCommonClass p c d
in_program p k c d None is first second = absurd (nothing_listed c first)
in_program p k c d (Some library) is first second =
    any_at (λ (l : LibraryRow). Any (λ (row : ClassRow). Contains row.order c × Contains row.order d) l.classes) p.libraries k.0.library library is
    (in_library library k.0.row c d (slice_get library.classes k.0.row) refl first second)

-- two classes that one class lists
pub listed_both : (p : Program) (k c d : ClassId) → Contains (order_of p k) c → Contains (order_of p k) d → HaveCommonClass p c d
listed_both p k c d first second = in_program p k c d (slice_get p.libraries k.0.library) refl first second
