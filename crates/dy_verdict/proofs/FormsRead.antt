-- The forms of pieces that are read one after the other.
use Rattle.std.proofs.Common.{◌≡◌, List, [], ◌∷◌, ◌++◌, Option, Some, None, append_assoc, refl, sym, ap, subst, ◌∙◌}
use Rattle.dy_base.specs.declared.fault.Fault.{Fault}
use Rattle.dy_base.specs.declared.kind.Kind.{Kind}
use Rattle.dy_term.specs.Rows.{CoreDraft}
use Rattle.dy_library_rows.specs.Libraries.{Form, or_fault}
use Rattle.dy_verdict.specs.Pieces.{Piece, place_of}
use Rattle.dy_verdict.specs.Forms.{Reading, fits, faulty, reading, fault_at, fault_in, form_in, first_refused, forms_of}

abbrev IsNone : Option Fault → Type 0
IsNone None = Unit {0}
IsNone (Some fault) = ⊥

never : (fault : Fault) → Some fault ≡ None → ⊥
never fault is = subst IsNone (sym is) tt

pub forms_behind : (some more : List Piece) → forms_of (some ++ more) ≡ forms_of some ++ forms_of more
forms_behind [] more = refl
forms_behind (piece ∷ some) more =
    let here = form_in (place_of piece) (reading piece.fragments) in
    ap (λ (rest : List Form). here ++ rest) (forms_behind some more)
    ∙ sym (append_assoc here (forms_of some) (forms_of more))

or_behind : (here some more last : Option Fault) → or_fault here some ≡ None → (some ≡ None → more ≡ last) → or_fault here more ≡ last
or_behind None some more last e behind = behind e
or_behind (Some fault) some more last e behind = absurd (never fault e)

-- Behind pieces of which none is refused, the first that is refused is the first of the others.
pub refused_behind : (some more : List Piece) → first_refused some ≡ None → first_refused (some ++ more) ≡ first_refused more
refused_behind [] more is = refl
refused_behind (piece ∷ some) more is =
    or_behind (fault_in (place_of piece) (reading piece.fragments)) (first_refused some) (first_refused (some ++ more)) (first_refused more)
    is (refused_behind some more)

-- a piece that is no form, behind others of which none is refused
pub refused_at : (some : List Piece) (piece : Piece) (kind : Kind) → first_refused some ≡ None → reading piece.fragments ≡ faulty kind → (more : List Piece)
    → first_refused (some ++ piece ∷ more) ≡ Some (fault_at kind (place_of piece))
refused_at some piece kind none is more =
    refused_behind some (piece ∷ more) none
    ∙ ap (λ (found : Reading). or_fault (fault_in (place_of piece) found) (first_refused more)) is

-- one more piece that is read
pub piece_fits : (some : List Piece) (piece : Piece) (draft : CoreDraft) → first_refused some ≡ None → reading piece.fragments ≡ fits draft
    → (first_refused (some ++ piece ∷ []) ≡ None) × (forms_of (some ++ piece ∷ []) ≡ forms_of some ++ (place_of piece, draft) ∷ [])
piece_fits some piece draft none is = (
  refused_behind some (piece ∷ []) none
      ∙ ap (λ (found : Reading). or_fault (fault_in (place_of piece) found) None) is,
  forms_behind some (piece ∷ [])
      ∙ ap (λ (found : Reading). forms_of some ++ (form_in (place_of piece) found ++ [])) is,
)
