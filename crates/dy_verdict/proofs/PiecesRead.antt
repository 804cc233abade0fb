-- The pieces of files that are read one after the other, as they are held.
use Rattle.std.proofs.Common.{◌≡◌, List, [], ◌∷◌, ◌++◌, map, Some, None, sym, ap, ◌∙◌}
use Rattle.std.proofs.lemmas.List.{map-append}
use Rattle.std.specs.Iterator.{Yields}
use Rattle.std.specs.Vec.Iter.{into_iter_items, into_iter_steps}
use Rattle.std.specs.declared.vec.IntoIter.{IntoIter}
use Rattle.dy_base.specs.declared.fault.Fault.{Fault}
use Rattle.dy_base.specs.declared.fault.Place.{Place}
use Rattle.dy_base.specs.declared.kind.Kind.{Kind}
use Rattle.dy_tree.specs.Fragments.{seen_fragments}
use Rattle.dy_term.specs.declared.draft.Draft.{Draft}
use Rattle.dy_term.specs.Rows.{seen_draft}
use Rattle.dy_library_rows.specs.Libraries.{Form, seen_form}
use Rattle.dy_verdict.specs.declared.pieces.Piece.{Piece as Held}
use Rattle.dy_verdict.specs.declared.forms.Reading.{Reading as HeldReading}
use Rattle.dy_verdict.specs.declared.forms.Reading.TheVariants.{Fits, Faulty}
use Rattle.dy_verdict.specs.Pieces.{Piece, seen_piece, place_of}
use Rattle.dy_verdict.specs.Forms.{reading, fault_at, first_refused, forms_of}
use Rattle.dy_verdict.specs.Readings.{seen_reading}
use Rattle.dy_verdict.proofs.FormsRead.{piece_fits, refused_at}

-- what the iterator of a vector has given is a front of its items
taken_front : {X A : Type 0} (s : IntoIter X A) (xs : List X) (t : IntoIter X A) → Yields into_iter_steps s xs t → into_iter_items s ≡ xs ++ into_iter_items t
taken_front s [] t y = ap into_iter_items y
taken_front s (x ∷ xs) t y = y.1.0 ∙ ap (λ ys. x ∷ ys) (taken_front y.0 xs t y.2)

-- where the next item stands among all
pub item_reached : {X A : Type 0} (all : List X) (s : IntoIter X A) (xs : List X) (t u : IntoIter X A) (item : X) → into_iter_items s ≡ all → Yields into_iter_steps s xs t → into_iter_steps t (Some item) u → all ≡ xs ++ item ∷ into_iter_items u
item_reached all s xs t u item began given step = sym began ∙ taken_front s xs t given ∙ ap (λ ys. xs ++ ys) step.0

-- one more piece that is read
pub piece_more : (yielded : List Held) (piece : Held) (forms more : List (Place × Draft)) (found : HeldReading) (draft : Draft) (place : Place)
    → found ≡ Fits draft → seen_reading found ≡ reading (seen_fragments piece.fragments.items) → place ≡ place_of (seen_piece piece) → more ≡ forms ++ (place, draft) ∷ []
    → first_refused (map seen_piece yielded) ≡ None → map seen_form forms ≡ forms_of (map seen_piece yielded)
    → (first_refused (map seen_piece (yielded ++ piece ∷ [])) ≡ None) × (map seen_form more ≡ forms_of (map seen_piece (yielded ++ piece ∷ [])))
piece_more yielded piece forms more found draft place is read at added fine before =
    let one = piece_fits (map seen_piece yielded) (seen_piece piece) (seen_draft draft) fine (sym read ∙ ap seen_reading is) in
    let behind = map-append seen_piece yielded (piece ∷ []) in (
      ap (λ (p : List Piece). first_refused p) behind ∙ one.0,
      ap (map seen_form) added
          ∙ map-append seen_form forms ((place, draft) ∷ [])
          ∙ ap (λ (f : List Form). f ++ (place, seen_draft draft) ∷ []) before
          ∙ ap (λ (p : Place). forms_of (map seen_piece yielded) ++ (p, seen_draft draft) ∷ []) at
          ∙ sym one.1
          ∙ sym (ap (λ (p : List Piece). forms_of p) behind),
    )

-- a piece that is no form, behind others that are read
pub piece_faulty : (all yielded more : List Held) (piece : Held) (found : HeldReading) (kind : Kind) (place : Place) (fault : Fault) → all ≡ yielded ++ piece ∷ more
    → found ≡ Faulty kind → seen_reading found ≡ reading (seen_fragments piece.fragments.items) → place ≡ place_of (seen_piece piece) → fault ≡ fault_at kind place
    → first_refused (map seen_piece yielded) ≡ None → first_refused (map seen_piece all) ≡ Some fault
piece_faulty all yielded more piece found kind place fault whole is read at made fine =
    ap (λ (l : List Held). first_refused (map seen_piece l)) whole
    ∙ ap (λ (p : List Piece). first_refused p) (map-append seen_piece yielded (piece ∷ more))
    ∙ refused_at (map seen_piece yielded) (seen_piece piece) kind fine (sym read ∙ ap seen_reading is) (map seen_piece more)
    ∙ ap (λ (p : Place). Some (fault_at kind p)) (sym at)
    ∙ ap (λ (f : Fault). Some f) (sym made)
