-- What the reading of forms answers.
use Rattle.std.specs.Prelude.{◌≡◌, List, map, Some, None, Result, Ok, Err}
use Rattle.std.specs.Global.{Vec}
use Rattle.dy_base.specs.declared.fault.Place.{Place}
use Rattle.dy_base.specs.declared.fault.Refusal.{Refusal}
use Rattle.dy_base.specs.declared.fault.Refusal.TheVariants as refusals
use Rattle.dy_term.specs.declared.draft.Draft.{Draft}
use Rattle.dy_term.specs.Rows.{seen_draft}
use Rattle.dy_library_rows.specs.Libraries.{seen_form}
use Rattle.dy_verdict.specs.declared.forms.Reading.{Reading as Held}
use Rattle.dy_verdict.specs.declared.forms.Reading.TheVariants.{Fits, Faulty}
use Rattle.dy_verdict.specs.Pieces.{Piece}
use Rattle.dy_verdict.specs.Forms.{Reading, fits, faulty, first_refused, forms_of}

abbrev pub seen_reading : Held → Reading
seen_reading (Fits draft) = fits (seen_draft draft)
seen_reading (Faulty kind) = faulty kind

-- a form that was refused so is read as this
abbrev pub Tells : Refusal → Reading → Type 0
Tells (refusals.Fault fault) reading = reading ≡ faulty fault.kind
Tells refusals.Memory reading = ⊥

-- The forms where no piece is refused, and else the first fault. Want of memory may be answered at
-- any time.
abbrev pub AreForms : List Piece → Result (Vec (Place × Draft)) Refusal → Type 0
AreForms pieces (Ok forms) =
    (first_refused pieces ≡ None) × (map seen_form forms.items ≡ forms_of pieces)
AreForms pieces (Err (refusals.Fault fault)) = first_refused pieces ≡ Some fault
AreForms pieces (Err refusals.Memory) = Unit {0}
