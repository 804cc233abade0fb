-- What the forms of files are read as.
use Rattle.std.specs.Prelude.{List, [], ◌∷◌, ◌++◌, Option, Some, None}
use Rattle.dy_base.specs.declared.kind.Kind.{Kind}
use Rattle.dy_base.specs.declared.kind.Kind.TheVariants.{Syntax, TooDeep}
use Rattle.dy_base.specs.declared.fault.Fault.{Fault}
use Rattle.dy_base.specs.declared.fault.Place.{Place}
use Rattle.dy_tree.specs.Fragments.{SeenFragment}
use Rattle.dy_rules.specs.Forms.{FormTree}
use Rattle.dy_rules.specs.Parsing.{Parsed, accepted, too_deep, no_form, parsed}
use Rattle.dy_construct_parts.specs.declared.construct.Construct.{Construct}
use Rattle.dy_construct_parts.specs.Table.{first_absent}
use Rattle.dy_constructs.specs.Forms.{in_form}
use Rattle.dy_term.specs.Rows.{CoreDraft}
use Rattle.dy_surface.specs.Forms.{draft_of}
use Rattle.dy_library_rows.specs.Libraries.{Form, or_fault}
use Rattle.dy_verdict.specs.Pieces.{Piece, place_of}

-- a fault at a place, whose subject is written later and which shows nothing
abbrev pub fault_at : Kind → Place → Fault
fault_at kind place =
    record { kind = kind; library = []; place = Some place; shown = []; numbers = [] }

-- what fragments are read as: a form in the core, or a fault of this kind
pub data Reading : Type 0 where
  fits : (draft : CoreDraft) → Reading
  faulty : (kind : Kind) → Reading

-- A form that holds a construct that has not come is refused.
abbrev pub form_reading : FormTree → Option Construct → Reading
form_reading form None = fits (draft_of form)
form_reading form (Some construct) = faulty Syntax

abbrev pub told_reading : Parsed → Reading
told_reading no_form = faulty Syntax
told_reading too_deep = faulty TooDeep
told_reading (accepted form) = form_reading form (first_absent (in_form form))

-- what the fragments of a form are read as
abbrev pub reading : List SeenFragment → Reading
reading fragments = told_reading (parsed fragments)

abbrev pub form_in : Place → Reading → List Form
form_in place (fits draft) = (place, draft) ∷ []
form_in place (faulty kind) = []

-- It is refused where it begins.
abbrev pub fault_in : Place → Reading → Option Fault
fault_in place (fits draft) = None
fault_in place (faulty kind) = Some (fault_at kind place)

-- the fault of the first piece that is refused
abbrev pub first_refused : List Piece → Option Fault
first_refused [] = None
first_refused (piece ∷ pieces) =
    or_fault (fault_in (place_of piece) (reading piece.fragments)) (first_refused pieces)

-- the forms, each with the place where it begins
abbrev pub forms_of : List Piece → List Form
forms_of [] = []
forms_of (piece ∷ pieces) = form_in (place_of piece) (reading piece.fragments) ++ forms_of pieces
