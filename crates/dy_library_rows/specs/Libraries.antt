-- The forms of a library as rows.
use Rattle.std.specs.Prelude.{◌≡◌, List, [], ◌∷◌, ◌++◌, map, Option, Some, None, Result, Ok, Err}
use Rattle.std.specs.Prelude.{Bool, true, false}
use Rattle.std.specs.List.{list_any}
use Rattle.dy_base.specs.declared.fault.Fault.{Fault as FaultData}
use Rattle.dy_base.specs.declared.fault.Place.{Place}
use Rattle.dy_base.specs.declared.fault.Refusal.{Refusal}
use Rattle.dy_base.specs.declared.fault.Refusal.TheVariants.{Fault, Memory}
use Rattle.dy_term.specs.declared.rows.Row.{Row}
use Rattle.dy_term.specs.declared.draft.Draft.{Draft}
use Rattle.dy_term.specs.Rows.{CoreDraft, seen_draft}
use Rattle.dy_names.specs.Outside.{Outside}
use Rattle.dy_binding.specs.declared.progress.Progress.{Progress}
use Rattle.dy_binding.specs.Reads.{none}
use Rattle.dy_widths.specs.Rows.{is_wide, too_many}
use Rattle.dy_rows.specs.Rows.{read_draft}

-- a form, and where it begins
abbrev pub Form : Type 0
Form = Place × CoreDraft

abbrev pub seen_form : Place × Draft → Form
seen_form form = (form.0, seen_draft form.1)

abbrev pub or_fault : Option FaultData → Option FaultData → Option FaultData
or_fault (Some fault) other = Some fault
or_fault None other = other

abbrev pub limit_of : Place → Bool → Option FaultData
limit_of place true = Some (too_many place)
limit_of place false = None

module _ (out : Outside) where
  abbrev pub read_form : CoreDraft → List Row × Progress
  read_form draft = read_draft out draft [] none

  -- the rows of the forms, in order
  abbrev pub rows_of : List Form → List Row
  rows_of [] = []
  rows_of (form ∷ forms) = (read_form form.1).0 ++ rows_of forms

  abbrev pub first_fault : List Form → Option FaultData
  first_fault [] = None
  first_fault (form ∷ forms) = or_fault (read_form form.1).1.first (first_fault forms)

  -- a form that has too many parameters somewhere
  abbrev pub first_limit : List Form → Option FaultData
  first_limit [] = None
  first_limit (form ∷ forms) =
      or_fault (limit_of form.0 (list_any is_wide (read_form form.1).0)) (first_limit forms)

  abbrev pub told : List Form → Option FaultData
  told forms = or_fault (first_fault forms) (first_limit forms)

  -- The rows where nothing is wrong; else the fault of the first form whose names are wrong; else
  -- that of the first form with too many parameters. Want of memory may be answered at any time.
  abbrev pub IsLibrary : List Form → Result (List Row) Refusal → Type 0
  IsLibrary forms (Ok rows) = (told forms ≡ None) × (rows ≡ rows_of forms)
  IsLibrary forms (Err (Fault fault)) = told forms ≡ Some fault
  IsLibrary forms (Err Memory) = Unit {0}
