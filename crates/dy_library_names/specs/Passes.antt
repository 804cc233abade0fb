-- What a pass over forms and faults has so far.
use Rattle.std.specs.Prelude.{Bool, false, ◌&&◌, List, [], ◌∷◌, ◌++◌, Option, Some, None}
use Rattle.std.specs.List.{list_any}
use Rattle.dy_base.specs.declared.fault.Fault.{Fault}
use Rattle.dy_base.specs.declared.fault.Place.{Place}
use Rattle.dy_term.specs.declared.rows.Row.{Row}
use Rattle.dy_names.specs.Outside.{Outside}
use Rattle.dy_binding.specs.declared.progress.Progress.{Progress}
use Rattle.dy_binding.specs.Faults.{first_of_two}
use Rattle.dy_binding.specs.Reads.{none, told, told_some}
use Rattle.dy_widths.specs.Rows.{is_wide}
use Rattle.dy_library_rows.specs.Libraries.{Form, or_fault, limit_of, read_form}
use Rattle.dy_modules.specs.declared.owner.Owner.{Owner}
use Rattle.dy_modules.specs.declared.owner.Owner.TheVariants.{Outside as OfOther, Own}
use Rattle.dy_definitions.specs.declared.definitions.Definition.{Definition}
use Rattle.dy_definitions.specs.Names.{is_generic, is_method}
use Rattle.dy_definitions.specs.Passes.{Tallies, with_definition}
use Rattle.dy_library_names.specs.Early.{stands_for_type, early_if}
use Rattle.dy_library_names.specs.declared.reading.Read.{Read}

-- faults, each behind those so far
abbrev pub told_all : List Fault → Progress → Progress
told_all [] p = p
told_all (fault ∷ faults) p = told_all faults (told fault p)

-- the first of these behind another
abbrev pub first_behind : Option Fault → List Fault → Option Fault
first_behind first [] = first
first_behind first (fault ∷ faults) = first_behind (Some (first_of_two first fault)) faults

abbrev pub first_of : List Fault → Option Fault
first_of faults = first_behind None faults

-- the first of the first phase that has one
abbrev pub first_in : List (List Fault) → Option Fault
first_in [] = None
first_in (faults ∷ phases) = or_fault (first_of faults) (first_in phases)

-- constants that stand for types, noted one by one
abbrev pub told_types : List Form → Progress → Progress
told_types [] p = p
told_types (form ∷ forms) p =
    told_types forms (told_some (early_if (stands_for_type form.1) form.0) p)

-- whether what a name means has a method, by the tallies of definitions
abbrev pub counts_method : Tallies → Option Owner → Bool
counts_method tallies None = false
counts_method tallies (Some (OfOther id)) = is_generic id.what
counts_method tallies (Some (Own c a)) = (tallies c a).adds

abbrev pub adds_to_counted : Tallies → Definition → Bool
adds_to_counted tallies d = is_method d.role && counts_method tallies d.owner

-- definitions, behind others, that add a method to what has one, noted one by one
abbrev pub told_again : Tallies → List Definition → Progress → Progress
told_again tallies [] p = p
told_again tallies (d ∷ ds) p = told_again (with_definition d tallies) ds
    (told_some (early_if (adds_to_counted tallies d) d.place) p)

abbrev pub nothing_read : Read
nothing_read = record { rows = []; names = none; limits = none }

-- what is read after a form at this place, which has a fault and these rows
abbrev pub with_read : Place → Option Fault → List Row → Read → Read
with_read place None rows read = record {
  rows = read.rows ++ rows;
  names = read.names;
  limits = told_some (limit_of place (list_any is_wide rows)) read.limits;
}
with_read place (Some fault) rows read = record {
  rows = read.rows;
  names = told fault read.names;
  limits = read.limits;
}

module _ (out : Outside) where
  abbrev pub with_form : Form → Read → Read
  with_form form read =
      with_read form.0 (read_form out form.1).1.first (read_form out form.1).0 read

  abbrev pub with_forms : List Form → Read → Read
  with_forms [] read = read
  with_forms (form ∷ forms) read = with_forms forms (with_form form read)
