-- In the program of a library behind others each generic function that its code calls is there, where
-- its names have rows; and so in that of an own library.
use Rattle.std.proofs.Common.{◌≡◌, ◌⊎◌, inl, inr, ℕ, ◌<◌, Bool, true, if◌then◌else◌, List, [], ◌∷◌, ◌++◌, length, flat_map, Some, None, slice_get, refl, sym, ap, ◌∙◌, subst, arith}
use Rattle.std.specs.Prelude.{nat_eq, IsSome}
use Rattle.dy_base.specs.declared.ids.BindingId.{BindingId}
use Rattle.dy_base.specs.declared.ids.What.TheVariants as whats
use Rattle.dy_tree.specs.declared.token.Token.{Token}
use Rattle.dy_term.specs.declared.rows.ClassRow.{ClassRow}
use Rattle.dy_term.specs.declared.rows.MethodRow.{MethodRow}
use Rattle.dy_term.specs.declared.rows.VariableRow.{VariableRow}
use Rattle.dy_term.specs.declared.rows.Row.{Row}
use Rattle.dy_term.specs.declared.rows.Row.TheVariants as rows
use Rattle.dy_term.specs.declared.rows.LibraryRow.{LibraryRow}
use Rattle.dy_names.specs.Outside.{Outside}
use Rattle.dy_prims.specs.Rows.{dylan_row, io_row}
use Rattle.dy_library_rows.specs.Names.{Names, exports, no_rows, with_forms, outside_with}
use Rattle.dy_library_rows.specs.Libraries.{Form, rows_of}
use Rattle.dy_assembly.specs.declared.library.Heading.{Heading}
use Rattle.dy_assembly.specs.Generics.{number_in}
use Rattle.dy_assembly.specs.Libraries.{class_in, generic_in, method_in, variable_in, top_in, drafts_of, own_heading, library_of, own_names, own_library, program_with}
use Rattle.dy_code.specs.declared.unit.Linked.{Linked}
use Rattle.dy_code.specs.Validity.{Every}
use Rattle.dy_lowering_law.specs.Machines.{linked_program}
use Rattle.dy_lowering_whole.specs.valid.Valid.{GenericsAreThere}
use Rattle.dy_lowering_whole.specs.called.Called.{NamesKnown}
use Rattle.dy_lowering_whole.proofs.valid.Securing.{scoped_programs_may_run}
use Rattle.dy_machine_laws.proofs.Built.{valid_programs_end}
use Rattle.dy_called_generics.specs.Called.{OwnGenericsAreThere, OwnProgramsMayRun, OwnProgramsEnd}
use Rattle.dy_called_generics.specs.Views.{program_of, IsGenericAt, IsGenericOf, CallsAreThere}
use Rattle.dy_called_generics.proofs.Views.{row_at, row_at_end, generic_kept, one_more_library, built_in_generics}
use Rattle.dy_called_generics.proofs.Rows.{CodeKnown, FunctionKnown, TopKnown, SlotsKnown, RowKnown, rows_known}
use Rattle.dy_called_generics.proofs.Bodies.{LibraryKnown, bodies_known, flat_every}
use Rattle.dy_called_generics.proofs.Names.{IsOfDylan, IsOwn, own, IsNamed, AreWhole, names_whole}
use Rattle.dy_called_generics.proofs.Generics.{IsOffered, offered, all_tested, row_there, number_there}

eq_is : (n : ℕ) → nat_eq n n ≡ true
eq_is n = grind arith

-- what a name of the library's own has as its number
own_number : (library number : ℕ) → number_in library (Some (own library number)) ≡ Some number
own_number library number = ap (λ (b : Bool). if b then Some number else None) (eq_is library)

-- A library whose forms and names are these, behind others: a name of a generic function is one of a
-- row of these, or has a number of the library below a count, and each number below the count is that
-- of a name which is offered a row.
module _ (before : List LibraryRow) (heading : Heading) (behind : heading.number ≡ length before) (out : Outside) (forms : List Form) (count : ℕ)
    (meant : (token : Token) (b : BindingId) → out.owner token ≡ Some b → b.what ≡ whats.Generic → IsGenericOf before b ⊎ IsOwn heading.number count b)
    (each : (number : ℕ) → number < count → IsNamed (λ (token : Token). IsOffered token (offered out forms)) heading.number out.owner number) where
  abbrev library : LibraryRow
  library = library_of heading out.owner (drafts_of forms) (rows_of out forms)

  abbrev libraries : List LibraryRow
  libraries = before ++ library ∷ []

  abbrev linked : Linked
  linked = linked_program (program_of libraries)

  own_row : (row : ℕ) → row < count → IsSome (slice_get library.generics row)
  own_row row low =
      row_there heading.number out.owner (drafts_of forms) (flat_map generic_in (rows_of out forms)) row
      (λ j below. let named = each j (omega (arith, below, low)) in number_there heading.number out.owner (offered out forms) named.token j named.tested (ap (number_in heading.number) named.meant ∙ own_number heading.number j))

  -- So all that these names mean is there, with the library behind the others.
  pub placed : (b : BindingId) → IsGenericOf before b ⊎ IsOwn heading.number count b → IsGenericOf libraries b
  placed b (inl there) = generic_kept before (library ∷ []) b there
  placed b (inr own) = subst (λ (place : ℕ). IsGenericAt libraries place b.at.row) (sym (own.0 ∙ behind)) (row_at_end before library b.at.row (own_row b.at.row own.1))

  names_known : NamesKnown linked out
  names_known token b e is = placed b (meant token b e is)

  -- the rows of each kind
  found_rows : Every (RowKnown linked) (rows_of out forms)
  found_rows = rows_known linked out names_known forms

  class_known : (row : Row) → RowKnown linked row → Every (λ (class : ClassRow). SlotsKnown linked class.slots) (class_in row)
  class_known (rows.Class row) h = (h, tt)
  class_known _ h = tt

  method_known : (row : Row) → RowKnown linked row → Every (λ (method : MethodRow). CodeKnown linked method.code) (method_in row)
  method_known (rows.Method row) h = (h, tt)
  method_known _ h = tt

  variable_known : (row : Row) → RowKnown linked row → Every (λ (variable : VariableRow). FunctionKnown linked variable.function) (variable_in row)
  variable_known (rows.Variable row) h = (h, tt)
  variable_known _ h = tt

  top_known : (row : Row) → RowKnown linked row → Every (TopKnown linked) (top_in row)
  top_known (rows.Top top) h = (h, tt)
  top_known _ h = tt

  library_known : LibraryKnown linked library
  library_known = record {
    classes = flat_every (λ (class : ClassRow). SlotsKnown linked class.slots) (RowKnown linked) class_in class_known (rows_of out forms) found_rows;
    methods = flat_every (λ (method : MethodRow). CodeKnown linked method.code) (RowKnown linked) method_in method_known (rows_of out forms) found_rows;
    variables = flat_every (λ (variable : VariableRow). FunctionKnown linked variable.function) (RowKnown linked) variable_in variable_known (rows_of out forms) found_rows;
    tops = flat_every (TopKnown linked) (RowKnown linked) top_in top_known (rows_of out forms) found_rows;
  }

  pub calls_are_there : CallsAreThere libraries library
  calls_are_there = bodies_known linked library library_known

  pub generics_are_there : GenericsAreThere (program_of before) → GenericsAreThere (program_of libraries)
  generics_are_there all = one_more_library before library all calls_are_there

-- a library whose names are those of one table, behind `dylan` and `io`
abbrev built_in : List LibraryRow
built_in = dylan_row ∷ io_row ∷ []

module _ (name : List ℕ) (forms : List Form) where
  abbrev names : Names
  names = with_forms (drafts_of forms) (exports, no_rows)

  abbrev out_of : Outside
  out_of = outside_with (own_names forms)

  abbrev Test : Token → Type 0
  Test token = IsOffered token (offered out_of forms)

  whole : AreWhole Test names
  whole = names_whole Test (drafts_of forms) (all_tested out_of forms)

  -- those that `dylan` exports are rows of it, in front
  of_dylan : (b : BindingId) → IsOfDylan b → IsGenericOf built_in b
  of_dylan b is = subst (λ (place : ℕ). IsGenericAt built_in place b.at.row) (sym is.0) (row_at built_in 0 b.at.row dylan_row refl is.1)

  either : (b : BindingId) → IsOfDylan b ⊎ IsOwn 2 names.1.generics b → IsGenericOf built_in b ⊎ IsOwn 2 names.1.generics b
  either b (inl dylan) = inl (of_dylan b dylan)
  either b (inr own) = inr own

  own_there_all : GenericsAreThere (program_with (own_library name forms))
  own_there_all =
      generics_are_there built_in (own_heading name) refl out_of forms names.1.generics (λ token b e is. either b (whole.rows token b e is)) whole.each built_in_generics

pub own_generics_are_there : OwnGenericsAreThere
own_generics_are_there name forms = own_there_all name forms

pub own_programs_may_run : OwnProgramsMayRun
own_programs_may_run name forms scoped = scoped_programs_may_run (program_with (own_library name forms)) scoped (own_generics_are_there name forms)

pub own_programs_end : OwnProgramsEnd
own_programs_end name forms fuel scoped = valid_programs_end (program_with (own_library name forms)) fuel (own_programs_may_run name forms scoped)
