-- The library of its forms and what its names are, or its first fault.
use Rattle.std.specs.Prelude.{◌≡◌, ℕ, Bool, List, [], ◌∷◌, ◌++◌, map, Option, Some, None, Result}
use Rattle.std.specs.Prelude.{Ok, Err}
use Rattle.std.specs.List.{list_any}
use Rattle.dy_base.specs.declared.kind.Kind.TheVariants.{Unbound}
use Rattle.dy_base.specs.declared.fault.Fault.{Fault as FaultData}
use Rattle.dy_base.specs.declared.fault.Place.{Place}
use Rattle.dy_base.specs.declared.fault.Refusal.{Refusal}
use Rattle.dy_base.specs.declared.fault.Refusal.TheVariants.{Fault, Memory}
use Rattle.dy_tree.specs.declared.words.Word.{Word}
use Rattle.dy_term.specs.declared.rows.LibraryRow.{LibraryRow}
use Rattle.dy_term.specs.declared.rows.Row.{Row}
use Rattle.dy_term.specs.Rows.{CoreDraft}
use Rattle.dy_names.specs.Outside.{Outside}
use Rattle.dy_widths.specs.Rows.{is_wide}
use Rattle.dy_library_rows.specs.Libraries.{Form, limit_of, read_form, rows_of}
use Rattle.dy_assembly.specs.declared.library.Heading.{Heading}
use Rattle.dy_assembly.specs.Libraries.{library_of, drafts_of}
use Rattle.dy_modules.specs.Clauses.{Name}
use Rattle.dy_module_tables.specs.Graphs.{Graph}
use Rattle.dy_module_tables.specs.Lacking.{AreLacking}
use Rattle.dy_definitions.specs.Means.{meanings_of}
use Rattle.dy_definitions.specs.Redefined.{all_redefined}
use Rattle.dy_module_names.specs.Definitions.{Modules, definitions}
use Rattle.dy_module_names.specs.Given.{AreModules}
use Rattle.dy_module_names.specs.Means.{AreMeant}
use Rattle.dy_library_names.specs.Closing.{Definitions, AreDefined, with_definitions}
use Rattle.dy_library_names.specs.Early.{early_faults}
use Rattle.dy_library_names.specs.Told.{or_more, IsFirst}
use Rattle.dy_library_names.specs.declared.library.Named.{Named}
use Rattle.dy_library_names.specs.declared.library.Judged.{Judged}

-- a promised name without a definition, at its clause
abbrev pub undefined : Name × Place → FaultData
undefined name = record {
  kind = Unbound;
  library = [];
  place = Some name.1;
  shown = name.0 ∷ [];
  numbers = [];
}

-- too many parameters, where nothing is wrong with the names of the form
abbrev pub limit_by : Place → Option FaultData → Bool → Option FaultData
limit_by place None wide = limit_of place wide
limit_by place (Some fault) wide = None

module _ (out : Outside) where
  -- what is wrong with the names of each form, which is the first of that form
  abbrev pub form_faults : List Form → List FaultData
  form_faults [] = []
  form_faults (form ∷ forms) = or_more (read_form out form.1).1.first (form_faults forms)

  -- the forms that have too many parameters somewhere
  abbrev pub limits : List Form → List FaultData
  limits [] = []
  limits (form ∷ forms) = or_more
      (limit_by form.0 (read_form out form.1).1.first (list_any is_wide (read_form out form.1).0))
      (limits forms)

-- What the modules and the forms of a library say: who owns each name in each module and where it
-- may be defined, what the owned names are defined as by the forms, what names mean by that, and
-- which promised names are not defined.
pub record Reading (g : Graph) (library : ℕ) (forms : List Form) : Type 0 where
  pub modules : Modules
  pub are : AreModules g modules
  pub defs : Definitions
  pub defined : AreDefined g.modules defs (meanings_of library (definitions modules forms))
  pub out : Outside
  pub meant : AreMeant g.modules defs out
  pub lacking : List (Name × Place)
  pub lacks : AreLacking g.modules defs g.promised lacking

module _ (g : Graph) (library : ℕ) (words : List Word) (doubled : List FaultData)
    (forms : List Form) (r : Reading g library forms) where
  -- all faults of names: of the forms, of the modules that are doubled, of the definitions, and of
  -- the promised names
  abbrev pub name_faults : List FaultData
  name_faults = form_faults r.out forms
      ++ ((doubled ++ all_redefined words (definitions r.modules forms)) ++ map undefined r.lacking)

  -- the first form that comes early, else the first fault of names, and else the first form with
  -- too many parameters
  abbrev pub phases : List (List FaultData)
  phases = early_faults forms (definitions r.modules forms) ∷ name_faults ∷ limits r.out forms ∷ []

  abbrev pub IsFirstFault : Option FaultData → Type 0
  IsFirstFault first = IsFirst phases first

-- the library of these forms, where names mean this
abbrev pub library_from : Heading → Outside → List Form → LibraryRow
library_from heading out forms =
    library_of heading out.owner (drafts_of forms) (rows_of out forms)

-- The library and the table of its modules with what their names are defined as, where nothing is
-- wrong; else the first fault. Want of memory may be answered at any time.
abbrev pub IsNamed : Graph → Heading → List Word → List FaultData → List Form
    → Result Named Refusal → Type 0
IsNamed g heading words doubled forms (Ok named) = (r : Reading g heading.number forms)
    × IsFirstFault g heading.number words doubled forms r None
    × (named.library ≡ library_from heading r.out forms)
    × (named.table ≡ with_definitions g r.defs)
IsNamed g heading words doubled forms (Err (Fault fault)) = (r : Reading g heading.number forms)
    × IsFirstFault g heading.number words doubled forms r (Some fault)
IsNamed g heading words doubled forms (Err Memory) = Unit {0}

-- the same before it is said which of them it is, and with rows in place of the library
abbrev pub IsJudged : Graph → ℕ → List Word → List FaultData → List Form → Judged → Type 0
IsJudged g library words doubled forms judged = (r : Reading g library forms)
    × IsFirstFault g library words doubled forms r judged.first
    × (judged.first ≡ None → judged.rows ≡ rows_of r.out forms)
    × (judged.table ≡ with_definitions g r.defs)

-- the library of these drafts and rows, where names mean what the table says
abbrev pub IsAssembled : Graph → Heading → List CoreDraft → List Row → Named → Type 0
IsAssembled g heading drafts rows named = (out : Outside) × AreMeant g.modules g.defined out
    × (named.library ≡ library_of heading out.owner drafts rows) × (named.table ≡ g)
