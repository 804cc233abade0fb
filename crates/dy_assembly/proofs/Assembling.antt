-- A library is that of its forms where nothing is wrong with them.
use Rattle.std.proofs.Common.{◌≡◌, ℕ, List, [], ◌∷◌, map, Option, Some, None, Result, Ok, Err, refl, sym, ap, subst, ◌∙◌}
use Rattle.dy_base.specs.declared.fault.Fault.{Fault as FaultData}
use Rattle.dy_base.specs.declared.fault.Place.{Place}
use Rattle.dy_base.specs.declared.fault.Refusal.{Refusal}
use Rattle.dy_base.specs.declared.fault.Refusal.TheVariants.{Fault, Memory}
use Rattle.dy_term.specs.declared.rows.LibraryRow.{LibraryRow}
use Rattle.dy_term.specs.declared.rows.Row.{Row}
use Rattle.dy_term.specs.declared.draft.Draft.{Draft}
use Rattle.dy_term.specs.Rows.{CoreDraft, seen_draft}
use Rattle.dy_names.specs.Naming.{Table}
use Rattle.dy_library_rows.specs.Names.{names_of, outside_with}
use Rattle.dy_library_rows.specs.Libraries.{Form, IsLibrary, rows_of, seen_form, told}
use Rattle.dy_assembly.specs.Libraries.{IsAssembled, drafts_of, library_of, own_heading, own_names, wrong_with}

drafts_seen : (forms : List (Place × Draft)) → map (λ (f : Place × Draft). seen_draft f.1) forms ≡ drafts_of (map seen_form forms)
drafts_seen [] = refl
drafts_seen (form ∷ forms) = ap (λ (l : List CoreDraft). seen_draft form.1 ∷ l) (drafts_seen forms)

own_names_seen : (forms : List (Place × Draft)) (table : Table) → table ≡ names_of (map (λ (f : Place × Draft). seen_draft f.1) forms) → table ≡ own_names (map seen_form forms)
own_names_seen forms table named = named ∙ ap (λ (l : List CoreDraft). names_of l) (drafts_seen forms)

told_of : (forms : List Form) (table : Table) (fault : Option FaultData) → table ≡ own_names forms → told (outside_with table) forms ≡ fault → wrong_with forms ≡ fault
told_of forms table fault named is = ap (λ (t : Table). told (outside_with t) forms) (sym named) ∙ is

library_named : (name : List ℕ) (forms : List Form) (table : Table) (drafts : List CoreDraft) (rows : List Row) → table ≡ own_names forms → drafts ≡ drafts_of forms → rows ≡ rows_of (outside_with table) forms
    → library_of (own_heading name) table drafts rows ≡ library_of (own_heading name) (own_names forms) (drafts_of forms) (rows_of (outside_with (own_names forms)) forms)
library_named name forms table drafts rows named drawn read =
    ap (λ (t : Table). library_of (own_heading name) t drafts rows) named
    ∙ ap (λ (d : List CoreDraft). library_of (own_heading name) (own_names forms) d rows) drawn
    ∙ ap (λ (r : List Row). library_of (own_heading name) (own_names forms) (drafts_of forms) r)
    (read ∙ ap (λ (t : Table). rows_of (outside_with t) forms) named)

pub assembled : (name : List ℕ) (forms : List (Place × Draft)) (table : Table) (rows : List Row) (library : LibraryRow)
    → table ≡ names_of (map (λ (f : Place × Draft). seen_draft f.1) forms)
    → IsLibrary (outside_with table) (map seen_form forms) (Ok rows)
    → library ≡ library_of (own_heading name) table (map (λ (f : Place × Draft). seen_draft f.1) forms) rows
    → IsAssembled name (map seen_form forms) (Ok library)
assembled name forms table rows library named read is =
    let own = own_names_seen forms table named in (
      told_of (map seen_form forms) table None own read.0,
      is ∙ library_named name (map seen_form forms) table (map (λ (f : Place × Draft). seen_draft f.1) forms) rows own (drafts_seen forms) read.1,
    )

refused_by : (name : List ℕ) (forms : List (Place × Draft)) (table : Table) (refusal : Refusal)
    → table ≡ names_of (map (λ (f : Place × Draft). seen_draft f.1) forms)
    → IsLibrary (outside_with table) (map seen_form forms) (Err refusal)
    → IsAssembled name (map seen_form forms) (Err refusal)
refused_by name forms table (Fault fault) named read = told_of (map seen_form forms) table (Some fault) (own_names_seen forms table named) read
refused_by name forms table Memory named read = tt

pub refused : (name : List ℕ) (forms : List (Place × Draft)) (table : Table) (refusal : Refusal) (result : Result LibraryRow Refusal)
    → table ≡ names_of (map (λ (f : Place × Draft). seen_draft f.1) forms)
    → IsLibrary (outside_with table) (map seen_form forms) (Err refusal)
    → result ≡ Err refusal
    → IsAssembled name (map seen_form forms) result
refused name forms table refusal result named read is =
    subst (λ (r : Result LibraryRow Refusal). IsAssembled name (map seen_form forms) r) (sym is) (refused_by name forms table refusal named read)
