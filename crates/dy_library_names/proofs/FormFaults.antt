-- Reading forms one by one gives the faults and the rows of them all.
use Rattle.std.proofs.Common.{◌≡◌, Bool, true, false, true≢false, List, [], ◌∷◌, ◌++◌, Option, Some}
use Rattle.std.proofs.Common.{None, refl, sym, ap, ◌∙◌}
use Rattle.std.specs.List.{list_any}
use Rattle.std.proofs.lemmas.List.{append_assoc, append-nil}
use Rattle.dy_base.specs.declared.fault.Fault.{Fault}
use Rattle.dy_term.specs.declared.rows.Row.{Row}
use Rattle.dy_names.specs.Outside.{Outside}
use Rattle.dy_widths.specs.Rows.{is_wide}
use Rattle.dy_library_rows.specs.Libraries.{Form, limit_of, read_form, rows_of}
use Rattle.dy_library_names.specs.declared.reading.Read.{Read}
use Rattle.dy_library_names.specs.Named.{limit_by, form_faults, limits}
use Rattle.dy_library_names.specs.Passes.{told_all, with_read, with_form, with_forms}
use Rattle.dy_library_names.specs.Told.{or_more}
use Rattle.dy_library_names.proofs.Tells.{told_some_more}

abbrev is_nil : List Fault → Bool
is_nil [] = true
is_nil (fault ∷ faults) = false

module _ (out : Outside) where
  abbrev pub sound_by : Option Fault → List Row → List Row → List Row
  sound_by None rows more = rows ++ more
  sound_by (Some fault) rows more = more

  -- the rows of the forms with which nothing is wrong
  abbrev pub sound_rows : List Form → List Row
  sound_rows [] = []
  sound_rows (form ∷ forms) =
      sound_by (read_form out form.1).1.first (read_form out form.1).0 (sound_rows forms)

  pub names_are : (forms : List Form) (read : Read)
      → (with_forms out forms read).names ≡ told_all (form_faults out forms) read.names
  names_are [] read = refl
  names_are (form ∷ forms) read =
      names_are forms (with_form out form read) ∙ by_first (read_form out form.1).1.first
    where
      by_first : (o : Option Fault) → told_all (form_faults out forms)
          (with_read form.0 o (read_form out form.1).0 read).names
          ≡ told_all (or_more o (form_faults out forms)) read.names
      by_first None = refl
      by_first (Some fault) = refl

  pub limits_are : (forms : List Form) (read : Read)
      → (with_forms out forms read).limits ≡ told_all (limits out forms) read.limits
  limits_are [] read = refl
  limits_are (form ∷ forms) read =
      limits_are forms (with_form out form read) ∙ by_first (read_form out form.1).1.first
    where
      by_first : (o : Option Fault) → told_all (limits out forms)
          (with_read form.0 o (read_form out form.1).0 read).limits
          ≡ told_all (or_more (limit_by form.0 o (list_any is_wide (read_form out form.1).0))
          (limits out forms)) read.limits
      by_first None = told_some_more
          (limit_of form.0 (list_any is_wide (read_form out form.1).0)) (limits out forms)
          read.limits
      by_first (Some fault) = refl

  pub rows_are : (forms : List Form) (read : Read)
      → (with_forms out forms read).rows ≡ read.rows ++ sound_rows forms
  rows_are [] read = sym (append-nil read.rows)
  rows_are (form ∷ forms) read =
      rows_are forms (with_form out form read) ∙ by_first (read_form out form.1).1.first
    where
      by_first : (o : Option Fault)
          → (with_read form.0 o (read_form out form.1).0 read).rows ++ sound_rows forms
          ≡ read.rows ++ sound_by o (read_form out form.1).0 (sound_rows forms)
      by_first None = append_assoc read.rows (read_form out form.1).0 (sound_rows forms)
      by_first (Some fault) = refl

  -- where nothing is wrong these are the rows of all forms
  pub all_sound : (forms : List Form) → form_faults out forms ≡ []
      → sound_rows forms ≡ rows_of out forms
  all_sound [] e = refl
  all_sound (form ∷ forms) e = by_first (all_sound forms) (read_form out form.1).1.first e
    where
      by_first : (form_faults out forms ≡ [] → sound_rows forms ≡ rows_of out forms)
          → (o : Option Fault) → or_more o (form_faults out forms) ≡ []
          → sound_by o (read_form out form.1).0 (sound_rows forms)
          ≡ (read_form out form.1).0 ++ rows_of out forms
      by_first rest None is = ap (λ more. (read_form out form.1).0 ++ more) (rest is)
      by_first rest (Some fault) is = absurd (true≢false (sym (ap is_nil is)))
