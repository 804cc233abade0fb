-- The rows of a library that is accepted are in scope and lowered.
use Rattle.std.proofs.Common.{◌≡◌, ℕ, Bool, true, List, [], ◌∷◌, ◌++◌, flat_map, map, Option, Some, None, Ok, Err, refl, sym, subst, inl, inr}
use Rattle.std.specs.List.{list_all, list_any}
use Rattle.dy_base.specs.declared.fault.Fault.{Fault}
use Rattle.dy_base.specs.declared.fault.Place.{Place}
use Rattle.dy_lexer.specs.declared.source.Source.{Source}
use Rattle.dy_term.specs.declared.rows.LibraryRow.{LibraryRow}
use Rattle.dy_names.specs.Outside.{Outside}
use Rattle.dy_widths.specs.Rows.{is_wide}
use Rattle.dy_library_rows.specs.Libraries.{Form, or_fault, limit_of, read_form, rows_of, first_fault, first_limit, told}
use Rattle.dy_lowering_whole.specs.valid.Scoped.{is_library_scoped}
use Rattle.dy_lowering_whole.specs.Lowered.{is_library_lowered}
use Rattle.dy_scoped_rows.proofs.terms.Facts.{both_true, and_true}
use Rattle.dy_scoped_rows.specs.Scoped.{is_row_lowered, is_row_scoped}
use Rattle.dy_scoped_rows.proofs.Rows.{rows_in_scope}
use Rattle.dy_lowered_forms.specs.drafts.Plain.{is_form_plain}
use Rattle.dy_lowered_forms.proofs.drafts.Rows.{forms_lowered}
use Rattle.dy_assembly.specs.declared.library.Heading.{Heading}
use Rattle.dy_assembly.specs.Libraries.{drafts_of}
use Rattle.dy_views.specs.declared.compiled.Compiled.{Compiled}
use Rattle.dy_library_modules.specs.declared.own_modules.LibraryModules.{LibraryModules}
use Rattle.dy_library_modules.specs.Texts.{GivesSources}
use Rattle.dy_library_modules.specs.Words.{words}
use Rattle.dy_library_modules.specs.Modules.{GivesModules}
use Rattle.dy_library_names.specs.Told.{or_more}
use Rattle.dy_library_names.specs.Named.{limit_by, form_faults, limits, Reading, IsFirstFault, library_from}
use Rattle.dy_verdict.specs.declared.library.ReadLibrary.{ReadLibrary}
use Rattle.dy_verdict.specs.Pieces.{Piece, pieces_of}
use Rattle.dy_verdict.specs.Forms.{first_refused, forms_of}
use Rattle.dy_verdict.specs.Trees.{Trees, form_tokens, AreGrouped}
use Rattle.dy_verdict.specs.Libraries.{heading_in, place_by, IsReadAs}
use Rattle.dy_verdict.specs.Verdicts.{accepted, JudgesNames, JudgesForms, JudgesRead, JudgesPieces, JudgesTrees, IsVerdict}
use Rattle.dy_verdict.proofs.Accepted as verdicts
use Rattle.dy_verdict.proofs.Accepted.{same_read, never, accepted_modules, accepted_seen}
use Rattle.dy_verdict_laws.specs.Accepted.{AcceptedAreLowered, AcceptedAreViewed, AcceptedAreLower}
use Rattle.dy_verdict_laws.proofs.Forms.{are_plain, files_plain}
use Rattle.dy_verdict_laws.proofs.Libraries.{library_scoped, library_lowered}

-- of a library alone
abbrev IsDone : LibraryRow → Type 0
IsDone row = (is_library_scoped row ≡ true) × (is_library_lowered row ≡ true)

plain_drafts : (forms : List Form) → are_plain forms → list_all is_form_plain (drafts_of forms) ≡ true
plain_drafts [] are = refl
plain_drafts (form ∷ forms) are =
    let h = both_true (is_form_plain form.1) (list_all (λ (f : Form). is_form_plain f.1) forms) are in
    and_true (is_form_plain form.1) _ h.0 (plain_drafts forms h.1)

-- ---- forms with which nothing is wrong

nothing_in : (first : Option Fault) (faults : List Fault) → or_more first faults ≡ [] → (first ≡ None) × (faults ≡ [])
nothing_in None faults is = (refl, is)
nothing_in (Some fault) faults is = absurd cc

nothing_before : {A : Type 0} (some more : List A) → some ++ more ≡ [] → some ≡ []
nothing_before [] more is = refl
nothing_before (x ∷ some) more is = absurd cc

no_limit : (place : Place) (first : Option Fault) (wide : Bool) → first ≡ None → limit_by place first wide ≡ None → limit_of place wide ≡ None
no_limit place None wide is none = none
no_limit place (Some fault) wide is none = absurd cc

or_nothing : (first other : Option Fault) → first ≡ None → other ≡ None → or_fault first other ≡ None
or_nothing None other is none = none
or_nothing (Some fault) other is none = absurd cc

module _ (out : Outside) where
  no_first : (forms : List Form) → form_faults out forms ≡ [] → first_fault out forms ≡ None
  no_first [] none = refl
  no_first (form ∷ forms) none =
      let h = nothing_in (read_form out form.1).1.first (form_faults out forms) none in
      or_nothing (read_form out form.1).1.first (first_fault out forms) h.0 (no_first forms h.1)

  no_limits : (forms : List Form) → form_faults out forms ≡ [] → limits out forms ≡ [] → first_limit out forms ≡ None
  no_limits [] none also = refl
  no_limits (form ∷ forms) none also =
      let wide = list_any is_wide (read_form out form.1).0 in
      let h = nothing_in (read_form out form.1).1.first (form_faults out forms) none in
      let g = nothing_in (limit_by form.0 (read_form out form.1).1.first wide) (limits out forms) also in
      or_nothing (limit_of form.0 wide) (first_limit out forms) (no_limit form.0 (read_form out form.1).1.first wide h.0 g.0) (no_limits forms h.1 g.1)

  nothing_told : (forms : List Form) → form_faults out forms ≡ [] → limits out forms ≡ [] → told out forms ≡ None
  nothing_told forms none also = or_nothing (first_fault out forms) (first_limit out forms) (no_first forms none) (no_limits forms none also)

  forms_done : (heading : Heading) (forms : List Form) → are_plain forms → told out forms ≡ None → IsDone (library_from heading out forms)
  forms_done heading forms are none =
      let read = rows_of out forms in
      let lowered : list_all is_row_lowered read ≡ true = forms_lowered out forms are in
      let scoped : list_all is_row_scoped read ≡ true = rows_in_scope out forms read (none, refl) lowered in (
        library_scoped heading out.owner (drafts_of forms) read lowered scoped,
        library_lowered heading out.owner (drafts_of forms) read (plain_drafts forms are) lowered,
      )

-- ---- what an accepted library is

-- it is of forms in which nothing is wrong
pub record IsOfForms (compiled : Compiled) (library : List ℕ) (read : ReadLibrary) : Type 0 where
  pub sources : List Source
  pub modules : LibraryModules
  pub given : GivesModules words library sources compiled modules
  pub forms : List Form
  pub reading : Reading modules.table (place_by modules) forms
  pub plain : are_plain forms
  pub fine : IsFirstFault modules.table (place_by modules) words.items modules.doubled forms reading None
  pub is : IsReadAs library modules forms reading read

module _ (compiled : Compiled) (library : List ℕ) (read : ReadLibrary) where
  module _ (sources : List Source) (modules : LibraryModules) (given : GivesModules words library sources compiled modules) where
    by_first : (forms : List Form) (r : Reading modules.table (place_by modules) forms) (first : Option Fault) → are_plain forms → IsFirstFault modules.table (place_by modules) words.items modules.doubled forms r first
        → JudgesNames library modules forms r first (accepted read) → IsOfForms compiled library read
    by_first forms r (Some fault) are fine is = never read fault is
    by_first forms r None are fine (other, reads, is) =
        record { sources = sources; modules = modules; given = given; forms = forms; reading = r; plain = are; fine = fine; is = subst (IsReadAs library modules forms r) (sym (same_read read other is)) reads }

    by_forms : (forms : List Form) → are_plain forms → JudgesForms library modules forms (accepted read) → IsOfForms compiled library read
    by_forms forms are (r, first, fine, judged) = by_first forms r first are fine judged

    by_read : (first : Option Fault) (forms : List Form) → (first ≡ None → are_plain forms) → JudgesRead library modules first forms (accepted read) → IsOfForms compiled library read
    by_read (Some fault) forms are is = never read fault is
    by_read None forms are judged = by_forms forms (are refl) judged

    by_pieces : (pieces : List Piece) → (first_refused pieces ≡ None → are_plain (forms_of pieces)) → JudgesPieces library modules pieces (accepted read) → IsOfForms compiled library read
    by_pieces pieces are (inl (fault, over, is)) = never read fault is
    by_pieces pieces are (inr (within, judged)) = by_read (first_refused pieces) (forms_of pieces) are judged

    by_trees : (texts : List (List ℕ)) (trees : Trees) → GivesSources texts sources → AreGrouped words (map (form_tokens modules.names) sources) trees → JudgesTrees library modules trees (accepted read) → IsOfForms compiled library read
    by_trees texts (Err fault) gives grouped is = never read fault is
    by_trees texts (Ok all) gives grouped judged = by_pieces (flat_map pieces_of all) (λ fine. files_plain words modules.names texts sources all gives grouped fine) judged

  pub accepted_forms : (texts : List (List ℕ)) → IsVerdict compiled library texts (accepted read) → IsOfForms compiled library read
  accepted_forms texts (inl (fault, refuses, is)) = never read fault is
  accepted_forms texts (inr (sources, gives, inl (fault, refuses, is))) = never read fault is
  accepted_forms texts (inr (sources, gives, inr (modules, given, (trees, grouped, judged)))) = by_trees sources modules given texts trees gives grouped judged

  accepted_done : IsOfForms compiled library read → IsDone read.row
  accepted_done of =
      let out = of.reading.out in
      let faults = form_faults out of.forms in
      let none : faults ≡ [] = nothing_before faults _ of.fine.1.0 in
      subst IsDone (sym of.is.row) (forms_done out (heading_in library of.modules) of.forms of.plain (nothing_told out of.forms none of.fine.1.1.0))

pub accepted_lowered : AcceptedAreLowered
accepted_lowered compiled library texts read judged = accepted_done compiled library read (accepted_forms compiled library read texts judged)

pub accepted_viewed : AcceptedAreViewed
accepted_viewed compiled library texts read judged = accepted_seen compiled library read (accepted_modules compiled library read texts judged)

pub accepted_lower : AcceptedAreLower
accepted_lower compiled library texts read all judged = verdicts.accepted_lower compiled library read all (accepted_modules compiled library read texts judged)
