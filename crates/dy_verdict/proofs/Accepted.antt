-- What an accepted library is: it may be put behind those that were compiled before it.
use Rattle.std.proofs.Common.{◌≡◌, ℕ, List, [], ◌∷◌, ◌++◌, flat_map, Option, Some, None, Result, Ok, Err, refl, sym, ap, subst, ◌∙◌, inl, inr}
use Rattle.std.specs.Prelude.{IfOk}
use Rattle.dy_base.specs.declared.fault.Fault.{Fault}
use Rattle.dy_base.specs.declared.fault.Refusal.{Refusal}
use Rattle.dy_lexer.specs.declared.source.Source.{Source}
use Rattle.dy_views.specs.declared.compiled.Compiled.{Compiled}
use Rattle.dy_views.specs.Views.{order_of, AreThere}
use Rattle.dy_folded_names.specs.Folded.{ModulesAreLower, ExportsAreLower}
use Rattle.dy_folded_names.proofs.Tables.{exported_are_lower}
use Rattle.dy_library_rows.specs.Libraries.{Form}
use Rattle.dy_library_modules.specs.declared.own_modules.LibraryModules.{LibraryModules}
use Rattle.dy_library_modules.specs.Words.{words}
use Rattle.dy_library_modules.specs.Modules.{GivesModules}
use Rattle.dy_library_names.specs.Named.{Reading}
use Rattle.dy_verdict.specs.declared.library.ReadLibrary.{ReadLibrary}
use Rattle.dy_verdict.specs.Pieces.{Piece, pieces_of}
use Rattle.dy_verdict.specs.Forms.{first_refused, forms_of}
use Rattle.dy_verdict.specs.Trees.{Trees}
use Rattle.dy_verdict.specs.Libraries.{place_by, IsReadAs}
use Rattle.dy_verdict.specs.Verdicts.{refused, accepted, JudgesNames, JudgesForms, JudgesRead, JudgesPieces, JudgesTrees, IsVerdict, Judged}
use Rattle.dy_verdict.proofs.Ready.{lower_behind, modules_seen, modules_lower}

pub same_read : (read other : ReadLibrary) → accepted read ≡ accepted other → read ≡ other
same_read read other is = cc

pub never : {P : Type 0} (read : ReadLibrary) (fault : Fault) → accepted read ≡ refused fault → P
never read fault is = absurd cc

-- it is read from forms in such modules
pub record IsOfModules (compiled : Compiled) (library : List ℕ) (read : ReadLibrary) : Type 0 where
  pub sources : List Source
  pub modules : LibraryModules
  pub given : GivesModules words library sources compiled modules
  pub forms : List Form
  pub reading : Reading modules.table (place_by modules) forms
  pub is : IsReadAs library modules forms reading read

module _ (compiled : Compiled) (library : List ℕ) (read : ReadLibrary) where
  module _ (sources : List Source) (modules : LibraryModules) (given : GivesModules words library sources compiled modules) where
    by_names : (forms : List Form) (r : Reading modules.table (place_by modules) forms) (first : Option Fault) → JudgesNames library modules forms r first (accepted read) → IsOfModules compiled library read
    by_names forms r (Some fault) is = never read fault is
    by_names forms r None (other, reads, is) =
        record { sources = sources; modules = modules; given = given; forms = forms; reading = r; is = subst (IsReadAs library modules forms r) (sym (same_read read other is)) reads }

    by_read : (first : Option Fault) (forms : List Form) → JudgesRead library modules first forms (accepted read) → IsOfModules compiled library read
    by_read (Some fault) forms is = never read fault is
    by_read None forms (r, first, fine, judged) = by_names forms r first judged

    by_pieces : (pieces : List Piece) → JudgesPieces library modules pieces (accepted read) → IsOfModules compiled library read
    by_pieces pieces (inl (fault, over, is)) = never read fault is
    by_pieces pieces (inr (within, judged)) = by_read (first_refused pieces) (forms_of pieces) judged

    by_trees : (trees : Trees) → JudgesTrees library modules trees (accepted read) → IsOfModules compiled library read
    by_trees (Err fault) is = never read fault is
    by_trees (Ok all) judged = by_pieces (flat_map pieces_of all) judged

  pub accepted_modules : (texts : List (List ℕ)) → IsVerdict compiled library texts (accepted read) → IsOfModules compiled library read
  accepted_modules texts (inl (fault, refuses, is)) = never read fault is
  accepted_modules texts (inr (sources, gives, inl (fault, refuses, is))) = never read fault is
  accepted_modules texts (inr (sources, gives, inr (modules, given, (trees, grouped, judged)))) = by_trees sources modules given trees judged

  pub accepted_seen : IsOfModules compiled library read → AreThere compiled read.uses × (read.order ≡ order_of compiled read.uses)
  accepted_seen of =
      let seen = modules_seen words library of.sources compiled of.modules of.given in
      (subst (AreThere compiled) (sym of.is.uses) seen.0, of.is.order ∙ seen.1 ∙ ap (order_of compiled) (sym of.is.uses))

  pub accepted_lower : ExportsAreLower compiled.exports → IsOfModules compiled library read → ExportsAreLower (compiled.exports ++ read.exports ∷ [])
  accepted_lower all of =
      let g = of.modules.table in
      let lower = modules_lower words library of.sources compiled of.modules of.given all in
      let exported = exported_are_lower g.modules of.reading.defs g.shown read.exports.modules lower of.is.exported in
      lower_behind compiled.exports (read.exports ∷ []) all ((exported, subst ModulesAreLower (sym of.is.seen) tt), tt)

-- the same of what a call gave
pub judged_seen : (compiled : Compiled) (library : List ℕ) (texts : List (List ℕ)) (result : Result ReadLibrary Refusal) → Judged (IsVerdict compiled library texts) result
    → IfOk result (λ read. AreThere compiled read.uses × (read.order ≡ order_of compiled read.uses))
judged_seen compiled library texts (Ok read) judged = accepted_seen compiled library read (accepted_modules compiled library read texts judged)
judged_seen compiled library texts (Err refusal) judged = tt

pub judged_lower : (compiled : Compiled) (library : List ℕ) (texts : List (List ℕ)) (result : Result ReadLibrary Refusal) → ExportsAreLower compiled.exports → Judged (IsVerdict compiled library texts) result
    → IfOk result (λ read. ExportsAreLower (compiled.exports ++ read.exports ∷ []))
judged_lower compiled library texts (Ok read) all judged = accepted_lower compiled library read all (accepted_modules compiled library read texts judged)
judged_lower compiled library texts (Err refusal) all judged = tt
