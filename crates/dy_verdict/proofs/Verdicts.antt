-- How the verdict on a library is put together from those on its parts.
use Rattle.std.proofs.Common.{◌≡◌, List, [], ◌∷◌, map, flat_map, Option, Some, None, Ok, Err, refl, sym, ap, ◌∙◌, subst, inl, inr}
use Rattle.std.specs.Prelude.{ℕ, Result}
use Rattle.std.specs.Global.{Vec}
use Rattle.dy_base.specs.Folding.{folded}
use Rattle.dy_base.specs.declared.fault.Fault.{Fault}
use Rattle.dy_base.specs.declared.fault.Place.{Place}
use Rattle.dy_base.specs.declared.fault.Refusal.{Refusal}
use Rattle.dy_base.specs.declared.fault.Refusal.TheVariants as refusals
use Rattle.dy_tree.specs.declared.fragment.Fragment.{Fragment}
use Rattle.dy_tree.specs.declared.token.Token.{Token}
use Rattle.dy_tree.specs.declared.words.Words.{Words}
use Rattle.dy_tree.specs.Fragments.{SeenFragment}
use Rattle.dy_lexer.specs.declared.source.Source.{Source}
use Rattle.dy_term.specs.declared.draft.Draft.{Draft}
use Rattle.dy_library_rows.specs.Libraries.{Form, seen_form}
use Rattle.dy_assembly.specs.declared.library.Heading.{Heading}
use Rattle.dy_module_tables.specs.Graphs.{Graph, AreFolded, AllExported}
use Rattle.dy_views.specs.declared.compiled.Compiled.{Compiled}
use Rattle.dy_library_modules.specs.declared.own_modules.LibraryModules.{LibraryModules}
use Rattle.dy_library_modules.specs.Words.{words}
use Rattle.dy_library_modules.specs.Texts.{RefusesTexts, GivesSources, AnswersTexts}
use Rattle.dy_library_modules.specs.Modules.{RefusesModules, GivesModules, AnswersModules}
use Rattle.dy_library_names.specs.declared.library.Named.{Named}
use Rattle.dy_library_names.specs.Named.{IsNamed}
use Rattle.dy_verdict.specs.declared.library.ReadLibrary.{ReadLibrary}
use Rattle.dy_verdict.specs.declared.pieces.Piece.{Piece as Held}
use Rattle.dy_verdict.specs.Pieces.{Piece, seen_piece, pieces_of}
use Rattle.dy_verdict.specs.Forms.{first_refused, forms_of}
use Rattle.dy_verdict.specs.Readings.{AreForms}
use Rattle.dy_verdict.specs.Trees.{Trees, form_tokens, AreGrouped, GivesTrees, seen_file}
use Rattle.dy_verdict.specs.Limits.{AreWithin, HaveTooMany, AnswersLimit}
use Rattle.dy_verdict.specs.Libraries.{heading_in, IsReadAs}
use Rattle.dy_verdict.specs.Verdicts.{Verdict, refused, accepted, JudgesForms, JudgesRead, JudgesPieces, JudgesTrees, JudgesGroups, JudgesSources, IsVerdict, Judged}

-- what is judged so, where this says the other
judged_so : (judges others : Verdict → Type 0) → ((verdict : Verdict) → judges verdict → others verdict) → (result : Result ReadLibrary Refusal) → Judged judges result → Judged others result
judged_so judges others says (Ok library) judged = says _ judged
judged_so judges others says (Err (refusals.Fault fault)) judged = says (refused fault) judged
judged_so judges others says (Err refusals.Memory) judged = tt

module _ (library : List ℕ) (modules : LibraryModules) where
  -- ---- forms

  moved : (heading : Heading) (known : Words) (forms : List Form) (result : Result Named Refusal) → heading ≡ heading_in library modules → known ≡ words
      → IsNamed modules.table heading known.items modules.doubled forms result → IsNamed modules.table (heading_in library modules) words.items modules.doubled forms result
  moved heading known forms result is are named =
      subst (λ (w : Words). IsNamed modules.table (heading_in library modules) w.items modules.doubled forms result) are
      (subst (λ (h : Heading). IsNamed modules.table h known.items modules.doubled forms result) is named)

  -- the named table has the same modules, whose names are in lower case
  pub named_lower : (heading : Heading) (known : Words) (forms : List Form) (named : Named) → AreFolded modules.table.modules → IsNamed modules.table heading known.items modules.doubled forms (Ok named) → AreFolded named.table.modules
  named_lower heading known forms named lower (r, first, is, table) = subst (λ (g : Graph). AreFolded g.modules) (sym table) lower

  pub forms_accepted : (heading : Heading) (known : Words) (forms : List Form) (named : Named) (read : ReadLibrary) → heading ≡ heading_in library modules → known ≡ words
      → IsNamed modules.table heading known.items modules.doubled forms (Ok named) → read.row ≡ named.library → read.exports.library ≡ folded library
      → AllExported named.table.modules named.table.defined named.table.shown read.exports.modules → read.exports.seen ≡ [] → read.uses ≡ modules.uses → read.order ≡ modules.order
      → JudgesForms library modules forms (accepted read)
  forms_accepted heading known forms named read is are found row name exported seen uses order =
      let (r, first, library_is, table) = moved heading known forms (Ok named) is are found in (
        r,
        None,
        first,
        (
          read,
          record {
            row = row ∙ library_is;
            name = name;
            exported = subst (λ (g : Graph). AllExported g.modules g.defined g.shown read.exports.modules) table exported;
            seen = seen;
            uses = uses;
            order = order;
          },
          refl,
        ),
      )

  pub forms_refused : (heading : Heading) (known : Words) (forms : List Form) (refusal : Refusal) → heading ≡ heading_in library modules → known ≡ words
      → IsNamed modules.table heading known.items modules.doubled forms (Err refusal) → Judged (JudgesForms library modules forms) (Err refusal)
  forms_refused heading known forms (refusals.Fault fault) is are found =
      let it = moved heading known forms (Err (refusals.Fault fault)) is are found in
      (it.0, Some fault, it.1, refl)
  forms_refused heading known forms refusals.Memory is are found = tt

  -- ---- pieces

  pieces_moved : (pieces others : List Piece) (result : Result ReadLibrary Refusal) → pieces ≡ others → Judged (JudgesPieces library modules pieces) result → Judged (JudgesPieces library modules others) result
  pieces_moved pieces others result same judged = subst (λ (p : List Piece). Judged (JudgesPieces library modules p) result) same judged

  pieces_long : (pieces : List Piece) (refusal : Refusal) → AnswersLimit pieces (Err refusal) → Judged (JudgesPieces library modules pieces) (Err refusal)
  pieces_long pieces (refusals.Fault fault) is = inl (fault, is, refl)
  pieces_long pieces refusals.Memory is = tt

  pieces_refused : (pieces : List Piece) (refusal : Refusal) → AreWithin pieces → AreForms pieces (Err refusal) → Judged (JudgesPieces library modules pieces) (Err refusal)
  pieces_refused pieces (refusals.Fault fault) within is = inr (within, subst (λ (told : Option Fault). JudgesRead library modules told (forms_of pieces) (refused fault)) (sym is) refl)
  pieces_refused pieces refusals.Memory within is = tt

  read_so : (pieces : List Piece) → AreWithin pieces → first_refused pieces ≡ None → (verdict : Verdict) → JudgesForms library modules (forms_of pieces) verdict → JudgesPieces library modules pieces verdict
  read_so pieces within none verdict judged = inr (within, subst (λ (told : Option Fault). JudgesRead library modules told (forms_of pieces) verdict) (sym none) judged)

  pieces_read : (pieces : List Piece) (forms : List Form) (result : Result ReadLibrary Refusal) → AreWithin pieces → first_refused pieces ≡ None → forms ≡ forms_of pieces → Judged (JudgesForms library modules forms) result
      → Judged (JudgesPieces library modules pieces) result
  pieces_read pieces forms result within none are judged =
      judged_so (JudgesForms library modules (forms_of pieces)) (JudgesPieces library modules pieces) (read_so pieces within none) result (subst (λ (f : List Form). Judged (JudgesForms library modules f) result) are judged)

  -- ---- groups

  pub trees_long : (trees : List (Vec Fragment)) (pieces known : List Held) (refusal : Refusal) → map seen_piece pieces ≡ flat_map pieces_of (map seen_file trees) → known ≡ pieces → AnswersLimit (map seen_piece known) (Err refusal)
      → Judged (JudgesTrees library modules (Ok (map seen_file trees))) (Err refusal)
  trees_long trees pieces known refusal cut same is =
      pieces_moved (map seen_piece known) (flat_map pieces_of (map seen_file trees)) (Err refusal) (ap (map seen_piece) same ∙ cut) (pieces_long (map seen_piece known) refusal is)

  within_same : (pieces known : List Held) → known ≡ pieces → AreWithin (map seen_piece known) → AreWithin (map seen_piece pieces)
  within_same pieces known same within = subst (λ (p : List Held). AreWithin (map seen_piece p)) same within

  pub trees_refused : (trees : List (Vec Fragment)) (pieces known : List Held) (refusal : Refusal) → map seen_piece pieces ≡ flat_map pieces_of (map seen_file trees) → known ≡ pieces → AreWithin (map seen_piece known)
      → AreForms (map seen_piece pieces) (Err refusal) → Judged (JudgesTrees library modules (Ok (map seen_file trees))) (Err refusal)
  trees_refused trees pieces known refusal cut same within is =
      pieces_moved (map seen_piece pieces) (flat_map pieces_of (map seen_file trees)) (Err refusal) cut (pieces_refused (map seen_piece pieces) refusal (within_same pieces known same within) is)

  pub trees_read : (trees : List (Vec Fragment)) (pieces known : List Held) (forms : List (Place × Draft)) (result : Result ReadLibrary Refusal) → map seen_piece pieces ≡ flat_map pieces_of (map seen_file trees) → known ≡ pieces
      → AreWithin (map seen_piece known) → first_refused (map seen_piece pieces) ≡ None → map seen_form forms ≡ forms_of (map seen_piece pieces) → Judged (JudgesForms library modules (map seen_form forms)) result
      → Judged (JudgesTrees library modules (Ok (map seen_file trees))) result
  trees_read trees pieces known forms result cut same within none are judged =
      pieces_moved (map seen_piece pieces) (flat_map pieces_of (map seen_file trees)) result cut
      (pieces_read (map seen_piece pieces) (map seen_form forms) result (within_same pieces known same within) none are judged)

  grouped_moved : (known : Words) (files others : List (List Token)) (trees : Trees) → known ≡ words → files ≡ others → AreGrouped known files trees → AreGrouped words others trees
  grouped_moved known files others trees are same grouped =
      subst (λ (w : Words). AreGrouped w others trees) are (subst (λ (f : List (List Token)). AreGrouped known f trees) same grouped)

  pub groups_refused : (known : Words) (sources : List Source) (files : List (List Token)) (refusal : Refusal) → known ≡ words → files ≡ map (form_tokens modules.names) sources → GivesTrees known files (Err refusal)
      → Judged (JudgesGroups library modules sources) (Err refusal)
  groups_refused known sources files (refusals.Fault fault) are is grouped = (Err fault, grouped_moved known files (map (form_tokens modules.names) sources) (Err fault) are is grouped, refl)
  groups_refused known sources files refusals.Memory are is grouped = tt

  pub groups_read : (known : Words) (sources : List Source) (files : List (List Token)) (trees : List (Vec Fragment)) (result : Result ReadLibrary Refusal) → known ≡ words → files ≡ map (form_tokens modules.names) sources
      → AreGrouped known files (Ok (map seen_file trees)) → Judged (JudgesTrees library modules (Ok (map seen_file trees))) result → Judged (JudgesGroups library modules sources) result
  groups_read known sources files trees result are is grouped judged =
      let all = Ok (map seen_file trees) in
      judged_so (JudgesTrees library modules all) (JudgesGroups library modules sources) (λ verdict it. (all, grouped_moved known files (map (form_tokens modules.names) sources) all are is grouped, it)) result judged

-- ---- files

module _ (compiled : Compiled) (library : List ℕ) where
  modules_moved : (known : Words) (sources given : List Source) (result : Result LibraryModules Refusal) → known ≡ words → given ≡ sources → AnswersModules known library given compiled result → AnswersModules words library sources compiled result
  modules_moved known sources given result are is answers =
      subst (λ (w : Words). AnswersModules w library sources compiled result) are (subst (λ (s : List Source). AnswersModules known library s compiled result) is answers)

  pub sources_refused : (known : Words) (sources given : List Source) (refusal : Refusal) → known ≡ words → given ≡ sources → AnswersModules known library given compiled (Err refusal)
      → Judged (JudgesSources compiled library sources) (Err refusal)
  sources_refused known sources given (refusals.Fault fault) are is answers = inl (fault, modules_moved known sources given (Err (refusals.Fault fault)) are is answers, refl)
  sources_refused known sources given refusals.Memory are is answers = tt

  pub sources_read : (known : Words) (sources given : List Source) (modules : LibraryModules) (result : Result ReadLibrary Refusal) → known ≡ words → given ≡ sources → AnswersModules known library given compiled (Ok modules)
      → Judged (JudgesGroups library modules sources) result → Judged (JudgesSources compiled library sources) result
  sources_read known sources given modules result are is answers judged =
      judged_so (JudgesGroups library modules sources) (JudgesSources compiled library sources) (λ verdict it. inr (modules, modules_moved known sources given (Ok modules) are is answers, it)) result judged

  pub texts_refused : (texts : List (List ℕ)) (refusal : Refusal) → AnswersTexts texts (Err refusal) → Judged (IsVerdict compiled library texts) (Err refusal)
  texts_refused texts (refusals.Fault fault) answers = inl (fault, answers, refl)
  texts_refused texts refusals.Memory answers = tt

  pub texts_read : (texts : List (List ℕ)) (sources : List Source) (result : Result ReadLibrary Refusal) → AnswersTexts texts (Ok sources) → Judged (JudgesSources compiled library sources) result
      → Judged (IsVerdict compiled library texts) result
  texts_read texts sources result answers judged =
      judged_so (JudgesSources compiled library sources) (IsVerdict compiled library texts) (λ verdict it. inr (sources, answers, it)) result judged
