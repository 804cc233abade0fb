-- What the source files of a library come to (own in the order of faults).
use Rattle.std.specs.Prelude.{◌≡◌, ◌≢◌, ◌⊎◌, ℕ, List, map, flat_map, Option, Some, None, Result}
use Rattle.std.specs.Prelude.{Ok, Err}
use Rattle.dy_base.specs.declared.kind.Kind.TheVariants.{NoFile}
use Rattle.dy_base.specs.declared.fault.Fault.{Fault}
use Rattle.dy_base.specs.declared.fault.Refusal.{Refusal}
use Rattle.dy_base.specs.declared.fault.Refusal.TheVariants as refusals
use Rattle.dy_lexer.specs.declared.source.Source.{Source}
use Rattle.dy_views.specs.declared.compiled.Compiled.{Compiled}
use Rattle.dy_library_rows.specs.Libraries.{Form}
use Rattle.dy_library_modules.specs.Texts.{RefusesTexts, GivesSources}
use Rattle.dy_library_modules.specs.Words.{words}
use Rattle.dy_library_modules.specs.Modules.{RefusesModules, GivesModules}
use Rattle.dy_library_modules.specs.declared.own_modules.LibraryModules.{LibraryModules}
use Rattle.dy_library_names.specs.Named.{Reading, IsFirstFault}
use Rattle.dy_verdict.specs.declared.library.ReadLibrary.{ReadLibrary}
use Rattle.dy_verdict.specs.Pieces.{pieces_of, Piece}
use Rattle.dy_verdict.specs.Forms.{first_refused, forms_of}
use Rattle.dy_verdict.specs.Trees.{Trees, form_tokens, AreGrouped}
use Rattle.dy_verdict.specs.Limits.{AreWithin, HaveTooMany}
use Rattle.dy_verdict.specs.Libraries.{place_by, IsReadAs}

-- the first fault, or the library
pub data Verdict : Type 0 where
  refused : (fault : Fault) → Verdict
  accepted : (library : ReadLibrary) → Verdict

module _ (library : List ℕ) where
  -- the first fault of the forms' names or sizes, else the library that they are
  abbrev pub JudgesNames : (modules : LibraryModules) (forms : List Form)
      → Reading modules.table (place_by modules) forms → Option Fault → Verdict → Type 0
  JudgesNames modules forms r (Some fault) verdict = verdict ≡ refused fault
  JudgesNames modules forms r None verdict = (read : ReadLibrary)
      × IsReadAs library modules forms r read × (verdict ≡ accepted read)

  -- the same of forms whose names are still to be read
  abbrev pub JudgesForms : LibraryModules → List Form → Verdict → Type 0
  JudgesForms modules forms verdict =
      (r : Reading modules.table (place_by modules) forms) × (first : Option Fault)
      × IsFirstFault modules.table (place_by modules) words.items modules.doubled forms r first
      × JudgesNames modules forms r first verdict

  -- the first form that is refused, else the verdict on the forms
  abbrev pub JudgesRead : LibraryModules → Option Fault → List Form → Verdict → Type 0
  JudgesRead modules (Some fault) forms verdict = verdict ≡ refused fault
  JudgesRead modules None forms verdict = JudgesForms modules forms verdict

  -- the first form with which they have too many tokens, else the verdict on what they are read as
  abbrev pub JudgesPieces : LibraryModules → List Piece → Verdict → Type 0
  JudgesPieces modules pieces verdict =
      ((fault : Fault) × HaveTooMany pieces fault × (verdict ≡ refused fault))
      ⊎ (AreWithin pieces
      × JudgesRead modules (first_refused pieces) (forms_of pieces) verdict)

  -- the first fault of the groups of files, else the verdict on their forms
  abbrev pub JudgesTrees : LibraryModules → Trees → Verdict → Type 0
  JudgesTrees modules (Err fault) verdict = verdict ≡ refused fault
  JudgesTrees modules (Ok trees) verdict = JudgesPieces modules (flat_map pieces_of trees) verdict

  abbrev pub JudgesGroups : LibraryModules → List Source → Verdict → Type 0
  JudgesGroups modules sources verdict = (trees : Trees)
      × AreGrouped words (map (form_tokens modules.names) sources) trees
      × JudgesTrees modules trees verdict

module _ (compiled : Compiled) (library : List ℕ) where
  -- the first fault of the library's modules, else the verdict on the files of these modules
  abbrev pub JudgesSources : List Source → Verdict → Type 0
  JudgesSources sources verdict =
      ((fault : Fault) × RefusesModules words library sources compiled fault
      × (verdict ≡ refused fault))
      ⊎ ((modules : LibraryModules) × GivesModules words library sources compiled modules
      × JudgesGroups library modules sources verdict)

  -- What the files of a library come to that sees those that were compiled before it: the first
  -- fault of their texts, else the verdict on what they hold.
  abbrev pub IsVerdict : List (List ℕ) → Verdict → Type 0
  IsVerdict texts verdict =
      ((fault : Fault) × RefusesTexts texts fault × (verdict ≡ refused fault))
      ⊎ ((sources : List Source) × GivesSources texts sources × JudgesSources sources verdict)

-- what a call gave is judged so; want of memory says nothing
abbrev pub Judged : (Verdict → Type 0) → Result ReadLibrary Refusal → Type 0
Judged judges (Ok library) = judges (accepted library)
Judged judges (Err (refusals.Fault fault)) = judges (refused fault)
Judged judges (Err refusals.Memory) = Unit {0}

-- no file is said to be absent
abbrev pub IsPlain : Refusal → Type 0
IsPlain (refusals.Fault fault) = fault.kind ≢ NoFile
IsPlain refusals.Memory = Unit {0}
