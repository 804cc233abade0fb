-- What the files of a library come to behind others that were compiled before it (own).
use Rattle.std.specs.Prelude.{◌≡◌, ◌⊎◌, ℕ, ◌+◌, Bool, true, false, nat_le, List, ◌∷◌, ◌++◌}
use Rattle.std.specs.Prelude.{length, map as each, slice_get, Option, Some, None, if◌then◌else◌}
use Rattle.std.specs.Option.{option_map}
use Rattle.std.specs.FinMap as map
use Rattle.dy_base.specs.declared.fault.Fault.{Fault}
use Rattle.dy_base.specs.declared.fault.Place.{Place}
use Rattle.dy_io.specs.Files.{FileMap}
use Rattle.dy_lexer.specs.declared.source.Lid.{Lid}
use Rattle.dy_lexer.specs.Sources.{IsLid, IsLidFault}
use Rattle.dy_lid_files.specs.Names.{NamesFiles}
use Rattle.dy_libraries.specs.declared.libraries.Libraries.{Libraries}
use Rattle.dy_verdict.specs.declared.library.ReadLibrary.{ReadLibrary}
use Rattle.dy_verdict.specs.Verdicts as verdicts
use Rattle.dy_sources.specs.declared.refused.Position.{Position}
use Rattle.dy_sources.specs.declared.refused.Refused.{Refused}
use Rattle.dy_sources.specs.Layout.{file_limit, files_limit, libraries_limit, source_name}
use Rattle.dy_sources.specs.Refusals.{no_file, long_file, many_files, many_libraries}
use Rattle.dy_sources.specs.Refusals.{position_at}
use Rattle.dy_sources.specs.Points.{point_at}

-- a file: absent, longer than a file may be, or a text
pub data Source : Type 0 where
  absent : Source
  too_long : Source
  text : (bytes : List ℕ) → Source

abbrev pub source_of : Option (List ℕ) → Source
source_of None = absent
source_of (Some bytes) = if nat_le (length bytes) file_limit then text bytes else too_long

abbrev pub source_at : FileMap → List ℕ → Source
source_at files name = source_of (map.get files name)

-- why a library is refused, or the library as it was read
pub data Verdict : Type 0 where
  refused : (why : Refused) → Verdict
  accepted : (library : ReadLibrary) → Verdict

-- ---- places

-- a fault with its subject, and with its place as a user counts
abbrev pub located : List ℕ → Option Position → Fault → Refused
located subject position fault =
    record { kind = fault.kind; subject = subject; position = position; shown = fault.shown }

-- the place at this offset of a file of this name and text, where there is one
abbrev pub position_in : Option (List ℕ) → Option (List ℕ) → ℕ → Option Position
position_in (Some name) (Some bytes) offset = Some (position_at name (point_at bytes offset))
position_in (Some name) None offset = None
position_in None bytes offset = None

-- where a fault in files of these names and texts stands
abbrev pub position_of : List (List ℕ) → List (List ℕ) → Option Place → Option Position
position_of names texts None = None
position_of names texts (Some place) =
    position_in (slice_get names place.file) (slice_get texts place.file) place.offset

-- where a fault in a LID file stands
abbrev pub position_in_lid : List ℕ → List ℕ → Option Place → Option Position
position_in_lid lid bytes place =
    option_map (λ at. position_at lid (point_at bytes at.offset)) place

-- ---- source files

abbrev pub located_verdict : List ℕ → List (List ℕ) → List (List ℕ) → verdicts.Verdict → Verdict
located_verdict library names texts (verdicts.refused fault) =
    refused (located library (position_of names texts fault.place) fault)
located_verdict library names texts (verdicts.accepted read) = accepted read

-- what is wrong with a file of this name that is no text
abbrev pub source_fault : List ℕ → List ℕ → Source → Option Refused
source_fault subject name absent = Some (no_file subject name)
source_fault subject name too_long = Some (long_file subject name)
source_fault subject name (text bytes) = None

-- the files of these names are these texts
abbrev pub AreTexts : FileMap → List (List ℕ) → List (List ℕ) → Type 0
AreTexts files names texts = each (source_at files) names ≡ each text texts

-- This is wrong with the first of the files that is no text: all in front of it are texts.
abbrev pub IsFirstFault : FileMap → List ℕ → List (List ℕ) → Refused → Type 0
IsFirstFault files library names why =
    (front : List (List ℕ)) × (name : List ℕ) × (behind : List (List ℕ))
    × (names ≡ front ++ name ∷ behind)
    × ((texts : List (List ℕ)) × AreTexts files front texts)
    × (source_fault library name (source_at files name) ≡ Some why)

-- No library has room behind these. The two that are built in do not count.
abbrev pub is_full : Libraries → Bool
is_full libraries = nat_le (2 + libraries_limit) (length libraries.rows)

module _ (before : Libraries) where
  -- what the texts of files of these names come to
  abbrev pub JudgesTexts : List ℕ → List (List ℕ) → List (List ℕ) → Verdict → Type 0
  JudgesTexts library names texts verdict =
      (judged : verdicts.Verdict) × verdicts.IsVerdict before.compiled library texts judged
      × (verdict ≡ located_verdict library names texts judged)

  -- the same by whether there is no room for one more library, which is told before anything that
  -- is wrong with the texts
  abbrev pub JudgesRoom : Bool → List ℕ → List (List ℕ) → List (List ℕ) → Verdict → Type 0
  JudgesRoom true library names texts verdict = verdict ≡ refused (many_libraries library names)
  JudgesRoom false library names texts verdict = JudgesTexts library names texts verdict

  -- what the files of these names come to: what is wrong with the first that is no text, else what
  -- their texts come to
  abbrev pub JudgesFiles : FileMap → List ℕ → List (List ℕ) → Verdict → Type 0
  JudgesFiles files library names verdict =
      ((why : Refused) × IsFirstFault files library names why × (verdict ≡ refused why))
      ⊎ ((texts : List (List ℕ)) × AreTexts files names texts
      × JudgesRoom (is_full before) library names texts verdict)

  -- ---- LID files

  -- what the files come to that a LID file names, which lie beside it
  abbrev pub JudgesNames : FileMap → List ℕ → List ℕ → List (List ℕ) → Verdict → Type 0
  JudgesNames files lid library names verdict =
      JudgesFiles files library (each (source_name lid) names) verdict

  -- a LID file's first fault, or what the files that it names come to
  abbrev pub JudgesForm : FileMap → List ℕ → List ℕ → Verdict → Type 0
  JudgesForm files lid bytes verdict =
      ((fault : Fault) × IsLidFault bytes fault
      × (verdict ≡ refused (located lid (position_in_lid lid bytes fault.place) fault)))
      ⊎ ((found : Lid) × IsLid bytes found
      × JudgesNames files lid found.library found.files verdict)

  -- by whether a LID file names no more files than it may
  abbrev pub JudgesFew : Bool → FileMap → List ℕ → List ℕ → Verdict → Type 0
  JudgesFew false files lid bytes verdict = verdict ≡ refused (many_files lid)
  JudgesFew true files lid bytes verdict = JudgesForm files lid bytes verdict

  -- What the text of a LID file comes to. That it names too many files is told before anything that
  -- is wrong with its lines.
  abbrev pub JudgesLid : FileMap → List ℕ → List ℕ → Verdict → Type 0
  JudgesLid files lid bytes verdict =
      (count : ℕ) × NamesFiles bytes count
      × JudgesFew (nat_le count files_limit) files lid bytes verdict

  abbrev pub JudgesSource : FileMap → List ℕ → Source → Verdict → Type 0
  JudgesSource files lid absent verdict = verdict ≡ refused (no_file lid lid)
  JudgesSource files lid too_long verdict = verdict ≡ refused (long_file lid lid)
  JudgesSource files lid (text bytes) verdict = JudgesLid files lid bytes verdict

-- what the library of a LID file comes to behind these: its first fault, or the library
abbrev pub IsVerdict : FileMap → Libraries → List ℕ → Verdict → Type 0
IsVerdict files before lid verdict = JudgesSource before files lid (source_at files lid) verdict
