-- What reading the sources answers.
use Rattle.std.specs.Prelude.{◌≡◌, ◌≢◌, ◌≤◌, ◌⊎◌, ℕ, List, length, Option, Some, Result, Ok, Err}
use Rattle.std.specs.Prelude.{Contains, IsTrue, true, nat_le}
use Rattle.std.specs.List.{list_all}
use Rattle.dy_base.specs.declared.kind.Kind.TheVariants.{NoFile}
use Rattle.dy_io.specs.Causes.{Rose}
use Rattle.dy_libraries.specs.declared.libraries.Libraries.{Libraries}
use Rattle.dy_verdict.specs.declared.library.ReadLibrary.{ReadLibrary}
use Rattle.dy_sources.specs.declared.refused.Refused.{Refused}
use Rattle.dy_sources.specs.declared.source.Source.{Source as Read}
use Rattle.dy_sources.specs.declared.source.Source.TheVariants as read
use Rattle.dy_sources.specs.declared.source.Halt.{Halt}
use Rattle.dy_sources.specs.declared.source.Halt.TheVariants as halts
use Rattle.dy_io.specs.Files.{FileMap}
use Rattle.dy_lexer.specs.declared.source.Lid.{Lid}
use Rattle.dy_lexer.specs.Headers.{is_printable}
use Rattle.dy_lexer.specs.Sources.{IsLid}
use Rattle.dy_sources.specs.Layout.{file_limit, source_name}
use Rattle.dy_sources.specs.Verdicts.{Source, absent, too_long, text, source_at, source_fault}
use Rattle.dy_sources.specs.Verdicts.{AreTexts, IsFirstFault, Verdict, refused, accepted}

abbrev pub seen_source : Read → Source
seen_source read.Absent = absent
seen_source read.TooLong = too_long
seen_source (read.Text bytes) = text bytes

-- no longer than a file may be
abbrev pub IsWithin : Read → Type 0
IsWithin read.Absent = Unit {0}
IsWithin read.TooLong = Unit {0}
IsWithin (read.Text bytes) = length bytes ≤ file_limit

-- A file was read that is so: its text, or what is wrong with it.
abbrev pub IsRead : List ℕ → List ℕ → Source → Result (List ℕ) Halt → Type 0
IsRead subject name source (Ok bytes) = source ≡ text bytes
IsRead subject name source (Err (halts.Refused why)) = source_fault subject name source ≡ Some why
IsRead subject name source (Err (halts.FileFault file)) = Unit {0}
IsRead subject name source (Err halts.Memory) = Unit {0}

-- Files were read: their texts, or what is wrong with the first that is no text.
abbrev pub FilesAreRead : FileMap → List ℕ → List (List ℕ) → Result (List (List ℕ)) Halt → Type 0
FilesAreRead files library names (Ok texts) = AreTexts files names texts
FilesAreRead files library names (Err (halts.Refused why)) = IsFirstFault files library names why
FilesAreRead files library names (Err (halts.FileFault file)) = Unit {0}
FilesAreRead files library names (Err halts.Memory) = Unit {0}

-- so many texts, none of which is longer than a file may be
abbrev pub AreWithin : ℕ → List (List ℕ) → Type 0
AreWithin count texts =
    (list_all (λ bytes. nat_le (length bytes) file_limit) texts ≡ true) × (length texts ≡ count)

-- The answer is judged so, unless a file failed or memory ran out.
abbrev pub Judged : (Verdict → Type 0) → Result ReadLibrary Halt → Type 0
Judged judges (Ok library) = judges (accepted library)
Judged judges (Err (halts.Refused why)) = judges (refused why)
Judged judges (Err (halts.FileFault name)) = Unit {0}
Judged judges (Err halts.Memory) = Unit {0}

-- The libraries are read so, unless a file failed or memory ran out.
abbrev pub AllJudged : (Result Libraries Refused → Type 0) → Result Libraries Halt → Type 0
AllJudged judges (Ok libraries) = judges (Ok libraries)
AllJudged judges (Err (halts.Refused why)) = judges (Err why)
AllJudged judges (Err (halts.FileFault name)) = Unit {0}
AllJudged judges (Err halts.Memory) = Unit {0}

-- A file is reported absent only where the misses rose.
abbrev pub Misses : ℕ → ℕ → Halt → Type 0
Misses before now (halts.Refused why) = why.kind ≡ NoFile → Rose before now
Misses before now (halts.FileFault name) = Unit {0}
Misses before now halts.Memory = Unit {0}

-- A file is reported to fail only where the faults rose.
abbrev pub Fails : ℕ → ℕ → Halt → Type 0
Fails before now (halts.Refused why) = Unit {0}
Fails before now (halts.FileFault name) = Rose before now
Fails before now halts.Memory = Unit {0}

-- No file is reported absent or failed.
abbrev pub IsPlain : Halt → Type 0
IsPlain (halts.Refused why) = why.kind ≢ NoFile
IsPlain (halts.FileFault name) = ⊥
IsPlain halts.Memory = Unit {0}

-- A file failed, where the faults rose, or memory ran out.
abbrev pub Interrupts : ℕ → ℕ → Halt → Type 0
Interrupts before now (halts.Refused why) = ⊥
Interrupts before now (halts.FileFault name) = Rose before now
Interrupts before now halts.Memory = Unit {0}

-- The name of a file that failed is such a one.
abbrev pub TellsName : (List ℕ → Type 0) → Halt → Type 0
TellsName is (halts.Refused why) = Unit {0}
TellsName is (halts.FileFault name) = is name
TellsName is halts.Memory = Unit {0}

-- a source file of these, each of which lies beside the LID file
abbrev pub IsSourceOf : List ℕ → List (List ℕ) → List ℕ → Type 0
IsSourceOf lid files name = (file : List ℕ) × Contains files file × IsTrue (is_printable file)
    × (name ≡ source_name lid file)

-- the LID file holds a text that gives this source file
abbrev pub Gives : FileMap → List ℕ → List ℕ → Type 0
Gives held lid file = (bytes : List ℕ) × (found : Lid) × (source_at held lid ≡ text bytes)
    × IsLid bytes found × Contains found.files file

-- a printable name behind the folder of the LID file; where the files tell what they hold, the LID
-- file gives it
abbrev pub IsBeside : Option FileMap → List ℕ → List ℕ → Type 0
IsBeside contents lid name =
    (file : List ℕ) × IsTrue (is_printable file) × (name ≡ source_name lid file)
    × ((held : FileMap) → contents ≡ Some held → Gives held lid file)

-- a file that is read for this LID file: that file itself, or one beside it
abbrev pub NamesFile : Option FileMap → List ℕ → List ℕ → Type 0
NamesFile contents lid name = (name ≡ lid) ⊎ IsBeside contents lid name

-- a file that is read for one of these LID files
abbrev pub NamesFileOf : Option FileMap → List (List ℕ) → List ℕ → Type 0
NamesFileOf contents lids name = (lid : List ℕ) × Contains lids lid × NamesFile contents lid name
