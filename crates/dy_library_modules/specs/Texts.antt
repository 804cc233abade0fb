-- What the texts of a library's files are lexed as, and which fault of them is told (own in the
-- order of faults).
use Rattle.std.specs.Prelude.{◌≡◌, ℕ, ◌+◌, ◌<◌, ◌≤◌, ◌^◌, Bool, true, false, List, [], ◌∷◌, length}
use Rattle.std.specs.Prelude.{slice_get, Option, Some, None, Result, Ok, Err}
use Rattle.std.specs.List.{All, find}
use Rattle.std.specs.Option.{option_or}
use Rattle.dy_base.specs.declared.kind.Kind.{Kind}
use Rattle.dy_base.specs.declared.kind.Kind.TheVariants.{BadHeader}
use Rattle.dy_base.specs.declared.fault.Fault.{Fault}
use Rattle.dy_base.specs.declared.fault.Refusal.{Refusal}
use Rattle.dy_base.specs.declared.fault.Refusal.TheVariants as refusals
use Rattle.dy_lexer.specs.declared.source.Source.{Source}
use Rattle.dy_lexer.specs.Sources.{IsSource, IsFirst}
use Rattle.dy_library_modules.specs.declared.lexing.Lexed.{Lexed}
use Rattle.dy_library_modules.specs.declared.lexing.Lexed.TheVariants.{Read, Faulty}

-- Places have 32 bits for a byte of a file, and for the number of the file.
abbrev pub AreShort : List (List ℕ) → Type 0
AreShort texts = All (λ (text : List ℕ). length text < 2 ^ 32) texts

abbrev pub AreFew : List (List ℕ) → Type 0
AreFew texts = length texts ≤ 2 ^ 32

-- the file of this number has this module and these tokens, or this first fault
abbrev pub Lexes : ℕ → List ℕ → Lexed → Type 0
Lexes file text (Read source) = IsSource file text source
Lexes file text (Faulty fault) = IsFirst file text fault

-- the same of files that are numbered from a number on
abbrev pub AreLexed : ℕ → List (List ℕ) → List Lexed → Type 0
AreLexed number [] [] = Unit {0}
AreLexed number [] (found ∷ lexed) = ⊥
AreLexed number (text ∷ texts) [] = ⊥
AreLexed number (text ∷ texts) (found ∷ lexed) =
    Lexes number text found × AreLexed (number + 1) texts lexed

-- the files that are read, and the faults of the others
abbrev pub sources_of : List Lexed → List Source
sources_of [] = []
sources_of (Read source ∷ lexed) = source ∷ sources_of lexed
sources_of (Faulty fault ∷ lexed) = sources_of lexed

abbrev pub faults_of : List Lexed → List Fault
faults_of [] = []
faults_of (Read source ∷ lexed) = faults_of lexed
faults_of (Faulty fault ∷ lexed) = fault ∷ faults_of lexed

abbrev pub is_bad_header : Kind → Bool
is_bad_header BadHeader = true
is_bad_header _ = false

abbrev pub is_header : Fault → Bool
is_header fault = is_bad_header fault.kind

-- the earliest header that is faulty, and the earliest file that is
abbrev pub first_header : List Fault → Option Fault
first_header faults = find is_header faults

abbrev pub first_faulty : List Fault → Option Fault
first_faulty faults = slice_get faults 0

-- Faults of headers come before all others.
abbrev pub first_of : List Fault → Option Fault
first_of faults = option_or (first_header faults) (first_faulty faults)

abbrev pub first_fault : List Lexed → Option Fault
first_fault lexed = first_of (faults_of lexed)

-- the fault that is told of texts
abbrev pub RefusesTexts : List (List ℕ) → Fault → Type 0
RefusesTexts texts fault =
    (lexed : List Lexed) × AreLexed 0 texts lexed × (first_fault lexed ≡ Some fault)

-- the files that texts are read as
abbrev pub GivesSources : List (List ℕ) → List Source → Type 0
GivesSources texts sources = (lexed : List Lexed) × AreLexed 0 texts lexed
    × (first_fault lexed ≡ None) × (sources ≡ sources_of lexed)

-- what a call gave; want of memory says nothing
abbrev pub AnswersTexts : List (List ℕ) → Result (List Source) Refusal → Type 0
AnswersTexts texts (Ok sources) = GivesSources texts sources
AnswersTexts texts (Err (refusals.Fault fault)) = RefusesTexts texts fault
AnswersTexts texts (Err refusals.Memory) = Unit {0}

-- the same of files that are lexed
abbrev pub AnswersLexed : List Lexed → Result (List Source) Refusal → Type 0
AnswersLexed lexed (Ok sources) = (first_fault lexed ≡ None) × (sources ≡ sources_of lexed)
AnswersLexed lexed (Err (refusals.Fault fault)) = first_fault lexed ≡ Some fault
AnswersLexed lexed (Err refusals.Memory) = Unit {0}
