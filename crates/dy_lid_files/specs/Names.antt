-- How many files a LID file names, in form or not (own).
use Rattle.std.specs.Prelude.{◌≡◌, ℕ, Bool, List, [], ◌∷◌, drop, length, codes, not, if◌then◌else◌}
use Rattle.std.specs.List.{list_any, filter}
use Rattle.dy_pieces.specs.Bytes.{is_blank}
use Rattle.dy_pieces.specs.Words.{begins}
use Rattle.dy_lexer.specs.Headers.{is_continued, Line, Lines}

-- the line has the key `files`, in either case
abbrev pub begins_files : List ℕ → Bool
begins_files line = begins (codes "files:") line

-- the value of that key in its line
abbrev pub first_value : List ℕ → List ℕ
first_value line = drop 6 line

-- A line of the value names a file, unless it is all blanks.
abbrev pub is_name : List ℕ → Bool
is_name line = list_any (λ byte. not (is_blank byte)) line

abbrev pub names_in : List (List ℕ) → ℕ
names_in lines = length (filter is_name lines)

-- the lines at the front that continue a value
abbrev pub continuing : List Line → List (List ℕ)
continuing [] = []
continuing (line ∷ lines) = if is_continued line.bytes then line.bytes ∷ continuing lines else []

-- the lines of the value of the first `files`
abbrev pub files_value : List Line → List (List ℕ)
files_value [] = []
files_value (line ∷ lines) =
    if begins_files line.bytes then first_value line.bytes ∷ continuing lines else files_value lines

-- So many files the LID file names in its first `files`, whether or not it is in form.
abbrev pub NamesFiles : List ℕ → ℕ → Type 0
NamesFiles text count = (lines : List Line) × (end : ℕ) × (body : List ℕ)
    × Lines 0 text lines end body × (count ≡ names_in (files_value lines))
