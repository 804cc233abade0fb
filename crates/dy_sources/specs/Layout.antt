-- The files of a library, as this compiler takes them today (own).
use Rattle.std.specs.Prelude.{ℕ, Bool, ◌==◌, nat_eq, List, [], ◌∷◌, ◌++◌, if◌then◌else◌}
use Rattle.std.specs.List.{list_any}
use Rattle.std.specs.Cmp.Lexicographic.{pointwise}

-- one text, byte by byte
abbrev pub is_same : List ℕ → List ℕ → Bool
is_same text other = pointwise nat_eq text other

-- A file has at most so many bytes.
abbrev pub file_limit : ℕ
file_limit = 4194304

-- A LID file names at most so many files.
abbrev pub files_limit : ℕ
files_limit = 64

-- A command has at most so many libraries beside the two that are built in.
abbrev pub libraries_limit : ℕ
libraries_limit = 64

abbrev pub is_line_feed : ℕ → Bool
is_line_feed byte = byte == 10

abbrev pub has_slash : List ℕ → Bool
has_slash bytes = list_any (λ byte. byte == 47) bytes

-- a file's name up to its last slash
abbrev pub folder_of : List ℕ → List ℕ
folder_of [] = []
folder_of (byte ∷ bytes) = if has_slash (byte ∷ bytes) then byte ∷ folder_of bytes else []

-- the name under which a source file that a LID file names is read
abbrev pub source_name : List ℕ → List ℕ → List ℕ
source_name lid file = folder_of lid ++ file
