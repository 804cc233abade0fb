-- Headers of source files and of LID files (DRM 2, "Dylan interchange format"; own in the parts
-- that are marked so).
use Rattle.std.specs.Prelude.{◌≡◌, ℕ, zero, suc, ◌+◌, ◌-◌, ◌<◌, ◌⊎◌, Bool, true, false, ◌&&◌, ◌||◌}
use Rattle.std.specs.Prelude.{◌==◌, nat_le, nat_lt, if◌then◌else◌, List, [], ◌∷◌, ◌++◌, take, drop}
use Rattle.std.specs.Prelude.{length, codes, Option, Some, None}
use Rattle.std.specs.List.{prefix_len, list_all}
use Rattle.dy_base.specs.Folding.{folded}
use Rattle.dy_lexer.specs.declared.header.Key.{Key}
use Rattle.dy_lexer.specs.declared.header.Key.TheVariants as keys
use Rattle.dy_lexer.specs.declared.header.Within.{Within}
use Rattle.dy_lexer.specs.declared.header.Within.TheVariants as in_
use Rattle.dy_lexer.specs.declared.header.Head.{Head}
use Rattle.dy_pieces.specs.Bytes.{is_letter, is_digit, is_blank, in_line}
use Rattle.dy_pieces.specs.Words.{is_same}

-- ---- lines

abbrev pub ends_return : List ℕ → Bool
ends_return line = is_same (13 ∷ []) (drop (length line - 1) line)

abbrev pub without_return : List ℕ → List ℕ
without_return line = if ends_return line then take (length line - 1) line else line

-- the line at the front without its end, which is LF or CR LF
abbrev pub line_of : List ℕ → List ℕ
line_of text = if nat_lt (prefix_len in_line text) (length text)
    then without_return (take (prefix_len in_line text) text) else text

-- the length of the line at the front with its end
abbrev pub line_size : List ℕ → ℕ
line_size text = if nat_lt (prefix_len in_line text) (length text) then prefix_len in_line text + 1
    else prefix_len in_line text

abbrev pub is_indent : ℕ → Bool
is_indent b = if b == 32 then true else if b == 9 then true else false

-- a line of spaces and tabs alone ends the header
abbrev pub is_empty_line : List ℕ → Bool
is_empty_line [] = true
is_empty_line (b ∷ bs) = if is_indent b then is_empty_line bs else false

-- a line that begins with a space or a tab continues the value before it
abbrev pub is_continued : List ℕ → Bool
is_continued [] = false
is_continued (b ∷ bs) = is_indent b

-- ---- keys and values

abbrev pub in_key : ℕ → Bool
in_key b = is_letter b || (is_digit b || b == 45)

abbrev pub begins_colon : List ℕ → Bool
begins_colon [] = false
begins_colon (b ∷ bs) = b == 58

-- a letter and then letters, digits and hyphens, directly before a colon
abbrev pub key_before : Bool → ℕ → List ℕ → Option ℕ
key_before true n rest = if begins_colon rest then Some n else None
key_before false n rest = None

abbrev pub key_len : List ℕ → Option ℕ
key_len [] = None
key_len (b ∷ bs) = key_before (is_letter b) (1 + prefix_len in_key bs)
    (drop (prefix_len in_key bs) bs)

-- where the last byte that is no blank ends, of bytes that begin at i
abbrev pub kept : ℕ → ℕ → List ℕ → ℕ
kept end i [] = end
kept end i (b ∷ bs) = kept (if is_blank b then end else i + 1) (i + 1) bs

-- without the blanks at both ends
abbrev pub trimmed : List ℕ → List ℕ
trimmed bytes = take (kept 0 0 (drop (prefix_len is_blank bytes) bytes))
    (drop (prefix_len is_blank bytes) bytes)

abbrev pub is_printable : List ℕ → Bool
is_printable [] = true
is_printable (b ∷ bs) = if nat_le 32 b && nat_le b 126 then is_printable bs else false

abbrev pub are_printable : List (List ℕ) → Bool
are_printable names = list_all is_printable names

abbrev pub ends_dylan : List ℕ → Bool
ends_dylan bytes = is_same (codes ".dylan") (drop (length bytes - 6) bytes)

-- a file name that does not end in .dylan gets it (own)
abbrev pub file_name : List ℕ → List ℕ
file_name bytes = if ends_dylan bytes then bytes else bytes ++ codes ".dylan"

-- ---- what has been read

-- which key a line has, in a LID file or in a source file
abbrev pub lid_key : List ℕ → Key
lid_key key = if is_same (codes "library") key then keys.Library
    else if is_same (codes "files") key then keys.Files else keys.Other

abbrev pub source_key : List ℕ → Key
source_key key = if is_same (codes "module") key then keys.Module else keys.Other

abbrev pub known_key : Bool → List ℕ → Key
known_key true key = lid_key key
known_key false key = source_key key

-- keys ignore case
abbrev pub key_of : Bool → List ℕ → Key
key_of lid key = known_key lid (folded key)

abbrev pub start : Head
start = record { name = None; files = None; within = in_.Nothing; fault = None }

abbrev pub first_fault : Option ℕ → ℕ → Option ℕ
first_fault None at = Some at
first_fault (Some earlier) at = Some earlier

-- a fault in this line, if there was none before
abbrev pub faulted : Head → ℕ → Head
faulted head at = record head { within = in_.Other; fault = first_fault head.fault at }

-- a line of the value of `files` is a file name, unless it is empty
abbrev pub named_file : Head → ℕ → List (List ℕ) → List ℕ → Head
named_file head at names [] = record head { files = Some names; within = in_.Files }
named_file head at names (b ∷ bs) =
    if is_printable (b ∷ bs) then record head
    { files = Some (names ++ file_name (b ∷ bs) ∷ []); within = in_.Files }
    else record head { files = Some names; within = in_.Files; fault = first_fault head.fault at }

-- the value of the wanted name begins
abbrev pub begun_name : Head → ℕ → Option (List ℕ) → List ℕ → Head
begun_name head at None value = record head { name = Some value; within = in_.Name }
begun_name head at (Some other) value = faulted head at

abbrev pub begun_files : Head → ℕ → Option (List (List ℕ)) → List ℕ → Head
begun_files head at None value = named_file head at [] (trimmed value)
begun_files head at (Some other) value = faulted head at

abbrev pub keyed : Key → Head → ℕ → List ℕ → Head
keyed keys.Module head at value = begun_name head at head.name value
keyed keys.Library head at value = begun_name head at head.name value
keyed keys.Files head at value = begun_files head at head.files value
keyed keys.Other head at value = record head { within = in_.Other }

-- lines of one value are joined by LF
abbrev pub longer : Option (List ℕ) → List ℕ → Option (List ℕ)
longer None line = None
longer (Some value) line = Some (value ++ 10 ∷ line)

abbrev pub longer_name : Head → List ℕ → Head
longer_name head line = record head { name = longer head.name line }

abbrev pub more_files : Head → ℕ → Option (List (List ℕ)) → List ℕ → Head
more_files head at None line = head
more_files head at (Some names) line = named_file head at names (trimmed line)

abbrev pub continued : Within → Head → ℕ → List ℕ → Head
continued in_.Nothing head at line = faulted head at
continued in_.Name head at line = longer_name head line
continued in_.Files head at line = more_files head at head.files line
continued in_.Other head at line = head

abbrev pub after_key : Bool → Option ℕ → Head → ℕ → List ℕ → Head
after_key lid None head at line = faulted head at
after_key lid (Some n) head at line = keyed (key_of lid (take n line)) head at (drop (n + 1) line)

abbrev pub line_read : Bool → Head → ℕ → List ℕ → Head
line_read lid head at line =
    if is_continued line then continued head.within head at line
    else after_key lid (key_len line) head at line

-- ---- the header

-- the header that begins at an offset, and the text after it
pub record Opened : Type 0 where
  pub head : Head
  pub at : ℕ
  pub body : List ℕ

abbrev pub opened : Head → ℕ → List ℕ → Opened
opened head at body = record { head = head; at = at; body = body }

abbrev pub header_from : Bool → ℕ → Head → ℕ → List ℕ → Opened
header_from lid zero head at text = opened head at text
header_from lid (suc n) head at [] = opened head at []
header_from lid (suc n) head at (b ∷ bs) =
    if is_empty_line (line_of (b ∷ bs))
    then opened head (at + line_size (b ∷ bs)) (drop (line_size (b ∷ bs)) (b ∷ bs))
    else header_from lid n (line_read lid head at (line_of (b ∷ bs))) (at + line_size (b ∷ bs))
    (drop (line_size (b ∷ bs)) (b ∷ bs))

-- ---- the header as a relation on lines

-- a line of a text, with its place
pub record Line : Type 0 where
  pub at : ℕ
  pub bytes : List ℕ

-- each byte passes
abbrev pub AllIn : (ℕ → Bool) → List ℕ → Type 0
AllIn p [] = Unit {0}
AllIn p (b ∷ bs) = (p b ≡ true) × AllIn p bs

-- the text begins with this line and its end, which together have a size; then the rest follows
abbrev pub IsLine : List ℕ → ℕ → List ℕ → List ℕ → Type 0
IsLine text size line rest =
    AllIn in_line line
    × (((text ≡ line ++ 10 ∷ rest) × (size ≡ length line + 1) × (ends_return line ≡ false))
    ⊎ (((text ≡ line ++ 13 ∷ 10 ∷ rest) × (size ≡ length line + 2))
    ⊎ ((text ≡ line) × (size ≡ length line) × (rest ≡ []))))

-- from an offset on the text is the lines of a header, up to an empty line or the end; where its
-- body begins, and the body
pub data Lines : ℕ → List ℕ → List Line → ℕ → List ℕ → Type 0 where
  ends : (at : ℕ) → Lines at [] [] at []
  empty : (at : ℕ) (text line body : List ℕ) (size end : ℕ) → 0 < length text
      → IsLine text size line body → is_empty_line line ≡ true → end ≡ at + size
      → Lines at text [] end body
  goes : (at : ℕ) (text line rest : List ℕ) (size : ℕ) (lines all : List Line) (end : ℕ)
      (body : List ℕ)
      → 0 < length text → IsLine text size line rest → is_empty_line line ≡ false
      → Lines (at + size) rest lines end body
      → all ≡ record { at = at; bytes = line } ∷ lines → Lines at text all end body

-- the lines in order
abbrev pub lines_read : Bool → Head → List Line → Head
lines_read lid head [] = head
lines_read lid head (line ∷ lines) = lines_read lid (line_read lid head line.at line.bytes) lines

-- the header of a whole file
abbrev pub IsHeader : Bool → List ℕ → Head → ℕ → List ℕ → Type 0
IsHeader lid text head at body = (lines : List Line) × Lines 0 text lines at body
    × (head ≡ lines_read lid start lines)
