-- The names of a LID file are counted line by line.
use Rattle.std.proofs.Common.{◌≡◌, ℕ, ◌+◌, ◌<◌, true, false, cond, List, [], ◌∷◌, length, drop, refl, sym, ap, ◌∙◌, arith}
use Rattle.dy_lexer.specs.Headers.{line_of, line_size, is_empty_line, is_continued, Line, Lines}
use Rattle.dy_lid_files.specs.Names.{begins_files, first_value, is_name, names_in, continuing, files_value}
use Rattle.dy_lid_files.proofs.Turns.{stop, turn}

-- a line that is not empty, and what is behind it
pub line_turn : (at : ℕ) (text line after : List ℕ) (size : ℕ) (lines : List Line) (end : ℕ) (body : List ℕ) → 0 < length text → line ≡ line_of text → size ≡ line_size text → after ≡ drop size text
    → is_empty_line line ≡ false → Lines at text lines end body
    → (more : List Line) × Lines (at + size) after more end body × (lines ≡ record { at = at; bytes = line } ∷ more)
line_turn at text line after size lines end body some l s back full is =
    let (more, left, same) = turn at text lines end body some (ap is_empty_line (sym l) ∙ full) is in
    (more, rw (back, s) left, same ∙ ap (λ (bs : List ℕ). record { at = at; bytes = bs } ∷ more) (sym l))

pub line_stop : (at : ℕ) (text line : List ℕ) (lines : List Line) (end : ℕ) (body : List ℕ) → line ≡ line_of text → is_empty_line line ≡ true → Lines at text lines end body → lines ≡ []
line_stop at text line lines end body l blank is = stop at text lines end body (ap is_empty_line (sym l) ∙ blank) is

-- ---- the lines that continue the value

pub named : (line : Line) (more : List Line) → is_continued line.bytes ≡ true → is_name line.bytes ≡ true → names_in (continuing (line ∷ more)) ≡ 1 + names_in (continuing more)
named line more goes_on is = rw (goes_on, is) (omega arith)

pub unnamed : (line : Line) (more : List Line) → is_continued line.bytes ≡ true → is_name line.bytes ≡ false → names_in (continuing (line ∷ more)) ≡ names_in (continuing more)
unnamed line more goes_on is = rw (goes_on, is) refl

pub not_continued : (line : Line) (more : List Line) → is_continued line.bytes ≡ false → names_in (continuing (line ∷ more)) ≡ 0
not_continued line more ends = rw ends refl

-- ---- the lines in front of the value, and its first one

pub not_begun : (line : Line) (more : List Line) → begins_files line.bytes ≡ false → files_value (line ∷ more) ≡ files_value more
not_begun line more other = rw other refl

pub begun_named : (line : Line) (more : List Line) → begins_files line.bytes ≡ true → is_name (first_value line.bytes) ≡ true → names_in (files_value (line ∷ more)) ≡ 1 + names_in (continuing more)
begun_named line more begins is = rw (begins, is) (omega arith)

pub begun_unnamed : (line : Line) (more : List Line) → begins_files line.bytes ≡ true → is_name (first_value line.bytes) ≡ false → names_in (files_value (line ∷ more)) ≡ names_in (continuing more)
begun_unnamed line more begins is = rw (begins, is) refl
