-- The lines of a header one by one.
use Rattle.std.proofs.Common.{◌≡◌, ℕ, ◌+◌, ◌<◌, true, false, List, [], ◌∷◌, length, drop, refl, sym, ap, ◌∙◌, arith}
use Rattle.dy_lexer.specs.Headers.{line_of, line_size, is_empty_line, Line, Lines, ends, empty, goes}
use Rattle.dy_lexer.proofs.HeaderLines.{line_is}

-- a text that is at its end has no more lines
pub done : (at : ℕ) (text : List ℕ) (lines : List Line) (end : ℕ) (body : List ℕ) → length text ≡ 0 → Lines at text lines end body → lines ≡ []
done at text lines end body none (ends a) = refl
done at text lines end body none (empty a text2 line body2 size end2 some is blank place) = refl
done at text lines end body none (goes a text2 line rest size more all end2 body2 some is full below parts) = absurd (omega arith)

-- nor has one with an empty line at its front
pub stop : (at : ℕ) (text : List ℕ) (lines : List Line) (end : ℕ) (body : List ℕ) → is_empty_line (line_of text) ≡ true → Lines at text lines end body → lines ≡ []
stop at text lines end body blank (ends a) = refl
stop at text lines end body blank (empty a text2 line body2 size end2 some is blank2 place) = refl
stop at text lines end body blank (goes a text2 line rest size more all end2 body2 some is full below parts) =
    let (l, s, b) = line_is text line rest size is in
    let also : is_empty_line (line_of text) ≡ false = ap is_empty_line l ∙ full in
    absurd cc

-- another text has the line at its front, and then those behind it
pub turn : (at : ℕ) (text : List ℕ) (lines : List Line) (end : ℕ) (body : List ℕ) → 0 < length text → is_empty_line (line_of text) ≡ false → Lines at text lines end body
    → (more : List Line) × Lines (at + line_size text) (drop (line_size text) text) more end body × (lines ≡ record { at = at; bytes = line_of text } ∷ more)
turn at text lines end body some full (ends a) = absurd (omega arith)
turn at text lines end body some full (empty a text2 line body2 size end2 some2 is blank place) =
    let (l, s, b) = line_is text line body size is in
    let also : is_empty_line (line_of text) ≡ true = ap is_empty_line l ∙ blank in
    absurd cc
turn at text lines end body some full (goes a text2 line rest size more all end2 body2 some2 is full2 below parts) =
    let (l, s, b) = line_is text line rest size is in
    (more, rw (s, b) below, parts ∙ ap (λ (bs : List ℕ). record { at = at; bytes = bs } ∷ more) (sym l))

-- a text has one list of lines
pub lines_one : (at : ℕ) (text : List ℕ) (lines others : List Line) (end last : ℕ) (body back : List ℕ) → Lines at text lines end body → Lines at text others last back → lines ≡ others
lines_one at text lines others end last body back (ends a) h = sym (done at [] others last back refl h)
lines_one at text lines others end last body back (empty a text2 line body2 size end2 some is blank place) h =
    let (l, s, b) = line_is text line body size is in
    sym (stop at text others last back (ap is_empty_line l ∙ blank) h)
lines_one at text lines others end last body back (goes a text2 line rest size more all end2 body2 some is full below parts) h =
    let (l, s, b) = line_is text line rest size is in
    let (left, also, same) = turn at text others last back some (ap is_empty_line l ∙ full) h in
    let below2 : Lines (at + size) rest left last back = rw (s, b) at also in
    parts
    ∙ ap (λ (ls : List Line). record { at = at; bytes = line } ∷ ls) (lines_one (at + size) rest more left end last body back below below2)
    ∙ sym (same ∙ ap (λ (bs : List ℕ). record { at = at; bytes = bs } ∷ left) l)
