-- The header is read line by line.
use Rattle.std.proofs.Common.{◌≡◌, ℕ, zero, suc, ◌+◌, ◌-◌, ◌<◌, ◌≤◌, ◌⊎◌, inl, inr, Bool, true, false, cond, List, [], ◌∷◌, ◌++◌, length, take, drop, refl, sym, ap, subst, ◌∙◌, append_assoc, arith}
use Rattle.std.specs.Prelude.{nat_lt}
use Rattle.std.specs.List.{prefix_len}
use Rattle.std.proofs.Math.Dec.{eqb}
use Rattle.std.proofs.lemmas.Bool.{eqb-true, le-leb, leb-true}
use Rattle.std.proofs.lemmas.List.{take_at, drop_at, drop_all, length-append, take-append-drop}
use Rattle.dy_lexer.specs.declared.header.Head.{Head}
use Rattle.dy_pieces.specs.Bytes.{in_line}
use Rattle.dy_lexer.specs.Headers.{ends_return, without_return, line_of, line_size, is_empty_line, line_read, start, Opened, opened, header_from, Line, AllIn, IsLine, Lines, ends, empty, goes, lines_read, IsHeader}
use Rattle.dy_lexer.specs.Sources.{header_of}
use Rattle.dy_pieces.proofs.Lists.{same_text}
use Rattle.dy_lexer.proofs.Opening.{header_end, header_ends, header_goes}

-- ---- one line

-- the bytes before the first LF, and whether there is one
abbrev Feeds : List ℕ → ℕ → Type 0
Feeds text n = (line : List ℕ) × AllIn in_line line × (length line ≡ n) × ((text ≡ line) ⊎ ((rest : List ℕ) × (text ≡ line ++ 10 ∷ rest)))

feeds_more : (b : ℕ) (bs : List ℕ) (n : ℕ) (t : Bool) → eqb b 10 ≡ t → Feeds bs n → Feeds (b ∷ bs) (cond (cond t false true) (1 + n) 0)
feeds_more b bs n true e h = ([], tt, refl, inr (bs, ap (λ (x : ℕ). x ∷ bs) (eqb-true b 10 e)))
feeds_more b bs n false e h =
    let (line, all, len, parts) = h in
    (b ∷ line, (rw e refl, all), omega arith, elim parts [ inl p ↦ inl (ap (λ (x : List ℕ). b ∷ x) p) | inr p ↦ inr (p.0, ap (λ (x : List ℕ). b ∷ x) p.1) ])

feeds : (text : List ℕ) → Feeds text (prefix_len in_line text)
feeds [] = ([], tt, refl, inl refl)
feeds (b ∷ bs) = feeds_more b bs (prefix_len in_line bs) (eqb b 10) refl (feeds bs)

run_of : (line rest : List ℕ) → AllIn in_line line → prefix_len in_line (line ++ 10 ∷ rest) ≡ length line
run_of [] rest all = refl
run_of (b ∷ line) rest all = let h = run_of line rest all.1 in rw all.0 (omega arith)

run_all : (line : List ℕ) → AllIn in_line line → prefix_len in_line line ≡ length line
run_all [] all = refl
run_all (b ∷ line) all = let h = run_all line all.1 in rw all.0 (omega arith)

-- a line before a line feed
line_fed : (line rest : List ℕ) → AllIn in_line line → (line_of (line ++ 10 ∷ rest) ≡ without_return line) × (line_size (line ++ 10 ∷ rest) ≡ length line + 1)
line_fed line rest all =
    let run = run_of line rest all in
    let sum = length-append line (10 ∷ rest) in
    let less : nat_lt (length line) (length (line ++ 10 ∷ rest)) ≡ true = le-leb (suc (length line)) (length (line ++ 10 ∷ rest)) (omega arith) in
    (rw (run, less, take_at line (10 ∷ rest) (length line) refl) refl, rw (run, less) refl)

line_last : (line : List ℕ) → AllIn in_line line → (line_of line ≡ line) × (line_size line ≡ length line)
line_last line all =
    let run = run_all line all in
    let more : nat_lt (length line) (length line) ≡ false = not_less (length line) in
    (rw (run, more) refl, rw (run, more) refl)
  where
    not_less : (n : ℕ) → nat_lt n n ≡ false
    not_less n = go (nat_lt n n) refl
      where
        go : (t : Bool) → nat_lt n n ≡ t → t ≡ false
        go true e = absurd (omega (arith, leb-true (suc n) n e))
        go false e = refl

ends_with : (line : List ℕ) (b : ℕ) → drop (length (line ++ b ∷ []) - 1) (line ++ b ∷ []) ≡ b ∷ []
ends_with line b =
    let size = length-append line (b ∷ []) in
    let e : length line ≡ length (line ++ b ∷ []) - 1 = omega arith in
    drop_at line (b ∷ []) (length (line ++ b ∷ []) - 1) e

return_dropped : (line : List ℕ) → without_return (line ++ 13 ∷ []) ≡ line
return_dropped line =
    let size = length-append line (13 ∷ []) in
    let e : length line ≡ length (line ++ 13 ∷ []) - 1 = omega arith in
    rw (ends_with line 13) (take_at line (13 ∷ []) (length (line ++ 13 ∷ []) - 1) e)

all_pushed : (line : List ℕ) (b : ℕ) → AllIn in_line line → in_line b ≡ true → AllIn in_line (line ++ b ∷ [])
all_pushed [] b all is = (is, tt)
all_pushed (x ∷ line) b all is = (all.0, all_pushed line b all.1 is)

pub line_is : (text line rest : List ℕ) (size : ℕ) → IsLine text size line rest → (line_of text ≡ line) × (line_size text ≡ size) × (drop size text ≡ rest)
line_is text line rest size (all, inl h) =
    let (parts, len, plain) = h in
    let fed = line_fed line rest all in
    let kept : without_return line ≡ line = rw plain refl in
    let back : drop (length line + 1) (line ++ 10 ∷ rest) ≡ rest =
    ap (drop (length line + 1)) (sym (append_assoc line (10 ∷ []) rest)) ∙ drop_at (line ++ 10 ∷ []) rest (length line + 1) (length-append line (10 ∷ [])) in
    (ap line_of parts ∙ fed.0 ∙ kept, ap line_size parts ∙ fed.1 ∙ sym len, rw (len, parts) back)
line_is text line rest size (all, inr (inl h)) =
    let (parts, len) = h in
    let fed = line_fed (line ++ 13 ∷ []) rest (all_pushed line 13 all refl) in
    let parts2 : text ≡ (line ++ 13 ∷ []) ++ 10 ∷ rest = parts ∙ sym (append_assoc line (13 ∷ []) (10 ∷ rest)) in
    let size2 = length-append line (13 ∷ []) in
    let back : drop (length line + 2) (line ++ 13 ∷ 10 ∷ rest) ≡ rest =
    ap (drop (length line + 2)) (sym (append_assoc line (13 ∷ 10 ∷ []) rest)) ∙ drop_at (line ++ 13 ∷ 10 ∷ []) rest (length line + 2) (length-append line (13 ∷ 10 ∷ [])) in
    (ap line_of parts2 ∙ fed.0 ∙ return_dropped line, ap line_size parts2 ∙ fed.1 ∙ omega arith, rw (len, parts) back)
line_is text line rest size (all, inr (inr h)) =
    let (parts, len, none) = h in
    let last = line_last line all in
    (ap line_of parts ∙ last.0, ap line_size parts ∙ last.1 ∙ sym len, rw (len, parts, none) (drop_all (length line) line (omega arith)))

-- ---- and each text has a line

abbrev SomeLine : List ℕ → Type 0
SomeLine text = (line : List ℕ) × (rest : List ℕ) × (size : ℕ) × IsLine text size line rest

abbrev Splits : List ℕ → Type 0
Splits line = (ends_return line ≡ false) ⊎ ((front : List ℕ) × (line ≡ front ++ 13 ∷ []))

return_splits : (line : List ℕ) → Splits line
return_splits line = go (ends_return line) refl
  where
    go : (t : Bool) → ends_return line ≡ t → Splits line
    go false e = inl e
    go true e = inr (take (length line - 1) line, sym (take-append-drop (length line - 1) line) ∙ ap (λ (x : List ℕ). take (length line - 1) line ++ x) (sym (same_text (13 ∷ []) (drop (length line - 1) line) e)))

all_front : (front back : List ℕ) → AllIn in_line (front ++ back) → AllIn in_line front
all_front [] back all = tt
all_front (b ∷ front) back all = (all.0, all_front front back all.1)

fed_line : (text line rest : List ℕ) → AllIn in_line line → text ≡ line ++ 10 ∷ rest → Splits line → SomeLine text
fed_line text line rest all parts (inl plain) = (line, rest, length line + 1, (all, inl (parts, refl, plain)))
fed_line text line rest all parts (inr (front, is)) =
    let parts2 : text ≡ front ++ 13 ∷ 10 ∷ rest = parts ∙ ap (λ (x : List ℕ). x ++ 10 ∷ rest) is ∙ append_assoc front (13 ∷ []) (10 ∷ rest) in
    (front, rest, length front + 2, (all_front front (13 ∷ []) (subst (AllIn in_line) is all), inr (inl (parts2, refl))))

pub some_line : (text : List ℕ) → SomeLine text
some_line text = go (feeds text).0 (feeds text).1 (feeds text).3
  where
    go : (line : List ℕ) → AllIn in_line line → ((text ≡ line) ⊎ ((rest : List ℕ) × (text ≡ line ++ 10 ∷ rest))) → SomeLine text
    go line all (inl parts) = (line, [], length line, (all, inr (inr (parts, refl, refl))))
    go line all (inr (rest, parts)) = fed_line text line rest all parts (return_splits line)

-- ---- the lines of the header

size_some : (text line rest : List ℕ) (size : ℕ) → 0 < length text → IsLine text size line rest → length rest < length text
size_some text line rest size some (all, inl h) = let (parts, len, plain) = h in omega (arith, ap length parts, length-append line (10 ∷ rest))
size_some text line rest size some (all, inr (inl h)) = let (parts, len) = h in omega (arith, ap length parts, length-append line (13 ∷ 10 ∷ rest))
size_some text line rest size some (all, inr (inr h)) = let (parts, len, none) = h in omega (arith, ap length none)

-- what is read is what the lines say
pub lines_are : (lid : Bool) (n : ℕ) (head : Head) (at : ℕ) (text : List ℕ) (lines : List Line) (end : ℕ) (body : List ℕ) → length text ≤ n
    → Lines at text lines end body → header_from lid n head at text ≡ opened (lines_read lid head lines) end body
lines_are lid n head at text lines end body fits (ends a) = header_end lid n head at [] refl
lines_are lid n head at text lines end body fits (empty a text2 line body2 size end2 some is blank place) =
    let (l, s, b) = line_is text line body size is in
    header_ends lid n head at text line size (header_from lid n head at text) some fits (sym l) (sym s) blank refl ∙ rw (b, place) refl
lines_are lid n head at text lines end body fits (goes a text2 line rest size more all end2 body2 some is full below parts) =
    let (l, s, b) = line_is text line rest size is in
    let less = size_some text line rest size some is in
    let (k, room, step) = header_goes lid n head (line_read lid head at line) at text line rest size (header_from lid n head at text) some fits (sym l) (sym s) full refl (sym b) less refl in
    step ∙ lines_are lid k (line_read lid head at line) (at + size) rest more end body room below ∙ rw parts refl

abbrev SomeLines : ℕ → List ℕ → Type 0
SomeLines at text = (lines : List Line) × (end : ℕ) × (body : List ℕ) × Lines at text lines end body

lines_turn : (at : ℕ) (text line rest : List ℕ) (size : ℕ) (t : Bool) → 0 < length text → IsLine text size line rest → is_empty_line line ≡ t
    → (length rest < length text → SomeLines (at + size) rest) → SomeLines at text
lines_turn at text line rest size true some is blank below = ([], at + size, rest, empty at text line rest size (at + size) some is blank refl)
lines_turn at text line rest size false some is full below =
    let (lines, end, body, h) = below (size_some text line rest size some is) in
    (record { at = at; bytes = line } ∷ lines, end, body, goes at text line rest size lines (record { at = at; bytes = line } ∷ lines) end body some is full h refl)

pub some_lines : (n at : ℕ) (text : List ℕ) → length text ≤ n → SomeLines at text
some_lines n at [] fits = ([], at, [], ends at)
some_lines zero at (b ∷ bs) fits = absurd (omega arith)
some_lines (suc n) at (b ∷ bs) fits =
    let (line, rest, size, is) = some_line (b ∷ bs) in
    lines_turn at (b ∷ bs) line rest size (is_empty_line line) (omega arith) is refl (λ less. some_lines n (at + size) rest (omega arith))

-- the header of a file is as its lines say, and each file has one
pub header_is : (lid : Bool) (text : List ℕ) (head : Head) (at : ℕ) (body : List ℕ) → IsHeader lid text head at body → header_of lid text ≡ opened head at body
header_is lid text head at body h =
    let (lines, is, same) = h in
    lines_are lid (length text) start 0 text lines at body (omega arith) is ∙ ap (λ (x : Head). opened x at body) (sym same)

pub some_header : (lid : Bool) (text : List ℕ) → IsHeader lid text (header_of lid text).head (header_of lid text).at (header_of lid text).body
some_header lid text =
    let (lines, end, body, is) = some_lines (length text) 0 text (omega arith) in
    let same = lines_are lid (length text) start 0 text lines end body (omega arith) is in
    subst (λ (o : Opened). IsHeader lid text o.head o.at o.body) (sym same) (lines, is, refl)
