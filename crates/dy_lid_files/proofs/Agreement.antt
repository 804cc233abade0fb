-- A LID file that is in form names as many files as are read from it.
use Rattle.std.proofs.Common.{◌≡◌, ℕ, zero, suc, ◌+◌, ◌⊎◌, Bool, true, false, cond, List, [], ◌∷◌, ◌++◌, length, take, drop, Result, Ok, Err, Option, Some, None, refl, sym, ap, subst, ◌∙◌, length-append, arith}
use Rattle.dy_lexer.specs.declared.source.Lid.{Lid}
use Rattle.dy_lexer.specs.declared.header.Key.{Key}
use Rattle.dy_lexer.specs.declared.header.Key.TheVariants as keys
use Rattle.dy_lexer.specs.declared.header.Within.{Within}
use Rattle.dy_lexer.specs.declared.header.Within.TheVariants as in_
use Rattle.dy_lexer.specs.declared.header.Head.{Head}
use Rattle.dy_base.specs.Folding.{folded}
use Rattle.dy_lexer.specs.Headers.{trimmed, is_printable, first_fault, file_name, named_file, keyed, key_of, key_len, continued, is_continued, after_key, line_read, start, Line, lines_read}
use Rattle.dy_lexer.specs.Sources.{lid, lid_from, IsLid}
use Rattle.dy_lid_files.specs.Names.{begins_files, first_value, is_name, names_in, continuing, files_value, NamesFiles}
use Rattle.dy_lid_files.proofs.Turns.{lines_one}
use Rattle.dy_lid_files.proofs.Counting.{named, unnamed, not_continued, not_begun, begun_named, begun_unnamed}
use Rattle.dy_lid_files.proofs.Keys.{continued_no_key, keyed_begins, begun_key}
use Rattle.dy_lid_files.proofs.Trimming.{is_filled, trimmed_name}

-- how many names there are in the end, where a header is read so far and these lines come
abbrev total : Option (List (List ℕ)) → Within → List Line → ℕ
total None within lines = names_in (files_value lines)
total (Some names) in_.Nothing lines = length names
total (Some names) in_.Name lines = length names
total (Some names) in_.Files lines = length names + names_in (continuing lines)
total (Some names) in_.Other lines = length names

-- A line that leaves no fault leaves what there will be in the end, and found no fault.
abbrev Keeps : Option (List (List ℕ)) → Within → Option ℕ → Line → List Line → Head → Type 0
Keeps files within fault line lines next = next.fault ≡ None → (fault ≡ None) × (total files within (line ∷ lines) ≡ total next.files next.within lines)

no_fault : (fault : Option ℕ) (at : ℕ) → first_fault fault at ≡ None → ⊥
no_fault None at e = absurd cc
no_fault (Some earlier) at e = absurd cc

-- ---- a line of the value of `files`

line_named : (head : Head) (at : ℕ) (names : List (List ℕ)) (value : List ℕ) (lines : List Line) (size : ℕ) → (is_filled value ≡ true → size ≡ 1 + names_in (continuing lines)) → (is_filled value ≡ false → size ≡ names_in (continuing lines))
    → (named_file head at names value).fault ≡ None
    → (head.fault ≡ None) × (length names + size ≡ total (named_file head at names value).files (named_file head at names value).within lines)
line_named head at names [] lines size one same none = (none, ap (λ (n : ℕ). length names + n) (same refl))
line_named head at names (b ∷ bs) lines size one same none = go (is_printable (b ∷ bs)) none
  where
    next : Bool → Head
    next t = cond t (record head { files = Some (names ++ file_name (b ∷ bs) ∷ []); within = in_.Files }) (record head { files = Some names; within = in_.Files; fault = first_fault head.fault at })

    go : (t : Bool) → (next t).fault ≡ None → (head.fault ≡ None) × (length names + size ≡ total (next t).files (next t).within lines)
    go true none = (none, omega (arith, one refl, length-append names (file_name (b ∷ bs) ∷ [])))
    go false none = absurd (no_fault head.fault at none)

-- a line that continues a value
continued_keeps : (name : Option (List ℕ)) (files : Option (List (List ℕ))) (within : Within) (fault : Option ℕ) (line : Line) (lines : List Line) → is_continued line.bytes ≡ true
    → Keeps files within fault line lines (continued within (record { name = name; files = files; within = within; fault = fault }) line.at line.bytes)
continued_keeps name files in_.Nothing fault line lines is none = absurd (no_fault fault line.at none)
continued_keeps name None in_.Name fault line lines is none = (none, ap names_in (not_begun line lines (continued_no_key line.bytes is)))
continued_keeps name (Some names) in_.Name fault line lines is none = (none, refl)
continued_keeps name None in_.Files fault line lines is none = (none, ap names_in (not_begun line lines (continued_no_key line.bytes is)))
continued_keeps name (Some names) in_.Files fault line lines is none =
    line_named (record { name = name; files = Some names; within = in_.Files; fault = fault }) line.at names (trimmed line.bytes) lines (names_in (continuing (line ∷ lines)))
    (λ some. named line lines is (sym (trimmed_name line.bytes) ∙ some)) (λ blank. unnamed line lines is (sym (trimmed_name line.bytes) ∙ blank)) none
continued_keeps name None in_.Other fault line lines is none = (none, ap names_in (not_begun line lines (continued_no_key line.bytes is)))
continued_keeps name (Some names) in_.Other fault line lines is none = (none, refl)

-- ---- a line with a key

-- another key
other_key : (line : List ℕ) (n : ℕ) → key_len line ≡ Some n → (key_of true (take n line) ≡ keys.Files → ⊥) → begins_files line ≡ false
other_key line n is other = go (begins_files line) refl
  where
    same : (m : ℕ) → key_len line ≡ Some m → n ≡ m
    same m e = cc

    go : (t : Bool) → begins_files line ≡ t → t ≡ false
    go false e = refl
    go true e =
        let (five, key) = begun_key line e in
        absurd (other (subst (λ (m : ℕ). key_of true (take m line) ≡ keys.Files) (sym (same 5 five)) key))

others_keep : (files : Option (List (List ℕ))) (within : Within) (line : Line) (lines : List Line) → is_continued line.bytes ≡ false → begins_files line.bytes ≡ false
    → (total files within (line ∷ lines) ≡ total files in_.Name lines) × (total files within (line ∷ lines) ≡ total files in_.Other lines)
others_keep None within line lines is other = let same = ap names_in (not_begun line lines other) in (same, same)
others_keep (Some names) in_.Nothing line lines is other = (refl, refl)
others_keep (Some names) in_.Name line lines is other = (refl, refl)
others_keep (Some names) in_.Files line lines is other = let last = not_continued line lines is in (omega arith, omega arith)
others_keep (Some names) in_.Other line lines is other = (refl, refl)

-- by which key it is
keyed_keeps : (key : Key) (name : Option (List ℕ)) (files : Option (List (List ℕ))) (within : Within) (fault : Option ℕ) (line : Line) (lines : List Line) (n : ℕ)
    → is_continued line.bytes ≡ false → key_len line.bytes ≡ Some n → key_of true (take n line.bytes) ≡ key
    → Keeps files within fault line lines (keyed key (record { name = name; files = files; within = within; fault = fault }) line.at (drop (n + 1) line.bytes))
keyed_keeps keys.Module None files within fault line lines n is e k none =
    (none, (others_keep files within line lines is (other_key line.bytes n e (λ f. differ_module (sym k ∙ f)))).0)
  where
    differ_module : keys.Module ≡ keys.Files → ⊥
    differ_module d = absurd cc
keyed_keeps keys.Module (Some other) files within fault line lines n is e k none = absurd (no_fault fault line.at none)
keyed_keeps keys.Library None files within fault line lines n is e k none =
    (none, (others_keep files within line lines is (other_key line.bytes n e (λ f. differ_library (sym k ∙ f)))).0)
  where
    differ_library : keys.Library ≡ keys.Files → ⊥
    differ_library d = absurd cc
keyed_keeps keys.Library (Some other) files within fault line lines n is e k none = absurd (no_fault fault line.at none)
keyed_keeps keys.Other name files within fault line lines n is e k none =
    (none, (others_keep files within line lines is (other_key line.bytes n e (λ f. differ_other (sym k ∙ f)))).1)
  where
    differ_other : keys.Other ≡ keys.Files → ⊥
    differ_other d = absurd cc
keyed_keeps keys.Files name (Some other) within fault line lines n is e k none = absurd (no_fault fault line.at none)
keyed_keeps keys.Files name None within fault line lines n is e k none =
    let (five, begins) = keyed_begins line.bytes n e k in
    let value : drop (n + 1) line.bytes ≡ first_value line.bytes = rw five refl in
    let (here, same) = line_named (record { name = name; files = None; within = within; fault = fault }) line.at [] (trimmed (drop (n + 1) line.bytes)) lines (names_in (files_value (line ∷ lines)))
    (λ some. begun_named line lines begins (sym (ap is_name value) ∙ (sym (trimmed_name (drop (n + 1) line.bytes)) ∙ some)))
    (λ blank. begun_unnamed line lines begins (sym (ap is_name value) ∙ (sym (trimmed_name (drop (n + 1) line.bytes)) ∙ blank))) none in
    (here, none_before (names_in (files_value (line ∷ lines))) ∙ same)
  where
    none_named : List (List ℕ)
    none_named = []

    none_before : (size : ℕ) → size ≡ length none_named + size
    none_before size = omega arith

after_keeps : (size : Option ℕ) (head : Head) (line : Line) (lines : List Line) → is_continued line.bytes ≡ false → key_len line.bytes ≡ size
    → Keeps head.files head.within head.fault line lines (after_key true size head line.at line.bytes)
after_keeps None head line lines is e none = absurd (no_fault head.fault line.at none)
after_keeps (Some n) head line lines is e none =
    keyed_keeps (key_of true (take n line.bytes)) head.name head.files head.within head.fault line lines n is e refl none

line_keeps : (head : Head) (line : Line) (lines : List Line) → Keeps head.files head.within head.fault line lines (line_read true head line.at line.bytes)
line_keeps head line lines = go (is_continued line.bytes) refl
  where
    go : (t : Bool) → is_continued line.bytes ≡ t → Keeps head.files head.within head.fault line lines (cond t (continued head.within head line.at line.bytes) (after_key true (key_len line.bytes) head line.at line.bytes))
    go true is = continued_keeps head.name head.files head.within head.fault line lines is
    go false is = after_keeps (key_len line.bytes) head line lines is refl

-- ---- the whole header

lines_keep : (head : Head) (lines : List Line) → (lines_read true head lines).fault ≡ None
    → (head.fault ≡ None) × (total head.files head.within lines ≡ total (lines_read true head lines).files (lines_read true head lines).within [])
lines_keep head [] none = (none, refl)
lines_keep head (line ∷ lines) none =
    let next = line_read true head line.at line.bytes in
    let (later, rest) = lines_keep next lines none in
    let (here, same) = line_keeps head line lines later in
    (here, same ∙ rest)

abbrev found : Lid → Result Lid ℕ
found l = Ok l

is_found : (a b : Lid) → found a ≡ found b → a ≡ b
is_found a b e = cc

-- what is read has no fault, and these names
read_so : (name : Option (List ℕ)) (files : Option (List (List ℕ))) (fault : Option ℕ) (within : Within) (l : Lid) → lid_from name files fault ≡ Ok l
    → (fault ≡ None) × (total files within [] ≡ length l.files)
read_so None files fault within l e = absurd cc
read_so (Some value) None fault within l e = absurd cc
read_so (Some value) (Some names) (Some at) within l e = absurd cc
read_so (Some value) (Some names) None within l e =
    let same : length names ≡ length l.files = ap (λ (x : Lid). length x.files) (is_found (lid (folded (trimmed value)) names) l e) in
    (refl, at_end within ∙ same)
  where
    at_end : (w : Within) → total (Some names) w [] ≡ length names
    at_end in_.Nothing = refl
    at_end in_.Name = refl
    at_end in_.Files = omega arith
    at_end in_.Other = refl

pub names_in_form : (text : List ℕ) (l : Lid) (count : ℕ) → IsLid text l → NamesFiles text count → count ≡ length l.files
names_in_form text l count h (others, last, back, also, counted) =
    let (lines, is, same) = h.header in
    let (none, size) = read_so h.head.name h.head.files h.head.fault h.head.within l h.values in
    let read = lines_keep start lines (sym (ap (λ (x : Head). x.fault) same) ∙ none) in
    let one = lines_one 0 text others lines last h.at back h.body also is in
    counted ∙ ap (λ (ls : List Line). names_in (files_value ls)) one ∙ read.1
    ∙ sym (ap (λ (x : Head). total x.files x.within []) same) ∙ size

pub names_one : (text : List ℕ) (count other : ℕ) → NamesFiles text count → NamesFiles text other → count ≡ other
names_one text count other (lines, end, body, is, counted) (others, last, back, also, equal) =
    counted ∙ ap (λ (ls : List Line). names_in (files_value ls)) (lines_one 0 text lines others end last body back is also) ∙ sym equal
