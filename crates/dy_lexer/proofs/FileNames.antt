-- Each file that a LID file names has a printable name.
use Rattle.std.proofs.Common.{◌≡◌, ℕ, Bool, true, false, cond, List, [], ◌∷◌, ◌++◌, Result, Ok, Err, refl, subst, sym}
use Rattle.std.specs.Prelude.{nat_le, ◌&&◌, codes, Option, Some, None, IfOk, IsTrue}
use Rattle.std.specs.List.{list_all}
use Rattle.std.proofs.lemmas.List.Folds.{list_all-append}
use Rattle.dy_base.specs.Folding.{folded}
use Rattle.dy_lexer.specs.declared.source.Lid.{Lid}
use Rattle.dy_lexer.specs.declared.header.Key.{Key}
use Rattle.dy_lexer.specs.declared.header.Key.TheVariants as keys
use Rattle.dy_lexer.specs.declared.header.Within.{Within}
use Rattle.dy_lexer.specs.declared.header.Within.TheVariants as in_
use Rattle.dy_lexer.specs.declared.header.Head.{Head}
use Rattle.dy_lexer.specs.Headers.{trimmed, is_printable, are_printable, ends_dylan, file_name, named_file, begun_name, begun_files, keyed, key_of, key_len, more_files, continued, is_continued, after_key, line_read, start, Line, lines_read}
use Rattle.dy_base.specs.declared.fault.Refusal.{Refusal}
use Rattle.dy_base.specs.declared.fault.Refusal.TheVariants as refusals
use Rattle.dy_lexer.specs.Sources.{lid, lid_from, IsLid, IsLidReading}

abbrev Named : Option (List (List ℕ)) → Type 0
Named None = Unit {0}
Named (Some names) = are_printable names ≡ true

-- ---- one name

longer_passes : (t x y : Bool) → (x ≡ true → y ≡ true) → cond t x false ≡ true → cond t y false ≡ true
longer_passes true x y f h = f h
longer_passes false x y f h = absurd cc

ending_printable : (bytes : List ℕ) → is_printable bytes ≡ true → is_printable (bytes ++ codes ".dylan") ≡ true
ending_printable [] h = refl
ending_printable (b ∷ bs) h =
    longer_passes (nat_le 32 b && nat_le b 126) (is_printable bs) (is_printable (bs ++ codes ".dylan")) (ending_printable bs) h

either_printable : (t : Bool) (bytes : List ℕ) → is_printable bytes ≡ true → is_printable (cond t bytes (bytes ++ codes ".dylan")) ≡ true
either_printable true bytes h = h
either_printable false bytes h = ending_printable bytes h

-- ---- one line

added : (names : List (List ℕ)) (name : List ℕ) → are_printable names ≡ true → is_printable name ≡ true → are_printable (names ++ name ∷ []) ≡ true
added names name h is = rw (list_all-append is_printable names (name ∷ []), h, is) refl

chosen : (t : Bool) (a b : Head) → (t ≡ true → Named a.files) → Named b.files → Named (cond t a b).files
chosen true a b f g = f refl
chosen false a b f g = g

named : (head : Head) (at : ℕ) (names : List (List ℕ)) (line : List ℕ) → are_printable names ≡ true → Named (named_file head at names line).files
named head at names [] h = h
named head at names (b ∷ bs) h =
    chosen (is_printable (b ∷ bs)) _ _ (λ is. added names (file_name (b ∷ bs)) h (either_printable (ends_dylan (b ∷ bs)) (b ∷ bs) is)) h

begun_name_kept : (head : Head) (at : ℕ) (name : Option (List ℕ)) (value : List ℕ) → Named head.files → Named (begun_name head at name value).files
begun_name_kept head at None value h = h
begun_name_kept head at (Some other) value h = h

begun_files_kept : (head : Head) (at : ℕ) (files : Option (List (List ℕ))) (value : List ℕ) → Named head.files → Named (begun_files head at files value).files
begun_files_kept head at None value h = named head at [] (trimmed value) refl
begun_files_kept head at (Some other) value h = h

keyed_kept : (key : Key) (head : Head) (at : ℕ) (value : List ℕ) → Named head.files → Named (keyed key head at value).files
keyed_kept keys.Module head at value h = begun_name_kept head at head.name value h
keyed_kept keys.Library head at value h = begun_name_kept head at head.name value h
keyed_kept keys.Files head at value h = begun_files_kept head at head.files value h
keyed_kept keys.Other head at value h = h

more_kept : (head : Head) (at : ℕ) (files : Option (List (List ℕ))) (line : List ℕ) → Named files → Named head.files → Named (more_files head at files line).files
more_kept head at None line f h = h
more_kept head at (Some names) line f h = named head at names (trimmed line) f

continued_kept : (within : Within) (head : Head) (at : ℕ) (line : List ℕ) → Named head.files → Named (continued within head at line).files
continued_kept in_.Nothing head at line h = h
continued_kept in_.Name head at line h = h
continued_kept in_.Files head at line h = more_kept head at head.files line h h
continued_kept in_.Other head at line h = h

after_kept : (is_lid : Bool) (size : Option ℕ) (head : Head) (at : ℕ) (line : List ℕ) → Named head.files → Named (after_key is_lid size head at line).files
after_kept is_lid None head at line h = h
after_kept is_lid (Some n) head at line h = keyed_kept _ head at _ h

line_kept : (is_lid : Bool) (head : Head) (at : ℕ) (line : List ℕ) → Named head.files → Named (line_read is_lid head at line).files
line_kept is_lid head at line h =
    chosen (is_continued line) _ _ (λ is. continued_kept head.within head at line h) (after_kept is_lid (key_len line) head at line h)

-- ---- the whole header

lines_kept : (is_lid : Bool) (head : Head) (lines : List Line) → Named head.files → Named (lines_read is_lid head lines).files
lines_kept is_lid head [] h = h
lines_kept is_lid head (line ∷ lines) h = lines_kept is_lid (line_read is_lid head line.at line.bytes) lines (line_kept is_lid head line.at line.bytes h)

abbrev found : Lid → Result Lid ℕ
found l = Ok l

is_found : (a b : Lid) → found a ≡ found b → a ≡ b
is_found a b e = cc

names_of : (name : Option (List ℕ)) (files : Option (List (List ℕ))) (fault : Option ℕ) (l : Lid) → Named files → lid_from name files fault ≡ Ok l → are_printable l.files ≡ true
names_of None files fault l h e = absurd cc
names_of (Some value) None fault l h e = absurd cc
names_of (Some value) (Some names) (Some at) l h e = absurd cc
names_of (Some value) (Some names) None l h e =
    subst (λ (x : Lid). are_printable x.files ≡ true) (is_found (lid (folded (trimmed value)) names) l e) h

pub lid_names : (text : List ℕ) (l : Lid) → IsLid text l → are_printable l.files ≡ true
lid_names text l h =
    let (lines, is, same) = h.header in
    names_of h.head.name h.head.files h.head.fault l (subst (λ (x : Head). Named x.files) (sym same) (lines_kept true start lines tt)) h.values

pub read_names : (text : List ℕ) (r : Result Lid Refusal) → IsLidReading text r → IfOk r (λ l. IsTrue (are_printable l.files))
read_names text (Ok l) is = lid_names text l is
read_names text (Err (refusals.Fault f)) is = tt
read_names text (Err refusals.Memory) is = tt
