-- A line begins with `files:` exactly where this is its key.
use Rattle.std.proofs.Common.{◌≡◌, ℕ, zero, suc, ◌+◌, ◌<◌, ◌≤◌, Bool, true, false, cond, ◌&&◌, ◌||◌, List, [], ◌∷◌, ◌++◌, length, take, drop, Some, None, Option, map, refl, lit≤, sym, ap, ◌∙◌, arith}
use Rattle.std.specs.Prelude.{codes, nat_le, ◌==◌}
use Rattle.std.specs.List.{prefix_len}
use Rattle.std.proofs.Math.Dec.{eqb}
use Rattle.std.proofs.lemmas.Bool.{eqb-true, le-leb, leb-true}
use Rattle.std.proofs.lemmas.Bool.Decides.{nat_tests}
use Rattle.std.proofs.lemmas.List.{length-map, length-take-le}
use Rattle.dy_base.specs.Folding.{folded, folded_byte}
use Rattle.dy_pieces.specs.Bytes.{within, is_letter_byte, is_letter}
use Rattle.dy_pieces.specs.Words.{begins, is_same}
use Rattle.dy_pieces.proofs.Lists.{same_text}
use Rattle.dy_lexer.specs.declared.header.Key.{Key}
use Rattle.dy_lexer.specs.declared.header.Key.TheVariants as keys
use Rattle.dy_lexer.specs.Headers.{is_indent, is_continued, in_key, begins_colon, key_before, key_len, lid_key, key_of}
use Rattle.dy_lid_files.specs.Names.{begins_files}

both : (a b : Bool) → (a && b) ≡ true → (a ≡ true) × (b ≡ true)
both true b h = (refl, h)
both false b h = absurd cc

-- ---- a line that continues a value has no key

indented : (b : ℕ) (bs : List ℕ) (space tab : Bool) → eqb b 32 ≡ space → eqb b 9 ≡ tab → cond space true (cond tab true false) ≡ true → begins (codes "files:") (b ∷ bs) ≡ false
indented b bs true tab e f h = rw (eqb-true b 32 e) refl
indented b bs false true e f h = rw (eqb-true b 9 f) refl
indented b bs false false e f h = absurd cc

pub continued_no_key : (line : List ℕ) → is_continued line ≡ true → begins_files line ≡ false
continued_no_key [] h = absurd cc
continued_no_key (b ∷ bs) h = indented b bs (eqb b 32) (eqb b 9) refl refl h

-- ---- a line with the key

is_same_number : (x : ℕ) → eqb x x ≡ true
is_same_number x = grind (arith, nat_tests)

begins_word : (word line : List ℕ) → folded (take (length word) line) ≡ word → begins_colon (drop (length word) line) ≡ true → begins (word ++ 58 ∷ []) line ≡ true
begins_word [] [] e h = absurd cc
begins_word [] (b ∷ bs) e h = rw (eqb-true b 58 h) refl
begins_word (x ∷ word) [] e h = absurd cc
begins_word (x ∷ word) (b ∷ bs) e h =
    let head : folded_byte b ≡ x = cc in
    let tail : folded (take (length word) bs) ≡ word = cc in
    rw (head, is_same_number x) (begins_word word bs tail h)

colon_of : (is : Bool) (m n : ℕ) (rest : List ℕ) → key_before is m rest ≡ Some n → (n ≡ m) × (begins_colon rest ≡ true)
colon_of false m n rest e = absurd cc
colon_of true m n rest e = go (begins_colon rest) refl e
  where
    go : (t : Bool) → begins_colon rest ≡ t → cond t (Some m) None ≡ Some n → (n ≡ m) × (begins_colon rest ≡ true)
    go true is e2 = (cc, is)
    go false is e2 = absurd cc

-- a colon stands behind the key
colon_behind : (line : List ℕ) (n : ℕ) → key_len line ≡ Some n → begins_colon (drop n line) ≡ true
colon_behind [] n e = absurd cc
colon_behind (b ∷ bs) n e =
    let (is, colon) = colon_of (is_letter b) (1 + prefix_len in_key bs) n (drop (prefix_len in_key bs) bs) e in
    let behind : n ≡ suc (prefix_len in_key bs) = omega arith in
    rw behind colon

some_colon : (n : ℕ) (line : List ℕ) → begins_colon (drop n line) ≡ true → n < length line
some_colon zero [] h = absurd cc
some_colon zero (b ∷ bs) h = omega arith
some_colon (suc n) [] h = absurd cc
some_colon (suc n) (b ∷ bs) h = let less = some_colon n bs h in omega arith

files_key : (key : List ℕ) → lid_key key ≡ keys.Files → key ≡ codes "files"
files_key key e = go (is_same (codes "library") key) (is_same (codes "files") key) refl e
  where
    go : (library files : Bool) → is_same (codes "files") key ≡ files → cond library keys.Library (cond files keys.Files keys.Other) ≡ keys.Files → key ≡ codes "files"
    go true files is e2 = absurd cc
    go false true is e2 = sym (same_text (codes "files") key is)
    go false false is e2 = absurd cc

pub keyed_begins : (line : List ℕ) (n : ℕ) → key_len line ≡ Some n → key_of true (take n line) ≡ keys.Files → (n ≡ 5) × (begins_files line ≡ true)
keyed_begins line n e k =
    let colon = colon_behind line n e in
    let key = files_key (folded (take n line)) k in
    let five : n ≡ 5 = omega (arith, ap length key, length-map (take n line) folded_byte, length-take-le n line (omega (arith, some_colon n line colon))) in
    (five, begins_word (codes "files") line (rw five at key) (rw five at colon))

-- ---- a line that begins so

-- letters in lower case
abbrev AreSmall : List ℕ → Type 0
AreSmall [] = Unit {0}
AreSmall (x ∷ word) = ((97 ≤ x) × (x ≤ 122)) × AreSmall word

letter_byte : (b x : ℕ) (capital : Bool) → (nat_le 65 b && nat_le b 90) ≡ capital → cond capital (b + 32) b ≡ x → 97 ≤ x → x ≤ 122 → (within 97 122 b || capital) ≡ true
letter_byte b x true is e above below = either (within 97 122 b)
  where
    either : (t : Bool) → (t || true) ≡ true
    either true = refl
    either false = refl
letter_byte b x false is e above below =
    let low : nat_le 97 b ≡ true = le-leb 97 b (omega arith) in
    let high : nat_le b 122 ≡ true = le-leb b 122 (omega arith) in
    rw (low, high) refl

folds_to_letter : (b x : ℕ) → folded_byte b ≡ x → 97 ≤ x → x ≤ 122 → is_letter b ≡ true
folds_to_letter b x e above below =
    let letter : is_letter_byte b ≡ true = letter_byte b x (nat_le 65 b && nat_le b 90) refl e above below in
    rw letter refl

colon_byte : (b : ℕ) (capital : Bool) → (nat_le 65 b && nat_le b 90) ≡ capital → cond capital (b + 32) b ≡ 58 → b ≡ 58
colon_byte b true is e = absurd (omega (arith, leb-true 65 b (both (nat_le 65 b) (nat_le b 90) is).0))
colon_byte b false is e = e

colon_only : (b : ℕ) → (eqb (folded_byte b) 58 && true) ≡ true → b ≡ 58
colon_only b h = colon_byte b (nat_le 65 b && nat_le b 90) refl (eqb-true (folded_byte b) 58 (both (eqb (folded_byte b) 58) true h).0)

-- what there is at the front of a line that begins with a word and a colon
word_front : (word line : List ℕ) → AreSmall word → begins (word ++ 58 ∷ []) line ≡ true → (prefix_len in_key line ≡ length word) × (begins_colon (drop (length word) line) ≡ true) × (folded (take (length word) line) ≡ word)
word_front [] [] small h = absurd cc
word_front [] (b ∷ bs) small h = rw (colon_only b h) (refl, refl, refl)
word_front (x ∷ word) [] small h = absurd cc
word_front (x ∷ word) (b ∷ bs) small h =
    let (here, rest) = both (eqb (folded_byte b) x) (begins (word ++ 58 ∷ []) bs) h in
    let same : folded_byte b ≡ x = eqb-true (folded_byte b) x here in
    let letter = folds_to_letter b x same small.0.0 small.0.1 in
    let (run, colon, key) = word_front word bs small.1 rest in
    (rw (letter, run) (omega arith), colon, rw (same, key) refl)

pub begun_key : (line : List ℕ) → begins_files line ≡ true → (key_len line ≡ Some 5) × (key_of true (take 5 line) ≡ keys.Files)
begun_key [] h = absurd cc
begun_key (b ∷ bs) h =
    let (here, rest) = both (eqb (folded_byte b) 102) (begins (codes "iles:") bs) h in
    let same : folded_byte b ≡ 102 = eqb-true (folded_byte b) 102 here in
    let letter = folds_to_letter b 102 same (lit≤ tt) (lit≤ tt) in
    let (run, colon, key) = word_front (codes "iles") bs ((lit≤ tt, lit≤ tt), ((lit≤ tt, lit≤ tt), ((lit≤ tt, lit≤ tt), ((lit≤ tt, lit≤ tt), tt)))) rest in
    let whole : folded (take 5 (b ∷ bs)) ≡ codes "files" = rw (same, key) refl in
    (rw (letter, run, colon) refl, ap lid_key whole)
