-- One step of each reading loop.
use Rattle.std.proofs.Common.{◌≡◌, ℕ, ◌+◌, ◌<◌, ◌≤◌, List, [], ◌∷◌, length, get_or, drop, false, Option, Some, None, refl, ap, arith, add-one, drop-cons}
use Rattle.std.proofs.lemmas.List.{drop_all}
use Rattle.dy_pieces.specs.declared.class.Class.TheVariants.{Graphic}
use Rattle.dy_pieces.specs.Bytes.{class_of}
use Rattle.dy_pieces.specs.Words.{begins}
use Rattle.dy_pieces.specs.Scan.{plus}
use Rattle.dy_pieces.specs.Pieces.{name_len}

pub plus_plus : (i : ℕ) (r : Option ℕ) → plus i (plus 1 r) ≡ plus (i + 1) r
plus_plus i None = refl
plus_plus i (Some m) = ap (λ (n : ℕ). Some n) (omega arith)

pub at_drop : (bytes : List ℕ) (i : ℕ) → i < length bytes → drop i bytes ≡ get_or bytes i 0 ∷ drop (i + 1) bytes
at_drop bytes i h = rw (add-one, drop-cons bytes i 0 h) refl

pub name_len-graphic : (bytes : List ℕ) (i : ℕ) → i < length bytes → Graphic ≡ class_of (get_or bytes i 0)
    → plus i (name_len (drop i bytes)) ≡ plus (i + 1) (name_len (drop (i + 1) bytes))
name_len-graphic bytes i h is = rw (at_drop bytes i h, ← is) (plus_plus i (name_len (drop (i + 1) bytes)))

begins_short : (word bytes : List ℕ) (x : ℕ) (xs : List ℕ) → word ≡ x ∷ xs → bytes ≡ [] → begins word bytes ≡ false
begins_short word bytes x xs e f = rw (e, f) refl

-- a word is no front of a text that ends before it
pub begins-ended : (word bytes : List ℕ) (i : ℕ) → i < length word → length bytes ≤ i → begins (drop i word) (drop i bytes) ≡ false
begins-ended word bytes i h ends = begins_short (drop i word) (drop i bytes) (get_or word i 0) (drop (i + 1) word) (at_drop word i h) (drop_all i bytes ends)
