-- A line of the value that is trimmed is a name, unless nothing is left of it.
use Rattle.std.proofs.Common.{◌≡◌, ℕ, zero, suc, ◌+◌, ◌≤◌, Bool, true, false, cond, not, ◌||◌, List, [], ◌∷◌, take, drop, refl, ◌∙◌, ap, arith}
use Rattle.std.specs.List.{prefix_len}
use Rattle.dy_pieces.specs.Bytes.{is_blank}
use Rattle.dy_lexer.specs.Headers.{kept, trimmed}
use Rattle.dy_lid_files.specs.Names.{is_name}

abbrev pub is_filled : List ℕ → Bool
is_filled [] = false
is_filled (b ∷ bs) = true

kept_most : (end i : ℕ) (bytes : List ℕ) → end ≤ i → end ≤ kept end i bytes
kept_most end i [] h = omega arith
kept_most end i (b ∷ bs) h = go (is_blank b) (kept_most end (i + 1) bs (omega arith)) (kept_most (i + 1) (i + 1) bs (omega arith))
  where
    go : (t : Bool) → end ≤ kept end (i + 1) bs → i + 1 ≤ kept (i + 1) (i + 1) bs → end ≤ kept (cond t end (i + 1)) (i + 1) bs
    go true same more = same
    go false same more = omega arith

front_filled : (n : ℕ) (b : ℕ) (bs : List ℕ) → 1 ≤ n → is_filled (take n (b ∷ bs)) ≡ true
front_filled zero b bs h = absurd (omega arith)
front_filled (suc n) b bs h = refl

-- by whether its first byte is a blank
first_byte : (t : Bool) (b : ℕ) (bs : List ℕ) → is_blank b ≡ t → is_filled (trimmed bs) ≡ is_name bs → is_filled (trimmed (b ∷ bs)) ≡ (not t || is_name bs)
first_byte true b bs is h =
    let more : 1 + prefix_len is_blank bs ≡ suc (prefix_len is_blank bs) = omega arith in
    rw (is, more) h
first_byte false b bs is h =
    rw (is, is) (front_filled (kept 1 1 bs) b bs (kept_most 1 1 bs (omega arith)))

pub trimmed_name : (line : List ℕ) → is_filled (trimmed line) ≡ is_name line
trimmed_name [] = refl
trimmed_name (b ∷ bs) = first_byte (is_blank b) b bs refl (trimmed_name bs)
