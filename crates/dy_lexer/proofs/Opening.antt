-- One turn of the loop over the lines of a header.
use Rattle.std.proofs.Common.{◌≡◌, ℕ, zero, suc, ◌+◌, ◌<◌, ◌≤◌, Bool, true, false, cond, List, [], ◌∷◌, length, drop, refl, ap, ◌∙◌, arith}
use Rattle.std.proofs.lemmas.List.{drop-drop}
use Rattle.dy_lexer.specs.declared.header.Head.{Head}
use Rattle.dy_lexer.specs.Headers.{line_of, line_size, is_empty_line, line_read, Opened, opened, header_from}

pub header_end : (lid : Bool) (m : ℕ) (head : Head) (at : ℕ) (text : List ℕ) → length text ≡ 0 → header_from lid m head at text ≡ opened head at text
header_end lid zero head at text e = refl
header_end lid (suc m) head at [] e = refl
header_end lid (suc m) head at (b ∷ bs) e = absurd (omega arith)

header_step : (lid : Bool) (m : ℕ) (head : Head) (at : ℕ) (text : List ℕ) → 0 < length text → length text ≤ m
    → (k : ℕ) × (length text ≤ suc k) × (header_from lid m head at text ≡ cond (is_empty_line (line_of text)) (opened head (at + line_size text) (drop (line_size text) text)) (header_from lid k (line_read lid head at (line_of text)) (at + line_size text) (drop (line_size text) text)))
header_step lid zero head at text some fits = absurd (omega arith)
header_step lid (suc k) head at [] some fits = absurd (omega arith)
header_step lid (suc k) head at (b ∷ bs) some fits = (k, fits, refl)

pub header_ends : (lid : Bool) (m : ℕ) (head : Head) (at : ℕ) (text line : List ℕ) (size : ℕ) (whole : Opened) → 0 < length text → length text ≤ m
    → line ≡ line_of text → size ≡ line_size text → is_empty_line line ≡ true → whole ≡ header_from lid m head at text → whole ≡ opened head (at + size) (drop size text)
header_ends lid m head at text line size whole some fits l s empty w =
    let (k, room, step) = header_step lid m head at text some fits in
    w ∙ step ∙ rw (← l, ← s, empty) refl

pub header_goes : (lid : Bool) (m : ℕ) (head next : Head) (at : ℕ) (text line after : List ℕ) (size : ℕ) (whole : Opened) → 0 < length text → length text ≤ m
    → line ≡ line_of text → size ≡ line_size text → is_empty_line line ≡ false → next ≡ line_read lid head at line → after ≡ drop size text → length after < length text
    → whole ≡ header_from lid m head at text → (k : ℕ) × (length after ≤ k) × (whole ≡ header_from lid k next (at + size) after)
header_goes lid m head next at text line after size whole some fits l s full n back less w =
    let (k, room, step) = header_step lid m head at text some fits in
    (k, omega arith, w ∙ step ∙ rw (n, back, ← l, ← s, full) refl)

pub further : (at size : ℕ) (text rest after : List ℕ) → rest ≡ drop at text → after ≡ drop size rest → after ≡ drop (at + size) text
further at size text rest after e f = f ∙ ap (drop size) e ∙ drop-drop size at text
