-- Where no name begins.
use Rattle.std.proofs.Common.{◌≡◌, ℕ, ◌+◌, ◌-◌, ◌<◌, List, length, get_or, drop, None, refl, ap, ◌∙◌, below_more, arith}
use Rattle.std.proofs.lemmas.List.{drop-drop}
use Rattle.dy_pieces.specs.declared.class.Class.TheVariants.{Graphic}
use Rattle.dy_pieces.specs.Bytes.{class_of}
use Rattle.dy_pieces.specs.Scan.{plus}
use Rattle.dy_pieces.specs.Pieces.{name_len, IsNameless}
use Rattle.dy_pieces.proofs.Steps.{plus_plus, at_drop}

-- up to i there are graphic characters alone
abbrev pub IsGraphicTo : ℕ → List ℕ → Type 0
IsGraphicTo i text = (k : ℕ) → k < i → name_len (drop k text) ≡ plus (i - k) (name_len (drop i text))

graphic_step : (text : List ℕ) (i : ℕ) → i < length text → Graphic ≡ class_of (get_or text i 0) → name_len (drop i text) ≡ plus 1 (name_len (drop (i + 1) text))
graphic_step text i room is = rw (at_drop text i room, ← is) refl

graphic_before : (text : List ℕ) (i k : ℕ) → k < i → name_len (drop i text) ≡ plus 1 (name_len (drop (i + 1) text))
    → name_len (drop k text) ≡ plus (i - k) (name_len (drop i text)) → name_len (drop k text) ≡ plus (i + 1 - k) (name_len (drop (i + 1) text))
graphic_before text i k h step below =
    let sum : i - k + 1 ≡ i + 1 - k = omega arith in
    below ∙ ap (plus (i - k)) step ∙ plus_plus (i - k) (name_len (drop (i + 1) text)) ∙ ap (λ (n : ℕ). plus n (name_len (drop (i + 1) text))) sum

graphic_here : (text : List ℕ) (i : ℕ) → name_len (drop i text) ≡ plus 1 (name_len (drop (i + 1) text)) → name_len (drop i text) ≡ plus (i + 1 - i) (name_len (drop (i + 1) text))
graphic_here text i step =
    let one : 1 ≡ i + 1 - i = omega arith in
    step ∙ ap (λ (n : ℕ). plus n (name_len (drop (i + 1) text))) one

pub graphic_more : (text : List ℕ) (i : ℕ) → i < length text → Graphic ≡ class_of (get_or text i 0) → IsGraphicTo i text → IsGraphicTo (i + 1) text
graphic_more text i room is below = below_more (λ k. name_len (drop k text) ≡ plus (i + 1 - k) (name_len (drop (i + 1) text))) i
    (λ k h. graphic_before text i k h (graphic_step text i room is) (below k h))
    (graphic_here text i (graphic_step text i room is))

pub nameless-graphic : (text : List ℕ) (i : ℕ) → IsGraphicTo i text → name_len (drop i text) ≡ None → IsNameless i text
nameless-graphic text i below none k h = below k h ∙ ap (plus (i - k)) none

pub nameless-drop : (text : List ℕ) (bare n : ℕ) → IsNameless bare text → n < bare → IsNameless (bare - n) (drop n text)
nameless-drop text bare n h less k small = ap name_len (drop-drop k n text) ∙ h (n + k) (omega arith)
