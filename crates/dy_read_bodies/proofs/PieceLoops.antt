-- The loops over the pieces of a list.
use Rattle.std.proofs.Common.{◌≡◌, ◌<◌, ◌≤◌, ◌+◌, ◌-◌, ◌==◌, ℕ, zero, suc, length, take, drop, get_or, max, false, true, Bool, map, List, [], ◌∷◌, ◌++◌, sym, ap, ◌∙◌, arith}
use Rattle.std.proofs.lemmas.Grind.{take_at_read}
use Rattle.std.proofs.lemmas.List.{drop_more, length-drop, length-map}
use Rattle.dy_tree.specs.Fragments.{seen_fragments}
use Rattle.dy_read_parts.specs.Nesting.{nesting}
use Rattle.dy_read_parts.specs.declared.pieces.Piece.{Piece}
use Rattle.dy_read_shapes.specs.PieceNesting.{pieces_nesting}

-- the pieces in front, of which this is the last
pub last_taken : {A : Type 0} (list : List A) (n : ℕ) (item : A) → 0 < n → n ≤ length list → item ≡ get_or list (n - 1) item → take n list ≡ take (n - 1) list ++ item ∷ []
last_taken list n item some le is =
    let more : n ≡ (n - 1) + 1 = omega arith in
    ap (λ (m : ℕ). take m list) more ∙ (take_at_read list (n - 1) item (omega arith)).1 ∙ ap (λ (it : _). take (n - 1) list ++ it ∷ []) (sym is)

-- the pieces that are left, of which this is the first
pub first_left : {A : Type 0} (list : List A) (n : ℕ) (item : A) → n < length list → item ≡ get_or list n item → drop n list ≡ item ∷ drop (n + 1) list
first_left list n item lt is = drop_more list n item lt ∙ ap (λ (it : _). it ∷ drop (n + 1) list) (sym is)

-- some pieces are left, or none
some_length : {A : Type 0} (list : List A) → 0 < length list → false ≡ (length list == 0)
some_length [] lt = absurd (omega arith)
some_length (first ∷ rest) lt = grind arith

pub more_left : {A B : Type 0} (f : A → B) (list : List A) (n : ℕ) → n < length list → false ≡ (length (map f (drop n list)) == 0)
more_left f list n lt =
    let same = length-map (drop n list) f in
    let left = length-drop n list in
    some_length (map f (drop n list)) (omega arith)

pub none_left : {A B : Type 0} (f : A → B) (list : List A) (n : ℕ) → length list ≤ n → true ≡ (length (map f (drop n list)) == 0)
none_left f list n le =
    let same = length-map (drop n list) f in
    let left = length-drop n list in
    let none : length (map f (drop n list)) ≡ 0 = omega arith in
    sym (ap (λ (k : ℕ). k == 0) none)

left_nesting : (pieces : List Piece) (n : ℕ) → pieces_nesting (drop n pieces) ≤ pieces_nesting pieces
left_nesting pieces zero = omega arith
left_nesting [] (suc n) = omega arith
left_nesting (first ∷ rest) (suc n) = let h = left_nesting rest n in omega arith

-- a piece is nested no deeper than the deepest
pub piece_nesting_at : (pieces : List Piece) (n : ℕ) (piece : Piece) → n < length pieces → piece ≡ get_or pieces n piece → nesting (seen_fragments piece.fragments.now) ≤ pieces_nesting pieces
piece_nesting_at pieces n piece lt is =
    let first : pieces_nesting (drop n pieces) ≡ max (nesting (seen_fragments piece.fragments.now)) (pieces_nesting (drop (n + 1) pieces)) = ap pieces_nesting (first_left pieces n piece lt is) in
    let less = left_nesting pieces n in
    omega arith
