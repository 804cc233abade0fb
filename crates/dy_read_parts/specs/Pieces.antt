-- The pieces that fragments are cut into, one after the other.
use Rattle.std.specs.Prelude.{◌<◌, ◌≤◌, ⊤, ℕ, suc, length, Bool, false, not, ◌&&◌, if◌then◌else◌}
use Rattle.std.specs.Prelude.{List, [], ◌∷◌, ◌++◌, Option, Some, None}
use Rattle.std.specs.Borrow.{Bor}
use Rattle.dy_tree.specs.declared.fragment.Fragment.{Fragment}
use Rattle.dy_tree.specs.Fragments.{SeenFragment, seen_fragments}
use Rattle.dy_read_parts.specs.Nesting.{nesting}
use Rattle.dy_rules.specs.Cutting.{Item, Piece, Pieces, is_let, cut, each}
use Rattle.dy_rules.specs.Fragments.{items_of}

-- how many fragments stand in front of the first separator
abbrev pub front_len : (SeenFragment → Bool) → Bool → List SeenFragment → ℕ
front_len separates bound [] = 0
front_len separates bound (first ∷ rest) =
    if not bound && separates first then 0 else suc (front_len separates (is_let first) rest)

abbrev pub piece_and : SeenFragment → Pieces → List Piece
piece_and separator behind = record { separator = separator; items = behind.first } ∷ behind.others

-- the pieces of fragments that begin with a separator
abbrev pub others_in : (SeenFragment → Bool) → List SeenFragment → List Piece
others_in separates [] = []
others_in separates (separator ∷ rest) = piece_and separator (cut separates false (items_of rest))

abbrev pub pieces_behind : (SeenFragment → Bool) → List Item → List SeenFragment → Pieces
pieces_behind separates first rest = record { first = first; others = others_in separates rest }

-- what was read before what is read
abbrev pub read_before : {A : Type 0} → List A → Option (List A) → Option (List A)
read_before before None = None
read_before before (Some others) = Some (before ++ others)

-- what stands behind the separator that fragments begin with
abbrev pub behind_first : List SeenFragment → Option (List SeenFragment)
behind_first [] = None
behind_first (separator ∷ rest) = Some rest

abbrev pub seen_slice : Bor (List Fragment) → List SeenFragment
seen_slice slice = seen_fragments slice.now

abbrev pub IsShorter : ℕ → Option (Bor (List Fragment)) → Type 0
IsShorter n None = ⊤
IsShorter n (Some slice) = length slice.now < n

abbrev pub IsWithin : ℕ → Option (Bor (List Fragment)) → Type 0
IsWithin n None = ⊤
IsWithin n (Some slice) = nesting (seen_fragments slice.now) ≤ n

-- how many fragments there are, with one more where there are any
abbrev pub left : Option (Bor (List Fragment)) → ℕ
left None = 0
left (Some slice) = suc (length slice.now)

-- parts with separators between them, of which each is read
abbrev pub each_part : {A : Type 0} → (SeenFragment → Bool) → (List Item → Option A)
    → Option (List SeenFragment) → Option (List A)
each_part separates read None = Some []
each_part separates read (Some fragments) = each read (cut separates false (items_of fragments))

-- fragments, where there are any
abbrev pub unless_empty : List SeenFragment → Option (List SeenFragment)
unless_empty [] = None
unless_empty (first ∷ rest) = Some (first ∷ rest)
