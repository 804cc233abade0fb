-- Fragments cut at commas and semicolons, and what each part is read as.
use Rattle.std.specs.Prelude.{ℕ, zero, suc, length, Bool, true, false, cond, not, ◌||◌, nat_eq}
use Rattle.std.specs.Prelude.{List, [], ◌∷◌, ◌++◌, Option, Some, None}
use Rattle.std.specs.Borrow.{Bor}
use Rattle.dy_base.specs.declared.fault.Place.{Place}
use Rattle.dy_tree.specs.declared.token.Token.{Token}
use Rattle.dy_tree.specs.declared.fragment.Fragment.{Fragment}
use Rattle.dy_tree.specs.Spelling.{is_sign}
use Rattle.dy_tree.specs.Fragments.{SeenFragment, one, group, seen_fragments}

-- whether a fragment is this punctuation
abbrev pub is_mark : List ℕ → SeenFragment → Bool
is_mark mark (one token) = is_sign mark token
is_mark mark (group opener inner closer) = false

-- a fragment in front of parts belongs to the first of them
abbrev pub with_first : SeenFragment → List (List SeenFragment) → List (List SeenFragment)
with_first fragment [] = (fragment ∷ []) ∷ []
with_first fragment (part ∷ others) = (fragment ∷ part) ∷ others

-- what stands in front of the first mark, between two, and behind the last
abbrev pub parts : List ℕ → List SeenFragment → List (List SeenFragment)
parts mark [] = [] ∷ []
parts mark (first ∷ rest) =
    cond (is_mark mark first) ([] ∷ parts mark rest) (with_first first (parts mark rest))

-- Where a mark may end the last part too, nothing stands behind it.
abbrev pub ended : List (List SeenFragment) → List (List SeenFragment)
ended [] = []
ended ([] ∷ []) = []
ended ((first ∷ part) ∷ []) = (first ∷ part) ∷ []
ended (part ∷ other ∷ others) = part ∷ ended (other ∷ others)

-- nothing stands behind the last mark
abbrev pub is_end : List SeenFragment → Option (List SeenFragment) → Bool
is_end [] None = true
is_end [] (Some rest) = false
is_end (first ∷ part) next = false

-- all parts as they are read, where each is
abbrev pub with_read : {A : Type 0} → Option A → Option (List A) → Option (List A)
with_read None others = None
with_read (Some first) None = None
with_read (Some first) (Some others) = Some (first ∷ others)

abbrev pub each : {A : Type 0} → (List SeenFragment → Option A) → List (List SeenFragment)
    → Option (List A)
each read [] = Some []
each read (part ∷ others) = with_read (read part) (each read others)

-- where a fragment begins
abbrev pub place_of : SeenFragment → Place
place_of (one token) = token.place
place_of (group opener inner closer) = opener.place

-- A form ends with its semicolon, and with its file.
abbrev pub is_last : SeenFragment → List SeenFragment → Bool
is_last fragment [] = true
is_last fragment (next ∷ rest) =
    is_mark (59 ∷ []) fragment || not (nat_eq (place_of fragment).file (place_of next).file)

-- the pieces of some files, each with the semicolon behind it
abbrev pub pieces : List SeenFragment → List (List SeenFragment)
pieces [] = []
pieces (first ∷ rest) = cond (is_last first rest) ((first ∷ []) ∷ pieces rest)
    (with_first first (pieces rest))

-- how many fragments stand in front of the first mark
abbrev pub front_len : List ℕ → List SeenFragment → ℕ
front_len mark [] = 0
front_len mark (first ∷ rest) = cond (is_mark mark first) 0 (suc (front_len mark rest))

-- what stands behind the mark that fragments begin with
abbrev pub behind_first : List SeenFragment → Option (List SeenFragment)
behind_first [] = None
behind_first (first ∷ rest) = Some rest

-- the parts of what follows a mark, if one follows
abbrev pub parts_behind : List ℕ → Option (List SeenFragment) → List (List SeenFragment)
parts_behind mark None = []
parts_behind mark (Some rest) = parts mark rest

abbrev pub seen_slice : Bor (List Fragment) → List SeenFragment
seen_slice slice = seen_fragments slice.now

-- how many fragments stand in the first piece
abbrev pub piece_len : List SeenFragment → ℕ
piece_len [] = 0
piece_len (first ∷ rest) = cond (is_last first rest) 1 (suc (piece_len rest))

-- what was read before what is read
abbrev pub read_before : {A : Type 0} → List A → Option (List A) → Option (List A)
read_before before None = None
read_before before (Some others) = Some (before ++ others)

-- how many fragments follow a mark, with one more where one is there
abbrev pub left : Option (Bor (List Fragment)) → ℕ
left None = 0
left (Some slice) = suc (length slice.now)
