-- Parts with a mark between them.
use Rattle.std.specs.Prelude.{ℕ, Bool, true, false, List, [], ◌∷◌, ◌++◌}
use Rattle.dy_tree.specs.Fragments.{SeenFragment, one}
use Rattle.dy_rules.specs.Marks.{mark}

-- parts behind the first, each behind a mark
abbrev pub behind_mark : List ℕ → List (List SeenFragment) → List SeenFragment
behind_mark text [] = []
behind_mark text (part ∷ parts) = one (mark text) ∷ (part ++ behind_mark text parts)

abbrev pub joined : List ℕ → List (List SeenFragment) → List SeenFragment
joined text [] = []
joined text (part ∷ parts) = part ++ behind_mark text parts

-- the mark before a part, unless it is the first
abbrev pub mark_unless : List ℕ → Bool → List SeenFragment
mark_unless text true = []
mark_unless text false = one (mark text) ∷ []
