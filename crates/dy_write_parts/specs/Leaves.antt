-- Literals and names as they are written.
use Rattle.std.specs.Prelude.{List, [], ◌∷◌, ◌++◌}
use Rattle.dy_tree.specs.Fragments.{SeenFragment, one}
use Rattle.dy_rules.specs.Marks.{written_literal, list_group, square_group}
use Rattle.dy_rules.specs.Trees.{Tree, literal, name, list, vector}
use Rattle.dy_rules.specs.Writing.{written_items, written_tail}

-- a literal or a name
abbrev pub leaf : Tree → List SeenFragment
leaf (literal form) = written_literal form
leaf (name token) = one token ∷ []
leaf (list opener items last) = list_group opener (written_items items ++ written_tail last) ∷ []
leaf (vector opener items) = square_group opener (written_items items) ∷ []
leaf _ = []
