-- Parts of what trees are written as.
use Rattle.std.specs.Prelude.{List, [], ◌∷◌, Option, Some, None, Bool, true, false}
use Rattle.dy_tree.specs.declared.token.Token.{Token}
use Rattle.dy_tree.specs.Fragments.{SeenFragment, one}
use Rattle.dy_rules.specs.Marks.{comma_mark, rest_mark}
use Rattle.dy_rules.specs.Types.{VariableTree}
use Rattle.dy_rules.specs.TypeWriting.{written_variable}

abbrev pub maybe_one : Option Token → List SeenFragment
maybe_one None = []
maybe_one (Some token) = one token ∷ []

abbrev pub is_none_of : {X : Type 0} → List X → Bool
is_none_of [] = true
is_none_of (x ∷ xs) = false

-- what separates a part from those before it, unless it is the first
abbrev pub separator_unless : Bool → SeenFragment → List SeenFragment
separator_unless true separator = []
separator_unless false separator = separator ∷ []

abbrev pub comma_unless : Bool → List SeenFragment
comma_unless first = separator_unless first comma_mark

-- a name behind `#next` or `#rest`
abbrev pub marked_name : SeenFragment → Option Token → List SeenFragment
marked_name mark None = []
marked_name mark (Some token) = mark ∷ one token ∷ []

abbrev pub rest_variable : Option VariableTree → List SeenFragment
rest_variable None = []
rest_variable (Some variable) = rest_mark ∷ written_variable variable
