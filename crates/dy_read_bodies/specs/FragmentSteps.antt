-- How a part is taken in, by the reader of an expression and by that of arguments.
use Rattle.std.specs.Prelude.{Bool, Option}
use Rattle.dy_tree.specs.Fragments.{pack}
use Rattle.dy_tree.specs.declared.splitters.Splitting.{Splitting}
use Rattle.dy_rules.specs.Fragments.{items_of, tree_inside}
use Rattle.dy_rules.specs.Reading.{State, at_token, at_group, Passing, passed_items}
use Rattle.dy_rules.specs.Roles.{role_of}
use Rattle.dy_read_parts.specs.FragmentParts.{SeenPart, token_part, group_part}
use Rattle.dy_read_operators.specs.PassingSteps.{ahead, after_token, value_group}

abbrev pub state_at : Splitting → State → SeenPart → Option State
state_at words state (token_part token) = at_token words state token
state_at words state (group_part bracket opener inner) =
    at_group state opener bracket (tree_inside bracket opener (pack inner) (items_of inner))
    (passed_items (items_of inner))

abbrev pub reader_at : Bool → Passing → SeenPart → Option Passing
reader_at begins reader (token_part token) = after_token (role_of token) reader token
reader_at begins reader (group_part bracket opener inner) =
    value_group (ahead begins reader) opener bracket
    (tree_inside bracket opener (pack inner) (items_of inner)) (passed_items (items_of inner))
