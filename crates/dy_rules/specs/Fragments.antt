-- What fragments stand for. What is inside of a group is read first.
use Rattle.std.specs.Prelude.{List, [], ◌∷◌, Option, None, map, option_map}
use Rattle.dy_tree.specs.declared.token.Token.{Token}
use Rattle.dy_tree.specs.Fragments.{SeenFragment, one, group, SeenFragments, no_fragment}
use Rattle.dy_tree.specs.Fragments.{fragment_and}
use Rattle.dy_tree.specs.declared.brackets.Bracket.{Bracket}
use Rattle.dy_tree.specs.declared.brackets.Bracket.TheVariants as brackets
use Rattle.dy_tree.specs.declared.splitters.Splitting.{Splitting}
use Rattle.dy_tree.specs.declared.splitters.Splitting.TheVariants as splittings
use Rattle.dy_rules.specs.ConstantTrees.{Constant, constants_of, tail_of}
use Rattle.dy_rules.specs.Trees.{Tree, Argument, list, vector, ItemTree}
use Rattle.dy_rules.specs.Roles.{bracket_of}
use Rattle.dy_rules.specs.ConstantReading.{Inside, list_in, vector_in}
use Rattle.dy_rules.specs.Cutting.{Found, Item}
use Rattle.dy_rules.specs.Reading.{expression_items, passed_items}
use Rattle.dy_rules.specs.TypeReading.{types_items, limits_items, bind_items}
use Rattle.dy_rules.specs.Bodies.{body_items}
use Rattle.dy_rules.specs.Choices.{head_items}
use Rattle.dy_rules.specs.StatementReading.{statement_items}
use Rattle.dy_rules.specs.Blocks.{caught_items}
use Rattle.dy_rules.specs.Loops.{for_items}
use Rattle.dy_rules.specs.Signatures.{give_items, listed_items, method_items, named_items}

abbrev pub list_tree : Token → Inside → Tree
list_tree opener found = list opener (constants_of found.items) (tail_of found.last)

abbrev pub vector_tree : Token → List Constant → Tree
vector_tree opener items = vector opener (constants_of items)

-- the tree that a group holds
abbrev pub tree_inside : Bracket → Token → SeenFragments → List Item → Option Tree
tree_inside brackets.SharpRound opener inner items = option_map (list_tree opener) (list_in inner)
tree_inside brackets.SharpSquare opener inner items =
    option_map (vector_tree opener) (vector_in inner)
tree_inside (brackets.Statement kind) opener inner items = statement_items kind opener items
tree_inside _ opener inner items = expression_items splittings.Nothing items

abbrev pub nothing_found : Found
nothing_found = record {
  tree = None;
  passed = None;
  types = None;
  limits = None;
  bound = None;
  head = None;
  caught = None;
  given = None;
  listed = None;
  method = None;
  named_method = None;
  clauses = None;
}

abbrev pub found_of : Token → SeenFragments → Token → List Item → Found
found_of opener inner closer items =
    record {
      tree = tree_inside (bracket_of opener closer) opener inner items;
      passed = passed_items items;
      types = types_items items;
      limits = limits_items items;
      bound = bind_items items;
      head = head_items items;
      caught = caught_items items;
      given = give_items items;
      listed = listed_items items;
      method = method_items items;
      named_method = named_items items;
      clauses = for_items items;
    }

abbrev mutual
  pub found_in : SeenFragment → Found
  found_in (one token) = nothing_found
  found_in (group opener inner closer) = found_of opener inner closer (items_in inner)

  pub items_in : SeenFragments → List Item
  items_in no_fragment = []
  items_in (fragment_and first rest) =
      record { fragment = first; found = found_in first } ∷ items_in rest

abbrev pub item_of : SeenFragment → Item
item_of fragment = record { fragment = fragment; found = found_in fragment }

abbrev pub items_of : List SeenFragment → List Item
items_of fragments = map item_of fragments

abbrev pub expression_in : Splitting → SeenFragments → Option Tree
expression_in words inner = expression_items words (items_in inner)

abbrev pub passed_in : SeenFragments → Option (List Argument)
passed_in inner = passed_items (items_in inner)

abbrev pub expression_of : Splitting → List SeenFragment → Option Tree
expression_of words fragments = expression_items words (items_of fragments)

abbrev pub passed_of : List SeenFragment → Option (List Argument)
passed_of fragments = passed_items (items_of fragments)

abbrev pub body_of_fragments : Splitting → List SeenFragment → Option (List ItemTree)
body_of_fragments words fragments = body_items words (items_of fragments)
