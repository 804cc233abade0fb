-- What is read inside of a group is the same to the limit, whatever stands in the place of trees that are too deep.
use Rattle.std.proofs.Common.{◌≡◌, List, refl}
use Rattle.dy_tree.specs.declared.token.Token.{Token}
use Rattle.dy_tree.specs.Fragments.{SeenFragments}
use Rattle.dy_tree.specs.declared.brackets.Bracket.{Bracket}
use Rattle.dy_tree.specs.declared.brackets.Bracket.TheVariants as brackets
use Rattle.dy_tree.specs.declared.splitters.Splitting.TheVariants as splittings
use Rattle.dy_rules.specs.Roles.{bracket_of}
use Rattle.dy_rules.specs.Cutting.{Item}
use Rattle.dy_rules.specs.Fragments.{tree_inside, found_of}
use Rattle.dy_rules_depth.specs.ReaderChanges.{changed_found, changed_items}
use Rattle.dy_rules_depth.specs.Capping.{capped, capping}
use Rattle.dy_rules_depth.proofs.CutsSame.{Reads}
use Rattle.dy_rules_depth.proofs.Expressions.{expression_same, passed_same}
use Rattle.dy_rules_depth.proofs.TypesSame.{types_same, limits_kept, bind_same}
use Rattle.dy_rules_depth.proofs.ChoicesSame.{head_same}
use Rattle.dy_rules_depth.proofs.BlocksSame.{caught_same}
use Rattle.dy_rules_depth.proofs.LoopsSame.{for_items_same}
use Rattle.dy_rules_depth.proofs.ParametersSame.{give_same, listed_same}
use Rattle.dy_rules_depth.proofs.MethodsSame.{method_same, named_same}
use Rattle.dy_rules_depth.proofs.StatementsSame.{statement_same}

pub inside_same : (bracket : Bracket) (opener : Token) (inner : SeenFragments) → Reads capped (tree_inside bracket opener inner)
inside_same brackets.SharpRound opener inner items = refl
inside_same brackets.SharpSquare opener inner items = refl
inside_same (brackets.Statement kind) opener inner items = statement_same kind opener items
inside_same brackets.Round opener inner items = expression_same splittings.Nothing items
inside_same brackets.Square opener inner items = expression_same splittings.Nothing items
inside_same brackets.Hidden opener inner items = expression_same splittings.Nothing items
inside_same brackets.Special opener inner items = expression_same splittings.Nothing items

pub found_of_same : (opener : Token) (inner : SeenFragments) (closer : Token) (items : List Item) → changed_found capping (found_of opener inner closer (changed_items capping items)) ≡ changed_found capping (found_of opener inner closer items)
found_of_same opener inner closer items =
    cc
    (inside_same (bracket_of opener closer) opener inner items, passed_same items, types_same items, limits_kept items, bind_same items, head_same items, caught_same items, give_same items, listed_same items, method_same items, named_same items, for_items_same items)
