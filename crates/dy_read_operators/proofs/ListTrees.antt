-- Lists and vectors as expressions, made of constants that were read within the limit.
use Rattle.std.proofs.Common.{◌≡◌, ◌+◌, ◌<◌, ◌≤◌, ℕ, List, map, Option, Some, None, option_map, refl, ap, arith}
use Rattle.dy_tree.specs.declared.token.Token.{Token}
use Rattle.dy_tree.specs.declared.types.ConstantForm.{ConstantForm}
use Rattle.dy_rules.specs.ConstantTrees.{Constant, constants_of, tail_of}
use Rattle.dy_rules.specs.ConstantReading.{Inside}
use Rattle.dy_rules.specs.Fragments.{list_tree, vector_tree}
use Rattle.dy_rules.specs.SeenTypes.{seen_constant}
use Rattle.dy_rules.specs.Trees.{Tree}
use Rattle.dy_rules.specs.Depth.{depth_limit}
use Rattle.dy_rules_depth.specs.Capping.{capped, capped_constant, deep_tree}
use Rattle.dy_rules_depth.proofs.SameNodes.{same_list, same_vector}
use Rattle.dy_read_constants.specs.declared.list_inside.ListInside.{ListInside}
use Rattle.dy_read_constants.specs.ConstantCaps.{read_constants}
use Rattle.dy_read_constants.specs.ConstantFronts.{read_inside, seen_inside, capped_inside, capped_items, inside_depth, items_depth}
use Rattle.dy_read_outers.proofs.Fills.{Made, node_made, node_beyond}
use Rattle.dy_read_operators.specs.ListTrees.{capped_list, capped_vector}
use Rattle.dy_read_constants.proofs.ConstantCaps.{inside_same, constants_same, items_capped, tail_capped}

pub list_made : (opener : Token) (found : ListInside) (made : Tree) (inside : ℕ) → made ≡ list_tree opener (seen_inside found) → inside ≡ inside_depth (read_inside found) → inside < depth_limit → Made made (list_tree opener (read_inside found)) (inside + 1)
list_made opener found made inside e is lt =
    node_made made (list_tree opener (seen_inside found)) (list_tree opener (read_inside found)) inside e (λ le. ap (list_tree opener) (inside_same found (omega arith))) refl (omega arith) lt

pub list_beyond : (opener : Token) (found : Inside) (inside : ℕ) → inside ≡ inside_depth found → depth_limit ≤ inside → capped_list opener found ≡ deep_tree
list_beyond opener found inside is le = node_beyond (list_tree opener found) inside (omega arith) le

pub vector_made : (opener : Token) (forms : List ConstantForm) (made : Tree) (inside : ℕ) → made ≡ vector_tree opener (map seen_constant forms) → inside ≡ items_depth (read_constants forms) → inside < depth_limit → Made made (vector_tree opener (read_constants forms)) (inside + 1)
vector_made opener forms made inside e is lt =
    node_made made (vector_tree opener (map seen_constant forms)) (vector_tree opener (read_constants forms)) inside e (λ le. ap (vector_tree opener) (constants_same forms (omega arith))) refl (omega arith) lt

pub vector_beyond : (opener : Token) (items : List Constant) (inside : ℕ) → inside ≡ items_depth items → depth_limit ≤ inside → capped_vector opener items ≡ deep_tree
vector_beyond opener items inside is le = node_beyond (vector_tree opener items) inside (omega arith) le

-- A list of constants is to the limit what the list of the capped constants is.
pub list_through : (opener : Token) (found : Option Inside) → option_map (capped_list opener) (option_map capped_inside found) ≡ option_map capped (option_map (list_tree opener) found)
list_through opener None = refl
list_through opener (Some found) =
    ap Some (same_list opener (constants_of (capped_items found.items)) (constants_of found.items) (tail_of (option_map capped_constant found.last)) (tail_of found.last) (items_capped found.items) (tail_capped found.last))

pub vector_through : (opener : Token) (found : Option (List Constant)) → option_map (capped_vector opener) (option_map capped_items found) ≡ option_map capped (option_map (vector_tree opener) found)
vector_through opener None = refl
vector_through opener (Some items) = ap Some (same_vector opener (constants_of (capped_items items)) (constants_of items) (items_capped items))
