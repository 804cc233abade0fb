-- Statements that are put together from parts that were read.
use Rattle.std.proofs.Common.{◌≡◌, List, map, Option, Some, None, option_map, option_and_then, refl, ap, ◌∙◌}
use Rattle.dy_tree.specs.declared.expression.Item.{Item}
use Rattle.dy_tree.specs.declared.token.Token.{Token}
use Rattle.dy_tree.specs.declared.brackets.Guard.{Guard}
use Rattle.dy_tree.specs.declared.splitters.Splitting.TheVariants as splittings
use Rattle.dy_rules.specs.Bodies.{body_items}
use Rattle.dy_rules.specs.Cutting as cutting
use Rattle.dy_rules.specs.Cutting.{MethodFound}
use Rattle.dy_rules.specs.SeenForms.{seen_item}
use Rattle.dy_rules.specs.StatementReading.{tested_by, begin_of, guarded_of, guarded_items, method_statement}
use Rattle.dy_rules.specs.Trees.{Tree, begin_tree, guarded, method_tree, Parameters, ItemTree, parameters_of, body_of}
use Rattle.dy_rules_depth.specs.Changes.{changed_item, changed_parameters}
use Rattle.dy_rules_depth.specs.Capping.{capped, capping, filled, filling}
use Rattle.dy_rules_depth.proofs.Options.{map_twice}
use Rattle.dy_rules_depth.proofs.Rows.{row_body, body_changed}
use Rattle.dy_rules_depth.proofs.SameNodes.{same_method}
use Rattle.dy_rules_depth.proofs.StatementsSame.{begin_of_same, guarded_of_same}
use Rattle.dy_rules_depth.proofs.Twice.{tree_twice, item_twice, parameters_twice}
use Rattle.dy_read_statements.specs.FilledInside.{filled_inside}
use Rattle.dy_read_arms.specs.ReadBodies.{read_list}
use Rattle.dy_read_arms.specs.ReadItems.{capped_items}
use Rattle.dy_read_statements.specs.ReadMethods.{capped_parts, parts_of}
use Rattle.dy_read_statements.specs.ReadStatements.{both, capped_begin, capped_guarded, method_of, capped_method_tree}

-- a statement as it lies in memory, and as it is read
pub begin_filled : (tree : Tree) (word copy : Token) (items : List Item) → tree ≡ begin_of copy (map seen_item items) → copy ≡ word → filled_inside tree ≡ begin_of word (read_list items)
begin_filled tree word copy items e is = ap filled_inside e ∙ ap (begin_tree copy) (row_body filling (map seen_item items)) ∙ ap (λ (token : Token). begin_of token (read_list items)) is

pub guarded_filled : (tree : Tree) (guard : Guard) (word copy : Token) (boxed test : Tree) (items : List Item) → tree ≡ guarded_of guard copy boxed (map seen_item items) → copy ≡ word → boxed ≡ test
    → filled_inside tree ≡ guarded_of guard word (filled test) (read_list items)
guarded_filled tree guard word copy boxed test items e is same = ap filled_inside e ∙ ap (guarded guard copy (filled boxed)) (row_body filling (map seen_item items)) ∙ cc (is, same)

pub method_filled : (tree : Tree) (word copy : Token) (boxed signature : Parameters) (items : List Item) → tree ≡ method_tree copy boxed (body_of (map seen_item items)) → copy ≡ word → boxed ≡ signature
    → filled_inside tree ≡ method_of word (record { signature = changed_parameters filling signature; trees = read_list items })
method_filled tree word copy boxed signature items e is same = ap filled_inside e ∙ ap (method_tree copy (changed_parameters filling boxed)) (row_body filling (map seen_item items)) ∙ cc (is, same)

pub both_are : {A B C : Type 0} (make : A → B → C) {first other : Option A} {second rest : Option B} → first ≡ other → second ≡ rest → both make first second ≡ both make other rest
both_are make e f = cc (e, f)

pub trees_twice : (trees : List ItemTree) → capped_items (capped_items trees) ≡ capped_items trees
trees_twice trees = map_twice (changed_item capping) item_twice trees

-- Statements are to the limit what statements of capped parts are.
pub begin_through : (word : Token) (found : Option (List ItemTree)) → option_map (capped_begin word) (option_map capped_items found) ≡ option_map capped (option_map (begin_of word) found)
begin_through word None = refl
begin_through word (Some trees) = ap Some (begin_of_same word (capped_items trees) trees (trees_twice trees))

guarded_body : (guard : Guard) (word : Token) (test : Tree) (found : Option (List ItemTree)) → both (capped_guarded guard word) (Some (capped test)) (option_map capped_items found) ≡ option_map capped (option_map (guarded_of guard word test) found)
guarded_body guard word test None = refl
guarded_body guard word test (Some trees) = ap Some (guarded_of_same guard word (capped test) test (tree_twice test) (capped_items trees) trees (trees_twice trees))

pub guarded_through : (guard : Guard) (word : Token) (test : Option Tree) (rest : List cutting.Item)
    → both (capped_guarded guard word) (option_map capped test) (option_map capped_items (body_items splittings.Nothing rest)) ≡ option_map capped (option_and_then (guarded_items guard word) (option_map (tested_by rest) test))
guarded_through guard word None rest = refl
guarded_through guard word (Some test) rest = guarded_body guard word test (body_items splittings.Nothing rest)

pub method_through : (word : Token) (found : Option MethodFound) → option_map (capped_method_tree word) (option_map capped_parts (option_map parts_of found)) ≡ option_map capped (option_map (method_statement word) found)
method_through word None = refl
method_through word (Some method) =
    let signature = parameters_of method.found method.results in
    ap Some (same_method word (changed_parameters capping signature) signature (body_of (capped_items method.trees)) (body_of method.trees) (parameters_twice signature) (body_changed (capped_items method.trees) method.trees (trees_twice method.trees)))
