-- Lists and vectors that are within the limit, and what stands for those that are not.
use Rattle.std.proofs.Common.{◌≡◌, ◌+◌, ◌<◌, ◌≤◌, max, List, [], ◌∷◌, ◌++◌, map, Option, Some, None, option_map, refl, sym, ap, ◌∙◌, arith}
use Rattle.dy_tree.specs.declared.token.Token.{Token}
use Rattle.dy_tree.specs.declared.types.ConstantForm.{ConstantForm}
use Rattle.dy_rules.specs.SeenTypes.{seen_constant}
use Rattle.dy_rules.specs.ConstantTrees.{Constant, constants_of, tail_of}
use Rattle.dy_rules.specs.ConstantReading.{Inside, inside}
use Rattle.dy_rules.specs.Depth.{constant_depth, tail_depth}
use Rattle.dy_rules_depth.specs.Changes.{changed_constants, changed_tail}
use Rattle.dy_rules_depth.specs.Capping.{capping, capped_constant, filled_constant}
use Rattle.dy_rules_depth.proofs.DeepTrees.{constant_kept}
use Rattle.dy_rules_depth.proofs.Fills.{constant_filled}
use Rattle.dy_rules_depth.proofs.Options.{map_twice, option_twice}
use Rattle.dy_rules_depth.proofs.Rows.{constants_changed, tail_changed}
use Rattle.dy_rules_depth.proofs.SameNodes.{same_list_item, same_vector_item}
use Rattle.dy_rules_depth.proofs.Twice.{constant_twice}
use Rattle.dy_read_constants.specs.ConstantCaps.{read_constant, read_constants}
use Rattle.dy_read_constants.specs.declared.list_inside.ListInside.{ListInside}
use Rattle.dy_read_constants.specs.ConstantFronts.{read_inside, seen_inside, capped_inside, capped_items, capped_list, capped_vector, items_depth, inside_depth}
use Rattle.dy_read_constants.specs.ConstantShapes.{list_of, vector_of}

-- what is filled in is too deep

pub constants_same : (forms : List ConstantForm) → items_depth (read_constants forms) ≤ 200 → read_constants forms ≡ map seen_constant forms
constants_same [] h = refl
constants_same (first ∷ rest) h = ap (λ (it : Constant). it ∷ read_constants rest) (constant_filled (seen_constant first) (omega arith)) ∙ ap (λ (others : List Constant). seen_constant first ∷ others) (constants_same rest (omega arith))

pub tail_same : (last : Option ConstantForm) → tail_depth (tail_of (option_map read_constant last)) ≤ 200 → option_map read_constant last ≡ option_map seen_constant last
tail_same None h = refl
tail_same (Some form) h = ap Some (constant_filled (seen_constant form) h)

pub inside_same : (found : ListInside) → inside_depth (read_inside found) ≤ 200 → read_inside found ≡ seen_inside found
inside_same found h =
    ap (λ (items : List Constant). inside items (option_map read_constant found.last)) (constants_same found.items.items (omega arith))
    ∙ ap (λ (last : Option Constant). inside (map seen_constant found.items.items) last) (tail_same found.last (omega arith))

-- A list that is within the limit is read as it lies in memory, and it is one deeper than what stands in it.
pub list_kept : (opener : Token) (found : ListInside) (form : ConstantForm) → seen_constant form ≡ list_of opener (seen_inside found) → inside_depth (read_inside found) < 200 → read_constant form ≡ list_of opener (read_inside found)
list_kept opener found form e h = ap filled_constant e ∙ ap (list_of opener) (sym (inside_same found (omega arith)))

pub list_made : (opener : Token) (found : ListInside) (form : ConstantForm) → seen_constant form ≡ list_of opener (seen_inside found) → inside_depth (read_inside found) < 200 → read_constant form ≡ capped_list opener (read_inside found)
list_made opener found form e h = list_kept opener found form e h ∙ sym (constant_kept (list_of opener (read_inside found)) (omega arith))

pub list_deep : (opener : Token) (found : ListInside) (form : ConstantForm) → seen_constant form ≡ list_of opener (seen_inside found) → inside_depth (read_inside found) < 200 → constant_depth (read_constant form) ≡ inside_depth (read_inside found) + 1
list_deep opener found form e h = let same = ap constant_depth (list_kept opener found form e h) in omega arith

-- the same of a vector
pub vector_kept : (opener : Token) (forms : List ConstantForm) (form : ConstantForm) → seen_constant form ≡ vector_of opener (map seen_constant forms) → items_depth (read_constants forms) < 200 → read_constant form ≡ vector_of opener (read_constants forms)
vector_kept opener forms form e h = ap filled_constant e ∙ ap (vector_of opener) (sym (constants_same forms (omega arith)))

pub vector_made : (opener : Token) (forms : List ConstantForm) (form : ConstantForm) → seen_constant form ≡ vector_of opener (map seen_constant forms) → items_depth (read_constants forms) < 200 → read_constant form ≡ capped_vector opener (read_constants forms)
vector_made opener forms form e h = vector_kept opener forms form e h ∙ sym (constant_kept (vector_of opener (read_constants forms)) (omega arith))

pub vector_deep : (opener : Token) (forms : List ConstantForm) (form : ConstantForm) → seen_constant form ≡ vector_of opener (map seen_constant forms) → items_depth (read_constants forms) < 200 → constant_depth (read_constant form) ≡ items_depth (read_constants forms) + 1
vector_deep opener forms form e h = let same = ap constant_depth (vector_kept opener forms form e h) in omega arith

-- Capped parts are capped to the same.
pub items_capped : (items : List Constant) → changed_constants capping (constants_of (capped_items items)) ≡ changed_constants capping (constants_of items)
items_capped items = constants_changed (capped_items items) items (map_twice capped_constant constant_twice items)

pub tail_capped : (last : Option Constant) → changed_tail capping (tail_of (option_map capped_constant last)) ≡ changed_tail capping (tail_of last)
tail_capped last = tail_changed (option_map capped_constant last) last (option_twice capped_constant constant_twice last)

-- A list of constants is to the limit what the list of the capped constants is.
pub list_through : (opener : Token) (found : Option Inside) → option_map (capped_list opener) (option_map capped_inside found) ≡ option_map capped_constant (option_map (list_of opener) found)
list_through opener None = refl
list_through opener (Some found) =
    ap Some (same_list_item opener (constants_of (capped_items found.items)) (constants_of found.items) (tail_of (option_map capped_constant found.last)) (tail_of found.last) (items_capped found.items) (tail_capped found.last))

pub vector_through : (opener : Token) (found : Option (List Constant)) → option_map (capped_vector opener) (option_map capped_items found) ≡ option_map capped_constant (option_map (vector_of opener) found)
vector_through opener None = refl
vector_through opener (Some items) = ap Some (same_vector_item opener (constants_of (capped_items items)) (constants_of items) (items_capped items))

-- An item more is as deep as the deepest of them.
pub items_deeper : (items : List Constant) (value : Constant) → items_depth (items ++ value ∷ []) ≡ max (items_depth items) (constant_depth value)
items_deeper [] value = omega arith
items_deeper (first ∷ rest) value = let more = items_deeper rest value in omega arith
