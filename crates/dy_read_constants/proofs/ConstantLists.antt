-- A list is read item by item, each within the limit.
use Rattle.std.proofs.Common.{◌≡◌, ℕ, max, List, [], ◌∷◌, ◌++◌, Option, Some, None, option_map, option_and_then, refl, sym, ap, ◌∙◌, arith}
use Rattle.std.proofs.lemmas.List.{map-append}
use Rattle.dy_tree.specs.Fragments.{SeenFragment, one, group, pack}
use Rattle.dy_tree.specs.declared.roles.Role.{Role}
use Rattle.dy_tree.specs.declared.roles.Role.TheVariants as roles
use Rattle.dy_rules.specs.Roles.{role_of}
use Rattle.dy_rules.specs.ConstantTrees.{Constant}
use Rattle.dy_rules.specs.ConstantReading.{comes, after_sign, known, Listing, started, element, ending, Inside, inside, list_found, vector_found, behind_constant, listed, list_in, vector_in}
use Rattle.dy_rules.specs.Depth.{constant_depth}
use Rattle.dy_rules_depth.specs.Capping.{capped_constant, capping}
use Rattle.dy_rules_depth.specs.ReaderChanges.{changed_listing}
use Rattle.dy_rules_depth.proofs.ConstantsSame.{SameConstants, constants_more, list_found_same, constants_listed_same}
use Rattle.dy_rules_depth.proofs.Options.{then_same}
use Rattle.dy_rules_depth.proofs.Twice.{constant_twice}
use Rattle.dy_read_constants.specs.ConstantFronts.{capped_front, capped_inside, capped_items, if_whole, whole, items_depth, inside_depth, front_depth, Deepens}
use Rattle.dy_read_constants.specs.ConstantLists.{SeenNext, at_end, item_next, tail_next, no_next, first_item, next_by, behind_item, ends, list_from, with_tail, proper_by, proper}
use Rattle.dy_read_constants.specs.ConstantShapes.{Front, constant_front}
use Rattle.dy_read_constants.proofs.ConstantShapes.{item_read, tail_read}

-- from the front of a list on
pub list_first : (fragments : List SeenFragment) → list_in (pack fragments) ≡ list_from [] (first_item fragments)
list_first [] = refl
list_first (first ∷ rest) = refl

behind_by : (role : Role) (items : List Constant) (rest : List SeenFragment) → option_and_then list_found (option_and_then (λ next. listed next (pack rest)) (behind_constant role items)) ≡ list_from items (next_by role rest)
behind_by roles.Comma items rest = refl
behind_by roles.Dot items rest = refl
behind_by role items rest = refl

-- what stands behind an item
pub behind_read : (items : List Constant) (value : Constant) (rest : List SeenFragment) → ends (element items (known value)) rest ≡ list_from (items ++ value ∷ []) (behind_item rest)
behind_read items value [] = refl
behind_read items value (one token ∷ rest) = behind_by (role_of token) (items ++ value ∷ []) rest
behind_read items value (group opener inner closer ∷ rest) = refl

-- Nothing stands behind what stands behind the dot.
last_read : (items : List Constant) (value : Constant) (rest : List SeenFragment) → ends (ending items (known value)) rest ≡ option_map (with_tail items) (if_whole value rest)
last_read items value [] = refl
last_read items value (first ∷ rest) = refl

-- to the limit

abbrev SameInside : Option Inside → Option Inside → Type 0
SameInside found other = option_map capped_inside found ≡ option_map capped_inside other

ends_same : (listing other : Listing) (rest : List SeenFragment) → changed_listing capping listing ≡ changed_listing capping other → SameInside (ends listing rest) (ends other rest)
ends_same listing other rest e = then_same (changed_listing capping) capped_inside list_found list_found (listed listing (pack rest)) (listed other (pack rest)) list_found_same (constants_listed_same (pack rest) listing other e)

list_same : (items others : List Constant) (next : SeenNext) → SameConstants items others → SameInside (list_from items next) (list_from others next)
list_same items others at_end e = ap (λ (list : List Constant). Some (inside list None)) e
list_same items others (item_next rest) e = ends_same (element items comes) (element others comes) rest (ap (λ (list : List Constant). element list comes) e)
list_same items others (tail_next rest) e = ends_same (ending items comes) (ending others comes) rest (ap (λ (list : List Constant). ending list comes) e)
list_same items others no_next e = refl

item_on : (items : List Constant) (found : Option Front)
    → SameInside (option_and_then (λ front. ends (element items (known front.value)) front.rest) found) (option_and_then (λ front. list_from (items ++ front.value ∷ []) (behind_item front.rest)) (option_map capped_front found))
item_on items None = refl
item_on items (Some front) =
    ap (option_map capped_inside) (behind_read items front.value front.rest)
    ∙ list_same (items ++ front.value ∷ []) (items ++ capped_constant front.value ∷ []) (behind_item front.rest) (constants_more items items front.value (capped_constant front.value) refl (sym (constant_twice front.value)))

item_from : (items : List Constant) (fragments : List SeenFragment)
    → SameInside (list_from items (item_next fragments)) (option_and_then (λ front. list_from (items ++ front.value ∷ []) (behind_item front.rest)) (option_map capped_front (constant_front fragments)))
item_from items fragments = ap (option_map capped_inside) (item_read items fragments) ∙ item_on items (constant_front fragments)

-- an item is read, and then what stands behind it
pub item_step : (items after : List Constant) (fragments : List SeenFragment) (front : Front) → Some front ≡ option_map capped_front (constant_front fragments) → after ≡ items ++ front.value ∷ []
    → SameInside (list_from items (item_next fragments)) (list_from after (behind_item front.rest))
item_step items after fragments front e more =
    item_from items fragments ∙ ap (λ (found : Option Front). option_map capped_inside (option_and_then (λ front. list_from (items ++ front.value ∷ []) (behind_item front.rest)) found)) (sym e)
    ∙ ap (λ (list : List Constant). option_map capped_inside (list_from list (behind_item front.rest))) (sym more)

pub item_fails : (items : List Constant) (fragments : List SeenFragment) → None ≡ option_map capped_front (constant_front fragments) → option_map capped_inside (list_from items (item_next fragments)) ≡ None
item_fails items fragments e =
    item_from items fragments ∙ ap (λ (found : Option Front). option_map capped_inside (option_and_then (λ front. list_from (items ++ front.value ∷ []) (behind_item front.rest)) found)) (sym e)

tail_if : (items : List Constant) (value : Constant) (rest : List SeenFragment) → option_map capped_inside (option_map (with_tail items) (if_whole value rest)) ≡ option_map (with_tail (capped_items items)) (if_whole (capped_constant value) rest)
tail_if items value [] = refl
tail_if items value (first ∷ rest) = refl

tail_on : (items : List Constant) (found : Option Front)
    → option_map capped_inside (option_and_then (λ front. ends (ending items (known front.value)) front.rest) found) ≡ option_map (with_tail (capped_items items)) (option_and_then whole (option_map capped_front found))
tail_on items None = refl
tail_on items (Some front) = ap (option_map capped_inside) (last_read items front.value front.rest) ∙ tail_if items front.value front.rest

-- what stands behind the dot is read
pub tail_step : (items : List Constant) (fragments : List SeenFragment) → option_map capped_inside (list_from items (tail_next fragments)) ≡ option_map (with_tail (capped_items items)) (option_and_then whole (option_map capped_front (constant_front fragments)))
tail_step items fragments = ap (option_map capped_inside) (tail_read items fragments) ∙ tail_on items (constant_front fragments)

-- Items that were capped are not capped again.
front_twice : (front : Front) (found : Option Front) → Some front ≡ option_map capped_front found → capped_constant front.value ≡ front.value
front_twice front None e = absurd cc
front_twice front (Some found) e = let is : front.value ≡ capped_constant found.value = cc in ap capped_constant is ∙ constant_twice found.value ∙ sym is

pub items_twice : (items after : List Constant) (found : Option Front) (front : Front) → Some front ≡ option_map capped_front found → after ≡ items ++ front.value ∷ [] → capped_items items ≡ items → capped_items after ≡ after
items_twice items after found front e more same = let twice : capped_constant front.value ≡ front.value = front_twice front found e in cc (map-append capped_constant items (front.value ∷ []))

-- a vector is a list with no dot

proper_found : (listing : Listing) → vector_found listing ≡ option_and_then proper (list_found listing)
proper_found started = refl
proper_found (element items comes) = refl
proper_found (element items (after_sign sign)) = refl
proper_found (element items (known value)) = refl
proper_found (ending items comes) = refl
proper_found (ending items (after_sign sign)) = refl
proper_found (ending items (known value)) = refl

proper_of : (found : Option Listing) → option_and_then vector_found found ≡ option_and_then proper (option_and_then list_found found)
proper_of None = refl
proper_of (Some listing) = proper_found listing

proper_if : (items : List Constant) (last : Option Constant) → proper_by (capped_items items) (option_map capped_constant last) ≡ option_map capped_items (proper_by items last)
proper_if items None = refl
proper_if items (Some last) = refl

proper_changed : (found : Option Inside) → option_and_then proper (option_map capped_inside found) ≡ option_map capped_items (option_and_then proper found)
proper_changed None = refl
proper_changed (Some found) = proper_if found.items found.last

pub vector_is : (fragments : List SeenFragment) → option_and_then proper (option_map capped_inside (list_in (pack fragments))) ≡ option_map capped_items (vector_in (pack fragments))
vector_is fragments = proper_changed (list_in (pack fragments)) ∙ ap (option_map capped_items) (sym (proper_of (listed started (pack fragments))))

-- how deep it is

proper_deeper : (items : List Constant) (last : Option Constant) (old new : ℕ) → Deepens old new (Some (inside_depth (inside items last))) → Deepens old new (option_map items_depth (proper_by items last))
proper_deeper items None old new h = omega arith
proper_deeper items (Some last) old new h = tt

pub vector_depth : (found : Option Inside) (old new : ℕ) → Deepens old new (option_map inside_depth found) → Deepens old new (option_map items_depth (option_and_then proper found))
vector_depth None old new h = tt
vector_depth (Some found) old new h = proper_deeper found.items found.last old new h

whole_if_depth : (value : Constant) (rest : List SeenFragment) (old new : ℕ) → Deepens old new (Some (constant_depth value)) → Deepens old new (option_map constant_depth (if_whole value rest))
whole_if_depth value [] old new h = h
whole_if_depth value (first ∷ rest) old new h = tt

whole_depth : (found : Option Front) (old new : ℕ) → Deepens old new (option_map front_depth found) → Deepens old new (option_map constant_depth (option_and_then whole found))
whole_depth None old new h = tt
whole_depth (Some front) old new h = whole_if_depth front.value front.rest old new h

last_depth : (items : List Constant) (last : Option Constant) (old middle new : ℕ) → middle ≡ max old (items_depth items) → Deepens middle new (option_map constant_depth last) → Deepens old new (option_map inside_depth (option_map (with_tail items) last))
last_depth items None old middle new e h = tt
last_depth items (Some last) old middle new e h = omega arith

-- of a list with what stands behind its dot
pub tail_depth_is : (items : List Constant) (found : Option Front) (old middle new : ℕ) → middle ≡ max old (items_depth items) → Deepens middle new (option_map front_depth found)
    → Deepens old new (option_map inside_depth (option_map (with_tail items) (option_and_then whole found)))
tail_depth_is items found old middle new e h = last_depth items (option_and_then whole found) old middle new e (whole_depth found middle new h)
