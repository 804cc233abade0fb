-- Constants are read the same to the limit, whatever stands in the place of those that are too deep.
use Rattle.std.proofs.Common.{◌≡◌, List, [], ◌∷◌, ◌++◌, map, Option, Some, None, option_map, option_and_then, refl, ap}
use Rattle.std.proofs.lemmas.List.{map-append}
use Rattle.dy_tree.specs.declared.token.Token.{Token}
use Rattle.dy_tree.specs.Fragments.{SeenFragments, no_fragment, fragment_and}
use Rattle.dy_tree.specs.declared.roles.Role.{Role}
use Rattle.dy_tree.specs.declared.roles.Role.TheVariants as roles
use Rattle.dy_tree.specs.declared.brackets.Bracket.{Bracket}
use Rattle.dy_tree.specs.declared.brackets.Bracket.TheVariants as brackets
use Rattle.dy_rules.specs.ConstantTrees.{Constant, constants_of, tail_of}
use Rattle.dy_rules.specs.Roles.{role_of}
use Rattle.dy_rules.specs.ConstantReading.{Element, comes, after_sign, known, Listing, started, element, ending, Inside, inside, list_found, vector_found, ConstantItem, token_of, group_of, known_list, known_vector, group_element, element_step, behind_constant, listing_step, constant_item, listed}
use Rattle.dy_rules_depth.specs.ReaderChanges.{changed_element, changed_listing, changed_inside, changed_constant_item}
use Rattle.dy_rules_depth.specs.Capping.{capped_constant, capping}
use Rattle.dy_rules_depth.proofs.Options.{lifted, map_twice, option_twice, map_same, then_same}
use Rattle.dy_rules_depth.proofs.Twice.{constant_twice, listing_twice}
use Rattle.dy_rules_depth.proofs.SameNodes.{same_list_item, same_vector_item}
use Rattle.dy_rules_depth.proofs.Rows.{constants_changed, tail_changed}

abbrev pub SameElement : Option Element → Option Element → Type 0
SameElement state other = option_map (changed_element capping) state ≡ option_map (changed_element capping) other

abbrev pub SameListing : Option Listing → Option Listing → Type 0
SameListing listing other = option_map (changed_listing capping) listing ≡ option_map (changed_listing capping) other

abbrev pub SameConstants : List Constant → List Constant → Type 0
SameConstants items others = map capped_constant items ≡ map capped_constant others

constants_twice : (items : List Constant) → SameConstants (map capped_constant items) items
constants_twice items = map_twice capped_constant constant_twice items

pub constants_more : (items others : List Constant) (value other : Constant) → SameConstants items others → capped_constant value ≡ capped_constant other → SameConstants (items ++ value ∷ []) (others ++ other ∷ [])
constants_more items others value other e f = cc (map-append capped_constant items (value ∷ []), map-append capped_constant others (other ∷ []))

-- what was read inside of a list or of a vector

pub list_found_on : (listing : Listing) → option_map (changed_inside capping) (list_found (changed_listing capping listing)) ≡ option_map (changed_inside capping) (list_found listing)
list_found_on started = refl
list_found_on (element items comes) = refl
list_found_on (element items (after_sign sign)) = refl
list_found_on (element items (known value)) = ap (λ found. Some (inside found None)) (constants_more (map capped_constant items) items (capped_constant value) value (constants_twice items) (constant_twice value))
list_found_on (ending items comes) = refl
list_found_on (ending items (after_sign sign)) = refl
list_found_on (ending items (known value)) = cc (constants_twice items, constant_twice value)

pub list_found_same : (listing other : Listing) → changed_listing capping listing ≡ changed_listing capping other → option_map (changed_inside capping) (list_found listing) ≡ option_map (changed_inside capping) (list_found other)
list_found_same listing other e = lifted (changed_listing capping) (option_map (changed_inside capping)) list_found list_found_on listing other e

pub vector_found_on : (listing : Listing) → option_map (map capped_constant) (vector_found (changed_listing capping listing)) ≡ option_map (map capped_constant) (vector_found listing)
vector_found_on started = refl
vector_found_on (element items comes) = refl
vector_found_on (element items (after_sign sign)) = refl
vector_found_on (element items (known value)) = ap Some (constants_more (map capped_constant items) items (capped_constant value) value (constants_twice items) (constant_twice value))
vector_found_on (ending items comes) = refl
vector_found_on (ending items (after_sign sign)) = refl
vector_found_on (ending items (known value)) = refl

pub vector_found_same : (listing other : Listing) → changed_listing capping listing ≡ changed_listing capping other → option_map (map capped_constant) (vector_found listing) ≡ option_map (map capped_constant) (vector_found other)
vector_found_same listing other e = lifted (changed_listing capping) (option_map (map capped_constant)) vector_found vector_found_on listing other e

-- an item

pub known_list_same : (opener : Token) (found other : Inside) → changed_inside capping found ≡ changed_inside capping other → changed_element capping (known_list opener found) ≡ changed_element capping (known_list opener other)
known_list_same opener found other e =
    ap known (same_list_item opener (constants_of found.items) (constants_of other.items) (tail_of found.last) (tail_of other.last) (constants_changed found.items other.items (ap (λ (i : Inside). i.items) e)) (tail_changed found.last other.last (ap (λ (i : Inside). i.last) e)))

pub known_vector_same : (opener : Token) (items others : List Constant) → SameConstants items others → changed_element capping (known_vector opener items) ≡ changed_element capping (known_vector opener others)
known_vector_same opener items others e = ap known (same_vector_item opener (constants_of items) (constants_of others) (constants_changed items others e))

pub group_element_same : (kind : Bracket) (opener : Token) (found other : Option Listing) → SameListing found other → SameElement (group_element kind opener found) (group_element kind opener other)
group_element_same brackets.SharpRound opener found other e =
    map_same (changed_inside capping) (changed_element capping) (known_list opener) (known_list opener) (option_and_then list_found found) (option_and_then list_found other) (known_list_same opener)
    (then_same (changed_listing capping) (changed_inside capping) list_found list_found found other list_found_same e)
group_element_same brackets.SharpSquare opener found other e =
    map_same (map capped_constant) (changed_element capping) (known_vector opener) (known_vector opener) (option_and_then vector_found found) (option_and_then vector_found other) (known_vector_same opener)
    (then_same (changed_listing capping) (map capped_constant) vector_found vector_found found other vector_found_same e)
group_element_same kind opener found other e = refl

pub element_on : (state : Element) (item : ConstantItem) → SameElement (element_step (changed_element capping state) (changed_constant_item capping item)) (element_step state item)
element_on comes (token_of token) = refl
element_on comes (group_of kind opener found) = group_element_same kind opener (option_map (changed_listing capping) found) found (option_twice (changed_listing capping) listing_twice found)
element_on (after_sign sign) (token_of token) = refl
element_on (after_sign sign) (group_of kind opener found) = refl
element_on (known value) item = refl

pub element_same : (state other : Element) (item rest : ConstantItem) → changed_element capping state ≡ changed_element capping other → changed_constant_item capping item ≡ changed_constant_item capping rest → SameElement (element_step state item) (element_step other rest)
element_same state other item rest e f = cc (element_on state item, element_on other rest)

behind_constant_same : (role : Role) (items others : List Constant) → SameConstants items others → SameListing (behind_constant role items) (behind_constant role others)
behind_constant_same roles.Comma items others e = cc
behind_constant_same roles.Dot items others e = cc
behind_constant_same role items others e = refl

in_list : (items others : List Constant) (state other : Option Element) → SameConstants items others → SameElement state other → SameListing (option_map (element items) state) (option_map (element others) other)
in_list items others state other e f = map_same (changed_element capping) (changed_listing capping) (element items) (element others) state other (λ s t g. cc) f

at_end : (items others : List Constant) (state other : Option Element) → SameConstants items others → SameElement state other → SameListing (option_map (ending items) state) (option_map (ending others) other)
at_end items others state other e f = map_same (changed_element capping) (changed_listing capping) (ending items) (ending others) state other (λ s t g. cc) f

pub listing_on : (listing : Listing) (item : ConstantItem) → SameListing (listing_step (changed_listing capping listing) (changed_constant_item capping item)) (listing_step listing item)
listing_on started item = in_list [] [] (element_step comes (changed_constant_item capping item)) (element_step comes item) refl (element_on comes item)
listing_on (element items (known value)) (token_of token) =
    behind_constant_same (role_of token) (map capped_constant items ++ capped_constant value ∷ []) (items ++ value ∷ []) (constants_more (map capped_constant items) items (capped_constant value) value (constants_twice items) (constant_twice value))
listing_on (element items (known value)) (group_of kind opener found) = refl
listing_on (element items comes) item = in_list (map capped_constant items) items (element_step comes (changed_constant_item capping item)) (element_step comes item) (constants_twice items) (element_on comes item)
listing_on (element items (after_sign sign)) item =
    in_list (map capped_constant items) items (element_step (after_sign sign) (changed_constant_item capping item)) (element_step (after_sign sign) item) (constants_twice items) (element_on (after_sign sign) item)
listing_on (ending items state) item =
    at_end (map capped_constant items) items (element_step (changed_element capping state) (changed_constant_item capping item)) (element_step state item) (constants_twice items) (element_on state item)

pub listing_same : (listing other : Listing) (item rest : ConstantItem) → changed_listing capping listing ≡ changed_listing capping other → changed_constant_item capping item ≡ changed_constant_item capping rest
    → SameListing (listing_step listing item) (listing_step other rest)
listing_same listing other item rest e f = cc (listing_on listing item, listing_on other rest)

-- the inside of a group

pub constants_listed_same : (inner : SeenFragments) (listing other : Listing) → changed_listing capping listing ≡ changed_listing capping other → SameListing (listed listing inner) (listed other inner)
constants_listed_same no_fragment listing other e = ap Some e
constants_listed_same (fragment_and first rest) listing other e =
    then_same (changed_listing capping) (changed_listing capping) (λ next. listed next rest) (λ next. listed next rest) (listing_step listing (constant_item first)) (listing_step other (constant_item first))
    (constants_listed_same rest) (listing_same listing other (constant_item first) (constant_item first) e refl)
