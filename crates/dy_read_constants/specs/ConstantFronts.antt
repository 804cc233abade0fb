-- What is read of constants, and how deep it is.
use Rattle.std.specs.Prelude.{◌≡◌, ◌<◌, ◌≤◌, ℕ, max, ⊤, length, List, [], ◌∷◌, map, Option, Some}
use Rattle.std.specs.Prelude.{None, option_map}
use Rattle.std.specs.Global.{Vec}
use Rattle.dy_tree.specs.declared.token.Token.{Token}
use Rattle.dy_tree.specs.declared.types.ConstantForm.{ConstantForm}
use Rattle.dy_tree.specs.Fragments.{SeenFragment, seen_fragments}
use Rattle.dy_rules.specs.SeenTypes.{seen_constant}
use Rattle.dy_rules.specs.ConstantTrees.{Constant, constants_of, tail_of}
use Rattle.dy_rules.specs.ConstantReading.{Inside, inside}
use Rattle.dy_rules.specs.Depth.{constant_depth, constants_depth, tail_depth}
use Rattle.dy_read_constants.specs.declared.constant_front.ConstantFront.{ConstantFront}
use Rattle.dy_read_constants.specs.declared.list_inside.ListInside.{ListInside}
use Rattle.dy_rules_depth.specs.ReaderChanges.{changed_inside}
use Rattle.dy_rules_depth.specs.Capping.{capped_constant, capping}
use Rattle.dy_read_constants.specs.ConstantCaps.{read_constant, read_constants}
use Rattle.dy_read_constants.specs.ConstantShapes.{Front, list_of, vector_of}
use Rattle.dy_read_parts.specs.Nesting.{nesting}

abbrev pub read_front : ConstantFront → Front
read_front front = record
    { value = read_constant front.value; rest = seen_fragments front.rest.now }

abbrev pub read_inside : ListInside → Inside
read_inside found = inside (read_constants found.items.items) (option_map read_constant found.last)

-- the same as it lies in memory
abbrev pub seen_inside : ListInside → Inside
seen_inside found = inside (map seen_constant found.items.items)
    (option_map seen_constant found.last)

abbrev pub read_vector : Vec ConstantForm → List Constant
read_vector items = read_constants items.items

abbrev pub capped_front : Front → Front
capped_front front = record { value = capped_constant front.value; rest = front.rest }

abbrev pub capped_inside : Inside → Inside
capped_inside found = changed_inside capping found

abbrev pub capped_items : List Constant → List Constant
capped_items items = map capped_constant items

abbrev pub capped_list : Token → Inside → Constant
capped_list opener found = capped_constant (list_of opener found)

abbrev pub capped_vector : Token → List Constant → Constant
capped_vector opener items = capped_constant (vector_of opener items)

-- the constant that fragments are, with nothing behind it
abbrev pub if_whole : Constant → List SeenFragment → Option Constant
if_whole value [] = Some value
if_whole value (first ∷ rest) = None

abbrev pub whole : Front → Option Constant
whole front = if_whole front.value front.rest

-- how deep these are

abbrev pub items_depth : List Constant → ℕ
items_depth items = constants_depth (constants_of items)

abbrev pub inside_depth : Inside → ℕ
inside_depth found = max (items_depth found.items) (tail_depth (tail_of found.last))

abbrev pub front_depth : Front → ℕ
front_depth front = constant_depth front.value

-- how deep it is with what was read before, where something was read
abbrev pub Deepens : ℕ → ℕ → Option ℕ → Type 0
Deepens old new None = ⊤
Deepens old new (Some depth) = new ≡ max old depth

abbrev pub FrontDepth : ℕ → ℕ → Option ConstantFront → Type 0
FrontDepth old new found = Deepens old new (option_map front_depth (option_map read_front found))

abbrev pub ConstantDepth : ℕ → ℕ → Option ConstantForm → Type 0
ConstantDepth old new found =
    Deepens old new (option_map constant_depth (option_map read_constant found))

abbrev pub InsideDepth : ℕ → ℕ → Option ListInside → Type 0
InsideDepth old new found = Deepens old new (option_map inside_depth (option_map read_inside found))

abbrev pub VectorDepth : ℕ → ℕ → Option (Vec ConstantForm) → Type 0
VectorDepth old new found = Deepens old new (option_map items_depth (option_map read_vector found))

-- what stands behind is a part of fragments that are nested so deep, and shorter than this
abbrev pub RestWithin : ℕ → Option ConstantFront → Type 0
RestWithin n None = ⊤
RestWithin n (Some front) = nesting (seen_fragments front.rest.now) ≤ n

abbrev pub RestShorter : ℕ → Option ConstantFront → Type 0
RestShorter n None = ⊤
RestShorter n (Some front) = length front.rest.now < n
