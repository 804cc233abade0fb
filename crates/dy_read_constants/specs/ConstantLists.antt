-- What comes next in a list, and the list that is read from there on.
use Rattle.std.specs.Prelude.{◌≤◌, ⊤, ℕ, suc, length, List, [], ◌∷◌, Option, Some, None}
use Rattle.std.specs.Prelude.{option_and_then}
use Rattle.dy_tree.specs.Fragments.{SeenFragment, pack, seen_fragments}
use Rattle.dy_tree.specs.declared.roles.Role.{Role}
use Rattle.dy_tree.specs.declared.roles.Role.TheVariants as roles
use Rattle.dy_rules.specs.Roles.{role_of}
use Rattle.dy_rules.specs.ConstantTrees.{Constant}
use Rattle.dy_rules.specs.ConstantReading.{comes, Listing, element, ending, Inside, inside}
use Rattle.dy_rules.specs.ConstantReading.{list_found, listed}
use Rattle.dy_read_constants.specs.declared.list_next.ListNext.{ListNext}
use Rattle.dy_read_constants.specs.declared.list_next.ListNext.TheVariants as nexts
use Rattle.dy_read_parts.specs.FragmentParts.{SeenPart, token_part, group_part, part_of}
use Rattle.dy_read_parts.specs.Nesting.{nesting}

pub data SeenNext : Type 0 where
  at_end : SeenNext
  item_next : (fragments : List SeenFragment) → SeenNext
  tail_next : (fragments : List SeenFragment) → SeenNext
  no_next : SeenNext

abbrev pub seen_next : ListNext → SeenNext
seen_next nexts.End = at_end
seen_next (nexts.Item fragments) = item_next (seen_fragments fragments.now)
seen_next (nexts.Tail fragments) = tail_next (seen_fragments fragments.now)
seen_next nexts.Other = no_next

abbrev pub first_item : List SeenFragment → SeenNext
first_item [] = at_end
first_item (first ∷ rest) = item_next (first ∷ rest)

abbrev pub next_by : Role → List SeenFragment → SeenNext
next_by roles.Comma rest = item_next rest
next_by roles.Dot rest = tail_next rest
next_by _ rest = no_next

abbrev pub next_at : SeenPart → List SeenFragment → SeenNext
next_at (token_part token) rest = next_by (role_of token) rest
next_at (group_part bracket opener inner) rest = no_next

abbrev pub behind_item : List SeenFragment → SeenNext
behind_item [] = at_end
behind_item (first ∷ rest) = next_at (part_of first) rest

-- what is still to be read is nested at most so deep
abbrev pub IsNextWithin : ℕ → ListNext → Type 0
IsNextWithin n nexts.End = ⊤
IsNextWithin n (nexts.Item fragments) = nesting (seen_fragments fragments.now) ≤ n
IsNextWithin n (nexts.Tail fragments) = nesting (seen_fragments fragments.now) ≤ n
IsNextWithin n nexts.Other = ⊤

-- how many fragments are left for items, with one more where an item comes
abbrev pub items_left : ListNext → ℕ
items_left nexts.End = 0
items_left (nexts.Item fragments) = suc (length fragments.now)
items_left (nexts.Tail fragments) = 0
items_left nexts.Other = 0

-- the list that is read of fragments, from here on
abbrev pub ends : Listing → List SeenFragment → Option Inside
ends listing fragments = option_and_then list_found (listed listing (pack fragments))

-- the list, where these items were read before
abbrev pub list_from : List Constant → SeenNext → Option Inside
list_from items at_end = Some (inside items None)
list_from items (item_next fragments) = ends (element items comes) fragments
list_from items (tail_next fragments) = ends (ending items comes) fragments
list_from items no_next = None

-- a list with something behind its dot
abbrev pub with_tail : List Constant → Constant → Inside
with_tail items last = inside items (Some last)

abbrev pub proper_by : List Constant → Option Constant → Option (List Constant)
proper_by items None = Some items
proper_by items (Some last) = None

-- the items of a list with nothing behind a dot
abbrev pub proper : Inside → Option (List Constant)
proper found = proper_by found.items found.last
