-- What an operand will be a part of, as the reader's stack holds it.
use Rattle.std.specs.Prelude.{◌≡◌, ◌-◌, ℕ, Bool, true, false, nat_lt, List, [], ◌∷◌, length, Option}
use Rattle.std.specs.Prelude.{Some, None}
use Rattle.std.specs.List.{slice_get}
use Rattle.dy_tree.specs.declared.token.Token.{Token}
use Rattle.dy_tree.specs.declared.types.LiteralForm.{LiteralForm}
use Rattle.dy_tree.specs.declared.roles.Role.{Role}
use Rattle.dy_tree.specs.declared.roles.Role.TheVariants as roles
use Rattle.dy_rules.specs.Operators.{below}
use Rattle.dy_rules.specs.Trees as trees
use Rattle.dy_rules.specs.Trees.{Tree}
use Rattle.dy_rules.specs.Roles.{role_of, positive, negative}
use Rattle.dy_rules.specs.Reading as reading
use Rattle.dy_rules.specs.Reading.{whole}
use Rattle.dy_read_outers.specs.declared.outer.Entry.{Entry}
use Rattle.dy_read_outers.specs.declared.outer.Entry.TheVariants as entries
use Rattle.dy_read_outers.specs.declared.outer.Outer.{Outer}
use Rattle.dy_read_outers.specs.Grown.{read_grown}

-- an entry more, with this outside of it
abbrev pub wrapped : Entry → reading.Outer → reading.Outer
wrapped (entries.Operated precedence left sign) outer =
    reading.operated precedence (read_grown left) sign outer
wrapped (entries.Under sign) outer = reading.under sign outer
wrapped (entries.Assigned place sign) outer = reading.assigned (read_grown place) outer

-- The innermost entry is the last one.
abbrev pub outer_from : reading.Outer → List Entry → reading.Outer
outer_from outer [] = outer
outer_from outer (entry ∷ rest) = outer_from (wrapped entry outer) rest

abbrev pub seen_outer : Outer → reading.Outer
seen_outer outer = outer_from whole outer.entries.items

-- the tree that an entry makes of the one inside of it
abbrev pub closed : Entry → Tree → Tree
closed (entries.Operated precedence left sign) tree =
    trees.operation precedence (read_grown left) sign tree
closed (entries.Under sign) tree = trees.unary sign tree
closed (entries.Assigned place sign) tree = trees.assignment (read_grown place) tree

-- An operation that binds tighter than so many levels is whole, and so is a unary one.
abbrev pub is_tighter : ℕ → Entry → Bool
is_tighter height (entries.Operated precedence left sign) = nat_lt (below precedence) height
is_tighter height (entries.Under sign) = true
is_tighter height (entries.Assigned place sign) = false

abbrev pub is_minus : Role → Bool
is_minus roles.Minus = true
is_minus _ = false

abbrev pub is_under_minus : Entry → Bool
is_under_minus (entries.Operated precedence left sign) = false
is_under_minus (entries.Under sign) = is_minus (role_of sign)
is_under_minus (entries.Assigned place sign) = false

abbrev pub holds : (Entry → Bool) → Option Entry → Bool
holds test None = false
holds test (Some entry) = test entry

-- a test of the innermost entry
abbrev pub holds_last : (Entry → Bool) → List Entry → Bool
holds_last test stack = holds test (slice_get stack (length stack - 1))

-- The innermost entry was taken, or there was none.
abbrev pub Pops : reading.Outer → Option Entry → reading.Outer → Type 0
Pops old None new = (old ≡ whole) × (new ≡ whole)
Pops old (Some entry) new = old ≡ wrapped entry new

-- The same of an entry that is whole before an operation of so many levels.
abbrev pub PopsTighter : ℕ → reading.Outer → Option Entry → reading.Outer → Type 0
PopsTighter height old None new = (new ≡ old)
    × ((tree : Tree) → reading.reduced height tree old ≡ (tree, old))
PopsTighter height old (Some entry) new = (old ≡ wrapped entry new)
    × (is_tighter height entry ≡ true)

-- an integer with the sign that was taken
abbrev pub signed : Option Token → Token → LiteralForm
signed None digits = positive digits
signed (Some sign) digits = negative sign digits

-- A minus was taken that an integer takes in.
abbrev pub PopsMinus : reading.Outer → Option Token → reading.Outer → Type 0
PopsMinus old sign new = (digits : Token)
    → reading.integer_part digits old ≡ (trees.literal (signed sign digits), new)

-- how many entries are left
abbrev pub left : Outer → ℕ
left outer = length outer.entries.items

-- the sign that an entry is
abbrev pub minus_in : Option Entry → Option Token
minus_in (Some (entries.Under sign)) = Some sign
minus_in _ = None
