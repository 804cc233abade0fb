-- Types at the front, as the reader gives them.
use Rattle.std.specs.Prelude.{◌≡◌, ℕ, max, ⊤, List, map, Option, Some, None}
use Rattle.std.specs.Global.{Vec}
use Rattle.dy_tree.specs.declared.types.TypeForm.{TypeForm}
use Rattle.dy_tree.specs.Fragments.{seen_fragments}
use Rattle.dy_rules.specs.Types.{TypeTree, types_of}
use Rattle.dy_rules.specs.Depth.{type_depth, types_depth}
use Rattle.dy_rules.specs.TypeReading as reading
use Rattle.dy_rules.specs.TypeReading.{union_of}
use Rattle.dy_tree.specs.declared.token.Token.{Token}
use Rattle.dy_rules.specs.Fragments.{items_of}
use Rattle.dy_read_types.specs.declared.types.TypeFront.{TypeFront}
use Rattle.dy_rules_depth.specs.Capping.{capped_type}
use Rattle.dy_read_types.specs.TypeCaps.{read_type, read_types}

abbrev pub seen_front : TypeFront → reading.TypeFront
seen_front front = record
    { type = read_type front.declared; rest = items_of (seen_fragments front.rest.now) }

abbrev pub capped_front : reading.TypeFront → reading.TypeFront
capped_front front = record { type = capped_type front.type; rest = front.rest }

abbrev pub capped_types : List TypeTree → List TypeTree
capped_types types = map capped_type types

abbrev pub seen_types : Vec TypeForm → List TypeTree
seen_types types = read_types types.items

-- how deep it is with what was read before
abbrev pub FrontDepth : ℕ → ℕ → Option TypeFront → Type 0
FrontDepth old new None = ⊤
FrontDepth old new (Some front) = new ≡ max old (type_depth (read_type front.declared))

abbrev pub TypeDepth : ℕ → ℕ → Option TypeForm → Type 0
TypeDepth old new None = ⊤
TypeDepth old new (Some form) = new ≡ max old (type_depth (read_type form))

abbrev pub TypesDepth : ℕ → ℕ → Option (Vec TypeForm) → Type 0
TypesDepth old new None = ⊤
TypesDepth old new (Some forms) = new ≡ max old (types_depth (types_of (read_types forms.items)))

abbrev pub capped_union : Token → List TypeTree → TypeTree
capped_union word types = capped_type (union_of word types)
