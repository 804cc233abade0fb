-- The alternatives of an `if`, as they are read.
use Rattle.std.specs.Prelude.{◌≡◌, ⊤, ℕ, max, List, [], ◌∷◌, ◌++◌, map, Option, Some, None}
use Rattle.std.specs.Prelude.{option_map, option_and_then}
use Rattle.std.specs.Global.{Vec}
use Rattle.dy_tree.specs.declared.expression.Alternative.{Alternative}
use Rattle.dy_tree.specs.declared.expression.Item.{Item}
use Rattle.dy_tree.specs.declared.token.Token.{Token}
use Rattle.dy_tree.specs.declared.splitters.Splitting.TheVariants as splittings
use Rattle.dy_rules.specs.Bodies.{body_items}
use Rattle.dy_rules.specs.Cutting as cutting
use Rattle.dy_rules.specs.Depth.{body_depth, alternative_depth, alternatives_depth, otherwise_depth}
use Rattle.dy_rules.specs.StatementReading.{Tested, tested, Others, if_of}
use Rattle.dy_rules.specs.Trees as trees
use Rattle.dy_rules.specs.Trees.{Tree, ItemTree, body_of, alternative, alternatives_of}
use Rattle.dy_rules.specs.Trees.{otherwise}
use Rattle.dy_rules_depth.specs.Changes.{changed_alternative}
use Rattle.dy_rules_depth.specs.Capping.{capped, capping}
use Rattle.dy_read_arms.specs.ReadBodies.{read_items, read_last}
use Rattle.dy_read_outers.specs.ReadTrees.{read_tree}

abbrev pub read_alternative : Alternative → trees.Alternative
read_alternative form = alternative (read_tree form.test) (body_of (read_items form.body))

-- how deep it is with what was read before
abbrev pub AlternativeDepth : ℕ → ℕ → Option Alternative → Type 0
AlternativeDepth old new None = ⊤
AlternativeDepth old new (Some form) = new ≡ max old (alternative_depth (read_alternative form))

abbrev pub others_of : List Alternative → Option (Vec Item) → Others
others_of alternatives last =
    record { trees = map read_alternative alternatives; last = read_last last }

abbrev pub others_depth : Others → ℕ
others_depth others = max (alternatives_depth (alternatives_of others.trees))
    (otherwise_depth others.last)

-- the last body, behind alternatives that are so deep
abbrev pub LastDepth : ℕ → List Alternative → Option (Vec Item) → Type 0
LastDepth n alternatives None = ⊤
LastDepth n alternatives (Some body) =
    n ≡ max (alternatives_depth (alternatives_of (map read_alternative alternatives)))
    (body_depth (body_of (read_items body)))

-- what stands behind an `elseif`
abbrev pub alternative_of : Tree → List ItemTree → trees.Alternative
alternative_of test trees = alternative test (body_of trees)

abbrev pub alternative_behind : Tested → Option trees.Alternative
alternative_behind head =
    option_map (alternative_of head.test) (body_items splittings.Branches head.rest)

abbrev pub alternative_items : List cutting.Item → Option trees.Alternative
alternative_items items = option_and_then alternative_behind (tested items)

abbrev pub capped_alternative : trees.Alternative → trees.Alternative
capped_alternative form = changed_alternative capping form

-- more in front of what was read
abbrev pub others_before : List trees.Alternative → Others → Others
others_before before others = record { trees = before ++ others.trees; last = others.last }

abbrev pub others_behind : Option Others → trees.Alternative → Option Others
others_behind others form = option_map (others_before (form ∷ [])) others

-- alternatives, and the body behind the `else`
abbrev pub others_with : List trees.Alternative → List ItemTree → Others
others_with before trees = record { trees = before; last = otherwise (body_of trees) }

abbrev pub capped_if : Token → Tree → List ItemTree → Others → Tree
capped_if word test trees others = capped (if_of word test trees others)
