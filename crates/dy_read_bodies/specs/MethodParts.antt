-- Methods, put together of their parts.
use Rattle.std.specs.Prelude.{◌≤◌, ℕ, ⊤, List, Option, Some, None, option_map}
use Rattle.dy_tree.specs.declared.token.Token.{Token}
use Rattle.dy_tree.specs.Fragments.{seen_fragments}
use Rattle.dy_rules.specs.Cutting as cutting
use Rattle.dy_rules.specs.Cutting.{NamedFound}
use Rattle.dy_rules.specs.Fragments.{items_of}
use Rattle.dy_rules.specs.Signatures.{named_of, method_items}
use Rattle.dy_rules.specs.Trees.{Parameters, ItemTree}
use Rattle.dy_read_bodies.specs.declared.methods.NameFront.{NameFront}
use Rattle.dy_read_parts.specs.Nesting.{nesting}
use Rattle.dy_read_statements.specs.ReadMethods.{MethodParts, NamedParts}

abbrev pub with_trees : Parameters → List ItemTree → MethodParts
with_trees signature trees = record { signature = signature; trees = trees }

abbrev pub with_name : Token → MethodParts → NamedParts
with_name token method = record { token = token; method = method }

-- the method behind a name
abbrev pub named_by : Option Token → List cutting.Item → Option NamedFound
named_by None rest = None
named_by (Some token) rest = option_map (named_of token) (method_items rest)

abbrev pub name_read : Option NameFront → Option NamedFound
name_read None = None
name_read (Some front) = option_map (named_of front.name.now)
    (method_items (items_of (seen_fragments front.rest.now)))

-- what stands behind the name is nested at most so deep
abbrev pub IsNameWithin : ℕ → Option NameFront → Type 0
IsNameWithin n None = ⊤
IsNameWithin n (Some front) = nesting (seen_fragments front.rest.now) ≤ n
