-- Fragments as the reader asks for them: a token, or what stands between brackets of one sort.
use Rattle.std.specs.Prelude.{◌≡◌, ◌<◌, ⊤, List}
use Rattle.dy_tree.specs.declared.token.Token.{Token}
use Rattle.dy_tree.specs.Fragments.{SeenFragment, one, group, row, seen_fragments}
use Rattle.dy_tree.specs.declared.brackets.Bracket.{Bracket}
use Rattle.dy_rules.specs.Roles.{bracket_of}
use Rattle.dy_read_parts.specs.declared.part.Part.{Part}
use Rattle.dy_read_parts.specs.declared.part.Part.TheVariants as parts
use Rattle.dy_read_parts.specs.Nesting.{group_nesting, nesting}

pub data SeenPart : Type 0 where
  token_part : (token : Token) → SeenPart
  group_part : (bracket : Bracket) (opener : Token) (inner : List SeenFragment) → SeenPart

abbrev pub part_of : SeenFragment → SeenPart
part_of (one token) = token_part token
part_of (group opener inner closer) = group_part (bracket_of opener closer) opener (row inner)

abbrev pub seen_part : Part → SeenPart
seen_part (parts.One token) = token_part token.now
seen_part (parts.Group bracket opener inner) =
    group_part bracket opener.now (seen_fragments inner.now)

-- what stands inside is nested less deep
abbrev pub IsShallower : Part → SeenFragment → Type 0
IsShallower (parts.One token) fragment = ⊤
IsShallower (parts.Group bracket opener inner) fragment =
    nesting (seen_fragments inner.now) < group_nesting fragment
