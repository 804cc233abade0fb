-- What separates parts, as the reader asks for it.
use Rattle.std.specs.Prelude.{Bool}
use Rattle.dy_tree.specs.declared.token.Token.{Token}
use Rattle.dy_tree.specs.Fragments.{SeenFragment, one}
use Rattle.dy_rules.specs.Arguments.{is_comma_fragment}
use Rattle.dy_rules.specs.Cutting.{is_semicolon, is_arrow, is_splitter}
use Rattle.dy_read_parts.specs.declared.separator.Separator.{Separator}
use Rattle.dy_read_parts.specs.declared.separator.Separator.TheVariants as separators

abbrev pub separates : Separator → SeenFragment → Bool
separates separators.Comma = is_comma_fragment
separates separators.Semicolon = is_semicolon
separates separators.Arrow = is_arrow
separates (separators.Splitter words) = is_splitter words

abbrev pub separates_at : Separator → Token → Bool
separates_at separator token = separates separator (one token)
