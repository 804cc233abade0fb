-- One tree in the place of all that are too deep.
use Rattle.std.specs.Prelude.{ℕ, zero, suc, Bool, true, false, nat_lt, if◌then◌else◌, []}
use Rattle.dy_tree.specs.declared.token.TokenKind.{TokenKind}
use Rattle.dy_tree.specs.declared.token.TokenKind.TheVariants as kinds
use Rattle.dy_tree.specs.declared.token.Token.{Token}
use Rattle.dy_tree.specs.declared.types.LiteralForm.{LiteralForm}
use Rattle.dy_tree.specs.declared.types.LiteralForm.TheVariants as literals
use Rattle.dy_rules.specs.ConstantTrees.{Constant, literal_item, vector_item, no_constant}
use Rattle.dy_rules.specs.ConstantTrees.{constant_and}
use Rattle.dy_rules.specs.Types.{TypeTree, named_type, union_type, no_type, type_and}
use Rattle.dy_rules.specs.Trees.{Tree, unary, name}
use Rattle.dy_rules.specs.Depth.{depth, type_depth, constant_depth, depth_limit}
use Rattle.dy_rules.specs.Marks.{made}
use Rattle.dy_rules_depth.specs.Changes.{Change}

-- a token that no text has where a name stands
unfoldable pub absent_token : Token
absent_token = made kinds.PatternVar []

abbrev pub is_absent_kind : TokenKind → Bool
is_absent_kind kinds.PatternVar = true
is_absent_kind _ = false

abbrev pub is_absent : Token → Bool
is_absent token = is_absent_kind token.kind

-- trees that are one deeper than so many levels
unfoldable pub nested : ℕ → Tree
nested zero = name absent_token
nested (suc levels) = unary absent_token (nested levels)

unfoldable pub nested_type : ℕ → TypeTree
nested_type zero = named_type absent_token
nested_type (suc levels) = union_type absent_token (type_and (nested_type levels) no_type)

unfoldable pub nested_constant : ℕ → Constant
nested_constant zero = literal_item (literals.Symbol absent_token)
nested_constant (suc levels) =
    vector_item absent_token (constant_and (nested_constant levels) no_constant)

-- trees that are one deeper than the limit
unfoldable pub deep_tree : Tree
deep_tree = nested depth_limit

unfoldable pub deep_type : TypeTree
deep_type = nested_type depth_limit

unfoldable pub deep_constant : Constant
deep_constant = nested_constant depth_limit

-- a tree that is within the limit, and else the deep one
unfoldable pub capped : Tree → Tree
capped tree = if nat_lt depth_limit (depth tree) then deep_tree else tree

unfoldable pub capped_type : TypeTree → TypeTree
capped_type type = if nat_lt depth_limit (type_depth type) then deep_type else type

unfoldable pub capped_constant : Constant → Constant
capped_constant constant =
    if nat_lt depth_limit (constant_depth constant) then deep_constant else constant

abbrev pub capping : Change
capping = record { on_tree = capped; on_type = capped_type; on_constant = capped_constant }

-- The deep tree stands where a name says that a tree is absent.
abbrev pub filled : Tree → Tree
filled (name token) = if is_absent token then deep_tree else name token
filled tree = tree

abbrev pub filled_type : TypeTree → TypeTree
filled_type (named_type token) = if is_absent token then deep_type else named_type token
filled_type type = type

abbrev pub filled_literal : LiteralForm → Constant
filled_literal (literals.Symbol token) =
    if is_absent token then deep_constant else literal_item (literals.Symbol token)
filled_literal form = literal_item form

abbrev pub filled_constant : Constant → Constant
filled_constant (literal_item form) = filled_literal form
filled_constant constant = constant

abbrev pub filling : Change
filling = record { on_tree = filled; on_type = filled_type; on_constant = filled_constant }
