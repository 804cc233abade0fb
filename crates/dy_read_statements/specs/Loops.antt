-- A `for` as it is put together from its parts.
use Rattle.std.specs.Prelude.{◌≡◌, ℕ, max, ⊤, List, Option, Some, None, option_and_then}
use Rattle.std.specs.Global.{Vec}
use Rattle.dy_tree.specs.declared.token.Token.{Token}
use Rattle.dy_tree.specs.declared.expression.Item.{Item}
use Rattle.dy_tree.specs.declared.expression.Stop.{Stop}
use Rattle.dy_tree.specs.declared.splitters.Splitting.TheVariants as splittings
use Rattle.dy_rules.specs.Bodies.{body_items}
use Rattle.dy_rules.specs.Cutting.{Ending, Pieces}
use Rattle.dy_rules.specs.Depth.{body_depth, otherwise_depth}
use Rattle.dy_rules.specs.Loops.{for_body, finally_in}
use Rattle.dy_rules.specs.SeenForms.{seen_tree}
use Rattle.dy_rules.specs.Trees.{Tree, ForClause, StopTree, ItemTree, Otherwise, no_otherwise}
use Rattle.dy_rules.specs.Trees.{otherwise, MaybeStop, no_stop, a_stop, body_of}
use Rattle.dy_read_statements.specs.LoopHeads.{read_head, head_depth}
use Rattle.dy_read_arms.specs.ReadBodies.{read_items}
use Rattle.dy_read_statements.specs.declared.loop_head.ForHead.{ForHead}
use Rattle.dy_read_statements.specs.declared.loop_nodes.Finally.{Finally}

abbrev read_otherwise : Option (Vec Item) → Otherwise
read_otherwise None = no_otherwise
read_otherwise (Some body) = otherwise (body_of (read_items body))

abbrev pub read_last : Finally → Otherwise
read_last last = read_otherwise last.body

abbrev pub seen_stop : Option Stop → MaybeStop
seen_stop None = no_stop
seen_stop (Some stop) = a_stop stop.keyword (seen_tree stop.test)

abbrev pub loop_depth : Ending ForClause StopTree → List ItemTree → Otherwise → ℕ
loop_depth head trees last =
    max (head_depth head) (max (body_depth (body_of trees)) (otherwise_depth last))

-- how deep the parts are, where all of them were read
abbrev pub LoopDepth : ℕ → Option ForHead → Option (Vec Item) → Option Finally → Type 0
LoopDepth inside (Some head) (Some body) (Some last) =
    inside ≡ loop_depth (read_head head) (read_items body) (read_last last)
LoopDepth inside (Some head) (Some body) None = ⊤
LoopDepth inside (Some head) None last = ⊤
LoopDepth inside None body last = ⊤

-- how deep it is with what was read before
abbrev pub LastDepth : ℕ → ℕ → Option Finally → Type 0
LastDepth old new None = ⊤
LastDepth old new (Some last) = new ≡ max old (otherwise_depth (read_last last))

abbrev pub made_with : Token → Option (List ItemTree) → Option Otherwise → Ending ForClause StopTree
    → Option Tree
made_with word trees last head = option_and_then (for_body word head last) trees

-- the statement, where all of its parts were read
abbrev pub loop_made : Token → Option (Ending ForClause StopTree) → Option (List ItemTree)
    → Option Otherwise → Option Tree
loop_made word head trees last = option_and_then (made_with word trees last) head

abbrev pub loop_at : Token → Option (Ending ForClause StopTree) → Pieces → Option Tree
loop_at word head pieces =
    loop_made word head (body_items splittings.LastPart pieces.first) (finally_in pieces.others)
