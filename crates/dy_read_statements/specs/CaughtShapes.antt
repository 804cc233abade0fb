-- How the condition of an `exception` clause is divided, and the clauses that were read.
use Rattle.std.specs.Prelude.{◌≡◌, ◌≤◌, ⊤, ℕ, max, List, Option, Some, None, option_map}
use Rattle.std.specs.Prelude.{option_and_then}
use Rattle.std.specs.Borrow.{Bor}
use Rattle.dy_tree.specs.declared.token.Token.{Token}
use Rattle.dy_tree.specs.Fragments.{seen_fragments}
use Rattle.dy_rules.specs.Blocks.{caught_of, exception_of, block_body}
use Rattle.dy_rules.specs.Cutting.{Caught}
use Rattle.dy_rules.specs.Depth.{type_depth}
use Rattle.dy_rules.specs.Fragments.{items_of}
use Rattle.dy_rules.specs.Trees.{Tree, ItemTree, BlockClause}
use Rattle.dy_rules.specs.TypeReading.{type_items}
use Rattle.dy_read_parts.specs.Nesting.{nesting}
use Rattle.dy_read_types.specs.TypeCaps.{read_type}
use Rattle.dy_read_statements.specs.declared.caught.CaughtShape.{CaughtShape}
use Rattle.dy_read_statements.specs.declared.caught.Caught.{Caught as Found}

abbrev pub variable_of : Option (Bor Token) → Option Token
variable_of None = None
variable_of (Some token) = Some token.now

-- what stands for a condition that is divided so
abbrev pub caught_read : Option CaughtShape → Option Caught
caught_read None = None
caught_read (Some shape) =
    option_map (caught_of (variable_of shape.variable))
    (type_items (items_of (seen_fragments shape.condition.now)))

abbrev pub IsCaughtWithin : ℕ → Option CaughtShape → Type 0
IsCaughtWithin n None = ⊤
IsCaughtWithin n (Some shape) = nesting (seen_fragments shape.condition.now) ≤ n

abbrev pub read_caught : Found → Caught
read_caught found = record { variable = found.variable; condition = read_type found.condition }

abbrev pub CaughtDepth : ℕ → ℕ → Option Found → Type 0
CaughtDepth old new None = ⊤
CaughtDepth old new (Some found) = new ≡ max old (type_depth (read_type found.condition))

-- a clause of its parts
abbrev pub clause_to : Option (List ItemTree) → Caught → Option BlockClause
clause_to trees caught = option_map (exception_of caught) trees

abbrev pub clause_read : Option Caught → Option (List ItemTree) → Option BlockClause
clause_read caught trees = option_and_then (clause_to trees) caught

-- a block of its parts
abbrev pub block_to : Token → Option (List ItemTree) → Option (List BlockClause) → Option Token
    → Option Tree
block_to word trees clauses exit = option_and_then (block_body word exit clauses) trees

abbrev pub block_read : Token → Option (Option Token) → Option (List ItemTree)
    → Option (List BlockClause) → Option Tree
block_read word exit trees clauses = option_and_then (block_to word trees clauses) exit
