-- The clauses of a `for` that stand for what was read.
use Rattle.std.specs.Prelude.{◌≡◌, ℕ, max, ⊤, List, map, Option, Some, None}
use Rattle.dy_tree.specs.declared.expression.ForClause.{ForClause}
use Rattle.dy_tree.specs.declared.expression.Stop.{Stop}
use Rattle.dy_rules.specs.Depth.{for_clause_depth}
use Rattle.dy_rules.specs.Loops.{Range, range_of}
use Rattle.dy_rules.specs.SeenForms.{seen_for_clause}
use Rattle.dy_rules.specs.Trees as trees
use Rattle.dy_rules_depth.specs.Changes.{changed_for}
use Rattle.dy_rules_depth.specs.Capping.{filling}
use Rattle.dy_read_outers.specs.Grown.{read_grown}
use Rattle.dy_read_outers.specs.ReadTrees.{read_tree}
use Rattle.dy_read_outers.specs.declared.grown.Grown.{Grown}
use Rattle.dy_read_statements.specs.declared.clause_nodes.Bounded.{Bounded}
use Rattle.dy_read_statements.specs.declared.clause_nodes.Range.{Range as RangeRead}

abbrev pub read_bounded : Option Bounded → trees.MaybeLimit
read_bounded None = trees.no_limit
read_bounded (Some limit) = trees.a_limit limit.word (read_grown limit.bound)

abbrev pub read_step : Option Grown → trees.MaybeTree
read_step None = trees.no_tree
read_step (Some step) = trees.some_tree (read_grown step)

abbrev pub read_range : RangeRead → Range
read_range range = range_of (read_bounded range.limit) (read_step range.step)

abbrev pub read_for : ForClause → trees.ForClause
read_for clause = changed_for filling (seen_for_clause clause)

abbrev pub read_fors : List ForClause → List trees.ForClause
read_fors clauses = map read_for clauses

abbrev pub read_stop : Stop → trees.StopTree
read_stop stop = record { keyword = stop.keyword; test = read_tree stop.test }

-- how deep they are with what was read before

abbrev pub ForDepth : ℕ → ℕ → Option ForClause → Type 0
ForDepth old new None = ⊤
ForDepth old new (Some clause) = new ≡ max old (for_clause_depth (read_for clause))
