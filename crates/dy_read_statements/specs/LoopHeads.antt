-- The head of a `for`, as the reader gives it.
use Rattle.std.specs.Prelude.{◌≡◌, ◌≤◌, ℕ, max, ⊤, List, Option, Some, None, option_map}
use Rattle.dy_tree.specs.Fragments.{SeenFragment, seen_fragments}
use Rattle.dy_tree.specs.declared.expression.ForClause.{ForClause as FormClause}
use Rattle.dy_rules.specs.Arguments.{is_comma_fragment}
use Rattle.dy_rules.specs.Cutting.{Ending, only_part, only_last}
use Rattle.dy_rules.specs.Depth.{for_clauses_depth, stop_depth}
use Rattle.dy_rules.specs.Fragments.{items_of}
use Rattle.dy_rules.specs.Loops.{is_stop, clause_items, stop_items, stop_with}
use Rattle.dy_rules.specs.Trees.{ForClause, for_clauses_of, StopTree, stop_of}
use Rattle.dy_rules_depth.specs.Changes.{changed_for, changed_stop_tree}
use Rattle.dy_rules_depth.specs.ReaderChanges.{changed_ending}
use Rattle.dy_rules_depth.specs.Capping.{capping}
use Rattle.dy_read_types.specs.Endings.{changed_parts, last_part}
use Rattle.dy_read_shapes.specs.LoopShapes.{step_tree}
use Rattle.dy_read_parts.specs.Nesting.{nesting}
use Rattle.dy_read_statements.specs.ReadLoops.{read_fors, read_stop}
use Rattle.dy_read_statements.specs.declared.loop_head.ForHead.{ForHead}
use Rattle.dy_read_statements.specs.declared.loop_head.LastShape.{LastShape}
use Rattle.dy_read_statements.specs.declared.loop_head.LastShape.TheVariants as lasts

abbrev pub read_head : ForHead → Ending ForClause StopTree
read_head head = record {
  parts = read_fors head.clauses.items;
  last = option_map read_stop head.stop;
}

abbrev pub fors_depth : List FormClause → ℕ
fors_depth clauses = for_clauses_depth (for_clauses_of (read_fors clauses))

abbrev pub head_depth : Ending ForClause StopTree → ℕ
head_depth head = max (for_clauses_depth (for_clauses_of head.parts))
    (stop_depth (stop_of head.last))

-- how deep it is with what was read before
abbrev pub HeadDepth : ℕ → ℕ → Option ForHead → Type 0
HeadDepth old new None = ⊤
HeadDepth old new (Some head) = new ≡ max old (head_depth (read_head head))

-- the clauses and the test that fragments stand for, to the limit
abbrev pub capped_parts : List SeenFragment → Option (Ending ForClause StopTree)
capped_parts fragments = changed_parts (changed_for capping)
    (changed_stop_tree capping) is_comma_fragment is_stop clause_items stop_items fragments

abbrev pub capped_last : List SeenFragment → Option (Ending ForClause StopTree)
capped_last fragments = option_map
    (changed_ending (changed_for capping) (changed_stop_tree capping))
    (last_part is_stop clause_items stop_items fragments)

abbrev pub capped_clause : List SeenFragment → Option ForClause
capped_clause fragments = option_map (changed_for capping) (clause_items (items_of fragments))

abbrev pub last_read : LastShape → Option ForClause → Option (Ending ForClause StopTree)
last_read (lasts.Stop keyword test) clause =
    option_map only_last (option_map (stop_with keyword.now) (step_tree (seen_fragments test.now)))
last_read lasts.Clause clause = option_map only_part clause

-- the test is nested at most so deep
abbrev pub IsStopWithin : ℕ → LastShape → Type 0
IsStopWithin n (lasts.Stop keyword test) = nesting (seen_fragments test.now) ≤ n
IsStopWithin n lasts.Clause = ⊤
