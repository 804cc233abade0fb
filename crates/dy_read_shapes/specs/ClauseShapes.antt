-- What a clause of a `for` stands for, with its variable.
use Rattle.std.specs.Prelude.{◌≡◌, ◌≤◌, max, ⊤, ℕ, List, Option, Some, None, option_map}
use Rattle.std.specs.Prelude.{option_and_then}
use Rattle.dy_tree.specs.Fragments.{seen_fragments}
use Rattle.dy_rules.specs.Trees.{ForClause}
use Rattle.dy_rules.specs.Cutting.{Piece}
use Rattle.dy_rules.specs.Depth.{variable_depth}
use Rattle.dy_rules.specs.Loops.{clause_with}
use Rattle.dy_rules.specs.TypeReading as reading
use Rattle.dy_rules_depth.specs.Changes.{changed_for}
use Rattle.dy_rules_depth.specs.Capping.{capping}
use Rattle.dy_read_shapes.specs.LoopShapes.{parts_read, ArePartsWithin}
use Rattle.dy_read_parts.specs.Nesting.{nesting}
use Rattle.dy_read_types.specs.VariableFronts.{read_variable, seen_front, capped_front}
use Rattle.dy_read_shapes.specs.declared.clause_shape.ClauseShape.{ClauseShape}
use Rattle.dy_read_types.specs.declared.variables.VariableFront.{VariableFront}

abbrev pub clause_read : Option ClauseShape → Option ForClause
clause_read None = None
clause_read (Some shape) = parts_read (read_variable shape.variable) shape.parts

-- what is read of the clause whose variable stands in front
abbrev pub FrontReads : Option VariableFront → List Piece → Option ClauseShape → Type 0
FrontReads front others shape = (found : Option reading.VariableFront)
    → option_map seen_front front ≡ option_map capped_front found
    → clause_read shape ≡ option_map (changed_for capping)
    (option_and_then (clause_with others) found)

abbrev pub IsFrontWithin : ℕ → Option VariableFront → Type 0
IsFrontWithin n None = ⊤
IsFrontWithin n (Some front) = nesting (seen_fragments front.rest.now) ≤ n

abbrev pub IsClauseWithin : ℕ → Option ClauseShape → Type 0
IsClauseWithin n None = ⊤
IsClauseWithin n (Some shape) = ArePartsWithin n shape.parts

-- how deep its variable is with what was read before
abbrev pub ShapeDepth : ℕ → ℕ → Option ClauseShape → Type 0
ShapeDepth old new None = ⊤
ShapeDepth old new (Some shape) = new ≡ max old (variable_depth (read_variable shape.variable))
