-- Variables, as the reader gives them.
use Rattle.std.specs.Prelude.{◌≡◌, ◌≤◌, ℕ, max, ⊤, List, map, Option, Some, None}
use Rattle.dy_tree.specs.declared.variables.Variable.{Variable}
use Rattle.dy_tree.specs.Fragments.{seen_fragments}
use Rattle.dy_rules.specs.SeenTypes.{seen_variable}
use Rattle.dy_rules.specs.Types.{VariableTree}
use Rattle.dy_rules.specs.Depth.{variable_depth}
use Rattle.dy_rules.specs.TypeReading as reading
use Rattle.dy_rules.specs.Fragments.{items_of}
use Rattle.dy_read_types.specs.declared.variables.VariableFront.{VariableFront}
use Rattle.dy_read_parts.specs.Nesting.{nesting}
use Rattle.dy_rules_depth.specs.Changes.{changed_variable}
use Rattle.dy_rules_depth.specs.Capping.{capping, filling}

-- the variable that stands in a form
abbrev pub read_variable : Variable → VariableTree
read_variable form = changed_variable filling (seen_variable form)

abbrev pub read_variables : List Variable → List VariableTree
read_variables forms = map read_variable forms

abbrev pub capped_variable : VariableTree → VariableTree
capped_variable variable = changed_variable capping variable

abbrev pub seen_front : VariableFront → reading.VariableFront
seen_front front = record
    { variable = read_variable front.variable; rest = items_of (seen_fragments front.rest.now) }

abbrev pub capped_front : reading.VariableFront → reading.VariableFront
capped_front front = record { variable = capped_variable front.variable; rest = front.rest }

-- how deep it is with what was read before
abbrev pub FrontDepth : ℕ → ℕ → Option VariableFront → Type 0
FrontDepth old new None = ⊤
FrontDepth old new (Some front) = new ≡ max old (variable_depth (read_variable front.variable))

abbrev pub VariableDepth : ℕ → ℕ → Option Variable → Type 0
VariableDepth old new None = ⊤
VariableDepth old new (Some form) = new ≡ max old (variable_depth (read_variable form))

-- what stands behind it is nested at most so deep
abbrev pub IsRestWithin : ℕ → Option VariableFront → Type 0
IsRestWithin n None = ⊤
IsRestWithin n (Some front) = nesting (seen_fragments front.rest.now) ≤ n
