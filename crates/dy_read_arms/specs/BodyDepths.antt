-- How deep bodies and their items are with what was read before.
use Rattle.std.specs.Prelude.{◌≡◌, ℕ, max, ⊤, Option, Some, None}
use Rattle.std.specs.Global.{Vec}
use Rattle.dy_tree.specs.declared.variables.Target.{Target}
use Rattle.dy_tree.specs.declared.expression.Item.{Item}
use Rattle.dy_tree.specs.declared.expression.LocalMethod.{LocalMethod}
use Rattle.dy_tree.specs.declared.expression.BlockClause.{BlockClause}
use Rattle.dy_rules.specs.Trees.{body_of, methods_of, block_clauses_of}
use Rattle.dy_rules.specs.Depth as measure
use Rattle.dy_read_arms.specs.ReadBodies.{read_target, read_item, read_items, read_method}
use Rattle.dy_read_arms.specs.ReadBodies.{read_methods, read_clause, read_clauses}

abbrev pub TargetDepth : ℕ → ℕ → Option Target → Type 0
TargetDepth old new None = ⊤
TargetDepth old new (Some form) = new ≡ max old (measure.target_depth (read_target form))

abbrev pub ItemDepth : ℕ → ℕ → Option Item → Type 0
ItemDepth old new None = ⊤
ItemDepth old new (Some form) = new ≡ max old (measure.item_depth (read_item form))

abbrev pub BodyDepth : ℕ → ℕ → Option (Vec Item) → Type 0
BodyDepth old new None = ⊤
BodyDepth old new (Some forms) = new ≡ max old (measure.body_depth (body_of (read_items forms)))

abbrev pub MethodDepth : ℕ → ℕ → Option LocalMethod → Type 0
MethodDepth old new None = ⊤
MethodDepth old new (Some form) = new ≡ max old (measure.method_depth (read_method form))

abbrev pub MethodsDepth : ℕ → ℕ → Option (Vec LocalMethod) → Type 0
MethodsDepth old new None = ⊤
MethodsDepth old new (Some forms) =
    new ≡ max old (measure.methods_depth (methods_of (read_methods forms)))

abbrev pub ClauseDepth : ℕ → ℕ → Option BlockClause → Type 0
ClauseDepth old new None = ⊤
ClauseDepth old new (Some form) = new ≡ max old (measure.block_clause_depth (read_clause form))

abbrev pub ClausesDepth : ℕ → ℕ → Option (Vec BlockClause) → Type 0
ClausesDepth old new None = ⊤
ClausesDepth old new (Some forms) =
    new ≡ max old (measure.block_clauses_depth (block_clauses_of (read_clauses forms)))
