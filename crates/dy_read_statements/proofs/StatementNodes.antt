-- Statements that are within the limit have nothing filled in of their parts.
use Rattle.std.proofs.Common.{◌≡◌, ◌+◌, ◌<◌, ◌≤◌, ℕ, refl, arith}
use Rattle.dy_tree.specs.declared.expression.Statement.{Statement, Begin', Method', If', Guarded', Case', Select', Block', For'}
use Rattle.dy_rules.specs.Trees.{Tree, begin_tree, if_tree, guarded, case_tree, select_tree, block_tree, for_tree, method_tree}
use Rattle.dy_rules.specs.Depth.{depth, depth_limit}
use Rattle.dy_rules.specs.SeenForms.{seen_statement}
use Rattle.dy_rules_depth.specs.Capping.{deep_tree, capped, filled}
use Rattle.dy_rules_depth.proofs.FilledNodes.{filled_begin, filled_if, filled_guarded, filled_case, filled_select, filled_block, filled_for, filled_method}
use Rattle.dy_read_statements.specs.FilledInside.{filled_inside}
use Rattle.dy_read_outers.proofs.Fills.{Made, node_made, node_beyond}

inside_kept : (tree : Tree) → depth (filled_inside tree) ≤ depth_limit → filled_inside tree ≡ tree
inside_kept (begin_tree word body) le = filled_begin word body le
inside_kept (if_tree word test body others last) le = filled_if word test body others last le
inside_kept (guarded guard word test body) le = filled_guarded guard word test body le
inside_kept (case_tree word arms last) le = filled_case word arms last le
inside_kept (select_tree word selected test arms last) le = filled_select word selected test arms last le
inside_kept (block_tree word exit body clauses) le = filled_block word exit body clauses le
inside_kept (for_tree word clauses stop body last) le = filled_for word clauses stop body last le
inside_kept (method_tree word signature body) le = filled_method word signature body le
inside_kept tree le = refl

inside_filled : (statement : Statement) → filled (filled_inside (seen_statement statement)) ≡ filled_inside (seen_statement statement)
inside_filled (Begin' word shape body) = refl
inside_filled (Method' word p signature shape body) = refl
inside_filled (If' word p test shape body others alternatives last) = refl
inside_filled (Guarded' guard word p test shape body) = refl
inside_filled (Case' word shape arms last) = refl
inside_filled (Select' word p value test shape arms last) = refl
inside_filled (Block' word exit shape body others found) = refl
inside_filled (For' word shape found stop others body last) = refl

kept_made : (tree : Tree) (inside : ℕ) → filled (filled_inside tree) ≡ filled_inside tree → depth (filled_inside tree) ≡ 1 + inside → inside < depth_limit → Made tree (filled_inside tree) (inside + 1)
kept_made tree inside same is lt = node_made tree tree (filled_inside tree) inside refl (λ le. inside_kept tree (omega arith)) same is lt

-- as it lies in memory, and as it is read
pub statement_made : (statement : Statement) (inside : ℕ) → depth (filled_inside (seen_statement statement)) ≡ 1 + inside → inside < depth_limit
    → Made (seen_statement statement) (filled_inside (seen_statement statement)) (inside + 1)
statement_made statement inside is lt = kept_made (seen_statement statement) inside (inside_filled statement) is lt

pub statement_beyond : (tree : Tree) (inside : ℕ) → depth (filled_inside tree) ≡ 1 + inside → depth_limit ≤ inside → capped (filled_inside tree) ≡ deep_tree
statement_beyond tree inside is le = node_beyond (filled_inside tree) inside is le
