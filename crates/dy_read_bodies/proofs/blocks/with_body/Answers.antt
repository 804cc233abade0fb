use Rattle.std.proofs.Common.{◌≡◌, max, Option, Some, option_map, sym, ap, subst, ◌∙◌, arith}
use Rattle.std.proofs.lemmas.Result.{IfOk-weaker}
use Rattle.std.specs.Global.{Vec}
use Rattle.dy_tree.specs.declared.expression.Item.{Item}
use Rattle.dy_rules_depth.specs.Capping.{capped}
use Rattle.dy_read_arms.specs.BodyDepths.{BodyDepth}
use Rattle.dy_read_statements.specs.CaughtShapes.{block_to}
use Rattle.dy_read_outers.specs.Grown.{read_grown}
use Rattle.dy_read_arms.specs.ReadBodies.{read_clauses, read_items}
use Rattle.dy_read_outers.specs.declared.grown.Grown.{Grown}
use Rattle.dy_read_bodies.proofs.blocks.with_body.Goals as goal

pub with_clauses-requires-clause-body : goal.with_clauses-requires-clause-body
with_clauses-requires-clause-body c = let deep : BodyDepth 0 c.args.in_body (Some c.in-Some.body) = subst (λ (found : Option (Vec Item)). BodyDepth 0 c.args.in_body found) c.in-Some.is c.requires.body in omega arith

pub returns-in-Some : goal.returns-in-Some
returns-in-Some c =
    IfOk-weaker c.with_clauses.result _ (λ (found : Option Grown). option_map read_grown found ≡ option_map capped (block_to c.args.word.now (option_map read_items c.args.body) (option_map read_clauses c.args.clauses) c.args.exit))
    (λ found e. e ∙ ap (λ (body : Option (Vec Item)). option_map capped (block_to c.args.word.now (option_map read_items body) (option_map read_clauses c.args.clauses) c.args.exit)) (sym c.in-Some.is)) c.with_clauses.ensures
