use Rattle.std.proofs.Common.{◌≡◌, Option, option_map, sym, ap, ◌∙◌}
use Rattle.std.proofs.lemmas.Result.{IfOk-weaker}
use Rattle.dy_tree.specs.declared.token.Token.{Token}
use Rattle.dy_rules_depth.specs.Capping.{capped}
use Rattle.dy_read_statements.specs.CaughtShapes.{block_read}
use Rattle.dy_read_outers.specs.Grown.{read_grown}
use Rattle.dy_read_arms.specs.ReadBodies.{read_clauses, read_items}
use Rattle.dy_read_outers.specs.declared.grown.Grown.{Grown}
use Rattle.dy_read_bodies.proofs.blocks.block_with.Goals as goal

pub returns-in-Some : goal.returns-in-Some
returns-in-Some c =
    IfOk-weaker c.with_body.result _ (λ (found : Option Grown). option_map read_grown found ≡ option_map capped (block_read c.args.word.now c.args.exit (option_map read_items c.args.body) (option_map read_clauses c.args.clauses)))
    (λ found e. e ∙ ap (λ (exit : Option (Option Token)). option_map capped (block_read c.args.word.now exit (option_map read_items c.args.body) (option_map read_clauses c.args.clauses))) (sym c.in-Some.is)) c.with_body.ensures
