use Rattle.std.proofs.Common.{◌≡◌, max, Option, Some, option_map, sym, ap, subst, ◌∙◌, arith}
use Rattle.std.proofs.lemmas.Result.{IfOk-weaker}
use Rattle.std.specs.Global.{Vec}
use Rattle.dy_tree.specs.declared.expression.BlockClause.{BlockClause}
use Rattle.dy_rules.specs.Blocks.{block_body}
use Rattle.dy_rules_depth.specs.Capping.{capped}
use Rattle.dy_read_arms.specs.BodyDepths.{ClausesDepth}
use Rattle.dy_read_outers.specs.Grown.{read_grown}
use Rattle.dy_read_arms.specs.ReadBodies.{read_clauses, read_items}
use Rattle.dy_read_outers.specs.declared.grown.Grown.{Grown}
use Rattle.dy_read_bodies.proofs.blocks.with_clauses.Goals as goal

pub block_suits-requires : goal.block_suits-requires
block_suits-requires c =
    let deep : ClausesDepth 0 c.args.in_clauses (Some c.in-Some.clauses) = subst (λ (found : Option (Vec BlockClause)). ClausesDepth 0 c.args.in_clauses found) c.in-Some.is c.requires.clauses in
    let body = c.requires.body in
    let deepest = c.deepest.ensures in
    omega arith

pub returns-in-Some : goal.returns-in-Some
returns-in-Some c =
    IfOk-weaker c.block_suits.result _ (λ (found : Option Grown). option_map read_grown found ≡ option_map capped (block_body c.args.word.now c.args.exit (option_map read_clauses c.args.clauses) (read_items c.args.body)))
    (λ found e. e ∙ ap (λ (clauses : Option (Vec BlockClause)). option_map capped (block_body c.args.word.now c.args.exit (option_map read_clauses clauses) (read_items c.args.body))) (sym c.in-Some.is)) c.block_suits.ensures
