use Rattle.std.proofs.Common.{◌≡◌, ◌+◌, sym, ◌∙◌, arith}
use Rattle.std.proofs.lemmas.Result.{IfOk-weaker}
use Rattle.dy_rules.specs.SeenForms.{seen_statement}
use Rattle.dy_rules_depth.specs.Capping.{capped}
use Rattle.dy_read_statements.specs.FilledInside.{filled_inside}
use Rattle.dy_read_outers.specs.Grown.{read_grown}
use Rattle.dy_read_outers.specs.declared.grown.Grown.{Grown}
use Rattle.dy_read_outers.proofs.Fills.{Made}
use Rattle.dy_read_statements.proofs.StatementNodes.{statement_made, statement_beyond}
use Rattle.dy_read_statements.proofs.statement_nodes.statement_within.Goals as goal

pub grown-requires : goal.grown-requires
grown-requires c =
    let made : Made (seen_statement c.args.statement) (filled_inside (seen_statement c.args.statement)) (c.args.inside + 1) = statement_made c.args.statement c.args.inside c.requires (omega (arith, c.if-inside-lt-DEPTH_LIMIT.true)) in
    record { depth_is = made.depth_is; within = made.within }

pub returns-then-inside-lt-DEPTH_LIMIT : goal.returns-then-inside-lt-DEPTH_LIMIT
returns-then-inside-lt-DEPTH_LIMIT c =
    let made : Made (seen_statement c.args.statement) (filled_inside (seen_statement c.args.statement)) (c.args.inside + 1) = statement_made c.args.statement c.args.inside c.requires (omega (arith, c.if-inside-lt-DEPTH_LIMIT.true)) in
    IfOk-weaker c.grown.result _ (λ (grown : Grown). read_grown grown ≡ capped (filled_inside (seen_statement c.args.statement))) (λ grown e. e ∙ made.whole) c.grown.ensures

pub returns-else-inside-lt-DEPTH_LIMIT : goal.returns-else-inside-lt-DEPTH_LIMIT
returns-else-inside-lt-DEPTH_LIMIT c =
    let beyond = statement_beyond (seen_statement c.args.statement) c.args.inside c.requires (omega (arith, c.if-inside-lt-DEPTH_LIMIT.false)) in
    IfOk-weaker c.too_deep.result _ (λ (grown : Grown). read_grown grown ≡ capped (filled_inside (seen_statement c.args.statement))) (λ grown e. e ∙ sym beyond) c.too_deep.ensures
