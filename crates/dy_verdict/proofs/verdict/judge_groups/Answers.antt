use Rattle.std.proofs.lemmas.Result.{err_from_is_err_and}
use Rattle.dy_verdict.proofs.Verdicts.{groups_refused, groups_read}
use Rattle.dy_verdict.proofs.verdict.judge_groups.Goals as goal

pub returns-in_err-trees : goal.returns-in_err-trees
returns-in_err-trees c =
    let p = err_from_is_err_and c.from_residual-in_err-trees.result c.from_residual-in_err-trees.ensures.1 in
    rw (p.1, p.2)
    (groups_refused c.args.library.now c.args.modules c.args.words.now c.args.sources c.in_ok-files.files.items c.in_err-trees.field-0.0 c.requires.words c.in_ok-files.ensures c.in_err-trees.ensures)

pub returns : goal.returns
returns c =
    groups_read c.args.library.now c.args.modules c.args.words.now c.args.sources c.in_ok-files.files.items c.in_ok-trees.trees.items c.judge_trees.result c.requires.words c.in_ok-files.ensures c.in_ok-trees.ensures c.judge_trees.ensures
