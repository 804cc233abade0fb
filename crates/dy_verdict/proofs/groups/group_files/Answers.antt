use Rattle.std.proofs.lemmas.Result.{err_from_is_err_and}
use Rattle.std.proofs.Common.{map}
use Rattle.std.specs.Vec.Iter.{into_iter_items}
use Rattle.dy_verdict.specs.Trees.{seen_file}
use Rattle.dy_verdict.proofs.Grouping.{turn_more, turn_refused}
use Rattle.dy_verdict.proofs.PiecesRead.{item_reached}
use Rattle.dy_verdict.proofs.groups.group_files.Goals as goal

pub returns-in_err-fragments : goal.returns-in_err-fragments
returns-in_err-fragments c =
    let p = err_from_is_err_and c.from_residual.result c.from_residual.ensures.1 in
    rw (p.1, p.2)
    (turn_refused c.args.words.now c.args.files.items c.loop-tokens.yielded (into_iter_items c.next.new.self) (map seen_file c.loop-tokens.trees.items) c.in-Some.tokens c.in_err-fragments.field-0.0
    (item_reached c.args.files.items c.into_iter-tokens-iterator.result c.loop-tokens.yielded c.loop-tokens.tokens-iterator c.next.new.self c.in-Some.tokens c.into_iter-tokens-iterator.ensures.into_iter_gives.0 c.loop-tokens.yielded_by c.in-Some.ensures.steps)
    c.loop-tokens.invariant c.in_err-fragments.ensures.grouping)

pub loop-tokens-preserved : goal.loop-tokens-preserved
loop-tokens-preserved c =
    turn_more c.args.words.now c.loop-tokens.yielded c.loop-tokens.trees.items c.push.new.self.items c.in-Some.tokens c.in_ok-fragments.fragments c.into_vec.result
    c.loop-tokens.invariant c.in_ok-fragments.ensures.grouping c.into_vec.ensures c.in_ok-push.ensures.items
