use Rattle.std.proofs.Common.{arith}
use Rattle.dy_token_limit.proofs.Taking.{group_leaves}
use Rattle.dy_token_limit.proofs.tokens.+tokens.Goals as goal

pub left_behind-returns-in-Some : goal.left_behind-returns-in-Some
left_behind-returns-in-Some t c =
    let there = c.in-Some.ensures.0 in
    let is = c.in-Some.ensures.1 in
    group_leaves c.args.fragment.now c.in-Group.opener c.in-Group.inner c.in-Group.closer c.deref.result.now c.args.most c.in-Some.left c.left_behind_all.result
    c.in-Group.is c.deref.ensures.value there (omega (arith, there, is)) c.left_behind_all.ensures
