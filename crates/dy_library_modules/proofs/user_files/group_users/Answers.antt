use Rattle.std.proofs.Common.{◌≡◌, ◌≤◌, length, sym, ap, subst, ◌∙◌, arith}
use Rattle.std.proofs.Math.ListN.{drop_of_length-le}
use Rattle.std.proofs.lemmas.Result.{err_from_is_err_and}
use Rattle.dy_tree.specs.Fragments.{seen_fragments}
use Rattle.dy_library_modules.specs.Users.{IsDefining}
use Rattle.dy_library_modules.proofs.Joining.{joined_more, joined_other, joined_stops, joined_all, seen_behind}
use Rattle.dy_library_modules.proofs.user_files.group_users.Goals as goal
use Rattle.dy_library_modules.proofs.user_files.group_users.Goals.{then-is_user+in_ok-group_file+in_ok-append, else-is_user}

pub returns-in_err-group_file : goal.returns-in_err-group_file
returns-in_err-group_file c =
    let p = err_from_is_err_and c.from_residual.result c.from_residual.ensures.1 in
    rw (p.1, p.2)
    (joined_stops c.args.words.now c.args.sources.now c.loop-file.file-index c.file-item.result c.loop-file-test.true c.file-item.is (seen_fragments c.loop-file.fragments.items) c.loop-file.invariant
    (sym c.is_user.ensures ∙ c.if-is_user.true) c.in_err-group_file.field-0.0 c.in_err-group_file.ensures)

pub loop-file-preserved : goal.loop-file-preserved
loop-file-preserved c =
    let words = c.args.words.now in
    let sources = c.args.sources.now in
    let some = seen_fragments c.loop-file.fragments.items in
    elim c.if-is_user.branch [
      | then-is_user+in_ok-group_file+in_ok-append w ↦
          rw w.fragments-is
          (joined_more words sources c.loop-file.file-index c.file-item.result c.loop-file-test.true c.file-item.is some c.loop-file.invariant (sym c.is_user.ensures ∙ w.if-is_user.true)
          (seen_fragments w.into_vec-found.result.items) (seen_fragments w.append.new.self.items)
          (subst (λ l. IsDefining words c.file-item.result (seen_fragments l)) (sym w.into_vec-found.ensures) w.in_ok-group_file.ensures)
          (ap seen_fragments w.in_ok-append.ensures.items ∙ seen_behind c.loop-file.fragments.items w.into_vec-found.result.items))
      | else-is_user w ↦
          rw w.fragments-is (joined_other words sources c.loop-file.file-index c.file-item.result c.loop-file-test.true c.file-item.is some c.loop-file.invariant (sym c.is_user.ensures ∙ w.if-is_user.false))
    ]

pub returns : goal.returns
returns c =
    let sources = c.args.sources.now in
    let past : length sources ≤ c.loop-file.file-index = omega arith in
    rw c.from_vec.ensures (joined_all c.args.words.now sources c.loop-file.file-index (seen_fragments c.loop-file.fragments.items) (drop_of_length-le sources past) c.loop-file.invariant)
