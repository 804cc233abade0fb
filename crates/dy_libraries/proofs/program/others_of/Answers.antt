use Rattle.std.proofs.Common.{◌<◌, ℕ, List, length, All, sym, subst}
use Rattle.dy_libraries.proofs.Viewing.{all_there, view_read, others_more, others_same}
use Rattle.dy_libraries.proofs.program.others_of.Goals as goal
use Rattle.dy_libraries.proofs.program.others_of.Goals.{then-other-number+in_ok-name_at+in_ok-push, else-other-number}

pub name_at-requires : goal.name_at-requires
name_at-requires c =
    let compiled = c.args.compiled.now in
    let same =
    view_read compiled c.requires.compiled c.args.number c.requires.there c.as_slice.result.now c.index-as_slice-number.result c.as_slice-other-items.result.now
    c.as_slice.ensures c.index-as_slice-number.is c.as_slice-other-items.ensures in
    subst (λ (xs : List ℕ). All (λ other. other < length compiled.exports) xs) (sym same) (all_there compiled c.requires.compiled c.args.number c.requires.there)
    c.loop-other.other-index 0 c.loop-other-test.true

pub loop-other-preserved : goal.loop-other-preserved
loop-other-preserved c = elim c.if-other-number.branch [
  | then-other-number+in_ok-name_at+in_ok-push w ↦
      rw (w.others-is, w.in_ok-push.ensures.ok, w.in_ok-name_at.ensures)
      (others_more c.args.compiled.now c.args.number c.as_slice-other-items.result.now c.loop-other.other-index c.loop-other.others c.loop-other-test.true c.loop-other.invariant w.if-other-number.true)
  | else-other-number w ↦
      rw w.others-is
      (others_same c.args.compiled.now c.args.number c.as_slice-other-items.result.now c.loop-other.other-index c.loop-other.others c.loop-other-test.true c.loop-other.invariant w.if-other-number.false)
]
