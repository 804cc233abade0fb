use Rattle.std.proofs.Common.{◌≡◌, ◌<◌, ◌≤◌, List, length, subst, sym, ap, ◌∙◌, arith}
use Rattle.dy_base.specs.declared.ids.ClassId.{ClassId}
use Rattle.dy_classes.specs.Lists.{In}
use Rattle.dy_classes.specs.Merge.{added}
use Rattle.dy_classes.proofs.Found.{all_supers, in_all, walk_starts, walk_more, walk_longer, walk_falls, mark_tells}
use Rattle.dy_classes.proofs.cyclic.is_cyclic.Goals as goal

pub loop-place-init : goal.loop-place-init
loop-place-init c = record {
  marked = c.in_ok-add.ensures.marked;
  walked = walk_starts c.args.program.now c.args.class c.add.new.self.classes.items c.supers_of.result.now c.supers_of.ensures
      (c.in_ok-add.ensures.added ∙ ap (λ (v : List ClassId). added v c.supers_of.result.now) c.new.ensures.items);
  upto = omega arith;
}

pub loop-place-smaller : goal.loop-place-smaller
loop-place-smaller c =
    let lt : c.loop-place.place < length c.loop-place.found.classes.items = omega (arith, c.loop-place.found.classes.ok.0) in
    walk_falls (all_supers c.args.program.now.libraries) c.loop-place.found.classes.items c.add-in-loop-place.new.self.classes.items c.supers_of-in-loop-place.result.now c.loop-place.place lt
    c.in_ok-add-2.ensures.added
    (λ y i. in_all c.args.program.now c.index-above.result.now y (subst (λ (v : List ClassId). In y v) c.supers_of-in-loop-place.ensures i))

pub loop-place-preserved : goal.loop-place-preserved
loop-place-preserved c =
    let lt : c.loop-place.place < length c.loop-place.found.classes.items = omega (arith, c.loop-place.found.classes.ok.0) in
    record {
      marked = c.in_ok-add-2.ensures.marked;
      walked = walk_more c.args.program.now c.args.class c.loop-place.place c.loop-place.found.classes.items c.add-in-loop-place.new.self.classes.items c.supers_of-in-loop-place.result.now
          c.index-above.result.now c.loop-place.invariant.walked lt c.index-above.ensures c.supers_of-in-loop-place.ensures c.in_ok-add-2.ensures.added;
      upto = walk_longer (all_supers c.args.program.now.libraries) c.loop-place.found.classes.items c.add-in-loop-place.new.self.classes.items c.supers_of-in-loop-place.result.now
          c.loop-place.place lt c.in_ok-add-2.ensures.added;
    }

pub returns : goal.returns
returns c =
    let end : length c.loop-place.found.classes.items ≤ c.loop-place.place = omega (arith, c.loop-place.found.classes.ok.0) in
    mark_tells c.args.program.now c.args.class c.loop-place.place c.loop-place.found.classes.items c.loop-place.found.marks.rows.items c.get.result
    c.loop-place.invariant.walked end c.loop-place.invariant.marked c.get.ensures
