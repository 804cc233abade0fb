use Rattle.std.proofs.Common.{◌≡◌, sym, ◌∙◌}
use Rattle.dy_classes.proofs.Found.{add_here, add_there}
use Rattle.dy_classes.proofs.cyclic.Found.add.Goals as goal
use Rattle.dy_classes.proofs.cyclic.Found.add.Goals.{then-get-eq0+in_ok-raise+in_ok-push, else-get-eq0}

pub loop-class-preserved : goal.loop-class-preserved
loop-class-preserved c =
    let start = c.args.self.now.classes.items in
    let found = c.loop-class.self.classes.items in
    let xs = c.args.classes.now in
    elim c.if-get-eq0.branch [
      | then-get-eq0+in_ok-raise+in_ok-push w ↦
          rw w.self-is
          (let t = add_here start found w.push.new.self.items xs c.loop-class.class-index _ c.loop-class.self.marks.rows.items w.raise.new.self.rows.items c.loop-class-test.true
          c.loop-class.invariant.same c.loop-class.invariant.marked (sym c.get.ensures ∙ w.if-get-eq0.true) w.in_ok-push.ensures.items w.in_ok-raise.ensures in
          record { same = t.0; marked = t.1 })
      | else-get-eq0 w ↦
          rw w.self-is
          (record {
            same = add_there start found found xs c.loop-class.class-index _ c.loop-class.self.marks.rows.items c.loop-class.self.marks.rows.items c.loop-class-test.true
                c.loop-class.invariant.same c.loop-class.invariant.marked (λ e. w.if-get-eq0.false (c.get.ensures ∙ e));
            marked = c.loop-class.invariant.marked;
          })
    ]
