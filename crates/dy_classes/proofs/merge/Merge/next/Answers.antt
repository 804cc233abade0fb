use Rattle.std.proofs.Common.{◌-◌, sym, ap, ◌∙◌, arith}
use Rattle.dy_classes.specs.Rows.{supers_at}
use Rattle.dy_classes.specs.Merge.{find}
use Rattle.dy_classes.specs.Counters.{free}
use Rattle.dy_classes.proofs.Steps.{next_found, next_back}
use Rattle.dy_classes.proofs.merge.Merge.next.Goals as goal

pub returns-then-is_some : goal.returns-then-is_some
returns-then-is_some c =
    let p = free c.args.self.now.counts.rows.items in
    sym (c.loop-place.invariant.same
    ∙ next_found (supers_at c.args.program.now) p c.args.self.now.listed.items (c.loop-place.place - 1) c.loop-place.place c.index.result.now c.first_free-next.result (omega arith) (omega arith)
    c.index.ensures (sym (c.first_free-next.ensures ∙ ap (find p) c.supers_of.ensures)) (sym c.is_some.ensures ∙ c.if-is_some.true))

pub loop-place-preserved : goal.loop-place-preserved
loop-place-preserved c =
    let p = free c.args.self.now.counts.rows.items in
    record {
      upto = omega arith;
      same = c.loop-place.invariant.same
          ∙ next_back (supers_at c.args.program.now) p c.args.self.now.listed.items (c.loop-place.place - 1) c.loop-place.place c.index.result.now c.first_free-next.result (omega arith) (omega arith)
          c.index.ensures (sym (c.first_free-next.ensures ∙ ap (find p) c.supers_of.ensures)) (sym c.is_some.ensures ∙ c.if-is_some.false);
    }
