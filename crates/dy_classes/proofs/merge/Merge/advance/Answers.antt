use Rattle.std.proofs.Common.{◌≡◌, ◌<◌, ◌+◌, ℕ, length, get_or, drop, sym, ap, subst, ◌∙◌, arith, add-one}
use Rattle.std.proofs.lemmas.List.{get_or_default}
use Rattle.dy_base.specs.declared.ids.ClassId.{ClassId}
use Rattle.dy_classes.specs.Rows.{lists_at}
use Rattle.dy_classes.specs.Merge.{mem, newest}
use Rattle.dy_classes.specs.Counters.{count_at, occurs, tail, tails, advanced, Moving}
use Rattle.dy_classes.proofs.Moves.{turn, finished, free_facts}
use Rattle.dy_classes.proofs.Steps.{newest_push}
use Rattle.dy_classes.proofs.merge.Merge.advance.Goals as goal

pub loop-place-preserved : goal.loop-place-preserved
loop-place-preserved c =
    let lists = lists_at c.args.program.now c.args.class in
    let listed = newest c.args.self.now.listed.items in
    let facts = free_facts (tails listed c.args.next lists) (mem c.args.next listed) (sym (c.requires.counted.count c.args.next) ∙ c.requires.free) in
    let heads = c.loop-place.self.heads.items in
    let h : c.loop-place.place < length lists = omega (arith, c.requires.counted.places, c.args.self.now.heads.ok.0) in
    let m = c.list_at-list.result.now in
    let moved = c.move_head-moved.result in
    let counted = c.move_head-moved.new.counts.rows.items in
    let inside : c.loop-place.place < length heads = omega (arith, c.loop-place.invariant.moving.places) in
    let at : c.index-head.result.now ≡ get_or heads c.loop-place.place 0 = c.index-head.ensures ∙ get_or_default heads c.loop-place.place c.index-head.result.now 0 inside in
    record {
      listed = c.loop-place.invariant.listed;
      moving = rw add-one
          (turn lists listed c.args.next c.loop-place.place heads c.loop-place.self.counts.rows.items c.loop-place.invariant.moving h m c.list_at-list.ensures c.requires.counted.clean facts.0 moved counted
          (subst (λ (v : ℕ). drop moved m ≡ advanced c.args.next (drop v m)) at c.move_head-moved.ensures.head) c.move_head-moved.ensures.bound
          (subst (λ (v : ℕ). (y : ClassId) → count_at counted y + occurs y (tail (drop v m)) ≡ count_at c.loop-place.self.counts.rows.items y + occurs y (tail (advanced c.args.next (drop v m)))) at
          c.move_head-moved.ensures.counts));
    }

pub returns-clause-listed : goal.returns-clause-listed
returns-clause-listed c =
    ap newest c.loop-place.invariant.listed ∙ ap newest c.in_ok-push.ensures.items ∙ newest_push c.args.self.now.listed.items c.args.next

pub returns-clause-counted : goal.returns-clause-counted
returns-clause-counted c =
    let lists = lists_at c.args.program.now c.args.class in
    let listed = newest c.args.self.now.listed.items in
    let facts = free_facts (tails listed c.args.next lists) (mem c.args.next listed) (sym (c.requires.counted.count c.args.next) ∙ c.requires.free) in
    let e : c.loop-place.place ≡ length lists = omega (arith, c.requires.counted.places, c.args.self.now.heads.ok.0) in
    finished lists listed c.args.next c.loop-place.self.heads.items c.loop-place.self.counts.rows.items c.raise.new.self.rows.items
    (subst (λ (n : ℕ). Moving lists listed c.args.next n c.loop-place.self.heads.items c.loop-place.self.counts.rows.items) e c.loop-place.invariant.moving)
    facts.1 c.requires.counted.clean facts.0 c.in_ok-raise.ensures
