use Rattle.std.proofs.Common.{◌≡◌, ◌+◌, max, sym, subst, ◌∙◌}
use Rattle.dy_stretch.specs.Walks.{long_at, IsMostTo}
use Rattle.dy_stretch.proofs.Walking.{max_zero, most_past, most_marked}
use Rattle.dy_stretch.proofs.walks.more_of.Goals as goal

pub returns-then-not-is_marked : goal.returns-then-not-is_marked
returns-then-not-is_marked c =
    most_past c.args.longs.now c.args.marks.now c.args.place c.args.most c.requires.before (sym c.is_marked.ensures ∙ c.if-not-is_marked.true)

pub returns : goal.returns
returns c =
    let longs = c.args.longs.now in
    let marks = c.args.marks.now in
    let is : long_at longs c.args.place ≡ c.known.result = sym (max_zero (long_at longs c.args.place)) ∙ sym c.known.ensures in
    subst (IsMostTo longs marks (c.args.place + 1)) (sym c.max.ensures)
    (most_marked longs marks c.args.place c.args.most c.requires.before c.known.result (sym c.is_marked.ensures ∙ c.if-not-is_marked.false) is)
