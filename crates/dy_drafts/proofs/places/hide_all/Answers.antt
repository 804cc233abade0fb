use Rattle.std.proofs.Common.{map, ap, ◌∙◌}
use Rattle.dy_term.specs.Drafts.{seen_item}
use Rattle.dy_drafts.proofs.Numbered.{hide_turn}
use Rattle.dy_drafts.proofs.places.hide_all.Goals as goal

pub loop-term-preserved : goal.loop-term-preserved
loop-term-preserved c =
    ap (map seen_item) c.in_ok-push.ensures.items
    ∙ hide_turn c.loop-term.items.items c.loop-term.yielded c.in_ok-item.item c.in-Some.term c.len.result c.loop-term.invariant (c.len.ensures ∙ c.loop-term.items.ok.0) c.in_ok-item.ensures
