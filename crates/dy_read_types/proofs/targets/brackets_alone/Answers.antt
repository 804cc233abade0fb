use Rattle.dy_tree.specs.Fragments.{seen_fragments}
use Rattle.dy_rules.specs.Fragments.{items_of}
use Rattle.dy_read_parts.specs.Front.{seen_front}
use Rattle.dy_read_types.proofs.TargetParts.{target_alone, target_followed, target_other}
use Rattle.dy_read_parts.proofs.Fronts.{front_first}
use Rattle.dy_read_types.proofs.targets.brackets_alone.Goals as goal

pub returns-then-is_empty : goal.returns-then-is_empty
returns-then-is_empty c =
    let front = c.in-Some.front in
    let fragments = seen_fragments c.args.fragments.now in
    target_alone front.opener.now (seen_fragments front.inner.now) front.closer.now (items_of fragments) front.rest.now (front_first fragments (seen_front front) c.in-Some.ensures.front) c.in-Some.ensures.is_round c.if-is_empty.ensures

pub returns-else-is_empty : goal.returns-else-is_empty
returns-else-is_empty c =
    let front = c.in-Some.front in
    let fragments = seen_fragments c.args.fragments.now in
    target_followed front.opener.now (seen_fragments front.inner.now) front.closer.now (items_of fragments) front.rest.now (front_first fragments (seen_front front) c.in-Some.ensures.front) c.if-is_empty.ensures

pub returns-in-None : goal.returns-in-None
returns-in-None c = target_other (seen_fragments c.args.fragments.now) c.in-None.ensures.front
