use Rattle.std.proofs.Common.{◌≡◌, rules, [], ◌∷◌, ◌++◌, refl, ◌∙◌}
use Rattle.dy_tree.specs.Fragments.{seen_fragment, seen_fragments}
use Rattle.dy_read_parts.proofs.NameRows.{more_names}
use Rattle.dy_read_parts.proofs.names.names_in.Goals as goal

pub loop-first-preserved : goal.loop-first-preserved
loop-first-preserved c =
    let before = c.loop-first.names.items in
    let first = c.in-Some.first.now in
    let separator = c.in-Some-split_first.separator.now in
    let others = c.in-Some-split_first.others.now in
    let is : c.loop-first.rest.now ≡ first ∷ separator ∷ others = search rules in
    let more : c.push.new.self.items ≡ before ++ c.in-Some-name_at.name.now ∷ [] = rw (c.in_ok-push-in-Some-name_at.ensures.items, c.in_ok-copy-in-Some-name_at.ensures) refl in
    c.loop-first.invariant
    ∙ rw is (more_names before c.push.new.self.items (seen_fragment first) c.in-Some-name_at.name.now (seen_fragment separator) (seen_fragments others) c.in-Some-name_at.ensures more c.if-separates.ensures)
