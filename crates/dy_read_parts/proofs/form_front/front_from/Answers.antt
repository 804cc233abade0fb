use Rattle.std.proofs.Common.{refl}
use Rattle.dy_tree.specs.Fragments.{pack, seen_fragment, seen_fragments}
use Rattle.dy_read_parts.specs.FormFront.{seen_form_front}
use Rattle.dy_read_parts.proofs.FormFronts.{group_alone, group_followed}
use Rattle.dy_read_parts.proofs.Groups.{seen_group}
use Rattle.dy_read_parts.proofs.form_front.front_from.Goals as goal

pub returns-in-Group : goal.returns-in-Group
returns-in-Group c =
    let inner = c.as_slice.result.now in
    let from = seen_group c.args.first.now c.in-Group.opener c.in-Group.inner c.in-Group.closer inner c.in-Group.is c.as_slice.ensures.value in
    group_alone (seen_fragment c.args.first.now) c.in-Group.opener (pack (seen_fragments inner)) c.in-Group.closer from c.args.rest.now (seen_form_front c.front_of_group.result) c.front_of_group.ensures c.if-is_empty.ensures

pub returns-in-Group-2 : goal.returns-in-Group-2
returns-in-Group-2 c =
    let inner = c.in-Group.inner.items in
    let from = seen_group c.args.first.now c.in-Group.opener c.in-Group.inner c.in-Group.closer inner c.in-Group.is refl in
    group_followed (seen_fragment c.args.first.now) c.in-Group.opener (pack (seen_fragments inner)) c.in-Group.closer from c.args.rest.now c.if-is_empty.ensures
