use Rattle.std.proofs.Common.{sym}
use Rattle.dy_tree.specs.Fragments.{seen_fragments}
use Rattle.dy_rules.proofs.Lists.{row_pack}
use Rattle.dy_read_parts.proofs.Groups.{seen_group}
use Rattle.dy_read_parts.proofs.value.begins_value.Goals as goal

pub returns-in-Group : goal.returns-in-Group
returns-in-Group c =
    let inner = c.as_slice.result.now in
    rw (seen_group c.args.fragment.now c.in-Group.opener c.in-Group.inner c.in-Group.closer inner c.in-Group.is c.as_slice.ensures.value, row_pack (seen_fragments inner), sym c.bracket_of.ensures)
    c.group_begins_value.ensures
