use Rattle.dy_read_parts.proofs.Groups.{seen_group}
use Rattle.dy_read_types.proofs.single.single_alone.Goals as goal

pub returns-in-Group : goal.returns-in-Group
returns-in-Group c = rw (seen_group c.args.fragment.now c.in-Group.opener c.in-Group.inner c.in-Group.closer c.as_slice.result.now c.in-Group.is c.as_slice.ensures.value) c.single_group.ensures
