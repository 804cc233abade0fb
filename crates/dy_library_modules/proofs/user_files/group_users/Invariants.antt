use Rattle.dy_tree.specs.Fragments.{seen_fragments}
use Rattle.dy_library_modules.proofs.Joining.{JoinedTo}
use Rattle.dy_library_modules.proofs.user_files.group_users.Given as goal

abbrev pub invariant-loop-file : goal.invariant-loop-file
invariant-loop-file l = JoinedTo l.words l.sources l.file-index (seen_fragments l.fragments.items)
