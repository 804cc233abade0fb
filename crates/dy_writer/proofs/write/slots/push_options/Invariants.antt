use Rattle.std.proofs.Common.{◌≡◌, ◌++◌, map, take}
use Rattle.dy_tree.specs.Fragments.{seen_fragments}
use Rattle.dy_rules.specs.FormWriting.{written_options}
use Rattle.dy_rules.specs.SeenForms.{seen_option}
use Rattle.dy_writer.proofs.write.slots.push_options.Given as goal

abbrev pub invariant-loop-option : goal.invariant-loop-option
invariant-loop-option l = seen_fragments l.out.items ≡ seen_fragments l.fn.out.items ++ written_options (map seen_option (take l.option-index l.option-items))
