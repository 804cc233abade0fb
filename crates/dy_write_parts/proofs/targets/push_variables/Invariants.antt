use Rattle.std.proofs.Common.{◌≡◌, ◌++◌, map, take}
use Rattle.dy_tree.specs.Fragments.{seen_fragments}
use Rattle.dy_rules.specs.Marks.{comma_mark}
use Rattle.dy_rules.specs.TypeWriting.{written_variable}
use Rattle.dy_rules.specs.SeenTypes.{seen_variable}
use Rattle.dy_write_parts.specs.Parts.{is_none_of}
use Rattle.dy_write_parts.specs.Separated.{separated}
use Rattle.dy_write_parts.proofs.targets.push_variables.Given as goal

abbrev pub invariant-loop-variable : goal.invariant-loop-variable
invariant-loop-variable l = record {
  first : l.first ≡ is_none_of (map seen_variable (take l.variable-index l.variable-items));
  out : seen_fragments l.out.items ≡ seen_fragments l.fn.out.items ++ separated comma_mark written_variable (map seen_variable (take l.variable-index l.variable-items));
}
