use Rattle.std.proofs.Common.{◌≡◌, ◌++◌, map, take}
use Rattle.dy_tree.specs.Fragments.{seen_fragments}
use Rattle.dy_rules.specs.Marks.{comma_mark}
use Rattle.dy_rules.specs.TypeWriting.{written_required}
use Rattle.dy_rules.specs.SeenTypes.{seen_required}
use Rattle.dy_write_parts.specs.Parts.{is_none_of}
use Rattle.dy_write_parts.specs.Separated.{separated}
use Rattle.dy_write_parts.proofs.parameter_list.push_each_required.Given as goal

abbrev pub invariant-loop-parameter : goal.invariant-loop-parameter
invariant-loop-parameter l = record {
  first : l.first ≡ is_none_of (map seen_required (take l.parameter-index l.parameter-items));
  out : seen_fragments l.out.items ≡ seen_fragments l.fn.out.items ++ separated comma_mark written_required (map seen_required (take l.parameter-index l.parameter-items));
}
