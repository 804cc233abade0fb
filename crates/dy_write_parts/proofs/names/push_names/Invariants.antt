use Rattle.std.proofs.Common.{◌≡◌, ◌++◌, take}
use Rattle.dy_tree.specs.Fragments.{seen_fragments}
use Rattle.dy_rules.specs.FormWriting.{written_names}
use Rattle.dy_write_parts.specs.Parts.{is_none_of}
use Rattle.dy_write_parts.proofs.names.push_names.Given as goal

abbrev pub invariant-loop-name : goal.invariant-loop-name
invariant-loop-name l = record {
  first : l.first ≡ is_none_of (take l.name-index l.name-items);
  out : seen_fragments l.out.items ≡ seen_fragments l.fn.out.items ++ written_names (take l.name-index l.name-items);
}
