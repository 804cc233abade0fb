use Rattle.std.proofs.Common.{◌≡◌, ◌++◌, map, take}
use Rattle.dy_tree.specs.Fragments.{seen_fragments}
use Rattle.dy_rules.specs.Types.{types_of}
use Rattle.dy_rules.specs.TypeWriting.{written_types}
use Rattle.dy_rules.specs.SeenTypes.{seen_type}
use Rattle.dy_write_parts.specs.Parts.{is_none_of}
use Rattle.dy_write_parts.proofs.types.+types.Given as goal

abbrev pub invariant-push_types-loop-form : goal.invariant-push_types-loop-form
invariant-push_types-loop-form l = record {
  first : l.first ≡ is_none_of (map seen_type (take l.form-index l.form-items));
  out : seen_fragments l.out.items ≡ seen_fragments l.fn.out.items ++ written_types (types_of (map seen_type (take l.form-index l.form-items)));
}
