use Rattle.std.proofs.Common.{◌≡◌, ◌++◌, map, take}
use Rattle.dy_tree.specs.Fragments.{seen_fragments}
use Rattle.dy_rules.specs.ConstantTrees.{constants_of}
use Rattle.dy_rules.specs.Writing.{written_items}
use Rattle.dy_rules.specs.SeenTypes.{seen_constant}
use Rattle.dy_write_parts.specs.Parts.{is_none_of}
use Rattle.dy_write_parts.proofs.constants.+constants.Given as goal

abbrev pub invariant-push_items-loop-form : goal.invariant-push_items-loop-form
invariant-push_items-loop-form l = record {
  first : l.first ≡ is_none_of (map seen_constant (take l.form-index l.form-items));
  out : seen_fragments l.out.items ≡ seen_fragments l.fn.out.items ++ written_items (constants_of (map seen_constant (take l.form-index l.form-items)));
}
