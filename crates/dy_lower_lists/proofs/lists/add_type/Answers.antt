use Rattle.std.proofs.Common.{map, ap, ◌∙◌}
use Rattle.dy_lowered.specs.Sameness.{is_same_type}
use Rattle.dy_keys.specs.Keys.{type_of}
use Rattle.dy_lower_lists.proofs.Keyed.{inserted}
use Rattle.dy_lower_lists.proofs.lists.add_type.Goals as goal

pub returns : goal.returns
returns c = ap (map type_of) c.in_ok-insert.ensures.keys ∙ inserted is_same_type type_of c.args.types.now.keys (record { 0 = c.args.declared })
