use Rattle.std.proofs.Common.{map, ap, ◌∙◌}
use Rattle.dy_values.specs.Identity.{is_same_binding}
use Rattle.dy_keys.specs.Keys.{name_of}
use Rattle.dy_lower_lists.proofs.Keyed.{inserted}
use Rattle.dy_lower_lists.proofs.lists.add_name.Goals as goal

pub returns : goal.returns
returns c = ap (map name_of) c.in_ok-insert.ensures.keys ∙ inserted is_same_binding name_of c.args.names.now.keys (record { 0 = c.args.name })
