use Rattle.std.proofs.Common.{map, ap, ◌∙◌}
use Rattle.dy_lowered.specs.Sameness.{is_same_literal}
use Rattle.dy_keys.specs.Keys.{literal_of}
use Rattle.dy_lower_lists.proofs.Keyed.{inserted}
use Rattle.dy_lower_lists.proofs.lists.add_literal.Goals as goal

pub returns : goal.returns
returns c = ap (map literal_of) c.in_ok-insert.ensures.keys ∙ inserted is_same_literal literal_of c.args.constants.now.keys c.args.key
