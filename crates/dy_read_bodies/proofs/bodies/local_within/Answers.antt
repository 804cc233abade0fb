use Rattle.std.proofs.Common.{map}
use Rattle.dy_rules.specs.SeenForms.{seen_item, seen_method}
use Rattle.dy_read_bodies.proofs.BodyParts.{local_filled}
use Rattle.dy_read_bodies.proofs.bodies.local_within.Goals as goal

pub returns : goal.returns
returns c = local_filled c.args.word.now _ (map seen_method c.args.methods.items) (seen_item c.local_of.result) c.local_of.ensures c.in_ok-copy.ensures
