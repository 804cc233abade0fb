use Rattle.std.proofs.Common.{map}
use Rattle.dy_rules.specs.SeenForms.{seen_item, seen_method, seen_parameters}
use Rattle.dy_read_bodies.proofs.BodyParts.{method_filled}
use Rattle.dy_read_bodies.proofs.bodies.named_of.Goals as goal

pub returns : goal.returns
returns c =
    let method = c.args.named.method in
    method_filled c.args.word c.args.named.name (seen_parameters method.parameters) (map seen_item method.body.items) (seen_method c.method_of.result) c.method_of.ensures
