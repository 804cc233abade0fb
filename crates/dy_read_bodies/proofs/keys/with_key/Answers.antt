use Rattle.std.proofs.Common.{Option, Some, subst}
use Rattle.dy_tree.specs.declared.expression.Key.{Key}
use Rattle.dy_read_shapes.specs.ReadKeys.{KeyDepth}
use Rattle.dy_read_shapes.proofs.Keys.{keys_deeper}
use Rattle.dy_read_bodies.proofs.keys.with_key.Goals as goal

pub returns-in_ok-push-in-Some-clause-depth : goal.returns-in_ok-push-in-Some-clause-depth
returns-in_ok-push-in-Some-clause-depth c outer old new deep e =
    let more : KeyDepth old new (Some c.in-Some.key) = subst (λ (found : Option Key). KeyDepth old new found) c.in-Some.is deep in
    keys_deeper outer old new c.args.keys.items c.push.new.self.items c.in-Some.key c.in_ok-push-in-Some.ensures.items e more
