use Rattle.std.proofs.Common.{Option, subst}
use Rattle.dy_rules.specs.SeenForms.{seen_items}
use Rattle.dy_read_statements.specs.declared.method_read.NamedRead.{NamedRead}
use Rattle.dy_read_arms.specs.ReadBodies.{read_parameters}
use Rattle.dy_read_statements.specs.ReadMethods.{NamedDepth}
use Rattle.dy_read_forms.proofs.Deepest.{method_deep}
use Rattle.dy_read_forms.proofs.definitions.method_of.Goals as goal

pub invariant_of-result : goal.invariant_of-result
invariant_of-result c =
    let deep = subst (λ (found : Option NamedRead). NamedDepth 0 c.args.depth found) c.in-Some.is c.requires in
    record { deep_is = method_deep c.args.depth (read_parameters c.in-Some.named.method.parameters) (seen_items c.in-Some.named.method.body.items) deep }
