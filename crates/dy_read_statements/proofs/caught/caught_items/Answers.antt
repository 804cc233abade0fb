use Rattle.std.proofs.Common.{Option, option_map, sym, ap, ◌∙◌}
use Rattle.dy_tree.specs.declared.token.Token.{Token}
use Rattle.dy_tree.specs.Fragments.{seen_fragments}
use Rattle.dy_rules.specs.Blocks.{caught_of}
use Rattle.dy_rules.specs.Fragments.{items_of}
use Rattle.dy_rules.specs.TypeReading.{type_items}
use Rattle.dy_rules_depth.specs.Capping.{capping}
use Rattle.dy_rules_depth.specs.ReaderChanges.{changed_caught}
use Rattle.dy_read_statements.specs.CaughtShapes.{caught_read, variable_of}
use Rattle.dy_read_types.specs.TypeCaps.{read_type}
use Rattle.dy_read_statements.specs.declared.caught.CaughtShape.{CaughtShape}
use Rattle.dy_read_statements.proofs.Blocks.{caught_through, caught_depth}
use Rattle.dy_read_statements.proofs.caught.caught_items.Goals as goal

pub returns-in_ok-condition-in-Some-clause-found : goal.returns-in_ok-condition-in-Some-clause-found
returns-in_ok-condition-in-Some-clause-found c =
    let variable = variable_of c.in-Some.shape.variable in
    let is = ap (λ (shape : Option CaughtShape). option_map (changed_caught capping) (caught_read shape)) (sym c.in-Some.is) ∙ ap (option_map (changed_caught capping)) (sym c.caught_shape.ensures.found) in
    c.caught_with.ensures ∙ ap (λ (name : Option Token). option_map (caught_of name) (option_map read_type c.in_ok-condition-in-Some.condition)) c.in_ok-variable-in-Some.ensures
    ∙ ap (option_map (caught_of variable)) c.in_ok-condition-in-Some.ensures.found ∙ caught_through variable (type_items (items_of (seen_fragments c.in-Some.shape.condition.now))) ∙ is

pub returns-in_ok-condition-in-Some-clause-depth : goal.returns-in_ok-condition-in-Some-clause-depth
returns-in_ok-condition-in-Some-clause-depth c = caught_depth c.in_ok-variable-in-Some.variable c.args.depth.now c.type_items.new.depth c.in_ok-condition-in-Some.condition c.caught_with.result c.caught_with.ensures c.in_ok-condition-in-Some.ensures.depth
