use Rattle.std.proofs.Common.{◌∙◌, ap, sym, Option}
use Rattle.dy_tree.specs.declared.token.Token.{Token}
use Rattle.dy_rules.specs.Trees.{literal}
use Rattle.dy_rules.specs.Reading.{whole}
use Rattle.dy_read_outers.specs.Outers.{outer_from, signed}
use Rattle.dy_read_outers.proofs.Stacks.{none_left, minus_popped, minus_none}
use Rattle.dy_read_outers.proofs.outer.Outer.pop_minus.Goals as goal

pub returns-then-ends_with_minus : goal.returns-then-ends_with_minus
returns-then-ends_with_minus c digits =
    minus_popped c.args.self.now.entries.items c.pop.new.self.items c.pop.result c.pop.ensures.items (none_left c.args.self.now.entries.items c.pop.new.self.items c.pop.result c.args.self.now.entries.len _ _ c.pop.ensures.rest c.pop.ensures.cases) (sym c.ends_with_minus.ensures ∙ c.if-ends_with_minus.true) digits
    ∙ ap (λ (sign : Option Token). (literal (signed sign digits), outer_from whole c.pop.new.self.items)) (sym c.sign_in.ensures)

pub returns-else-ends_with_minus : goal.returns-else-ends_with_minus
returns-else-ends_with_minus c = minus_none c.args.self.now.entries.items (sym c.ends_with_minus.ensures ∙ c.if-ends_with_minus.false)
