use Rattle.std.proofs.Common.{ap, ◌∙◌, List}
use Rattle.dy_rules.specs.Reading.{whole}
use Rattle.dy_read_outers.specs.declared.outer.Entry.{Entry}
use Rattle.dy_read_outers.specs.Outers.{outer_from}
use Rattle.dy_read_outers.proofs.Stacks.{outer_push}
use Rattle.dy_read_outers.proofs.outer.Outer.push.Goals as goal

pub returns : goal.returns
returns c = ap (λ (stack : List Entry). outer_from whole stack) c.in_ok-push.ensures.items ∙ outer_push c.args.self.now.entries.items whole c.args.entry
