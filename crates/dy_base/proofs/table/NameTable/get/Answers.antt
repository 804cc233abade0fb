use Rattle.std.proofs.Common.{ap, sym, ◌∙◌}
use Rattle.std.specs.FinMap as map
use Rattle.std.specs.Option.{option_copied}
use Rattle.dy_base.proofs.Tables.{get_hashed, get_ordered}
use Rattle.dy_base.proofs.table.NameTable.get.Goals as goal

-- what the first search found is what the table has
pub returns-in-Some : goal.returns-in-Some
returns-in-Some g c =
    get_hashed c.self.inside.hashed.entries c.self.inside.ordered.entries c.args.name.now c.in-Some.value.now (sym c.get.ensures.value ∙ ap option_copied c.in-Some.is)
    ∙ ap (λ table. map.get table c.args.name.now) c.self.view_is

-- and else what the second one did
pub returns-in-None : goal.returns-in-None
returns-in-None g c =
    c.get-in-None.ensures.value
    ∙ get_ordered c.self.inside.hashed.entries c.self.inside.ordered.entries c.args.name.now (sym c.get.ensures.value ∙ ap option_copied c.in-None.is)
    ∙ ap (λ table. map.get table c.args.name.now) c.self.view_is
