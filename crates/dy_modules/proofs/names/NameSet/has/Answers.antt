use Rattle.std.proofs.Common.{◌∙◌, ap, is_some}
use Rattle.std.specs.Str.{bytes_eq}
use Rattle.dy_base.specs.Tables.{names}
use Rattle.dy_modules.specs.Clauses.{is_one_of}
use Rattle.dy_modules.proofs.NameSets.{placed_any}
use Rattle.dy_modules.proofs.names.NameSet.has.Goals as goal

pub returns : goal.returns
returns c = c.is_some.ensures ∙ ap is_some c.place_of.ensures ∙ placed_any (bytes_eq c.args.name.now) (names c.self.inside.list) ∙ ap (λ set. is_one_of set c.args.name.now) c.self.view_is
