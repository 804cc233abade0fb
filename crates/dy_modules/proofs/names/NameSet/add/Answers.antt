use Rattle.std.proofs.Common.{◌∙◌, ◌∷◌, ◌++◌, [], if◌then◌else◌, ap}
use Rattle.std.proofs.lemmas.Result.{on_ok_weaker}
use Rattle.dy_base.specs.Tables.{names}
use Rattle.dy_modules.specs.Clauses.{is_one_of}
use Rattle.dy_modules.proofs.NameSets.{names-insert}
use Rattle.dy_modules.proofs.names.NameSet.add.Goals as goal

pub returns-clause-added : goal.returns-clause-added
returns-clause-added c =
    let name = c.args.name.now in
    on_ok_weaker c.set.result (λ is. ap names is ∙ names-insert c.self.inside.list name _ ∙ ap (λ set. if is_one_of set name then set else set ++ name ∷ []) c.self.view_is) c.set.ensures.order
