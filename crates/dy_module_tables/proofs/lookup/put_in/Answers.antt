use Rattle.std.proofs.Common.{◌≡◌, Some, length, slice_get, slice_set, refl, ap, ◌∙◌}
use Rattle.std.proofs.lemmas.Option.{slice_get_read}
use Rattle.dy_module_tables.proofs.Targets.{put_set}
use Rattle.dy_module_tables.proofs.lookup.put_in.Goals as goal

pub returns-clause-put : goal.returns-clause-put
returns-clause-put c =
    let defs = c.args.defined.now.items in
    let m = c.args.number in
    let t = c.index_mut.result.now in
    let at : slice_get defs m ≡ Some t = slice_get_read defs (length defs) m t refl c.requires c.index_mut.ensures.value in
    ap (slice_set defs m) c.in_ok-set.ensures.set ∙ put_set defs m t c.args.name.now c.args.id at
