use Rattle.std.proofs.Common.{ap, ◌∙◌}
use Rattle.std.proofs.lemmas.Map.Text.{btree_map_updates_text}
use Rattle.std.specs.FinMap as map
use Rattle.dy_io.proofs.Entries.{files_of-unset}
use Rattle.dy_io.proofs.file_table.FileTable.remove.Goals as goal

-- the entry of that name is gone
pub returns : goal.returns
returns c =
    let sets = btree_map_updates_text c.args.name.now c.self.inside.entries c.remove.new.self _ c.remove.ensures.updates in
    files_of-unset c.self.inside.entries c.remove.new.self c.args.name.now sets
    ∙ ap (λ files. map.remove files c.args.name.now) c.self.view_is
