use Rattle.std.proofs.Common.{◌≡◌, string_bytes, rules, ◌∙◌}
use Rattle.std.proofs.lemmas.Map.Text.{btree_map_updates_text}
use Rattle.std.specs.FinMap as map
use Rattle.dy_io.proofs.Entries.{files_of-set}
use Rattle.dy_io.proofs.file_table.FileTable.set.Goals as goal

-- the entry that was set has the bytes of the name, and those that are to be the contents
pub returns-clause-ok : goal.returns-clause-ok
returns-clause-ok c =
    let key = c.in_ok-name.name in
    let named : string_bytes key ≡ c.args.name.now = c.in_ok-name.ensures.ok in
    let same : c.in_ok-bytes.bytes.items ≡ c.args.bytes.now = search rules in
    let sets = btree_map_updates_text (string_bytes key) c.self.inside.entries c.insert.new.self _ c.in_ok-insert.ensures.updates in
    files_of-set c.self.inside.entries c.insert.new.self (string_bytes key) c.in_ok-bytes.bytes sets
    ∙ (λ i. map.insert (c.self.view_is i) (named i) (same i))
