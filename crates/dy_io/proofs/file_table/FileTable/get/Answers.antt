use Rattle.std.proofs.Common.{Some, ap, sym, ◌∙◌}
use Rattle.std.specs.Option.{option_map}
use Rattle.std.specs.FinMap as map
use Rattle.dy_io.proofs.Entries.{get-files_of}
use Rattle.dy_io.proofs.file_table.FileTable.get.Goals as goal

-- what the search among the entries found is what the map has
pub returns-in-Some : goal.returns-in-Some
returns-in-Some c =
    ap Some c.as_slice.ensures.value
    ∙ ap (option_map (λ bytes. bytes.items)) c.in-Some.ensures.value
    ∙ sym (get-files_of c.self.inside.entries c.args.name.now)
    ∙ ap (λ files. map.get files c.args.name.now) c.self.view_is

pub returns-in-None : goal.returns-in-None
returns-in-None c =
    ap (option_map (λ bytes. bytes.items)) c.in-None.ensures.value
    ∙ sym (get-files_of c.self.inside.entries c.args.name.now)
    ∙ ap (λ files. map.get files c.args.name.now) c.self.view_is
