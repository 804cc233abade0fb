use Rattle.std.proofs.Common.{ap, ◌∙◌}
use Rattle.std.specs.FinMap as map
use Rattle.dy_io.proofs.Entries.{get-remove_other}
use Rattle.dy_io.proofs.mem_files.MemFilesFiles.write.Goals as goal

-- taking the file out leaves the others
pub returns-then-next_fails-clause-others : goal.returns-then-next_fails-clause-others
returns-then-next_fails-clause-others c = λ other differs.
    ap (λ files. map.get files other) c.remove.ensures
    ∙ get-remove_other c.self.inside.table c.args.name.now other differs
    ∙ ap (λ state. map.get state.files other) c.self.view_is
