use Rattle.std.proofs.Common.{◌≡◌, ◌++◌, take, refl, ap, sym, ◌∙◌, arith}
use Rattle.std.proofs.lemmas.Grind.{common_steps}
use Rattle.std.proofs.lemmas.List.{take_min}
use Rattle.std.specs.FinMap as map
use Rattle.dy_io.proofs.mem_files.MemFilesFiles.read.Goals as goal

-- the call that was counted is the one that the clause speaks of
pub returns-then-next_fails-clause-fails : goal.returns-then-next_fails-clause-fails
returns-then-next_fails-clause-fails c =
    (λ _. rw (← c.self.view_is) (c.next_fails.ensures.fails.0 c.if-next_fails.true), λ _. refl)

-- the bytes are those of the file of that name, and the first of them came
pub returns-clause-answers : goal.returns-clause-answers
returns-clause-answers c =
    let bytes = c.in-Some.bytes.now in
    let first = take_min c.args.most bytes in
    let came : c.extend_from_slice.new.self.items ≡ c.args.into.now.items ++ take c.args.most bytes = grind (arith, common_steps, first) in
    (bytes, sym (c.in-Some.ensures ∙ ap (λ state. map.get state.files c.args.name.now) c.self.view_is), came)
