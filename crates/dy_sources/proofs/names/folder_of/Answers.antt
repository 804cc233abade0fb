use Rattle.std.proofs.Common.{◌+◌, Some, None, take, add-one, lit<, sym, ap, ◌∙◌}
use Rattle.std.proofs.lemmas.Slice.{between_from_start}
use Rattle.dy_sources.proofs.Folders.{folder_of-none, folder_of-at}
use Rattle.std.proofs.lemmas.Str.Pattern.{rfind_char}
use Rattle.dy_sources.proofs.names.folder_of.Goals as goal

pub returns-in-Some : goal.returns-in-Some
returns-in-Some c =
    let at = rfind_char 47 c.args.name.now (Some c.in-Some.slash) c.in-Some.ensures.cases (lit< tt) in
    c.range.ensures.value
    ∙ between_from_start c.args.name.now (c.in-Some.slash + 1)
    ∙ ap (λ n. take n c.args.name.now) (add-one c.in-Some.slash)
    ∙ sym (folder_of-at c.args.name.now c.in-Some.slash at.0 at.1 at.2)

pub returns-in-None : goal.returns-in-None
returns-in-None c =
    sym (folder_of-none c.args.name.now (rfind_char 47 c.args.name.now None c.in-None.ensures.cases (lit< tt)))
