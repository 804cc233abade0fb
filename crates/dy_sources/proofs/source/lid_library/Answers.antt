use Rattle.std.proofs.Common.{arith}
use Rattle.dy_lid_files.proofs.Agreement.{names_in_form}
use Rattle.dy_sources.proofs.source.lid_library.Goals as goal

pub form_library-requires-clause-few : goal.form_library-requires-clause-few
form_library-requires-clause-few g c = λ found is.
    let same = names_in_form c.args.text.now found c.named_files.result is c.named_files.ensures in
    omega (arith, c.if-named_files-le-FILES_LIMIT.true)
