use Rattle.dy_sources.proofs.FileNames.{IsUtf8-printable}
use Rattle.dy_sources.proofs.names.text_of.Goals as goal

pub unreachable-requires : goal.unreachable-requires
unreachable-requires c = c.in-Err.ensures.cases.0 (IsUtf8-printable c.args.file.now c.requires)
