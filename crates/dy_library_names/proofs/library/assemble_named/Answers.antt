use Rattle.std.proofs.Common.{refl}
use Rattle.dy_module_names.specs.Means.{outside_in}
use Rattle.dy_library_names.proofs.library.assemble_named.Goals as goal

pub returns : goal.returns
returns c = (outside_in c.of-names.result.names, c.of-names.ensures, c.in_ok-library.ensures, refl)
