use Rattle.dy_module_names.specs.Means.{outside_in}
use Rattle.dy_library_names.proofs.reading.read_table.Goals as goal

pub returns : goal.returns
returns c = (outside_in c.of-names.result.names, c.of-names.ensures, c.in_ok-read.ensures)
