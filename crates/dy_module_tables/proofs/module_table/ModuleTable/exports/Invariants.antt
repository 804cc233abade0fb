use Rattle.dy_module_tables.specs.Graphs.{AreFolded}
use Rattle.dy_module_tables.proofs.Exported.{Goes}
use Rattle.dy_module_tables.proofs.module_table.ModuleTable.exports.Given as goal

abbrev pub invariant-loop-name : goal.invariant-loop-name
invariant-loop-name l = AreFolded l.self.modules → Goes l.self.modules l.self.defined l.self.shown l.name-index l.list
