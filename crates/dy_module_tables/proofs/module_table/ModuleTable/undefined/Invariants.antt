use Rattle.std.proofs.Common.{drop, Option}
use Rattle.dy_base.specs.declared.fault.Place.{Place}
use Rattle.dy_modules.specs.Clauses.{Name}
use Rattle.dy_module_tables.specs.Graphs.{FirstLacking}
use Rattle.dy_module_tables.proofs.module_table.ModuleTable.undefined.Given as goal

-- what is first among the rest is first among all
abbrev pub invariant-loop-promise : goal.invariant-loop-promise
invariant-loop-promise l = (o : Option (Name × Place)) → FirstLacking l.self.modules l.self.defined (drop l.promise-index l.self.promised) o → FirstLacking l.self.modules l.self.defined l.self.promised o
