-- The arguments that the reader holds.
use Rattle.std.specs.Prelude.{List}
use Rattle.dy_rules.specs.Trees.{Argument}
use Rattle.dy_read_outers.specs.declared.passed.Passed.{Passed}
use Rattle.dy_read_outers.specs.ReadTrees.{read_arguments}

abbrev pub read_passed : Passed → List Argument
read_passed passed = read_arguments passed.arguments.items
