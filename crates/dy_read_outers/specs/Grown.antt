-- The trees and the arguments that the reader holds.
use Rattle.dy_rules.specs.Trees.{Tree}
use Rattle.dy_read_outers.specs.declared.grown.Grown.{Grown}
use Rattle.dy_read_outers.specs.ReadTrees.{read_tree}

abbrev pub read_grown : Grown → Tree
read_grown grown = read_tree grown.tree.value
