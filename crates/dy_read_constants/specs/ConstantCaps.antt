-- The constants that the reader gives.
use Rattle.std.specs.Prelude.{List, map}
use Rattle.dy_tree.specs.declared.types.ConstantForm.{ConstantForm}
use Rattle.dy_rules.specs.SeenTypes.{seen_constant}
use Rattle.dy_rules.specs.ConstantTrees.{Constant}
use Rattle.dy_rules_depth.specs.Capping.{filled_constant}

-- the constant that stands in a form
abbrev pub read_constant : ConstantForm → Constant
read_constant form = filled_constant (seen_constant form)

abbrev pub read_constants : List ConstantForm → List Constant
read_constants forms = map read_constant forms
