-- The types that the reader gives.
use Rattle.std.specs.Prelude.{List, map}
use Rattle.dy_tree.specs.declared.types.TypeForm.{TypeForm}
use Rattle.dy_rules.specs.SeenTypes.{seen_type}
use Rattle.dy_rules.specs.Types.{TypeTree}
use Rattle.dy_rules_depth.specs.Capping.{filled_type}

-- the type that stands in a form
abbrev pub read_type : TypeForm → TypeTree
read_type form = filled_type (seen_type form)

abbrev pub read_types : List TypeForm → List TypeTree
read_types forms = map read_type forms
