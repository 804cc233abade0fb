-- Lists and vectors of literals, as the source holds them, in the core (DRM 3, "Literal
-- constants").
use Rattle.std.specs.Prelude.{List, map, Option}
use Rattle.std.specs.Option.{option_map}
use Rattle.dy_tree.specs.declared.types.ConstantForm.{ConstantForm}
use Rattle.dy_rules.specs.ConstantTrees as source
use Rattle.dy_rules.specs.SeenTypes.{seen_constant}
use Rattle.dy_term.specs.declared.literal.Literal.{Literal}
use Rattle.dy_drafts.specs.Shapes.{constant_of, constants_of, tail_of}

-- the literal that an item is
abbrev pub literal_in : ConstantForm → Literal
literal_in form = constant_of (seen_constant form)

-- the literals that items are
abbrev pub literals_in : List ConstantForm → List Literal
literals_in forms = constants_of (source.constants_of (map seen_constant forms))

-- the literal behind a dot
abbrev pub last_in : Option ConstantForm → Option Literal
last_in form = tail_of (source.tail_of (option_map seen_constant form))
