use Rattle.std.proofs.Common.{◌≡◌, map, take}
use Rattle.dy_rules.specs.SeenTypes.{seen_type as type_tree}
use Rattle.dy_term.specs.Types.{seen_type}
use Rattle.dy_drafts.specs.Shapes.{type_of}
use Rattle.dy_surface.proofs.forms.types_of.Given as goal

abbrev pub invariant-loop-form : goal.invariant-loop-form
invariant-loop-form l = map seen_type l.types.items ≡ map type_of (map type_tree (take l.form-index l.form-items))
