use Rattle.std.proofs.Common.{◌≡◌, map, take}
use Rattle.dy_term.specs.Types.{seen_type as seen_draft}
use Rattle.dy_rules.specs.SeenTypes.{seen_type}
use Rattle.dy_drafts.specs.Shapes.{type_of}
use Rattle.dy_drafts.proofs.types.+types.Given as goal

abbrev pub invariant-types_of-loop-form : goal.invariant-types_of-loop-form
invariant-types_of-loop-form l = map seen_draft l.types.items ≡ map (λ form. type_of (seen_type form)) (take l.form-index l.form-items)
