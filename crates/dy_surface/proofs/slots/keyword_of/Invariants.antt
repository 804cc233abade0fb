use Rattle.std.proofs.Common.{◌≡◌, drop, map}
use Rattle.dy_rules.specs.SeenForms.{seen_option}
use Rattle.dy_surface.specs.Forms.{keyword_of}
use Rattle.dy_surface.proofs.slots.keyword_of.Given as goal

abbrev pub invariant-loop-option : goal.invariant-loop-option
invariant-loop-option l = keyword_of (map seen_option (drop l.option-index l.options)) ≡ keyword_of (map seen_option l.options)
