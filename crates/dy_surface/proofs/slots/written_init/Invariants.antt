use Rattle.std.proofs.Common.{◌≡◌, drop, map}
use Rattle.dy_rules.specs.SeenForms.{seen_option}
use Rattle.dy_surface.specs.Forms.{written_init}
use Rattle.dy_surface.proofs.slots.written_init.Given as goal

abbrev pub invariant-loop-option : goal.invariant-loop-option
invariant-loop-option l = written_init (map seen_option (drop l.option-index l.options)) ≡ written_init (map seen_option l.options)
