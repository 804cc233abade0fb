use Rattle.std.proofs.Common.{◌≡◌, drop}
use Rattle.std.specs.List.{list_any}
use Rattle.dy_module_forms.specs.Clauses.{is_alike}
use Rattle.dy_module_forms.proofs.options.any_alike.Given as goal

abbrev pub invariant-loop-other : goal.invariant-loop-other
invariant-loop-other l = list_any (is_alike l.option) (drop l.other-index l.options) ≡ list_any (is_alike l.option) l.options
