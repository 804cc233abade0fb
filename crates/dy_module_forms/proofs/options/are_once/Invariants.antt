use Rattle.std.proofs.Common.{◌≡◌, length}
use Rattle.dy_module_forms.specs.Clauses.{are_once}
use Rattle.dy_module_forms.proofs.options.are_once.Given as goal

abbrev pub invariant-loop-first : goal.invariant-loop-first
invariant-loop-first l = are_once l.rest ≡ are_once l.options

abbrev pub decreases-loop-first : goal.decreases-loop-first
decreases-loop-first l = length l.rest
