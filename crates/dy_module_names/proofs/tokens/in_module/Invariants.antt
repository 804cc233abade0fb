use Rattle.std.proofs.Common.{◌≡◌, map}
use Rattle.dy_module_names.specs.Tokens.{in_module}
use Rattle.dy_module_names.proofs.tokens.in_module.Given as goal

abbrev pub invariant-loop-token : goal.invariant-loop-token
invariant-loop-token l = l.list ≡ map (in_module l.number) l.yielded
