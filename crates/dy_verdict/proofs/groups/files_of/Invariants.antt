use Rattle.std.proofs.Common.{◌≡◌, map}
use Rattle.dy_verdict.specs.Trees.{form_tokens}
use Rattle.dy_verdict.proofs.groups.files_of.Given as goal

abbrev pub invariant-loop-source : goal.invariant-loop-source
invariant-loop-source l = l.files.items ≡ map (form_tokens l.names) l.yielded
