use Rattle.std.proofs.Common.{◌≡◌}
use Rattle.dy_library_modules.specs.Texts.{sources_of, first_fault}
use Rattle.dy_library_modules.proofs.lexing.sources_of.Given as goal

abbrev pub invariant-loop-found : goal.invariant-loop-found
invariant-loop-found l = record {
  sources : l.sources ≡ sources_of l.yielded;
  first : l.first ≡ first_fault l.yielded;
}
