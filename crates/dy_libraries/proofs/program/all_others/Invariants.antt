use Rattle.std.proofs.Common.{◌≡◌, [], length, get_or, EachIndex}
use Rattle.dy_libraries.specs.Programs.{others_of}
use Rattle.dy_libraries.proofs.program.all_others.Given as goal

abbrev pub invariant-loop-number : goal.invariant-loop-number
invariant-loop-number l = record {
  count : length l.all.items ≡ l.number;
  others : EachIndex l.all.items (λ number. get_or l.all.items number [] ≡ others_of l.compiled number);
}
