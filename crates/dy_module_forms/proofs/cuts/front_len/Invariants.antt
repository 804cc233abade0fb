use Rattle.std.proofs.Common.{◌≡◌, ◌+◌, drop}
use Rattle.dy_tree.specs.Fragments.{seen_fragments}
use Rattle.dy_module_forms.specs.Cuts.{front_len}
use Rattle.dy_module_forms.proofs.cuts.front_len.Given as goal

abbrev pub invariant-loop-at : goal.invariant-loop-at
invariant-loop-at l = front_len l.mark (seen_fragments l.fragments) ≡ l.at + front_len l.mark (seen_fragments (drop l.at l.fragments))
