use Rattle.std.proofs.Common.{◌≡◌, ◌+◌, drop}
use Rattle.dy_tree.specs.Fragments.{seen_fragments}
use Rattle.dy_module_forms.specs.Cuts.{piece_len}
use Rattle.dy_module_forms.proofs.cuts.piece_len.Given as goal

abbrev pub invariant-loop-at : goal.invariant-loop-at
invariant-loop-at l = piece_len (seen_fragments l.fragments) ≡ l.at + piece_len (seen_fragments (drop l.at l.fragments))
