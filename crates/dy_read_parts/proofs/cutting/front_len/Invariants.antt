use Rattle.std.proofs.Common.{◌≡◌, ◌+◌, drop}
use Rattle.dy_tree.specs.Fragments.{seen_fragments}
use Rattle.dy_read_parts.specs.Pieces.{front_len}
use Rattle.dy_read_parts.specs.Separators.{separates}
use Rattle.dy_read_parts.proofs.cutting.front_len.Given as goal

abbrev pub invariant-loop-at : goal.invariant-loop-at
invariant-loop-at l =
    front_len (separates l.separator) l.bound (seen_fragments l.fragments) ≡ l.at + front_len (separates l.separator) l.behind_let (seen_fragments (drop l.at l.fragments))
