use Rattle.std.proofs.Common.{◌≡◌, length}
use Rattle.dy_tree.specs.Fragments.{seen_fragments}
use Rattle.dy_rules.specs.FormReading.{names_in}
use Rattle.dy_read_parts.specs.Pieces.{read_before}
use Rattle.dy_read_parts.proofs.names.names_in.Given as goal

abbrev pub invariant-loop-first : goal.invariant-loop-first
invariant-loop-first l = names_in (seen_fragments l.fragments) ≡ read_before l.names.items (names_in (seen_fragments l.rest))

abbrev pub decreases-loop-first : goal.decreases-loop-first
decreases-loop-first l = length l.rest
