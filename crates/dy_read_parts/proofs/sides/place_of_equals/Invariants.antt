use Rattle.std.proofs.Common.{◌≡◌, ◌+◌, drop, option_map}
use Rattle.dy_tree.specs.Fragments.{seen_fragments}
use Rattle.dy_rules.specs.Bodies.{is_equals_at}
use Rattle.dy_read_parts.specs.Sides.{place_of}
use Rattle.dy_read_parts.proofs.sides.place_of_equals.Given as goal

abbrev pub invariant-loop-at : goal.invariant-loop-at
invariant-loop-at l = place_of is_equals_at (seen_fragments l.fragments) ≡ option_map (λ n. l.at + n) (place_of is_equals_at (seen_fragments (drop l.at l.fragments)))
