use Rattle.std.proofs.Common.{◌≡◌, length, map}
use Rattle.dy_tree.specs.Fragments.{seen_fragments}
use Rattle.dy_rules.specs.Arguments.{is_comma_fragment}
use Rattle.dy_rules.specs.Cutting.{each_other}
use Rattle.dy_rules.specs.SeenTypes.{seen_bound}
use Rattle.dy_rules.specs.TypeReading.{bound_items}
use Rattle.dy_read_parts.specs.Pieces.{others_in, read_before}
use Rattle.dy_read_types.proofs.limits.bounds_behind.Given as goal

abbrev pub invariant-loop-behind : goal.invariant-loop-behind
invariant-loop-behind l =
    each_other bound_items (others_in is_comma_fragment (seen_fragments l.fragments)) ≡ read_before (map seen_bound l.bounds.items) (each_other bound_items (others_in is_comma_fragment (seen_fragments l.rest)))

abbrev pub decreases-loop-behind : goal.decreases-loop-behind
decreases-loop-behind l = length l.rest
