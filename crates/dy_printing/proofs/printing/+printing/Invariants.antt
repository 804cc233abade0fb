use Rattle.std.proofs.Common.{◌≡◌, ◌+◌, ◌*◌, ◌≤◌, true, drop, codes}
use Rattle.dy_printing.specs.Printing.{behind, behind_commas, rest_printed, printed_within}
use Rattle.dy_printing.proofs.printing.+printing.Given as goal

abbrev pub decreases-write_value : goal.decreases-write_value
decreases-write_value l = 5 * l.levels + 1

abbrev pub decreases-write_inside : goal.decreases-write_inside
decreases-write_inside l = 5 * l.levels

abbrev pub decreases-write_vector : goal.decreases-write_vector
decreases-write_vector l = 5 * l.levels + 4

abbrev pub decreases-write_others : goal.decreases-write_others
decreases-write_others l = 5 * l.levels + 2

abbrev pub decreases-write_list : goal.decreases-write_list
decreases-write_list l = 5 * l.levels + 4

abbrev pub decreases-write_rest : goal.decreases-write_rest
decreases-write_rest l = 5 * l.levels + 3

abbrev pub decreases-write_end : goal.decreases-write_end
decreases-write_end l = 5 * l.levels + 2

-- What the rest prints from here on, all prints from the start.
abbrev pub invariant-write_others-loop-item : goal.invariant-write_others-loop-item
invariant-write_others-loop-item l =
    (l.fuel.left ≤ l.fn.fuel.left)
    × (behind l.fn.into.items (behind_commas (printed_within l.program l.store l.levels true) (codes "]") l.others l.fn.fuel.left)
    ≡ behind l.into.items (behind_commas (printed_within l.program l.store l.levels true) (codes "]") (drop l.item-index l.others) l.fuel.left))

abbrev pub invariant-write_rest-loop-head : goal.invariant-write_rest-loop-head
invariant-write_rest-loop-head l =
    (l.fuel.left ≤ l.fn.fuel.left)
    × (behind l.fn.into.items (rest_printed (printed_within l.program l.store l.levels true) l.store l.fn.tail l.fn.fuel.left)
    ≡ behind l.into.items (rest_printed (printed_within l.program l.store l.levels true) l.store l.rest l.fuel.left))

abbrev pub decreases-write_rest-loop-head : goal.decreases-write_rest-loop-head
decreases-write_rest-loop-head l = l.fuel.left
