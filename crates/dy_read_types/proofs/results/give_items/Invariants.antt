use Rattle.std.proofs.Common.{◌≡◌, max, length, codes}
use Rattle.dy_rules.specs.Signatures.{rest_variable}
use Rattle.dy_tree.specs.Fragments.{seen_fragments}
use Rattle.dy_rules.specs.Arguments.{is_comma_fragment}
use Rattle.dy_rules.specs.Depth.{variables_depth}
use Rattle.dy_rules.specs.TypeReading.{marked, variable_items}
use Rattle.dy_read_types.specs.Endings.{parts_before, changed_parts}
use Rattle.dy_read_types.specs.VariableFronts.{read_variables, capped_variable}
use Rattle.dy_read_types.proofs.results.give_items.Given as goal

abbrev pub invariant-loop-division : goal.invariant-loop-division
invariant-loop-division l =
    let parts = changed_parts capped_variable capped_variable is_comma_fragment (marked (codes "#rest")) variable_items rest_variable in
    record {
      read : parts (seen_fragments l.fragments) ≡ parts_before (read_variables l.variables.items) (parts (seen_fragments l.rest));
      depth : l.depth ≡ max l.fn.depth (variables_depth (read_variables l.variables.items));
    }

abbrev pub decreases-loop-division : goal.decreases-loop-division
decreases-loop-division l = length l.rest
