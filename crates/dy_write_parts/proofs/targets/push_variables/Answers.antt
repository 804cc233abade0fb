use Rattle.std.proofs.Common.{◌<◌, length, refl, arith}
use Rattle.dy_rules.specs.Marks.{comma_mark}
use Rattle.dy_rules.specs.TypeWriting.{written_variable}
use Rattle.dy_rules.specs.SeenTypes.{seen_variable}
use Rattle.dy_write_parts.specs.Separated.{separated}
use Rattle.dy_write_parts.proofs.Separated.{separated_step, some_seen}
use Rattle.dy_write_parts.proofs.targets.push_variables.Goals as goal

pub loop-variable-preserved : goal.loop-variable-preserved
loop-variable-preserved c =
    let lt : c.loop-variable.variable-index < length c.deref-variable-items.result.now = omega arith in
    record {
      first = some_seen seen_variable c.deref-variable-items.result.now c.loop-variable.variable-index c.variable-item.result lt;
      out =
          separated_step comma_mark written_variable (separated comma_mark written_variable) (λ _. refl) seen_variable _ _ _ _ c.loop-variable.first c.deref-variable-items.result.now c.loop-variable.variable-index c.variable-item.result lt c.variable-item.is
          c.loop-variable.invariant.first c.loop-variable.invariant.out c.in_ok-push_comma.ensures c.in_ok-push_variable.ensures;
    }
