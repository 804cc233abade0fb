use Rattle.std.proofs.Common.{◌<◌, length, refl, arith}
use Rattle.dy_rules.specs.Marks.{comma_mark}
use Rattle.dy_rules.specs.TypeWriting.{written_required}
use Rattle.dy_rules.specs.SeenTypes.{seen_required}
use Rattle.dy_write_parts.specs.Separated.{separated}
use Rattle.dy_write_parts.proofs.Separated.{separated_step, some_seen}
use Rattle.dy_write_parts.proofs.parameter_list.push_each_required.Goals as goal

pub loop-parameter-preserved : goal.loop-parameter-preserved
loop-parameter-preserved c =
    let lt : c.loop-parameter.parameter-index < length c.deref-parameter-items.result.now = omega arith in
    record {
      first = some_seen seen_required c.deref-parameter-items.result.now c.loop-parameter.parameter-index c.parameter-item.result lt;
      out =
          separated_step comma_mark written_required (separated comma_mark written_required) (λ _. refl) seen_required _ _ _ _ c.loop-parameter.first c.deref-parameter-items.result.now c.loop-parameter.parameter-index c.parameter-item.result lt c.parameter-item.is
          c.loop-parameter.invariant.first c.loop-parameter.invariant.out c.in_ok-push_comma.ensures c.in_ok-push_required.ensures;
    }
