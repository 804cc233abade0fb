use Rattle.dy_rules.proofs.TypeWritten.{type_writes, target_writes}
use Rattle.dy_rules.proofs.WholeForms.{reads_type, reads_all_types, one_type, reads_target, reads_all_targets, one_target_alone}
use Rattle.dy_rules.proofs.laws.type_laws.Goals as goal

pub returns : goal.returns
returns c =
    record {
      reads = reads_type;
      all = reads_all_types;
      one = one_type;
      writes = λ fragments type h. type_writes type fragments h;
      reads_targets = reads_target;
      all_targets = reads_all_targets;
      one_target = one_target_alone;
      writes_targets = λ fragments target h. target_writes target fragments h;
    }
