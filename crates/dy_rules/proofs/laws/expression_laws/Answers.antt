use Rattle.dy_rules.proofs.Whole.{reads, reads_all, one_tree, reads_arguments, reads_all_arguments, one_arguments, all_written, read_again, single_arguments}
use Rattle.dy_rules.proofs.laws.expression_laws.Goals as goal

pub returns : goal.returns
returns c =
    record {
      reads = reads;
      all = reads_all;
      one = one_tree;
      reads_arguments = reads_arguments;
      all_arguments = reads_all_arguments;
      one_arguments = one_arguments;
      writes = all_written;
      again = read_again;
      single = single_arguments;
    }
