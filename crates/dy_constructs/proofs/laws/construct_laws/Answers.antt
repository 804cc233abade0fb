use Rattle.dy_constructs.specs.Forms.{in_form}
use Rattle.dy_constructs.proofs.Members.{found_among, found_not_come, all_come}
use Rattle.dy_constructs.proofs.laws.construct_laws.Goals as goal

pub returns : goal.returns
returns c =
    record {
      holds = λ construct form e. found_among (in_form form) construct e;
      absent = λ construct form e. found_not_come (in_form form) construct e;
      none = λ construct form e held. all_come held e;
    }
