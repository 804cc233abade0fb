use Rattle.dy_types.proofs.Common.{common_by_meeting, meets_by_common}
use Rattle.dy_types.proofs.TypeLaws.{reflexive, transitive, instances, meets, symmetric, numbers, strings}
use Rattle.dy_types.proofs.laws.type_laws.Goals as goal

pub returns : goal.returns
returns c =
    record {
      reflexive = reflexive;
      transitive = transitive;
      instances = instances;
      meeting = meets;
      symmetric = symmetric;
      common = λ program member other first second. (common_by_meeting program member other, meets_by_common program member other first second);
      numbers = numbers;
      strings = strings;
    }
