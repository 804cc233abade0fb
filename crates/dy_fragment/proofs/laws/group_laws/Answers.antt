use Rattle.dy_fragment.proofs.Verdicts.{given_grouped, given_all, given_deep, unique, unbalanced_none}
use Rattle.dy_fragment.proofs.Refusing.{refused}
use Rattle.dy_fragment.proofs.Telling.{determined}
use Rattle.dy_fragment.proofs.Leaves.{all_stand}
use Rattle.dy_fragment.proofs.laws.group_laws.Goals as goal

pub returns : goal.returns
returns c = record { given = given_grouped 200; all = given_all 200; one = unique; absorbed = all_stand; deep = given_deep 200; none = unbalanced_none 200; refused = refused 200; fault = determined 200 }
