use Rattle.dy_unit_sizes.proofs.Bodies.{bodies_short}
use Rattle.dy_unit_sizes.proofs.Libraries.{bodies_few, items_few, units_small}
use Rattle.dy_unit_sizes.proofs.laws.unit_size_laws.Goals as goal

pub returns : goal.returns
returns c = record {
  few = bodies_few;
  short = λ library most parts. bodies_short most library parts;
  items = items_few;
  small = units_small;
}
