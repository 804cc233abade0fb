use Rattle.dy_lowering_whole.proofs.sizes.Libraries.{bodies_few, bodies_short, items_few, terms_short, units_small}
use Rattle.dy_lowering_whole.proofs.sizes_law.size_laws.Goals as goal

pub returns : goal.returns
returns c = record {
  terms = terms_short;
  short = bodies_short;
  few = bodies_few;
  items = items_few;
  small = units_small;
}
