use Rattle.dy_names.proofs.Naming.{found_place, place_found, none_others, others_none, stays, keeps_origin}
use Rattle.dy_names.proofs.laws.naming_laws.Goals as goal

pub returns : goal.returns
returns c = record {
  found = λ locals name denotation. (found_place locals name denotation, place_found locals name denotation);
  none = λ locals name. (none_others locals name, others_none locals name);
  renamed = stays;
  origin = keeps_origin;
}
