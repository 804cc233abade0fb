use Rattle.dy_rules.proofs.ConstantSound.{list_sound, vector_sound}
use Rattle.dy_rules.proofs.ConstantComplete.{list_complete, vector_complete}
use Rattle.dy_rules.proofs.laws.constant_laws.Goals as goal

pub returns : goal.returns
returns c = record { reads_list = list_sound; all_lists = list_complete; reads_vector = vector_sound; all_vectors = vector_complete }
