use Rattle.dy_library_names.proofs.SameAnswers.{same_reading, same_answer}
use Rattle.dy_library_names.proofs.laws.naming_laws.Goals as goal

pub returns : goal.returns
returns c = record { readings = same_reading; answers = same_answer }
