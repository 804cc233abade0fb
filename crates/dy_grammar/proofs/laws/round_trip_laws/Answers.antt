use Rattle.dy_rules.proofs.Parsing as parsing
use Rattle.dy_grammar.proofs.laws.round_trip_laws.Goals as goal

pub returns : goal.returns
returns c = record { again = λ fragments form result h le accepts. accepts.given form (parsing.again fragments form h le) }
