use Rattle.dy_rules.proofs.Parsing.{accepts, accepts_all, deep, all_deep, none, all_none, again}
use Rattle.dy_rules.proofs.laws.parsing_laws.Goals as goal

pub returns : goal.returns
returns c = record { accepts = accepts; accepts_all = accepts_all; deep = deep; all_deep = all_deep; none = none; all_none = all_none; again = again }
