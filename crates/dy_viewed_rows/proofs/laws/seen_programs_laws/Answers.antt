use Rattle.dy_viewed_rows.proofs.Apart.{programs_are_apart, seen_programs_are_joined}
use Rattle.dy_viewed_rows.proofs.Loaded.{loaded_are_seen}
use Rattle.dy_viewed_rows.proofs.laws.seen_programs_laws.Goals as goal

pub returns : goal.returns
returns c = record {
  apart = programs_are_apart;
  joined = seen_programs_are_joined;
  loaded = loaded_are_seen;
}
