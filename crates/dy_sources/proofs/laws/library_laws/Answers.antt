use Rattle.dy_sources.proofs.Uniqueness.{verdicts_are_one}
use Rattle.dy_sources.proofs.Chains.{answers_are_one, read_are_libraries, read_are_accepted}
use Rattle.dy_sources.proofs.laws.library_laws.Goals as goal

pub returns : goal.returns
returns c = record {
  verdict = verdicts_are_one;
  one = answers_are_one;
  libraries = read_are_libraries;
  accepted = read_are_accepted;
}
