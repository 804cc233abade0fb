use Rattle.dy_sources.proofs.source.texts_library.Goals as goal

pub returns-in-Ok-clause-accepted : goal.returns-in-Ok-clause-accepted
returns-in-Ok-clause-accepted c = record {
  library = c.args.library.now;
  texts = c.args.texts.now;
  lower = c.requires.lower;
  judged = c.in-Ok.ensures.verdict;
  room = c.requires.room;
}
