use Rattle.std.proofs.Common.{Bool, ap}
use Rattle.std.proofs.lemmas.Bool.{lt-ltb}
use Rattle.dy_code.specs.Fetching.{where_so}
use Rattle.dy_instructions.specs.Seen.{seen_place}
use Rattle.dy_instructions.specs.Reading.{located_as}
use Rattle.dy_instructions.proofs.decoding.local.Goals as goal

pub returns-then-n-at : goal.returns-then-n-at
returns-then-n-at c = λ before. record {
  same = ap (λ (holds : Bool). where_so holds (seen_place c.args.op))
      (lt-ltb c.args.n c.args.at.body.now.locals c.if-n-at.true);
  fits = c.requires (located_as c.args.at before) c.if-n-at.true;
}
