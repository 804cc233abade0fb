use Rattle.std.proofs.Common.{[], ap, ◌∙◌}
use Rattle.dy_definitions.specs.Means.{no_rows}
use Rattle.dy_definitions.specs.Passes.{Tallies, no_tallies, meanings_with, no_meanings, with_refused}
use Rattle.dy_definitions.proofs.Counts.{told_is}
use Rattle.dy_definitions.proofs.Gives.{meanings_is}
use Rattle.dy_definitions.proofs.defined.Defined.of.Goals as goal

pub returns : goal.returns
returns c =
    let ds = c.args.definitions.now in
    let words = c.args.words.now.items in
    record {
      meanings =
          c.in_ok-meanings.ensures
          ∙ ap (λ (all : Tallies). meanings_with c.args.library all ds no_rows no_meanings) c.in_ok-all.ensures
          ∙ meanings_is c.args.library ds;
      redefined =
          c.in_ok-redefined.ensures
          ∙ (λ i. with_refused (c.as_slice.ensures i) (c.in_ok-all.ensures i) no_tallies ds [])
          ∙ told_is words ds;
    }
