use Rattle.std.proofs.Common.{ap, ◌∙◌}
use Rattle.std.proofs.lemmas.Result.{on_ok_weaker}
use Rattle.dy_definitions.specs.Passes.{counted}
use Rattle.dy_definitions.specs.Seen.{tally_in, or_no_tally}
use Rattle.dy_definitions.proofs.Changed.{counted_at}
use Rattle.dy_definitions.proofs.counting.count_own.Goals as goal

pub returns : goal.returns
returns c =
    let old = tally_in c.args.table.now in
    let n = c.args.number in
    let m = c.args.name.now in
    let d = c.args.definition.now in
    let is = c.with.ensures ∙ ap (counted d.role d.is_open) c.in_ok-tally.ensures in
    on_ok_weaker c.set.result
    (λ put i x a. (ap or_no_tally (put x a) ∙ counted_at n m x a old c.with.result d is) i)
    c.set.ensures
