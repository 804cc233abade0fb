use Rattle.std.proofs.Common.{◌≡◌, true, true≢false, slice_get, sym, ◌∙◌}
use Rattle.dy_modules.specs.Order.{is_made}
use Rattle.dy_graph.proofs.Clauses.{made_off_ring}
use Rattle.dy_graph.proofs.judging.is_ringed.Goals as goal

pub returns-then-is_made : goal.returns-then-is_made
returns-then-is_made c =
    let ms = c.args.made.modules.now in
    let done = c.args.made.tables.now in
    let m = c.args.number in
    let here : is_made (slice_get done m) ≡ true = sym c.is_made.ensures ∙ c.if-is_made.true in
    (λ e. absurd (true≢false (sym e)), λ leads. absurd (made_off_ring ms done c.requires m here leads))
