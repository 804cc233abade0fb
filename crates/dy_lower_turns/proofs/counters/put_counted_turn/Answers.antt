use Rattle.std.proofs.Common.{ℕ}
use Rattle.dy_lowered.specs.Parts.{read, put, cell}
use Rattle.dy_lower_turns.specs.Ways.{seen_counting}
use Rattle.dy_lower_turns.proofs.Turned.{turn_made}
use Rattle.dy_lower_turns.proofs.counters.put_counted_turn.Goals as goal

pub returns : goal.returns
returns c = λ start given far long.
    turn_made _ _ _ _ _ _ (read c.args.place) (cell c.args.place) (put c.args.place) _ (λ (k : ℕ). (seen_counting c.args.counting start given).testing c.args.place k) c.args.exit far long
    c.read.ensures c.in_ok-put.ensures c.in_ok-put-2.ensures
    (c.in_ok-put_testing.ensures start given) c.in_ok-put_cell.ensures c.in_ok-put_local.ensures
