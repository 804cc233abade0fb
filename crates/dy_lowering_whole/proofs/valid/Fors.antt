-- The code of each `for` leaves what lies in the frame as it was, where that of its parts does.
use Rattle.std.proofs.Common.{Bool, List, [], ◌∷◌, Option}
use Rattle.dy_code.specs.Validity.{Every}
use Rattle.dy_lowered.specs.Flat.{Code}
use Rattle.dy_lowered.specs.Turns.{Known, Given, Clause, Takes, Counts, counter, for_loop}
use Rattle.dy_lowering_whole.specs.valid.Shapes.{IsEven}
use Rattle.dy_lowering_whole.proofs.valid.Counting.{counter_counts}
use Rattle.dy_lowering_whole.proofs.valid.Pieces.{IsHeldEven}
use Rattle.dy_lowering_whole.proofs.valid.Several.{even_turns}
use Rattle.dy_lowering_whole.proofs.valid.Turning.{IsClauseEven, IsTestEven, even_counted}

pub even_for_loop : (clauses : List Clause) (test : Option (Bool × Code)) (inner : Code) (last : Option Code) → Every IsClauseEven clauses → IsTestEven test → IsEven inner → IsHeldEven last → IsEven (for_loop clauses test inner last)
even_for_loop [] test inner last every test_even inner_even last_even = even_turns [] test inner last every test_even inner_even last_even
even_for_loop (Takes place start next ∷ clauses) test inner last every test_even inner_even last_even = even_turns (Takes place start next ∷ clauses) test inner last every test_even inner_even last_even
even_for_loop (Counts place start limit (Known step) ∷ []) test inner last every test_even inner_even last_even =
    let h = every.0 in
    λ l. even_counted place (counter start limit step) (counter_counts start limit step h.0 h.1) l test inner last test_even inner_even last_even
even_for_loop (Counts place start limit (Known step) ∷ clause ∷ clauses) test inner last every test_even inner_even last_even = even_turns (Counts place start limit (Known step) ∷ clause ∷ clauses) test inner last every test_even inner_even last_even
even_for_loop (Counts place start limit (Given step) ∷ []) test inner last every test_even inner_even last_even = even_turns (Counts place start limit (Given step) ∷ []) test inner last every test_even inner_even last_even
even_for_loop (Counts place start limit (Given step) ∷ clause ∷ clauses) test inner last every test_even inner_even last_even = even_turns (Counts place start limit (Given step) ∷ clause ∷ clauses) test inner last every test_even inner_even last_even
