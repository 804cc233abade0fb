use Rattle.std.proofs.Common.{◌≡◌, List, ◌++◌, map}
use Rattle.dy_tree.specs.Fragments.{SeenFragment, seen_fragment}
use Rattle.dy_verdict.specs.Pieces.{seen_piece, pieces_of}
use Rattle.dy_verdict.proofs.Cutting.{prepended}
use Rattle.dy_verdict.proofs.pieces.pieces_of.Given as goal

abbrev pub invariant-loop-fragment : goal.invariant-loop-fragment
invariant-loop-fragment l =
    (rest : List SeenFragment) → pieces_of (map seen_fragment l.yielded ++ rest) ≡ map seen_piece l.pieces.items ++ prepended (map seen_fragment l.current.items) (pieces_of rest)
