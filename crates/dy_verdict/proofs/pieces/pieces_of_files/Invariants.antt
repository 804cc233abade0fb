use Rattle.std.proofs.Common.{◌≡◌, map}
use Rattle.std.specs.Prelude.{flat_map}
use Rattle.dy_verdict.specs.Pieces.{seen_piece, pieces_of}
use Rattle.dy_verdict.specs.Trees.{seen_file}
use Rattle.dy_verdict.proofs.pieces.pieces_of_files.Given as goal

abbrev pub invariant-loop-file : goal.invariant-loop-file
invariant-loop-file l = map seen_piece l.pieces.items ≡ flat_map pieces_of (map seen_file l.yielded)
