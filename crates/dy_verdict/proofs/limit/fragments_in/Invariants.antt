use Rattle.std.proofs.Common.{◌≡◌, map, take}
use Rattle.dy_tree.specs.Fragments.{seen_fragments}
use Rattle.dy_verdict.specs.Pieces.{seen_piece}
use Rattle.dy_verdict.specs.Limits.{fragments_in}
use Rattle.dy_verdict.proofs.limit.fragments_in.Given as goal

abbrev pub invariant-loop-piece : goal.invariant-loop-piece
invariant-loop-piece l = map (λ form. seen_fragments form.now) l.forms.items ≡ fragments_in (map seen_piece (take l.piece-index l.pieces))
