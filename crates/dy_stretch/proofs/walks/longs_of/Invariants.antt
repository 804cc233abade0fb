use Rattle.dy_stretch.specs.Walks.{code_of, AreBetween}
use Rattle.dy_stretch.proofs.walks.longs_of.Given as goal

abbrev pub invariant-loop-turn : goal.invariant-loop-turn
invariant-loop-turn l = AreBetween (code_of l.flats.items) l._turn l.longs.items
