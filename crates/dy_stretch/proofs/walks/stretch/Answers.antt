use Rattle.std.proofs.Common.{ℕ, Bool, List, length, ap, subst, ◌∙◌}
use Rattle.dy_lowered.specs.Flat.{Code, placed_from}
use Rattle.dy_lowered.specs.Stretches.{stretch_of}
use Rattle.dy_stretch.specs.Walks.{code_of, IsMostTo}
use Rattle.dy_stretch.proofs.Reaching.{stretch_is}
use Rattle.dy_stretch.proofs.walks.stretch.Goals as goal

pub returns : goal.returns
returns c =
    let fs = c.flats-flats.result.now.items in
    let marks = c.in_ok-marks.marks.items in
    let longs = c.in_ok-longs.longs.items in
    let most = c.most_of.result in
    let read : IsMostTo longs c.deref.result.now (length c.deref.result.now) most = subst (λ (xs : List ℕ). IsMostTo xs c.deref.result.now (length c.deref.result.now) most) c.deref-2.ensures.value c.most_of.ensures in
    let there : IsMostTo longs marks (length marks) most = subst (λ (xs : List Bool). IsMostTo longs xs (length xs) most) c.deref.ensures.value read in
    stretch_is (code_of fs) marks longs most c.in_ok-marks.ensures c.in_ok-longs.ensures there ∙ ap (λ (xs : Code). stretch_of (placed_from 0 xs)) c.flats-flats.ensures
