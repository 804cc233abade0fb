use Rattle.std.proofs.Common.{◌≡◌, ◌+◌, ◌-◌, ◌<◌, ℕ, suc, List, ◌++◌, map, length, Some, slice_get, sym, ap, subst, ◌∙◌, arith}
use Rattle.std.proofs.lemmas.List.{length-set}
use Rattle.dy_meaning.specs.Numbers.{greatest}
use Rattle.dy_lowered.specs.Flat.{placed}
use Rattle.dy_lower_parts.specs.Seen.{seen}
use Rattle.dy_stretch.specs.Walks.{code_of, held, long_at, by_ways, long_by}
use Rattle.dy_stretch.proofs.Walking.{code_long, code_at, IsSwept, IsStillFrom, swept_first, swept_more, swept_all, still_more, by_step, neither}
use Rattle.dy_stretch.proofs.walks.sweep.Goals as goal

pub loop-place-init : goal.loop-place-init
loop-place-init c =
    let fs = c.args.flats.now.items in
    let code = code_of fs in
    let longs = c.args.longs.now.items in
    let n = code_long fs in
    let m = c.len-place.ensures in
    let k = c.requires in
    let at : c.len-place.result ≡ length code = omega (arith, n, m) in
    record {
      long = omega (arith, n, k);
      further = λ taken l b. subst (λ (to : ℕ). IsSwept code taken to longs) (sym at) (swept_first code taken longs b);
      still = λ e place l w. absurd (omega (arith, l, w, at));
    }

pub loop-place-preserved : goal.loop-place-preserved
loop-place-preserved c =
    let fs = c.args.flats.now.items in
    let code = code_of fs in
    let to = c.loop-place.place in
    let place = c.loop-place.place - 1 in
    let longs = c.loop-place.longs.items in
    let step = c.in_ok-step.step in
    let places = held step.next ++ held step.jump in
    let x = c.long_from-long.result in
    let f = c.index.result.now in
    let n = code_long fs in
    let m = c.len-place.ensures in
    let t = c.loop-place-test.true in
    let k = c.loop-place.invariant.long in
    let next : to ≡ suc place = omega (arith, t) in
    let l : place < length fs = omega (arith, t, m, c.loop-place.auto.place) in
    let known : place < length longs = omega (arith, l, n, k) in
    let at : slice_get code place ≡ Some (placed place (seen f)) = code_at fs place f l c.index.ensures in
    let long : x ≡ by_ways (length longs) step.ticks (greatest (map (long_at longs) places)) =
    subst (λ (xs : List ℕ). x ≡ by_ways (length xs) step.ticks (greatest (map (long_at xs) places))) c.deref.ensures.value c.long_from-long.ensures in
    let is : x ≡ long_by code longs place = by_step code place (placed place (seen f)) step.ticks places longs x at c.in_ok-step.ensures.ways c.in_ok-step.ensures.ticks k long in
    let noted = c.note-other.ensures.noted in
    record {
      long = ap (λ (xs : List ℕ). length xs) noted ∙ length-set longs place x ∙ k;
      further = λ taken w b. subst (λ (xs : List ℕ). IsSwept code taken place xs) (sym noted) (swept_more code place to x longs next known is taken w (c.loop-place.invariant.further taken w b));
      still = λ e.
          let both = neither c.note-other.result c.loop-place.changed (sym c.either-changed.ensures ∙ e) in
          subst (λ (xs : List ℕ). IsStillFrom code place xs) (sym noted) (still_more code place to x longs next known is (c.note-other.ensures.told both.0) (c.loop-place.invariant.still both.1));
    }

pub returns-clause-further : goal.returns-clause-further
returns-clause-further c =
    λ taken l b.
    let fs = c.args.flats.now.items in
    let code = code_of fs in
    let longs = c.loop-place.longs.items in
    let n = code_long fs in
    let none : c.loop-place.place ≡ 0 = omega (arith, c.loop-place-test.false) in
    let within : taken < length code = omega (arith, n, l) in
    swept_all code taken longs (subst (λ (to : ℕ). IsSwept code taken to longs) none (c.loop-place.invariant.further taken within b))
