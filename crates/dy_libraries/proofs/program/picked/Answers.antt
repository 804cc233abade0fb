use Rattle.std.proofs.Common.{◌≡◌, ℕ, ◌+◌, ◌<◌, get_or, set, take, Option, Some, None, sym, ap, ◌∙◌, subst}
use Rattle.std.proofs.lemmas.Option.{get_or_from_slice_get, slice_get_within}
use Rattle.dy_code.specs.declared.unit.Library.{Library}
use Rattle.dy_libraries.proofs.Picking.{AreLeft, next_there, left_more, picked_more}
use Rattle.dy_libraries.proofs.program.picked.Goals as goal

none_some : (library : Library) → ◌≡◌ {A = Option Library} None (Some library) → ⊥
none_some library e = absurd cc

pub index_mut-requires : goal.index_mut-requires
index_mut-requires c =
    let number = get_or c.args.numbers.now c.loop-number.number-index 0 in
    let (library, is) = c.requires.there c.loop-number.number-index 0 c.loop-number-test.true in
    let now =
    next_there c.args.all.items c.loop-number.all.items c.args.numbers.now c.loop-number.number-index c.loop-number-test.true library c.requires.once c.loop-number.invariant.left is in
    subst (λ (count : ℕ). number < count) (sym c.loop-number.all.ok.0) (slice_get_within c.loop-number.all.items number (Some library) now)

pub unreachable-requires : goal.unreachable-requires
unreachable-requires c =
    let number = get_or c.args.numbers.now c.loop-number.number-index 0 in
    let (library, is) = c.requires.there c.loop-number.number-index 0 c.loop-number-test.true in
    let now =
    next_there c.args.all.items c.loop-number.all.items c.args.numbers.now c.loop-number.number-index c.loop-number-test.true library c.requires.once c.loop-number.invariant.left is in
    none_some library (sym c.in-None.is ∙ c.take.ensures.value ∙ c.index_mut.ensures.value ∙ get_or_from_slice_get c.loop-number.all.items number (Some library) _ now)

pub loop-number-preserved : goal.loop-number-preserved
loop-number-preserved c =
    let number = get_or c.args.numbers.now c.loop-number.number-index 0 in
    let (library, is) = c.requires.there c.loop-number.number-index 0 c.loop-number-test.true in
    let now =
    next_there c.args.all.items c.loop-number.all.items c.args.numbers.now c.loop-number.number-index c.loop-number-test.true library c.requires.once c.loop-number.invariant.left is in
    let same : ◌≡◌ {A = Option Library} (Some library) (Some c.in-Some.library) =
    sym (get_or_from_slice_get c.loop-number.all.items number (Some library) _ now) ∙ sym c.index_mut.ensures.value ∙ sym c.take.ensures.value ∙ c.in-Some.is in
    record {
      picked = rw c.in_ok-push-in-Some.ensures.items
          (picked_more c.args.all.items c.loop-number.all.items c.args.numbers.now c.loop-number.number-index c.loop-number-test.true c.loop-number.libraries.items c.in-Some.library
          c.loop-number.invariant.picked (is ∙ ap (λ (o : Option Library). Some o) same));
      left = subst (λ (o : Option Library). AreLeft c.args.all.items (set c.loop-number.all.items number o) (take (c.loop-number.number-index + 1) c.args.numbers.now)) (sym c.take.ensures.after)
          (left_more c.args.all.items c.loop-number.all.items c.args.numbers.now c.loop-number.number-index c.loop-number-test.true c.loop-number.invariant.left);
    }
