use Rattle.std.proofs.Common.{◌≡◌, ◌<◌, ◌+◌, ◌++◌, ◌∷◌, ℕ, Bool, false, List, map, take, drop, length, slice_get, get_or, sym, ap, subst, ◌∙◌, arith}
use Rattle.std.proofs.lemmas.List.{length-map, take_more}
use Rattle.dy_type_names.specs.RowTables.{seen_written, declared_at, truth}
use Rattle.dy_type_names.specs.Standings.{standing_in}
use Rattle.dy_type_names.specs.Evaluations.{AreEvaluated}
use Rattle.dy_type_names.proofs.Setting.{got, at_place}
use Rattle.dy_type_names.proofs.Evaluating.{split_at, low_at, next_evaluated, with_same}
use Rattle.dy_type_names.proofs.evaluation.evaluate.Goals as goal

pub bounds-written-place : goal.bounds-written-place
bounds-written-place g c =
    let table = (g.E.Environment.outside c.args.names.now).owner in
    let items = c.as_slice-row-items.result.now in
    let i = c.loop-row.row-index in
    let row = get_or items i 0 in
    let split : c.args.found.now.order ≡ take i items ++ row ∷ drop (i + 1) items = sym c.as_slice-row-items.ensures ∙ split_at items i 0 c.loop-row-test.true in
    let low = low_at table c.args.library (map seen_written c.args.written.now) c.args.found.now.on_ring c.args.found.now.order c.requires.order c.requires.rings (take i items) row (drop (i + 1) items) split in
    let m = length-map c.args.written.now seen_written in
    omega (arith, low, m)

pub bounds-as_slice-place : goal.bounds-as_slice-place
bounds-as_slice-place g c =
    let table = (g.E.Environment.outside c.args.names.now).owner in
    let items = c.as_slice-row-items.result.now in
    let i = c.loop-row.row-index in
    let row = get_or items i 0 in
    let split : c.args.found.now.order ≡ take i items ++ row ∷ drop (i + 1) items = sym c.as_slice-row-items.ensures ∙ split_at items i 0 c.loop-row-test.true in
    let low = low_at table c.args.library (map seen_written c.args.written.now) c.args.found.now.on_ring c.args.found.now.order c.requires.order c.requires.rings (take i items) row (drop (i + 1) items) split in
    let m = length-map c.args.written.now seen_written in
    let n : length c.as_slice.result.now ≡ length c.args.written.now = ap length c.as_slice.ensures ∙ c.requires.count in
    omega (arith, low, m, n)

pub evaluate_row-requires : goal.evaluate_row-requires
evaluate_row-requires g c =
    let table = (g.E.Environment.outside c.args.names.now).owner in
    let items = c.as_slice-row-items.result.now in
    let i = c.loop-row.row-index in
    let row = get_or items i 0 in
    let split : c.args.found.now.order ≡ take i items ++ row ∷ drop (i + 1) items = sym c.as_slice-row-items.ensures ∙ split_at items i 0 c.loop-row-test.true in
    let low = low_at table c.args.library (map seen_written c.args.written.now) c.args.found.now.on_ring c.args.found.now.order c.requires.order c.requires.rings (take i items) row (drop (i + 1) items) split in
    let m = length-map c.args.written.now seen_written in
    c.loop-row.invariant.there row (omega (arith, low, m))

pub loop-row-preserved : goal.loop-row-preserved
loop-row-preserved g c =
    let table = (g.E.Environment.outside c.args.names.now).owner in
    let library = c.args.library in
    let ws = c.args.written.now in
    let written = map seen_written ws in
    let on_ring = c.args.found.now.on_ring in
    let order = c.args.found.now.order in
    let items = c.as_slice-row-items.result.now in
    let i = c.loop-row.row-index in
    let row = get_or items i 0 in
    let rest = drop (i + 1) items in
    let split : order ≡ take i items ++ row ∷ rest = sym c.as_slice-row-items.ensures ∙ split_at items i 0 c.loop-row-test.true in
    let low = low_at table library written on_ring order c.requires.order c.requires.rings (take i items) row rest split in
    let m = length-map ws seen_written in
    let within : row < length ws = omega (arith, low, m) in
    let n : length c.as_slice.result.now ≡ length ws = ap length c.as_slice.ensures ∙ c.requires.count in
    let held : row < length c.as_slice.result.now = omega (arith, within, n) in
    let ring : get_or c.as_slice.result.now row false ≡ truth (slice_get on_ring row) =
    sym (ap truth (got c.as_slice.result.now row false held)) ∙ ap (λ (xs : List Bool). truth (slice_get xs row)) c.as_slice.ensures in
    let declared : seen_written c.index-written-place.result ≡ declared_at written row =
    sym (at_place ws row c.index-written-place.result within ∙ ap seen_written (sym c.index-written-place.is)) in
    record {
      are = subst (λ (rows : List ℕ). AreEvaluated table library written on_ring rows (standing_in c.args.types.now) (standing_in c.evaluate_row.new.types)) (sym (take_more items i 0 c.loop-row-test.true))
          (next_evaluated table library written on_ring order c.requires.order c.requires.rings (take i items) row rest split (standing_in c.args.types.now) (standing_in c.loop-row.types) (standing_in c.evaluate_row.new.types)
          c.loop-row.invariant.are
          (λ b. c.in_ok-evaluate_row.ensures.standing b ∙ with_same table library row _ _ _ _ (standing_in c.loop-row.types) b ring declared));
      there = λ n l. c.in_ok-evaluate_row.ensures.there n (c.loop-row.invariant.there n l);
    }
