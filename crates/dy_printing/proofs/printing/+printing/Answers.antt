use Rattle.std.proofs.Common.{◌≡◌, ℕ, ◌+◌, ◌-◌, ◌<◌, ◌≤◌, suc, Bool, true, false, List, ◌∷◌, ◌++◌, codes, length, drop, Some, None, IfOk, sym, ap, ◌∙◌, arith, rules}
use Rattle.std.proofs.lemmas.List.{drop_more}
use Rattle.dy_values.specs.declared.value.Variant.{Variant}
use Rattle.dy_printing.specs.Printing.{behind, list_printed, rest_printed, printed_within, Prints}
use Rattle.dy_values.specs.Objects.{vector_at, pair_at}
use Rattle.dy_printing.proofs.Printed.{inside_vector, inside_list, commas_all, commas_spent, rest_all}
use Rattle.dy_printing.proofs.printing.+printing.Goals as goal

pub write_inside-returns-in-Some-clause-printed : goal.write_inside-returns-in-Some-clause-printed
write_inside-returns-in-Some-clause-printed t c =
    let held : vector_at c.args.store.now c.args.value ≡ Some c.in-Some.items.now = search rules in
    let more : c.args.levels ≡ suc (c.args.levels - 1) = omega (arith, c.if-levels-eq0.false) in
    rw (inside_vector c.args.program.now c.args.store.now c.args.levels (c.args.levels - 1) c.args.escaped c.args.value c.in-Some.items.now c.args.fuel.now.left more held) c.write_vector.ensures.printed

pub write_inside-returns-in-Some-pair_at-clause-printed : goal.write_inside-returns-in-Some-pair_at-clause-printed
write_inside-returns-in-Some-pair_at-clause-printed t c =
    let none : vector_at c.args.store.now c.args.value ≡ None = search rules in
    let held : pair_at c.args.store.now c.args.value ≡ Some (c.in-Some-pair_at.head, c.in-Some-pair_at.tail) = search rules in
    let more : c.args.levels ≡ suc (c.args.levels - 1) = omega (arith, c.if-levels-eq0.false) in
    let told : IfOk c.write_list.result (λ done. Prints (list_printed (printed_within c.args.program.now c.args.store.now (c.args.levels - 1) true) c.args.store.now c.in-Some-pair_at.head c.in-Some-pair_at.tail c.args.fuel.now.left) done c.args.into.now.items c.write_list.new.into.items c.write_list.new.fuel.left) = search rules in
    rw (inside_list c.args.program.now c.args.store.now c.args.levels (c.args.levels - 1) c.args.escaped c.args.value c.in-Some-pair_at.head c.in-Some-pair_at.tail c.args.fuel.now.left more none held) told

pub write_others-returns-then-not-branch-clause-printed : goal.write_others-returns-then-not-branch-clause-printed
write_others-returns-then-not-branch-clause-printed t c =
    let element = printed_within c.args.program.now c.args.store.now c.args.levels true in
    let lt : c.loop-item.item-index < length c.args.others.now = omega arith in
    let here : drop c.loop-item.item-index c.args.others.now ≡ c.item-item.result ∷ drop (c.loop-item.item-index + 1) c.args.others.now =
    drop_more c.args.others.now c.loop-item.item-index c.item-item.result lt ∙ ap (λ (v : Variant). v ∷ drop (c.loop-item.item-index + 1) c.args.others.now) (sym c.item-item.is) in
    let told : behind (c.loop-item.into.items ++ codes ", ") (element c.item-item.result c.loop-item.fuel.left) ≡ (false, c.write_value.new.into.items, c.write_value.new.fuel.left) =
    ap (λ (items : List ℕ). behind items (element c.item-item.result c.loop-item.fuel.left)) (sym c.in_ok-extend_from_slice.ensures.items)
    ∙ c.in_ok-write_value.ensures.printed
    ∙ ap (λ (done : Bool). (done, c.write_value.new.into.items, c.write_value.new.fuel.left)) c.if-not-branch.true in
    c.loop-item.invariant.1
    ∙ commas_spent element (codes "]") c.loop-item.into.items c.write_value.new.into.items c.item-item.result (drop (c.loop-item.item-index + 1) c.args.others.now) (drop c.loop-item.item-index c.args.others.now) c.loop-item.fuel.left c.write_value.new.fuel.left here told

pub write_others-loop-item-preserved : goal.write_others-loop-item-preserved
write_others-loop-item-preserved t c =
    let element = printed_within c.args.program.now c.args.store.now c.args.levels true in
    let lt : c.loop-item.item-index < length c.args.others.now = omega arith in
    let here : drop c.loop-item.item-index c.args.others.now ≡ c.item-item.result ∷ drop (c.loop-item.item-index + 1) c.args.others.now =
    drop_more c.args.others.now c.loop-item.item-index c.item-item.result lt ∙ ap (λ (v : Variant). v ∷ drop (c.loop-item.item-index + 1) c.args.others.now) (sym c.item-item.is) in
    let told : behind (c.loop-item.into.items ++ codes ", ") (element c.item-item.result c.loop-item.fuel.left) ≡ (true, c.write_value.new.into.items, c.write_value.new.fuel.left) =
    ap (λ (items : List ℕ). behind items (element c.item-item.result c.loop-item.fuel.left)) (sym c.in_ok-extend_from_slice.ensures.items)
    ∙ c.in_ok-write_value.ensures.printed
    ∙ ap (λ (done : Bool). (done, c.write_value.new.into.items, c.write_value.new.fuel.left)) c.if-not-branch.false in
    let fewer : c.write_value.new.fuel.left ≤ c.loop-item.fuel.left = c.in_ok-write_value.ensures.fuel in (
      omega (arith, fewer, c.loop-item.invariant.0),
      c.loop-item.invariant.1
          ∙ commas_all element (codes "]") c.loop-item.into.items c.write_value.new.into.items c.item-item.result (drop (c.loop-item.item-index + 1) c.args.others.now) (drop c.loop-item.item-index c.args.others.now) c.loop-item.fuel.left c.write_value.new.fuel.left here told,
    )

pub write_rest-loop-head-preserved : goal.write_rest-loop-head-preserved
write_rest-loop-head-preserved t c =
    let element = printed_within c.args.program.now c.args.store.now c.args.levels true in
    let held : pair_at c.args.store.now c.loop-head.rest ≡ Some (c.in-Some.head, c.in-Some.behind) = search rules in
    let written : behind c.extend_from_slice.new.self.items (element c.in-Some.head c.loop-head.fuel.left) ≡ (c.in_ok-write_value.field-0, c.write_value.new.into.items, c.write_value.new.fuel.left) = search rules in
    let told : behind (c.loop-head.into.items ++ codes ", ") (element c.in-Some.head c.loop-head.fuel.left) ≡ (true, c.write_value.new.into.items, c.write_value.new.fuel.left) =
    ap (λ (items : List ℕ). behind items (element c.in-Some.head c.loop-head.fuel.left)) (sym c.in_ok-extend_from_slice.ensures.items)
    ∙ written
    ∙ ap (λ (done : Bool). (done, c.write_value.new.into.items, c.write_value.new.fuel.left)) c.if-not-branch.false in
    let fewer : c.write_value.new.fuel.left ≤ c.loop-head.fuel.left = c.in_ok-write_value.ensures.fuel in
    let step : behind c.args.into.now.items (rest_printed element c.args.store.now c.args.tail c.args.fuel.now.left) ≡ behind c.write_value.new.into.items (rest_printed element c.args.store.now c.in-Some.behind c.write_value.new.fuel.left) =
    c.loop-head.invariant.1
    ∙ rest_all c.args.program.now c.args.store.now c.args.levels c.loop-head.into.items c.write_value.new.into.items c.loop-head.rest c.in-Some.head c.in-Some.behind c.loop-head.fuel.left c.write_value.new.fuel.left held told in
    (omega (arith, fewer, c.loop-head.invariant.0), search (rules, step))
