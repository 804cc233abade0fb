use Rattle.std.proofs.Common.{◌≡◌, ◌+◌, Some, None, get_or, drop, map, option_map, slice_get, sym, ap, ◌∙◌}
use Rattle.dy_library_form.specs.Told.{name_or, name_of_two, first_of_two}
use Rattle.dy_graph.proofs.Steps.{first_more}
use Rattle.dy_graph.proofs.clash.first_of_two.Goals as goal

pub loop-place-init : goal.loop-place-init
loop-place-init c = ap (λ ps. first_of_two (map (slice_get c.args.table.now) ps)) c.deref-place-items.ensures.value ∙ ap first_of_two c.in_ok-places.ensures

pub returns-in-Some : goal.returns-in-Some
returns-in-Some c =
    let rows = c.args.table.now in
    let places = c.deref-place-items.result.now in
    let i = c.loop-place.place-index in
    let rest = first_of_two (map (slice_get rows) (drop (i + 1) places)) in
    let row : name_of_two (slice_get rows (get_or places i 0)) ≡ Some c.in-Some.name.now = sym (c.name_of_two.ensures ∙ ap name_of_two c.at.ensures) ∙ ap (λ o. option_map (λ name. name.now) o) c.in-Some.is in
    ap Some c.in_ok-of.ensures ∙ sym (ap (λ o. name_or o rest) row) ∙ sym (first_more rows places i c.loop-place-test.true) ∙ c.loop-place.invariant

pub loop-place-preserved : goal.loop-place-preserved
loop-place-preserved c =
    let rows = c.args.table.now in
    let places = c.deref-place-items.result.now in
    let i = c.loop-place.place-index in
    let rest = first_of_two (map (slice_get rows) (drop (i + 1) places)) in
    let row : name_of_two (slice_get rows (get_or places i 0)) ≡ None = sym (c.name_of_two.ensures ∙ ap name_of_two c.at.ensures) ∙ ap (λ o. option_map (λ name. name.now) o) c.in_default.is in
    sym (ap (λ o. name_or o rest) row) ∙ sym (first_more rows places i c.loop-place-test.true) ∙ c.loop-place.invariant
