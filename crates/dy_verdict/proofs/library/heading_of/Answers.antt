use Rattle.std.proofs.Common.{◌≡◌, ◌≤◌, ◌-◌, ◌∙◌, ℕ, List, length, sym, ap, subst, arith}
use Rattle.dy_base.specs.Folding.{folded}
use Rattle.dy_verdict.proofs.Ready.{view_fits, uses_placed, headings_same}
use Rattle.dy_verdict.proofs.library.heading_of.Goals as goal

pub places_in-requires : goal.places_in-requires
places_in-requires c = subst (λ (xs : List ℕ). length xs ≤ 4294967296) (sym c.as_slice-order.ensures) (view_fits c.args.compiled.now c.args.modules.now c.requires).1

pub overflow_cast-result : goal.overflow_cast-result
overflow_cast-result c =
    let fits = view_fits c.args.compiled.now c.args.modules.now c.requires in
    let some = fits.0 in
    let few = fits.1 in
    omega (arith, some, few, ap length c.as_slice-order.ensures)

pub returns : goal.returns
returns c =
    headings_same _ _ _ _ _ _
    (ap (λ (xs : List ℕ). length xs - 1) c.as_slice-order.ensures)
    (c.in_ok-fold.ensures.folded ∙ ap folded c.bytes.ensures.bytes)
    (uses_placed c.args.compiled.now c.args.modules.now c.requires c.as_slice-order.result.now c.as_slice.result.now c.in_ok-places.places c.as_slice-2.result.now c.as_slice-3.result.now c.in_ok-places_of.field-0
    c.as_slice-order.ensures c.as_slice.ensures c.in_ok-places.ensures.count c.in_ok-places.ensures.places c.as_slice-2.ensures c.as_slice-3.ensures c.in_ok-places_of.ensures)
