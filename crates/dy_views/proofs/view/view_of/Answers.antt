use Rattle.std.proofs.Common.{◌≡◌, ◌+◌, ℕ, List, [], ◌∷◌, ◌++◌, Option, Some, None, map, length, get_or, slice_get, EachIndex, sym, ap, subst, ◌∙◌, arith}
use Rattle.dy_load_order.specs.LoadOrder.{AreEarlier, load_order, place_in}
use Rattle.dy_views.specs.Views.{exports_by, AreThere}
use Rattle.dy_views.proofs.Standing.{known_there, next_earlier, used_by_table}
use Rattle.dy_views.proofs.view.view_of.Goals as goal

pub load_order-requires-clause-earlier : goal.load_order-requires-clause-earlier
load_order-requires-clause-earlier c =
    let compiled = c.args.compiled.now in
    let there = known_there compiled c.args.clauses.now c.as_slice-known.result.now c.in_ok-uses.uses c.as_slice-known.ensures c.in_ok-uses.ensures in
    subst (λ (xs : List (List ℕ)). AreEarlier (xs ++ c.as_slice.result.now ∷ [])) (sym c.as_slice-earlier.ensures)
    (subst (λ (xs : List ℕ). AreEarlier (c.args.compiled.now.uses ++ xs ∷ [])) (sym c.as_slice.ensures) (next_earlier compiled c.in_ok-uses.uses c.requires there))

pub used_exports-requires-clause-there : goal.used_exports-requires-clause-there
used_exports-requires-clause-there c =
    let there = known_there c.args.compiled.now c.args.clauses.now c.as_slice-known.result.now c.in_ok-uses.uses c.as_slice-known.ensures c.in_ok-uses.ensures in
    subst (AreThere c.args.compiled.now) (sym c.as_slice-4.ensures) there

pub returns-clause-there : goal.returns-clause-there
returns-clause-there c = known_there c.args.compiled.now c.args.clauses.now c.as_slice-known.result.now c.in_ok-uses.uses c.as_slice-known.ensures c.in_ok-uses.ensures

pub returns-clause-used : goal.returns-clause-used
returns-clause-used c =
    let compiled = c.args.compiled.now in
    let uses = c.in_ok-uses.uses in
    let places = c.in_ok-places.places in
    let there = known_there compiled c.args.clauses.now c.as_slice-known.result.now uses c.as_slice-known.ensures c.in_ok-uses.ensures in
    let is =
    c.in_ok-order.ensures.order
    ∙ ap (λ (xs : List (List ℕ)). load_order (xs ++ c.as_slice.result.now ∷ []) (length xs)) c.as_slice-earlier.ensures
    ∙ ap (λ (xs : List ℕ). load_order (c.args.compiled.now.uses ++ xs ∷ []) (length c.args.compiled.now.uses)) c.as_slice.ensures in
    let same = ap length c.as_slice-known.ensures in
    let long : length c.in_ok-places.places ≡ length c.args.compiled.now.exports + 1 = omega (arith, c.in_ok-places.ensures.count, same) in
    let each = subst (λ (xs : List ℕ). EachIndex c.in_ok-places.places (λ library. slice_get c.in_ok-places.places library ≡ Some (place_in xs library))) c.as_slice-2.ensures c.in_ok-places.ensures.places in
    c.in_ok-used.ensures
    ∙ ap (λ (xs : List ℕ). map (exports_by (λ (library : ℕ). get_or c.as_slice-3.result.now library None) c.args.compiled.now) xs) c.as_slice-4.ensures
    ∙ ap (λ (xs : List (Option ℕ)). map (exports_by (λ (library : ℕ). get_or xs library None) c.args.compiled.now) c.in_ok-uses.uses) c.as_slice-3.ensures
    ∙ used_by_table compiled uses c.in_ok-order.order places c.requires there is long each
