use Rattle.std.proofs.Common.{◌≡◌, ◌<◌, ◌+◌, length, take, slice_get, not, ℕ, Option, Some, None, Vec, Global, List, sym, ap, subst, ◌∙◌, arith, take_all}
use Rattle.std.proofs.lemmas.Option.{slice_get-get_or}
use Rattle.dy_load_order.proofs.Placing.{ArePlaces, turn_new, turn_old, turn_past}
use Rattle.dy_load_order.proofs.places.places_in.Goals as goal
use Rattle.dy_load_order.proofs.places.places_in.Goals.{then-library-count+then-is_none, else-library-count, else-library-count-via-then-library-count+else-is_none, else-library-count-via-else-library-count}

pub loop-place-preserved : goal.loop-place-preserved
loop-place-preserved c =
    let count = c.args.count in
    let order = c.args.order.now in
    let old = c.loop-place.places in
    let place = c.loop-place.place in
    let way = c.loop-place.invariant in
    let within = c.loop-place-test.true in
    let after : Vec (Option ℕ) Global → Type 0 = λ v. ArePlaces count (take (place + 1) order) v.items in
    elim c.if-library-count.branch [
      | then-library-count+then-is_none w ↦
          subst after (sym w.places-is)
          (turn_new count order old.items place way within w.index.result.now w.if-library-count.true w.index.ensures (w.is_none.ensures ∙ ap not w.if-is_none.true))
      | else-library-count w ↦ elim w.else-library-count.branch [
        | else-library-count-via-then-library-count+else-is_none v ↦
            subst after (sym w.places-is) (turn_old count order old.items place way within v.index.result.now v.index.ensures (v.is_none.ensures ∙ ap not v.if-is_none.false))
        | else-library-count-via-else-library-count v ↦
            subst after (sym w.places-is) (turn_past count order old.items place way within v.if-library-count.false)
      ]
    ]

pub returns-clause-places : goal.returns-clause-places
returns-clause-places c i within =
    let order = c.args.order.now in
    let places = c.loop-place.places.items in
    let all : take c.loop-place.place order ≡ order = take_all c.loop-place.place order (omega (arith, c.loop-place-test.false)) in
    let are = subst (λ (xs : List ℕ). ArePlaces c.args.count xs places) all c.loop-place.invariant in
    let e = c.from_vec.ensures in
    let inside = subst (λ (xs : List (Option ℕ)). i < length xs) e within in
    let long = are.long in
    ap (λ (xs : List (Option ℕ)). slice_get xs i) e ∙ slice_get-get_or places i None inside ∙ ap Some (are.each i (omega arith))
