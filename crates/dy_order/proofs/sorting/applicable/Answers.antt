use Rattle.std.proofs.Common.{◌++◌, ◌∷◌, [], List, sym, subst, add-one, append_assoc}
use Rattle.dy_base.specs.declared.ids.MethodId.{MethodId}
use Rattle.dy_order.specs.Methods.{method_id, methods_below, methods_upto}
use Rattle.dy_order.specs.Precedence.{IsApplicable}
use Rattle.dy_order.specs.Sorting.{Filtered, empty}
use Rattle.dy_order.proofs.sorting.applicable.Goals as goal

pub loop-library-init : goal.loop-library-init
loop-library-init c =
    subst (λ (v : List MethodId). Filtered (IsApplicable c.args.program.now c.args.generic c.args.args.now) [] v) (sym c.new-found.ensures.items) empty

pub loop-row-preserved : goal.loop-row-preserved
loop-row-preserved c =
    let before = methods_below c.args.program.now c.loop-library.library in
    let here = methods_upto c.loop-library.library c.loop-row.row in
    let id = method_id c.loop-library.library c.loop-row.row in
    let new = c.add_applicable.new.found.items in
    rw add-one
    (subst (λ (v : List MethodId). Filtered (IsApplicable c.args.program.now c.args.generic c.args.args.now) v new) (append_assoc before here (id ∷ []))
    (subst (λ (v : MethodId). Filtered (IsApplicable c.args.program.now c.args.generic c.args.args.now) ((before ++ here) ++ v ∷ []) new) c.method_id.ensures
    (c.in_ok-add_applicable.ensures (before ++ here) c.loop-row.invariant)))
