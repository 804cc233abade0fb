use Rattle.std.proofs.Common.{◌≡◌, ◌++◌, ◌∷◌, [], List, true, false, true≢false, sym, subst, ◌∙◌}
use Rattle.dy_base.specs.declared.ids.MethodId.{MethodId}
use Rattle.dy_order.specs.Precedence.{IsApplicable}
use Rattle.dy_order.specs.Sorting.{Filtered}
use Rattle.dy_order.proofs.Steps.{step_kept, step_dropped}
use Rattle.dy_order.proofs.sorting.add_applicable.Goals as goal

pub returns-then-not-is_applicable : goal.returns-then-not-is_applicable
returns-then-not-is_applicable c = λ before so_far.
    let f : c.is_applicable.result ≡ false = cc in
    step_dropped c.args.method so_far (λ p. true≢false (sym (c.is_applicable.ensures.1 p) ∙ f))

pub returns : goal.returns
returns c = λ before so_far.
    let t : c.is_applicable.result ≡ true = cc in
    subst (λ (v : List MethodId). Filtered (IsApplicable c.args.program.now c.args.generic c.args.args.now) (before ++ c.args.method ∷ []) v) (sym c.in_ok-push.ensures.items)
    (step_kept c.args.method so_far (c.is_applicable.ensures.0 t))
