use Rattle.std.proofs.Common.{◌≡◌, ℕ, subst, true, false, true≢false, sym, ◌∙◌, add-one, arith}
use Rattle.dy_order.specs.Methods.{method_id, methods_upto}
use Rattle.dy_generics.specs.Duplicates.{AreDuplicates}
use Rattle.dy_generics.proofs.Firsts.{found_in, none_more, None_in}
use Rattle.dy_generics.proofs.duplicates.first_in.Goals as goal

pub returns-then-are_duplicates : goal.returns-then-are_duplicates
returns-then-are_duplicates c =
    found_in (AreDuplicates c.args.program.now c.args.method) c.args.library c.loop-row.row c.args.count c.loop-row-test.true c.loop-row.invariant (c.are_duplicates.ensures.0 c.if-are_duplicates.true)

pub loop-row-preserved : goal.loop-row-preserved
loop-row-preserved c =
    rw add-one
    (none_more (AreDuplicates c.args.program.now c.args.method) (methods_upto c.args.library c.loop-row.row) (method_id c.args.library c.loop-row.row) c.loop-row.invariant
    (λ p. true≢false (sym (c.are_duplicates.ensures.1 p) ∙ c.if-are_duplicates.false)))

pub returns : goal.returns
returns c =
    let end : c.loop-row.row ≡ c.args.count = omega (arith, c.loop-row-test.false, c.loop-row.auto.row-end) in
    subst (λ (n : ℕ). None_in (AreDuplicates c.args.program.now c.args.method) (methods_upto c.args.library n)) end c.loop-row.invariant
