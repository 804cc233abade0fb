use Rattle.std.proofs.Common.{◌≡◌, ◌++◌, List, length, add-one, subst, ap, ◌∙◌, ℕ, Some, arith}
use Rattle.dy_base.specs.declared.ids.MethodId.{MethodId}
use Rattle.dy_term.specs.declared.rows.MethodRow.{MethodRow}
use Rattle.dy_order.specs.Methods.{counted, methods_in, methods_below, methods_upto}
use Rattle.dy_generics.specs.Duplicates.{AreDuplicates, FirstOf}
use Rattle.dy_generics.proofs.Firsts.{found_below, none_append, first_or_none, None_in}
use Rattle.dy_generics.proofs.duplicates.duplicate.Goals as goal

pub returns-in-Some : goal.returns-in-Some
returns-in-Some c =
    let P = AreDuplicates c.args.program.now c.args.method in
    let library = c.loop-library.library in
    let count : c.counted-count.result ≡ counted (length (methods_in c.args.program.now library)) = c.counted-count.ensures ∙ ap (λ (v : List MethodRow). counted (length v)) c.methods_in.ensures in
    found_below P c.args.program.now library c.args.method.0.library (methods_upto c.args.method.0.library c.args.method.0.row) c.in-Some.other c.loop-library-test.true c.loop-library.invariant
    (subst (λ (n : ℕ). FirstOf P (methods_upto library n) c.in-Some.other) count c.in-Some.ensures)

pub loop-library-preserved : goal.loop-library-preserved
loop-library-preserved c =
    let P = AreDuplicates c.args.program.now c.args.method in
    let library = c.loop-library.library in
    let count : c.counted-count.result ≡ counted (length (methods_in c.args.program.now library)) = c.counted-count.ensures ∙ ap (λ (v : List MethodRow). counted (length v)) c.methods_in.ensures in
    rw add-one
    (none_append P (methods_below c.args.program.now library) (methods_upto library (counted (length (methods_in c.args.program.now library)))) c.loop-library.invariant
    (subst (λ (n : ℕ). None_in P (methods_upto library n)) count c.in_default.ensures))

pub returns : goal.returns
returns c =
    let P = AreDuplicates c.args.program.now c.args.method in
    let end : c.loop-library.library ≡ c.args.method.0.library = omega (arith, c.loop-library-test.false, c.loop-library.auto.library-end) in
    first_or_none P (methods_below c.args.program.now c.args.method.0.library) (methods_upto c.args.method.0.library c.args.method.0.row) c.first_in-2.result
    (subst (λ (n : ℕ). None_in P (methods_below c.args.program.now n)) end c.loop-library.invariant) c.first_in-2.ensures
