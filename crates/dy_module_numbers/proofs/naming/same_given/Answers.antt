use Rattle.std.proofs.Common.{rules, ◌≡◌, ◌+◌, ◌&&◌, true, false, length, drop, slice_get, sym, ap, ◌∙◌, arith}
use Rattle.dy_module_numbers.specs.Numbers.{is_same_row, same_given}
use Rattle.dy_module_numbers.proofs.Givens.{given_more, given_apart}
use Rattle.dy_module_numbers.proofs.naming.same_given.Goals as goal

pub returns-then-len : goal.returns-then-len
returns-then-len c =
    sym (given_apart c.args.left.now c.args.right.now (λ e. omega (arith, e, c.len.ensures.len, c.len-2.ensures.len, c.if-len.true)))

pub returns-then-not-is_same_row : goal.returns-then-not-is_same_row
returns-then-not-is_same_row c =
    let xs = c.args.left.now in
    let ys = c.args.right.now in
    let i = c.loop-place.place in
    let count : length xs ≡ length ys = omega (arith, c.len.ensures.len, c.len-2.ensures.len, c.if-len.false) in
    let row : is_same_row (slice_get xs i) (slice_get ys i) ≡ false = search rules in
    sym (given_more xs ys count i ∙ ap (λ b. b && same_given (drop (i + 1) xs) (drop (i + 1) ys)) row) ∙ c.loop-place.invariant

pub loop-place-preserved : goal.loop-place-preserved
loop-place-preserved c =
    let xs = c.args.left.now in
    let ys = c.args.right.now in
    let i = c.loop-place.place in
    let count : length xs ≡ length ys = omega (arith, c.len.ensures.len, c.len-2.ensures.len, c.if-len.false) in
    let row : is_same_row (slice_get xs i) (slice_get ys i) ≡ true = search rules in
    sym (given_more xs ys count i ∙ ap (λ b. b && same_given (drop (i + 1) xs) (drop (i + 1) ys)) row) ∙ c.loop-place.invariant
