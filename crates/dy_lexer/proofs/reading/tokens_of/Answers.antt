use Rattle.std.proofs.Common.{◌≡◌, ◌<◌, take, drop, length, refl, sym, ◌∙◌, arith}
use Rattle.std.proofs.lemmas.Result.{err_from_is_err_and}
use Rattle.dy_lexer.proofs.Loop.{tokens_end, fault_ends, error_ends, turn}
use Rattle.dy_lexer.proofs.reading.tokens_of.Goals as goal

pub loop-rest-init : goal.loop-rest-init
loop-rest-init c = record { place = refl; bare = λ k h. absurd (omega arith); same = λ n h. (n, h, rw c.new-tokens.ensures.items refl) }

pub returns-in-Err : goal.returns-in-Err
returns-in-Err c = λ n h.
    let (m, room, whole) = c.loop-rest.invariant.same n h in
    rw c.fault.ensures (fault_ends c.loop-rest.tokens.items m c.args.file c.loop-rest.at c.loop-rest.rest.now c.in-Err.kind _ (omega arith) room (sym c.in-Err.is ∙ c.piece_at.ensures.value) whole)

pub returns-in_err-tokens : goal.returns-in_err-tokens
returns-in_err-tokens c = λ n h.
    let (m, room, whole) = c.loop-rest.invariant.same n h in
    let p = err_from_is_err_and c.from_residual.result c.from_residual.ensures.1 in
    let front : c.split_at.result.0.now ≡ take c.in-Ok.found.1 c.loop-rest.rest.now = c.split_at.ensures.front in
    let back : c.split_at.result.1.now ≡ drop c.in-Ok.found.1 c.loop-rest.rest.now = c.split_at.ensures.back in
    rw (p.1, p.2) (error_ends c.in_err-tokens.field-0.0 c.loop-rest.tokens.items m c.args.file c.loop-rest.at c.loop-rest.rest.now c.in-Ok.found.0 c.in-Ok.found.1 _ (omega arith) room (sym c.in-Ok.is ∙ c.piece_at.ensures.value) (rw (front, back) at c.in_err-tokens.ensures) whole)

pub loop-rest-preserved : goal.loop-rest-preserved
loop-rest-preserved c = record {
  place = omega (arith, c.split_at.ensures.back_len);
  bare = rw c.split_at.ensures.back c.nameless_after-bare.ensures;
  same = λ n h.
      let (m, room, whole) = c.loop-rest.invariant.same n h in
      let some : 0 < length c.loop-rest.rest.now = omega arith in
      let less : length c.split_at.result.1.now < length c.loop-rest.rest.now = omega (arith, c.split_at.ensures.back_len, c.in-Ok.ensures.within) in
      let front : c.split_at.result.0.now ≡ take c.in-Ok.found.1 c.loop-rest.rest.now = c.split_at.ensures.front in
      let back : c.split_at.result.1.now ≡ drop c.in-Ok.found.1 c.loop-rest.rest.now = c.split_at.ensures.back in
      turn c.loop-rest.tokens.items c.in_ok-tokens.tokens.items m c.args.file c.loop-rest.at c.loop-rest.rest.now c.in-Ok.found.0 c.in-Ok.found.1 c.split_at.result.1.now _ some room less back (sym c.in-Ok.is ∙ c.piece_at.ensures.value) (rw (front, back) at c.in_ok-tokens.ensures) whole;
}

pub returns : goal.returns
returns c = λ n h.
    let (m, room, whole) = c.loop-rest.invariant.same n h in
    whole ∙ tokens_end c.loop-rest.tokens.items m c.args.file c.loop-rest.at c.loop-rest.rest.now (omega arith)
