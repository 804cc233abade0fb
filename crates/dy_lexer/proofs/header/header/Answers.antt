use Rattle.std.proofs.Common.{◌+◌, ◌<◌, drop, length, refl, sym, ap, ◌∙◌, arith}
use Rattle.dy_lexer.specs.Headers.{opened}
use Rattle.dy_lexer.proofs.Opening.{header_end, header_ends, header_goes, further}
use Rattle.dy_lexer.proofs.header.header.Goals as goal

pub returns-then-is_empty_line-clause-exact : goal.returns-then-is_empty_line-clause-exact
returns-then-is_empty_line-clause-exact c = λ n h.
    let (m, room, whole) = c.loop-rest.invariant.same n h in
    let back = further c.loop-rest.at c.line_size-size.result c.args.text.now c.loop-rest.rest.now (drop c.line_size-size.result c.loop-rest.rest.now) c.loop-rest.invariant.back refl in
    let empty = sym c.is_empty_line.ensures ∙ c.if-is_empty_line.true in
    ap (opened c.loop-rest.head (c.loop-rest.at + c.line_size-size.result)) (sym back)
    ∙ sym (header_ends c.args.lid m c.loop-rest.head c.loop-rest.at c.loop-rest.rest.now c.line_of-line.result.now c.line_size-size.result _ (omega arith) room c.line_of-line.ensures c.line_size-size.ensures.size empty whole)

pub loop-rest-preserved : goal.loop-rest-preserved
loop-rest-preserved c = record {
  place = omega (arith, c.split_at.ensures.back_len);
  back = further c.loop-rest.at c.line_size-size.result c.args.text.now c.loop-rest.rest.now c.split_at.result.1.now c.loop-rest.invariant.back c.split_at.ensures.back;
  same = λ n h.
      let (m, room, whole) = c.loop-rest.invariant.same n h in
      let less : length c.split_at.result.1.now < length c.loop-rest.rest.now = omega (arith, c.split_at.ensures.back_len, c.line_size-size.ensures.within, c.line_size-size.ensures.some) in
      let full = sym c.is_empty_line.ensures ∙ c.if-is_empty_line.false in
      header_goes c.args.lid m c.loop-rest.head c.in_ok-head.head c.loop-rest.at c.loop-rest.rest.now c.line_of-line.result.now c.split_at.result.1.now c.line_size-size.result _ (omega arith) room c.line_of-line.ensures c.line_size-size.ensures.size full c.in_ok-head.ensures c.split_at.ensures.back less whole;
}

pub returns-clause-exact : goal.returns-clause-exact
returns-clause-exact c = λ n h.
    let (m, room, whole) = c.loop-rest.invariant.same n h in
    ap (opened c.loop-rest.head c.loop-rest.at) (sym c.loop-rest.invariant.back)
    ∙ sym (whole ∙ header_end c.args.lid m c.loop-rest.head c.loop-rest.at c.loop-rest.rest.now (omega arith))
