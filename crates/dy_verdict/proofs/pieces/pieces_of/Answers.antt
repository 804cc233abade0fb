use Rattle.std.proofs.Common.{◌≡◌, ◌<◌, length, refl, sym, ◌∙◌, arith}
use Rattle.std.proofs.lemmas.List.{map-id}
use Rattle.std.proofs.lemmas.Iterator.Adapters.{YieldsList-from_vec}
use Rattle.std.proofs.lemmas.Iterator.Consumers.{YieldsList-end}
use Rattle.dy_verdict.proofs.Cutting.{closed_turn, open_turn, cut_last, cut_whole}
use Rattle.dy_verdict.proofs.pieces.pieces_of.Goals as goal
use Rattle.dy_verdict.proofs.pieces.pieces_of.Goals.{then-len-gt0+in_ok-push, else-len-gt0}

pub loop-fragment-preserved-in_ok-push-in-Some-semicolon_of : goal.loop-fragment-preserved-in_ok-push-in-Some-semicolon_of
loop-fragment-preserved-in_ok-push-in-Some-semicolon_of c =
    closed_turn c.loop-fragment.yielded c.in-Some.fragment c.loop-fragment.pieces.items c.push.new.self.items c.loop-fragment.current.items c.new-current-in-Some-semicolon_of.result.items _ c.in-Some-semicolon_of.place
    c.in-Some-semicolon_of.ensures c.in_ok-push-in-Some-semicolon_of.ensures.items refl c.new-current-in-Some-semicolon_of.ensures.items c.loop-fragment.invariant

pub loop-fragment-preserved : goal.loop-fragment-preserved
loop-fragment-preserved c =
    open_turn c.loop-fragment.yielded c.in-Some.fragment c.loop-fragment.pieces.items c.loop-fragment.current.items c.push-in-None-semicolon_of.new.self.items
    c.in-None-semicolon_of.ensures c.in_ok-push-in-None-semicolon_of.ensures.items c.loop-fragment.invariant

pub returns : goal.returns
returns c =
    let began = c.into_iter-fragment-iterator.ensures.into_iter_gives in
    let lists = YieldsList-from_vec {s = c.into_iter-fragment-iterator.result} c.args.fragments.items began.0 (began.1 ∙ c.args.fragments.ok.0) in
    let whole : c.loop-fragment.yielded ≡ c.args.fragments.items =
    sym (map-id c.loop-fragment.yielded) ∙ (YieldsList-end lists c.loop-fragment.yielded c.loop-fragment.fragment-iterator c.loop-fragment.yielded_by c.next.result c.next.new.self c.in-None.is c.next.ensures.steps).0 in
    let count : c.len.result ≡ length c.loop-fragment.current.items = c.len.ensures ∙ c.loop-fragment.current.ok.0 in
    elim c.if-len-gt0.branch [
      | then-len-gt0+in_ok-push w ↦
          let some : 0 < length c.loop-fragment.current.items = omega (arith, count, w.if-len-gt0.true) in
          rw w.pieces-is (cut_last c.loop-fragment.yielded c.args.fragments.items c.loop-fragment.pieces.items w.push-then-len-gt0.new.self.items c.loop-fragment.current.items _ c.loop-fragment.invariant whole some w.in_ok-push.ensures.items refl)
      | else-len-gt0 w ↦
          rw w.pieces-is (cut_whole c.loop-fragment.yielded c.args.fragments.items c.loop-fragment.pieces.items c.loop-fragment.current.items c.loop-fragment.invariant whole (λ some. omega (arith, count, w.if-len-gt0.false)))
    ]
