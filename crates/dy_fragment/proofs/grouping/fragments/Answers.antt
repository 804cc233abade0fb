use Rattle.std.proofs.Common.{◌≡◌, ◌<◌, length, refl, sym, ap, arith}
use Rattle.std.proofs.lemmas.Result.{err_from_is_err_and}
use Rattle.std.proofs.lemmas.Option.{slice_get_read}
use Rattle.dy_fragment.specs.Steps.{SeenState, seen_state, run}
use Rattle.dy_fragment.proofs.Turns.{ends, turn, fails}
use Rattle.dy_fragment.proofs.grouping.fragments.Goals as goal

pub loop-state-init : goal.loop-state-init
loop-state-init c =
    let zero : c.at_start-state.result.at ≡ 0 = ap (λ (s : SeenState). s.at) c.at_start-state.ensures in
    record {
      within = omega arith;
      same = (length c.args.tokens.now, omega arith, ap (λ (s : SeenState). run 200 c.args.words.now c.args.tokens.now (length c.args.tokens.now) s) (sym c.at_start-state.ensures));
    }

pub returns-in_err-state : goal.returns-in_err-state
returns-in_err-state c =
    let (n, enough, is) = c.loop-state.invariant.same in
    let p = err_from_is_err_and c.from_residual.result c.from_residual.ensures.1 in
    let room : c.loop-state.state.at < length c.args.tokens.now = omega arith in
    let found = slice_get_read c.args.tokens.now (length c.args.tokens.now) c.loop-state.state.at c.index-tokens-state.result refl room c.index-tokens-state.is in
    rw (p.1, p.2) (fails c.in_err-state.field-0.0 200 c.args.words.now c.args.tokens.now n (seen_state c.loop-state.state) c.index-tokens-state.result _ found room enough c.in_err-state.ensures.value is)

pub loop-state-preserved : goal.loop-state-preserved
loop-state-preserved c =
    let (n, enough, is) = c.loop-state.invariant.same in
    let room : c.loop-state.state.at < length c.args.tokens.now = omega arith in
    let found = slice_get_read c.args.tokens.now (length c.args.tokens.now) c.loop-state.state.at c.index-tokens-state.result refl room c.index-tokens-state.is in
    record {
      within = c.in_ok-state.ensures.ahead.1;
      same = turn 200 c.args.words.now c.args.tokens.now n (seen_state c.loop-state.state) (seen_state c.in_ok-state.state) c.index-tokens-state.result _ found c.in_ok-state.ensures.value room enough c.in_ok-state.ensures.ahead.0 is;
    }

pub returns : goal.returns
returns c =
    let (n, enough, is) = c.loop-state.invariant.same in
    rw (ends 200 c.args.words.now c.args.tokens.now n (seen_state c.loop-state.state) _ (omega arith) is) c.finish.ensures
