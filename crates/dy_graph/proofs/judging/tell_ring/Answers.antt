use Rattle.std.proofs.Common.{◌≡◌, ◌++◌, [], ◌∷◌, ◌≤◌, true, true≢false, length, Some, slice_get, refl, sym, ap, ◌∙◌, arith}
use Rattle.std.proofs.lemmas.Option.{slice_get_read}
use Rattle.std.proofs.lemmas.Result.{on_ok_weaker}
use Rattle.dy_base.specs.declared.kind.Kind.TheVariants.{Cycle}
use Rattle.dy_module_numbers.specs.Rings.{Leads}
use Rattle.dy_library_form.specs.Told.{found}
use Rattle.dy_graph.proofs.Clauses.{below_more, adds_ring, adds_no_ring}
use Rattle.dy_graph.proofs.judging.tell_ring.Goals as goal

pub loop-number-init : goal.loop-number-init
loop-number-init c = record { free = λ k less. absurd (omega (arith, less)); same = refl }

pub returns-then-ringed : goal.returns-then-ringed
returns-then-ringed c =
    let ms = c.args.made.modules.now in
    let forms = c.args.forms.now in
    let i = c.loop-number.number in
    let form = c.index-forms-number.result in
    let old = c.args.found.now in
    let at : slice_get forms i ≡ Some form = slice_get_read forms (length forms) i form refl c.loop-number-test.true c.index-forms-number.is in
    let leads = c.in_ok-ringed.ensures.0 c.if-ringed.true in
    let name = ap (λ n. old ++ found Cycle form.place n ∷ []) c.bytes.ensures.bytes in
    let same = ap (λ l. l ++ found Cycle form.place c.bytes.result.now ∷ []) c.loop-number.invariant.same in
    on_ok_weaker c.tell.result (λ is. adds_ring ms forms i c.loop-number.invariant.free form old c.tell.new.list at leads (is ∙ same ∙ name)) c.tell.ensures

pub loop-number-preserved : goal.loop-number-preserved
loop-number-preserved c =
    let ms = c.args.made.modules.now in
    let i = c.loop-number.number in
    record {
      free = below_more (λ k. Leads ms k k → ⊥) i c.loop-number.invariant.free (λ leads. true≢false (sym (c.in_ok-ringed.ensures.1 leads) ∙ c.if-ringed.false));
      same = c.loop-number.invariant.same;
    }

pub returns : goal.returns
returns c =
    let forms = c.args.forms.now in
    let i = c.loop-number.number in
    let past : length forms ≤ i = omega arith in
    adds_no_ring c.args.made.modules.now forms i c.loop-number.invariant.free c.args.found.now c.loop-number.found past c.loop-number.invariant.same
