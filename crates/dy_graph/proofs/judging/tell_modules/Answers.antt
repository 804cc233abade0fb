use Rattle.std.proofs.Common.{◌≡◌, ℕ, ◌≤◌, true, length, Some, slice_get, refl, arith}
use Rattle.std.proofs.lemmas.Option.{slice_get_read}
use Rattle.dy_module_forms.specs.declared.written.Form.{Form}
use Rattle.dy_modules.specs.Order.{is_made}
use Rattle.dy_library_form.specs.declared.found.Found.{Found}
use Rattle.dy_graph.specs.Faults.{IsModuleFault, IsSingle}
use Rattle.dy_graph.proofs.Added.{adds_start, adds_more, adds_all, nothing_before}
use Rattle.dy_graph.proofs.Clauses.{below_more}
use Rattle.dy_graph.proofs.judging.tell_modules.Goals as goal

pub loop-number-init : goal.loop-number-init
loop-number-init c =
    let naming = c.args.naming.now in
    let ms = c.args.made.modules.now in
    let forms = c.args.forms.now in
    record {
      adds = adds_start forms (λ (j : ℕ) (form : Form) (f : Found). IsModuleFault naming.own naming.imported ms j form f) c.args.found.now;
      quiet = λ nothing m less. absurd (omega (arith, less));
    }

pub tell_module-requires-clause-of : goal.tell_module-requires-clause-of
tell_module-requires-clause-of c =
    let forms = c.args.forms.now in
    let i = c.loop-number.number in
    let form = c.index-forms-number.result in
    let at : slice_get forms i ≡ Some form = slice_get_read forms (length forms) i form refl c.loop-number-test.true c.index-forms-number.is in
    c.requires.of i form at

pub loop-number-preserved : goal.loop-number-preserved
loop-number-preserved c =
    let naming = c.args.naming.now in
    let ms = c.args.made.modules.now in
    let done = c.args.made.tables.now in
    let forms = c.args.forms.now in
    let i = c.loop-number.number in
    let form = c.index-forms-number.result in
    let at : slice_get forms i ≡ Some form = slice_get_read forms (length forms) i form refl c.loop-number-test.true c.index-forms-number.is in
    let middle = c.loop-number.found in
    let new = c.tell_module.new.found in
    let ensures = c.in_ok-tell_module.ensures in
    record {
      adds = adds_more forms (λ (j : ℕ) (form : Form) (f : Found). IsModuleFault naming.own naming.imported ms j form f) i form c.args.found.now middle new at c.loop-number.invariant.adds ensures.adds;
      quiet = λ nothing. below_more (λ m. is_made (slice_get done m) ≡ true → IsSingle ms m) i
          (c.loop-number.invariant.quiet (nothing_before middle new (IsModuleFault naming.own naming.imported ms i form) ensures.adds nothing)) (ensures.quiet nothing);
    }

pub returns : goal.returns
returns c =
    let naming = c.args.naming.now in
    let ms = c.args.made.modules.now in
    let forms = c.args.forms.now in
    let i = c.loop-number.number in
    let past : length forms ≤ i = omega arith in
    record {
      adds = adds_all forms (λ (j : ℕ) (form : Form) (f : Found). IsModuleFault naming.own naming.imported ms j form f) i c.args.found.now c.loop-number.found past c.loop-number.invariant.adds;
      quiet = λ nothing m less. c.loop-number.invariant.quiet nothing m (omega (arith, less, past));
    }
