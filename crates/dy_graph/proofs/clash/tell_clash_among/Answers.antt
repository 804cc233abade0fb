use Rattle.std.proofs.Common.{◌≡◌, true, length, refl, sym, ap, subst, ◌∙◌}
use Rattle.std.proofs.lemmas.Result.{on_ok_weaker}
use Rattle.dy_modules.specs.declared.clause.ModuleForm.{ModuleForm}
use Rattle.dy_modules.specs.Clauses.{IsIn}
use Rattle.dy_modules.specs.Builds.{is_clear}
use Rattle.dy_modules.specs.Clash.{OneOwner}
use Rattle.dy_modules.proofs.Rows.{some_is, none_is}
use Rattle.dy_module_numbers.specs.Modules.{module_form}
use Rattle.dy_graph.specs.Faults.{use_places, IsOwnClash}
use Rattle.dy_graph.proofs.Added.{adds_none}
use Rattle.dy_graph.proofs.AllMade.{source_made}
use Rattle.dy_graph.proofs.Lent.{item_some, item_none}
use Rattle.dy_graph.proofs.TwoNames.{as_many, single_of, single_none, one_single, ready_all, adds_own}
use Rattle.dy_graph.proofs.clash.tell_clash_among.Goals as goal

pub returns-then-is_single-clause-adds : goal.returns-then-is_single-clause-adds
returns-then-is_single-clause-adds c =
    let ms = c.args.made.modules.now in
    let m = c.args.number in
    let t = c.args.tables.now in
    let old = c.args.found.now in
    let clear : is_clear t.imports ≡ true = sym c.is_single.ensures ∙ c.if-is_single.true in
    adds_none old old (IsOwnClash ms m c.args.form.now) refl (single_none ms m c.args.form.now (single_of ms m t (c.requires.made.right.each m t c.requires.at) clear))

pub returns-then-is_single-clause-quiet : goal.returns-then-is_single-clause-quiet
returns-then-is_single-clause-quiet c = λ nothing.
    let ms = c.args.made.modules.now in
    let m = c.args.number in
    let t = c.args.tables.now in
    let clear : is_clear t.imports ≡ true = sym c.is_single.ensures ∙ c.if-is_single.true in
    single_of ms m t (c.requires.made.right.each m t c.requires.at) clear

pub tell_clash_of-requires-clause-ready : goal.tell_clash_of-requires-clause-ready
tell_clash_of-requires-clause-ready c =
    let ms = c.args.made.modules.now in
    let done = c.args.made.tables.now in
    let m = c.args.number in
    let t = c.args.tables.now in
    let d = c.in-Some.own.now in
    let at = item_some ms m c.get.result c.in-Some.own c.get.ensures.lookup c.in-Some.is in
    let grounds = (c.requires.made.right.each m t c.requires.at).grounded in
    ready_all ms done c.requires.made c.as_slice.result.now (λ u is. source_made ms done c.requires.made m d u grounds at (subst (IsIn u) c.as_slice.ensures is))

pub tell_clash_of-requires-clause-places : goal.tell_clash_of-requires-clause-places
tell_clash_of-requires-clause-places c =
    let ms = c.args.made.modules.now in
    let m = c.args.number in
    let naming = c.args.naming.now in
    let form = c.args.form.now in
    let at = item_some ms m c.get.result c.in-Some.own c.get.ensures.lookup c.in-Some.is in
    let same = some_is (module_form naming.own naming.imported naming.nothing m form) c.in-Some.own.now (sym c.requires.of ∙ at) in
    ap (λ l. length (use_places l)) c.as_slice-in-Some.ensures ∙ as_many naming.own naming.imported naming.nothing form.clauses ∙ ap (λ (x : ModuleForm). length x.uses) same ∙ ap length (sym c.as_slice.ensures)

pub returns-in-Some-clause-adds : goal.returns-in-Some-clause-adds
returns-in-Some-clause-adds c =
    let ms = c.args.made.modules.now in
    let m = c.args.number in
    let t = c.args.tables.now in
    let d = c.in-Some.own.now in
    let at = item_some ms m c.get.result c.in-Some.own c.get.ensures.lookup c.in-Some.is in
    let grounds = (c.requires.made.right.each m t c.requires.at).grounded in
    on_ok_weaker c.tell_clash_of.result (adds_own ms m c.args.form.now d at grounds c.as_slice.result.now c.as_slice-in-Some.result.now c.args.found.now c.tell_clash_of.new.found c.as_slice.ensures c.as_slice-in-Some.ensures) c.tell_clash_of.ensures.adds

pub returns-in-Some-clause-quiet : goal.returns-in-Some-clause-quiet
returns-in-Some-clause-quiet c =
    let ms = c.args.made.modules.now in
    let m = c.args.number in
    let d = c.in-Some.own.now in
    let at = item_some ms m c.get.result c.in-Some.own c.get.ensures.lookup c.in-Some.is in
    on_ok_weaker c.tell_clash_of.result (λ is nothing. one_single ms m d at (subst (OneOwner ms) c.as_slice.ensures (is nothing))) c.tell_clash_of.ensures.quiet

pub returns-in-None : goal.returns-in-None
returns-in-None c =
    let ms = c.args.made.modules.now in
    let m = c.args.number in
    let naming = c.args.naming.now in
    absurd (none_is (module_form naming.own naming.imported naming.nothing m c.args.form.now) (sym (item_none ms m c.get.result c.get.ensures.lookup c.in-None.is) ∙ c.requires.of))
