use Rattle.std.proofs.Common.{◌≡◌, true, false, true≢false, slice_get, refl, sym, ap, ◌∙◌}
use Rattle.std.proofs.lemmas.Result.{on_ok_weaker}
use Rattle.dy_modules.specs.Order.{is_made}
use Rattle.dy_graph.specs.Faults.{IsOwnClash}
use Rattle.dy_graph.proofs.Added.{adds_none}
use Rattle.dy_graph.proofs.Lent.{item_none, not_made, tables_at}
use Rattle.dy_graph.proofs.TwoNames.{stuck_none}
use Rattle.dy_graph.proofs.clash.tell_clash.Goals as goal

pub tell_clash_among-requires-clause-at : goal.tell_clash_among-requires-clause-at
tell_clash_among-requires-clause-at c =
    tables_at c.args.made.tables.now c.args.number c.get.result c.in-Some-Some.field-0 c.in-Some-Some.tables c.get.ensures.lookup c.in-Some-Some.is c.in-Some-Some.field-0-is

pub returns-in-Some-Some-clause-quiet : goal.returns-in-Some-Some-clause-quiet
returns-in-Some-Some-clause-quiet c = on_ok_weaker c.tell_clash_among.result (λ is nothing here. is nothing) c.tell_clash_among.ensures.quiet

pub returns-in-Some-None : goal.returns-in-Some-None
returns-in-Some-None c =
    let ms = c.args.made.modules.now in
    let done = c.args.made.tables.now in
    let m = c.args.number in
    let form = c.args.form.now in
    let old = c.args.found.now in
    let never : is_made (slice_get done m) ≡ false = not_made done m c.get.result c.in-Some-None.field-0 c.get.ensures.lookup c.in-Some-None.is c.in-Some-None.field-0-is in
    record {
      adds = adds_none old old (IsOwnClash ms m form) refl (stuck_none ms m form done c.requires.made never);
      quiet = λ nothing here. absurd (true≢false (sym here ∙ never));
    }

pub returns-in-None : goal.returns-in-None
returns-in-None c =
    let ms = c.args.made.modules.now in
    let done = c.args.made.tables.now in
    let m = c.args.number in
    let form = c.args.form.now in
    let old = c.args.found.now in
    let never : is_made (slice_get done m) ≡ false = ap is_made (item_none done m c.get.result c.get.ensures.lookup c.in-None.is) in
    record {
      adds = adds_none old old (IsOwnClash ms m form) refl (stuck_none ms m form done c.requires.made never);
      quiet = λ nothing here. absurd (true≢false (sym here ∙ never));
    }
