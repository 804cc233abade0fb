use Rattle.std.proofs.Common.{rules, ◌≡◌, true, false, sym, subst, length, slice_get, Some, refl}
use Rattle.std.proofs.lemmas.Option.{slice_get_read}
use Rattle.dy_modules.specs.Order.{all_rows, is_ready, AreTables, Makes}
use Rattle.dy_modules.proofs.Loop.{makes, stuck_has}
use Rattle.dy_modules.proofs.rounds.make.Goals as goal

pub returns-then-not-is_ready-clause-stuck : goal.returns-then-not-is_ready-clause-stuck
returns-then-not-is_ready-clause-stuck c = λ _.
    let form = c.index-forms-m.result in
    let at : slice_get c.args.forms.now c.args.m ≡ Some form = slice_get_read c.args.forms.now (length c.args.forms.now) c.args.m form refl c.requires.within c.index-forms-m.is in
    let not_ready : is_ready c.args.done.now.items form.uses ≡ false = search rules in
    let s = stuck_has c.args.done.now.items form.uses not_ready in
    (refl, (form, s.0, at, s.1, s.2))

pub returns-clause-made : goal.returns-clause-made
returns-clause-made c = λ _.
    let form = c.index-forms-m.result in
    let at : slice_get c.args.forms.now c.args.m ≡ Some form = slice_get_read c.args.forms.now (length c.args.forms.now) c.args.m form refl c.requires.within c.index-forms-m.is in
    let ready : is_ready c.args.done.now.items form.uses ≡ true = search rules in
    let made : AreTables c.args.m form (all_rows c.args.done.now.items) c.in_ok-tables.tables =
    subst (λ done. AreTables c.args.m form (all_rows done) c.in_ok-tables.tables) (search rules) c.in_ok-tables.ensures in
    subst (Makes c.args.forms.now c.args.m c.args.done.now.items) (sym c.put.ensures)
    (makes c.args.forms.now c.args.m form c.args.done.now.items c.in_ok-tables.tables at ready made c.requires.right)
