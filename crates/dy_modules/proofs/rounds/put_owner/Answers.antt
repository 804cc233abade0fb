use Rattle.std.proofs.Common.{◌≡◌, Some, cond, sym, ap, ◌∙◌}
use Rattle.std.specs.Option.{option_map}
use Rattle.std.specs.Str.{bytes_eq}
use Rattle.std.proofs.lemmas.Result.{on_ok_weaker}
use Rattle.dy_modules.specs.declared.table.Cell.TheVariants.{One}
use Rattle.dy_modules.specs.Cells.{over_one, at}
use Rattle.dy_modules.proofs.Put.{put_one}
use Rattle.dy_modules.proofs.rounds.put_owner.Goals as goal

pub returns : goal.returns
returns c =
    let old = c.args.into.now in
    on_ok_weaker c.set.result (λ is n.
    put_one old c.set.new.self c.in-Some.name.now (One c.in_ok-copy.field-0) is n
    ∙ ap (λ k. cond (bytes_eq n c.in-Some.name.now) (Some (One k)) (at old n)) c.in_ok-copy.ensures
    ∙ ap (λ r. over_one n (option_map (λ p. (p.0.now, p.1.now)) r) (at old n)) (sym c.in-Some.is)) c.set.ensures.table
