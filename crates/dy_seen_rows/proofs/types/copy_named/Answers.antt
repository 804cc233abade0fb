use Rattle.std.proofs.Common.{◌≡◌, Option, IfOk, subst}
use Rattle.dy_term.specs.declared.types.DyType.{DyType}
use Rattle.dy_seen_rows.proofs.Kept.{named_kept}
use Rattle.dy_seen_rows.proofs.types.copy_named.Goals as goal

pub returns : goal.returns
returns c =
    subst (λ (wanted : Option DyType). IfOk c.link_named.result (λ copy. copy ≡ wanted))
    (named_kept c.args.named.now) c.link_named.ensures
