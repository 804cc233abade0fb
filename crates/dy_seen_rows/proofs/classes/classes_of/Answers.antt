use Rattle.std.proofs.Common.{◌≡◌, List, IfOk, ap, subst, ◌∙◌}
use Rattle.dy_term.specs.declared.rows.ClassRow.{ClassRow}
use Rattle.dy_seen_rows.specs.declared.places.Places.TheVariants.{Kept}
use Rattle.dy_seen_rows.specs.Places.{placed}
use Rattle.dy_seen_rows.specs.Rows.{linked_class_rows}
use Rattle.dy_seen_rows.proofs.Kept.{rows_kept}
use Rattle.dy_seen_rows.proofs.classes.classes_of.Goals as goal

pub returns : goal.returns
returns c =
    subst (λ (wanted : List ClassRow). IfOk c.link_class_rows.result (λ classes. classes ≡ wanted))
    (ap (linked_class_rows (placed Kept)) c.as_slice.ensures ∙ rows_kept c.args.library.now.classes)
    c.link_class_rows.ensures
