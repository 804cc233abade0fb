use Rattle.std.proofs.Common.{◌++◌, List, sym, ap, ◌∙◌}
use Rattle.std.proofs.lemmas.List.{append-nil}
use Rattle.dy_tree.specs.Fragments.{SeenFragment, seen_fragments}
use Rattle.dy_write_parts.proofs.Expressions.{no_leaf}
use Rattle.dy_write_parts.proofs.leaves.push_leaf.Goals as goal

pub returns-in_default : goal.returns-in_default
returns-in_default c =
    let out = seen_fragments c.args.out.now.items in
    let none = no_leaf c.args.form.now c.in_default.not-Literal c.in_default.not-Name c.in_default.not-List c.in_default.not-Vector in
    sym (append-nil out) ∙ ap (λ (fragments : List SeenFragment). out ++ fragments) (sym none)
