use Rattle.std.proofs.Common.{◌≡◌, ◌++◌, not, ◌&&◌, arith, map, ap, sym, List, ◌∙◌}
use Rattle.std.specs.Option.{is_some}
use Rattle.dy_tree.specs.declared.fragment.Fragment.{Fragment}
use Rattle.dy_tree.specs.Fragments.{seen_fragments}
use Rattle.dy_rules.specs.TypeWriting.{required_joined, next_joined, rest_joined}
use Rattle.dy_rules.specs.SeenTypes.{seen_required}
use Rattle.dy_write_parts.proofs.Endings.{listed_step}
use Rattle.dy_write_parts.proofs.parameter_list.push_listed.Goals as goal
use Rattle.dy_write_parts.proofs.parameter_list.push_listed.Goals.{then-first, else-first, then-first-2, else-first-2}

pub returns : goal.returns
returns c =
    let next_first : c.if-first.first ≡ (c.is_empty-first.result && not (is_some c.args.next.now)) = elim c.if-first.branch [ then-first w ↦ grind arith | else-first w ↦ grind arith ] in
    let rest_first : c.if-first-2.first ≡ (c.if-first.first && not (is_some c.args.rest.now)) = elim c.if-first-2.branch [ then-first-2 w ↦ grind arith | else-first-2 w ↦ grind arith ] in
    let inner : seen_fragments c.push_last.new.out.items ≡ required_joined (map seen_required c.args.required.now.items) (next_joined c.args.next.now (rest_joined c.args.rest.now (seen_fragments c.args.keys.items))) =
    listed_step seen_required (seen_fragments c.new-inner.result.items) _ _ _ _ c.is_empty-first.result c.if-first.first c.if-first-2.first c.args.required.now c.args.next.now c.args.rest.now (seen_fragments c.args.keys.items)
    c.in_ok-push_each_required.ensures c.is_empty-first.ensures c.in_ok-push_marked_name.ensures next_first c.in_ok-push_marked_name-2.ensures rest_first c.in_ok-push_last.ensures
    ∙ ap (λ (fragments : List Fragment). seen_fragments fragments ++ required_joined (map seen_required c.args.required.now.items) (next_joined c.args.next.now (rest_joined c.args.rest.now (seen_fragments c.args.keys.items)))) c.new-inner.ensures.items
    in
    rw (sym inner) c.push_round.ensures
