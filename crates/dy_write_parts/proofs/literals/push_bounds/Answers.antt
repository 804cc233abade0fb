use Rattle.std.proofs.Common.{◌++◌, ◌<◌, length, [], ◌∷◌, ap, ◌∙◌, arith}
use Rattle.dy_tree.specs.declared.token.Token.{Token}
use Rattle.dy_tree.specs.Fragments.{one, seen_fragments}
use Rattle.dy_rules.specs.Marks.{comma_mark, written_integer}
use Rattle.dy_rules.specs.TypeWriting.{written_bounds}
use Rattle.dy_rules.specs.SeenTypes.{seen_bound}
use Rattle.dy_write_parts.proofs.Separated.{two_parts, flat_step}
use Rattle.dy_write_parts.proofs.Lists.{bound_part, bounds_flat}
use Rattle.dy_write_parts.proofs.literals.push_bounds.Goals as goal

pub loop-bound-preserved : goal.loop-bound-preserved
loop-bound-preserved c =
    let before = seen_fragments c.loop-bound.out.items in
    let keyword = one c.bound-item.result.keyword in
    let number = c.bound-item.result.number in
    let lt : c.loop-bound.bound-index < length c.deref-bound-items.result.now = omega arith in
    let named = c.in_ok-push_token.ensures ∙ ap (λ (token : Token). seen_fragments c.push_mark.new.out.items ++ one token ∷ []) c.in_ok-copy.ensures in
    flat_step (λ bound. comma_mark ∷ bound_part bound) written_bounds bounds_flat seen_bound (seen_fragments c.args.out.now.items) before (seen_fragments c.push_integer.new.out.items) c.deref-bound-items.result.now c.loop-bound.bound-index c.bound-item.result lt c.bound-item.is
    c.loop-bound.invariant
    (two_parts before _ _ (comma_mark ∷ keyword ∷ []) (written_integer number.minus number.digits) (two_parts before _ _ (comma_mark ∷ []) (keyword ∷ []) c.in_ok-push_mark.ensures named) c.in_ok-push_integer.ensures)
