use Rattle.std.proofs.Common.{◌≡◌, ◌<◌, length, ◌∷◌, map, flat_map, sym, ap, ◌∙◌, rules, arith}
use Rattle.dy_construct_parts.specs.declared.construct.Construct.TheVariants as constructs
use Rattle.dy_construct_parts.specs.Table.{first_absent}
use Rattle.dy_tree.specs.declared.types.TypeForm.TheViews.{the_lemmas}
use Rattle.dy_rules.specs.SeenTypes.{seen_type}
use Rattle.dy_rules.proofs.HeldTypes.{inner_types}
use Rattle.dy_construct_parts.specs.Parts.{in_type}
use Rattle.dy_construct_parts.proofs.Firsts.{parts_1, seen_step}
use Rattle.dy_construct_parts.proofs.PartRows.{types_flat}
use Rattle.dy_construct_parts.proofs.types.+types.Goals as goal

pub in_type-returns-in-Union : goal.in_type-returns-in-Union
in_type-returns-in-Union t c =
    let items = flat_map in_type (map seen_type c.in-Union.types.items) in
    let from : in_type (seen_type c.args.form.now) ≡ constructs.UnionType ∷ items = rw c.in-Union.is (search (rules, the_lemmas, inner_types, types_flat)) in
    parts_1 _ _ _ constructs.UnionType items c.absent-in-Union.ensures c.in_types.ensures c.or-in-Union.ensures ∙ sym (ap first_absent from)

pub in_types-loop-form-preserved : goal.in_types-loop-form-preserved
in_types-loop-form-preserved t c =
    let items = c.deref-form-items.result.now in
    let lt : c.loop-form.form-index < length items = omega arith in
    seen_step in_type seen_type items c.loop-form.form-index c.form-item.result lt c.form-item.is _ _ _ c.loop-form.invariant c.in_type.ensures c.or-found.ensures
