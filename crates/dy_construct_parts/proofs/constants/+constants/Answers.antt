use Rattle.std.proofs.Common.{◌≡◌, ◌<◌, length, ◌∷◌, ◌++◌, map, flat_map, option_map, sym, ap, ◌∙◌, rules, arith}
use Rattle.dy_construct_parts.specs.declared.construct.Construct.TheVariants as constructs
use Rattle.dy_construct_parts.specs.Table.{first_absent}
use Rattle.dy_tree.specs.declared.types.ConstantForm.TheViews.{the_lemmas}
use Rattle.dy_rules.specs.ConstantTrees.{tail_of}
use Rattle.dy_rules.specs.SeenTypes.{seen_constant}
use Rattle.dy_rules.proofs.HeldTypes.{inner_constants, inner_tail}
use Rattle.dy_construct_parts.specs.Parts.{in_constant, in_tail}
use Rattle.dy_construct_parts.proofs.Firsts.{parts_1, parts_2, seen_step}
use Rattle.dy_construct_parts.proofs.PartRows.{constants_flat}
use Rattle.dy_construct_parts.proofs.constants.+constants.Goals as goal

pub in_constant-returns-in-List : goal.in_constant-returns-in-List
in_constant-returns-in-List t c =
    let items = flat_map in_constant (map seen_constant c.in-List.items.items) in
    let last = in_tail (tail_of (option_map (λ boxed. seen_constant boxed.value) c.in-List.tail)) in
    let from : in_constant (seen_constant c.args.form.now) ≡ constructs.List ∷ (items ++ last) = rw c.in-List.is (search (rules, the_lemmas, inner_constants, inner_tail, constants_flat)) in
    parts_2 _ _ _ _ _ constructs.List items last c.absent.ensures c.in_constants.ensures c.or.ensures c.in_boxed_tail.ensures c.or-in-List.ensures ∙ sym (ap first_absent from)

pub in_constant-returns-in-Vector : goal.in_constant-returns-in-Vector
in_constant-returns-in-Vector t c =
    let items = flat_map in_constant (map seen_constant c.in-Vector.items.items) in
    let from : in_constant (seen_constant c.args.form.now) ≡ constructs.Vector ∷ items = rw c.in-Vector.is (search (rules, the_lemmas, inner_constants, constants_flat)) in
    parts_1 _ _ _ constructs.Vector items c.absent-in-Vector.ensures c.in_constants-in-Vector.ensures c.or-in-Vector.ensures ∙ sym (ap first_absent from)

pub in_constants-loop-form-preserved : goal.in_constants-loop-form-preserved
in_constants-loop-form-preserved t c =
    let items = c.deref-form-items.result.now in
    let lt : c.loop-form.form-index < length items = omega arith in
    seen_step in_constant seen_constant items c.loop-form.form-index c.form-item.result lt c.form-item.is _ _ _ c.loop-form.invariant c.in_constant.ensures c.or-found.ensures
