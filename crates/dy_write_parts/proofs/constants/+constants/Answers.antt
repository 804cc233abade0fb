use Rattle.std.proofs.Common.{rules, ◌≡◌, ◌++◌, List, [], ◌∷◌, ◌<◌, length, map, option_map, sym, ap, ◌∙◌, arith}
use Rattle.dy_tree.specs.declared.types.ConstantForm.TheViews.{the_lemmas}
use Rattle.dy_tree.specs.declared.fragment.Fragment.{Fragment}
use Rattle.dy_tree.specs.Fragments.{seen_fragments}
use Rattle.dy_rules.specs.ConstantTrees.{constants_of, tail_of}
use Rattle.dy_rules.specs.Marks.{comma_mark, list_group, square_group}
use Rattle.dy_rules.specs.SeenTypes.{seen_constant}
use Rattle.dy_rules.specs.Writing.{written_constant, written_items, written_tail}
use Rattle.dy_rules.proofs.HeldTypes.{inner_constants, inner_tail}
use Rattle.dy_write_parts.proofs.Lists.{items_separated}
use Rattle.dy_write_parts.proofs.Separated.{separated_step, some_seen}
use Rattle.dy_write_parts.proofs.constants.+constants.Goals as goal

pub push_constant-returns-in_ok-push_boxed_tail-in-List : goal.push_constant-returns-in_ok-push_boxed_tail-in-List
push_constant-returns-in_ok-push_boxed_tail-in-List t c =
    let from : written_constant (seen_constant c.args.form.now) ≡ list_group c.in-List.opener (written_items (constants_of (map seen_constant c.in-List.items.items)) ++ written_tail (tail_of (option_map (λ boxed. seen_constant boxed.value) c.in-List.tail))) ∷ [] = rw c.in-List.is (search (rules, the_lemmas, inner_constants, inner_tail)) in
    let items = written_items (constants_of (map seen_constant c.in-List.items.items)) in
    let last = written_tail (tail_of (option_map (λ boxed. seen_constant boxed.value) c.in-List.tail)) in
    let inner : seen_fragments c.push_boxed_tail.new.out.items ≡ items ++ last =
    c.in_ok-push_boxed_tail-in-List.ensures ∙ ap (λ fragments. fragments ++ last) (c.in_ok-push_items-in-List.ensures ∙ ap (λ (fragments : List Fragment). seen_fragments fragments ++ items) c.new-inner.ensures.items) in
    rw (from, sym inner) c.push_list_group.ensures

pub push_constant-returns-in_ok-push_items-in-Vector : goal.push_constant-returns-in_ok-push_items-in-Vector
push_constant-returns-in_ok-push_items-in-Vector t c =
    let from : written_constant (seen_constant c.args.form.now) ≡ square_group c.in-Vector.opener (written_items (constants_of (map seen_constant c.in-Vector.items.items))) ∷ [] = rw c.in-Vector.is (search (rules, the_lemmas, inner_constants)) in
    let inner : seen_fragments c.push_items-in-Vector.new.out.items ≡ written_items (constants_of (map seen_constant c.in-Vector.items.items)) =
    c.in_ok-push_items-in-Vector.ensures ∙ ap (λ (fragments : List Fragment). seen_fragments fragments ++ written_items (constants_of (map seen_constant c.in-Vector.items.items))) c.new-inner-in-Vector.ensures.items
    in
    rw (from, sym inner) c.push_square_group.ensures

pub push_items-loop-form-preserved : goal.push_items-loop-form-preserved
push_items-loop-form-preserved t c =
    let lt : c.loop-form.form-index < length c.deref-form-items.result.now = omega arith in
    record {
      first = some_seen seen_constant c.deref-form-items.result.now c.loop-form.form-index c.form-item.result lt;
      out =
          separated_step comma_mark written_constant (λ items. written_items (constants_of items)) items_separated seen_constant _ _ _ _ c.loop-form.first c.deref-form-items.result.now c.loop-form.form-index c.form-item.result lt c.form-item.is
          c.loop-form.invariant.first c.loop-form.invariant.out c.in_ok-push_comma.ensures c.in_ok-push_constant.ensures;
    }
