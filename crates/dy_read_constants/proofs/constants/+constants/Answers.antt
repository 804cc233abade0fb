use Rattle.std.proofs.Common.{◌≡◌, List, [], ◌∷◌, ◌++◌, Option, Some, None, option_map, option_and_then, sym, ap, subst, ◌∙◌, arith}
use Rattle.std.proofs.lemmas.List.{map-append}
use Rattle.std.proofs.lemmas.Result.{IfOk-weaker}
use Rattle.dy_tree.specs.declared.types.ConstantForm.{ConstantForm}
use Rattle.dy_tree.specs.Fragments.{pack, seen_fragments}
use Rattle.dy_rules.specs.ConstantTrees.{Constant}
use Rattle.dy_rules.specs.ConstantReading.{Inside, list_in, vector_in}
use Rattle.dy_rules_depth.specs.Capping.{capped_constant}
use Rattle.dy_rules_depth.proofs.Nodes.{capped_literal_item}
use Rattle.dy_read_parts.specs.Nesting.{nesting}
use Rattle.dy_read_constants.specs.declared.constant_front.ConstantFront.{ConstantFront}
use Rattle.dy_read_constants.specs.declared.list_next.ListNext.{ListNext}
use Rattle.dy_read_constants.specs.declared.list_next.ListNext.TheVariants as nexts
use Rattle.dy_read_constants.specs.ConstantCaps.{read_constant, read_constants}
use Rattle.dy_read_constants.specs.ConstantFronts.{read_front, read_inside, read_vector, capped_front, capped_inside, capped_list, capped_vector, whole, items_depth, inside_depth, Deepens, FrontDepth, RestWithin}
use Rattle.dy_read_constants.specs.ConstantLists.{IsNextWithin, SeenNext, list_from, seen_next, with_tail}
use Rattle.dy_read_constants.specs.ConstantShapes.{SeenShape, constant_front, group_read, in_front, seen_shape, shape_read}
use Rattle.dy_read_constants.proofs.ConstantCaps.{items_deeper, list_through, vector_through}
use Rattle.dy_read_constants.proofs.ConstantLists.{item_fails, item_step, items_twice, tail_depth_is, tail_step}
use Rattle.dy_read_constants.proofs.NextNesting.{next_within_more}
use Rattle.dy_read_constants.proofs.constants.+constants.Goals as goal

pub constant_front-returns-in-Literal-clause-front : goal.constant_front-returns-in-Literal-clause-front
constant_front-returns-in-Literal-clause-front t c =
    c.in_front.ensures.front ∙ ap (λ (value : Constant). Some (in_front (seen_fragments c.in-Literal.rest.now) value)) (c.literal.ensures.made ∙ sym (capped_literal_item c.in-Literal.form))
    ∙ ap (λ (shape : SeenShape). option_map capped_front (shape_read shape)) (ap seen_shape (sym c.in-Literal.is) ∙ c.in_ok-constant_shape.ensures.shape)

pub group_constant-returns-in_ok-found-in-SharpRound-clause-found : goal.group_constant-returns-in_ok-found-in-SharpRound-clause-found
group_constant-returns-in_ok-found-in-SharpRound-clause-found t c =
    let opener = c.args.opener.now in
    let inner = seen_fragments c.args.inner.now in
    let from : option_map (capped_list opener) (option_map read_inside c.in_ok-found-in-SharpRound.found) ≡ option_map capped_constant (group_read c.args.bracket opener inner) =
    rw c.in-SharpRound.is (ap (option_map (capped_list opener)) c.in_ok-found-in-SharpRound.ensures.found ∙ list_through opener (list_in (pack inner)))
    in
    IfOk-weaker c.list_item.result _ (λ (found : Option ConstantForm). option_map read_constant found ≡ option_map capped_constant (group_read c.args.bracket opener inner)) (λ found e. e ∙ from) c.list_item.ensures.found

pub group_constant-returns-in_ok-items-in-SharpSquare-clause-found : goal.group_constant-returns-in_ok-items-in-SharpSquare-clause-found
group_constant-returns-in_ok-items-in-SharpSquare-clause-found t c =
    let opener = c.args.opener.now in
    let inner = seen_fragments c.args.inner.now in
    let from : option_map (capped_vector opener) (option_map read_vector c.in_ok-items-in-SharpSquare.items) ≡ option_map capped_constant (group_read c.args.bracket opener inner) =
    rw c.in-SharpSquare.is (ap (option_map (capped_vector opener)) c.in_ok-items-in-SharpSquare.ensures.found ∙ vector_through opener (vector_in (pack inner)))
    in
    IfOk-weaker c.vector_item.result _ (λ (found : Option ConstantForm). option_map read_constant found ≡ option_map capped_constant (group_read c.args.bracket opener inner)) (λ found e. e ∙ from) c.vector_item.ensures.found

pub list_inside-returns-in-None-clause-found : goal.list_inside-returns-in-None-clause-found
list_inside-returns-in-None-clause-found t c =
    let items = read_constants c.loop-next.items.items in
    let none : None ≡ option_map capped_front (constant_front (seen_fragments c.in-Item.list.now)) = ap (option_map read_front) (sym c.in-None.is) ∙ c.in_ok-value.ensures.front in
    sym (c.loop-next.invariant.read ∙ ap (λ (next : ListNext). option_map capped_inside (list_from items (seen_next next))) c.in-Item.is ∙ item_fails items (seen_fragments c.in-Item.list.now) none)

pub list_inside-returns-in_ok-constant_front-in-Tail : goal.list_inside-returns-in_ok-constant_front-in-Tail
list_inside-returns-in_ok-constant_front-in-Tail t c =
    let items = read_constants c.loop-next.items.items in
    let fragments = seen_fragments c.in-Tail.list.now in
    let read = option_and_then whole (option_map capped_front (constant_front fragments)) in
    record {
      found =
          c.with_tail.ensures ∙ ap (option_map (with_tail items)) (c.whole-last.ensures ∙ ap (option_and_then whole) c.in_ok-constant_front-in-Tail.ensures.front)
          ∙ ap (λ (list : List Constant). option_map (with_tail list) read) (sym c.loop-next.invariant.capped)
          ∙ sym (c.loop-next.invariant.read ∙ ap (λ (next : ListNext). option_map capped_inside (list_from items (seen_next next))) c.in-Tail.is ∙ tail_step items fragments);
      depth =
          subst (λ (found : Option Inside). Deepens c.args.depth.now c.constant_front-in-Tail.new.depth (option_map inside_depth found)) (sym (c.with_tail.ensures ∙ ap (option_map (with_tail items)) c.whole-last.ensures))
          (tail_depth_is items (option_map read_front c.in_ok-constant_front-in-Tail.field-0) c.args.depth.now c.loop-next.depth c.constant_front-in-Tail.new.depth c.loop-next.invariant.depth c.in_ok-constant_front-in-Tail.ensures.depth);
    }

pub list_inside-loop-next-preserved : goal.list_inside-loop-next-preserved
list_inside-loop-next-preserved t c =
    let n = nesting (seen_fragments c.args.fragments.now) in
    let fragments = seen_fragments c.in-Item.list.now in
    let items = read_constants c.loop-next.items.items in
    let front = read_front c.in-Some.field-0 in
    let after = read_constants c.push.new.self.items in
    let some : Some front ≡ option_map capped_front (constant_front fragments) = ap (option_map read_front) (sym c.in-Some.is) ∙ c.in_ok-value.ensures.front in
    let pushed : after ≡ items ++ front.value ∷ [] = ap read_constants c.in_ok-push-in-Some.ensures.items ∙ map-append read_constant c.loop-next.items.items (c.in-Some.field-0.value ∷ []) in
    let within : IsNextWithin n (nexts.Item c.in-Item.list) = subst (λ (next : ListNext). IsNextWithin n next) c.in-Item.is c.loop-next.invariant.nested in
    let rest : RestWithin (nesting fragments) (Some c.in-Some.field-0) = subst (λ (found : Option ConstantFront). RestWithin (nesting fragments) found) c.in-Some.is c.in_ok-value.ensures.nested in
    let deeper : FrontDepth c.loop-next.depth c.constant_front.new.depth (Some c.in-Some.field-0) = subst (λ (found : Option ConstantFront). FrontDepth c.loop-next.depth c.constant_front.new.depth found) c.in-Some.is c.in_ok-value.ensures.depth in
    record {
      read =
          c.loop-next.invariant.read ∙ ap (λ (next : ListNext). option_map capped_inside (list_from items (seen_next next))) c.in-Item.is ∙ item_step items after fragments front some pushed
          ∙ ap (λ (next : SeenNext). option_map capped_inside (list_from after next)) (sym c.behind_item-next.ensures.next);
      capped = items_twice items after (constant_front fragments) front some pushed c.loop-next.invariant.capped;
      depth =
          let old = c.loop-next.invariant.depth in
          let more = items_deeper items front.value in
          let same = ap items_depth pushed in
          omega arith;
      nested = next_within_more _ n c.behind_item-next.result (omega arith) c.behind_item-next.ensures.nested;
    }
