use Rattle.std.proofs.Common.{Bor, ◌++◌, ◌≡◌, take, drop, List, ◌∷◌, Option, Some, None, option_map, option_and_then, [], sym, ap, subst, ◌∙◌, arith}
use Rattle.std.proofs.lemmas.List.{map-append}
use Rattle.std.proofs.lemmas.Result.{IfOk-weaker}
use Rattle.dy_tree.specs.declared.fragment.Fragment.{Fragment}
use Rattle.dy_tree.specs.declared.types.TypeForm.{TypeForm}
use Rattle.dy_tree.specs.Fragments.{SeenFragment, seen_fragments}
use Rattle.dy_rules.specs.Arguments.{is_comma_fragment}
use Rattle.dy_rules.specs.Types.{TypeTree, types_of}
use Rattle.dy_rules.specs.Depth.{types_depth}
use Rattle.dy_rules.specs.TypeReading.{in_front, whole_type, type_items, types_items, type_front}
use Rattle.dy_rules.specs.Fragments.{items_of}
use Rattle.dy_read_parts.specs.Nesting.{nesting}
use Rattle.dy_read_parts.specs.Pieces.{IsWithin, behind_first, each_part, read_before, seen_slice}
use Rattle.dy_rules_depth.specs.Capping.{capped_type}
use Rattle.dy_read_types.specs.TypeCaps.{read_type, read_types}
use Rattle.dy_read_types.specs.TypeFronts.{capped_front, capped_types, capped_union, seen_types, TypeDepth}
use Rattle.dy_read_types.specs.TypeShapes.{SeenShape, form_read, shape_read}
use Rattle.dy_read_parts.proofs.Nesting.{take_nesting, drop_nesting, within_more}
use Rattle.dy_read_parts.proofs.PieceRows.{part_read, part_fails}
use Rattle.dy_read_types.proofs.TypeCaps.{union_through, depth_more}
use Rattle.dy_read_types.proofs.TypeShapes.{shape_reads, in_front_changed, whole_changed}
use Rattle.dy_read_types.proofs.types.+types.Goals as goal

pub form_type-returns-in_ok-types-in-Union-clause-found : goal.form_type-returns-in_ok-types-in-Union-clause-found
form_type-returns-in_ok-types-in-Union-clause-found t c =
    let from : option_map (capped_union c.args.word.now) (option_map seen_types c.in_ok-types-in-Union.types) ≡ option_map capped_type (form_read c.args.form c.args.word.now (seen_fragments c.args.inner.now)) =
    rw c.in-Union.is (ap (option_map (capped_union c.args.word.now)) c.in_ok-types-in-Union.ensures.found ∙ union_through c.args.word.now (types_items (items_of (seen_fragments c.args.inner.now))))
    in
    IfOk-weaker c.union.result _ (λ (found : Option TypeForm). option_map read_type found ≡ option_map capped_type (form_read c.args.form c.args.word.now (seen_fragments c.args.inner.now))) (λ found e. e ∙ from) c.union.ensures.found

pub type_front-returns-in_ok-form_type-in-Form-clause-front : goal.type_front-returns-in_ok-form_type-in-Form-clause-front
type_front-returns-in_ok-form_type-in-Form-clause-front t c =
    let rest = items_of (seen_fragments c.in-Form.rest.now) in
    c.in_front.ensures ∙ ap (option_map (in_front rest)) c.in_ok-form_type-in-Form.ensures.found
    ∙ in_front_changed rest (form_read c.in-Form.form c.in-Form.word.now (seen_fragments c.in-Form.inner.now))
    ∙ ap (λ (shape : SeenShape). option_map capped_front (shape_read shape)) c.in-Form.ensures.shape
    ∙ ap (option_map capped_front) (sym (shape_reads (seen_fragments c.args.fragments.now)))

pub type_items-returns-clause-found : goal.type_items-returns-clause-found
type_items-returns-clause-found t c =
    c.whole.ensures ∙ ap (option_and_then whole_type) c.in_ok-type_front.ensures.front ∙ whole_changed (type_front (items_of (seen_fragments c.args.fragments.now)))

pub types_items-type_items-requires : goal.types_items-type_items-requires
types_items-type_items-requires t c =
    let within : IsWithin (nesting (seen_fragments c.args.fragments.now)) (Some c.in-Some.list) = subst (λ (behind : Option (Bor (List Fragment))). IsWithin (nesting (seen_fragments c.args.fragments.now)) behind) c.in-Some.is c.loop-behind.invariant.nested in
    let less = take_nesting c.piece_len.result c.in-Some.list.now in
    rw c.split_at.ensures.front (omega arith, tt)

pub types_items-returns-in-None-clause-found : goal.types_items-returns-in-None-clause-found
types_items-returns-in-None-clause-found t c =
    let list = seen_fragments c.in-Some.list.now in
    let first = items_of (seen_fragments (take c.piece_len.result c.in-Some.list.now)) in
    let rest = seen_fragments (drop c.piece_len.result c.in-Some.list.now) in
    let none : None ≡ option_map capped_type (type_items first) = rw (sym c.split_at.ensures.front) (ap (option_map read_type) (sym c.in-None.is) ∙ c.in_ok-declared.ensures.found) in
    part_fails capped_type is_comma_fragment type_items (read_types c.loop-behind.types.items) list first rest c.piece_len.ensures.pieces none
    ∙ sym (c.loop-behind.invariant.read ∙ ap (λ (behind : Option (Bor (List Fragment))). read_before (read_types c.loop-behind.types.items) (option_map capped_types (each_part is_comma_fragment type_items (option_map seen_slice behind)))) c.in-Some.is)

pub types_items-loop-behind-preserved : goal.types_items-loop-behind-preserved
types_items-loop-behind-preserved t c =
    let n = nesting (seen_fragments c.args.fragments.now) in
    let list = seen_fragments c.in-Some.list.now in
    let first = items_of (seen_fragments (take c.piece_len.result c.in-Some.list.now)) in
    let rest = seen_fragments (drop c.piece_len.result c.in-Some.list.now) in
    let before = read_types c.loop-behind.types.items in
    let next = read_type c.in-Some-2.declared in
    let some : Some next ≡ option_map capped_type (type_items first) = rw (sym c.split_at.ensures.front) (ap (option_map read_type) (sym c.in-Some-2.is) ∙ c.in_ok-declared.ensures.found) in
    let pushed : read_types c.push.new.self.items ≡ before ++ next ∷ [] = ap read_types c.in_ok-push-in-Some-2.ensures.items ∙ map-append read_type c.loop-behind.types.items (c.in-Some-2.declared ∷ []) in
    let within : IsWithin n (Some c.in-Some.list) = subst (λ (behind : Option (Bor (List Fragment))). IsWithin (nesting (seen_fragments c.args.fragments.now)) behind) c.in-Some.is c.loop-behind.invariant.nested in
    record {
      read =
          c.loop-behind.invariant.read ∙ ap (λ (behind : Option (Bor (List Fragment))). read_before before (option_map capped_types (each_part is_comma_fragment type_items (option_map seen_slice behind)))) c.in-Some.is
          ∙ part_read capped_type is_comma_fragment type_items before (read_types c.push.new.self.items) next list first rest c.piece_len.ensures.pieces some pushed
          ∙ ap (λ (found : Option (List SeenFragment)). read_before (read_types c.push.new.self.items) (option_map capped_types (each_part is_comma_fragment type_items found))) (sym (c.behind_first-behind.ensures.behind ∙ ap (λ (fragments : List Fragment). behind_first (seen_fragments fragments)) c.split_at.ensures.back));
      depth =
          let deeper : TypeDepth c.loop-behind.depth c.type_items.new.depth (Some c.in-Some-2.declared) = subst (λ (found : Option TypeForm). TypeDepth c.loop-behind.depth c.type_items.new.depth found) c.in-Some-2.is c.in_ok-declared.ensures.depth in
          let old = c.loop-behind.invariant.depth in
          let more = depth_more before next in
          let same = ap (λ (types : List TypeTree). types_depth (types_of types)) pushed in
          omega arith;
      nested = within_more _ n c.behind_first-behind.result (let less = drop_nesting c.piece_len.result c.in-Some.list.now in rw c.split_at.ensures.back (omega arith)) c.behind_first-behind.ensures.nested;
    }
