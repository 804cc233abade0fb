use Rattle.dy_rules_depth.specs.Capping.{capping, capped, filling}
use Rattle.dy_rules_depth.specs.Changes.{changed_clause, changed_item, changed_method, changed_for, changed_stop_tree, changed_argument, changed_otherwise}
use Rattle.dy_rules_depth.specs.ReaderChanges.{changed_choices, changed_head, changed_loop, changed_passing, changed_state}
use Rattle.dy_read_outers.specs.Grown.{read_grown}
use Rattle.dy_read_outers.specs.Passed.{read_passed}
use Rattle.dy_read_outers.specs.ReadTrees.{read_tree}
use Rattle.dy_read_outers.specs.declared.grown.Grown.{Grown}
use Rattle.dy_read_operators.proofs.MachineLoops.{ahead_read, group_read as machine_read, passed_end, passed_none, all_end, all_none}
use Rattle.dy_read_operators.specs.Machines.{passed_if, tree_if, seen_machine}
use Rattle.dy_read_operators.specs.PassingSteps.{ahead, need_ahead, value_group}
use Rattle.dy_read_operators.specs.Passings.{seen_passing}
use Rattle.dy_read_operators.specs.declared.state.Need.{Need}
use Rattle.dy_read_parts.proofs.Nesting.{within_more}
use Rattle.dy_read_parts.proofs.PieceRows.{part_read, part_fails}
use Rattle.dy_read_parts.specs.Cut.{seen_piece, seen_pieces, IsPieceWithin}
use Rattle.dy_read_parts.specs.FragmentParts.{SeenPart, token_part, group_part, part_of, seen_part}
use Rattle.dy_read_parts.specs.Front.{seen_front as front_seen}
use Rattle.dy_read_parts.specs.Nesting.{nesting, group_nesting}
use Rattle.dy_read_parts.specs.Pieces.{IsWithin, behind_first, each_part, read_before, seen_slice, others_in}
use Rattle.dy_read_parts.specs.declared.front.Front.{Front as FoundFront, Front as Found}
use Rattle.dy_read_parts.specs.declared.pieces.Piece.{Piece}
use Rattle.dy_read_bodies.proofs.BodyParts.{items_deeper, body_start, handler_found, handler_fails, expression_through, let_found, let_fails, local_through, local_depth, method_through, named_depth, methods_deeper}
use Rattle.dy_read_bodies.proofs.FragmentLoops.{reader_part, state_part, reader_read, reader_fails, reader_end, state_read, state_fails, state_end, nesting_at}
use Rattle.dy_read_bodies.proofs.ListedParts.{listed_keys_on}
use Rattle.dy_read_bodies.proofs.MethodParts.{method_read, method_fails, named_through}
use Rattle.dy_read_bodies.proofs.PieceLoops.{last_taken, first_left, more_left, none_left, piece_nesting_at}
use Rattle.dy_read_bodies.proofs.Rests.{variable_rest}
use Rattle.dy_read_bodies.proofs.SignatureParts.{signature_changed, rest_weaker}
use Rattle.dy_read_bodies.specs.FragmentSteps.{reader_at, state_at}
use Rattle.dy_read_bodies.specs.MethodParts.{with_trees, with_name}
use Rattle.dy_read_bodies.specs.SignatureFronts.{Signature, signature_items, seen_signature, capped_signature, signature_headed, signature_behind, IsRestWithin}
use Rattle.dy_read_shapes.proofs.Keys.{key_through, key_fails, only_key, same, keys_deeper, keys_ended}
use Rattle.dy_read_shapes.proofs.LoopNesting.{parts_within}
use Rattle.dy_read_shapes.proofs.PieceNesting.{pieces_within}
use Rattle.dy_read_shapes.specs.ClauseShapes.{clause_read, ShapeDepth, IsClauseWithin}
use Rattle.dy_read_shapes.specs.ItemShapes.{handler_to, let_to, methods_items, method_read as group_read}
use Rattle.dy_read_shapes.specs.KeyEndings.{keys_behind, keys_tree}
use Rattle.dy_read_shapes.specs.ListHeads.{capped_listed, heads_before, keys_left, heads_found, FrontDepth}
use Rattle.dy_read_shapes.specs.LoopShapes.{limited_read, range_read, step_read, parts_nesting, range_nesting, limit_nesting, last_nesting}
use Rattle.dy_read_shapes.specs.PieceNesting.{pieces_nesting}
use Rattle.dy_read_shapes.specs.ReadKeys.{label_token, read_default, capped_key, read_key, read_each_key, read_keys, capped_keys, keys_behind_mark, keys_pieces, all_at, some_all, KeyDepth}
use Rattle.dy_read_shapes.specs.declared.clause_shape.ClauseShape.{ClauseShape}
use Rattle.dy_read_shapes.specs.declared.item_shape.MethodGroup.{MethodGroup}
use Rattle.dy_read_shapes.specs.declared.keys_read.KeysRead.{KeysRead}
use Rattle.dy_read_shapes.specs.declared.list_heads.ListFront.{ListFront}
use Rattle.dy_read_shapes.specs.declared.loop_shape.LimitShape.{LimitShape}
use Rattle.dy_read_statements.proofs.Arms.{none_given, nothing_left, something_left, case_through, arm_depths, on_none, one_less, nothing_first, something_first, head_is, alone_through, by_through, select_through, tests_more}
use Rattle.dy_read_arms.proofs.ArmsBehind.{arm_reads}
use Rattle.dy_read_statements.proofs.Blocks.{block_found, afterwards_through, cleanup_through, afterwards_depth, cleanup_depth, clause_more, clause_missing, clauses_deeper, clause_found, exception_depth}
use Rattle.dy_read_statements.proofs.Branches.{alternative_through, if_through, all_are, another, none_read, not_last, at_last, all_read, last_depths, alternatives_more}
use Rattle.dy_read_statements.proofs.LoopHeads.{some_items, fors_more, fors_deeper}
use Rattle.dy_read_statements.proofs.Loops.{loop_found, parts_deep}
use Rattle.dy_read_statements.proofs.Statements.{both_are, begin_through, guarded_through, method_through as statement_through}
use Rattle.dy_read_arms.proofs.Results.{read_as}
use Rattle.dy_read_arms.specs.Arms.{read_behind}
use Rattle.dy_read_arms.specs.BodyDepths.{ClauseDepth, ItemDepth, TargetDepth, MethodDepth}
use Rattle.dy_read_statements.specs.Branches.{capped_others}
use Rattle.dy_read_statements.specs.CaughtShapes.{read_caught}
use Rattle.dy_read_statements.specs.Heads.{no_head}
use Rattle.dy_read_statements.specs.LoopHeads.{read_head, head_depth, capped_parts, capped_last, fors_depth, HeadDepth}
use Rattle.dy_read_statements.specs.Loops.{read_last, loop_at}
use Rattle.dy_read_arms.specs.ReadArms.{capped_pieces, capped_case, arm_read, last_read, capped_first, capped_trees, capped_choice, capped_piece, choices_on, capped_select, read_tests}
use Rattle.dy_read_arms.specs.ReadBodies.{read_items, read_clauses, read_clause, read_item, read_target, read_method, read_methods}
use Rattle.dy_read_statements.specs.ReadBranches.{alternative_of, alternative_behind, capped_alternative, capped_if, read_alternative, others_with, alternative_items, others_before, AlternativeDepth}
use Rattle.dy_read_arms.specs.ReadItems.{capped_items}
use Rattle.dy_read_statements.specs.ReadLoops.{read_for, ForDepth, read_fors, read_range}
use Rattle.dy_read_statements.specs.ReadMethods.{method_of_parts, read_parts, named_parts, capped_named}
use Rattle.dy_read_statements.specs.ReadStatements.{both, front_tested, all_three, capped_begin, capped_guarded, capped_method_tree}
use Rattle.dy_read_statements.specs.declared.clause_nodes.Range.{Range}
use Rattle.dy_read_statements.specs.declared.loop_head.ForHead.{ForHead}
use Rattle.dy_read_statements.specs.declared.signature_front.SignatureFront.{SignatureFront}
use Rattle.dy_rules.specs.Arguments.{is_comma_fragment, begins_value}
use Rattle.dy_rules.specs.Blocks.{block_items, afterwards_of, cleanup_of, block_clause_at, block_clauses_in, caught_items, exception_items}
use Rattle.dy_rules.specs.Bodies.{item_items, body_items, local_of, method_alone}
use Rattle.dy_rules.specs.Choices.{Choices, finished_choices, arms_items, PieceKind, with_lead, tests_items, no_choices, head_alone, head_by, head_items}
use Rattle.dy_rules.specs.Cutting.{Front, headed, is_splitter, word_of, is_semicolon, Pieces, cut, Ending, only_part, only_last, Item, NamedFound}
use Rattle.dy_rules.specs.Depth.{tests_depth, block_clauses_depth, body_depth, methods_depth, alternatives_depth}
use Rattle.dy_rules.specs.Fragments.{items_of, tree_inside}
use Rattle.dy_rules.specs.Loops.{clause_items, for_items, is_stop, stop_items, stop_with, Range as RangeTree, limit_with, for_statement, finally_in}
use Rattle.dy_rules.specs.Reading.{expression_items, passed_items, after_passing, nothing_passed, after_all, wants, whole}
use Rattle.dy_rules.specs.SeenForms.{seen_clause, seen_item, seen_method}
use Rattle.dy_rules.specs.Signatures.{named_items, key_of, key_items, keys_of_found, with_key, listed_keys, method_items, listed_items}
use Rattle.dy_rules.specs.StatementReading.{select_items, Tested, if_items, guarded_items}
use Rattle.dy_rules.specs.Trees.{Tree, ItemTree, tests_of, body_of, expression_item, LocalMethod as MethodTree, methods_of, alternatives_of, ForClause, StopTree, KeysTree}
use Rattle.dy_rules.specs.TypeReading.{type_items, target_items, variable_front}
use Rattle.dy_tree.specs.Fragments.{seen_fragments, SeenFragment, seen_fragment, pack}
use Rattle.dy_tree.specs.declared.expression.Alternative.{Alternative}
use Rattle.dy_tree.specs.declared.expression.BlockClause.{BlockClause}
use Rattle.dy_tree.specs.declared.expression.ForClause.{ForClause as ClauseForm}
use Rattle.dy_tree.specs.declared.expression.Item.{Item as ItemForm}
use Rattle.dy_tree.specs.declared.expression.Key.{Key}
use Rattle.dy_tree.specs.declared.expression.LocalMethod.{LocalMethod}
use Rattle.dy_tree.specs.declared.fragment.Fragment.{Fragment}
use Rattle.dy_tree.specs.declared.token.Token.{Token}
use Rattle.dy_tree.specs.declared.types.TypeForm.{TypeForm}
use Rattle.dy_tree.specs.declared.variables.Target.{Target}
use Rattle.dy_read_types.proofs.Endings.{ending_read, ending_fails, ending_ends}
use Rattle.dy_read_types.specs.Endings.{parts_before}
use Rattle.dy_read_types.specs.TypeCaps.{read_type}
use Rattle.dy_read_types.specs.TypeFronts.{TypeDepth}
use Rattle.dy_read_types.specs.VariableFronts.{read_variable, seen_front, capped_front, IsRestWithin as VariableRestWithin}
use Rattle.std.proofs.Common.{◌≡◌, Option, Some, option_map, option_and_then, sym, ap, ◌∙◌, true, refl, ◌<◌, ◌-◌, ℕ, length, take, get_or, List, [], ◌∷◌, ◌++◌, None, map, subst, arith, ◌≤◌, max, Bor, rules, ◌==◌, ◌+◌, false, drop, Bool}
use Rattle.std.proofs.lemmas.Bool.{eqb-true}
use Rattle.std.proofs.lemmas.List.{take_all, map-append, drop_all}
use Rattle.std.proofs.lemmas.Result.{IfOk-weaker}
use Rattle.std.specs.List.{All}
use Rattle.dy_tree.specs.declared.splitters.Splitting.TheVariants as splittings
use Rattle.dy_tree.specs.declared.splitters.Splitter.{Splitter}
use Rattle.dy_read_shapes.specs.declared.loop_shape.ClauseParts.TheVariants as clause_parts
use Rattle.dy_rules.specs.Bodies as spec
use Rattle.dy_rules.specs.Cutting as cutting
use Rattle.dy_rules.specs.Trees as trees
use Rattle.dy_read_bodies.proofs.+read.Goals as goal

pub arms::arms-returns-then-is_empty : goal.arms::arms-returns-then-is_empty
arms::arms-returns-then-is_empty t c = ap Some c.no_choices.ensures ∙ sym (ap (option_map (changed_choices capping)) (none_given c.args.single c.args.fragments.now c.if-is_empty.ensures))

pub arms::arms-returns-then-is_empty-2 : goal.arms::arms-returns-then-is_empty-2
arms::arms-returns-then-is_empty-2 t c = nothing_left c.args.single c.args.fragments.now c.without_end-ended.result.now c.if-is_empty.ensures c.without_end-ended.ensures.items c.if-is_empty-2.ensures

pub arms::arms-returns : goal.arms::arms-returns
arms::arms-returns t c =
    c.finished.ensures ∙ ap (option_and_then finished_choices) (c.in_ok-choices_in.ensures ∙ ap (capped_pieces c.args.single) c.in_ok-pieces.ensures.pieces)
    ∙ something_left c.args.single c.args.fragments.now c.without_end-ended.result.now c.if-is_empty.ensures c.without_end-ended.ensures.items c.if-is_empty-2.ensures

pub arms::case-returns : goal.arms::case-returns
arms::case-returns t c =
    read_as (option_map read_grown) c.case_with.result _ _
    (ap (option_map (capped_case c.args.word.now)) c.in_ok-arms.ensures ∙ case_through c.args.word.now (arms_items true (items_of (seen_fragments c.args.inner.now))))
    c.case_with.ensures

pub arms::choice-with_arm-requires : goal.arms::choice-with_arm-requires
arms::choice-with_arm-requires t c = arm_depths c.tests.new.depth c.first_item.new.depth c.in_ok-trees-in-Arm.trees c.in_ok-first-in-Arm.first c.in_ok-trees-in-Arm.ensures.depth c.in_ok-first-in-Arm.ensures.depth

pub arms::choice-returns-in_ok-found-in-Item : goal.arms::choice-returns-in_ok-found-in-Item
arms::choice-returns-in_ok-found-in-Item t c =
    let items = items_of (seen_fragments c.args.fragments.now) in
    let rest = read_behind c.args.behind in
    read_as (option_map read_behind) c.with_item.result _ _
    (ap (option_map (with_lead rest)) c.in_ok-found-in-Item.ensures.found ∙ ap (λ (kind : PieceKind). capped_choice c.args.single kind items rest) c.in-Item.ensures.kind)
    c.with_item.ensures

pub arms::choice-returns-in_ok-first-in-Arm : goal.arms::choice-returns-in_ok-first-in-Arm
arms::choice-returns-in_ok-first-in-Arm t c =
    let items = items_of (seen_fragments c.args.fragments.now) in
    let rest = read_behind c.args.behind in
    read_as (option_map read_behind) c.with_arm.result _ _
    (arm_reads c.args.single rest c.in_ok-trees-in-Arm.ensures.found c.in_ok-first-in-Arm.ensures.found ∙ ap (λ (kind : PieceKind). capped_choice c.args.single kind items rest) c.in-Arm.ensures.kind)
    c.with_arm.ensures

pub arms::choice-returns-in_ok-first-in-Otherwise : goal.arms::choice-returns-in_ok-first-in-Otherwise
arms::choice-returns-in_ok-first-in-Otherwise t c =
    let items = items_of (seen_fragments c.args.fragments.now) in
    let rest = read_behind c.args.behind in
    read_as (option_map read_behind) c.with_last.result _ _
    (ap (last_read rest) c.in_ok-first-in-Otherwise.ensures.found ∙ ap (λ (kind : PieceKind). capped_choice c.args.single kind items rest) c.in-Otherwise.ensures.kind)
    c.with_last.ensures

pub arms::choice-returns-in-Absent : goal.arms::choice-returns-in-Absent
arms::choice-returns-in-Absent t c = ap (λ (kind : PieceKind). capped_choice c.args.single kind (items_of (seen_fragments c.args.fragments.now)) (read_behind c.args.behind)) c.in-Absent.ensures.kind

pub arms::choices_in-loop-left-init : goal.arms::choices_in-loop-left-init
arms::choices_in-loop-left-init t c =
    let others = c.args.pieces.now.others.items in
    let n = length c.as_slice-others.result.now in
    let len : n ≡ length others = ap length c.as_slice-others.ensures.value in
    record {
      within = omega arith;
      read =
          ap (λ (list : List Piece). choices_on c.args.single (map seen_piece list) (Some no_choices)) (sym (take_all n others (omega arith)))
          ∙ ap (λ (behind : Choices). choices_on c.args.single (map seen_piece (take n others)) (Some behind)) (sym c.none_behind-behind.ensures);
    }

pub arms::choices_in-loop-left-preserved : goal.arms::choices_in-loop-left-preserved
arms::choices_in-loop-left-preserved t c =
    let single = c.args.single in
    let others = c.args.pieces.now.others.items in
    let n = c.loop-left.left in
    let piece = c.index-others-left.result in
    let taken : take n others ≡ take (n - 1) others ++ piece ∷ [] = last_taken others n piece (omega arith) (omega arith) (subst (λ (list : List Piece). piece ≡ get_or list (n - 1) piece) c.as_slice-others.ensures.value c.index-others-left.is) in
    let some : Some (read_behind c.in-Some.next) ≡ capped_piece single (items_of (seen_fragments piece.fragments.now)) (read_behind c.loop-left.behind) = ap (option_map read_behind) (sym c.in-Some.is) ∙ c.in_ok-next.ensures in
    record {
      within = omega arith;
      read = c.loop-left.invariant.read ∙ one_less single (take n others) (take (n - 1) others) piece (Some (read_behind c.loop-left.behind)) taken ∙ ap (choices_on single (map seen_piece (take (n - 1) others))) (sym some);
    }

pub arms::choices_in-returns-in-None : goal.arms::choices_in-returns-in-None
arms::choices_in-returns-in-None t c =
    let single = c.args.single in
    let others = c.args.pieces.now.others.items in
    let n = c.loop-left.left in
    let piece = c.index-others-left.result in
    let first = items_of (seen_fragments c.args.pieces.now.first.now) in
    let taken : take n others ≡ take (n - 1) others ++ piece ∷ [] = last_taken others n piece (omega arith) (omega arith) (subst (λ (list : List Piece). piece ≡ get_or list (n - 1) piece) c.as_slice-others.ensures.value c.index-others-left.is) in
    let none : None ≡ capped_piece single (items_of (seen_fragments piece.fragments.now)) (read_behind c.loop-left.behind) = ap (option_map read_behind) (sym c.in-None.is) ∙ c.in_ok-next.ensures in
    sym
    (ap (option_and_then (capped_piece single first))
    (c.loop-left.invariant.read ∙ one_less single (take n others) (take (n - 1) others) piece (Some (read_behind c.loop-left.behind)) taken ∙ ap (choices_on single (map seen_piece (take (n - 1) others))) (sym none)
    ∙ on_none single (map seen_piece (take (n - 1) others))))

pub arms::choices_in-returns : goal.arms::choices_in-returns
arms::choices_in-returns t c =
    let single = c.args.single in
    let others = c.args.pieces.now.others.items in
    let first = items_of (seen_fragments c.args.pieces.now.first.now) in
    let none : c.loop-left.left ≡ 0 = omega arith in
    read_as (option_map read_behind) c.choice-2.result _ _
    (sym
    (ap (option_and_then (capped_piece single first))
    (c.loop-left.invariant.read ∙ ap (λ (n : ℕ). choices_on single (map seen_piece (take n others)) (Some (read_behind c.loop-left.behind))) none)))
    c.choice-2.ensures

pub arms::first_item-returns-then-is_empty-clause-found : goal.arms::first_item-returns-then-is_empty-clause-found
arms::first_item-returns-then-is_empty-clause-found t c = nothing_first c.args.fragments.now c.if-is_empty.ensures

pub arms::first_item-returns-clause-found : goal.arms::first_item-returns-clause-found
arms::first_item-returns-clause-found t c = c.present.ensures.found ∙ ap (option_map Some) c.in_ok-item.ensures.found ∙ something_first c.args.fragments.now c.if-is_empty.ensures

pub arms::head-returns-in_ok-expression-in-Alone : goal.arms::head-returns-in_ok-expression-in-Alone
arms::head-returns-in_ok-expression-in-Alone t c =
    let items = items_of (seen_fragments c.args.fragments.now) in
    c.alone.ensures ∙ ap (option_map head_alone) c.in_ok-expression-in-Alone.ensures ∙ alone_through (expression_items splittings.Tests (items_of (seen_fragments c.in-Alone.selected.now)))
    ∙ ap (option_map (changed_head capping)) (sym (head_is items _ c.in-Alone.ensures.head))

pub arms::head-returns-in_ok-compared-in-Tested : goal.arms::head-returns-in_ok-compared-in-Tested
arms::head-returns-in_ok-compared-in-Tested t c =
    let items = items_of (seen_fragments c.args.fragments.now) in
    c.by_test.ensures ∙ both_are head_by c.in_ok-value-in-Tested.ensures c.in_ok-compared-in-Tested.ensures
    ∙ by_through (expression_items splittings.Tests (items_of (seen_fragments c.in-Tested.selected.now))) (items_of (seen_fragments c.in-Tested.test.now))
    ∙ ap (option_map (changed_head capping)) (sym (head_is items _ c.in-Tested.ensures.head))

pub arms::head-returns-in-Absent : goal.arms::head-returns-in-Absent
arms::head-returns-in-Absent t c = ap (option_map (changed_head capping)) (sym (head_is (items_of (seen_fragments c.args.fragments.now)) no_head c.in-Absent.ensures.head))

pub arms::select-returns-in_ok-behind-in-Some : goal.arms::select-returns-in_ok-behind-in-Some
arms::select-returns-in_ok-behind-in-Some t c =
    let word = c.args.word.now in
    let rest = items_of (seen_fragments c.in-Some.front.rest.now) in
    let found = head_items (items_of (seen_fragments c.in-Some.front.inner.now)) in
    read_as (option_map read_grown) c.select_with.result _ _
    (both_are (capped_select word) c.in_ok-found-in-Some.ensures c.in_ok-behind-in-Some.ensures ∙ select_through word found rest
    ∙ ap (λ (front : Option cutting.Front). option_map capped (option_and_then (select_items word) front)) (ap (λ (front : Option FoundFront). option_map front_seen front) (sym c.in-Some.is) ∙ c.headed.ensures.front))
    c.select_with.ensures

pub arms::tests-returns-in-None-clause-found : goal.arms::tests-returns-in-None-clause-found
arms::tests-returns-in-None-clause-found t c =
    let list = seen_fragments c.in-Some.list.now in
    let first = items_of (seen_fragments c.split_piece.result.0.now) in
    let rest = seen_fragments c.split_piece.result.1.now in
    let none : None ≡ option_map capped (expression_items splittings.Nothing first) = ap (option_map read_grown) (sym c.in-None.is) ∙ c.in_ok-grown.ensures in
    part_fails capped is_comma_fragment (expression_items splittings.Nothing) (read_tests c.loop-behind.trees) list first rest c.split_piece.ensures.pieces none
    ∙ sym (c.loop-behind.invariant.read ∙ ap (λ (behind : Option (Bor (List Fragment))). read_before (read_tests c.loop-behind.trees) (option_map capped_trees (each_part is_comma_fragment (expression_items splittings.Nothing) (option_map seen_slice behind)))) c.in-Some.is)

pub arms::tests-loop-behind-preserved : goal.arms::tests-loop-behind-preserved
arms::tests-loop-behind-preserved t c =
    let n = nesting (seen_fragments c.args.fragments.now) in
    let within : IsWithin n (Some c.in-Some.list) = subst (λ (behind : Option (Bor (List Fragment))). IsWithin (nesting (seen_fragments c.args.fragments.now)) behind) c.in-Some.is c.loop-behind.invariant.nested in
    let list = seen_fragments c.in-Some.list.now in
    let first = items_of (seen_fragments c.split_piece.result.0.now) in
    let rest = seen_fragments c.split_piece.result.1.now in
    let before = read_tests c.loop-behind.trees in
    let next = read_grown c.in-Some-2.grown in
    let some : Some next ≡ option_map capped (expression_items splittings.Nothing first) = ap (option_map read_grown) (sym c.in-Some-2.is) ∙ c.in_ok-grown.ensures in
    let pushed : read_tests c.push.new.self ≡ before ++ next ∷ [] = ap (map read_tree) c.in_ok-push-in-Some-2.ensures.items ∙ map-append read_tree c.loop-behind.trees.items (c.into_inner.result ∷ []) ∙ ap (λ (tree : Tree). before ++ tree ∷ []) (ap read_tree c.into_inner.ensures) in
    record {
      read =
          c.loop-behind.invariant.read ∙ ap (λ (behind : Option (Bor (List Fragment))). read_before before (option_map capped_trees (each_part is_comma_fragment (expression_items splittings.Nothing) (option_map seen_slice behind)))) c.in-Some.is
          ∙ part_read capped is_comma_fragment (expression_items splittings.Nothing) before (read_tests c.push.new.self) next list first rest c.split_piece.ensures.pieces some pushed
          ∙ ap (λ (found : Option (List SeenFragment)). read_before (read_tests c.push.new.self) (option_map capped_trees (each_part is_comma_fragment (expression_items splittings.Nothing) found))) (sym c.behind_first-behind.ensures.behind);
      depth =
          let old = c.loop-behind.invariant.depth in
          let more = tests_more before next in
          let same = ap (λ (list : List Tree). tests_depth (tests_of list)) pushed in
          omega (arith, c.deepest.ensures, c.in-Some-2.grown.depth_is);
      nested = within_more _ n c.behind_first-behind.result (let less = c.split_piece.ensures.others in omega arith) c.behind_first-behind.ensures.nested;
    }

pub blocks::block-returns-in-Some : goal.blocks::block-returns-in-Some
blocks::block-returns-in-Some t c =
    let is = ap (λ (front : Option Found). option_map capped (option_and_then (block_items c.args.word.now) (option_map front_seen front))) (sym c.in-Some.is) ∙ ap (λ (front : Option Front). option_map capped (option_and_then (block_items c.args.word.now) front)) c.headed.ensures.front in
    IfOk-weaker c.block_at.result _ (λ (found : Option Grown). option_map read_grown found ≡ option_map capped (option_and_then (block_items c.args.word.now) (headed (items_of (seen_fragments c.args.inner.now)))))
    (λ found e. e ∙ is) c.block_at.ensures

pub blocks::block_at-returns : goal.blocks::block_at-returns
blocks::block_at-returns t c =
    IfOk-weaker c.block_with.result _ (λ (found : Option Grown). option_map read_grown found ≡ option_map capped (block_items c.args.word.now (front_seen c.args.front.now)))
    (λ found e. e
    ∙ block_found c.args.word.now (front_seen c.args.front.now) (items_of (seen_fragments c.split_piece.result.0.now)) (seen_fragments c.split_piece.result.1.now) c.in_ok-exit.exit (option_map read_items c.in_ok-items.items) (option_map read_clauses c.in_ok-clauses.clauses) c.split_piece.ensures.pieces
    c.in_ok-exit.ensures c.in_ok-items.ensures.found c.in_ok-clauses.ensures.found)
    c.block_with.ensures

pub blocks::block_clause-returns-in_ok-items-in-Afterwards-clause-found : goal.blocks::block_clause-returns-in_ok-items-in-Afterwards-clause-found
blocks::block_clause-returns-in_ok-items-in-Afterwards-clause-found t c =
    let trees = body_items splittings.Endings (items_of (seen_fragments c.args.fragments.now)) in
    let same : option_map read_clause c.afterwards.result ≡ option_map (changed_clause capping) (option_map afterwards_of trees) = c.afterwards.ensures ∙ ap (option_map afterwards_of) c.in_ok-items-in-Afterwards.ensures.found ∙ afterwards_through trees in
    rw c.in-Afterwards.is same

pub blocks::block_clause-returns-in_ok-items-in-Afterwards-clause-depth : goal.blocks::block_clause-returns-in_ok-items-in-Afterwards-clause-depth
blocks::block_clause-returns-in_ok-items-in-Afterwards-clause-depth t c = afterwards_depth c.args.depth.now _ c.in_ok-items-in-Afterwards.items c.afterwards.result c.afterwards.ensures c.in_ok-items-in-Afterwards.ensures.depth

pub blocks::block_clause-returns-in_ok-items-in-Cleanup-clause-found : goal.blocks::block_clause-returns-in_ok-items-in-Cleanup-clause-found
blocks::block_clause-returns-in_ok-items-in-Cleanup-clause-found t c =
    let trees = body_items splittings.Endings (items_of (seen_fragments c.args.fragments.now)) in
    let same : option_map read_clause c.cleanup.result ≡ option_map (changed_clause capping) (option_map cleanup_of trees) = c.cleanup.ensures ∙ ap (option_map cleanup_of) c.in_ok-items-in-Cleanup.ensures.found ∙ cleanup_through trees in
    rw c.in-Cleanup.is same

pub blocks::block_clause-returns-in_ok-items-in-Cleanup-clause-depth : goal.blocks::block_clause-returns-in_ok-items-in-Cleanup-clause-depth
blocks::block_clause-returns-in_ok-items-in-Cleanup-clause-depth t c = cleanup_depth c.args.depth.now _ c.in_ok-items-in-Cleanup.items c.cleanup.result c.cleanup.ensures c.in_ok-items-in-Cleanup.ensures.depth

pub blocks::block_clause-returns-in-Exception-clause-found : goal.blocks::block_clause-returns-in-Exception-clause-found
blocks::block_clause-returns-in-Exception-clause-found t c = rw c.in-Exception.is c.exception_items.ensures.found

pub blocks::block_clauses-returns-in-None-clause-found : goal.blocks::block_clauses-returns-in-None-clause-found
blocks::block_clauses-returns-in-None-clause-found t c =
    let separator = seen_fragment c.in-Some.separator.now in
    let behind = seen_fragments c.in-Some.behind.now in
    let first = items_of (seen_fragments c.split_piece.result.0.now) in
    let rest = seen_fragments c.split_piece.result.1.now in
    let is : c.loop-separator.rest.now ≡ c.in-Some.separator.now ∷ c.in-Some.behind.now = c.in-Some.ensures.cases.0 in
    let none : None ≡ option_map (changed_clause capping) (block_clause_at (word_of separator) first) =
    ap (option_map read_clause) (sym c.in-None.is) ∙ c.in_ok-clause.ensures.found ∙ ap (λ (word : Splitter). option_map (changed_clause capping) (block_clause_at word first)) c.word_of.ensures
    in
    clause_missing separator behind first rest c.split_piece.ensures.pieces (read_clauses c.loop-separator.clauses) none
    ∙ sym (c.loop-separator.invariant.read ∙ ap (λ (list : List Fragment). read_before (read_clauses c.loop-separator.clauses) (option_map (map (changed_clause capping)) (block_clauses_in (others_in (is_splitter splittings.Endings) (seen_fragments list))))) is)

pub blocks::block_clauses-loop-separator-preserved : goal.blocks::block_clauses-loop-separator-preserved
blocks::block_clauses-loop-separator-preserved t c =
    let separator = seen_fragment c.in-Some.separator.now in
    let behind = seen_fragments c.in-Some.behind.now in
    let first = items_of (seen_fragments c.split_piece.result.0.now) in
    let rest = seen_fragments c.split_piece.result.1.now in
    let before = read_clauses c.loop-separator.clauses in
    let next = read_clause c.in-Some-2.clause in
    let is : c.loop-separator.rest.now ≡ c.in-Some.separator.now ∷ c.in-Some.behind.now = c.in-Some.ensures.cases.0 in
    let some : Some next ≡ option_map (changed_clause capping) (block_clause_at (word_of separator) first) =
    ap (option_map read_clause) (sym c.in-Some-2.is) ∙ c.in_ok-clause.ensures.found ∙ ap (λ (word : Splitter). option_map (changed_clause capping) (block_clause_at word first)) c.word_of.ensures
    in
    let pushed : read_clauses c.push.new.self ≡ before ++ next ∷ [] =
    ap (λ (forms : List BlockClause). map (changed_clause filling) (map seen_clause forms)) c.in_ok-push-in-Some-2.ensures.items
    ∙ ap (map (changed_clause filling)) (map-append seen_clause c.loop-separator.clauses.items (c.in-Some-2.clause ∷ []))
    ∙ map-append (changed_clause filling) (map seen_clause c.loop-separator.clauses.items) (seen_clause c.in-Some-2.clause ∷ [])
    in
    record {
      read =
          c.loop-separator.invariant.read ∙ ap (λ (list : List Fragment). read_before before (option_map (map (changed_clause capping)) (block_clauses_in (others_in (is_splitter splittings.Endings) (seen_fragments list))))) is
          ∙ clause_more separator behind first rest c.split_piece.ensures.pieces before (read_clauses c.push.new.self) next some pushed;
      depth =
          let deeper : ClauseDepth c.loop-separator.depth c.block_clause.new.depth (Some c.in-Some-2.clause) = subst (λ (found : Option BlockClause). ClauseDepth c.loop-separator.depth c.block_clause.new.depth found) c.in-Some-2.is c.in_ok-clause.ensures.depth in
          let old = c.loop-separator.invariant.depth in
          let more = clauses_deeper before next in
          let same = ap (λ (list : List trees.BlockClause). block_clauses_depth (trees.block_clauses_of list)) pushed in
          omega arith;
      nested =
          let less = c.split_piece.ensures.others in
          let old = c.loop-separator.invariant.nested in
          let whole = ap (λ (list : List Fragment). nesting (seen_fragments list)) is in
          omega arith;
    }

pub blocks::exception_at-returns-clause-found : goal.blocks::exception_at-returns-clause-found
blocks::exception_at-returns-clause-found t c =
    c.exception.ensures
    ∙ clause_found (caught_items (items_of (seen_fragments c.args.condition.now))) (option_map read_caught c.in_ok-catches.catches) (body_items splittings.Endings (items_of (seen_fragments c.args.fragments.now))) (option_map read_items c.in_ok-items.items) c.in_ok-catches.ensures.found c.in_ok-items.ensures.found

pub blocks::exception_at-returns-clause-depth : goal.blocks::exception_at-returns-clause-depth
blocks::exception_at-returns-clause-depth t c = exception_depth c.args.depth.now c.caught_items.new.depth c.body.new.depth c.in_ok-catches.catches c.in_ok-items.items c.exception.result c.exception.ensures c.in_ok-catches.ensures.depth c.in_ok-items.ensures.depth

pub blocks::exception_items-returns-in-Some-clause-found : goal.blocks::exception_items-returns-in-Some-clause-found
blocks::exception_items-returns-in-Some-clause-found t c =
    let is = ap (λ (front : Option Found). option_map (changed_clause capping) (option_and_then exception_items (option_map front_seen front))) (sym c.in-Some.is) ∙ ap (λ (front : Option Front). option_map (changed_clause capping) (option_and_then exception_items front)) c.headed.ensures.front in
    IfOk-weaker c.exception_at.result _ (λ (found : Option BlockClause). option_map read_clause found ≡ option_map (changed_clause capping) (option_and_then exception_items (headed (items_of (seen_fragments c.args.fragments.now)))))
    (λ found e. e ∙ is) c.exception_at.ensures.found

pub bodies::body-returns-in-None-clause-found : goal.bodies::body-returns-in-None-clause-found
bodies::body-returns-in-None-clause-found t c =
    let list = seen_fragments c.in-Some.list.now in
    let first = items_of (seen_fragments c.split_piece.result.0.now) in
    let rest = seen_fragments c.split_piece.result.1.now in
    let none : None ≡ option_map (changed_item capping) (item_items c.args.words first) = ap (option_map read_item) (sym c.in-None.is) ∙ c.in_ok-read.ensures.found in
    part_fails (changed_item capping) is_semicolon (item_items c.args.words) (read_items c.loop-behind.items) list first rest c.split_piece.ensures.pieces none
    ∙ sym (c.loop-behind.invariant.read ∙ ap (λ (behind : Option (Bor (List Fragment))). read_before (read_items c.loop-behind.items) (option_map (map (changed_item capping)) (each_part is_semicolon (item_items c.args.words) (option_map seen_slice behind)))) c.in-Some.is)

pub bodies::body-loop-behind-preserved : goal.bodies::body-loop-behind-preserved
bodies::body-loop-behind-preserved t c =
    let n = nesting (seen_fragments c.args.fragments.now) in
    let list = seen_fragments c.in-Some.list.now in
    let first = items_of (seen_fragments c.split_piece.result.0.now) in
    let rest = seen_fragments c.split_piece.result.1.now in
    let before = read_items c.loop-behind.items in
    let next = read_item c.in-Some-2.read in
    let some : Some next ≡ option_map (changed_item capping) (item_items c.args.words first) = ap (option_map read_item) (sym c.in-Some-2.is) ∙ c.in_ok-read.ensures.found in
    let pushed : read_items c.push.new.self ≡ before ++ next ∷ [] =
    ap (λ (forms : List ItemForm). map (changed_item filling) (map seen_item forms)) c.in_ok-push-in-Some-2.ensures.items ∙ ap (map (changed_item filling)) (map-append seen_item c.loop-behind.items.items (c.in-Some-2.read ∷ []))
    ∙ map-append (changed_item filling) (map seen_item c.loop-behind.items.items) (seen_item c.in-Some-2.read ∷ [])
    in
    let within : IsWithin n (Some c.in-Some.list) = subst (λ (behind : Option (Bor (List Fragment))). IsWithin (nesting (seen_fragments c.args.fragments.now)) behind) c.in-Some.is c.loop-behind.invariant.nested in
    record {
      read =
          c.loop-behind.invariant.read ∙ ap (λ (behind : Option (Bor (List Fragment))). read_before before (option_map (map (changed_item capping)) (each_part is_semicolon (item_items c.args.words) (option_map seen_slice behind)))) c.in-Some.is
          ∙ part_read (changed_item capping) is_semicolon (item_items c.args.words) before (read_items c.push.new.self) next list first rest c.split_piece.ensures.pieces some pushed
          ∙ ap (λ (found : Option (List SeenFragment)). read_before (read_items c.push.new.self) (option_map (map (changed_item capping)) (each_part is_semicolon (item_items c.args.words) found))) (sym c.behind_first-behind.ensures.behind);
      depth =
          let deeper : ItemDepth c.loop-behind.depth c.item.new.depth (Some c.in-Some-2.read) = subst (λ (found : Option ItemForm). ItemDepth c.loop-behind.depth c.item.new.depth found) c.in-Some-2.is c.in_ok-read.ensures.depth in
          let old = c.loop-behind.invariant.depth in
          let more = items_deeper before next in
          let same = ap (λ (list : List ItemTree). body_depth (body_of list)) pushed in
          omega arith;
      nested = within_more _ n c.behind_first-behind.result (let less = c.split_piece.ensures.others in omega arith) c.behind_first-behind.ensures.nested;
    }

pub bodies::body-loop-behind-init : goal.bodies::body-loop-behind-init
bodies::body-loop-behind-init t c =
    let none : read_items c.new-items.result ≡ [] = ap (λ (forms : List ItemForm). map (changed_item filling) (map seen_item forms)) c.new-items.ensures.items in
    record {
      read = body_start c.args.words (seen_fragments c.args.fragments.now) (seen_fragments c.without_end.result.now) (option_map seen_slice c.unless_empty-behind.result) (read_items c.new-items.result) c.without_end.ensures.items c.unless_empty-behind.ensures.found none;
      depth = let same = ap (λ (list : List ItemTree). body_depth (body_of list)) none in omega arith;
      nested = within_more _ _ c.unless_empty-behind.result c.without_end.ensures.nested c.unless_empty-behind.ensures.nested;
    }

pub bodies::handler_sides-handler_with-requires : goal.bodies::handler_sides-handler_with-requires
bodies::handler_sides-handler_with-requires t c = let deep : TypeDepth 0 c.type_items.new.depth (Some c.in-Some.condition) = subst (λ (found : Option TypeForm). TypeDepth 0 c.type_items.new.depth found) c.in-Some.is c.in_ok-condition.ensures.depth in omega arith

pub bodies::handler_sides-returns-in_ok-copy-in-Some-clause-found : goal.bodies::handler_sides-returns-in_ok-copy-in-Some-clause-found
bodies::handler_sides-returns-in_ok-copy-in-Some-clause-found t c =
    let first = read_type c.in-Some.condition in
    let second = option_map read_grown c.in_ok-handler-in-Some.handler in
    c.handler_with.ensures.found ∙ ap (λ (word : Token). handler_to word second first) c.in_ok-copy-in-Some.ensures
    ∙ handler_found c.args.word.now (type_items (items_of (seen_fragments c.args.before.now))) (expression_items c.args.words (items_of (seen_fragments c.args.after.now))) first second (ap (option_map read_type) (sym c.in-Some.is) ∙ c.in_ok-condition.ensures.found) c.in_ok-handler-in-Some.ensures

pub bodies::handler_sides-returns-in-None-clause-found : goal.bodies::handler_sides-returns-in-None-clause-found
bodies::handler_sides-returns-in-None-clause-found t c =
    handler_fails c.args.word.now (type_items (items_of (seen_fragments c.args.before.now))) (expression_items c.args.words (items_of (seen_fragments c.args.after.now))) (ap (option_map read_type) (sym c.in-None.is) ∙ c.in_ok-condition.ensures.found)

pub bodies::item-returns-in-Let-clause-found : goal.bodies::item-returns-in-Let-clause-found
bodies::item-returns-in-Let-clause-found t c =
    IfOk-weaker c.let_sides.result _ (λ (found : Option ItemForm). option_map read_item found ≡ option_map (changed_item capping) (item_items c.args.words (items_of (seen_fragments c.args.fragments.now))))
    (λ found e. e ∙ ap (option_map (changed_item capping)) (sym c.in-Let.ensures.shape)) c.let_sides.ensures.found

pub bodies::item-returns-in-Handler-clause-found : goal.bodies::item-returns-in-Handler-clause-found
bodies::item-returns-in-Handler-clause-found t c =
    IfOk-weaker c.handler_sides.result _ (λ (found : Option ItemForm). option_map read_item found ≡ option_map (changed_item capping) (item_items c.args.words (items_of (seen_fragments c.args.fragments.now))))
    (λ found e. e ∙ ap (option_map (changed_item capping)) (sym c.in-Handler.ensures.shape)) c.handler_sides.ensures.found

pub bodies::item-returns-in-Local-clause-found : goal.bodies::item-returns-in-Local-clause-found
bodies::item-returns-in-Local-clause-found t c =
    IfOk-weaker c.local.result _ (λ (found : Option ItemForm). option_map read_item found ≡ option_map (changed_item capping) (item_items c.args.words (items_of (seen_fragments c.args.fragments.now))))
    (λ found e. e ∙ ap (option_map (changed_item capping)) (sym c.in-Local.ensures.shape)) c.local.ensures.found

pub bodies::item-returns-in_ok-expression-in-Expression-clause-found : goal.bodies::item-returns-in_ok-expression-in-Expression-clause-found
bodies::item-returns-in_ok-expression-in-Expression-clause-found t c =
    c.expression_item.ensures.found ∙ ap (option_map expression_item) c.in_ok-expression-in-Expression.ensures
    ∙ expression_through (expression_items c.args.words (items_of (seen_fragments c.in-Expression.all.now))) ∙ ap (option_map (changed_item capping)) (sym c.in-Expression.ensures.shape)

pub bodies::let_sides-let_with-requires : goal.bodies::let_sides-let_with-requires
bodies::let_sides-let_with-requires t c = let deep : TargetDepth 0 c.target_items.new.depth (Some c.in-Some.target) = subst (λ (found : Option Target). TargetDepth 0 c.target_items.new.depth found) c.in-Some.is c.in_ok-target.ensures.depth in omega arith

pub bodies::let_sides-returns-in_ok-copy-in-Some-clause-found : goal.bodies::let_sides-returns-in_ok-copy-in-Some-clause-found
bodies::let_sides-returns-in_ok-copy-in-Some-clause-found t c =
    let first = read_target c.in-Some.target in
    let second = option_map read_grown c.in_ok-assigned-in-Some.assigned in
    c.let_with.ensures.found ∙ ap (λ (word : Token). let_to word second first) c.in_ok-copy-in-Some.ensures
    ∙ let_found c.args.word.now (target_items (items_of (seen_fragments c.args.before.now))) (expression_items c.args.words (items_of (seen_fragments c.args.after.now))) first second (ap (option_map read_target) (sym c.in-Some.is) ∙ c.in_ok-target.ensures.found) c.in_ok-assigned-in-Some.ensures

pub bodies::let_sides-returns-in-None-clause-found : goal.bodies::let_sides-returns-in-None-clause-found
bodies::let_sides-returns-in-None-clause-found t c =
    let_fails c.args.word.now (target_items (items_of (seen_fragments c.args.before.now))) (expression_items c.args.words (items_of (seen_fragments c.args.after.now))) (ap (option_map read_target) (sym c.in-None.is) ∙ c.in_ok-target.ensures.found)

pub bodies::local-returns-clause-found : goal.bodies::local-returns-clause-found
bodies::local-returns-clause-found t c =
    let list = methods_items (items_of (seen_fragments c.args.fragments.now)) in
    IfOk-weaker c.local_with.result _ (λ (found : Option ItemForm). option_map read_item found ≡ option_map (changed_item capping) (option_map (local_of c.args.word.now) list))
    (λ found e. e ∙ ap (option_map (local_of c.args.word.now)) c.in_ok-methods.ensures.found ∙ local_through c.args.word.now list) c.local_with.ensures

pub bodies::local-returns-clause-depth : goal.bodies::local-returns-clause-depth
bodies::local-returns-clause-depth t c =
    IfOk-weaker c.local_with.result _ (λ (found : Option ItemForm). ItemDepth c.args.depth.now c.local_methods.new.depth found)
    (λ found e. local_depth c.args.word.now c.args.depth.now c.local_methods.new.depth c.in_ok-methods.methods found e c.in_ok-methods.ensures.depth) c.local_with.ensures

pub bodies::local_method-returns-in_ok-named-in-Some-clause-found : goal.bodies::local_method-returns-in_ok-named-in-Some-clause-found
bodies::local_method-returns-in_ok-named-in-Some-clause-found t c =
    let word = c.in-Some.group.word.now in
    let is = ap (λ (group : Option MethodGroup). option_map (changed_method capping) (group_read group)) (sym c.in-Some.is) ∙ ap (option_map (changed_method capping)) (sym c.method_alone.ensures.found) in
    IfOk-weaker c.named_with.result _ (λ (found : Option LocalMethod). option_map read_method found ≡ option_map (changed_method capping) (spec.method_alone (items_of (seen_fragments c.args.fragments.now))))
    (λ found e. e ∙ ap (option_map (method_of_parts word)) c.in_ok-named-in-Some.ensures.found ∙ method_through word (named_items (items_of (seen_fragments c.in-Some.group.inner.now))) ∙ is) c.named_with.ensures

pub bodies::local_method-returns-in_ok-named-in-Some-clause-depth : goal.bodies::local_method-returns-in_ok-named-in-Some-clause-depth
bodies::local_method-returns-in_ok-named-in-Some-clause-depth t c =
    IfOk-weaker c.named_with.result _ (λ (found : Option LocalMethod). MethodDepth c.args.depth.now c.named_method.new.depth found)
    (λ found e. named_depth c.in-Some.group.word.now c.args.depth.now c.named_method.new.depth c.in_ok-named-in-Some.named found e c.in_ok-named-in-Some.ensures.depth) c.named_with.ensures

pub bodies::local_methods-returns-in-None-clause-found : goal.bodies::local_methods-returns-in-None-clause-found
bodies::local_methods-returns-in-None-clause-found t c =
    let list = seen_fragments c.in-Some.list.now in
    let first = items_of (seen_fragments c.split_piece.result.0.now) in
    let rest = seen_fragments c.split_piece.result.1.now in
    let none : None ≡ option_map (changed_method capping) (method_alone first) = ap (option_map read_method) (sym c.in-None.is) ∙ c.in_ok-method.ensures.found in
    part_fails (changed_method capping) is_comma_fragment (method_alone) (read_methods c.loop-behind.methods) list first rest c.split_piece.ensures.pieces none
    ∙ sym (c.loop-behind.invariant.read ∙ ap (λ (behind : Option (Bor (List Fragment))). read_before (read_methods c.loop-behind.methods) (option_map (map (changed_method capping)) (each_part is_comma_fragment (method_alone) (option_map seen_slice behind)))) c.in-Some.is)

pub bodies::local_methods-loop-behind-preserved : goal.bodies::local_methods-loop-behind-preserved
bodies::local_methods-loop-behind-preserved t c =
    let n = nesting (seen_fragments c.args.fragments.now) in
    let list = seen_fragments c.in-Some.list.now in
    let first = items_of (seen_fragments c.split_piece.result.0.now) in
    let rest = seen_fragments c.split_piece.result.1.now in
    let before = read_methods c.loop-behind.methods in
    let next = read_method c.in-Some-2.method in
    let some : Some next ≡ option_map (changed_method capping) (method_alone first) = ap (option_map read_method) (sym c.in-Some-2.is) ∙ c.in_ok-method.ensures.found in
    let pushed : read_methods c.push.new.self ≡ before ++ next ∷ [] =
    ap (λ (forms : List LocalMethod). map (changed_method filling) (map seen_method forms)) c.in_ok-push-in-Some-2.ensures.items ∙ ap (map (changed_method filling)) (map-append seen_method c.loop-behind.methods.items (c.in-Some-2.method ∷ []))
    ∙ map-append (changed_method filling) (map seen_method c.loop-behind.methods.items) (seen_method c.in-Some-2.method ∷ [])
    in
    let within : IsWithin n (Some c.in-Some.list) = subst (λ (behind : Option (Bor (List Fragment))). IsWithin (nesting (seen_fragments c.args.fragments.now)) behind) c.in-Some.is c.loop-behind.invariant.nested in
    record {
      read =
          c.loop-behind.invariant.read ∙ ap (λ (behind : Option (Bor (List Fragment))). read_before before (option_map (map (changed_method capping)) (each_part is_comma_fragment (method_alone) (option_map seen_slice behind)))) c.in-Some.is
          ∙ part_read (changed_method capping) is_comma_fragment (method_alone) before (read_methods c.push.new.self) next list first rest c.split_piece.ensures.pieces some pushed
          ∙ ap (λ (found : Option (List SeenFragment)). read_before (read_methods c.push.new.self) (option_map (map (changed_method capping)) (each_part is_comma_fragment (method_alone) found))) (sym c.behind_first-behind.ensures.behind);
      depth =
          let deeper : MethodDepth c.loop-behind.depth c.local_method.new.depth (Some c.in-Some-2.method) = subst (λ (found : Option LocalMethod). MethodDepth c.loop-behind.depth c.local_method.new.depth found) c.in-Some-2.is c.in_ok-method.ensures.depth in
          let old = c.loop-behind.invariant.depth in
          let more = methods_deeper before next in
          let same = ap (λ (list : List MethodTree). methods_depth (methods_of list)) pushed in
          omega arith;
      nested = within_more _ n c.behind_first-behind.result (let less = c.split_piece.ensures.others in omega arith) c.behind_first-behind.ensures.nested;
    }

pub choice::alternative-returns-in_ok-trees-in-Some-clause-found : goal.choice::alternative-returns-in_ok-trees-in-Some-clause-found
choice::alternative-returns-in_ok-trees-in-Some-clause-found t c =
    let rest = items_of (seen_fragments c.in-Some.front.rest.now) in
    let test = expression_items splittings.Nothing (items_of (seen_fragments c.in-Some.front.inner.now)) in
    c.alternative_with.ensures.found ∙ both_are alternative_of c.in_ok-test-in-Some.ensures c.in_ok-trees-in-Some.ensures.found ∙ alternative_through test rest
    ∙ ap (λ (front : Option FoundFront). option_map capped_alternative (option_and_then alternative_behind (front_tested front))) (sym c.in-Some.is)
    ∙ ap (λ (head : Option Tested). option_map capped_alternative (option_and_then alternative_behind head)) (sym c.tested.ensures.test)

pub choice::if_statement-returns-in_ok-behind-in-Some : goal.choice::if_statement-returns-in_ok-behind-in-Some
choice::if_statement-returns-in_ok-behind-in-Some t c =
    let word = c.args.word.now in
    let rest = items_of (seen_fragments c.in-Some.front.rest.now) in
    let test = expression_items splittings.Nothing (items_of (seen_fragments c.in-Some.front.inner.now)) in
    let pieces = c.in_ok-pieces-in-Some.ensures.pieces in
    read_as (option_map read_grown) c.if_with.result _ _
    (all_are (capped_if word) c.in_ok-test-in-Some.ensures (c.in_ok-trees-in-Some.ensures.found ∙ ap (λ (found : Pieces). option_map capped_items (body_items splittings.Branches found.first)) pieces) (c.in_ok-behind-in-Some.ensures ∙ ap (λ (list : List Piece). capped_others (map seen_piece list)) c.as_slice.ensures.value ∙ ap (λ (found : Pieces). capped_others found.others) pieces)
    ∙ if_through word test rest
    ∙ ap (λ (front : Option FoundFront). option_map capped (option_and_then (if_items word) (front_tested front))) (sym c.in-Some.is)
    ∙ ap (λ (head : Option Tested). option_map capped (option_and_then (if_items word) head)) (sym c.tested.ensures.test))
    c.if_with.ensures

pub choice::others-loop-index-preserved : goal.choice::others-loop-index-preserved
choice::others-loop-index-preserved t c =
    let before = map read_alternative c.loop-index.alternatives.items in
    let piece = c.index-pieces-index.result in
    let pieces = c.args.pieces.now in
    let i = c.loop-index.index in
    let behind = drop (i + 1) pieces in
    let next = read_alternative c.in-Some.alternative in
    let is : drop i pieces ≡ piece ∷ behind = first_left pieces i piece (omega arith) c.index-pieces-index.is in
    let some : Some next ≡ option_map capped_alternative (alternative_items (items_of (seen_fragments piece.fragments.now))) = ap (option_map read_alternative) (sym c.in-Some.is) ∙ c.in_ok-alternative-in-Elseif.ensures.found in
    let pushed : map read_alternative c.push.new.self.items ≡ before ++ next ∷ [] = ap (map read_alternative) c.in_ok-push-in-Some.ensures.items ∙ map-append read_alternative c.loop-index.alternatives.items (c.in-Some.alternative ∷ []) in
    record {
      read =
          c.loop-index.invariant.read ∙ ap (λ (rest : List Piece). option_map (others_before before) (capped_others (map seen_piece rest))) is
          ∙ another before (seen_piece piece) (map seen_piece behind) (map read_alternative c.push.new.self.items) next (sym c.in-Elseif.is ∙ c.branch_at.ensures) some pushed;
      depth =
          let deeper : AlternativeDepth c.loop-index.depth c.alternative.new.depth (Some c.in-Some.alternative) = subst (λ (found : Option Alternative). AlternativeDepth c.loop-index.depth c.alternative.new.depth found) c.in-Some.is c.in_ok-alternative-in-Elseif.ensures.depth in
          let old = c.loop-index.invariant.depth in
          let more = alternatives_more before next in
          let same = ap (λ (list : List trees.Alternative). alternatives_depth (alternatives_of list)) pushed in
          omega arith;
    }

pub choice::others-returns-in-None : goal.choice::others-returns-in-None
choice::others-returns-in-None t c =
    let before = map read_alternative c.loop-index.alternatives.items in
    let piece = c.index-pieces-index.result in
    let pieces = c.args.pieces.now in
    let i = c.loop-index.index in
    let behind = drop (i + 1) pieces in
    let is : drop i pieces ≡ piece ∷ behind = first_left pieces i piece (omega arith) c.index-pieces-index.is in
    let none : None ≡ option_map capped_alternative (alternative_items (items_of (seen_fragments piece.fragments.now))) = ap (option_map read_alternative) (sym c.in-None.is) ∙ c.in_ok-alternative-in-Elseif.ensures.found in
    none_read before (seen_piece piece) (map seen_piece behind) (sym c.in-Elseif.is ∙ c.branch_at.ensures) none
    ∙ sym (c.loop-index.invariant.read ∙ ap (λ (rest : List Piece). option_map (others_before before) (capped_others (map seen_piece rest))) is)

pub choice::others-returns-then-index-pieces : goal.choice::others-returns-then-index-pieces
choice::others-returns-then-index-pieces t c =
    let before = map read_alternative c.loop-index.alternatives.items in
    let piece = c.index-pieces-index.result in
    let pieces = c.args.pieces.now in
    let i = c.loop-index.index in
    let behind = drop (i + 1) pieces in
    let is : drop i pieces ≡ piece ∷ behind = first_left pieces i piece (omega arith) c.index-pieces-index.is in
    let some : false ≡ (length (map seen_piece behind) == 0) = more_left seen_piece pieces (i + 1) (omega arith) in
    not_last before (seen_piece piece) (map seen_piece behind) (sym c.in-Else.is ∙ c.branch_at.ensures) some
    ∙ sym (c.loop-index.invariant.read ∙ ap (λ (rest : List Piece). option_map (others_before before) (capped_others (map seen_piece rest))) is)

pub choice::others-returns-in-Else : goal.choice::others-returns-in-Else
choice::others-returns-in-Else t c =
    let before = map read_alternative c.loop-index.alternatives.items in
    let piece = c.index-pieces-index.result in
    let pieces = c.args.pieces.now in
    let i = c.loop-index.index in
    let behind = drop (i + 1) pieces in
    let is : drop i pieces ≡ piece ∷ behind = first_left pieces i piece (omega arith) c.index-pieces-index.is in
    let none : true ≡ (length (map seen_piece behind) == 0) = none_left seen_piece pieces (i + 1) (omega arith) in
    c.with_last.ensures ∙ ap (option_map (others_with before)) c.in_ok-last-in-Else.ensures.found ∙ at_last before (seen_piece piece) (map seen_piece behind) (sym c.in-Else.is ∙ c.branch_at.ensures) none
    ∙ sym (c.loop-index.invariant.read ∙ ap (λ (rest : List Piece). option_map (others_before before) (capped_others (map seen_piece rest))) is)

pub choice::others-with_last-requires : goal.choice::others-with_last-requires
choice::others-with_last-requires t c = last_depths _ _ c.loop-index.alternatives.items c.in_ok-last-in-Else.last c.loop-index.invariant.depth c.in_ok-last-in-Else.ensures.depth

pub choice::others-returns : goal.choice::others-returns
choice::others-returns t c =
    let before = map read_alternative c.loop-index.alternatives.items in
    let none : drop c.loop-index.index c.args.pieces.now ≡ [] = drop_all c.loop-index.index c.args.pieces.now (omega arith) in
    all_read before ∙ sym (c.loop-index.invariant.read ∙ ap (λ (rest : List Piece). option_map (others_before before) (capped_others (map seen_piece rest))) none)

pub clauses::for_clause-returns-in-Some-clause-found : goal.clauses::for_clause-returns-in-Some-clause-found
clauses::for_clause-returns-in-Some-clause-found t c =
    let read = ap clause_read (sym c.in-Some.is) ∙ c.in_ok-shape.ensures.read in
    IfOk-weaker c.clause_of.result _ (λ (found : Option ClauseForm). option_map read_for found ≡ option_map (changed_for capping) (clause_items (items_of (seen_fragments c.args.fragments.now)))) (λ found e. e ∙ read) c.clause_of.ensures.found

pub clauses::for_clause-returns-in-Some-clause-depth : goal.clauses::for_clause-returns-in-Some-clause-depth
clauses::for_clause-returns-in-Some-clause-depth t c =
    let deep : ShapeDepth c.args.depth.now c.clause_shape.new.depth (Some c.in-Some.shape) = subst (λ (found : Option ClauseShape). ShapeDepth c.args.depth.now c.clause_shape.new.depth found) c.in-Some.is c.in_ok-shape.ensures.depth in
    IfOk-weaker c.clause_of.result _ (λ (found : Option ClauseForm). ForDepth c.args.depth.now c.clause_of.new.depth found) (λ found h. h c.args.depth.now deep) c.clause_of.ensures.depth

abbrev no_parts : Ending ForClause StopTree
no_parts = record { parts = []; last = None }

-- brackets with nothing between them
no_items : (fragments : List Fragment) → true ≡ (length fragments == 0) → Some no_parts ≡ option_map (changed_loop capping) (for_items (items_of (seen_fragments fragments)))
no_items [] e = refl
no_items (first ∷ rest) e = absurd (omega (arith, eqb-true (length (first ∷ rest)) 0 (sym e)))

pub clauses::for_clauses-returns-then-is_empty-clause-found : goal.clauses::for_clauses-returns-then-is_empty-clause-found
clauses::for_clauses-returns-then-is_empty-clause-found t c = ap Some c.empty_head.ensures ∙ no_items c.args.fragments.now c.if-is_empty.ensures

pub clauses::for_clauses-returns-then-is_empty-clause-depth : goal.clauses::for_clauses-returns-then-is_empty-clause-depth
clauses::for_clauses-returns-then-is_empty-clause-depth t c = let deep : head_depth (read_head c.empty_head.result) ≡ 0 = ap head_depth c.empty_head.ensures in omega arith

pub clauses::for_clauses-returns-else-is_empty-clause-found : goal.clauses::for_clauses-returns-else-is_empty-clause-found
clauses::for_clauses-returns-else-is_empty-clause-found t c =
    IfOk-weaker c.head_parts.result _ (λ (found : Option ForHead). option_map read_head found ≡ option_map (changed_loop capping) (for_items (items_of (seen_fragments c.args.fragments.now))))
    (λ found e. e ∙ some_items c.args.fragments.now c.if-is_empty.ensures) c.head_parts.ensures.found

pub clauses::head_parts-loop-division-preserved : goal.clauses::head_parts-loop-division-preserved
clauses::head_parts-loop-division-preserved t c =
    let clauses = c.loop-division.clauses.items in
    let pushed = c.push.new.self.items in
    let clause = c.in-Some-2.clause in
    let more = c.in_ok-push-in-Some-2.ensures.items in
    let first = items_of (seen_fragments c.in-Some.division.piece.now) in
    let some : Some (read_for clause) ≡ option_map (changed_for capping) (clause_items first) = ap (option_map read_for) (sym c.in-Some-2.is) ∙ c.in_ok-clause.ensures.found in
    let deep : ForDepth c.loop-division.depth c.for_clause.new.depth (Some clause) = subst (λ (found : Option ClauseForm). ForDepth c.loop-division.depth c.for_clause.new.depth found) c.in-Some-2.is c.in_ok-clause.ensures.depth in
    record {
      read =
          c.loop-division.invariant.read
          ∙ ending_read (changed_for capping) (changed_stop_tree capping) is_comma_fragment is_stop clause_items stop_items (read_fors clauses) (read_fors pushed) (read_for clause) (seen_fragments c.loop-division.rest.now) first
          (seen_fragment c.in-Some.division.separator.now) (seen_fragments c.in-Some.division.behind.now) c.in-Some.ensures.pieces some (fors_more clauses pushed clause more);
      depth = fors_deeper c.args.depth.now c.loop-division.depth c.for_clause.new.depth clauses pushed clause more c.loop-division.invariant.depth deep;
      nested = let less = c.in-Some.ensures.behind in let old = c.loop-division.invariant.nested in omega arith;
    }

pub clauses::head_parts-returns-in-None-clause-found : goal.clauses::head_parts-returns-in-None-clause-found
clauses::head_parts-returns-in-None-clause-found t c =
    let first = items_of (seen_fragments c.in-Some.division.piece.now) in
    let none : None ≡ option_map (changed_for capping) (clause_items first) = ap (option_map read_for) (sym c.in-None.is) ∙ c.in_ok-clause.ensures.found in
    sym (c.loop-division.invariant.read
    ∙ sym (ending_fails (changed_for capping) (changed_stop_tree capping) is_comma_fragment is_stop clause_items stop_items (read_fors c.loop-division.clauses.items) (seen_fragments c.loop-division.rest.now) first
    (seen_fragment c.in-Some.division.separator.now) (seen_fragments c.in-Some.division.behind.now) c.in-Some.ensures.pieces none))

pub clauses::head_parts-returns-clause-found : goal.clauses::head_parts-returns-clause-found
clauses::head_parts-returns-clause-found t c =
    let from =
    sym (c.loop-division.invariant.read
    ∙ ending_ends (changed_for capping) (changed_stop_tree capping) is_comma_fragment is_stop clause_items stop_items (read_fors c.loop-division.clauses.items) (seen_fragments c.loop-division.rest.now) c.in_default.ensures.pieces)
    in
    IfOk-weaker c.last_part.result _ (λ (found : Option ForHead). option_map read_head found ≡ capped_parts (seen_fragments c.args.fragments.now)) (λ found e. e ∙ from) c.last_part.ensures.found

pub clauses::last_part-returns-in_ok-test-in-Stop-clause-found : goal.clauses::last_part-returns-in_ok-test-in-Stop-clause-found
clauses::last_part-returns-in_ok-test-in-Stop-clause-found t c =
    let before = read_fors c.args.clauses.items in
    let from =
    ap (λ (test : Option Tree). parts_before before (option_map only_last (option_map (stop_with c.in-Stop.keyword.now) test))) c.in_ok-test-in-Stop.ensures
    ∙ ap (parts_before before) (sym c.in-Stop.ensures.read)
    in
    IfOk-weaker c.with_stop.result _ (λ (found : Option ForHead). option_map read_head found ≡ parts_before before (capped_last (seen_fragments c.args.fragments.now))) (λ found e. e ∙ from) c.with_stop.ensures.found

pub clauses::last_part-returns-in_ok-clause-in-Clause-clause-found : goal.clauses::last_part-returns-in_ok-clause-in-Clause-clause-found
clauses::last_part-returns-in_ok-clause-in-Clause-clause-found t c =
    let before = read_fors c.args.clauses.items in
    let from =
    ap (λ (clause : Option ForClause). parts_before before (option_map only_part clause)) c.in_ok-clause-in-Clause.ensures.found
    ∙ ap (parts_before before) (sym c.in-Clause.ensures.read)
    in
    IfOk-weaker c.with_clause.result _ (λ (found : Option ForHead). option_map read_head found ≡ parts_before before (capped_last (seen_fragments c.args.fragments.now))) (λ found e. e ∙ from) c.with_clause.ensures.found

pub clauses::last_part-returns-in_ok-clause-in-Clause-clause-depth : goal.clauses::last_part-returns-in_ok-clause-in-Clause-clause-depth
clauses::last_part-returns-in_ok-clause-in-Clause-clause-depth t c =
    IfOk-weaker c.with_clause.result _ (λ (found : Option ForHead). (outer : ℕ) → c.args.depth.now ≡ max outer (fors_depth c.args.clauses.items) → HeadDepth outer c.for_clause.new.depth found)
    (λ found h outer e. h outer c.args.depth.now c.for_clause.new.depth e c.in_ok-clause-in-Clause.ensures.depth) c.with_clause.ensures.depth

pub clauses::range-returns-in_ok-bound-in-Some : goal.clauses::range-returns-in_ok-bound-in-Some
clauses::range-returns-in_ok-bound-in-Some t c =
    let shape = c.args.shape in
    let word = c.in-Some.limit.word.now in
    let step = step_read shape.step in
    let from =
    ap (λ (rest : Option RangeTree). option_and_then (limit_with word rest) (option_map read_grown c.in_ok-bound-in-Some.bound)) c.in_ok-rest.ensures
    ∙ ap (option_and_then (limit_with word step)) c.in_ok-bound-in-Some.ensures
    ∙ ap (λ (limit : Option LimitShape). limited_read limit step step) (sym c.in-Some.is)
    in
    IfOk-weaker c.limited.result _ (λ (found : Option Range). option_map read_range found ≡ range_read shape) (λ found e. e ∙ from) c.limited.ensures

pub expressions::after_argument-returns-in-One : goal.expressions::after_argument-returns-in-One
expressions::after_argument-returns-in-One t c =
    let reader = seen_passing c.args.reader in
    let fragment = seen_fragment c.args.fragment.now in
    let is : token_part c.in-One.token.now ≡ part_of fragment = ap seen_part (sym c.in-One.is) ∙ c.part_of.ensures.part in
    read_as (option_map seen_passing) c.token.result _ _
    (ap (λ (part : SeenPart). option_map (changed_passing capping) (reader_at (begins_value fragment) reader part)) is ∙ ap (option_map (changed_passing capping)) (sym (reader_part reader fragment))) c.token.ensures

pub expressions::after_argument-returns-in_ok-found-in-Group : goal.expressions::after_argument-returns-in_ok-found-in-Group
expressions::after_argument-returns-in_ok-found-in-Group t c =
    let reader = seen_passing c.args.reader in
    let fragment = seen_fragment c.args.fragment.now in
    let bracket = c.in-Group.bracket in
    let inner = seen_fragments c.in-Group.inner.now in
    let is : group_part bracket c.in-Group.opener.now inner ≡ part_of fragment = ap seen_part (sym c.in-Group.is) ∙ c.part_of.ensures.part in
    let found = c.in_ok-found-in-Group.found in
    let tree = tree_inside bracket c.in-Group.opener.now (pack inner) (items_of inner) in
    let passed = passed_items (items_of inner) in
    let begins = c.begins_value-begins.result in
    read_as (option_map seen_passing) c.group.result _ _
    (ahead_read begins reader c.in-Group.opener.now bracket (option_map read_grown found.tree) tree (option_map read_passed found.passed) passed
    (c.in_ok-found-in-Group.ensures.tree ∙ ap (λ (need : Need). option_map capped (tree_if need tree)) c.need-need.ensures)
    (c.in_ok-found-in-Group.ensures.passed ∙ ap (λ (need : Need). option_map (map (changed_argument capping)) (passed_if need passed)) c.need-need.ensures)
    ∙ ap (λ (is : Bool). option_map (changed_passing capping) (value_group (ahead is reader) c.in-Group.opener.now bracket tree passed)) c.begins_value-begins.ensures
    ∙ ap (λ (part : SeenPart). option_map (changed_passing capping) (reader_at (begins_value fragment) reader part)) is ∙ ap (option_map (changed_passing capping)) (sym (reader_part reader fragment))) c.group.ensures

pub expressions::after_fragment-returns-in-One : goal.expressions::after_fragment-returns-in-One
expressions::after_fragment-returns-in-One t c =
    let words = c.args.words in
    let state = seen_machine c.args.machine in
    let fragment = seen_fragment c.args.fragment.now in
    let is : token_part c.in-One.token.now ≡ part_of fragment = ap seen_part (sym c.in-One.is) ∙ c.part_of.ensures.part in
    read_as (option_map seen_machine) c.token.result _ _
    (ap (λ (part : SeenPart). option_map (changed_state capping) (state_at words state part)) is ∙ ap (option_map (changed_state capping)) (sym (state_part words state fragment))) c.token.ensures

pub expressions::after_fragment-returns-in_ok-found-in-Group : goal.expressions::after_fragment-returns-in_ok-found-in-Group
expressions::after_fragment-returns-in_ok-found-in-Group t c =
    let words = c.args.words in
    let state = seen_machine c.args.machine in
    let fragment = seen_fragment c.args.fragment.now in
    let bracket = c.in-Group.bracket in
    let inner = seen_fragments c.in-Group.inner.now in
    let is : group_part bracket c.in-Group.opener.now inner ≡ part_of fragment = ap seen_part (sym c.in-Group.is) ∙ c.part_of.ensures.part in
    let found = c.in_ok-found-in-Group.found in
    let tree = tree_inside bracket c.in-Group.opener.now (pack inner) (items_of inner) in
    let passed = passed_items (items_of inner) in
    read_as (option_map seen_machine) c.group.result _ _
    (machine_read state c.in-Group.opener.now bracket (option_map read_grown found.tree) tree (option_map read_passed found.passed) passed
    (c.in_ok-found-in-Group.ensures.tree ∙ ap (λ (need : Need). option_map capped (tree_if need tree)) c.need-need.ensures)
    (c.in_ok-found-in-Group.ensures.passed ∙ ap (λ (need : Need). option_map (map (changed_argument capping)) (passed_if need passed)) c.need-need.ensures)
    ∙ ap (λ (part : SeenPart). option_map (changed_state capping) (state_at words state part)) is ∙ ap (option_map (changed_state capping)) (sym (state_part words state fragment))) c.group.ensures

pub expressions::arguments-loop-fragment-preserved : goal.expressions::arguments-loop-fragment-preserved
expressions::arguments-loop-fragment-preserved t c =
    let fragments = c.args.fragments.now in
    let i = c.loop-fragment.fragment-index in
    let lt : i < length fragments = omega arith in
    reader_read fragments i c.fragment-item.result lt c.fragment-item.is (seen_passing c.loop-fragment.reader) (seen_passing c.in-Some.next) (after_passing nothing_passed (items_of (seen_fragments fragments))) c.loop-fragment.invariant
    (ap (option_map seen_passing) (sym c.in-Some.is) ∙ c.in_ok-next.ensures)

pub expressions::arguments-returns-in-None : goal.expressions::arguments-returns-in-None
expressions::arguments-returns-in-None t c =
    let fragments = c.args.fragments.now in
    let i = c.loop-fragment.fragment-index in
    let lt : i < length fragments = omega arith in
    passed_none (items_of (seen_fragments fragments))
    (reader_fails fragments i c.fragment-item.result lt c.fragment-item.is (seen_passing c.loop-fragment.reader) (after_passing nothing_passed (items_of (seen_fragments fragments))) c.loop-fragment.invariant
    (ap (option_map seen_passing) (sym c.in-None.is) ∙ c.in_ok-next.ensures))

pub expressions::arguments-returns : goal.expressions::arguments-returns
expressions::arguments-returns t c =
    let fragments = c.args.fragments.now in
    let i = c.loop-fragment.fragment-index in
    let past : length fragments ≤ i = omega arith in
    let reader = seen_passing c.loop-fragment.reader in
    read_as (option_map read_passed) c.finish.result _ _ (passed_end (items_of (seen_fragments fragments)) reader (reader_end fragments i reader (after_passing nothing_passed (items_of (seen_fragments fragments))) past c.loop-fragment.invariant)) c.finish.ensures

pub expressions::expression-loop-fragment-preserved : goal.expressions::expression-loop-fragment-preserved
expressions::expression-loop-fragment-preserved t c =
    let fragments = c.args.fragments.now in
    let i = c.loop-fragment.fragment-index in
    let lt : i < length fragments = omega arith in
    let words = c.args.words in
    state_read fragments i c.fragment-item.result lt c.fragment-item.is words (seen_machine c.loop-fragment.machine) (seen_machine c.in-Some.next) (after_all words (wants whole) (items_of (seen_fragments fragments))) c.loop-fragment.invariant
    (ap (option_map seen_machine) (sym c.in-Some.is) ∙ c.in_ok-next.ensures)

pub expressions::expression-returns-in-None : goal.expressions::expression-returns-in-None
expressions::expression-returns-in-None t c =
    let fragments = c.args.fragments.now in
    let i = c.loop-fragment.fragment-index in
    let lt : i < length fragments = omega arith in
    let words = c.args.words in
    all_none words (items_of (seen_fragments fragments))
    (state_fails fragments i c.fragment-item.result lt c.fragment-item.is words (seen_machine c.loop-fragment.machine) (after_all words (wants whole) (items_of (seen_fragments fragments))) c.loop-fragment.invariant
    (ap (option_map seen_machine) (sym c.in-None.is) ∙ c.in_ok-next.ensures))

pub expressions::expression-returns : goal.expressions::expression-returns
expressions::expression-returns t c =
    let fragments = c.args.fragments.now in
    let i = c.loop-fragment.fragment-index in
    let past : length fragments ≤ i = omega arith in
    let words = c.args.words in
    let machine = seen_machine c.loop-fragment.machine in
    read_as (option_map read_grown) c.tree.result _ _ (all_end words (items_of (seen_fragments fragments)) machine (state_end fragments i words machine (after_all words (wants whole) (items_of (seen_fragments fragments))) past c.loop-fragment.invariant)) c.tree.ensures

pub for_loops::for_loop-returns-in-Some : goal.for_loops::for_loop-returns-in-Some
for_loops::for_loop-returns-in-Some t c =
    IfOk-weaker c.loop_behind.result _ (λ (found : Option Grown). option_map read_grown found ≡ option_map capped (option_and_then (for_statement c.args.word.now) (headed (items_of (seen_fragments c.args.inner.now)))))
    (λ found e. e ∙ ap (λ (front : Option Front). option_map capped (option_and_then (for_statement c.args.word.now) front)) c.in-Some.ensures.front) c.loop_behind.ensures

pub for_loops::loop_behind-for_node-requires : goal.for_loops::loop_behind-for_node-requires
for_loops::loop_behind-for_node-requires t c = parts_deep c.for_clauses.new.depth c.body.new.depth c.finally_in.new.depth c.in_ok-clauses.clauses c.in_ok-items.items c.in_ok-last.last c.in_ok-clauses.ensures.depth c.in_ok-items.ensures.depth c.in_ok-last.ensures.depth

pub for_loops::loop_behind-returns : goal.for_loops::loop_behind-returns
for_loops::loop_behind-returns t c =
    let head = for_items (items_of (seen_fragments c.args.head.now)) in
    let cuts = cut (is_splitter splittings.LastPart) false (items_of (seen_fragments c.args.rest.now)) in
    let last =
    c.in_ok-last.ensures.found ∙ c.finally_piece.ensures.read
    ∙ ap (λ (others : List Piece). option_map (changed_otherwise capping) (finally_in (map seen_piece others))) c.deref.ensures.value
    in
    IfOk-weaker c.for_node.result _ (λ (found : _). option_map read_grown found ≡ option_map capped (loop_at c.args.word.now head cuts))
    (λ found e. e
    ∙ loop_found c.args.word.now (seen_pieces c.in_ok-pieces.pieces) cuts head (option_map read_head c.in_ok-clauses.clauses) (option_map read_items c.in_ok-items.items) (option_map read_last c.in_ok-last.last) c.in_ok-pieces.ensures.pieces
    c.in_ok-clauses.ensures.found c.in_ok-items.ensures.found last)
    c.for_node.ensures

pub keys::key_items-returns-in_ok-default-in-Some-clause-found : goal.keys::key_items-returns-in_ok-default-in-Some-clause-found
keys::key_items-returns-in_ok-default-in-Some-clause-found t c =
    let labelled = c.label_in-labelled.result in
    let label = label_token labelled.label in
    let items = items_of (seen_fragments labelled.rest.now) in
    let variable = read_variable c.in-Some.front.variable in
    let front : Some (seen_front c.in-Some.front) ≡ option_map capped_front (variable_front items) = ap (option_map seen_front) (sym c.in-Some.is) ∙ c.in_ok-front.ensures.front in
    c.key_of.ensures.key
    ∙ ap (λ (keyword : Option Token). option_map (key_of keyword variable) (option_map read_default c.in_ok-default-in-Some.default)) c.in_ok-keyword.ensures
    ∙ ap (option_map (key_of label variable)) c.in_ok-default-in-Some.ensures ∙ key_through label (seen_front c.in-Some.front) (variable_front items) front
    ∙ ap (option_map capped_key) (sym c.label_in-labelled.ensures.label)

pub keys::key_items-returns-in-None-clause-found : goal.keys::key_items-returns-in-None-clause-found
keys::key_items-returns-in-None-clause-found t c =
    let labelled = c.label_in-labelled.result in
    let items = items_of (seen_fragments labelled.rest.now) in
    let none : None ≡ option_map capped_front (variable_front items) = ap (option_map seen_front) (sym c.in-None.is) ∙ c.in_ok-front.ensures.front in
    key_fails (label_token labelled.label) (variable_front items) none ∙ ap (option_map capped_key) (sym c.label_in-labelled.ensures.label)

pub keys::keys_from-returns-in_ok-key_items-in-One-clause-found : goal.keys::keys_from-returns-in_ok-key_items-in-One-clause-found
keys::keys_from-returns-in_ok-key_items-in-One-clause-found t c =
    let items = items_of (seen_fragments c.args.fragments.now) in
    let read = option_map read_key c.in_ok-key_items-in-One.field-0 in
    let one : keys_behind [] read ≡ option_map capped_keys (with_key (key_items items) (Some (keys_of_found [] false))) = ap (keys_behind []) c.in_ok-key_items-in-One.ensures.found ∙ only_key (key_items items) in
    let from = ap (λ (keys : List Key). keys_behind (read_each_key keys) read) c.new-in-One.ensures.items ∙ one ∙ ap (option_map capped_keys) (sym c.in-One.ensures) in
    IfOk-weaker c.with_key.result _ (λ (found : Option KeysRead). option_map read_keys found ≡ option_map capped_keys (keys_behind_mark (cut is_comma_fragment false items))) (λ found e. e ∙ from) c.with_key.ensures.keys

pub keys::several_keys-loop-division-preserved : goal.keys::several_keys-loop-division-preserved
keys::several_keys-loop-division-preserved t c =
    let list = seen_fragments c.loop-division.rest.now in
    let first = items_of (seen_fragments c.in-Some.division.piece.now) in
    let some : Some (read_key c.in-Some-2.key) ≡ option_map capped_key (key_items first) = ap (option_map read_key) (sym c.in-Some-2.is) ∙ c.in_ok-key.ensures.found in
    let pushed : read_each_key c.push.new.self.items ≡ read_each_key c.loop-division.keys.items ++ read_key c.in-Some-2.key ∷ [] = ap read_each_key c.in_ok-push-in-Some-2.ensures.items ∙ map-append read_key c.loop-division.keys.items (c.in-Some-2.key ∷ []) in
    let more : KeyDepth c.loop-division.depth c.key_items.new.depth (Some c.in-Some-2.key) = subst (λ (found : Option Key). KeyDepth c.loop-division.depth c.key_items.new.depth found) c.in-Some-2.is c.in_ok-key.ensures.depth in
    record {
      read =
          c.loop-division.invariant.read
          ∙ ending_read capped_key same is_comma_fragment all_at key_items some_all (read_each_key c.loop-division.keys.items) (read_each_key c.push.new.self.items) (read_key c.in-Some-2.key) list first
          (seen_fragment c.in-Some.division.separator.now) (seen_fragments c.in-Some.division.behind.now) c.in-Some.ensures.pieces some pushed;
      depth = keys_deeper c.args.depth.now c.loop-division.depth c.key_items.new.depth c.loop-division.keys.items c.push.new.self.items c.in-Some-2.key c.in_ok-push-in-Some-2.ensures.items c.loop-division.invariant.depth more;
      nested = let less = c.in-Some.ensures.behind in let old = c.loop-division.invariant.nested in omega arith;
    }

pub keys::several_keys-returns-in-None-clause-found : goal.keys::several_keys-returns-in-None-clause-found
keys::several_keys-returns-in-None-clause-found t c =
    let first = items_of (seen_fragments c.in-Some.division.piece.now) in
    let none : None ≡ option_map capped_key (key_items first) = ap (option_map read_key) (sym c.in-None.is) ∙ c.in_ok-key.ensures.found in
    sym (keys_ended (seen_fragments c.args.fragments.now)
    ∙ ap (option_map keys_tree) (c.loop-division.invariant.read
    ∙ sym (ending_fails capped_key same is_comma_fragment all_at key_items some_all (read_each_key c.loop-division.keys.items) (seen_fragments c.loop-division.rest.now) first
    (seen_fragment c.in-Some.division.separator.now) (seen_fragments c.in-Some.division.behind.now) c.in-Some.ensures.pieces none)))

pub keys::several_keys-returns-clause-found : goal.keys::several_keys-returns-clause-found
keys::several_keys-returns-clause-found t c =
    let from =
    sym (keys_ended (seen_fragments c.args.fragments.now)
    ∙ ap (option_map keys_tree) (c.loop-division.invariant.read
    ∙ ending_ends capped_key same is_comma_fragment all_at key_items some_all (read_each_key c.loop-division.keys.items) (seen_fragments c.loop-division.rest.now) c.in_default.ensures.pieces))
    in
    IfOk-weaker c.last_keys.result _ (λ (found : Option KeysRead). option_map read_keys found ≡ option_map capped_keys (keys_pieces (cut is_comma_fragment false (items_of (seen_fragments c.args.fragments.now))))) (λ found e. e ∙ from) c.last_keys.ensures.found

pub listed::listed_items-returns-in_ok-keys_from-in-Some-keys-clause-found : goal.listed::listed_items-returns-in_ok-keys_from-in-Some-keys-clause-found
listed::listed_items-returns-in_ok-keys_from-in-Some-keys-clause-found t c =
    let heads = c.in-Some.front.heads in
    c.with_keys.ensures.found ∙ ap (λ (found : Option KeysTree). heads_before heads (option_map listed_keys found)) c.in_ok-keys_from-in-Some-keys.ensures.found
    ∙ ap (heads_before heads) (listed_keys_on (keys_behind_mark (cut is_comma_fragment false (items_of (seen_fragments c.in-Some-keys.behind.now)))))
    ∙ ap (λ (keys : Option (Bor (List Fragment))). heads_before heads (option_map capped_listed (keys_left keys))) (sym c.in-Some-keys.is) ∙ ap heads_found (sym c.in-Some.is) ∙ sym c.in_ok-front.ensures.front

pub listed::listed_items-returns-in-None-keys-clause-found : goal.listed::listed_items-returns-in-None-keys-clause-found
listed::listed_items-returns-in-None-keys-clause-found t c =
    let heads = c.in-Some.front.heads in
    c.without_keys.ensures.found ∙ ap (λ (keys : Option (Bor (List Fragment))). heads_before heads (option_map capped_listed (keys_left keys))) (sym c.in-None-keys.is) ∙ ap heads_found (sym c.in-Some.is) ∙ sym c.in_ok-front.ensures.front

pub listed::listed_items-returns-in_ok-keys_from-in-Some-keys-clause-depth : goal.listed::listed_items-returns-in_ok-keys_from-in-Some-keys-clause-depth
listed::listed_items-returns-in_ok-keys_from-in-Some-keys-clause-depth t c =
    let old = c.args.depth.now in
    let middle = c.list_front.new.depth in
    let deep : FrontDepth old middle (Some c.in-Some.front) = subst (λ (found : Option ListFront). FrontDepth old middle found) c.in-Some.is c.in_ok-front.ensures.depth in
    c.with_keys.ensures.depth old middle c.keys_from.new.depth deep c.in_ok-keys_from-in-Some-keys.ensures.depth

pub methods::method-returns-in_ok-items-in-Some-clause-found : goal.methods::method-returns-in_ok-items-in-Some-clause-found
methods::method-returns-in_ok-items-in-Some-clause-found t c =
    let items = items_of (seen_fragments c.args.fragments.now) in
    let signature : Signature = seen_signature c.in-Some.front in
    let some : Some signature ≡ option_map capped_signature (signature_items items) = ap (option_map seen_signature) (sym c.in-Some.is) ∙ c.in_ok-front.ensures.front in
    c.method_of.ensures.found
    ∙ ap (λ (trees : Option (List ItemTree)). option_map (with_trees signature.parts) trees)
    (c.in_ok-items-in-Some.ensures.found ∙ ap (λ (rest : List Item). option_map (map (changed_item capping)) (body_items splittings.Nothing rest)) c.without_front.ensures.items)
    ∙ method_read signature items some

pub methods::method-returns-in-None-clause-found : goal.methods::method-returns-in-None-clause-found
methods::method-returns-in-None-clause-found t c =
    let items = items_of (seen_fragments c.args.fragments.now) in
    let none : None ≡ option_map capped_signature (signature_items items) = ap (option_map seen_signature) (sym c.in-None.is) ∙ c.in_ok-front.ensures.front in
    method_fails items none

pub methods::named_method-returns-in_ok-method-in-Some-clause-found : goal.methods::named_method-returns-in_ok-method-in-Some-clause-found
methods::named_method-returns-in_ok-method-in-Some-clause-found t c =
    let front = c.in-Some.front in
    c.named_of.ensures.found ∙ ap (λ (token : Token). option_map (with_name token) (option_map read_parts c.in_ok-method-in-Some.field-0)) c.in_ok-name-in-Some.ensures
    ∙ ap (option_map (with_name front.name.now)) c.in_ok-method-in-Some.ensures.found ∙ named_through front.name.now (method_items (items_of (seen_fragments front.rest.now)))
    ∙ ap (λ (found : Option NamedFound). option_map capped_named (option_map named_parts found)) (sym c.in-Some.ensures.name)

pub signatures::signature_front-returns-in_ok-listed-in-Some-clause-front : goal.signatures::signature_front-returns-in_ok-listed-in-Some-clause-front
signatures::signature_front-returns-in_ok-listed-in-Some-clause-front t c =
    let front = c.in-Some.front in
    let rest = items_of (seen_fragments front.rest.now) in
    let from =
    ap (option_and_then (signature_behind rest)) c.in_ok-listed-in-Some.ensures.found ∙ signature_changed rest (listed_items (items_of (seen_fragments front.inner.now)))
    ∙ ap (λ (found : Option Front). option_map capped_signature (option_and_then signature_headed found)) c.in-Some.ensures.front
    in
    IfOk-weaker c.signature_listed.result _ (λ (found : Option SignatureFront). option_map seen_signature found ≡ option_map capped_signature (signature_items (items_of (seen_fragments c.args.fragments.now)))) (λ found e. e ∙ from) c.signature_listed.ensures.front

pub signatures::signature_front-returns-in_ok-listed-in-Some-clause-nested : goal.signatures::signature_front-returns-in_ok-listed-in-Some-clause-nested
signatures::signature_front-returns-in_ok-listed-in-Some-clause-nested t c =
    let rest = nesting (seen_fragments c.in-Some.front.rest.now) in
    let all = nesting (seen_fragments c.args.fragments.now) in
    IfOk-weaker c.signature_listed.result _ (λ (found : Option SignatureFront). IsRestWithin all found) (λ found h. rest_weaker rest all found c.in-Some.ensures.behind h) c.signature_listed.ensures.nested

pub statements::begin-returns : goal.statements::begin-returns
statements::begin-returns t c =
    read_as (option_map read_grown) c.begin_with.result _ _
    (ap (option_map (capped_begin c.args.word.now)) c.in_ok-trees.ensures.found ∙ begin_through c.args.word.now (body_items splittings.Nothing (items_of (seen_fragments c.args.inner.now))))
    c.begin_with.ensures

pub statements::guarded-returns-in_ok-trees-in-Some : goal.statements::guarded-returns-in_ok-trees-in-Some
statements::guarded-returns-in_ok-trees-in-Some t c =
    let word = c.args.word.now in
    let rest = items_of (seen_fragments c.in-Some.front.rest.now) in
    let test = expression_items splittings.Nothing (items_of (seen_fragments c.in-Some.front.inner.now)) in
    read_as (option_map read_grown) c.guarded_with.result _ _
    (both_are (capped_guarded c.args.guard word) c.in_ok-test-in-Some.ensures c.in_ok-trees-in-Some.ensures.found ∙ guarded_through c.args.guard word test rest
    ∙ ap (λ (front : Option FoundFront). option_map capped (option_and_then (guarded_items c.args.guard word) (front_tested front))) (sym c.in-Some.is)
    ∙ ap (λ (head : Option Tested). option_map capped (option_and_then (guarded_items c.args.guard word) head)) (sym c.tested.ensures.test))
    c.guarded_with.ensures

pub statements::method_statement-returns : goal.statements::method_statement-returns
statements::method_statement-returns t c =
    read_as (option_map read_grown) c.method_with.result _ _
    (ap (option_map (capped_method_tree c.args.word.now)) c.in_ok-found.ensures.found ∙ statement_through c.args.word.now (method_items (items_of (seen_fragments c.args.inner.now))))
    c.method_with.ensures

pub arms::choices_in-choice-requires : goal.arms::choices_in-choice-requires
arms::choices_in-choice-requires t c =
    let others = c.args.pieces.now.others.items in
    let n = c.loop-left.left in
    let piece = c.index-others-left.result in
    let here = piece_nesting_at others (n - 1) piece (omega arith) (subst (λ (list : List Piece). piece ≡ get_or list (n - 1) piece) c.as_slice-others.ensures.value c.index-others-left.is) in
    omega arith

pub arms::arms-choices_in-requires : goal.arms::arms-choices_in-requires
arms::arms-choices_in-requires t c =
    let n = nesting (seen_fragments c.without_end-ended.result.now) in
    let first = c.in_ok-pieces.ensures.nested.0 in
    let others = pieces_within n c.in_ok-pieces.pieces.others.items c.in_ok-pieces.ensures.nested.1 in
    let less = c.without_end-ended.ensures.nested in
    omega arith

pub arms::tests-expression-requires : goal.arms::tests-expression-requires
arms::tests-expression-requires t c =
    let within : IsWithin (nesting (seen_fragments c.args.fragments.now)) (Some c.in-Some.list) = subst (λ (behind : Option (Bor (List Fragment))). IsWithin (nesting (seen_fragments c.args.fragments.now)) behind) c.in-Some.is c.loop-behind.invariant.nested in
    let piece = c.split_piece.ensures.piece in
    omega arith

pub bodies::body-item-requires : goal.bodies::body-item-requires
bodies::body-item-requires t c =
    let within : IsWithin (nesting (seen_fragments c.args.fragments.now)) (Some c.in-Some.list) = subst (λ (behind : Option (Bor (List Fragment))). IsWithin (nesting (seen_fragments c.args.fragments.now)) behind) c.in-Some.is c.loop-behind.invariant.nested in
    let piece = c.split_piece.ensures.piece in
    omega arith

pub bodies::local_methods-local_method-requires : goal.bodies::local_methods-local_method-requires
bodies::local_methods-local_method-requires t c =
    let within : IsWithin (nesting (seen_fragments c.args.fragments.now)) (Some c.in-Some.list) = subst (λ (behind : Option (Bor (List Fragment))). IsWithin (nesting (seen_fragments c.args.fragments.now)) behind) c.in-Some.is c.loop-behind.invariant.nested in
    let piece = c.split_piece.ensures.piece in
    omega arith

pub choice::others-alternative-requires : goal.choice::others-alternative-requires
choice::others-alternative-requires t c =
    let here = piece_nesting_at c.args.pieces.now c.loop-index.index c.index-pieces-index.result (omega arith) c.index-pieces-index.is in
    omega arith

pub choice::others-body-requires : goal.choice::others-body-requires
choice::others-body-requires t c =
    let here = piece_nesting_at c.args.pieces.now c.loop-index.index c.index-pieces-index.result (omega arith) c.index-pieces-index.is in
    omega arith

pub choice::if_statement-body-requires : goal.choice::if_statement-body-requires
choice::if_statement-body-requires t c =
    let first = c.in_ok-pieces-in-Some.ensures.nested.0 in
    let less = c.in-Some.ensures.behind in
    omega arith

pub choice::if_statement-others-requires : goal.choice::if_statement-others-requires
choice::if_statement-others-requires t c =
    let others = pieces_within (nesting (seen_fragments c.in-Some.front.rest.now)) c.in_ok-pieces-in-Some.pieces.others.items c.in_ok-pieces-in-Some.ensures.nested.1 in
    let same = ap pieces_nesting c.as_slice.ensures.value in
    let less = c.in-Some.ensures.behind in
    omega arith

pub expressions::expression-after_fragment-requires : goal.expressions::expression-after_fragment-requires
expressions::expression-after_fragment-requires t c =
    let here = nesting_at c.args.fragments.now c.loop-fragment.fragment-index c.fragment-item.result (omega arith) c.fragment-item.is in
    omega arith

pub expressions::arguments-after_argument-requires : goal.expressions::arguments-after_argument-requires
expressions::arguments-after_argument-requires t c =
    let here = nesting_at c.args.fragments.now c.loop-fragment.fragment-index c.fragment-item.result (omega arith) c.fragment-item.is in
    omega arith

pub keys::key_items-initial_items-requires : goal.keys::key_items-initial_items-requires
keys::key_items-initial_items-requires t c =
    let front = variable_rest c.in_ok-front.field-0 (seen_fragments c.label_in-labelled.result.rest.now) c.in_ok-front.ensures.front in
    let rest : nesting (seen_fragments c.in-Some.front.rest.now) ≤ nesting (seen_fragments c.label_in-labelled.result.rest.now) = subst (VariableRestWithin (nesting (seen_fragments c.label_in-labelled.result.rest.now))) c.in-Some.is front in
    let less = c.label_in-labelled.ensures.nested in
    omega arith

pub clauses::for_clause-clause_of-requires : goal.clauses::for_clause-clause_of-requires
clauses::for_clause-clause_of-requires t c =
    let n = nesting (seen_fragments c.args.fragments.now) in
    let within : IsClauseWithin n (Some c.in-Some.shape) = subst (IsClauseWithin n) c.in-Some.is c.in_ok-shape.ensures.nested in
    let parts = parts_within n c.in-Some.shape.parts within in
    omega arith

pub for_loops::loop_behind-body-requires : goal.for_loops::loop_behind-body-requires
for_loops::loop_behind-body-requires t c =
    let first = c.in_ok-pieces.ensures.nested.0 in
    omega arith

pub for_loops::loop_behind-finally_in-requires : goal.for_loops::loop_behind-finally_in-requires
for_loops::loop_behind-finally_in-requires t c =
    let n = nesting (seen_fragments c.args.rest.now) in
    let all : All (IsPieceWithin n) c.deref.result.now = subst (All (IsPieceWithin n)) (sym c.deref.ensures.value) c.in_ok-pieces.ensures.nested.1 in
    let last = parts_within n (clause_parts.From c.args.rest (record { limit = None; step = c.finally_piece.result })) (omega arith, (tt, c.finally_piece.ensures.nested n all)) in
    omega arith

pub clauses::clause_of-expression-requires : goal.clauses::clause_of-expression-requires
clauses::clause_of-expression-requires t c =
    let parts : parts_nesting c.args.parts ≡ max (nesting (seen_fragments c.in-Then.first.now)) (nesting (seen_fragments c.in-Then.next.now)) = ap parts_nesting c.in-Then.is in
    omega arith

pub clauses::clause_of-expression-requires-in-Then : goal.clauses::clause_of-expression-requires-in-Then
clauses::clause_of-expression-requires-in-Then t c =
    let parts : parts_nesting c.args.parts ≡ max (nesting (seen_fragments c.in-Then.first.now)) (nesting (seen_fragments c.in-Then.next.now)) = ap parts_nesting c.in-Then.is in
    omega arith

pub clauses::clause_of-expression-requires-in-In : goal.clauses::clause_of-expression-requires-in-In
clauses::clause_of-expression-requires-in-In t c =
    let parts : parts_nesting c.args.parts ≡ nesting (seen_fragments c.in-In.collection.now) = ap parts_nesting c.in-In.is in
    omega arith

pub clauses::clause_of-expression-requires-in-From : goal.clauses::clause_of-expression-requires-in-From
clauses::clause_of-expression-requires-in-From t c =
    let parts : parts_nesting c.args.parts ≡ max (nesting (seen_fragments c.in-From.start.now)) (range_nesting c.in-From.shape) = ap parts_nesting c.in-From.is in
    omega arith

pub clauses::clause_of-range-requires : goal.clauses::clause_of-range-requires
clauses::clause_of-range-requires t c =
    let parts : parts_nesting c.args.parts ≡ max (nesting (seen_fragments c.in-From.start.now)) (range_nesting c.in-From.shape) = ap parts_nesting c.in-From.is in
    omega arith

pub clauses::step-expression-requires : goal.clauses::step-expression-requires
clauses::step-expression-requires t c =
    let part : last_nesting c.args.shape ≡ nesting (seen_fragments c.in-Part.fragments.now) = ap last_nesting c.in-Part.is in
    omega arith

pub clauses::range-expression-requires : goal.clauses::range-expression-requires
clauses::range-expression-requires t c =
    let limit : limit_nesting c.args.shape.limit ≡ nesting (seen_fragments c.in-Some.limit.bound.now) = ap limit_nesting c.in-Some.is in
    omega arith

pub for_loops::finally_in-body-requires : goal.for_loops::finally_in-body-requires
for_loops::finally_in-body-requires t c =
    let part : last_nesting c.args.shape ≡ nesting (seen_fragments c.in-Part.fragments.now) = ap last_nesting c.in-Part.is in
    omega arith
