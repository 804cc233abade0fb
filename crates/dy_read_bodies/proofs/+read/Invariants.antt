use Rattle.dy_rules_depth.specs.Capping.{capping}
use Rattle.dy_rules_depth.specs.Changes.{changed_clause, changed_item, changed_method}
use Rattle.dy_read_operators.proofs.MachineLoops.{SameReaders, SameStates}
use Rattle.dy_read_operators.specs.Machines.{seen_machine}
use Rattle.dy_read_operators.specs.Passings.{seen_passing}
use Rattle.dy_read_parts.specs.Cut.{seen_piece}
use Rattle.dy_read_parts.specs.Nesting.{nesting, group_nesting}
use Rattle.dy_read_parts.specs.Pieces.{IsWithin, read_before, each_part, seen_slice, left, others_in}
use Rattle.dy_read_shapes.proofs.Keys.{same}
use Rattle.dy_read_shapes.specs.ItemShapes.{methods_items}
use Rattle.dy_read_shapes.specs.LoopShapes.{last_nesting, parts_nesting, range_nesting}
use Rattle.dy_read_shapes.specs.PieceNesting.{pieces_nesting}
use Rattle.dy_read_shapes.specs.ReadKeys.{read_each_key, capped_key, all_at, some_all}
use Rattle.dy_read_arms.specs.Arms.{read_behind}
use Rattle.dy_read_statements.specs.Branches.{capped_others}
use Rattle.dy_read_statements.specs.LoopHeads.{capped_parts, fors_depth}
use Rattle.dy_read_arms.specs.ReadArms.{choices_on, read_tests, capped_trees}
use Rattle.dy_read_arms.specs.ReadBodies.{read_clauses, read_items, read_methods}
use Rattle.dy_read_statements.specs.ReadBranches.{read_alternative, others_before}
use Rattle.dy_read_statements.specs.ReadLoops.{read_fors}
use Rattle.dy_rules.specs.Arguments.{is_comma_fragment}
use Rattle.dy_rules.specs.Blocks.{block_clauses_in}
use Rattle.dy_rules.specs.Bodies.{item_items, body_items, method_alone}
use Rattle.dy_rules.specs.Choices.{no_choices, tests_items}
use Rattle.dy_rules.specs.Cutting.{is_splitter, is_semicolon}
use Rattle.dy_rules.specs.Depth.{tests_depth, block_clauses_depth, body_depth, methods_depth, alternatives_depth, keys_depth}
use Rattle.dy_rules.specs.Fragments.{items_of}
use Rattle.dy_rules.specs.Reading.{expression_items, after_passing, nothing_passed, after_all, wants, whole}
use Rattle.dy_rules.specs.Signatures.{key_items}
use Rattle.dy_rules.specs.Trees.{tests_of, block_clauses_of, body_of, methods_of, alternatives_of, keys_of}
use Rattle.dy_tree.specs.Fragments.{seen_fragments, seen_fragment}
use Rattle.dy_read_types.specs.Endings.{parts_before, changed_parts}
use Rattle.std.proofs.Common.{◌≡◌, ◌≤◌, length, map, take, Some, max, option_map, ◌-◌, drop, ◌+◌, ◌*◌}
use Rattle.dy_tree.specs.declared.splitters.Splitting.TheVariants as splittings
use Rattle.dy_read_bodies.proofs.+read.Given as goal

abbrev pub invariant-arms::choices_in-loop-left : goal.invariant-arms::choices_in-loop-left
invariant-arms::choices_in-loop-left l = record {
  within : l.left ≤ length l.pieces.others.items;
  read : choices_on l.single (map seen_piece l.pieces.others.items) (Some no_choices) ≡ choices_on l.single (map seen_piece (take l.left l.pieces.others.items)) (Some (read_behind l.behind));
}

abbrev pub decreases-arms::choices_in-loop-left : goal.decreases-arms::choices_in-loop-left
decreases-arms::choices_in-loop-left l = l.left

abbrev pub invariant-arms::tests-loop-behind : goal.invariant-arms::tests-loop-behind
invariant-arms::tests-loop-behind l = record {
  read : option_map capped_trees (tests_items (items_of (seen_fragments l.fragments))) ≡ read_before (read_tests l.trees) (option_map capped_trees (each_part is_comma_fragment (expression_items splittings.Nothing) (option_map seen_slice l.behind)));
  depth : l.depth ≡ max l.fn.depth (tests_depth (tests_of (read_tests l.trees)));
  nested : IsWithin (nesting (seen_fragments l.fragments)) l.behind;
}

abbrev pub decreases-arms::tests-loop-behind : goal.decreases-arms::tests-loop-behind
decreases-arms::tests-loop-behind l = left l.behind

abbrev pub invariant-blocks::block_clauses-loop-separator : goal.invariant-blocks::block_clauses-loop-separator
invariant-blocks::block_clauses-loop-separator l = record {
  read : option_map (map (changed_clause capping)) (block_clauses_in (others_in (is_splitter splittings.Endings) (seen_fragments l.fragments))) ≡ read_before (read_clauses l.clauses) (option_map (map (changed_clause capping)) (block_clauses_in (others_in (is_splitter splittings.Endings) (seen_fragments l.rest))));
  depth : l.depth ≡ max l.fn.depth (block_clauses_depth (block_clauses_of (read_clauses l.clauses)));
  nested : nesting (seen_fragments l.rest) ≤ nesting (seen_fragments l.fragments);
}

abbrev pub decreases-blocks::block_clauses-loop-separator : goal.decreases-blocks::block_clauses-loop-separator
decreases-blocks::block_clauses-loop-separator l = length l.rest

abbrev pub invariant-bodies::body-loop-behind : goal.invariant-bodies::body-loop-behind
invariant-bodies::body-loop-behind l = record {
  read : option_map (map (changed_item capping)) (body_items l.words (items_of (seen_fragments l.fragments))) ≡ read_before (read_items l.items) (option_map (map (changed_item capping)) (each_part is_semicolon (item_items l.words) (option_map seen_slice l.behind)));
  depth : l.depth ≡ max l.fn.depth (body_depth (body_of (read_items l.items)));
  nested : IsWithin (nesting (seen_fragments l.fragments)) l.behind;
}

abbrev pub decreases-bodies::body-loop-behind : goal.decreases-bodies::body-loop-behind
decreases-bodies::body-loop-behind l = left l.behind

abbrev pub invariant-bodies::local_methods-loop-behind : goal.invariant-bodies::local_methods-loop-behind
invariant-bodies::local_methods-loop-behind l = record {
  read : option_map (map (changed_method capping)) (methods_items (items_of (seen_fragments l.fragments))) ≡ read_before (read_methods l.methods) (option_map (map (changed_method capping)) (each_part is_comma_fragment method_alone (option_map seen_slice l.behind)));
  depth : l.depth ≡ max l.fn.depth (methods_depth (methods_of (read_methods l.methods)));
  nested : IsWithin (nesting (seen_fragments l.fragments)) l.behind;
}

abbrev pub decreases-bodies::local_methods-loop-behind : goal.decreases-bodies::local_methods-loop-behind
decreases-bodies::local_methods-loop-behind l = left l.behind

abbrev pub invariant-choice::others-loop-index : goal.invariant-choice::others-loop-index
invariant-choice::others-loop-index l =
    record {
      read : capped_others (map seen_piece l.pieces) ≡ option_map (others_before (map read_alternative l.alternatives.items)) (capped_others (map seen_piece (drop l.index l.pieces)));
      depth : l.depth ≡ alternatives_depth (alternatives_of (map read_alternative l.alternatives.items));
    }

abbrev pub decreases-choice::others-loop-index : goal.decreases-choice::others-loop-index
decreases-choice::others-loop-index l = length l.pieces - l.index

abbrev pub invariant-clauses::head_parts-loop-division : goal.invariant-clauses::head_parts-loop-division
invariant-clauses::head_parts-loop-division l =
    record {
      read : capped_parts (seen_fragments l.fragments) ≡ parts_before (read_fors l.clauses.items) (capped_parts (seen_fragments l.rest));
      depth : l.depth ≡ max l.fn.depth (fors_depth l.clauses.items);
      nested : nesting (seen_fragments l.rest) ≤ nesting (seen_fragments l.fragments);
    }

abbrev pub decreases-clauses::head_parts-loop-division : goal.decreases-clauses::head_parts-loop-division
decreases-clauses::head_parts-loop-division l = length l.rest

abbrev pub invariant-expressions::arguments-loop-fragment : goal.invariant-expressions::arguments-loop-fragment
invariant-expressions::arguments-loop-fragment l = SameReaders (after_passing (seen_passing l.reader) (items_of (seen_fragments (drop l.fragment-index l.fragments)))) (after_passing nothing_passed (items_of (seen_fragments l.fragments)))

abbrev pub invariant-expressions::expression-loop-fragment : goal.invariant-expressions::expression-loop-fragment
invariant-expressions::expression-loop-fragment l =
    SameStates (after_all l.words (seen_machine l.machine) (items_of (seen_fragments (drop l.fragment-index l.fragments)))) (after_all l.words (wants whole) (items_of (seen_fragments l.fragments)))

abbrev pub invariant-keys::several_keys-loop-division : goal.invariant-keys::several_keys-loop-division
invariant-keys::several_keys-loop-division l =
    let parts = changed_parts capped_key same is_comma_fragment all_at key_items some_all in
    record {
      read : parts (seen_fragments l.fragments) ≡ parts_before (read_each_key l.keys.items) (parts (seen_fragments l.rest));
      depth : l.depth ≡ max l.fn.depth (keys_depth (keys_of (read_each_key l.keys.items)));
      nested : nesting (seen_fragments l.rest) ≤ nesting (seen_fragments l.fragments);
    }

abbrev pub decreases-keys::several_keys-loop-division : goal.decreases-keys::several_keys-loop-division
decreases-keys::several_keys-loop-division l = length l.rest

abbrev pub decreases-arms::arms : goal.decreases-arms::arms
decreases-arms::arms l = 64 * (nesting (seen_fragments l.fragments.now)) + 36

abbrev pub decreases-arms::case : goal.decreases-arms::case
decreases-arms::case l = 64 * (nesting (seen_fragments l.inner.now)) + 37

abbrev pub decreases-arms::choice : goal.decreases-arms::choice
decreases-arms::choice l = 64 * (nesting (seen_fragments l.fragments.now)) + 34

abbrev pub decreases-arms::choices_in : goal.decreases-arms::choices_in
decreases-arms::choices_in l = 64 * (max (nesting (seen_fragments l.pieces.now.first.now)) (pieces_nesting l.pieces.now.others.items)) + 35

abbrev pub decreases-arms::first_item : goal.decreases-arms::first_item
decreases-arms::first_item l = 64 * (nesting (seen_fragments l.fragments.now)) + 33

abbrev pub decreases-arms::head : goal.decreases-arms::head
decreases-arms::head l = 64 * (nesting (seen_fragments l.fragments.now)) + 36

abbrev pub decreases-arms::select : goal.decreases-arms::select
decreases-arms::select l = 64 * (nesting (seen_fragments l.inner.now)) + 37

abbrev pub decreases-arms::tests : goal.decreases-arms::tests
decreases-arms::tests l = 64 * (nesting (seen_fragments l.fragments.now)) + 33

abbrev pub decreases-blocks::block : goal.decreases-blocks::block
decreases-blocks::block l = 64 * (nesting (seen_fragments l.inner.now)) + 37

abbrev pub decreases-blocks::block_at : goal.decreases-blocks::block_at
decreases-blocks::block_at l = 64 * (max (nesting (seen_fragments l.front.now.inner.now)) (nesting (seen_fragments l.front.now.rest.now))) + 36

abbrev pub decreases-blocks::block_clause : goal.decreases-blocks::block_clause
decreases-blocks::block_clause l = 64 * (nesting (seen_fragments l.fragments.now)) + 34

abbrev pub decreases-blocks::block_clauses : goal.decreases-blocks::block_clauses
decreases-blocks::block_clauses l = 64 * (nesting (seen_fragments l.fragments.now)) + 35

abbrev pub decreases-blocks::exception_at : goal.decreases-blocks::exception_at
decreases-blocks::exception_at l = 64 * (max (nesting (seen_fragments l.condition.now)) (nesting (seen_fragments l.fragments.now))) + 32

abbrev pub decreases-blocks::exception_items : goal.decreases-blocks::exception_items
decreases-blocks::exception_items l = 64 * (nesting (seen_fragments l.fragments.now)) + 33

abbrev pub decreases-bodies::body : goal.decreases-bodies::body
decreases-bodies::body l = 64 * (nesting (seen_fragments l.fragments.now)) + 20

abbrev pub decreases-bodies::handler_sides : goal.decreases-bodies::handler_sides
decreases-bodies::handler_sides l = 64 * (max (nesting (seen_fragments l.before.now)) (nesting (seen_fragments l.after.now))) + 18

abbrev pub decreases-bodies::item : goal.decreases-bodies::item
decreases-bodies::item l = 64 * (nesting (seen_fragments l.fragments.now)) + 19

abbrev pub decreases-bodies::let_sides : goal.decreases-bodies::let_sides
decreases-bodies::let_sides l = 64 * (max (nesting (seen_fragments l.before.now)) (nesting (seen_fragments l.after.now))) + 18

abbrev pub decreases-bodies::local : goal.decreases-bodies::local
decreases-bodies::local l = 64 * (nesting (seen_fragments l.fragments.now)) + 18

abbrev pub decreases-bodies::local_method : goal.decreases-bodies::local_method
decreases-bodies::local_method l = 64 * (nesting (seen_fragments l.fragments.now)) + 16

abbrev pub decreases-bodies::local_methods : goal.decreases-bodies::local_methods
decreases-bodies::local_methods l = 64 * (nesting (seen_fragments l.fragments.now)) + 17

abbrev pub decreases-choice::alternative : goal.decreases-choice::alternative
decreases-choice::alternative l = 64 * (nesting (seen_fragments l.fragments.now)) + 35

abbrev pub decreases-choice::if_statement : goal.decreases-choice::if_statement
decreases-choice::if_statement l = 64 * (nesting (seen_fragments l.inner.now)) + 37

abbrev pub decreases-choice::others : goal.decreases-choice::others
decreases-choice::others l = 64 * (pieces_nesting l.pieces.now) + 36

abbrev pub decreases-clauses::clause_of : goal.decreases-clauses::clause_of
decreases-clauses::clause_of l = 64 * (parts_nesting l.parts) + 31

abbrev pub decreases-clauses::for_clause : goal.decreases-clauses::for_clause
decreases-clauses::for_clause l = 64 * (nesting (seen_fragments l.fragments.now)) + 32

abbrev pub decreases-clauses::for_clauses : goal.decreases-clauses::for_clauses
decreases-clauses::for_clauses l = 64 * (nesting (seen_fragments l.fragments.now)) + 35

abbrev pub decreases-clauses::head_parts : goal.decreases-clauses::head_parts
decreases-clauses::head_parts l = 64 * (nesting (seen_fragments l.fragments.now)) + 34

abbrev pub decreases-clauses::last_part : goal.decreases-clauses::last_part
decreases-clauses::last_part l = 64 * (nesting (seen_fragments l.fragments.now)) + 33

abbrev pub decreases-clauses::range : goal.decreases-clauses::range
decreases-clauses::range l = 64 * (range_nesting l.shape) + 30

abbrev pub decreases-clauses::step : goal.decreases-clauses::step
decreases-clauses::step l = 64 * (last_nesting l.shape) + 29

abbrev pub decreases-expressions::after_argument : goal.decreases-expressions::after_argument
decreases-expressions::after_argument l = 64 * (group_nesting (seen_fragment l.fragment.now)) + 0

abbrev pub decreases-expressions::after_fragment : goal.decreases-expressions::after_fragment
decreases-expressions::after_fragment l = 64 * (group_nesting (seen_fragment l.fragment.now)) + 0

abbrev pub decreases-expressions::arguments : goal.decreases-expressions::arguments
decreases-expressions::arguments l = 64 * (nesting (seen_fragments l.fragments.now)) + 1

abbrev pub decreases-expressions::expression : goal.decreases-expressions::expression
decreases-expressions::expression l = 64 * (nesting (seen_fragments l.fragments.now)) + 1

abbrev pub decreases-expressions::within : goal.decreases-expressions::within
decreases-expressions::within l = 64 * (nesting (seen_fragments l.inner.now)) + 40

abbrev pub decreases-for_loops::finally_in : goal.decreases-for_loops::finally_in
decreases-for_loops::finally_in l = 64 * (last_nesting l.shape) + 31

abbrev pub decreases-for_loops::for_loop : goal.decreases-for_loops::for_loop
decreases-for_loops::for_loop l = 64 * (nesting (seen_fragments l.inner.now)) + 37

abbrev pub decreases-for_loops::loop_behind : goal.decreases-for_loops::loop_behind
decreases-for_loops::loop_behind l = 64 * (max (nesting (seen_fragments l.head.now)) (nesting (seen_fragments l.rest.now))) + 36

abbrev pub decreases-keys::initial_items : goal.decreases-keys::initial_items
decreases-keys::initial_items l = 64 * (nesting (seen_fragments l.fragments.now)) + 20

abbrev pub decreases-keys::key_items : goal.decreases-keys::key_items
decreases-keys::key_items l = 64 * (nesting (seen_fragments l.fragments.now)) + 21

abbrev pub decreases-keys::keys_from : goal.decreases-keys::keys_from
decreases-keys::keys_from l = 64 * (nesting (seen_fragments l.fragments.now)) + 24

abbrev pub decreases-keys::last_keys : goal.decreases-keys::last_keys
decreases-keys::last_keys l = 64 * (nesting (seen_fragments l.fragments.now)) + 22

abbrev pub decreases-keys::several_keys : goal.decreases-keys::several_keys
decreases-keys::several_keys l = 64 * (nesting (seen_fragments l.fragments.now)) + 23

abbrev pub decreases-listed::listed_items : goal.decreases-listed::listed_items
decreases-listed::listed_items l = 64 * (nesting (seen_fragments l.fragments.now)) + 25

abbrev pub decreases-methods::method : goal.decreases-methods::method
decreases-methods::method l = 64 * (nesting (seen_fragments l.fragments.now)) + 27

abbrev pub decreases-methods::named_method : goal.decreases-methods::named_method
decreases-methods::named_method l = 64 * (nesting (seen_fragments l.fragments.now)) + 28

abbrev pub decreases-signatures::signature_front : goal.decreases-signatures::signature_front
decreases-signatures::signature_front l = 64 * (nesting (seen_fragments l.fragments.now)) + 26

abbrev pub decreases-statement::inside : goal.decreases-statement::inside
decreases-statement::inside l = 64 * (nesting (seen_fragments l.inner.now)) + 39

abbrev pub decreases-statement::statement : goal.decreases-statement::statement
decreases-statement::statement l = 64 * (nesting (seen_fragments l.inner.now)) + 38

abbrev pub decreases-statements::begin : goal.decreases-statements::begin
decreases-statements::begin l = 64 * (nesting (seen_fragments l.inner.now)) + 37

abbrev pub decreases-statements::guarded : goal.decreases-statements::guarded
decreases-statements::guarded l = 64 * (nesting (seen_fragments l.inner.now)) + 37

abbrev pub decreases-statements::method_statement : goal.decreases-statements::method_statement
decreases-statements::method_statement l = 64 * (nesting (seen_fragments l.inner.now)) + 37
