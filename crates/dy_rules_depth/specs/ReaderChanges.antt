-- The same in what the readers hold: what was read, how far it was read, and the items that are
-- still to be read.
use Rattle.std.specs.Prelude.{List, map, option_map}
use Rattle.dy_tree.specs.declared.token.Token.{Token}
use Rattle.dy_rules.specs.Trees.{ForClause, StopTree}
use Rattle.dy_rules.specs.Types.{VariableTree}
use Rattle.dy_rules.specs.ConstantReading.{Element, comes, after_sign, known, Listing, started}
use Rattle.dy_rules.specs.ConstantReading.{element, ending, Inside, ConstantItem, token_of}
use Rattle.dy_rules.specs.ConstantReading.{group_of}
use Rattle.dy_rules.specs.Cutting.{Ending, Head, MethodFound, NamedFound, Caught, Found, Item}
use Rattle.dy_rules.specs.Cutting.{Piece, Pieces, Sides, Front}
use Rattle.dy_rules.specs.TypeReading.{TypeFront, VariableFront}
use Rattle.dy_rules.specs.Reading.{Outer, whole, operated, under, assigned, Part, State, wants}
use Rattle.dy_rules.specs.Reading.{counted, has, dotted, Passing, nothing_passed, passes_next}
use Rattle.dy_rules.specs.Reading.{symbol_first, passing}
use Rattle.dy_rules.specs.Choices.{PieceKind, item_piece, arm_piece, otherwise_piece, no_piece}
use Rattle.dy_rules.specs.Choices.{Choices}
use Rattle.dy_rules.specs.Loops.{Range}
use Rattle.dy_rules.specs.StatementReading.{Tested, Others}
use Rattle.dy_rules.specs.Signatures.{ResultsFront}
use Rattle.dy_rules.specs.FormReading.{WordsFront}
use Rattle.dy_rules_depth.specs.Changes.{Change, changed_variable, changed_results, changed_listed}
use Rattle.dy_rules_depth.specs.Changes.{changed_item, changed_argument, changed_alternative}
use Rattle.dy_rules_depth.specs.Changes.{changed_otherwise, changed_arm, changed_maybe}
use Rattle.dy_rules_depth.specs.Changes.{changed_limit, changed_for, changed_stop_tree}

-- constants

abbrev pub changed_element : Change → Element → Element
changed_element change comes = comes
changed_element change (after_sign sign) = after_sign sign
changed_element change (known constant) = known (change.on_constant constant)

abbrev pub changed_listing : Change → Listing → Listing
changed_listing change started = started
changed_listing change (element items state) =
    element (map change.on_constant items) (changed_element change state)
changed_listing change (ending items state) =
    ending (map change.on_constant items) (changed_element change state)

abbrev pub changed_inside : Change → Inside → Inside
changed_inside change found =
    record {
      items = map change.on_constant found.items;
      last = option_map change.on_constant found.last;
    }

abbrev pub changed_constant_item : Change → ConstantItem → ConstantItem
changed_constant_item change (token_of token) = token_of token
changed_constant_item change (group_of kind opener found) =
    group_of kind opener (option_map (changed_listing change) found)

-- expressions and arguments

abbrev pub changed_outer : Change → Outer → Outer
changed_outer change whole = whole
changed_outer change (operated precedence left sign outer) =
    operated precedence (change.on_tree left) sign (changed_outer change outer)
changed_outer change (under sign outer) = under sign (changed_outer change outer)
changed_outer change (assigned place outer) =
    assigned (change.on_tree place) (changed_outer change outer)

abbrev pub changed_part : Change → Part → Part
changed_part change part = (change.on_tree part.0, changed_outer change part.1)

abbrev pub changed_state : Change → State → State
changed_state change (wants outer) = wants (changed_outer change outer)
changed_state change (counted digits outer) = counted digits (changed_outer change outer)
changed_state change (has tree outer) = has (change.on_tree tree) (changed_outer change outer)
changed_state change (dotted tree outer) = dotted (change.on_tree tree) (changed_outer change outer)

abbrev pub changed_passing : Change → Passing → Passing
changed_passing change nothing_passed = nothing_passed
changed_passing change (passes_next passed) = passes_next (map (changed_argument change) passed)
changed_passing change (symbol_first passed token) =
    symbol_first (map (changed_argument change) passed) token
changed_passing change (passing passed token state) =
    passing (map (changed_argument change) passed) token (changed_state change state)

-- what was read inside of groups

abbrev pub changed_ending : {A B : Type 0} → (A → A) → (B → B) → Ending A B → Ending A B
changed_ending on_part on_last found =
    record { parts = map on_part found.parts; last = option_map on_last found.last }

abbrev pub changed_head : Change → Head → Head
changed_head change head =
    record { selected = change.on_tree head.selected; test = option_map change.on_tree head.test }

abbrev pub changed_caught : Change → Caught → Caught
changed_caught change caught =
    record { variable = caught.variable; condition = change.on_type caught.condition }

abbrev pub changed_method_found : Change → MethodFound → MethodFound
changed_method_found change method =
    record {
      found = changed_listed change method.found;
      results = option_map (changed_results change) method.results;
      trees = map (changed_item change) method.trees;
    }

abbrev pub changed_named : Change → NamedFound → NamedFound
changed_named change named =
    record { token = named.token; method = changed_method_found change named.method }

abbrev pub changed_bound : Change → Ending VariableTree Token → Ending VariableTree Token
changed_bound change bound =
    record { parts = map (changed_variable change) bound.parts; last = bound.last }

abbrev pub changed_given : Change → Ending VariableTree VariableTree
    → Ending VariableTree VariableTree
changed_given change given =
    changed_ending (changed_variable change) (changed_variable change) given

abbrev pub changed_loop : Change → Ending ForClause StopTree → Ending ForClause StopTree
changed_loop change head = changed_ending (changed_for change) (changed_stop_tree change) head

abbrev pub changed_found : Change → Found → Found
changed_found change found =
    record {
      tree = option_map change.on_tree found.tree;
      passed = option_map (map (changed_argument change)) found.passed;
      types = option_map (map change.on_type) found.types;
      limits = found.limits;
      bound = option_map (changed_bound change) found.bound;
      head = option_map (changed_head change) found.head;
      caught = option_map (changed_caught change) found.caught;
      given = option_map (changed_given change) found.given;
      listed = option_map (changed_listed change) found.listed;
      method = option_map (changed_method_found change) found.method;
      named_method = option_map (changed_named change) found.named_method;
      clauses = option_map (changed_loop change) found.clauses;
    }

-- items, which keep their fragments

abbrev pub changed_item_of : Change → Item → Item
changed_item_of change item =
    record { fragment = item.fragment; found = changed_found change item.found }

abbrev pub changed_items : Change → List Item → List Item
changed_items change items = map (changed_item_of change) items

abbrev pub changed_piece : Change → Piece → Piece
changed_piece change piece =
    record { separator = piece.separator; items = changed_items change piece.items }

abbrev pub changed_pieces : Change → Pieces → Pieces
changed_pieces change pieces =
    record {
      first = changed_items change pieces.first;
      others = map (changed_piece change) pieces.others;
    }

abbrev pub changed_sides : Change → Sides → Sides
changed_sides change sides =
    record { before = changed_items change sides.before; after = changed_items change sides.after }

abbrev pub changed_front : Change → Front → Front
changed_front change front =
    record { first = changed_item_of change front.first; rest = changed_items change front.rest }

abbrev pub changed_type_front : Change → TypeFront → TypeFront
changed_type_front change front =
    record { type = change.on_type front.type; rest = changed_items change front.rest }

abbrev pub changed_variable_front : Change → VariableFront → VariableFront
changed_variable_front change front =
    record {
      variable = changed_variable change front.variable;
      rest = changed_items change front.rest;
    }

abbrev pub changed_results_front : Change → ResultsFront → ResultsFront
changed_results_front change front =
    record {
      results = option_map (changed_results change) front.results;
      rest = changed_items change front.rest;
    }

abbrev pub changed_words_front : Change → WordsFront → WordsFront
changed_words_front change front =
    record {
      adjectives = front.adjectives;
      token = front.token;
      rest = changed_items change front.rest;
    }

-- parts of statements

abbrev pub changed_tested : Change → Tested → Tested
changed_tested change head =
    record { test = change.on_tree head.test; rest = changed_items change head.rest }

abbrev pub changed_others : Change → Others → Others
changed_others change others =
    record {
      trees = map (changed_alternative change) others.trees;
      last = changed_otherwise change others.last;
    }

abbrev pub changed_kind : Change → PieceKind → PieceKind
changed_kind change item_piece = item_piece
changed_kind change (arm_piece before after) =
    arm_piece (changed_items change before) (changed_items change after)
changed_kind change (otherwise_piece rest) = otherwise_piece (changed_items change rest)
changed_kind change no_piece = no_piece

abbrev pub changed_choices : Change → Choices → Choices
changed_choices change found =
    record {
      lead = map (changed_item change) found.lead;
      arms = map (changed_arm change) found.arms;
      last = changed_otherwise change found.last;
    }

abbrev pub changed_range : Change → Range → Range
changed_range change range =
    record { limit = changed_limit change range.limit; step = changed_maybe change range.step }
