-- The loops that feed fragments to the readers of an expression and of arguments.
use Rattle.std.proofs.Common.{◌≡◌, Bool, true, false, List, [], ◌∷◌, map, Option, Some, None, option_map, option_and_then, refl, sym, ap, ◌∙◌}
use Rattle.dy_tree.specs.declared.token.Token.{Token}
use Rattle.dy_tree.specs.declared.types.LiteralForm.TheVariants as literals
use Rattle.dy_tree.specs.declared.brackets.Bracket.{Bracket}
use Rattle.dy_tree.specs.declared.splitters.Splitting.{Splitting}
use Rattle.dy_rules.specs.Trees.{Tree, literal, Argument}
use Rattle.dy_rules.specs.Cutting.{Item}
use Rattle.dy_rules.specs.Reading as reading
use Rattle.dy_rules.specs.Reading.{whole, wants, has, at_group, after_item, after_all, tree_of, expression_items, Passing, nothing_passed, passes_next, symbol_first, passing, after_argument, after_passing, arguments_at_end, passed_items}
use Rattle.dy_rules_depth.specs.Changes.{changed_argument}
use Rattle.dy_rules_depth.specs.ReaderChanges.{changed_state, changed_passing}
use Rattle.dy_rules_depth.specs.Capping.{capped, capping}
use Rattle.dy_rules_depth.proofs.Options.{map_same, then_same, then_on, option_twice}
use Rattle.dy_rules_depth.proofs.Twice.{tree_twice, arguments_twice, state_twice}
use Rattle.dy_rules_depth.proofs.Machine.{SamePassed, tree_same, group_same}
use Rattle.dy_rules_depth.proofs.Expressions.{all_same, end_same, passing_same}
use Rattle.dy_read_operators.specs.Machines.{need_of, tree_if, passed_if}
use Rattle.dy_read_operators.specs.PassingSteps.{ahead, value_group, need_ahead}
use Rattle.dy_read_operators.proofs.Machines.{need_is}

-- The loops that feed fragments to the machine: what is left to be read is kept.

abbrev pub SameStates : Option reading.State → Option reading.State → Type 0
SameStates found other = option_map (changed_state capping) found ≡ option_map (changed_state capping) other

all_states : (words : Splitting) (items : List Item) (state other : reading.State) → changed_state capping state ≡ changed_state capping other → SameStates (after_all words state items) (after_all words other items)
all_states words items state other e = sym (all_same words items state state refl) ∙ all_same words items state other e

all_next : (words : Splitting) (state : reading.State) (item : Item) (rest : List Item) (next : Option reading.State) → next ≡ option_map (changed_state capping) (after_item words state item)
    → SameStates (option_and_then (λ s. after_all words s rest) next) (after_all words state (item ∷ rest))
all_next words state item rest next e =
    ap (λ (found : Option reading.State). option_map (changed_state capping) (option_and_then (λ s. after_all words s rest) found)) e
    ∙ then_on (changed_state capping) (changed_state capping) (λ s. after_all words s rest) (λ s. after_all words s rest) (after_item words state item) (λ s. all_states words rest (changed_state capping s) s (state_twice s))

-- an item was read
pub all_step : (words : Splitting) (state next : reading.State) (item : Item) (rest : List Item) → Some next ≡ option_map (changed_state capping) (after_item words state item) → SameStates (after_all words next rest) (after_all words state (item ∷ rest))
all_step words state next item rest e = all_next words state item rest (Some next) e

-- an item cannot be read
pub all_fails : (words : Splitting) (state : reading.State) (item : Item) (rest : List Item) → None ≡ option_map (changed_state capping) (after_item words state item) → SameStates None (after_all words state (item ∷ rest))
all_fails words state item rest e = all_next words state item rest None e

-- all were read
pub all_end : (words : Splitting) (items : List Item) (state : reading.State) → SameStates (Some state) (after_all words (wants whole) items) → option_map capped (tree_of state) ≡ option_map capped (expression_items words items)
all_end words items state e = then_same (changed_state capping) capped tree_of tree_of (Some state) (after_all words (wants whole) items) tree_same e

pub all_none : (words : Splitting) (items : List Item) → SameStates None (after_all words (wants whole) items) → None ≡ option_map capped (expression_items words items)
all_none words items e = then_same (changed_state capping) capped tree_of tree_of None (after_all words (wants whole) items) tree_same e

-- what was read inside of a group, as far as it is looked at
pub group_read : (state : reading.State) (opener : Token) (bracket : Bracket) (tree found : Option Tree) (passed other : Option (List Argument)) → tree ≡ option_map capped (tree_if (need_of state bracket) found) → passed ≡ option_map (map (changed_argument capping)) (passed_if (need_of state bracket) other)
    → SameStates (at_group state opener bracket tree passed) (at_group state opener bracket found other)
group_read state opener bracket tree found passed other e f =
    let need = need_of state bracket in
    group_same state state opener bracket tree (tree_if need found) passed (passed_if need other) refl (ap (option_map capped) e ∙ option_twice capped tree_twice (tree_if need found))
    (ap (option_map (map (changed_argument capping))) f ∙ option_twice (map (changed_argument capping)) arguments_twice (passed_if need other))
    ∙ ap (option_map (changed_state capping)) (sym (need_is state opener bracket found other))

-- The same of arguments.

abbrev pub SameReaders : Option Passing → Option Passing → Type 0
SameReaders found other = option_map (changed_passing capping) found ≡ option_map (changed_passing capping) other

passing_twice : (reader : Passing) → changed_passing capping (changed_passing capping reader) ≡ changed_passing capping reader
passing_twice nothing_passed = refl
passing_twice (passes_next passed) = ap passes_next (arguments_twice passed)
passing_twice (symbol_first passed token) = ap (λ (list : List Argument). symbol_first list token) (arguments_twice passed)
passing_twice (passing passed token state) = cc (arguments_twice passed, state_twice state)

readers : (items : List Item) (reader other : Passing) → changed_passing capping reader ≡ changed_passing capping other → SameReaders (after_passing reader items) (after_passing other items)
readers items reader other e = sym (passing_same items reader reader refl) ∙ passing_same items reader other e

passed_next : (reader : Passing) (item : Item) (rest : List Item) (next : Option Passing) → next ≡ option_map (changed_passing capping) (after_argument reader item.fragment item)
    → SameReaders (option_and_then (λ r. after_passing r rest) next) (after_passing reader (item ∷ rest))
passed_next reader item rest next e =
    ap (λ (found : Option Passing). option_map (changed_passing capping) (option_and_then (λ r. after_passing r rest) found)) e
    ∙ then_on (changed_passing capping) (changed_passing capping) (λ r. after_passing r rest) (λ r. after_passing r rest) (after_argument reader item.fragment item) (λ r. readers rest (changed_passing capping r) r (passing_twice r))

pub passed_step : (reader next : Passing) (item : Item) (rest : List Item) → Some next ≡ option_map (changed_passing capping) (after_argument reader item.fragment item) → SameReaders (after_passing next rest) (after_passing reader (item ∷ rest))
passed_step reader next item rest e = passed_next reader item rest (Some next) e

pub passed_fails : (reader : Passing) (item : Item) (rest : List Item) → None ≡ option_map (changed_passing capping) (after_argument reader item.fragment item) → SameReaders None (after_passing reader (item ∷ rest))
passed_fails reader item rest e = passed_next reader item rest None e

pub passed_end : (items : List Item) (reader : Passing) → SameReaders (Some reader) (after_passing nothing_passed items) → SamePassed (arguments_at_end reader) (passed_items items)
passed_end items reader e = then_same (changed_passing capping) (map (changed_argument capping)) arguments_at_end arguments_at_end (Some reader) (after_passing nothing_passed items) end_same e

pub passed_none : (items : List Item) → SameReaders None (after_passing nothing_passed items) → SamePassed None (passed_items items)
passed_none items e = then_same (changed_passing capping) (map (changed_argument capping)) arguments_at_end arguments_at_end None (after_passing nothing_passed items) end_same e

value_same : (passed : List Argument) (word : Option Token) (state : reading.State) (opener : Token) (bracket : Bracket) (tree found : Option Tree) (given other : Option (List Argument)) → tree ≡ option_map capped (tree_if (need_of state bracket) found)
    → given ≡ option_map (map (changed_argument capping)) (passed_if (need_of state bracket) other) → SameReaders (value_group (passing passed word state) opener bracket tree given) (value_group (passing passed word state) opener bracket found other)
value_same passed word state opener bracket tree found given other e f =
    map_same (changed_state capping) (changed_passing capping) (passing passed word) (passing passed word) (at_group state opener bracket tree given) (at_group state opener bracket found other) (λ next behind g. ap (passing (map (changed_argument capping) passed) word) g) (group_read state opener bracket tree found given other e f)

-- what was read inside of a group, as far as it is looked at
pub ahead_read : (begins : Bool) (reader : Passing) (opener : Token) (bracket : Bracket) (tree found : Option Tree) (given other : Option (List Argument)) → tree ≡ option_map capped (tree_if (need_ahead begins reader bracket) found)
    → given ≡ option_map (map (changed_argument capping)) (passed_if (need_ahead begins reader bracket) other) → SameReaders (value_group (ahead begins reader) opener bracket tree given) (value_group (ahead begins reader) opener bracket found other)
ahead_read begins nothing_passed opener bracket tree found given other e f = value_same [] None (wants whole) opener bracket tree found given other e f
ahead_read begins (passes_next passed) opener bracket tree found given other e f = value_same passed None (wants whole) opener bracket tree found given other e f
ahead_read true (symbol_first passed token) opener bracket tree found given other e f = value_same passed (Some token) (wants whole) opener bracket tree found given other e f
ahead_read false (symbol_first passed token) opener bracket tree found given other e f = value_same passed None (has (literal (literals.Symbol token)) whole) opener bracket tree found given other e f
ahead_read begins (passing passed word state) opener bracket tree found given other e f = value_same passed word state opener bracket tree found given other e f
