-- Bodies are read the same to the limit, whatever stands in the place of trees that are too deep.
use Rattle.std.proofs.Common.{◌≡◌, Bool, true, false, List, [], ◌∷◌, map, Option, option_map, option_and_then, refl, ap, ◌∙◌}
use Rattle.dy_tree.specs.declared.token.Token.{Token}
use Rattle.dy_tree.specs.Fragments.{SeenFragment, one, group}
use Rattle.dy_tree.specs.declared.brackets.Keyword.TheVariants as keywords
use Rattle.dy_tree.specs.declared.brackets.Bracket.{Bracket}
use Rattle.dy_tree.specs.declared.brackets.Bracket.TheVariants as brackets
use Rattle.dy_tree.specs.declared.splitters.Splitting.{Splitting}
use Rattle.dy_rules.specs.Trees.{ItemTree, expression_item, local_item, LocalMethod}
use Rattle.dy_rules.specs.Types.{TypeTree, TargetTree, binds_plainly}
use Rattle.dy_rules.specs.TypeReading.{type_items, target_items}
use Rattle.dy_rules.specs.Roles.{bracket_of}
use Rattle.dy_rules.specs.Cutting.{Item, is_semicolon, cut, each, without_end, Sides, first_cut, fragments_in, NamedFound}
use Rattle.dy_rules.specs.Reading.{expression_items}
use Rattle.dy_rules.specs.Arguments.{is_comma_fragment}
use Rattle.dy_rules.specs.Bodies.{ItemFront, let_front, local_front, other_front, front_of_item, is_equals_at, is_handler, let_of, handler_of, let_with, handler_with, bound_at, bound_from, let_if, let_sides, method_tree_of, method_in, method_at, method_alone, local_of, item_by, item_items, nonempty_body, body_items}
use Rattle.dy_rules_depth.specs.Changes.{changed_target, changed_item, changed_method}
use Rattle.dy_rules_depth.specs.ReaderChanges.{changed_sides, changed_named, changed_item_of, changed_items}
use Rattle.dy_rules_depth.specs.Capping.{capped, capped_type, capping}
use Rattle.dy_rules_depth.proofs.Options.{option_twice, map_same, then_same, then_on}
use Rattle.dy_rules_depth.proofs.Twice.{named_twice}
use Rattle.dy_rules_depth.proofs.Rows.{methods_changed, method_changed}
use Rattle.dy_rules_depth.proofs.CutsSame.{fragments_changed, without_end_changed, first_cut_changed, Reads, each_cut_same}
use Rattle.dy_rules_depth.proofs.TypesSame.{type_same, target_same}
use Rattle.dy_rules_depth.proofs.Expressions.{expression_same}

abbrev pub SameItemTree : Option ItemTree → Option ItemTree → Type 0
SameItemTree item other = option_map (changed_item capping) item ≡ option_map (changed_item capping) other

-- bindings

let_with_same : (words : Splitting) (word : Token) (after : List Item) (target other : TargetTree) → changed_target capping target ≡ changed_target capping other → SameItemTree (let_with words word (changed_items capping after) target) (let_with words word after other)
let_with_same words word after target other e =
    map_same capped (changed_item capping) (let_of word target) (let_of word other) (expression_items words (changed_items capping after)) (expression_items words after) (λ tree rest f. cc) (expression_same words after)

handler_with_same : (words : Splitting) (word : Token) (after : List Item) (condition other : TypeTree) → capped_type condition ≡ capped_type other → SameItemTree (handler_with words word (changed_items capping after) condition) (handler_with words word after other)
handler_with_same words word after condition other e =
    map_same capped (changed_item capping) (handler_of word condition) (handler_of word other) (expression_items words (changed_items capping after)) (expression_items words after) (λ tree rest f. cc) (expression_same words after)

bound_at_same : (is : Bool) (words : Splitting) (word : Token) (item : Item) (rest after : List Item)
    → SameItemTree (bound_at is words word (changed_item_of capping item) (changed_items capping rest) (changed_items capping after)) (bound_at is words word item rest after)
bound_at_same true words word item rest after =
    then_same capped_type (changed_item capping) (handler_with words word (changed_items capping after)) (handler_with words word after) (type_items (changed_items capping rest)) (type_items rest) (handler_with_same words word after) (type_same rest)
bound_at_same false words word item rest after =
    then_same (changed_target capping) (changed_item capping) (let_with words word (changed_items capping after)) (let_with words word after) (target_items (changed_items capping (item ∷ rest))) (target_items (item ∷ rest))
    (let_with_same words word after) (target_same (item ∷ rest))

bound_from_same : (words : Splitting) (word : Token) (before after : List Item) → SameItemTree (bound_from words word (changed_items capping before) (changed_items capping after)) (bound_from words word before after)
bound_from_same words word [] after = refl
bound_from_same words word (item ∷ rest) after = bound_at_same (is_handler item.fragment) words word item rest after

let_if_same : (is : Bool) (words : Splitting) (word : Token) (sides : Sides) → SameItemTree (let_if is words word (changed_sides capping sides)) (let_if is words word sides)
let_if_same true words word sides = bound_from_same words word sides.before sides.after
let_if_same false words word sides = refl

let_sides_same : (words : Splitting) (word : Token) (sides : Sides) → SameItemTree (let_sides words word (changed_sides capping sides)) (let_sides words word sides)
let_sides_same words word sides =
    ap (λ (fragments : List SeenFragment). option_map (changed_item capping) (let_if (binds_plainly words fragments) words word (changed_sides capping sides))) (fragments_changed capping sides.before)
    ∙ let_if_same (binds_plainly words (fragments_in sides.before)) words word sides

-- methods

pub method_tree_same : (word : Token) (named other : NamedFound) → changed_named capping named ≡ changed_named capping other → changed_method capping (method_tree_of word named) ≡ changed_method capping (method_tree_of word other)
method_tree_same word named other e = let (signature, body) = method_changed named.method other.method (ap (λ (n : NamedFound). n.method) e) in cc (ap (λ (n : NamedFound). n.token) e)

abbrev SameNamed : Option NamedFound → Option NamedFound → Type 0
SameNamed named other = option_map (changed_named capping) named ≡ option_map (changed_named capping) other

abbrev SameMethod : Option LocalMethod → Option LocalMethod → Type 0
SameMethod method other = option_map (changed_method capping) method ≡ option_map (changed_method capping) other

pub method_in_same : (bracket : Bracket) (word : Token) (named other : Option NamedFound) → SameNamed named other → SameMethod (method_in bracket word named) (method_in bracket word other)
method_in_same (brackets.Statement keywords.Method) word named other e = map_same (changed_named capping) (changed_method capping) (method_tree_of word) (method_tree_of word) named other (method_tree_same word) e
method_in_same bracket word named other e = refl

pub method_at_same : (fragment : SeenFragment) (named other : Option NamedFound) → SameNamed named other → SameMethod (method_at fragment named) (method_at fragment other)
method_at_same (one token) named other e = refl
method_at_same (group opener inner closer) named other e = method_in_same (bracket_of opener closer) opener named other e

method_alone_same : Reads (changed_method capping) method_alone
method_alone_same [] = refl
method_alone_same (item ∷ []) = method_at_same item.fragment (option_map (changed_named capping) item.found.named_method) item.found.named_method (option_twice (changed_named capping) named_twice item.found.named_method)
method_alone_same (item ∷ second ∷ rest) = refl

pub local_same : (word : Token) (methods others : List LocalMethod) → map (changed_method capping) methods ≡ map (changed_method capping) others → changed_item capping (local_of word methods) ≡ changed_item capping (local_of word others)
local_same word methods others e = ap (local_item word) (methods_changed methods others e)

-- items and bodies

item_by_same : (front : ItemFront) (words : Splitting) (item : Item) (rest : List Item) → SameItemTree (item_by front words (changed_item_of capping item) (changed_items capping rest)) (item_by front words item rest)
item_by_same (let_front word) words item rest =
    ap (λ (sides : Option Sides). option_map (changed_item capping) (option_and_then (let_sides words word) sides)) (first_cut_changed capping is_equals_at rest)
    ∙ then_on (changed_sides capping) (changed_item capping) (let_sides words word) (let_sides words word) (first_cut is_equals_at rest) (let_sides_same words word)
item_by_same (local_front word) words item rest =
    map_same (map (changed_method capping)) (changed_item capping) (local_of word) (local_of word) (each method_alone (cut is_comma_fragment false (changed_items capping rest))) (each method_alone (cut is_comma_fragment false rest))
    (local_same word) (each_cut_same (changed_method capping) method_alone method_alone_same is_comma_fragment false rest)
item_by_same other_front words item rest =
    map_same capped (changed_item capping) expression_item expression_item (expression_items words (changed_items capping (item ∷ rest))) (expression_items words (item ∷ rest)) (λ tree other e. ap expression_item e) (expression_same words (item ∷ rest))

pub item_items_same : (words : Splitting) → Reads (changed_item capping) (item_items words)
item_items_same words [] = refl
item_items_same words (item ∷ rest) = item_by_same (front_of_item item.fragment) words item rest

nonempty_same : (words : Splitting) → Reads (map (changed_item capping)) (nonempty_body words)
nonempty_same words [] = refl
nonempty_same words (first ∷ rest) = each_cut_same (changed_item capping) (item_items words) (item_items_same words) is_semicolon false (first ∷ rest)

pub body_same : (words : Splitting) → Reads (map (changed_item capping)) (body_items words)
body_same words items = ap (λ (ended : List Item). option_map (map (changed_item capping)) (nonempty_body words ended)) (without_end_changed capping items) ∙ nonempty_same words (without_end items)
