-- Types, variables and targets are read the same to the limit, whatever stands in the place of those that are too deep.
use Rattle.std.proofs.Common.{◌≡◌, ℕ, Bool, true, false, List, [], ◌∷◌, codes, map, Option, Some, None, option_map, refl, sym, ap, ◌∙◌}
use Rattle.dy_tree.specs.declared.token.Token.{Token}
use Rattle.dy_tree.specs.Fragments.{SeenFragment, one, group, SeenFragments, no_fragment, fragment_and}
use Rattle.dy_tree.specs.declared.roles.Role.{Role}
use Rattle.dy_tree.specs.declared.roles.Role.TheVariants as roles
use Rattle.dy_tree.specs.declared.brackets.Bracket.{Bracket}
use Rattle.dy_tree.specs.declared.brackets.Bracket.TheVariants as brackets
use Rattle.dy_tree.specs.declared.type_words.TypeWord.{TypeWord}
use Rattle.dy_tree.specs.declared.type_words.TypeWord.TheVariants as type_words
use Rattle.dy_rules.specs.Roles.{role_of, bracket_of}
use Rattle.dy_rules.specs.Arguments.{is_comma_fragment}
use Rattle.dy_rules.specs.Types.{TypeTree, named_type, types_of, type_word, VariableTree, TargetTree, one_target}
use Rattle.dy_rules.specs.Cutting.{Limits, Ending, Found, Item, Pieces, cut}
use Rattle.dy_rules.specs.TypeReading.{bound_in, bound_items, limits_pieces, limits_items, TypeFront, in_front, name_front, union_of, limited_of, form_type, word_front, group_front, front_behind, type_from, type_named, type_at, type_front, if_whole, whole_type, type_items, types_items, VariableFront, untyped_front, typed_front, is_colons, variable_if, variable_from, variable_named, variable_at, variable_front, whole_variable, variable_items, marked, name_in, name_items, bind_items, several_of, target_in, target_group, target_one, target_if, target_items}
use Rattle.dy_rules_depth.specs.Changes.{changed_variable, changed_target}
use Rattle.dy_rules_depth.specs.ReaderChanges.{changed_ending, changed_bound, changed_found, changed_item_of, changed_items, changed_type_front, changed_variable_front}
use Rattle.dy_rules_depth.specs.Capping.{capped_type, capping}
use Rattle.dy_rules_depth.proofs.Options.{map_twice, option_twice, map_same, then_same}
use Rattle.dy_rules_depth.proofs.Twice.{type_twice, bound_twice, items_twice}
use Rattle.dy_rules_depth.proofs.SameNodes.{same_union}
use Rattle.dy_rules_depth.proofs.Rows.{types_changed}
use Rattle.dy_rules_depth.proofs.CutsSame.{fragments_changed, cut_changed, each_other_kept, Reads, each_cut_same, ending_cut_same}

-- the bounds of a limited type, which hold no tree

bounds_kept : (items : List Item) → bound_items (changed_items capping items) ≡ bound_items items
bounds_kept items = ap bound_in (fragments_changed capping items)

pub limits_kept : (items : List Item) → limits_items (changed_items capping items) ≡ limits_items items
limits_kept items =
    let pieces : Pieces = cut is_comma_fragment false items in
    ap limits_pieces (cut_changed capping is_comma_fragment false items)
    ∙ cc (fragments_changed capping pieces.first, each_other_kept capping bound_items bounds_kept pieces.others)

-- a type at the front

abbrev pub SameTypes : Option (List TypeTree) → Option (List TypeTree) → Type 0
SameTypes types others = option_map (map capped_type) types ≡ option_map (map capped_type) others

types_twice : (types : Option (List TypeTree)) → SameTypes (option_map (map capped_type) types) types
types_twice types = option_twice (map capped_type) (map_twice capped_type type_twice) types

pub union_same : (word : Token) (types others : List TypeTree) → map capped_type types ≡ map capped_type others → capped_type (union_of word types) ≡ capped_type (union_of word others)
union_same word types others e = same_union word (types_of types) (types_of others) (types_changed types others e)

pub form_type_same : (form : TypeWord) (word : Token) (inner : SeenFragments) (found other : Found) → SameTypes found.types other.types → found.limits ≡ other.limits
    → option_map capped_type (form_type form word inner found) ≡ option_map capped_type (form_type form word inner other)
form_type_same type_words.Singleton word inner found other e f = refl
form_type_same type_words.Union word inner found other e f = map_same (map capped_type) capped_type (union_of word) (union_of word) found.types other.types (union_same word) e
form_type_same type_words.Limited word inner found other e f = ap (λ (limits : Option Limits). option_map capped_type (option_map (limited_of word) limits)) f
form_type_same type_words.Absent word inner found other e f = refl

abbrev SameTypeFront : Option TypeFront → Option TypeFront → Type 0
SameTypeFront front other = option_map (changed_type_front capping) front ≡ option_map (changed_type_front capping) other

name_front_same : (word : Token) (items : List Item) → SameTypeFront (name_front word (changed_items capping items)) (name_front word items)
name_front_same word items = ap (λ (rest : List Item). Some (in_front rest (capped_type (named_type word)))) (items_twice items)

in_front_same : (items : List Item) (type other : TypeTree) → capped_type type ≡ capped_type other → changed_type_front capping (in_front (changed_items capping items) type) ≡ changed_type_front capping (in_front items other)
in_front_same items type other e = cc (items_twice items)

form_front_same : (form : TypeWord) (word : Token) (inner : SeenFragments) (item : Item) (rest : List Item)
    → SameTypeFront (option_map (in_front (changed_items capping rest)) (form_type form word inner (changed_found capping item.found))) (option_map (in_front rest) (form_type form word inner item.found))
form_front_same form word inner item rest =
    map_same capped_type (changed_type_front capping) (in_front (changed_items capping rest)) (in_front rest) (form_type form word inner (changed_found capping item.found)) (form_type form word inner item.found) (in_front_same rest)
    (form_type_same form word inner (changed_found capping item.found) item.found (types_twice item.found.types) refl)

word_front_same : (form : TypeWord) (word : Token) (inner : SeenFragments) (item : Item) (rest : List Item) → SameTypeFront (word_front form word inner (changed_item_of capping item) (changed_items capping rest)) (word_front form word inner item rest)
word_front_same type_words.Absent word inner item rest = name_front_same word (item ∷ rest)
word_front_same type_words.Singleton word inner item rest = form_front_same type_words.Singleton word inner item rest
word_front_same type_words.Union word inner item rest = form_front_same type_words.Union word inner item rest
word_front_same type_words.Limited word inner item rest = form_front_same type_words.Limited word inner item rest

group_front_same : (bracket : Bracket) (word : Token) (inner : SeenFragments) (item : Item) (rest : List Item) → SameTypeFront (group_front bracket word inner (changed_item_of capping item) (changed_items capping rest)) (group_front bracket word inner item rest)
group_front_same brackets.Round word inner item rest = word_front_same (type_word word) word inner item rest
group_front_same bracket word inner item rest = name_front_same word (item ∷ rest)

front_behind_same : (word : Token) (fragment : SeenFragment) (item : Item) (rest : List Item) → SameTypeFront (front_behind word fragment (changed_item_of capping item) (changed_items capping rest)) (front_behind word fragment item rest)
front_behind_same word (one token) item rest = name_front_same word (item ∷ rest)
front_behind_same word (group opener inner closer) item rest = group_front_same (bracket_of opener closer) word inner item rest

type_from_same : (word : Token) (items : List Item) → SameTypeFront (type_from word (changed_items capping items)) (type_from word items)
type_from_same word [] = refl
type_from_same word (item ∷ rest) = front_behind_same word item.fragment item rest

type_named_same : (role : Role) (word : Token) (items : List Item) → SameTypeFront (type_named role word (changed_items capping items)) (type_named role word items)
type_named_same roles.Named word items = type_from_same word items
type_named_same role word items = refl

type_at_same : (fragment : SeenFragment) (rest : List Item) → SameTypeFront (type_at fragment (changed_items capping rest)) (type_at fragment rest)
type_at_same (one word) rest = type_named_same (role_of word) word rest
type_at_same (group opener inner closer) rest = refl

pub type_front_same : (items : List Item) → SameTypeFront (type_front (changed_items capping items)) (type_front items)
type_front_same [] = refl
type_front_same (item ∷ rest) = type_at_same item.fragment rest

pub if_whole_same : {A : Type 0} (on : A → A) (found other : A) (rest more : List Item) → on found ≡ on other → changed_items capping rest ≡ changed_items capping more → option_map on (if_whole found rest) ≡ option_map on (if_whole other more)
if_whole_same on found other [] [] e f = ap Some e
if_whole_same on found other (item ∷ rest) (next ∷ more) e f = refl
if_whole_same on found other rest more e f = absurd cc

whole_type_same : (front other : TypeFront) → changed_type_front capping front ≡ changed_type_front capping other → option_map capped_type (whole_type front) ≡ option_map capped_type (whole_type other)
whole_type_same front other e = if_whole_same capped_type front.type other.type front.rest other.rest (ap (λ (f : TypeFront). f.type) e) (ap (λ (f : TypeFront). f.rest) e)

pub type_same : Reads capped_type type_items
type_same items = then_same (changed_type_front capping) capped_type whole_type whole_type (type_front (changed_items capping items)) (type_front items) whole_type_same (type_front_same items)

pub types_same : Reads (map capped_type) types_items
types_same items = each_cut_same capped_type type_items type_same is_comma_fragment false items

-- a variable at the front

abbrev SameVariableFront : Option VariableFront → Option VariableFront → Type 0
SameVariableFront front other = option_map (changed_variable_front capping) front ≡ option_map (changed_variable_front capping) other

untyped_same : (token : Token) (items : List Item) → SameVariableFront (Some (untyped_front token (changed_items capping items))) (Some (untyped_front token items))
untyped_same token items = ap (λ (rest : List Item). Some (untyped_front token rest)) (items_twice items)

variable_if_same : (is : Bool) (token : Token) (item : Item) (rest : List Item) → SameVariableFront (variable_if is token (changed_item_of capping item) (changed_items capping rest)) (variable_if is token item rest)
variable_if_same true token item rest =
    map_same (changed_type_front capping) (changed_variable_front capping) (typed_front token) (typed_front token) (type_front (changed_items capping rest)) (type_front rest) (λ front other e. ap (typed_front token) e) (type_front_same rest)
variable_if_same false token item rest = untyped_same token (item ∷ rest)

variable_from_same : (token : Token) (items : List Item) → SameVariableFront (variable_from token (changed_items capping items)) (variable_from token items)
variable_from_same token [] = refl
variable_from_same token (item ∷ rest) = variable_if_same (is_colons item.fragment) token item rest

variable_named_same : (role : Role) (token : Token) (items : List Item) → SameVariableFront (variable_named role token (changed_items capping items)) (variable_named role token items)
variable_named_same roles.Named token items = variable_from_same token items
variable_named_same role token items = refl

variable_at_same : (fragment : SeenFragment) (rest : List Item) → SameVariableFront (variable_at fragment (changed_items capping rest)) (variable_at fragment rest)
variable_at_same (one token) rest = variable_named_same (role_of token) token rest
variable_at_same (group opener inner closer) rest = refl

pub variable_front_same : (items : List Item) → SameVariableFront (variable_front (changed_items capping items)) (variable_front items)
variable_front_same [] = refl
variable_front_same (item ∷ rest) = variable_at_same item.fragment rest

whole_variable_same : (front other : VariableFront) → changed_variable_front capping front ≡ changed_variable_front capping other → option_map (changed_variable capping) (whole_variable front) ≡ option_map (changed_variable capping) (whole_variable other)
whole_variable_same front other e =
    if_whole_same (changed_variable capping) front.variable other.variable front.rest other.rest (ap (λ (f : VariableFront). f.variable) e) (ap (λ (f : VariableFront). f.rest) e)

pub variable_same : Reads (changed_variable capping) variable_items
variable_same items =
    then_same (changed_variable_front capping) (changed_variable capping) whole_variable whole_variable (variable_front (changed_items capping items)) (variable_front items) whole_variable_same (variable_front_same items)

-- targets

pub marked_kept : (text : List ℕ) (items : List Item) → marked text (changed_items capping items) ≡ marked text items
marked_kept text [] = refl
marked_kept text (item ∷ rest) = refl

pub names_kept : (items : List Item) → name_items (changed_items capping items) ≡ name_items items
names_kept items = ap name_in (fragments_changed capping items)

bound_is : (bound : Ending VariableTree Token) → changed_ending (changed_variable capping) (λ token. token) bound ≡ changed_bound capping bound
bound_is bound = go bound.parts bound.last
  where
    go : (parts : List VariableTree) (last : Option Token)
        → changed_ending (changed_variable capping) (λ token. token) (record { parts = parts; last = last }) ≡ changed_bound capping (record { parts = parts; last = last })
    go parts None = refl
    go parts (Some last) = refl

bounds_are : (found : Option (Ending VariableTree Token)) → option_map (changed_ending (changed_variable capping) (λ token. token)) found ≡ option_map (changed_bound capping) found
bounds_are None = refl
bounds_are (Some bound) = ap Some (bound_is bound)

pub bind_same : Reads (changed_bound capping) bind_items
bind_same items =
    sym (bounds_are (bind_items (changed_items capping items)))
    ∙ ending_cut_same (changed_variable capping) (λ token. token) (marked (codes "#rest")) variable_items name_items (marked_kept (codes "#rest")) variable_same (λ others. ap (option_map (λ token. token)) (names_kept others)) is_comma_fragment false items
    ∙ bounds_are (bind_items items)

abbrev SameBound : Option (Ending VariableTree Token) → Option (Ending VariableTree Token) → Type 0
SameBound bound other = option_map (changed_bound capping) bound ≡ option_map (changed_bound capping) other

abbrev SameTarget : Option TargetTree → Option TargetTree → Type 0
SameTarget target other = option_map (changed_target capping) target ≡ option_map (changed_target capping) other

pub several_same : (bound other : Ending VariableTree Token) → changed_bound capping bound ≡ changed_bound capping other → changed_target capping (several_of bound) ≡ changed_target capping (several_of other)
several_same bound other e = ap several_of e

pub target_in_same : (bracket : Bracket) (inner : SeenFragments) (bound other : Option (Ending VariableTree Token)) → SameBound bound other → SameTarget (target_in bracket inner bound) (target_in bracket inner other)
target_in_same brackets.Round no_fragment bound other e = refl
target_in_same brackets.Round (fragment_and first rest) bound other e = map_same (changed_bound capping) (changed_target capping) several_of several_of bound other several_same e
target_in_same bracket inner bound other e = refl

target_group_same : (fragment : SeenFragment) (found : Found) → SameTarget (target_group fragment (changed_found capping found)) (target_group fragment found)
target_group_same (one token) found = refl
target_group_same (group opener inner closer) found = target_in_same (bracket_of opener closer) inner (option_map (changed_bound capping) found.bound) found.bound (option_twice (changed_bound capping) bound_twice found.bound)

target_one_same : (item : Item) (rest : List Item) → SameTarget (target_one (changed_item_of capping item) (changed_items capping rest)) (target_one item rest)
target_one_same item rest =
    map_same (changed_variable capping) (changed_target capping) one_target one_target (variable_items (changed_items capping (item ∷ rest))) (variable_items (item ∷ rest)) (λ variable other e. ap one_target e) (variable_same (item ∷ rest))

target_if_same : (found other : Option TargetTree) (item : Item) (rest : List Item) → SameTarget found other → SameTarget (target_if found (changed_item_of capping item) (changed_items capping rest)) (target_if other item rest)
target_if_same None None item rest e = target_one_same item rest
target_if_same (Some target) (Some other) item [] e = e
target_if_same (Some target) (Some other) item (next ∷ rest) e = target_one_same item (next ∷ rest)
target_if_same found other item rest e = absurd cc

pub target_same : Reads (changed_target capping) target_items
target_same [] = refl
target_same (item ∷ rest) = target_if_same (target_group item.fragment (changed_found capping item.found)) (target_group item.fragment item.found) item rest (target_group_same item.fragment item.found)
