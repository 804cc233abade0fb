-- Forms are read the same to the limit, whatever stands in the place of trees that are too deep.
use Rattle.std.proofs.Common.{◌≡◌, Bool, true, false, List, [], ◌∷◌, map, Option, Some, None, option_map, option_and_then, refl, ap, ◌∙◌}
use Rattle.dy_tree.specs.declared.token.Token.{Token}
use Rattle.dy_tree.specs.Fragments.{SeenFragment, one, group}
use Rattle.dy_tree.specs.declared.roles.Role.{Role}
use Rattle.dy_tree.specs.declared.roles.Role.TheVariants as roles
use Rattle.dy_tree.specs.declared.splitters.Splitting.TheVariants as splittings
use Rattle.dy_tree.specs.declared.definition_words.DefineWord.{DefineWord}
use Rattle.dy_tree.specs.declared.definition_words.DefineWord.TheVariants as define_words
use Rattle.dy_rules.specs.Types.{TypeTree, TargetTree}
use Rattle.dy_rules.specs.Trees.{Tree, no_tree, some_tree, Key, a_key, KeysTree, Listed}
use Rattle.dy_rules.specs.Roles.{role_of}
use Rattle.dy_rules.specs.Cutting.{NamedFound, Item, Sides, first_cut, Front, headed}
use Rattle.dy_rules.specs.TypeReading.{target_items}
use Rattle.dy_rules.specs.Reading.{expression_items}
use Rattle.dy_rules.specs.Bodies.{is_equals_at}
use Rattle.dy_rules.specs.Signatures.{ResultsFront, results_front, named_items}
use Rattle.dy_rules.specs.Definitions.{define_word_of, is_definition_word, suit_class, suit_function, suit_method, suit_generic, suit_domain, suit_binding}
use Rattle.dy_rules.specs.Forms.{SlotTree, has_no_default, all_without, no_defaults, FormTree, expression_form, class_form, generic_form, domain_form}
use Rattle.dy_rules.specs.FormReading.{WordsFront, words_front, slots_items, class_of, names_inside, class_with, class_headed, class_named, class_at, class_items, method_of_form, function_of_form, if_suits, ended_by, ended_definition, constant_of_form, variable_of_form, bound_with, bound_sides, bound_items_of, generic_of, generic_end, generic_results, generic_if, generic_listed, generic_headed, generic_named, generic_at, generic_items, domain_of, domain_end, domain_headed, domain_named, domain_at, domain_items, flat_by, flat_definition, FormFront, expression_front, group_front, flat_front, form_front, expression_of_form, form_by, form_of}
use Rattle.dy_rules_depth.specs.Changes.{changed_target, changed_key, changed_keys_tree, changed_listed, changed_slot, changed_form}
use Rattle.dy_rules_depth.specs.ReaderChanges.{changed_named, changed_items, changed_item_of, changed_sides, changed_front, changed_results_front, changed_words_front}
use Rattle.dy_rules_depth.specs.Capping.{capped, capped_type, capping}
use Rattle.dy_rules_depth.specs.FormItems.{items_at, form_items}
use Rattle.dy_rules_depth.proofs.Options.{lifted, map_twice, option_twice, map_same, then_same, then_on}
use Rattle.dy_rules_depth.proofs.Twice.{type_twice, listed_twice}
use Rattle.dy_rules_depth.proofs.Rows.{parameters_changed, method_changed}
use Rattle.dy_rules_depth.proofs.CutsSame.{first_cut_changed, headed_changed, Reads}
use Rattle.dy_rules_depth.proofs.TypesSame.{target_same}
use Rattle.dy_rules_depth.proofs.ParametersSame.{results_front_same}
use Rattle.dy_rules_depth.proofs.MethodsSame.{named_same}
use Rattle.dy_rules_depth.proofs.SlotsSame.{words_changed, slots_same}
use Rattle.dy_rules_depth.proofs.Expressions.{expression_same}

abbrev pub SameForm : Option FormTree → Option FormTree → Type 0
SameForm form other = option_map (changed_form capping) form ≡ option_map (changed_form capping) other

if_suits_same : (suits : Bool) (form other : Option FormTree) → SameForm form other → SameForm (if_suits suits form) (if_suits suits other)
if_suits_same true form other e = e
if_suits_same false form other e = refl

fronts_same : (read : Front → Option FormTree) → ((front : Front) → SameForm (read (changed_front capping front)) (read front)) → Reads (changed_form capping) (λ items. option_and_then read (headed items))
fronts_same read h items =
    ap (λ (front : Option Front). option_map (changed_form capping) (option_and_then read front)) (headed_changed capping items) ∙ then_on (changed_front capping) (changed_form capping) read read (headed items) h

-- classes

pub class_of_same : (define : Token) (adjectives : List Token) (token : Token) (superclasses : List Token) (slots others : List SlotTree) → map (changed_slot capping) slots ≡ map (changed_slot capping) others
    → changed_form capping (class_of define adjectives token superclasses slots) ≡ changed_form capping (class_of define adjectives token superclasses others)
class_of_same define adjectives token superclasses slots others e = ap (class_form define adjectives token superclasses) e

module _ (define : Token) (adjectives : List Token) (token : Token) where
  class_with_same : (rest : List Item) (superclasses : List Token) → SameForm (class_with define adjectives token (changed_items capping rest) superclasses) (class_with define adjectives token rest superclasses)
  class_with_same rest superclasses =
      map_same (map (changed_slot capping)) (changed_form capping) (class_of define adjectives token superclasses) (class_of define adjectives token superclasses) (slots_items (changed_items capping rest)) (slots_items rest)
      (class_of_same define adjectives token superclasses) (slots_same rest)

  superclasses_same : (rest : List Item) (names : Option (List Token)) → SameForm (option_and_then (class_with define adjectives token (changed_items capping rest)) names) (option_and_then (class_with define adjectives token rest) names)
  superclasses_same rest None = refl
  superclasses_same rest (Some superclasses) = class_with_same rest superclasses

  class_headed_same : (front : Front) → SameForm (class_headed define adjectives token (changed_front capping front)) (class_headed define adjectives token front)
  class_headed_same front = superclasses_same front.rest (names_inside front.first.fragment)

class_named_same : (role : Role) (define : Token) (adjectives : List Token) (token : Token) → Reads (changed_form capping) (class_named role define adjectives token)
class_named_same roles.Named define adjectives token rest = fronts_same (class_headed define adjectives token) (class_headed_same define adjectives token) rest
class_named_same role define adjectives token rest = refl

class_at_same : (define : Token) (adjectives : List Token) (fragment : SeenFragment) → Reads (changed_form capping) (class_at define adjectives fragment)
class_at_same define adjectives (one token) rest = class_named_same (role_of token) define adjectives token rest
class_at_same define adjectives (group opener inner closer) rest = refl

class_same : (define : Token) (adjectives : List Token) → Reads (changed_form capping) (class_items define adjectives)
class_same define adjectives [] = refl
class_same define adjectives (item ∷ rest) = class_at_same define adjectives item.fragment rest

-- methods and functions

module _ (entry other : NamedFound) (same : changed_named capping entry ≡ changed_named capping other) where
  pub method_of_form_same : (define : Token) (adjectives : List Token) (word : Token) → changed_form capping (method_of_form define adjectives word entry) ≡ changed_form capping (method_of_form define adjectives word other)
  method_of_form_same define adjectives word = let (signature, body) = method_changed entry.method other.method (ap (λ (n : NamedFound). n.method) same) in cc (ap (λ (n : NamedFound). n.token) same)

  pub function_of_form_same : (define : Token) (adjectives : List Token) → changed_form capping (function_of_form define adjectives entry) ≡ changed_form capping (function_of_form define adjectives other)
  function_of_form_same define adjectives = let (signature, body) = method_changed entry.method other.method (ap (λ (n : NamedFound). n.method) same) in cc (ap (λ (n : NamedFound). n.token) same)

-- definitions with an `end`

ended_by_same : (word : DefineWord) (define : Token) (adjectives : List Token) (token : Token) → Reads (changed_form capping) (ended_by word define adjectives token)
ended_by_same define_words.Class define adjectives token rest = if_suits_same (suit_class adjectives) (class_items define adjectives (changed_items capping rest)) (class_items define adjectives rest) (class_same define adjectives rest)
ended_by_same define_words.Method define adjectives token rest =
    if_suits_same (suit_method adjectives) (option_map (method_of_form define adjectives token) (named_items (changed_items capping rest))) (option_map (method_of_form define adjectives token) (named_items rest))
    (map_same (changed_named capping) (changed_form capping) (method_of_form define adjectives token) (method_of_form define adjectives token) (named_items (changed_items capping rest)) (named_items rest) (λ entry other e. method_of_form_same entry other e define adjectives token)
    (named_same rest))
ended_by_same define_words.Function define adjectives token rest =
    if_suits_same (suit_function adjectives) (option_map (function_of_form define adjectives) (named_items (changed_items capping rest))) (option_map (function_of_form define adjectives) (named_items rest))
    (map_same (changed_named capping) (changed_form capping) (function_of_form define adjectives) (function_of_form define adjectives) (named_items (changed_items capping rest)) (named_items rest)
    (λ entry other e. function_of_form_same entry other e define adjectives) (named_same rest))
ended_by_same word define adjectives token rest = refl

pub ended_same : (define : Token) (front : WordsFront) → SameForm (ended_definition define (changed_words_front capping front)) (ended_definition define front)
ended_same define front = ended_by_same (define_word_of front.token) define front.adjectives front.token front.rest

-- constants and variables

module _ (form : TargetTree → Tree → FormTree)
    (same : (target other : TargetTree) → changed_target capping target ≡ changed_target capping other → (tree rest : Tree) → capped tree ≡ capped rest → changed_form capping (form target tree) ≡ changed_form capping (form other rest)) where
  bound_with_same : (after : List Item) (target other : TargetTree) → changed_target capping target ≡ changed_target capping other → SameForm (bound_with form (changed_items capping after) target) (bound_with form after other)
  bound_with_same after target other e = map_same capped (changed_form capping) (form target) (form other) (expression_items splittings.Nothing (changed_items capping after)) (expression_items splittings.Nothing after) (same target other e) (expression_same splittings.Nothing after)

  bound_sides_same : (sides : Sides) → SameForm (bound_sides form (changed_sides capping sides)) (bound_sides form sides)
  bound_sides_same sides =
      then_same (changed_target capping) (changed_form capping) (bound_with form (changed_items capping sides.after)) (bound_with form sides.after) (target_items (changed_items capping sides.before)) (target_items sides.before) (bound_with_same sides.after)
      (target_same sides.before)

  bound_same : Reads (changed_form capping) (bound_items_of form)
  bound_same rest =
      ap (λ (sides : Option Sides). option_map (changed_form capping) (option_and_then (bound_sides form) sides)) (first_cut_changed capping is_equals_at rest)
      ∙ then_on (changed_sides capping) (changed_form capping) (bound_sides form) (bound_sides form) (first_cut is_equals_at rest) bound_sides_same

pub constant_of_same : (define : Token) (target other : TargetTree) → changed_target capping target ≡ changed_target capping other → (tree rest : Tree) → capped tree ≡ capped rest
    → changed_form capping (constant_of_form define target tree) ≡ changed_form capping (constant_of_form define other rest)
constant_of_same define target other e tree rest f = cc

pub variable_of_same : (define : Token) (target other : TargetTree) → changed_target capping target ≡ changed_target capping other → (tree rest : Tree) → capped tree ≡ capped rest
    → changed_form capping (variable_of_form define target tree) ≡ changed_form capping (variable_of_form define other rest)
variable_of_same define target other e tree rest f = cc

-- generic functions

-- whether keys have defaults depends on no tree
default_kept : (key : Key) → has_no_default (changed_key capping key) ≡ has_no_default key
default_kept (a_key label variable no_tree) = refl
default_kept (a_key label variable (some_tree tree)) = refl

without_kept : (keys : List Key) → all_without (map (changed_key capping) keys) ≡ all_without keys
without_kept [] = refl
without_kept (first ∷ rest) = rw (default_kept first, without_kept rest) refl

defaults_on : (keys : Option KeysTree) → no_defaults (option_map (changed_keys_tree capping) keys) ≡ no_defaults keys
defaults_on None = refl
defaults_on (Some found) = without_kept found.keys

pub defaults_kept : (keys others : Option KeysTree) → option_map (changed_keys_tree capping) keys ≡ option_map (changed_keys_tree capping) others → no_defaults keys ≡ no_defaults others
defaults_kept keys others e = lifted (option_map (changed_keys_tree capping)) (λ b. b) no_defaults defaults_on keys others e

module _ (define : Token) (adjectives : List Token) (token : Token) where
  pub generic_of_same : (found other : Listed) → changed_listed capping found ≡ changed_listed capping other → (front more : ResultsFront) → changed_results_front capping front ≡ changed_results_front capping more
      → changed_form capping (generic_of define adjectives token found front) ≡ changed_form capping (generic_of define adjectives token other more)
  generic_of_same found other e front more f = ap (generic_form define adjectives token) (parameters_changed found other front.results more.results e (ap (λ (r : ResultsFront). r.results) f))

  generic_end_same : (found other : Listed) (front more : ResultsFront) (rest items : List Item) → changed_listed capping found ≡ changed_listed capping other → changed_results_front capping front ≡ changed_results_front capping more
      → changed_items capping rest ≡ changed_items capping items → SameForm (generic_end define adjectives token found front rest) (generic_end define adjectives token other more items)
  generic_end_same found other front more [] [] e f g = ap Some (generic_of_same found other e front more f)
  generic_end_same found other front more (item ∷ rest) (next ∷ items) e f g = refl
  generic_end_same found other front more rest items e f g = absurd cc

  generic_results_same : (found other : Listed) → changed_listed capping found ≡ changed_listed capping other → (front more : ResultsFront) → changed_results_front capping front ≡ changed_results_front capping more
      → SameForm (generic_results define adjectives token found front) (generic_results define adjectives token other more)
  generic_results_same found other e front more f = generic_end_same found other front more front.rest more.rest e f (ap (λ (r : ResultsFront). r.rest) f)

  generic_if_same : (is : Bool) (rest : List Item) (found other : Listed) → changed_listed capping found ≡ changed_listed capping other
      → SameForm (generic_if is define adjectives token (changed_items capping rest) found) (generic_if is define adjectives token rest other)
  generic_if_same true rest found other e =
      then_same (changed_results_front capping) (changed_form capping) (generic_results define adjectives token found) (generic_results define adjectives token other) (results_front (changed_items capping rest)) (results_front rest)
      (generic_results_same found other e) (results_front_same rest)
  generic_if_same false rest found other e = refl

  generic_listed_same : (rest : List Item) (found other : Listed) → changed_listed capping found ≡ changed_listed capping other
      → SameForm (generic_listed define adjectives token (changed_items capping rest) found) (generic_listed define adjectives token rest other)
  generic_listed_same rest found other e =
      ap (λ (is : Bool). option_map (changed_form capping) (generic_if is define adjectives token (changed_items capping rest) found)) (defaults_kept found.keys other.keys (ap (λ (l : Listed). l.keys) e))
      ∙ generic_if_same (no_defaults other.keys) rest found other e

  generic_headed_same : (front : Front) → SameForm (generic_headed define adjectives token (changed_front capping front)) (generic_headed define adjectives token front)
  generic_headed_same front =
      then_same (changed_listed capping) (changed_form capping) (generic_listed define adjectives token (changed_items capping front.rest)) (generic_listed define adjectives token front.rest)
      (option_map (changed_listed capping) front.first.found.listed) front.first.found.listed (generic_listed_same front.rest) (option_twice (changed_listed capping) listed_twice front.first.found.listed)

generic_named_same : (role : Role) (define : Token) (adjectives : List Token) (token : Token) → Reads (changed_form capping) (generic_named role define adjectives token)
generic_named_same roles.Named define adjectives token rest = fronts_same (generic_headed define adjectives token) (generic_headed_same define adjectives token) rest
generic_named_same role define adjectives token rest = refl

generic_at_same : (define : Token) (adjectives : List Token) (fragment : SeenFragment) → Reads (changed_form capping) (generic_at define adjectives fragment)
generic_at_same define adjectives (one token) rest = generic_named_same (role_of token) define adjectives token rest
generic_at_same define adjectives (group opener inner closer) rest = refl

generic_same : (define : Token) (adjectives : List Token) → Reads (changed_form capping) (generic_items define adjectives)
generic_same define adjectives [] = refl
generic_same define adjectives (item ∷ rest) = generic_at_same define adjectives item.fragment rest

-- domains

pub domain_of_same : (define token : Token) (types others : List TypeTree) → map capped_type types ≡ map capped_type others → changed_form capping (domain_of define token types) ≡ changed_form capping (domain_of define token others)
domain_of_same define token types others e = ap (domain_form define token) e

domain_end_same : (define token : Token) (first : Item) (rest : List Item) → SameForm (domain_end define token (changed_item_of capping first) (changed_items capping rest)) (domain_end define token first rest)
domain_end_same define token first [] =
    map_same (map capped_type) (changed_form capping) (domain_of define token) (domain_of define token) (option_map (map capped_type) first.found.types) first.found.types (domain_of_same define token)
    (option_twice (map capped_type) (map_twice capped_type type_twice) first.found.types)
domain_end_same define token first (item ∷ rest) = refl

domain_headed_same : (define token : Token) (front : Front) → SameForm (domain_headed define token (changed_front capping front)) (domain_headed define token front)
domain_headed_same define token front = domain_end_same define token front.first front.rest

domain_named_same : (role : Role) (define token : Token) → Reads (changed_form capping) (domain_named role define token)
domain_named_same roles.Named define token rest = fronts_same (domain_headed define token) (domain_headed_same define token) rest
domain_named_same role define token rest = refl

domain_at_same : (define : Token) (fragment : SeenFragment) → Reads (changed_form capping) (domain_at define fragment)
domain_at_same define (one token) rest = domain_named_same (role_of token) define token rest
domain_at_same define (group opener inner closer) rest = refl

domain_same : (define : Token) → Reads (changed_form capping) (domain_items define)
domain_same define [] = refl
domain_same define (item ∷ rest) = domain_at_same define item.fragment rest

-- definitions without an `end`

flat_by_same : (word : DefineWord) (define : Token) (adjectives : List Token) → Reads (changed_form capping) (flat_by word define adjectives)
flat_by_same define_words.Constant define adjectives rest =
    if_suits_same (suit_binding adjectives) (bound_items_of (constant_of_form define) (changed_items capping rest)) (bound_items_of (constant_of_form define) rest) (bound_same (constant_of_form define) (constant_of_same define) rest)
flat_by_same define_words.Variable define adjectives rest =
    if_suits_same (suit_binding adjectives) (bound_items_of (variable_of_form define) (changed_items capping rest)) (bound_items_of (variable_of_form define) rest) (bound_same (variable_of_form define) (variable_of_same define) rest)
flat_by_same define_words.Generic define adjectives rest = if_suits_same (suit_generic adjectives) (generic_items define adjectives (changed_items capping rest)) (generic_items define adjectives rest) (generic_same define adjectives rest)
flat_by_same define_words.Domain define adjectives rest = if_suits_same (suit_domain adjectives) (domain_items define (changed_items capping rest)) (domain_items define rest) (domain_same define rest)
flat_by_same word define adjectives rest = refl

pub flat_same : (define : Token) (front : WordsFront) → SameForm (flat_definition define (changed_words_front capping front)) (flat_definition define front)
flat_same define front = flat_by_same (define_word_of front.token) define front.adjectives front.rest

-- forms

definition_same : (read : WordsFront → Option FormTree) → ((front : WordsFront) → SameForm (read (changed_words_front capping front)) (read front)) → Reads (changed_form capping) (λ items. option_and_then read (words_front is_definition_word items))
definition_same read h items =
    ap (λ (front : Option WordsFront). option_map (changed_form capping) (option_and_then read front)) (words_changed capping is_definition_word items)
    ∙ then_on (changed_words_front capping) (changed_form capping) read read (words_front is_definition_word items) h

pub form_same : (front : FormFront) → Reads (changed_form capping) (form_items front)
form_same expression_front items =
    map_same capped (changed_form capping) expression_of_form expression_of_form (expression_items splittings.Nothing (changed_items capping items)) (expression_items splittings.Nothing items) (λ tree other e. ap expression_form e) (expression_same splittings.Nothing items)
form_same (group_front define inner) items = definition_same (ended_definition define) (ended_same define) items
form_same (flat_front define rest) items = definition_same (flat_definition define) (flat_same define) items

pub form_of_items : (fragments : List SeenFragment) → form_of fragments ≡ form_items (form_front fragments) (items_at (form_front fragments) fragments)
form_of_items fragments = go (form_front fragments)
  where
    go : (front : FormFront) → form_by front fragments ≡ form_items front (items_at front fragments)
    go expression_front = refl
    go (group_front define inner) = refl
    go (flat_front define rest) = refl
