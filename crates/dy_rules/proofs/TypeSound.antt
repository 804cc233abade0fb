-- What is read as a type or as a variable is one.
use Rattle.std.proofs.Common.{◌≡◌, ℕ, Bool, true, false, List, [], ◌∷◌, ◌++◌, codes, Option, Some, None, option_map, refl, sym, ap, subst, ◌∙◌, not, ◌&&◌}
use Rattle.std.proofs.lemmas.List.{append-nil}
use Rattle.dy_tree.specs.declared.token.Token.{Token}
use Rattle.dy_tree.specs.declared.types.IntegerForm.{IntegerForm}
use Rattle.dy_tree.specs.declared.types.LiteralForm.{LiteralForm}
use Rattle.dy_tree.specs.Fragments.{SeenFragment, one, group, SeenFragments, no_fragment, fragment_and, row}
use Rattle.dy_tree.specs.declared.roles.Role.{Role}
use Rattle.dy_tree.specs.declared.roles.Role.TheVariants as roles
use Rattle.dy_tree.specs.declared.brackets.Bracket.{Bracket}
use Rattle.dy_tree.specs.declared.brackets.Bracket.TheVariants as brackets
use Rattle.dy_tree.specs.declared.type_words.TypeWord.{TypeWord}
use Rattle.dy_tree.specs.declared.type_words.TypeWord.TheVariants as type_words
use Rattle.dy_tree.specs.Spelling.{is_spelled}
use Rattle.dy_rules.specs.Roles.{role_of, bracket_of}
use Rattle.dy_rules.specs.Constants.{token_literal, one_token, negative_integer}
use Rattle.dy_rules.specs.Arguments.{is_comma, is_comma_fragment}
use Rattle.dy_rules.specs.Types.{is_mark, Single, literal_single, IsSingle, of_literal, of_empty_list, of_name, Bound, is_bound, IsInteger, plain_number, negative_number, each_once, AreBounds, no_bound, bound_and, TypeTree, singleton_type, type_word, a_type, some_types, IsType, by_name, by_singleton, by_union, by_limits, one_type, more_types, is_round, begins_round, is_type_word, takes_brackets, VariableTree, IsVariable, untyped, typed, Bind, last_bound, rest_bound, more_bound, TargetTree, one_target, IsTarget, by_variable, by_nothing, by_brackets, is_colons_role, variable_apart, begins_with}
use Rattle.dy_rules.specs.Cutting.{Limits, Ending, Found, Item, Piece, Pieces, cut, each_other, fragments_in}
use Rattle.dy_rules.specs.TypeReading.{single_token, negative_single, single_group, single_in, plain_integer, negative_integer_of, integer_in, bound_of, bound_if, bound_in, bound_items, is_integer_class, limits_of, limits_if, limits_in, bounds_in, limits_items, TypeFront, in_front, name_front, union_of, limited_of, form_type, word_front, group_front, front_behind, type_from, type_named, type_at, type_front, if_whole, whole_type, type_items, types_items, VariableFront, untyped_front, typed_front, is_colons, variable_if, variable_from, variable_named, variable_at, variable_front, whole_variable, variable_items, is_marked, marked, named_token, name_in, name_items, bind_items, several_of, target_in, target_group, target_one, target_if, target_items}
use Rattle.dy_rules.proofs.Lists.{some_one, map_some, then_some, passes_sound}
use Rattle.dy_rules.proofs.Sound.{LimitsAre, InsideSound, ItemSound, ItemsSound, GroupSound}
use Rattle.dy_rules.proofs.Cuts.{Row, row_sound, with_both, behind_in, Separates, cut_sound, EndRow, end_row_sound}

abbrev Fragments : Type 0
Fragments = List SeenFragment

pub comma_is : (role : Role) → is_comma role ≡ true → role ≡ roles.Comma
comma_is roles.Comma e = refl
comma_is role e = absurd cc

single_token_sound : (role : Role) (token : Token) (single : Single) → role_of token ≡ role → single_token role token ≡ Some single → IsSingle single (one token ∷ [])
single_token_sound roles.Named token single is e = subst (λ (s : Single). IsSingle s (one token ∷ [])) (some_one _ _ e) (of_name token is)
single_token_sound role token single is e = go (token_literal role token) refl e
  where
    go : (found : Option LiteralForm) → token_literal role token ≡ found → option_map literal_single found ≡ Some single → IsSingle single (one token ∷ [])
    go None f g = absurd cc
    go (Some form) f g = subst (λ (s : Single). IsSingle s (one token ∷ [])) (some_one _ _ g) (of_literal form (one token ∷ []) (one_token token form (rw is f)))

negative_single_sound : (first second : Role) (sign digits : Token) (single : Single) → role_of sign ≡ first → role_of digits ≡ second → negative_single first second sign digits ≡ Some single → IsSingle single (one sign ∷ one digits ∷ [])
negative_single_sound roles.Minus roles.Integer sign digits single is also e = subst (λ (s : Single). IsSingle s (one sign ∷ one digits ∷ [])) (some_one _ _ e) (of_literal _ (one sign ∷ one digits ∷ []) (negative_integer sign digits is also))
negative_single_sound first second sign digits single is also e = absurd cc

single_group_sound : (bracket : Bracket) (opener : Token) (inner : SeenFragments) (closer : Token) (single : Single) → bracket_of opener closer ≡ bracket → single_group bracket inner opener ≡ Some single → IsSingle single (group opener inner closer ∷ [])
single_group_sound brackets.SharpRound opener no_fragment closer single is e = subst (λ (s : Single). IsSingle s (group opener no_fragment closer ∷ [])) (some_one _ _ e) (of_empty_list opener closer is)
single_group_sound brackets.SharpRound opener (fragment_and first rest) closer single is e = absurd cc
single_group_sound bracket opener inner closer single is e = absurd cc

pub single_sound : (fragments : Fragments) (single : Single) → single_in fragments ≡ Some single → IsSingle single fragments
single_sound [] single e = absurd cc
single_sound (one token ∷ []) single e = single_token_sound (role_of token) token single refl e
single_sound (group opener inner closer ∷ []) single e = single_group_sound (bracket_of opener closer) opener inner closer single refl e
single_sound (one sign ∷ one digits ∷ []) single e = negative_single_sound (role_of sign) (role_of digits) sign digits single refl refl e
single_sound (one sign ∷ group opener inner closer ∷ []) single e = absurd cc
single_sound (group opener inner closer ∷ second ∷ rest) single e = absurd cc
single_sound (one first ∷ one second ∷ third ∷ rest) single e = absurd cc
single_sound (one first ∷ group opener inner closer ∷ third ∷ rest) single e = absurd cc

plain_sound : (role : Role) (digits : Token) (number : IntegerForm) → role_of digits ≡ role → plain_integer role digits ≡ Some number → IsInteger number (one digits ∷ [])
plain_sound roles.Integer digits number is e = subst (λ (n : IntegerForm). IsInteger n (one digits ∷ [])) (some_one _ _ e) (plain_number digits is)
plain_sound role digits number is e = absurd cc

negative_sound : (first second : Role) (sign digits : Token) (number : IntegerForm) → role_of sign ≡ first → role_of digits ≡ second → negative_integer_of first second sign digits ≡ Some number → IsInteger number (one sign ∷ one digits ∷ [])
negative_sound roles.Minus roles.Integer sign digits number is also e = subst (λ (n : IntegerForm). IsInteger n (one sign ∷ one digits ∷ [])) (some_one _ _ e) (negative_number sign digits is also)
negative_sound first second sign digits number is also e = absurd cc

integer_sound : (fragments : Fragments) (number : IntegerForm) → integer_in fragments ≡ Some number → IsInteger number fragments
integer_sound [] number e = absurd cc
integer_sound (one digits ∷ []) number e = plain_sound (role_of digits) digits number refl e
integer_sound (one sign ∷ one digits ∷ []) number e = negative_sound (role_of sign) (role_of digits) sign digits number refl refl e
integer_sound (one sign ∷ group opener inner closer ∷ []) number e = absurd cc
integer_sound (one first ∷ one second ∷ third ∷ rest) number e = absurd cc
integer_sound (one first ∷ group opener inner closer ∷ third ∷ rest) number e = absurd cc
integer_sound (group opener inner closer ∷ rest) number e = absurd cc

pub comma_token : (fragment : SeenFragment) → is_comma_fragment fragment ≡ true → (token : Token) × (fragment ≡ one token) × (role_of token ≡ roles.Comma)
comma_token (one token) e = (token, refl, comma_is (role_of token) e)
comma_token (group opener inner closer) e = absurd cc

bound_if_sound : (is : Bool) (keyword : Token) (digits : Fragments) (bound : Bound) → is_bound keyword ≡ is → bound_if is keyword digits ≡ Some bound → (number : IntegerForm) × (bound ≡ bound_of keyword number) × (is_bound keyword ≡ true) × IsInteger number digits
bound_if_sound true keyword digits bound is e = let (number, found, same) = map_some (bound_of keyword) (integer_in digits) bound e in (number, same, is, integer_sound digits number found)
bound_if_sound false keyword digits bound is e = absurd cc

bound_sound : (fragments : Fragments) (bound : Bound) → bound_in fragments ≡ Some bound → (keyword : Token) × (digits : Fragments) × (number : IntegerForm) × (fragments ≡ one keyword ∷ digits) × (bound ≡ bound_of keyword number) × (is_bound keyword ≡ true) × IsInteger number digits
bound_sound [] bound e = absurd cc
bound_sound (group opener inner closer ∷ rest) bound e = absurd cc
bound_sound (one keyword ∷ digits) bound e = let (number, same, is, h) = bound_if_sound (is_bound keyword) keyword digits bound refl e in (keyword, digits, number, refl, same, is, h)

one_more_bound : (token keyword : Token) (number : IntegerForm) (bound : Bound) (rest bounds : List Bound) (separator : SeenFragment) (within digits after : Fragments) → separator ≡ one token → role_of token ≡ roles.Comma → within ≡ one keyword ∷ digits → is_bound keyword ≡ true
    → bound ≡ bound_of keyword number → bounds ≡ bound ∷ rest → IsInteger number digits → AreBounds rest after → AreBounds bounds (separator ∷ (within ++ after))
one_more_bound token keyword number bound rest bounds separator within digits after is role parts key_is bound_is same n h =
    rw (same, bound_is, is, parts) (bound_and token keyword number rest digits after (one token ∷ one keyword ∷ (digits ++ after)) refl role key_is n h)

bounds_sound : (others : List Piece) (bounds : List Bound) → Separates is_comma_fragment others → each_other bound_items others ≡ Some bounds → AreBounds bounds (behind_in others)
bounds_sound [] bounds h e = subst (λ (b : List Bound). AreBounds b []) (some_one _ _ e) no_bound
bounds_sound (piece ∷ others) bounds (separating, h, k) e =
    let (bound, rest, is, more, same) = with_both (bound_items piece.items) (each_other bound_items others) bounds e in
    let (keyword, digits, number, parts, bound_is, key_is, n) = bound_sound (fragments_in piece.items) bound is in
    let (token, comma_one, role) = comma_token piece.separator separating in
    one_more_bound token keyword number bound rest bounds piece.separator (fragments_in piece.items) digits (behind_in others) comma_one role parts key_is bound_is same n (bounds_sound others rest k more)

class_named : (role : Role) (class : Token) → is_integer_class role class ≡ true → (role ≡ roles.Named) × (is_spelled (codes "<integer>") class ≡ true)
class_named roles.Named class e = (refl, e)
class_named role class e = absurd cc

limits_if_sound : (is : Bool) (class : Token) (bounds : Option (List Bound)) (limits : Limits) → limits_if is class bounds ≡ Some limits → (is ≡ true) × (found : List Bound) × (bounds ≡ Some found) × (limits ≡ limits_of class found)
limits_if_sound true class bounds limits e = let (found, is, same) = map_some (limits_of class) bounds limits e in (refl, found, is, same)
limits_if_sound false class bounds limits e = absurd cc

limits_in_sound : (fragments : Fragments) (bounds : Option (List Bound)) (limits : Limits) → limits_in fragments bounds ≡ Some limits
    → (class : Token) × (fragments ≡ one class ∷ []) × (is_integer_class (role_of class) class ≡ true) × (found : List Bound) × (bounds ≡ Some found) × (limits ≡ limits_of class found)
limits_in_sound [] bounds limits e = absurd cc
limits_in_sound (group opener inner closer ∷ rest) bounds limits e = absurd cc
limits_in_sound (one class ∷ second ∷ rest) bounds limits e = absurd cc
limits_in_sound (one class ∷ []) bounds limits e = let (is, found, some, same) = limits_if_sound (is_integer_class (role_of class) class) class bounds limits e in (class, refl, is, found, some, same)

limits_are_of : (class : Token) (bounds : List Bound) (limits : Limits) (after all : Fragments) → limits ≡ limits_of class bounds → all ≡ one class ∷ after → role_of class ≡ roles.Named → is_spelled (codes "<integer>") class ≡ true → AreBounds bounds after → each_once bounds ≡ true → LimitsAre limits all
limits_are_of class bounds limits after all same parts role text h once = rw same (after, parts, role, text, h, once)

pub limits_sound : (items : List Item) (limits : Limits) → ItemsSound items → limits_items items ≡ Some limits → LimitsAre limits (fragments_in items)
limits_sound items limits h e =
    let pieces : Pieces = cut is_comma_fragment false items in
    let c = cut_sound is_comma_fragment false items h in
    let (class, first_is, class_is, bounds, bounds_are, same) = limits_in_sound (fragments_in pieces.first) (bounds_in pieces.others) limits e in
    let (role, text) = class_named (role_of class) class class_is in
    let (each, once) = passes_sound each_once (each_other bound_items pieces.others) bounds bounds_are in
    limits_are_of class bounds limits (behind_in pieces.others) (fragments_in items) same (sym c.same ∙ ap (λ (fs : Fragments). fs ++ behind_in pieces.others) first_is) role text (bounds_sound pieces.others bounds c.others_sound each) once

-- a type at the front of items
pub record TypeIs (items : List Item) (front : TypeFront) : Type 0 where
  pub before : List SeenFragment
  pub parts : fragments_in items ≡ before ++ fragments_in front.rest
  pub is : IsType (a_type front.type) before
  pub takes : takes_brackets front.type ≡ true → begins_round (fragments_in front.rest) ≡ false
  pub rest_sound : ItemsSound front.rest

name_sound : (word : Token) (fragment : SeenFragment) (found : Found) (rest : List Item) (front : TypeFront) → fragment ≡ one word → role_of word ≡ roles.Named → (is_type_word (type_word word) ≡ true → begins_round (fragments_in rest) ≡ false) → ItemsSound rest
    → name_front word rest ≡ Some front → TypeIs (record { fragment = fragment; found = found } ∷ rest) front
name_sound word fragment found rest front same is takes h e =
    let f = some_one _ _ e in
    rw (← f) (record { before = one word ∷ []; parts = ap (λ (x : SeenFragment). x ∷ fragments_in rest) same; is = by_name word is; takes = takes; rest_sound = h })

form_sound : (form : TypeWord) (word opener : Token) (inner : SeenFragments) (closer : Token) (found : Found) (type : TypeTree) → role_of word ≡ roles.Named → type_word word ≡ form → bracket_of opener closer ≡ brackets.Round → InsideSound (row inner) found → form_type form word inner found ≡ Some type
    → IsType (a_type type) (one word ∷ group opener inner closer ∷ [])
form_sound type_words.Singleton word opener inner closer found type role is is_round_bracket h e =
    let (single, read, same) = map_some (singleton_type word) (single_in (row inner)) type e in
    rw same (by_singleton word single opener inner closer role is is_round_bracket (single_sound (row inner) single read))
form_sound type_words.Union word opener inner closer found type role is is_round_bracket h e =
    let (types, read, same) = map_some (union_of word) found.types type e in
    rw same (by_union word types opener inner closer role is is_round_bracket (h.types_are types read))
form_sound type_words.Limited word opener inner closer found type role is is_round_bracket h e =
    let (limits, read, same) = map_some (limited_of word) found.limits type e in
    let (after, parts, class_role, text, bounds, once) = h.limits_are limits read in
    rw same (by_limits word limits.class limits.bounds opener inner closer after role is is_round_bracket parts class_role text bounds once)
form_sound type_words.Absent word opener inner closer found type role is is_round_bracket h e = absurd cc

form_takes : (form : TypeWord) (word : Token) (inner : SeenFragments) (found : Found) (type : TypeTree) → form_type form word inner found ≡ Some type → takes_brackets type ≡ false
form_takes type_words.Singleton word inner found type e = let (single, read, same) = map_some (singleton_type word) (single_in (row inner)) type e in rw same refl
form_takes type_words.Union word inner found type e = let (types, read, same) = map_some (union_of word) found.types type e in rw same refl
form_takes type_words.Limited word inner found type e = let (limits, read, same) = map_some (limited_of word) found.limits type e in rw same refl
form_takes type_words.Absent word inner found type e = absurd cc

-- one of the three forms at the front of items
formed : (form : TypeWord) (word opener : Token) (inner : SeenFragments) (closer : Token) (fragment : SeenFragment) (found : Found) (item : Item) (rest : List Item) (front : TypeFront) → fragment ≡ one word → role_of word ≡ roles.Named → item.fragment ≡ group opener inner closer
    → type_word word ≡ form → bracket_of opener closer ≡ brackets.Round → InsideSound (row inner) item.found → ItemsSound rest → option_map (in_front rest) (form_type form word inner item.found) ≡ Some front
    → TypeIs (record { fragment = fragment; found = found } ∷ item ∷ rest) front
formed form word opener inner closer fragment found item rest front same role second is is_round_bracket h k e =
    let (type, read, front_is) = map_some (in_front rest) (form_type form word inner item.found) front e in
    rw front_is
    (record {
      before = one word ∷ group opener inner closer ∷ [];
      parts = rw (same, second) refl;
      is = form_sound form word opener inner closer item.found type role is is_round_bracket h read;
      takes = λ f. let g = sym (form_takes form word inner item.found type read) ∙ f in absurd cc;
      rest_sound = k;
    })

type_word_sound : (form : TypeWord) (word opener : Token) (inner : SeenFragments) (closer : Token) (fragment : SeenFragment) (found : Found) (item : Item) (rest : List Item) (front : TypeFront) → fragment ≡ one word → role_of word ≡ roles.Named → item.fragment ≡ group opener inner closer
    → type_word word ≡ form → bracket_of opener closer ≡ brackets.Round → ItemSound item → InsideSound (row inner) item.found → ItemsSound rest → word_front form word inner item rest ≡ Some front
    → TypeIs (record { fragment = fragment; found = found } ∷ item ∷ rest) front
type_word_sound type_words.Absent word opener inner closer fragment found item rest front same role second is is_round_bracket hi h k e =
    name_sound word fragment found (item ∷ rest) front same role (λ f. let g = sym (ap is_type_word is) ∙ f in absurd cc) (hi, k) e
type_word_sound type_words.Singleton word opener inner closer fragment found item rest front same role second is is_round_bracket hi h k e = formed type_words.Singleton word opener inner closer fragment found item rest front same role second is is_round_bracket h k e
type_word_sound type_words.Union word opener inner closer fragment found item rest front same role second is is_round_bracket hi h k e = formed type_words.Union word opener inner closer fragment found item rest front same role second is is_round_bracket h k e
type_word_sound type_words.Limited word opener inner closer fragment found item rest front same role second is is_round_bracket hi h k e = formed type_words.Limited word opener inner closer fragment found item rest front same role second is is_round_bracket h k e

no_round : (bracket : Bracket) (opener : Token) (inner : SeenFragments) (closer : Token) (item : Item) (rest : List Item) → item.fragment ≡ group opener inner closer → bracket_of opener closer ≡ bracket → is_round bracket ≡ false → begins_round (fragments_in (item ∷ rest)) ≡ false
no_round bracket opener inner closer item rest second is other = ap (λ (f : SeenFragment). begins_round (f ∷ fragments_in rest)) second ∙ ap is_round is ∙ other

group_front_sound : (bracket : Bracket) (word opener : Token) (inner : SeenFragments) (closer : Token) (fragment : SeenFragment) (found : Found) (item : Item) (rest : List Item) (front : TypeFront) → fragment ≡ one word → role_of word ≡ roles.Named → item.fragment ≡ group opener inner closer
    → bracket_of opener closer ≡ bracket → ItemSound item → InsideSound (row inner) item.found → ItemsSound rest → group_front bracket word inner item rest ≡ Some front
    → TypeIs (record { fragment = fragment; found = found } ∷ item ∷ rest) front
group_front_sound brackets.Round word opener inner closer fragment found item rest front same role second is hi h k e = type_word_sound (type_word word) word opener inner closer fragment found item rest front same role second refl is hi h k e
group_front_sound bracket word opener inner closer fragment found item rest front same role second is hi h k e =
    name_sound word fragment found (item ∷ rest) front same role (λ f. no_round bracket opener inner closer item rest second is refl) (hi, k) e

front_behind_sound : (word : Token) (fragment : SeenFragment) (found : Found) (second : SeenFragment) (item : Item) (rest : List Item) (front : TypeFront) → fragment ≡ one word → role_of word ≡ roles.Named → item.fragment ≡ second → ItemSound item → GroupSound second item.found → ItemsSound rest
    → front_behind word second item rest ≡ Some front → TypeIs (record { fragment = fragment; found = found } ∷ item ∷ rest) front
front_behind_sound word fragment found (one token) item rest front same role second hi g k e =
    name_sound word fragment found (item ∷ rest) front same role (λ f. ap (λ (x : SeenFragment). begins_round (x ∷ fragments_in rest)) second) (hi, k) e
front_behind_sound word fragment found (group opener inner closer) item rest front same role second hi g k e = group_front_sound (bracket_of opener closer) word opener inner closer fragment found item rest front same role second refl hi g.1 k e

type_from_sound : (word : Token) (fragment : SeenFragment) (found : Found) (rest : List Item) (front : TypeFront) → fragment ≡ one word → role_of word ≡ roles.Named → ItemsSound rest → type_from word rest ≡ Some front → TypeIs (record { fragment = fragment; found = found } ∷ rest) front
type_from_sound word fragment found [] front same role h e = name_sound word fragment found [] front same role (λ f. refl) tt e
type_from_sound word fragment found (item ∷ rest) front same role (h, k) e = front_behind_sound word fragment found item.fragment item rest front same role refl h h.group_is k e

type_named_sound : (role : Role) (word : Token) (fragment : SeenFragment) (found : Found) (rest : List Item) (front : TypeFront) → fragment ≡ one word → role_of word ≡ role → ItemsSound rest → type_named role word rest ≡ Some front → TypeIs (record { fragment = fragment; found = found } ∷ rest) front
type_named_sound roles.Named word fragment found rest front same is h e = type_from_sound word fragment found rest front same is h e
type_named_sound role word fragment found rest front same is h e = absurd cc

type_at_sound : (fragment same : SeenFragment) (found : Found) (rest : List Item) (front : TypeFront) → fragment ≡ same → ItemsSound rest → type_at same rest ≡ Some front → TypeIs (record { fragment = fragment; found = found } ∷ rest) front
type_at_sound fragment (one word) found rest front is h e = type_named_sound (role_of word) word fragment found rest front is refl h e
type_at_sound fragment (group opener inner closer) found rest front is h e = absurd cc

pub type_front_sound : (items : List Item) (front : TypeFront) → ItemsSound items → type_front items ≡ Some front → TypeIs items front
type_front_sound [] front h e = absurd cc
type_front_sound (item ∷ rest) front (h, k) e = type_at_sound item.fragment item.fragment item.found rest front refl k e

whole_is : {A : Type 0} (found result : A) (rest : List Item) → if_whole found rest ≡ Some result → (rest ≡ []) × (found ≡ result)
whole_is found result [] e = (refl, some_one found result e)
whole_is found result (item ∷ rest) e = absurd cc

-- what stands at the front is all
pub whole_front : {A : Type 0} (P : A → Fragments → Type 0) (found result : A) (before all : Fragments) (rest : List Item) → all ≡ before ++ fragments_in rest → (rest ≡ []) × (found ≡ result) → P found before → P result all
whole_front P found result before all rest parts (ends, same) h = rw (parts, ends, append-nil, ← same) h

pub type_sound : (items : List Item) (type : TypeTree) → ItemsSound items → type_items items ≡ Some type → IsType (a_type type) (fragments_in items)
type_sound items type h e =
    let (front, read, whole) = then_some whole_type (type_front items) type e in
    let t = type_front_sound items front h read in
    whole_front (λ found fragments. IsType (a_type found) fragments) front.type type t.before (fragments_in items) front.rest t.parts (whole_is front.type type front.rest whole) t.is

more_types_of : (type : TypeTree) (others : List TypeTree) (separator : SeenFragment) (before after : Fragments) → is_comma_fragment separator ≡ true → IsType (a_type type) before → IsType (some_types others) after → IsType (some_types (type ∷ others)) (before ++ separator ∷ after)
more_types_of type others (one token) before after e h k = more_types type others token before after (before ++ one token ∷ after) refl (comma_is (role_of token) e) h k
more_types_of type others (group opener inner closer) before after e h k = absurd cc

types_row : Row is_comma_fragment type_items (λ type fragments. IsType (a_type type) fragments) (λ types fragments. IsType (some_types types) fragments)
types_row = record { last = one_type; more = more_types_of; reads_one = λ items type h e. type_sound items type h e }

pub types_sound : (items : List Item) (types : List TypeTree) → ItemsSound items → types_items items ≡ Some types → IsType (some_types types) (fragments_in items)
types_sound items types h e = row_sound is_comma_fragment type_items _ _ types_row items types h e

-- a variable at the front of items
pub record VariableIs (items : List Item) (front : VariableFront) : Type 0 where
  pub before : List SeenFragment
  pub parts : fragments_in items ≡ before ++ fragments_in front.rest
  pub is : IsVariable front.variable before
  pub apart_is : variable_apart front.variable.declared (fragments_in front.rest) ≡ true
  pub rest_sound : ItemsSound front.rest

untyped_is : (token : Token) (fragment : SeenFragment) (found : Found) (rest : List Item) → fragment ≡ one token → role_of token ≡ roles.Named → begins_with is_colons_role (fragments_in rest) ≡ false → ItemsSound rest → VariableIs (record { fragment = fragment; found = found } ∷ rest) (untyped_front token rest)
untyped_is token fragment found rest same is plainly h = record { before = one token ∷ []; parts = ap (λ (x : SeenFragment). x ∷ fragments_in rest) same; is = untyped token is; apart_is = ap not plainly; rest_sound = h }

colons_is : (role : Role) → is_colons_role role ≡ true → role ≡ roles.Colons
colons_is roles.Colons e = refl
colons_is role e = absurd cc

pub colons_token : (fragment : SeenFragment) → is_colons fragment ≡ true → (token : Token) × (fragment ≡ one token) × (role_of token ≡ roles.Colons)
colons_token (one token) e = (token, refl, colons_is (role_of token) e)
colons_token (group opener inner closer) e = absurd cc

no_colons_first : (first : SeenFragment) (rest : Fragments) → is_colons first ≡ false → begins_with is_colons_role (first ∷ rest) ≡ false
no_colons_first (one token) rest e = e
no_colons_first (group opener inner closer) rest e = refl

type_apart : (type : TypeTree) (rest : Fragments) (takes : Bool) → takes_brackets type ≡ takes → (takes_brackets type ≡ true → begins_round rest ≡ false) → not (takes_brackets type && begins_round rest) ≡ true
type_apart type rest true e h = rw (e, h e) refl
type_apart type rest false e h = rw e refl

two_and : (first second : SeenFragment) (token sign : Token) (rest others : Fragments) → first ≡ one token → second ≡ one sign → rest ≡ others → first ∷ second ∷ rest ≡ one token ∷ one sign ∷ others
two_and first second token sign rest others e f g = rw (e, f, g) refl

variable_if_sound : (is : Bool) (token : Token) (fragment : SeenFragment) (found : Found) (item : Item) (rest : List Item) (front : VariableFront) → is_colons item.fragment ≡ is → fragment ≡ one token → role_of token ≡ roles.Named → ItemSound item → ItemsSound rest
    → variable_if is token item rest ≡ Some front → VariableIs (record { fragment = fragment; found = found } ∷ item ∷ rest) front
variable_if_sound true token fragment found item rest front has_colons same is h k e =
    let (type, read, front_is) = map_some (typed_front token) (type_front rest) front e in
    let t = type_front_sound rest type k read in
    let (sign, sign_is, role) = colons_token item.fragment has_colons in
    rw front_is
    (record {
      before = one token ∷ one sign ∷ t.before;
      parts = two_and fragment item.fragment token sign (fragments_in rest) (t.before ++ fragments_in type.rest) same sign_is t.parts;
      is = typed token sign type.type t.before is role t.is;
      apart_is = type_apart type.type (fragments_in type.rest) (takes_brackets type.type) refl t.takes;
      rest_sound = t.rest_sound;
    })
variable_if_sound false token fragment found item rest front has_colons same is h k e = rw (← some_one _ _ e) (untyped_is token fragment found (item ∷ rest) same is (no_colons_first item.fragment (fragments_in rest) has_colons) (h, k))

variable_from_sound : (token : Token) (fragment : SeenFragment) (found : Found) (rest : List Item) (front : VariableFront) → fragment ≡ one token → role_of token ≡ roles.Named → ItemsSound rest → variable_from token rest ≡ Some front → VariableIs (record { fragment = fragment; found = found } ∷ rest) front
variable_from_sound token fragment found [] front same is h e = rw (← some_one _ _ e) (untyped_is token fragment found [] same is refl tt)
variable_from_sound token fragment found (item ∷ rest) front same is (h, k) e = variable_if_sound (is_colons item.fragment) token fragment found item rest front refl same is h k e

variable_named_sound : (role : Role) (token : Token) (fragment : SeenFragment) (found : Found) (rest : List Item) (front : VariableFront) → fragment ≡ one token → role_of token ≡ role → ItemsSound rest → variable_named role token rest ≡ Some front
    → VariableIs (record { fragment = fragment; found = found } ∷ rest) front
variable_named_sound roles.Named token fragment found rest front same is h e = variable_from_sound token fragment found rest front same is h e
variable_named_sound role token fragment found rest front same is h e = absurd cc

variable_at_sound : (fragment same : SeenFragment) (found : Found) (rest : List Item) (front : VariableFront) → fragment ≡ same → ItemsSound rest → variable_at same rest ≡ Some front → VariableIs (record { fragment = fragment; found = found } ∷ rest) front
variable_at_sound fragment (one token) found rest front is h e = variable_named_sound (role_of token) token fragment found rest front is refl h e
variable_at_sound fragment (group opener inner closer) found rest front is h e = absurd cc

pub variable_front_sound : (items : List Item) (front : VariableFront) → ItemsSound items → variable_front items ≡ Some front → VariableIs items front
variable_front_sound [] front h e = absurd cc
variable_front_sound (item ∷ rest) front (h, k) e = variable_at_sound item.fragment item.fragment item.found rest front refl k e

pub variable_sound : (items : List Item) (variable : VariableTree) → ItemsSound items → variable_items items ≡ Some variable → IsVariable variable (fragments_in items)
variable_sound items variable h e =
    let (front, read, whole) = then_some whole_variable (variable_front items) variable e in
    let t = variable_front_sound items front h read in
    whole_front IsVariable front.variable variable t.before (fragments_in items) front.rest t.parts (whole_is front.variable variable front.rest whole) t.is

named_is : (role : Role) (token name : Token) → named_token role token ≡ Some name → (role ≡ roles.Named) × (token ≡ name)
named_is roles.Named token name e = (refl, some_one token name e)
named_is role token name e = absurd cc

-- a mark and a name
pub marked_name : (text : List ℕ) (fragments : Fragments) (name : Token) → name_in fragments ≡ Some name → (mark : Token) × (fragments ≡ one mark ∷ one name ∷ []) × (role_of name ≡ roles.Named)
marked_name text [] name e = absurd cc
marked_name text (one mark ∷ []) name e = absurd cc
marked_name text (group opener inner closer ∷ rest) name e = absurd cc
marked_name text (one mark ∷ group opener inner closer ∷ rest) name e = absurd cc
marked_name text (one mark ∷ one token ∷ second ∷ rest) name e = absurd cc
marked_name text (one mark ∷ one token ∷ []) name e =
    let (role, same) = named_is (role_of token) token name e in (mark, ap (λ (t : Token). one mark ∷ one t ∷ []) same, ap role_of (sym same) ∙ role)

pub mark_is : (text : List ℕ) (items : List Item) (mark : Token) (rest : Fragments) → marked text items ≡ true → fragments_in items ≡ one mark ∷ rest → is_mark text mark ≡ true
mark_is text [] mark rest e f = absurd cc
mark_is text (item ∷ more) mark rest e f = go item.fragment (fragments_in more) e f
  where
    go : (fragment : SeenFragment) (others : Fragments) → is_marked text fragment ≡ true → fragment ∷ others ≡ one mark ∷ rest → is_mark text mark ≡ true
    go (one token) others g k = let same : token ≡ mark = cc in subst (λ (t : Token). is_mark text t ≡ true) same g
    go (group opener inner closer) others g k = absurd cc

more_bound_of : (variable : VariableTree) (others : List VariableTree) (rest : Option Token) (separator : SeenFragment) (before after : Fragments) → is_comma_fragment separator ≡ true → IsVariable variable before → Bind others rest after → Bind (variable ∷ others) rest (before ++ separator ∷ after)
more_bound_of variable others rest (one token) before after e h k = more_bound variable others rest token before after (before ++ one token ∷ after) refl (comma_is (role_of token) e) h k
more_bound_of variable others rest (group opener inner closer) before after e h k = absurd cc

-- `#rest` and its name
abbrev RestIs : Token → Fragments → Type 0
RestIs rest fragments = (mark : Token) × (fragments ≡ one mark ∷ one rest ∷ []) × (is_mark (codes "#rest") mark ≡ true) × (role_of rest ≡ roles.Named)

bind_row : EndRow is_comma_fragment (marked (codes "#rest")) variable_items name_items (λ variable fragments. IsVariable variable fragments) RestIs Bind
bind_row =
    record {
      only = last_bound;
      ends = λ rest fragments (mark, parts, marks, is). rw parts (rest_bound mark rest marks is);
      more = more_bound_of;
      reads_one = λ items variable h e. variable_sound items variable h e;
      reads_last = λ items rest h is e. let (mark, parts, role) = marked_name (codes "#rest") (fragments_in items) rest e in (mark, parts, mark_is (codes "#rest") items mark (one rest ∷ []) is parts, role);
    }

pub bind_sound : (items : List Item) (bound : Ending VariableTree Token) → ItemsSound items → bind_items items ≡ Some bound → Bind bound.parts bound.last (fragments_in items)
bind_sound items bound h e = end_row_sound is_comma_fragment (marked (codes "#rest")) variable_items name_items _ _ _ bind_row items bound h e

target_in_sound : (bracket : Bracket) (opener : Token) (inner : SeenFragments) (closer : Token) (found : Found) (target : TargetTree) → bracket_of opener closer ≡ bracket → InsideSound (row inner) found → target_in bracket inner found.bound ≡ Some target
    → IsTarget target (group opener inner closer ∷ [])
target_in_sound brackets.Round opener no_fragment closer found target is h e = subst (λ (t : TargetTree). IsTarget t (group opener no_fragment closer ∷ [])) (some_one _ _ e) (by_nothing opener closer is)
target_in_sound brackets.Round opener (fragment_and first rest) closer found target is h e =
    let (bound, read, same) = map_some several_of found.bound target e in
    rw same (by_brackets bound.parts bound.last opener (fragment_and first rest) closer is (h.bound_are bound read))
target_in_sound bracket opener inner closer found target is h e = absurd cc

target_group_sound : (fragment : SeenFragment) (found : Found) (target : TargetTree) → GroupSound fragment found → target_group fragment found ≡ Some target → IsTarget target (fragment ∷ [])
target_group_sound (one token) found target h e = absurd cc
target_group_sound (group opener inner closer) found target h e = target_in_sound (bracket_of opener closer) opener inner closer found target refl h.1 e

target_one_sound : (item : Item) (rest : List Item) (target : TargetTree) → ItemsSound (item ∷ rest) → target_one item rest ≡ Some target → IsTarget target (fragments_in (item ∷ rest))
target_one_sound item rest target h e =
    let (variable, read, same) = map_some one_target (variable_items (item ∷ rest)) target e in
    subst (λ (t : TargetTree). IsTarget t (fragments_in (item ∷ rest))) (sym same) (by_variable variable (fragments_in (item ∷ rest)) (variable_sound (item ∷ rest) variable h read))

pub target_sound : (items : List Item) (target : TargetTree) → ItemsSound items → target_items items ≡ Some target → IsTarget target (fragments_in items)
target_sound [] target h e = absurd cc
target_sound (item ∷ rest) target h e = go (target_group item.fragment item.found) rest h refl e
  where
    go : (found : Option TargetTree) (more : List Item) → ItemsSound (item ∷ more) → target_group item.fragment item.found ≡ found → target_if found item more ≡ Some target → IsTarget target (fragments_in (item ∷ more))
    go None more k is f = target_one_sound item more target k f
    go (Some read) [] k is f = rw (← some_one _ _ f) (target_group_sound item.fragment item.found read k.0.group_is is)
    go (Some read) (second ∷ more) k is f = target_one_sound item (second ∷ more) target k f
