-- What is a type or a variable is read as one.
use Rattle.std.proofs.Common.{◌≡◌, ◌≢◌, ℕ, Bool, true, false, cond, not, ◌&&◌, ◌||◌, List, [], ◌∷◌, ◌++◌, codes, Option, Some, option_map, option_and_then, refl, sym, ap, subst, ◌∙◌}
use Rattle.std.proofs.lemmas.List.{append-nil}
use Rattle.dy_tree.specs.declared.token.TokenKind.{TokenKind}
use Rattle.dy_tree.specs.declared.token.TokenKind.TheVariants as kinds
use Rattle.dy_tree.specs.declared.token.Token.{Token}
use Rattle.dy_tree.specs.declared.types.IntegerForm.{IntegerForm}
use Rattle.dy_tree.specs.declared.types.LiteralForm.{LiteralForm}
use Rattle.dy_tree.specs.Fragments.{SeenFragment, one, group, SeenFragments, no_fragment, fragment_and, row}
use Rattle.dy_tree.specs.declared.roles.Role.{Role}
use Rattle.dy_tree.specs.declared.roles.Role.TheVariants as roles
use Rattle.dy_tree.specs.declared.brackets.Bracket.{Bracket}
use Rattle.dy_tree.specs.declared.brackets.Bracket.TheVariants as brackets
use Rattle.dy_tree.specs.declared.type_words.TypeWord.{TypeWord}
use Rattle.dy_tree.specs.declared.type_words.TypeWord.TheVariants as type_words
use Rattle.dy_tree.specs.Spelling.{is_spelled}
use Rattle.dy_rules.specs.Roles.{role_by, role_of, bracket_of, is_among}
use Rattle.dy_rules.specs.Constants.{token_literal, one_token, negative_integer}
use Rattle.dy_rules.specs.Arguments.{is_comma, is_comma_fragment}
use Rattle.dy_rules.specs.Tests.{only_if, if_passes}
use Rattle.dy_rules.specs.Types.{is_mark_kind, is_symbol_kind, is_mark, Single, literal_single, IsSingle, of_literal, of_empty_list, of_name, Bound, is_bound, IsInteger, plain_number, negative_number, each_once, AreBounds, no_bound, bound_and, TypeTree, named_type, singleton_type, limited_type, type_word, TypeSort, a_type, some_types, IsType, by_name, by_singleton, by_union, by_limits, one_type, more_types, is_round, begins_round, is_type_word, takes_brackets, VariableTree, declares_brackets, IsVariable, untyped, typed, Bind, last_bound, rest_bound, more_bound, TargetTree, one_target, IsTarget, by_variable, by_nothing, by_brackets, is_colons_role, variable_apart, begins_with}
use Rattle.dy_rules.specs.Cutting.{Ending, Item, Piece, is_let_role, is_let, cut, each_other, with_others, fragments_in}
use Rattle.dy_rules.specs.TypeReading.{single_token, single_group, single_in, integer_in, bound_of, bound_if, bound_in, bound_items, is_integer_class, limits_of, limits_if, limits_in, limits_pieces, limits_items, TypeFront, in_front, union_of, limited_of, form_type, word_front, group_front, front_behind, type_from, type_named, type_front, whole_type, type_items, types_items, VariableFront, untyped_front, typed_front, is_colons, variable_if, variable_from, variable_named, variable_front, whole_variable, variable_items, marked, name_items, bind_items, several_of, target_in, target_if, target_items}
use Rattle.dy_rules.specs.Fragments.{item_of, items_of, items_in, found_in}
use Rattle.dy_rules.proofs.Lists.{items_row, fragments_back}
use Rattle.dy_rules.proofs.Cuts.{Closed, joined, cut_end}
use Rattle.dy_rules.proofs.Rows.{joined_on, row_last, row_more, ending_only, ending_last, ending_more, items_append}

abbrev Fragments : Type 0
Fragments = List SeenFragment

single_token_reads : (role : Role) (token : Token) (form : LiteralForm) → token_literal role token ≡ Some form → single_token role token ≡ Some (literal_single form)
single_token_reads roles.Named token form e = absurd cc
single_token_reads role token form e = ap (option_map literal_single) e

pub single_complete : (single : Single) (fragments : Fragments) → IsSingle single fragments → single_in fragments ≡ Some single
single_complete single fragments (of_literal form all (one_token token found e)) = single_token_reads (role_of token) token found e
single_complete single fragments (of_literal form all (negative_integer sign digits is also)) = rw (is, also) refl
single_complete single fragments (of_empty_list opener closer is) = ap (λ (b : Bracket). single_group b no_fragment opener) is
single_complete single fragments (of_name token is) = ap (λ (r : Role). single_token r token) is

pub integer_complete : (number : IntegerForm) (fragments : Fragments) → IsInteger number fragments → integer_in fragments ≡ Some number
integer_complete number fragments (plain_number digits is) = rw is refl
integer_complete number fragments (negative_number sign digits is also) = rw (is, also) refl

-- a fragment of a type or of a variable
abbrev pub quiet_role : Role → Bool
quiet_role roles.Named = true
quiet_role roles.Colons = true
quiet_role _ = false

abbrev pub is_quiet : SeenFragment → Bool
is_quiet (one token) = quiet_role (role_of token)
is_quiet (group opener inner closer) = true

abbrev pub Quiet : Fragments → Type 0
Quiet [] = Unit {0}
Quiet (first ∷ rest) = (is_quiet first ≡ true) × Quiet rest

quiet_no_comma : (fragment : SeenFragment) → is_quiet fragment ≡ true → is_comma_fragment fragment ≡ false
quiet_no_comma (one token) e = go (role_of token) e
  where
    go : (role : Role) → quiet_role role ≡ true → is_comma role ≡ false
    go roles.Comma f = absurd cc
    go role f = refl
quiet_no_comma (group opener inner closer) e = refl

pub quiet_no_let : (fragment : SeenFragment) → is_quiet fragment ≡ true → is_let fragment ≡ false
quiet_no_let (one token) e = go (role_of token) e
  where
    go : (role : Role) → quiet_role role ≡ true → is_let_role role ≡ false
    go roles.Named f = refl
    go roles.Colons f = refl
    go role f = absurd cc
quiet_no_let (group opener inner closer) e = refl

pub quiet_closed : (separates : SeenFragment → Bool) → ((fragment : SeenFragment) → is_quiet fragment ≡ true → separates fragment ≡ false) → (fragments : Fragments) → Quiet fragments → Closed separates false fragments
quiet_closed separates never [] h = refl
quiet_closed separates never (first ∷ rest) (is, h) = (never first is, subst (λ (b : Bool). Closed separates b rest) (sym (quiet_no_let first is)) (quiet_closed separates never rest h))

pub no_commas_in : (fragments : Fragments) → Quiet fragments → Closed is_comma_fragment false fragments
no_commas_in fragments h = quiet_closed is_comma_fragment quiet_no_comma fragments h

pub quiet_append : (before after : Fragments) → Quiet before → Quiet after → Quiet (before ++ after)
quiet_append [] after h k = k
quiet_append (first ∷ before) after (is, h) k = (is, quiet_append before after h k)

pub type_quiet : (type : TypeTree) (fragments : Fragments) → IsType (a_type type) fragments → Quiet fragments
type_quiet type fragments (by_name token is) = (rw is refl, tt)
type_quiet type fragments (by_singleton word single opener inner closer role is is_round_bracket h) = (rw role refl, (refl, tt))
type_quiet type fragments (by_union word types opener inner closer role is is_round_bracket h) = (rw role refl, (refl, tt))
type_quiet type fragments (by_limits word class bounds opener inner closer after role is is_round_bracket parts class_role text h once) = (rw role refl, (refl, tt))

pub variable_quiet : (variable : VariableTree) (fragments : Fragments) → IsVariable variable fragments → Quiet fragments
variable_quiet variable fragments (untyped token is) = (rw is refl, tt)
variable_quiet variable fragments (typed token sign type after is colon h) = (rw is refl, (rw colon refl, type_quiet type after h))

pub comma_separates : (token : Token) → role_of token ≡ roles.Comma → is_comma_fragment (one token) ≡ true
comma_separates token is = rw is refl

-- numbers are no separators either
integer_closed : (number : IntegerForm) (fragments : Fragments) → IsInteger number fragments → Closed is_comma_fragment false fragments
integer_closed number fragments (plain_number digits is) = (rw is refl, rw is refl)
integer_closed number fragments (negative_number sign digits is also) = (rw is refl, (rw (is, also) refl, rw also refl))

bound_role : (token : Token) → is_bound token ≡ true → (is_comma_fragment (one token) ≡ false) × (is_let (one token) ≡ false)
bound_role token e = go token.kind e
  where
    go : (kind : TokenKind) → ((is_symbol_kind kind && is_spelled (codes "min") token) || (is_symbol_kind kind && is_spelled (codes "max") token)) ≡ true → (is_comma (role_by kind token) ≡ false) × (is_let_role (role_by kind token) ≡ false)
    go kinds.Symbol f = (refl, refl)
    go kind f = absurd cc

bound_closed : (keyword : Token) (number : IntegerForm) (digits : Fragments) → is_bound keyword ≡ true → IsInteger number digits → Closed is_comma_fragment false (one keyword ∷ digits)
bound_closed keyword number digits is h =
    let (plainly, no_let) = bound_role keyword is in
    (plainly, subst (λ (b : Bool). Closed is_comma_fragment b digits) (sym no_let) (integer_closed number digits h))

bound_reads : (keyword : Token) (number : IntegerForm) (digits : Fragments) → is_bound keyword ≡ true → IsInteger number digits → bound_items (items_of (one keyword ∷ digits)) ≡ Some (bound_of keyword number)
bound_reads keyword number digits is h =
    ap bound_in (fragments_back (one keyword ∷ digits)) ∙ ap (λ (b : Bool). bound_if b keyword digits) is ∙ ap (option_map (bound_of keyword)) (integer_complete number digits h)

-- bounds, behind what has no commas
record BoundsRead (bounds : List Bound) (fragments : List SeenFragment) : Type 0 where
  pub others : List Piece
  pub pieces : (front : List SeenFragment) → Closed is_comma_fragment false front → cut is_comma_fragment false (items_of (front ++ fragments)) ≡ record { first = items_of front; others = others }
  pub found : each_other bound_items others ≡ Some bounds

bounds_complete : (bounds : List Bound) (fragments : Fragments) → AreBounds bounds fragments → BoundsRead bounds fragments
bounds_complete bounds fragments no_bound =
    record {
      others = [];
      pieces = λ front h. ap (λ (fs : List SeenFragment). cut is_comma_fragment false (items_of fs)) (append-nil front) ∙ cut_end is_comma_fragment false front h;
      found = refl;
    }
bounds_complete bounds fragments (bound_and separator keyword number others digits after all parts is key_is n h) =
    let rest = bounds_complete others after h in
    subst (BoundsRead (bound_of keyword number ∷ others)) (sym parts)
    (record {
      others = record { separator = one separator; items = items_of (one keyword ∷ digits) } ∷ rest.others;
      pieces = λ front k. joined_on is_comma_fragment false front (one separator) (one keyword ∷ (digits ++ after)) k (comma_separates separator is)
          ∙ ap (joined (items_of front) (one separator)) (rest.pieces (one keyword ∷ digits) (bound_closed keyword number digits key_is n));
      found = ap (λ (o : Option Bound). with_others o (each_other bound_items rest.others)) (bound_reads keyword number digits key_is n) ∙ ap (with_others (Some (bound_of keyword number))) rest.found;
    })

limits_reads : (role : Role) (class : Token) (bounds : List Bound) → role ≡ roles.Named → is_spelled (codes "<integer>") class ≡ true → limits_if (is_integer_class role class) class (Some bounds) ≡ Some (limits_of class bounds)
limits_reads role class bounds is text = rw (is, text) refl

limits_complete : (class : Token) (bounds : List Bound) (inner : SeenFragments) (after : Fragments) → row inner ≡ one class ∷ after → role_of class ≡ roles.Named → is_spelled (codes "<integer>") class ≡ true → AreBounds bounds after → each_once bounds ≡ true
    → limits_items (items_in inner) ≡ Some (limits_of class bounds)
limits_complete class bounds inner after parts is text h once =
    let rest = bounds_complete bounds after h in
    ap limits_items (items_row inner ∙ ap items_of parts) ∙ ap limits_pieces (rest.pieces (one class ∷ []) (rw is refl, rw is refl))
    ∙ ap (limits_in (one class ∷ [])) (ap (option_and_then (if_passes each_once)) rest.found ∙ ap (λ (b : Bool). only_if b bounds) once) ∙ limits_reads (role_of class) class bounds is text

-- brackets behind a name of the three forms
word_reads : (form : TypeWord) (word : Token) (inner : SeenFragments) (item : Item) (rest : List Item) (type : TypeTree) → form_type form word inner item.found ≡ Some type → word_front form word inner item rest ≡ Some (in_front rest type)
word_reads type_words.Singleton word inner item rest type e = ap (option_map (in_front rest)) e
word_reads type_words.Union word inner item rest type e = ap (option_map (in_front rest)) e
word_reads type_words.Limited word inner item rest type e = ap (option_map (in_front rest)) e
word_reads type_words.Absent word inner item rest type e = absurd cc

form_reads : (bracket : Bracket) (form : TypeWord) (word : Token) (inner : SeenFragments) (item : Item) (rest : List Item) (type : TypeTree) → bracket ≡ brackets.Round → type_word word ≡ form → form_type form word inner item.found ≡ Some type
    → group_front bracket word inner item rest ≡ Some (in_front rest type)
form_reads bracket form word inner item rest type is word_is e =
    ap (λ (b : Bracket). group_front b word inner item rest) is ∙ ap (λ (f : TypeWord). word_front f word inner item rest) word_is ∙ word_reads form word inner item rest type e

named_reads : (role : Role) (word : Token) (rest : List Item) (front : TypeFront) → role ≡ roles.Named → type_from word rest ≡ Some front → type_named role word rest ≡ Some front
named_reads role word rest front is e = rw is e

formed_reads : (form : TypeWord) (word opener : Token) (inner : SeenFragments) (closer : Token) (rest : List Item) (type : TypeTree) → role_of word ≡ roles.Named → type_word word ≡ form → bracket_of opener closer ≡ brackets.Round
    → form_type form word inner (found_in (group opener inner closer)) ≡ Some type → type_front (items_of (one word ∷ group opener inner closer ∷ []) ++ rest) ≡ Some (in_front rest type)
formed_reads form word opener inner closer rest type role is is_round_bracket e =
    named_reads (role_of word) word (item_of (group opener inner closer) ∷ rest) (in_front rest type) role
    (form_reads (bracket_of opener closer) form word inner (item_of (group opener inner closer)) rest type is_round_bracket is e)

-- a name that takes no brackets
plain_word : (form : TypeWord) (word : Token) (inner : SeenFragments) (item : Item) (rest : List Item) → (is_type_word form ≡ true → ⊥) → word_front form word inner item rest ≡ Some (in_front (item ∷ rest) (named_type word))
plain_word type_words.Absent word inner item rest h = refl
plain_word type_words.Singleton word inner item rest h = absurd (h refl)
plain_word type_words.Union word inner item rest h = absurd (h refl)
plain_word type_words.Limited word inner item rest h = absurd (h refl)

plain_group : (bracket : Bracket) (word : Token) (inner : SeenFragments) (item : Item) (rest : List Item) → (is_type_word (type_word word) ≡ true → is_round bracket ≡ false) → group_front bracket word inner item rest ≡ Some (in_front (item ∷ rest) (named_type word))
plain_group brackets.Round word inner item rest h = plain_word (type_word word) word inner item rest (λ e. let f = h e in absurd cc)
plain_group brackets.Square word inner item rest h = refl
plain_group brackets.Hidden word inner item rest h = refl
plain_group brackets.SharpRound word inner item rest h = refl
plain_group brackets.SharpSquare word inner item rest h = refl
plain_group (brackets.Statement kind) word inner item rest h = refl
plain_group brackets.Special word inner item rest h = refl

plain_behind : (word : Token) (fragment : SeenFragment) (item : Item) (rest : List Item) → (is_type_word (type_word word) ≡ true → begins_round (fragment ∷ fragments_in rest) ≡ false) → front_behind word fragment item rest ≡ Some (in_front (item ∷ rest) (named_type word))
plain_behind word (one token) item rest h = refl
plain_behind word (group opener inner closer) item rest h = plain_group (bracket_of opener closer) word inner item rest h

plain_from : (word : Token) (rest : List Item) → (is_type_word (type_word word) ≡ true → begins_round (fragments_in rest) ≡ false) → type_from word rest ≡ Some (in_front rest (named_type word))
plain_from word [] h = refl
plain_from word (item ∷ rest) h = plain_behind word item.fragment item rest h

abbrev pub TypeReads : TypeSort → Fragments → Type 0
TypeReads (a_type type) fragments = (rest : List Item) → (takes_brackets type ≡ true → begins_round (fragments_in rest) ≡ false) → type_front (items_of fragments ++ rest) ≡ Some (in_front rest type)
TypeReads (some_types types) fragments = types_items (items_of fragments) ≡ Some types

pub whole_type_reads : (type : TypeTree) (fragments : Fragments) → TypeReads (a_type type) fragments → type_items (items_of fragments) ≡ Some type
whole_type_reads type fragments h = ap (λ (items : List Item). option_and_then whole_type (type_front items)) (sym (append-nil (items_of fragments))) ∙ ap (option_and_then whole_type) (h [] (λ e. refl))

pub type_complete : (sort : TypeSort) (fragments : Fragments) → IsType sort fragments → TypeReads sort fragments
type_complete sort fragments (by_name token is) = λ rest h. named_reads (role_of token) token rest (in_front rest (named_type token)) is (plain_from token rest h)
type_complete sort fragments (by_singleton word single opener inner closer role is is_round_bracket h) = λ rest k.
    formed_reads type_words.Singleton word opener inner closer rest (singleton_type word single) role is is_round_bracket (ap (option_map (singleton_type word)) (single_complete single (row inner) h))
type_complete sort fragments (by_union word types opener inner closer role is is_round_bracket h) = λ rest k.
    formed_reads type_words.Union word opener inner closer rest (union_of word types) role is is_round_bracket (ap (λ (items : List Item). option_map (union_of word) (types_items items)) (items_row inner) ∙ ap (option_map (union_of word)) (type_complete (some_types types) (row inner) h))
type_complete sort fragments (by_limits word class bounds opener inner closer after role is is_round_bracket parts class_role text h once) = λ rest k.
    formed_reads type_words.Limited word opener inner closer rest (limited_type word class bounds) role is is_round_bracket (ap (option_map (limited_of word)) (limits_complete class bounds inner after parts class_role text h once))
type_complete sort fragments (one_type type all h) = row_last is_comma_fragment type_items all type (no_commas_in all (type_quiet type all h)) (whole_type_reads type all (type_complete (a_type type) all h))
type_complete sort fragments (more_types type others separator before after all parts is h k) =
    ap (λ (fs : Fragments). types_items (items_of fs)) parts
    ∙ row_more is_comma_fragment type_items before (one separator) after type others (no_commas_in before (type_quiet type before h)) (comma_separates separator is) (whole_type_reads type before (type_complete (a_type type) before h)) (type_complete (some_types others) after k)

-- `::` stands here
abbrev pub begins_colons : List Item → Bool
begins_colons [] = false
begins_colons (item ∷ rest) = is_colons item.fragment

variable_named_reads : (role : Role) (token : Token) (rest : List Item) (front : VariableFront) → role ≡ roles.Named → variable_from token rest ≡ Some front → variable_named role token rest ≡ Some front
variable_named_reads role token rest front is e = rw is e

untyped_reads : (token : Token) (rest : List Item) → begins_colons rest ≡ false → variable_from token rest ≡ Some (untyped_front token rest)
untyped_reads token [] h = refl
untyped_reads token (item ∷ rest) h = ap (λ (b : Bool). variable_if b token item rest) h

abbrev pub front_of : VariableTree → List Item → VariableFront
front_of variable rest = record { variable = variable; rest = rest }

pub variable_complete : (variable : VariableTree) (fragments : Fragments) → IsVariable variable fragments → (rest : List Item) → begins_colons rest ≡ false → (declares_brackets variable.declared ≡ true → begins_round (fragments_in rest) ≡ false)
    → variable_front (items_of fragments ++ rest) ≡ Some (front_of variable rest)
variable_complete variable fragments (untyped token is) rest colon takes = variable_named_reads (role_of token) token rest (untyped_front token rest) is (untyped_reads token rest colon)
variable_complete variable fragments (typed token sign type after is sign_is h) rest colon takes =
    variable_named_reads (role_of token) token (item_of (one sign) ∷ (items_of after ++ rest)) (front_of variable rest) is
    (ap (λ (b : Bool). variable_if b token (item_of (one sign)) (items_of after ++ rest)) (ap is_colons_role sign_is) ∙ ap (option_map (typed_front token)) (type_complete (a_type type) after h rest takes))

not_false : (b : Bool) → not b ≡ true → b ≡ false
not_false true e = absurd cc
not_false false e = refl

takes_no : (takes round_here : Bool) → not (takes && round_here) ≡ true → takes ≡ true → round_here ≡ false
takes_no true true e f = absurd cc
takes_no true false e f = refl
takes_no false round_here e f = absurd cc

colons_apart : (after : Fragments) → begins_with is_colons_role after ≡ false → begins_colons (items_of after) ≡ false
colons_apart [] e = refl
colons_apart (one token ∷ rest) e = e
colons_apart (group opener inner closer ∷ rest) e = refl

-- a variable in front of what does not belong to it
pub variable_apart_reads : (variable : VariableTree) (fragments after : Fragments) → IsVariable variable fragments → variable_apart variable.declared after ≡ true → variable_front (items_of (fragments ++ after)) ≡ Some (front_of variable (items_of after))
variable_apart_reads variable fragments after (untyped token is) e =
    variable_named_reads (role_of token) token (items_of after) (untyped_front token (items_of after)) is (untyped_reads token (items_of after) (colons_apart after (not_false (begins_with is_colons_role after) e)))
variable_apart_reads variable fragments after (typed token sign type rest is sign_is h) e =
    ap variable_front (items_append (one token ∷ one sign ∷ rest) after)
    ∙ variable_named_reads (role_of token) token (item_of (one sign) ∷ (items_of rest ++ items_of after)) (front_of variable (items_of after)) is
    (ap (λ (b : Bool). variable_if b token (item_of (one sign)) (items_of rest ++ items_of after)) (ap is_colons_role sign_is)
    ∙ ap (option_map (typed_front token)) (type_complete (a_type type) rest h (items_of after) (λ f. ap begins_round (fragments_back after) ∙ takes_no (takes_brackets type) (begins_round after) e f)))

pub whole_variable_reads : (variable : VariableTree) (fragments : Fragments) → IsVariable variable fragments → variable_items (items_of fragments) ≡ Some variable
whole_variable_reads variable fragments h =
    ap (λ (items : List Item). option_and_then whole_variable (variable_front items)) (sym (append-nil (items_of fragments))) ∙ ap (option_and_then whole_variable) (variable_complete variable fragments h [] refl (λ e. refl))

-- a variable is no part that begins with a mark
pub named_unmarked : (text : List ℕ) (token : Token) (rest : List Item) → role_of token ≡ roles.Named → is_mark text token ≡ false
named_unmarked text token rest is = go token.kind is
  where
    go : (kind : TokenKind) → role_by kind token ≡ roles.Named → (is_mark_kind kind && is_spelled text token) ≡ false
    go kinds.Mark e = absurd (mark_role_is (is_among (codes "#t" ∷ codes "#f" ∷ []) token) e)
      where
        mark_role_is : (b : Bool) → cond b roles.Boolean roles.Other ≡ roles.Named → ⊥
        mark_role_is true f = cc
        mark_role_is false f = cc
    go kind e = refl

pub variable_unmarked : (text : List ℕ) (variable : VariableTree) (fragments : Fragments) → IsVariable variable fragments → marked text (items_of fragments) ≡ false
variable_unmarked text variable fragments (untyped token is) = named_unmarked text token [] is
variable_unmarked text variable fragments (typed token sign type after is sign_is h) = named_unmarked text token [] is

mark_roles : (text : List ℕ) (token : Token) → is_mark text token ≡ true → (is_comma_fragment (one token) ≡ false) × (is_let (one token) ≡ false)
mark_roles text token e = go token.kind e
  where
    go : (kind : TokenKind) → (is_mark_kind kind && is_spelled text token) ≡ true → (is_comma (role_by kind token) ≡ false) × (is_let_role (role_by kind token) ≡ false)
    go kinds.Mark f = both (is_among (codes "#t" ∷ codes "#f" ∷ []) token)
      where
        both : (b : Bool) → (is_comma (cond b roles.Boolean roles.Other) ≡ false) × (is_let_role (cond b roles.Boolean roles.Other) ≡ false)
        both true = (refl, refl)
        both false = (refl, refl)
    go kind f = absurd cc

pub mark_closed : (text : List ℕ) (mark : Token) (rest : Fragments) → is_mark text mark ≡ true → Closed is_comma_fragment false rest → Closed is_comma_fragment false (one mark ∷ rest)
mark_closed text mark rest is h = let (plainly, no_let) = mark_roles text mark is in (plainly, subst (λ (b : Bool). Closed is_comma_fragment b rest) (sym no_let) h)

pub name_closed : (token : Token) → role_of token ≡ roles.Named → Closed is_comma_fragment false (one token ∷ [])
name_closed token is = (rw is refl, rw is refl)

pub name_reads : (mark name : Token) → role_of name ≡ roles.Named → name_items (items_of (one mark ∷ one name ∷ [])) ≡ Some name
name_reads mark name is = rw is refl

pub bind_complete : (variables : List VariableTree) (rest : Option Token) (fragments : Fragments) → Bind variables rest fragments → bind_items (items_of fragments) ≡ Some (record { parts = variables; last = rest })
bind_complete variables rest fragments (last_bound variable all h) =
    ending_only is_comma_fragment (marked (codes "#rest")) variable_items name_items all variable (no_commas_in all (variable_quiet variable all h)) (variable_unmarked (codes "#rest") variable all h) (whole_variable_reads variable all h)
bind_complete variables rest fragments (rest_bound mark name marks is) =
    ending_last is_comma_fragment (marked (codes "#rest")) variable_items name_items (one mark ∷ one name ∷ []) name (mark_closed (codes "#rest") mark (one name ∷ []) marks (name_closed name is)) marks (name_reads mark name is)
bind_complete variables rest fragments (more_bound variable others last separator before after all parts is h k) =
    ap (λ (fs : Fragments). bind_items (items_of fs)) parts
    ∙ ending_more is_comma_fragment (marked (codes "#rest")) variable_items name_items before (one separator) after variable others last (no_commas_in before (variable_quiet variable before h)) (comma_separates separator is) (whole_variable_reads variable before h)
    (bind_complete others last after k)

target_round : (bracket : Bracket) (inner : SeenFragments) (bound : Ending VariableTree Token) → bracket ≡ brackets.Round → row inner ≢ [] → target_in bracket inner (Some bound) ≡ Some (several_of bound)
target_round bracket no_fragment bound is some = absurd (some refl)
target_round bracket (fragment_and first rest) bound is some = rw is refl

bind_some : (variables : List VariableTree) (rest : Option Token) (fragments : Fragments) → Bind variables rest fragments → fragments ≢ []
bind_some variables rest fragments (last_bound variable all (untyped token is)) e = cc
bind_some variables rest fragments (last_bound variable all (typed token sign type after is sign_is h)) e = cc
bind_some variables rest fragments (rest_bound mark name marks is) e = cc
bind_some variables rest fragments (more_bound variable others last separator [] after all parts is h k) e = let f = sym parts ∙ e in cc
bind_some variables rest fragments (more_bound variable others last separator (first ∷ before) after all parts is h k) e = let f = sym parts ∙ e in cc

target_variable : (variable : VariableTree) (fragments : Fragments) → IsVariable variable fragments → target_items (items_of fragments) ≡ Some (one_target variable)
target_variable variable fragments (untyped token is) = ap (option_map one_target) (whole_variable_reads variable fragments (untyped token is))
target_variable variable fragments (typed token sign type after is sign_is h) = ap (option_map one_target) (whole_variable_reads variable fragments (typed token sign type after is sign_is h))

pub target_complete : (target : TargetTree) (fragments : Fragments) → IsTarget target fragments → target_items (items_of fragments) ≡ Some target
target_complete target fragments (by_variable variable all h) = target_variable variable all h
target_complete target fragments (by_nothing opener closer is) = rw is refl
target_complete target fragments (by_brackets variables rest opener inner closer is h) =
    ap (λ (o : Option TargetTree). target_if o (item_of (group opener inner closer)) [])
    (ap (target_in (bracket_of opener closer) inner) (ap bind_items (items_row inner) ∙ bind_complete variables rest (row inner) h) ∙ target_round (bracket_of opener closer) inner (record { parts = variables; last = rest }) is (bind_some variables rest (row inner) h))
