-- What is read as a list or a vector is derived.
use Rattle.std.proofs.Common.{◌≡◌, List, [], ◌∷◌, ◌++◌, Option, Some, None, option_map, option_and_then, refl, sym, subst, append_assoc}
use Rattle.std.proofs.lemmas.List.{append-nil}
use Rattle.dy_tree.specs.declared.token.Token.{Token}
use Rattle.dy_tree.specs.declared.types.LiteralForm.{LiteralForm}
use Rattle.dy_tree.specs.Fragments.{SeenFragment, one, group, SeenFragments, no_fragment, fragment_and, row}
use Rattle.dy_tree.specs.declared.roles.Role.{Role}
use Rattle.dy_tree.specs.declared.roles.Role.TheVariants as roles
use Rattle.dy_tree.specs.declared.brackets.Bracket.{Bracket}
use Rattle.dy_tree.specs.declared.brackets.Bracket.TheVariants as brackets
use Rattle.dy_rules.specs.Roles.{role_of, negative, bracket_of}
use Rattle.dy_rules.specs.ConstantTrees.{Constant}
use Rattle.dy_rules.specs.Constants.{token_literal, one_token, negative_integer, constant, some_constants, in_list, in_vector, IsConstant, literal_constant, list_constant, vector_constant, one_constant, more_constants, empty_list, proper_list, improper_list, empty_vector, full_vector}
use Rattle.dy_rules.specs.ConstantReading.{Element, comes, after_sign, known, Listing, started, element, ending, Inside, list_found, vector_found, ConstantItem, token_of, group_of, known_literal, known_list, known_vector, at_element, at_digits, group_element, element_step, behind_constant, listing_step, constant_item, listed, list_in, vector_in}

abbrev Fragments : Type 0
Fragments = List SeenFragment

-- what stands in front of an item
pub data Before : List Constant → List SeenFragment → Type 0 where
  before_first : Before [] []
  before_next : (items : List Constant) (first all : List SeenFragment) (separator : Token) → all ≡ first ++ one separator ∷ [] → role_of separator ≡ roles.Comma → IsConstant (some_constants items) first → Before items all

abbrev pub Known : Element → Fragments → Type 0
Known comes middle = middle ≡ []
Known (after_sign sign) middle = (middle ≡ one sign ∷ []) × (role_of sign ≡ roles.Minus)
Known (known value) middle = IsConstant (constant value) middle

abbrev pub KnownIf : Option Element → Fragments → Type 0
KnownIf None middle = Unit {0}
KnownIf (Some state) middle = Known state middle

abbrev pub Listed : Listing → Fragments → Type 0
Listed started all = all ≡ []
Listed (element items state) all = (before : Fragments) × (middle : Fragments) × (all ≡ before ++ middle) × Before items before × Known state middle
Listed (ending items state) all = (first : Fragments) × (point : Token) × (middle : Fragments) × (all ≡ first ++ one point ∷ middle) × (role_of point ≡ roles.Dot) × IsConstant (some_constants items) first × Known state middle

abbrev pub ListedIf : Option Listing → Fragments → Type 0
ListedIf None all = Unit {0}
ListedIf (Some listing) all = Listed listing all

items_end : (items : List Constant) (value : Constant) (before middle : Fragments) → Before items before → IsConstant (constant value) middle → IsConstant (some_constants (items ++ value ∷ [])) (before ++ middle)
items_end items value before middle before_first h = one_constant value middle h
items_end items value before middle (before_next found first all separator parts is k) h = more_constants items value separator first middle (before ++ middle) (rw parts (simp append_assoc)) is k h

abbrev InList : Option Inside → Fragments → Type 0
InList None inner = Unit {0}
InList (Some found) inner = IsConstant (in_list found.items found.last) inner

abbrev InVector : Option (List Constant) → Fragments → Type 0
InVector None inner = Unit {0}
InVector (Some items) inner = IsConstant (in_vector items) inner

list_found_sound : (listing : Listing) (all : Fragments) → Listed listing all → InList (list_found listing) all
list_found_sound started all s = rw s empty_list
list_found_sound (element items comes) all s = tt
list_found_sound (element items (after_sign sign)) all s = tt
list_found_sound (element items (known value)) all (before, middle, parts, b, k) = proper_list (items ++ value ∷ []) all (rw parts (items_end items value before middle b k))
list_found_sound (ending items comes) all s = tt
list_found_sound (ending items (after_sign sign)) all s = tt
list_found_sound (ending items (known value)) all (first, point, middle, parts, is, h, k) = improper_list items value point first middle all parts is h k

vector_found_sound : (listing : Listing) (all : Fragments) → Listed listing all → InVector (vector_found listing) all
vector_found_sound started all s = rw s empty_vector
vector_found_sound (element items comes) all s = tt
vector_found_sound (element items (after_sign sign)) all s = tt
vector_found_sound (element items (known value)) all (before, middle, parts, b, k) = full_vector (items ++ value ∷ []) all (rw parts (items_end items value before middle b k))
vector_found_sound (ending items state) all s = tt

lists_if : (found : Option Listing) (inner : Fragments) → ListedIf found inner → InList (option_and_then list_found found) inner
lists_if None inner h = tt
lists_if (Some listing) inner h = list_found_sound listing inner h

vectors_if : (found : Option Listing) (inner : Fragments) → ListedIf found inner → InVector (option_and_then vector_found found) inner
vectors_if None inner h = tt
vectors_if (Some listing) inner h = vector_found_sound listing inner h

literal_known : (token : Token) (form : Option LiteralForm) → token_literal (role_of token) token ≡ form → KnownIf (option_map known_literal form) (one token ∷ [])
literal_known token None e = tt
literal_known token (Some form) e = literal_constant form (one token ∷ []) (one_token token form e)

at_element_sound : (role : Role) (token : Token) → role_of token ≡ role → KnownIf (at_element role token) (one token ∷ [])
at_element_sound roles.Minus token is = (refl, is)
at_element_sound roles.Integer token is = literal_known token (token_literal roles.Integer token) (rw is refl)
at_element_sound roles.Character token is = literal_known token (token_literal roles.Character token) (rw is refl)
at_element_sound roles.Text token is = literal_known token (token_literal roles.Text token) (rw is refl)
at_element_sound roles.Boolean token is = literal_known token (token_literal roles.Boolean token) (rw is refl)
at_element_sound roles.Symbol token is = literal_known token (token_literal roles.Symbol token) (rw is refl)
at_element_sound role token is = tt

at_digits_sound : (role : Role) (sign token : Token) → role_of token ≡ role → role_of sign ≡ roles.Minus → KnownIf (at_digits role sign token) (one sign ∷ one token ∷ [])
at_digits_sound roles.Integer sign token is m = literal_constant (negative sign token) (one sign ∷ one token ∷ []) (negative_integer sign token m is)
at_digits_sound role sign token is m = tt

known_lists : (found : Option Inside) (opener : Token) (inner : SeenFragments) (closer : Token) → bracket_of opener closer ≡ brackets.SharpRound → InList found (row inner) → KnownIf (option_map (known_list opener) found) (group opener inner closer ∷ [])
known_lists None opener inner closer is h = tt
known_lists (Some found) opener inner closer is h = list_constant found.items found.last opener inner closer is h

known_vectors : (found : Option (List Constant)) (opener : Token) (inner : SeenFragments) (closer : Token) → bracket_of opener closer ≡ brackets.SharpSquare → InVector found (row inner) → KnownIf (option_map (known_vector opener) found) (group opener inner closer ∷ [])
known_vectors None opener inner closer is h = tt
known_vectors (Some items) opener inner closer is h = vector_constant items opener inner closer is h

group_known : (kind : Bracket) (found : Option Listing) (opener : Token) (inner : SeenFragments) (closer : Token) → bracket_of opener closer ≡ kind → ListedIf found (row inner) → KnownIf (group_element kind opener found) (group opener inner closer ∷ [])
group_known brackets.SharpRound found opener inner closer is h = known_lists (option_and_then list_found found) opener inner closer is (lists_if found (row inner) h)
group_known brackets.SharpSquare found opener inner closer is h = known_vectors (option_and_then vector_found found) opener inner closer is (vectors_if found (row inner) h)
group_known kind found opener inner closer is h = tt

-- what follows of the fragment, by itself
abbrev ElementSteps : SeenFragment → ConstantItem → Type 0
ElementSteps fragment item = (state : Element) (middle : Fragments) → Known state middle → KnownIf (element_step state item) (middle ++ fragment ∷ [])

token_steps : (token : Token) → ElementSteps (one token) (token_of token)
token_steps token comes middle h = rw h (at_element_sound (role_of token) token refl)
token_steps token (after_sign sign) middle (e, is) = rw e (at_digits_sound (role_of token) sign token refl is)
token_steps token (known value) middle h = tt

group_steps : (opener : Token) (inner : SeenFragments) (closer : Token) (found : Option Listing) → ListedIf found (row inner) → ElementSteps (group opener inner closer) (group_of (bracket_of opener closer) opener found)
group_steps opener inner closer found h comes middle e = rw e (group_known (bracket_of opener closer) found opener inner closer refl h)
group_steps opener inner closer found h (after_sign sign) middle e = tt
group_steps opener inner closer found h (known value) middle e = tt

element_if : (items : List Constant) (found : Option Element) (before middle : Fragments) → Before items before → KnownIf found middle → ListedIf (option_map (element items) found) (before ++ middle)
element_if items None before middle b h = tt
element_if items (Some state) before middle b h = (before, middle, refl, b, h)

ending_if : (items : List Constant) (found : Option Element) (first : Fragments) (point : Token) (middle : Fragments) → role_of point ≡ roles.Dot → IsConstant (some_constants items) first → KnownIf found middle → ListedIf (option_map (ending items) found) (first ++ one point ∷ middle)
ending_if items None first point middle is b h = tt
ending_if items (Some state) first point middle is b h = (first, point, middle, refl, is, b, h)

behind_sound : (role : Role) (items : List Constant) (token : Token) (all : Fragments) → role_of token ≡ role → IsConstant (some_constants items) all → ListedIf (behind_constant role items) (all ++ one token ∷ [])
behind_sound roles.Comma items token all is h = (all ++ one token ∷ [], [], sym (append-nil (all ++ one token ∷ [])), before_next items all (all ++ one token ∷ []) token refl is h, refl)
behind_sound roles.Dot items token all is h = (all, token, [], refl, is, h, refl)
behind_sound role items token all is h = tt

moved : (before middle all : Fragments) (last : SeenFragment) → all ≡ before ++ middle → before ++ (middle ++ last ∷ []) ≡ all ++ last ∷ []
moved before middle all last parts = rw parts (simp append_assoc)

moved_point : (first middle all : Fragments) (point : Token) (last : SeenFragment) → all ≡ first ++ one point ∷ middle → first ++ one point ∷ (middle ++ last ∷ []) ≡ all ++ last ∷ []
moved_point first middle all point last parts = rw parts (simp append_assoc)

known_behind : (items : List Constant) (value : Constant) (fragment : SeenFragment) (all : Fragments) → IsConstant (some_constants (items ++ value ∷ [])) all → ListedIf (listing_step (element items (known value)) (constant_item fragment)) (all ++ fragment ∷ [])
known_behind items value (one token) all h = behind_sound (role_of token) (items ++ value ∷ []) token all refl h
known_behind items value (group opener inner closer) all h = tt

listing_sound : (listing : Listing) (fragment : SeenFragment) (all : Fragments) → Listed listing all → ElementSteps fragment (constant_item fragment) → ListedIf (listing_step listing (constant_item fragment)) (all ++ fragment ∷ [])
listing_sound started fragment all s steps = rw s (element_if [] (element_step comes (constant_item fragment)) [] (fragment ∷ []) before_first (steps comes [] refl))
listing_sound (element items comes) fragment all (before, middle, parts, b, k) steps =
    subst (ListedIf (option_map (element items) (element_step comes (constant_item fragment)))) (moved before middle all fragment parts)
    (element_if items (element_step comes (constant_item fragment)) before (middle ++ fragment ∷ []) b (steps comes middle k))
listing_sound (element items (after_sign sign)) fragment all (before, middle, parts, b, k) steps =
    subst (ListedIf (option_map (element items) (element_step (after_sign sign) (constant_item fragment)))) (moved before middle all fragment parts)
    (element_if items (element_step (after_sign sign) (constant_item fragment)) before (middle ++ fragment ∷ []) b (steps (after_sign sign) middle k))
listing_sound (element items (known value)) fragment all (before, middle, parts, b, k) steps = known_behind items value fragment all (rw parts (items_end items value before middle b k))
listing_sound (ending items state) fragment all (first, point, middle, parts, is, h, k) steps =
    subst (ListedIf (option_map (ending items) (element_step state (constant_item fragment)))) (moved_point first middle all point fragment parts)
    (ending_if items (element_step state (constant_item fragment)) first point (middle ++ fragment ∷ []) is h (steps state middle k))

listing_goes : (found : Option Listing) (first : SeenFragment) (rest : SeenFragments) (all : Fragments) → ListedIf found (all ++ first ∷ [])
    → ((listing : Listing) (front : Fragments) → Listed listing front → ListedIf (listed listing rest) (front ++ row rest)) → ListedIf (option_and_then (λ (next : Listing). listed next rest) found) (all ++ first ∷ row rest)
listing_goes None first rest all h more = tt
listing_goes (Some listing) first rest all h more = subst (ListedIf (listed listing rest)) (append_assoc all (first ∷ []) (row rest)) (more listing (all ++ first ∷ []) h)

mutual
  pub constant_sound : (fragment : SeenFragment) → ElementSteps fragment (constant_item fragment)
  constant_sound (one token) = token_steps token
  constant_sound (group opener inner closer) = group_steps opener inner closer (listed started inner) (listed_sound inner started [] refl)

  pub listed_sound : (inner : SeenFragments) (listing : Listing) (all : Fragments) → Listed listing all → ListedIf (listed listing inner) (all ++ row inner)
  listed_sound no_fragment listing all s = rw append-nil s
  listed_sound (fragment_and first rest) listing all s = listing_goes (listing_step listing (constant_item first)) first rest all (listing_sound listing first all s (constant_sound first)) (λ next front. listed_sound rest next front)

pub list_sound : (inner : SeenFragments) (found : Inside) → list_in inner ≡ Some found → IsConstant (in_list found.items found.last) (row inner)
list_sound inner found e = subst (λ (o : Option Inside). InList o (row inner)) e (lists_if (listed started inner) (row inner) (listed_sound inner started [] refl))

pub vector_sound : (inner : SeenFragments) (items : List Constant) → vector_in inner ≡ Some items → IsConstant (in_vector items) (row inner)
vector_sound inner items e = subst (λ (o : Option (List Constant)). InVector o (row inner)) e (vectors_if (listed started inner) (row inner) (listed_sound inner started [] refl))
