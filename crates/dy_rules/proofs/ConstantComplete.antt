-- What is derived as a list or a vector is read.
use Rattle.std.proofs.Common.{◌≡◌, List, [], ◌∷◌, ◌++◌, Option, Some, None, option_map, option_and_then, refl, sym, ap, ◌∙◌}
use Rattle.dy_tree.specs.declared.token.Token.{Token}
use Rattle.dy_tree.specs.declared.types.LiteralForm.{LiteralForm}
use Rattle.dy_tree.specs.Fragments.{SeenFragment, one, group, SeenFragments, row}
use Rattle.dy_rules.specs.Roles.{role_of, bracket_of}
use Rattle.dy_rules.specs.ConstantTrees.{Constant, literal_item, list_item, vector_item, constants_of, tail_of}
use Rattle.dy_rules.specs.Constants.{token_literal, IsLiteral, one_token, negative_integer, ConstantSort, constant, some_constants, in_list, in_vector, IsConstant, literal_constant, list_constant, vector_constant, one_constant, more_constants, empty_list, proper_list, improper_list, empty_vector, full_vector}
use Rattle.dy_rules.specs.ConstantReading.{Element, comes, after_sign, known, Listing, started, element, ending, inside, list_found, vector_found, ConstantItem, token_of, known_literal, at_element, group_element, element_step, listing_step, constant_item, listed, list_in, vector_in}
use Rattle.dy_tree.specs.Fragments.{pack}
use Rattle.dy_tree.specs.declared.roles.Role.{Role}
use Rattle.dy_tree.specs.declared.roles.Role.TheVariants as roles
use Rattle.dy_tree.specs.declared.brackets.Bracket.{Bracket}
use Rattle.dy_tree.specs.declared.brackets.Bracket.TheVariants as brackets
use Rattle.dy_rules.proofs.Lists.{pack_row, goes_on, some_one}

abbrev Fragments : Type 0
Fragments = List SeenFragment

-- the constant that these fragments go on to
abbrev elements : Element → Fragments → Option Element
elements state [] = Some state
elements state (first ∷ rest) = option_and_then (λ next. elements next rest) (element_step state (constant_item first))

abbrev lists : Listing → Fragments → Option Listing
lists listing fragments = listed listing (pack fragments)

pub lists_on : (before after : Fragments) (listing next : Listing) → lists listing before ≡ Some next → lists listing (before ++ after) ≡ lists next after
lists_on [] after listing next e = ap (λ (l : Listing). lists l after) (some_one listing next e)
lists_on (first ∷ before) after listing next e =
    goes_on (listing_step listing (constant_item first)) (λ (l : Listing). lists l before) (λ (l : Listing). lists l (before ++ after)) next (lists next after) (λ l. lists_on before after l next) e

element_some : (items : List Constant) (state next : Element) (item : ConstantItem) → element_step state item ≡ Some next → listing_step (element items state) item ≡ Some (element items next)
element_some items comes next item e = rw e refl
element_some items (after_sign sign) next item e = rw e refl
element_some items (known value) next item e = absurd cc

pub in_element : (fragments : Fragments) (items : List Constant) (state next : Element) → elements state fragments ≡ Some next → lists (element items state) fragments ≡ Some (element items next)
in_element [] items state next e = ap (λ (s : Element). Some (element items s)) (some_one state next e)
in_element (first ∷ rest) items state next e = go (element_step state (constant_item first)) refl (λ s. in_element rest items s next) e
  where
    go : (found : Option Element) → element_step state (constant_item first) ≡ found → ((s : Element) → elements s rest ≡ Some next → lists (element items s) rest ≡ Some (element items next))
        → option_and_then (λ (s : Element). elements s rest) found ≡ Some next → option_and_then (λ (l : Listing). lists l rest) (listing_step (element items state) (constant_item first)) ≡ Some (element items next)
    go None is more f = absurd cc
    go (Some s) is more f = rw (element_some items state s (constant_item first) is) (more s f)

pub in_ending : (fragments : Fragments) (items : List Constant) (state next : Element) → elements state fragments ≡ Some next → lists (ending items state) fragments ≡ Some (ending items next)
in_ending [] items state next e = ap (λ (s : Element). Some (ending items s)) (some_one state next e)
in_ending (first ∷ rest) items state next e = go (element_step state (constant_item first)) (λ s. in_ending rest items s next) e
  where
    go : (found : Option Element) → ((s : Element) → elements s rest ≡ Some next → lists (ending items s) rest ≡ Some (ending items next))
        → option_and_then (λ (s : Element). elements s rest) found ≡ Some next → option_and_then (λ (l : Listing). lists l rest) (option_map (ending items) found) ≡ Some (ending items next)
    go None more f = absurd cc
    go (Some s) more f = more s f

in_started : (fragments : Fragments) (value : Constant) → elements comes fragments ≡ Some (known value) → lists started fragments ≡ Some (element [] (known value))
in_started [] value e = absurd cc
in_started (first ∷ rest) value e = go (element_step comes (constant_item first)) (λ s. in_element rest [] s (known value)) e
  where
    go : (found : Option Element) → ((s : Element) → elements s rest ≡ Some (known value) → lists (element [] s) rest ≡ Some (element [] (known value)))
        → option_and_then (λ (s : Element). elements s rest) found ≡ Some (known value) → option_and_then (λ (l : Listing). lists l rest) (option_map (element []) found) ≡ Some (element [] (known value))
    go None more f = absurd cc
    go (Some s) more f = more s f

-- items were read, up to the last one
pub record ReadItems (items : List Constant) (fragments : List SeenFragment) : Type 0 where
  pub before : List Constant
  pub value : Constant
  pub same : before ++ value ∷ [] ≡ items
  pub read : lists started fragments ≡ Some (element before (known value))

abbrev pub CompleteConstant : ConstantSort → Fragments → Type 0
CompleteConstant (constant value) fragments = elements comes fragments ≡ Some (known value)
CompleteConstant (some_constants items) fragments = ReadItems items fragments
CompleteConstant (in_list items last) fragments = option_and_then list_found (lists started fragments) ≡ Some (inside items last)
CompleteConstant (in_vector items) fragments = option_and_then vector_found (lists started fragments) ≡ Some items

literal_read : (role : Role) (token : Token) (form : LiteralForm) → token_literal role token ≡ Some form → at_element role token ≡ Some (known_literal form)
literal_read roles.Minus token form e = absurd cc
literal_read role token form e = ap (λ (o : Option LiteralForm). option_map known_literal o) e

literal_elements : (form : LiteralForm) (fragments : Fragments) → IsLiteral form fragments → elements comes fragments ≡ Some (known (literal_item form))
literal_elements form fragments (one_token token found e) = rw (literal_read (role_of token) token form e) refl
literal_elements form fragments (negative_integer sign digits is_minus is) = rw (is_minus, is) refl

list_element : (opener : Token) (found : Option Listing) (items : List Constant) (last : Option Constant) (kind : Bracket) → kind ≡ brackets.SharpRound → option_and_then list_found found ≡ Some (inside items last)
    → group_element kind opener found ≡ Some (known (list_item opener (constants_of items) (tail_of last)))
list_element opener found items last kind is e = rw (is, e) refl

vector_element : (opener : Token) (found : Option Listing) (items : List Constant) (kind : Bracket) → kind ≡ brackets.SharpSquare → option_and_then vector_found found ≡ Some items → group_element kind opener found ≡ Some (known (vector_item opener (constants_of items)))
vector_element opener found items kind is e = rw (is, e) refl

one_element : (state : Element) (fragment : SeenFragment) (next : Element) → element_step state (constant_item fragment) ≡ Some next → elements state (fragment ∷ []) ≡ Some next
one_element state fragment next e = rw e refl

comma_read : (items : List Constant) (value : Constant) (separator : Token) → role_of separator ≡ roles.Comma → listing_step (element items (known value)) (token_of separator) ≡ Some (element (items ++ value ∷ []) comes)
comma_read items value separator is = rw is refl

dot_read : (items : List Constant) (value : Constant) (point : Token) → role_of point ≡ roles.Dot → listing_step (element items (known value)) (token_of point) ≡ Some (ending (items ++ value ∷ []) comes)
dot_read items value point is = rw is refl

pub constant_complete : (sort : ConstantSort) (fragments : List SeenFragment) → IsConstant sort fragments → CompleteConstant sort fragments
constant_complete sort fragments (literal_constant form all h) = literal_elements form all h
constant_complete sort fragments (list_constant items last opener inner closer is h) =
    let e : option_and_then list_found (listed started inner) ≡ Some (inside items last) = ap (λ (fs : SeenFragments). option_and_then list_found (listed started fs)) (sym (pack_row inner)) ∙ constant_complete (in_list items last) (row inner) h in
    one_element comes (group opener inner closer) _ (list_element opener (listed started inner) items last (bracket_of opener closer) is e)
constant_complete sort fragments (vector_constant items opener inner closer is h) =
    let e : option_and_then vector_found (listed started inner) ≡ Some items = ap (λ (fs : SeenFragments). option_and_then vector_found (listed started fs)) (sym (pack_row inner)) ∙ constant_complete (in_vector items) (row inner) h in
    one_element comes (group opener inner closer) _ (vector_element opener (listed started inner) items (bracket_of opener closer) is e)
constant_complete sort fragments (one_constant value all h) = record { before = []; value = value; same = refl; read = in_started all value (constant_complete (constant value) all h) }
constant_complete sort fragments (more_constants items value separator before after all parts is h k) =
    let first = constant_complete (some_constants items) before h in
    let second = constant_complete (constant value) after k in
    let r : lists started before ≡ Some (element first.before (known first.value)) = first.read in
    let step = comma_read first.before first.value separator is in
    record {
      before = items;
      value = value;
      same = refl;
      read = ap (lists started) parts ∙ lists_on before (one separator ∷ after) started (element first.before (known first.value)) r
          ∙ ap (λ (o : Option Listing). option_and_then (λ (l : Listing). lists l after) o) step ∙ ap (λ (found : List Constant). lists (element found comes) after) first.same ∙ in_element after items comes (known value) second;
    }
constant_complete sort fragments empty_list = refl
constant_complete sort fragments (proper_list items all h) =
    let first = constant_complete (some_constants items) all h in
    ap (λ (o : Option Listing). option_and_then list_found o) first.read ∙ ap (λ (found : List Constant). Some (inside found None)) first.same
constant_complete sort fragments (improper_list items last point before after all parts is h k) =
    let first = constant_complete (some_constants items) before h in
    let second = constant_complete (constant last) after k in
    let r : lists started before ≡ Some (element first.before (known first.value)) = first.read in
    let step = dot_read first.before first.value point is in
    let whole : lists started all ≡ Some (ending items (known last)) =
    ap (lists started) parts ∙ lists_on before (one point ∷ after) started (element first.before (known first.value)) r
    ∙ ap (λ (o : Option Listing). option_and_then (λ (l : Listing). lists l after) o) step ∙ ap (λ (found : List Constant). lists (ending found comes) after) first.same ∙ in_ending after items comes (known last) second in
    ap (λ (o : Option Listing). option_and_then list_found o) whole
constant_complete sort fragments empty_vector = refl
constant_complete sort fragments (full_vector items all h) =
    let first = constant_complete (some_constants items) all h in
    ap (λ (o : Option Listing). option_and_then vector_found o) first.read ∙ ap (λ (found : List Constant). Some found) first.same

pub list_complete : (inner : SeenFragments) (items : List Constant) (last : Option Constant) → IsConstant (in_list items last) (row inner) → list_in inner ≡ Some (inside items last)
list_complete inner items last h = ap (λ (fs : SeenFragments). option_and_then list_found (listed started fs)) (sym (pack_row inner)) ∙ constant_complete (in_list items last) (row inner) h

pub vector_complete : (inner : SeenFragments) (items : List Constant) → IsConstant (in_vector items) (row inner) → vector_in inner ≡ Some items
vector_complete inner items h = ap (λ (fs : SeenFragments). option_and_then vector_found (listed started fs)) (sym (pack_row inner)) ∙ constant_complete (in_vector items) (row inner) h
