-- What is read of a constant is what is read of how it begins.
use Rattle.std.proofs.Common.{◌≡◌, List, [], ◌∷◌, Option, Some, None, option_map, option_and_then, refl, ap, subst, ◌∙◌}
use Rattle.dy_tree.specs.declared.token.Token.{Token}
use Rattle.dy_tree.specs.declared.types.LiteralForm.{LiteralForm}
use Rattle.dy_tree.specs.declared.types.LiteralForm.TheVariants as literals
use Rattle.dy_tree.specs.Fragments.{SeenFragment, one, group, SeenFragments, row, pack}
use Rattle.dy_tree.specs.declared.roles.Role.{Role}
use Rattle.dy_tree.specs.declared.roles.Role.TheVariants as roles
use Rattle.dy_tree.specs.declared.brackets.Bracket.{Bracket}
use Rattle.dy_tree.specs.declared.brackets.Bracket.TheVariants as brackets
use Rattle.dy_rules.specs.Roles as rules
use Rattle.dy_rules.specs.Roles.{role_of, negative, bracket_of}
use Rattle.dy_rules.specs.Constants.{token_literal}
use Rattle.dy_rules.specs.ConstantTrees.{Constant, literal_item}
use Rattle.dy_rules.specs.ConstantReading.{Element, comes, after_sign, known, Listing, started, element, ending, Inside, list_found, ConstantItem, token_of, known_literal, known_list, known_vector, at_element, at_digits, group_element, element_step, listing_step, constant_item, listed, list_in, vector_in}
use Rattle.dy_rules.proofs.Lists.{pack_row, some_one}
use Rattle.dy_rules_depth.specs.Capping.{filled_literal}
use Rattle.dy_rules_depth.proofs.Fills.{symbol_present}
use Rattle.dy_read_constants.specs.ConstantLists.{ends}
use Rattle.dy_read_constants.specs.ConstantShapes.{literal_or_none, shape_of_digits, shape_behind_sign, shape_of_token, shape_read, group_read, list_of, vector_of, Front, in_front, constant_front}

present_by : (literal form : LiteralForm) → filled_literal literal ≡ literal_item literal → Some literal ≡ Some form → filled_literal form ≡ literal_item form
present_by literal form h e = subst (λ (it : LiteralForm). filled_literal it ≡ literal_item it) (some_one literal form e) h

-- A literal that stands in a text is no leaf that stands for something too deep.
pub literal_present : (token : Token) (form : LiteralForm) → token_literal (role_of token) token ≡ Some form → filled_literal form ≡ literal_item form
literal_present token form = go (role_of token) refl
  where
    go : (role : Role) → role_of token ≡ role → token_literal role token ≡ Some form → filled_literal form ≡ literal_item form
    go roles.Integer is e = present_by (rules.positive token) form refl e
    go roles.Character is e = present_by (literals.Char token) form refl e
    go roles.Text is e = present_by (literals.Str token) form refl e
    go roles.Boolean is e = present_by (literals.Bool token) form refl e
    go roles.Symbol is e = present_by (literals.Symbol token) form (rw (symbol_present token is) refl) e
    go role is e = absurd cc

then_ends : (found : Option Listing) (rest : List SeenFragment) → option_and_then list_found (option_and_then (λ next. listed next (pack rest)) found) ≡ option_and_then (λ next. ends next rest) found
then_ends None rest = refl
then_ends (Some next) rest = refl

pub ends_step : (listing : Listing) (first : SeenFragment) (rest : List SeenFragment) → ends listing (first ∷ rest) ≡ option_and_then (λ next. ends next rest) (listing_step listing (constant_item first))
ends_step listing first rest = then_ends (listing_step listing (constant_item first)) rest

-- where a constant comes, as an item or behind the dot
module _ (make : Element → Listing) (at_comes : (item : ConstantItem) → listing_step (make comes) item ≡ option_map make (element_step comes item))
    (at_sign : (sign : Token) (item : ConstantItem) → listing_step (make (after_sign sign)) item ≡ option_map make (element_step (after_sign sign) item))
    (no_item : list_found (make comes) ≡ None) (no_digits : (sign : Token) → list_found (make (after_sign sign)) ≡ None) where
  abbrev behind : Front → Option Inside
  behind front = ends (make (known front.value)) front.rest

  abbrev go_on : List SeenFragment → Option Element → Option Inside
  go_on rest found = option_and_then (λ next. ends next rest) (option_map make found)

  digits_read : (role : Role) (sign digits : Token) (rest : List SeenFragment) → go_on rest (at_digits role sign digits) ≡ option_and_then behind (shape_read (shape_of_digits role sign digits rest))
  digits_read roles.Integer sign digits rest = refl
  digits_read role sign digits rest = refl

  sign_read : (sign : Token) (rest : List SeenFragment) → ends (make (after_sign sign)) rest ≡ option_and_then behind (shape_read (shape_behind_sign sign rest))
  sign_read sign [] = no_digits sign
  sign_read sign (one digits ∷ rest) =
      ends_step (make (after_sign sign)) (one digits) rest ∙ ap (option_and_then (λ next. ends next rest)) (at_sign sign (token_of digits)) ∙ digits_read (role_of digits) sign digits rest
  sign_read sign (group opener inner closer ∷ rest) =
      ends_step (make (after_sign sign)) (group opener inner closer) rest ∙ ap (option_and_then (λ next. ends next rest)) (at_sign sign (constant_item (group opener inner closer)))

  literal_read : (found : Option LiteralForm) (rest : List SeenFragment) → go_on rest (option_map known_literal found) ≡ option_and_then behind (shape_read (literal_or_none found rest))
  literal_read None rest = refl
  literal_read (Some form) rest = refl

  token_read : (role : Role) (token : Token) (rest : List SeenFragment) → go_on rest (at_element role token) ≡ option_and_then behind (shape_read (shape_of_token role token rest))
  token_read roles.Minus token rest = sign_read token rest
  token_read role token rest = literal_read (token_literal role token) rest

  list_read : (opener : Token) (found : Option Inside) (rest : List SeenFragment) → go_on rest (option_map (known_list opener) found) ≡ option_and_then behind (option_map (in_front rest) (option_map (list_of opener) found))
  list_read opener None rest = refl
  list_read opener (Some found) rest = refl

  vector_read : (opener : Token) (found : Option (List Constant)) (rest : List SeenFragment) → go_on rest (option_map (known_vector opener) found) ≡ option_and_then behind (option_map (in_front rest) (option_map (vector_of opener) found))
  vector_read opener None rest = refl
  vector_read opener (Some found) rest = refl

  group_is : (bracket : Bracket) (opener : Token) (inner : SeenFragments) (rest : List SeenFragment) → go_on rest (group_element bracket opener (listed started inner)) ≡ option_and_then behind (option_map (in_front rest) (group_read bracket opener (row inner)))
  group_is brackets.SharpRound opener inner rest = rw (pack_row inner) (list_read opener (list_in inner) rest)
  group_is brackets.SharpSquare opener inner rest = rw (pack_row inner) (vector_read opener (vector_in inner) rest)
  group_is bracket opener inner rest = refl

  -- A constant is read, and then what stands behind it.
  pub front_read : (fragments : List SeenFragment) → ends (make comes) fragments ≡ option_and_then (λ front. ends (make (known front.value)) front.rest) (constant_front fragments)
  front_read [] = no_item
  front_read (one token ∷ rest) = ends_step (make comes) (one token) rest ∙ ap (option_and_then (λ next. ends next rest)) (at_comes (token_of token)) ∙ token_read (role_of token) token rest
  front_read (group opener inner closer ∷ rest) =
      ends_step (make comes) (group opener inner closer) rest ∙ ap (option_and_then (λ next. ends next rest)) (at_comes (constant_item (group opener inner closer)))
      ∙ group_is (bracket_of opener closer) opener inner rest

pub item_read : (items : List Constant) (fragments : List SeenFragment) → ends (element items comes) fragments ≡ option_and_then (λ front. ends (element items (known front.value)) front.rest) (constant_front fragments)
item_read items fragments = front_read (element items) (λ item. refl) (λ sign item. refl) refl (λ sign. refl) fragments

pub tail_read : (items : List Constant) (fragments : List SeenFragment) → ends (ending items comes) fragments ≡ option_and_then (λ front. ends (ending items (known front.value)) front.rest) (constant_front fragments)
tail_read items fragments = front_read (ending items) (λ item. refl) (λ sign item. refl) refl (λ sign. refl) fragments
