-- What is read of fragments is derived.
use Rattle.std.proofs.Common.{◌≡◌, List, [], ◌∷◌, Option, Some, None, option_map, refl, subst}
use Rattle.dy_tree.specs.declared.token.Token.{Token}
use Rattle.dy_tree.specs.Fragments.{SeenFragment, one, group, SeenFragments, no_fragment, fragment_and, row}
use Rattle.dy_tree.specs.declared.brackets.Bracket.{Bracket}
use Rattle.dy_tree.specs.declared.brackets.Bracket.TheVariants as enclosures
use Rattle.dy_tree.specs.declared.splitters.Splitting.TheVariants as splittings
use Rattle.dy_rules.specs.ConstantTrees.{Constant}
use Rattle.dy_rules.specs.Trees.{Tree}
use Rattle.dy_rules.specs.Roles.{bracket_of}
use Rattle.dy_rules.specs.ConstantReading.{Inside, list_in, vector_in}
use Rattle.dy_rules.specs.Productions.{expression, Derives, list_leaf, vector_leaf, head, Catches, for_head, brackets, signature}
use Rattle.dy_rules.specs.Cutting.{Item, fragments_in}
use Rattle.dy_rules.specs.Reading.{expression_items, passed_items}
use Rattle.dy_rules.specs.Types.{some_types, IsType, Bind, Give}
use Rattle.dy_rules.specs.StatementReading.{statement_items}
use Rattle.dy_rules.specs.Fragments.{list_tree, vector_tree, tree_inside, found_of, item_of, items_in, items_of}
use Rattle.dy_rules.proofs.ConstantSound.{list_sound, vector_sound}
use Rattle.dy_rules.proofs.Lists.{fragments_row}
use Rattle.dy_rules.proofs.Sound.{Holds, HoldsIf, InnerArguments, LimitsAre, InsideSound, ItemSound, ItemsSound, token_sound, group_sound, expression_sound, passed_sound, NamedIs}
use Rattle.dy_rules.proofs.TypeSound.{types_sound, limits_sound, bind_sound}
use Rattle.dy_rules.proofs.ChoiceSound.{head_sound}
use Rattle.dy_rules.proofs.StatementSound.{statement_sound}
use Rattle.dy_rules.proofs.BlockSound.{caught_sound}
use Rattle.dy_rules.proofs.LoopSound.{for_head_sound}
use Rattle.dy_rules.proofs.SignatureSound.{give_sound, listed_items_sound, method_sound, named_sound}

holds_read : (bracket : Bracket) (found : Option Tree) (opener : Token) (inner : SeenFragments) (closer : Token) → ((tree : Tree) → found ≡ Some tree → Holds bracket tree opener inner closer) → HoldsIf bracket found opener inner closer
holds_read bracket None opener inner closer h = tt
holds_read bracket (Some tree) opener inner closer h = h tree refl

list_holds : (found : Option Inside) (opener : Token) (inner : SeenFragments) (closer : Token) → list_in inner ≡ found → bracket_of opener closer ≡ enclosures.SharpRound → HoldsIf enclosures.SharpRound (option_map (list_tree opener) found) opener inner closer
list_holds None opener inner closer e is = tt
list_holds (Some found) opener inner closer e is = λ words. list_leaf words found.items found.last opener inner closer is (list_sound inner found e)

vector_holds : (found : Option (List Constant)) (opener : Token) (inner : SeenFragments) (closer : Token) → vector_in inner ≡ found → bracket_of opener closer ≡ enclosures.SharpSquare → HoldsIf enclosures.SharpSquare (option_map (vector_tree opener) found) opener inner closer
vector_holds None opener inner closer e is = tt
vector_holds (Some items) opener inner closer e is = λ words. vector_leaf words items opener inner closer is (vector_sound inner items e)

expression_row : (inner : SeenFragments) (items : List Item) (tree : Tree) → ItemsSound items → fragments_in items ≡ row inner → expression_items splittings.Nothing items ≡ Some tree → Derives splittings.Nothing (expression tree) (row inner)
expression_row inner items tree h parts e = subst (Derives splittings.Nothing (expression tree)) parts (expression_sound splittings.Nothing items tree h e)

inside_sound : (bracket : Bracket) (opener : Token) (inner : SeenFragments) (closer : Token) (items : List Item) → bracket_of opener closer ≡ bracket → ItemsSound items → fragments_in items ≡ row inner → HoldsIf bracket (tree_inside bracket opener inner items) opener inner closer
inside_sound enclosures.Round opener inner closer items is h parts = holds_read enclosures.Round (expression_items splittings.Nothing items) opener inner closer (λ tree e. expression_row inner items tree h parts e)
inside_sound enclosures.Square opener inner closer items is h parts = holds_read enclosures.Square (expression_items splittings.Nothing items) opener inner closer (λ tree e. expression_row inner items tree h parts e)
inside_sound enclosures.Hidden opener inner closer items is h parts = holds_read enclosures.Hidden (expression_items splittings.Nothing items) opener inner closer (λ tree e. expression_row inner items tree h parts e)
inside_sound enclosures.Special opener inner closer items is h parts = holds_read enclosures.Special (expression_items splittings.Nothing items) opener inner closer (λ tree e. tt)
inside_sound enclosures.SharpRound opener inner closer items is h parts = list_holds (list_in inner) opener inner closer refl is
inside_sound enclosures.SharpSquare opener inner closer items is h parts = vector_holds (vector_in inner) opener inner closer refl is
inside_sound (enclosures.Statement kind) opener inner closer items is h parts = holds_read (enclosures.Statement kind) (statement_items kind opener items) opener inner closer (λ tree e. statement_sound kind opener inner closer items tree h parts is e)

inside_read : (opener : Token) (inner : SeenFragments) (closer : Token) (items : List Item) → ItemsSound items → fragments_in items ≡ row inner → InsideSound (row inner) (found_of opener inner closer items)
inside_read opener inner closer items h parts =
    record {
      types_are = λ types e. subst (IsType (some_types types)) parts (types_sound items types h e);
      limits_are = λ limits e. subst (LimitsAre limits) parts (limits_sound items limits h e);
      bound_are = λ bound e. subst (Bind bound.parts bound.last) parts (bind_sound items bound h e);
      given_are = λ given e. subst (Give given.parts given.last) parts (give_sound items given h e);
      listed_is = λ entries e. subst (Derives splittings.Nothing (brackets entries)) parts (listed_items_sound items entries h e);
      method_is = λ method e. subst (Derives splittings.Nothing (signature method.found method.results method.trees)) parts (method_sound items method h e);
      named_is = λ method e. subst (NamedIs method) parts (named_sound items method h e);
      caught_is = λ caught e. subst (Catches caught.variable caught.condition) parts (caught_sound items caught h e);
      clauses_are = λ clauses e. subst (Derives splittings.Steps (for_head clauses.parts clauses.last)) parts (for_head_sound items clauses h e);
      head_is = λ found e. subst (Derives splittings.Tests (head found.selected found.test)) parts (head_sound items found h e);
    }

group_item_sound : (opener : Token) (inner : SeenFragments) (closer : Token) → ItemsSound (items_in inner) → ItemSound (item_of (group opener inner closer))
group_item_sound opener inner closer h =
    let holds = inside_sound (bracket_of opener closer) opener inner closer (items_in inner) refl h (fragments_row inner) in
    let passed = subst (InnerArguments (passed_items (items_in inner))) (fragments_row inner) (passed_sound (items_in inner) h) in
    record {
      steps = λ words state all s. group_sound words state (tree_inside (bracket_of opener closer) opener inner (items_in inner)) (passed_items (items_in inner)) opener inner closer all holds passed s;
      group_is = (holds, inside_read opener inner closer (items_in inner) h (fragments_row inner));
    }

mutual
  pub item_sound : (fragment : SeenFragment) → ItemSound (item_of fragment)
  item_sound (one token) = record { steps = λ words state all s. token_sound words state token all s; group_is = tt }
  item_sound (group opener inner closer) = group_item_sound opener inner closer (inner_sound inner)

  pub inner_sound : (inner : SeenFragments) → ItemsSound (items_in inner)
  inner_sound no_fragment = tt
  inner_sound (fragment_and first rest) = (item_sound first, inner_sound rest)

pub items_sound : (fragments : List SeenFragment) → ItemsSound (items_of fragments)
items_sound [] = tt
items_sound (first ∷ rest) = (item_sound first, items_sound rest)
