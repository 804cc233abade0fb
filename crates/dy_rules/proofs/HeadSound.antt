-- What is read in brackets at the front, and the words of pieces.
use Rattle.std.proofs.Common.{◌≡◌, List, [], ◌∷◌, Option, Some, refl, sym, ap, subst}
use Rattle.dy_tree.specs.declared.token.Token.{Token}
use Rattle.dy_tree.specs.Fragments.{SeenFragment, one, group, SeenFragments, row}
use Rattle.dy_tree.specs.declared.brackets.Bracket.{Bracket}
use Rattle.dy_tree.specs.declared.brackets.Bracket.TheVariants as brackets
use Rattle.dy_tree.specs.declared.splitters.Splitting.TheVariants as splittings
use Rattle.dy_tree.specs.declared.splitters.Splitter.{Splitter}
use Rattle.dy_tree.specs.declared.splitters.Splitter.TheVariants as splitters
use Rattle.dy_rules.specs.Trees.{Tree}
use Rattle.dy_rules.specs.Roles.{splitter_of, bracket_of}
use Rattle.dy_rules.specs.Productions.{expression, Derives}
use Rattle.dy_rules.specs.Cutting.{Item, fragments_in, Front, front_in, front_at, headed, word_of}
use Rattle.dy_rules.specs.StatementReading.{Tested, tested_by, tested_in, tested_at, tested}
use Rattle.dy_rules.proofs.Lists.{some_one, map_some}
use Rattle.dy_rules.proofs.Sound.{HoldsIf, ItemsSound, GroupSound, InsideSound}

abbrev Fragments : Type 0
Fragments = List SeenFragment

-- what stands in brackets, and what behind them
pub record HasTest (list : List Item) (head : Tested) : Type 0 where
  pub opener : Token
  pub inner : SeenFragments
  pub closer : Token
  pub is_round : bracket_of opener closer ≡ brackets.Round
  pub parts : fragments_in list ≡ group opener inner closer ∷ fragments_in head.rest
  pub derived : Derives splittings.Nothing (expression head.test) (row inner)
  pub rest_sound : ItemsSound head.rest

pub tested_sound : (list : List Item) (head : Tested) → ItemsSound list → tested list ≡ Some head → HasTest list head
tested_sound [] head h e = absurd cc
tested_sound (front ∷ rest) head (h, k) e = go front.fragment refl h.group_is e
  where
    in_bracket : (opener : Token) (inner : SeenFragments) (closer : Token) (bracket : Bracket) → front.fragment ≡ group opener inner closer → bracket_of opener closer ≡ bracket → HoldsIf bracket front.found.tree opener inner closer
        → tested_in bracket front.found.tree rest ≡ Some head → HasTest (front ∷ rest) head
    in_bracket opener inner closer brackets.Round is kind holds f =
        let (test, found, same) = map_some (tested_by rest) front.found.tree head f in
        record {
          opener = opener;
          inner = inner;
          closer = closer;
          is_round = kind;
          parts = rw same (ap (λ (fragment : SeenFragment). fragment ∷ fragments_in rest) is);
          derived = rw same (subst (λ (o : Option Tree). HoldsIf brackets.Round o opener inner closer) found holds);
          rest_sound = rw same k;
        }
    in_bracket opener inner closer bracket is kind holds f = absurd cc

    go : (fragment : SeenFragment) → front.fragment ≡ fragment → GroupSound fragment front.found → tested_at fragment front.found.tree rest ≡ Some head → HasTest (front ∷ rest) head
    go (one token) is holds f = absurd cc
    go (group opener inner closer) is holds f = in_bracket opener inner closer (bracket_of opener closer) is refl holds.0 f

-- brackets with something in them, and what stands behind them
pub record HasBrackets (list : List Item) (front : Front) : Type 0 where
  pub opener : Token
  pub inner : SeenFragments
  pub closer : Token
  pub is_round : bracket_of opener closer ≡ brackets.Round
  pub parts : fragments_in list ≡ group opener inner closer ∷ fragments_in front.rest
  pub first_is : front.first.fragment ≡ group opener inner closer
  pub inside : InsideSound (row inner) front.first.found
  pub rest_sound : ItemsSound front.rest

found_in_sound : (bracket : Bracket) (opener : Token) (inner : SeenFragments) (closer : Token) (first : Item) (rest : List Item) (front : Front) → first.fragment ≡ group opener inner closer → bracket_of opener closer ≡ bracket → InsideSound (row inner) first.found → ItemsSound rest
    → front_in bracket first rest ≡ Some front → HasBrackets (first ∷ rest) front
found_in_sound brackets.Round opener inner closer first rest front is is_round h k e =
    rw (← some_one _ _ e) (record { opener = opener; inner = inner; closer = closer; is_round = is_round; parts = ap (λ (f : SeenFragment). f ∷ fragments_in rest) is; first_is = is; inside = h; rest_sound = k })
found_in_sound bracket opener inner closer first rest front is is_round h k e = absurd cc

found_at_sound : (fragment : SeenFragment) (first : Item) (rest : List Item) (front : Front) → first.fragment ≡ fragment → GroupSound fragment first.found → ItemsSound rest → front_at fragment first rest ≡ Some front → HasBrackets (first ∷ rest) front
found_at_sound (one token) first rest front is h k e = absurd cc
found_at_sound (group opener inner closer) first rest front is h k e = found_in_sound (bracket_of opener closer) opener inner closer first rest front is refl h.1 k e

pub headed_sound : (list : List Item) (front : Front) → ItemsSound list → headed list ≡ Some front → HasBrackets list front
headed_sound [] front h e = absurd cc
headed_sound (first ∷ rest) front (h, k) e = found_at_sound first.fragment first rest front refl h.group_is k e

-- the word that a piece stands behind
pub word_token : (fragment : SeenFragment) (word : Splitter) → word_of fragment ≡ word → (word ≡ splitters.Absent → ⊥) → (token : Token) × (fragment ≡ one token) × (splitter_of token ≡ word)
word_token (one token) word e some = (token, refl, e)
word_token (group opener inner closer) word e some = absurd (some (sym e))
