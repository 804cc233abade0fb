-- Methods are read the same to the limit, whatever stands in the place of trees that are too deep.
use Rattle.std.proofs.Common.{◌≡◌, Bool, true, false, List, [], ◌∷◌, map, Option, option_map, option_and_then, refl, ap, ◌∙◌}
use Rattle.dy_tree.specs.declared.token.Token.{Token}
use Rattle.dy_tree.specs.Fragments.{SeenFragment, one, group}
use Rattle.dy_tree.specs.declared.roles.Role.{Role}
use Rattle.dy_tree.specs.declared.roles.Role.TheVariants as roles
use Rattle.dy_tree.specs.declared.splitters.Splitting.TheVariants as splittings
use Rattle.dy_rules.specs.Types.{ResultTree}
use Rattle.dy_rules.specs.Trees.{ItemTree, Listed}
use Rattle.dy_rules.specs.Roles.{role_of}
use Rattle.dy_rules.specs.Cutting.{MethodFound, Item, is_semicolon, Front, headed}
use Rattle.dy_rules.specs.Bodies.{body_items}
use Rattle.dy_rules.specs.Signatures.{ResultsFront, results_front, after_end, without_front, method_of, method_with, method_listed, method_front, method_items, named_of, named_with, named_at, named_items}
use Rattle.dy_rules_depth.specs.Changes.{Change, changed_results, changed_listed, changed_item}
use Rattle.dy_rules_depth.specs.ReaderChanges.{changed_method_found, changed_named, changed_item_of, changed_items, changed_front, changed_results_front}
use Rattle.dy_rules_depth.specs.Capping.{capping}
use Rattle.dy_rules_depth.proofs.Options.{option_twice, map_same, then_same, then_on}
use Rattle.dy_rules_depth.proofs.Twice.{listed_twice}
use Rattle.dy_rules_depth.proofs.CutsSame.{headed_changed, Reads, reads_on}
use Rattle.dy_rules_depth.proofs.BodiesSame.{body_same}
use Rattle.dy_rules_depth.proofs.ParametersSame.{results_front_same}

module _ (change : Change) where
  after_end_changed : (is : Bool) (item : Item) (rest : List Item) → after_end is (changed_item_of change item) (changed_items change rest) ≡ changed_items change (after_end is item rest)
  after_end_changed true item rest = refl
  after_end_changed false item rest = refl

  without_front_changed : (items : List Item) → without_front (changed_items change items) ≡ changed_items change (without_front items)
  without_front_changed [] = refl
  without_front_changed (item ∷ rest) = after_end_changed (is_semicolon item.fragment) item rest

method_body_same : Reads (map (changed_item capping)) (λ items. body_items splittings.Nothing (without_front items))
method_body_same items = ap (λ (behind : List Item). option_map (map (changed_item capping)) (body_items splittings.Nothing behind)) (without_front_changed capping items) ∙ body_same splittings.Nothing (without_front items)

abbrev SameFound : Option MethodFound → Option MethodFound → Type 0
SameFound method other = option_map (changed_method_found capping) method ≡ option_map (changed_method_found capping) other

pub method_of_same : (found other : Listed) (results more : Option ResultTree) → changed_listed capping found ≡ changed_listed capping other → option_map (changed_results capping) results ≡ option_map (changed_results capping) more → (trees others : List ItemTree)
    → map (changed_item capping) trees ≡ map (changed_item capping) others → changed_method_found capping (method_of found results trees) ≡ changed_method_found capping (method_of other more others)
method_of_same found other results more e f trees others g = cc

method_with_same : (found other : Listed) → changed_listed capping found ≡ changed_listed capping other → (front more : ResultsFront) → changed_results_front capping front ≡ changed_results_front capping more → SameFound (method_with found front) (method_with other more)
method_with_same found other e front more f =
    map_same (map (changed_item capping)) (changed_method_found capping) (method_of found front.results) (method_of other more.results) (body_items splittings.Nothing (without_front front.rest)) (body_items splittings.Nothing (without_front more.rest))
    (method_of_same found other front.results more.results e (ap (λ (r : ResultsFront). r.results) f))
    (reads_on (map (changed_item capping)) (λ items. body_items splittings.Nothing (without_front items)) method_body_same front.rest more.rest (ap (λ (r : ResultsFront). r.rest) f))

method_listed_same : (rest : List Item) (found other : Listed) → changed_listed capping found ≡ changed_listed capping other → SameFound (method_listed (changed_items capping rest) found) (method_listed rest other)
method_listed_same rest found other e =
    then_same (changed_results_front capping) (changed_method_found capping) (method_with found) (method_with other) (results_front (changed_items capping rest)) (results_front rest) (method_with_same found other e) (results_front_same rest)

method_front_same : (front : Front) → SameFound (method_front (changed_front capping front)) (method_front front)
method_front_same front =
    then_same (changed_listed capping) (changed_method_found capping) (method_listed (changed_items capping front.rest)) (method_listed front.rest) (option_map (changed_listed capping) front.first.found.listed) front.first.found.listed
    (method_listed_same front.rest) (option_twice (changed_listed capping) listed_twice front.first.found.listed)

pub method_same : Reads (changed_method_found capping) method_items
method_same items =
    ap (λ (front : Option Front). option_map (changed_method_found capping) (option_and_then method_front front)) (headed_changed capping items) ∙ then_on (changed_front capping) (changed_method_found capping) method_front method_front (headed items) method_front_same

named_with_same : (role : Role) (token : Token) → Reads (changed_named capping) (named_with role token)
named_with_same roles.Named token rest = map_same (changed_method_found capping) (changed_named capping) (named_of token) (named_of token) (method_items (changed_items capping rest)) (method_items rest) (λ method other e. ap (named_of token) e) (method_same rest)
named_with_same role token rest = refl

named_at_same : (fragment : SeenFragment) → Reads (changed_named capping) (named_at fragment)
named_at_same (one token) rest = named_with_same (role_of token) token rest
named_at_same (group opener inner closer) rest = refl

pub named_same : Reads (changed_named capping) named_items
named_same [] = refl
named_same (item ∷ rest) = named_at_same item.fragment rest
