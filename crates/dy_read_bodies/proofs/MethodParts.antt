-- Methods, read part by part.
use Rattle.std.proofs.Common.{◌≡◌, List, [], ◌∷◌, map, Option, Some, None, option_map, option_and_then, refl, sym, ap, ◌∙◌}
use Rattle.dy_tree.specs.declared.token.Token.{Token}
use Rattle.dy_tree.specs.Fragments.{SeenFragment, one, group}
use Rattle.dy_tree.specs.declared.roles.Role.{Role}
use Rattle.dy_tree.specs.declared.roles.Role.TheVariants as roles
use Rattle.dy_tree.specs.declared.splitters.Splitting.TheVariants as splittings
use Rattle.dy_rules.specs.Bodies.{body_items}
use Rattle.dy_rules.specs.Cutting.{Item, Front, MethodFound, NamedFound, headed}
use Rattle.dy_rules.specs.Roles.{role_of}
use Rattle.dy_rules.specs.Signatures as signatures
use Rattle.dy_rules.specs.Signatures.{ResultsFront, results_front, without_front, method_of, method_with, method_listed, method_front, method_items, named_of, named_with, named_items}
use Rattle.dy_rules.specs.Trees.{ItemTree, Listed}
use Rattle.dy_rules.specs.TypeReading.{named_token}
use Rattle.dy_rules.proofs.Lists.{some_one}
use Rattle.dy_rules_depth.specs.Changes.{changed_item, changed_parameters}
use Rattle.dy_rules_depth.specs.Capping.{capping}
use Rattle.dy_read_bodies.specs.MethodParts.{with_trees, with_name, named_by}
use Rattle.dy_read_parts.specs.Names.{name_at}
use Rattle.dy_read_statements.specs.ReadMethods.{MethodParts, NamedParts, parts_of, named_parts, capped_parts, capped_named}
use Rattle.dy_read_bodies.specs.SignatureFronts.{Signature, signature_of, signature_listed, signature_headed, signature_items, capped_signature}

-- the body behind parameters and results
abbrev trees_behind : List Item → Option (List ItemTree)
trees_behind rest = option_map (map (changed_item capping)) (body_items splittings.Nothing (without_front rest))

abbrev parts_behind : Signature → Option MethodParts
parts_behind front = option_map (with_trees front.parts) (trees_behind front.rest)

abbrev capped_method : Option MethodFound → Option MethodParts
capped_method found = option_map capped_parts (option_map parts_of found)

with_body : (found : Listed) (results : ResultsFront) (trees : Option (List ItemTree))
    → capped_method (option_map (method_of found results.results) trees) ≡ option_map (with_trees (changed_parameters capping (signature_of found results).parts)) (option_map (map (changed_item capping)) trees)
with_body found results None = refl
with_body found results (Some trees) = refl

with_results : (found : Listed) (results : Option ResultsFront) → capped_method (option_and_then (method_with found) results) ≡ option_and_then parts_behind (option_map capped_signature (option_map (signature_of found) results))
with_results found None = refl
with_results found (Some results) = with_body found results (body_items splittings.Nothing (without_front results.rest))

with_listed : (rest : List Item) (found : Option Listed) → capped_method (option_and_then (method_listed rest) found) ≡ option_and_then parts_behind (option_map capped_signature (option_and_then (signature_listed rest) found))
with_listed rest None = refl
with_listed rest (Some found) = with_results found (results_front rest)

method_is : (items : List Item) → capped_method (method_items items) ≡ option_and_then parts_behind (option_map capped_signature (signature_items items))
method_is items = go (headed items)
  where
    go : (front : Option Front) → capped_method (option_and_then method_front front) ≡ option_and_then parts_behind (option_map capped_signature (option_and_then signature_headed front))
    go None = refl
    go (Some front) = with_listed front.rest front.first.found.listed

-- a body behind the parameters that were read
pub method_read : (front : Signature) (items : List Item) → Some front ≡ option_map capped_signature (signature_items items)
    → option_map (with_trees front.parts) (option_map (map (changed_item capping)) (body_items splittings.Nothing (without_front front.rest))) ≡ option_map capped_parts (option_map parts_of (method_items items))
method_read front items e = ap (option_and_then parts_behind) e ∙ sym (method_is items)

pub method_fails : (items : List Item) → None ≡ option_map capped_signature (signature_items items) → None ≡ option_map capped_parts (option_map parts_of (method_items items))
method_fails items e = ap (option_and_then parts_behind) e ∙ sym (method_is items)

-- a name in front

name_is : (role : Role) (token : Token) (rest : List Item) → named_with role token rest ≡ named_by (named_token role token) rest
name_is roles.Named token rest = refl
name_is role token rest = refl

pub name_reads : (first : SeenFragment) (rest : List Item) → signatures.named_at first rest ≡ named_by (name_at first) rest
name_reads (one token) rest = name_is (role_of token) token rest
name_reads (group opener inner closer) rest = refl

pub named_through : (token : Token) (found : Option MethodFound) → option_map (with_name token) (option_map capped_parts (option_map parts_of found)) ≡ option_map capped_named (option_map named_parts (option_map (named_of token) found))
named_through token None = refl
named_through token (Some found) = refl
