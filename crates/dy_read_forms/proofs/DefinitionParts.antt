-- Definitions are read of their parts, with what stands in the place of trees that are too deep.
use Rattle.std.proofs.Common.{◌≡◌, Bool, true, false, List, [], ◌∷◌, map, Option, Some, None, option_map, option_and_then, refl, sym, ap, ◌∙◌, arith}
use Rattle.dy_tree.specs.declared.token.Token.{Token}
use Rattle.dy_tree.specs.declared.types.TypeForm.{TypeForm}
use Rattle.dy_tree.specs.Fragments.{SeenFragment, one, group}
use Rattle.dy_tree.specs.declared.roles.Role.{Role}
use Rattle.dy_tree.specs.declared.roles.Role.TheVariants as roles
use Rattle.dy_tree.specs.declared.splitters.Splitting.TheVariants as splittings
use Rattle.dy_rules.specs.Trees.{Tree, Listed, parameters_of}
use Rattle.dy_rules.specs.Types.{TypeTree, TargetTree, types_of}
use Rattle.dy_rules.specs.Roles.{role_of}
use Rattle.dy_rules.specs.Cutting.{Item, Sides, NamedFound, Front, headed, first_cut}
use Rattle.dy_rules.specs.TypeReading.{target_items}
use Rattle.dy_rules.specs.Reading.{expression_items}
use Rattle.dy_rules.specs.Bodies.{is_equals_at}
use Rattle.dy_rules.specs.Signatures.{ResultsFront, results_front}
use Rattle.dy_rules.specs.SeenTypes.{seen_type}
use Rattle.dy_rules.specs.Depth.{types_depth}
use Rattle.dy_rules.specs.FormDepth.{domain_depth}
use Rattle.dy_rules.specs.Forms.{SlotTree, FormTree, method_form, function_form, no_defaults}
use Rattle.dy_rules.specs.FormReading as reading
use Rattle.dy_rules.specs.FormReading.{class_of, class_headed, class_named, class_at, class_items, method_of_form, function_of_form, bound_sides, bound_items_of, constant_of_form, variable_of_form, generic_results, generic_listed, generic_headed, generic_named, generic_at, generic_items, domain_of, domain_headed, domain_named, domain_at, domain_items}
use Rattle.dy_rules_depth.specs.Changes.{changed_parameters}
use Rattle.dy_rules_depth.specs.Capping.{capped, capping, filled_type}
use Rattle.dy_rules_depth.proofs.Rows.{row_body}
use Rattle.dy_read_forms.specs.ReadDefinitions as spec
use Rattle.dy_read_forms.specs.ReadDefinitions.{Named, name_by, name_at, name_front, BoundParts, bound_of, bound_with, bound_parts, capped_bound, bound_form, method_parts, function_parts, generic_end, generic_if}
use Rattle.dy_read_forms.specs.ReadForms.{capped_form, capped_slot}
use Rattle.dy_read_statements.specs.ReadMethods.{capped_named, named_parts}
use Rattle.dy_read_bodies.specs.SignatureFronts.{Signature, signature_of, signature_listed, signature_headed, signature_items, capped_signature}
use Rattle.dy_read_types.specs.Targets.{capped_target}
use Rattle.dy_read_types.specs.TypeCaps.{read_types}
use Rattle.dy_read_types.specs.TypeFronts.{capped_types}

-- classes

module _ (define : Token) (adjectives : List Token) where
  abbrev pub class_behind : Named → Option FormTree
  class_behind front = option_and_then (class_headed define adjectives front.token) (headed front.rest)

  pub class_is : (items : List Item) → class_items define adjectives items ≡ option_and_then class_behind (name_front items)
  class_is [] = refl
  class_is (item ∷ rest) = at item.fragment
    where
      by : (role : Role) (token : Token) → class_named role define adjectives token rest ≡ option_and_then class_behind (name_by role token rest)
      by roles.Named token = refl
      by role token = refl

      at : (fragment : SeenFragment) → class_at define adjectives fragment rest ≡ option_and_then class_behind (name_at fragment rest)
      at (one token) = by (role_of token) token
      at (group opener inner closer) = refl

pub class_through : (define : Token) (adjectives : List Token) (token : Token) (superclasses : List Token) (found : Option (List SlotTree))
    → option_map (class_of define adjectives token superclasses) (option_map (map capped_slot) found) ≡ option_map capped_form (option_map (class_of define adjectives token superclasses) found)
class_through define adjectives token superclasses None = refl
class_through define adjectives token superclasses (Some slots) = refl

-- methods and functions

pub method_through : (define : Token) (adjectives : List Token) (word : Token) (found : Option NamedFound) → option_map (method_parts define adjectives word) (option_map capped_named (option_map named_parts found)) ≡ option_map capped_form (option_map (method_of_form define adjectives word) found)
method_through define adjectives word None = refl
method_through define adjectives word (Some entry) = ap (λ body. Some (method_form define adjectives word entry.token (changed_parameters capping (parameters_of entry.method.found entry.method.results)) body)) (sym (row_body capping entry.method.trees))

pub function_through : (define : Token) (adjectives : List Token) (found : Option NamedFound) → option_map (function_parts define adjectives) (option_map capped_named (option_map named_parts found)) ≡ option_map capped_form (option_map (function_of_form define adjectives) found)
function_through define adjectives None = refl
function_through define adjectives (Some entry) = ap (λ body. Some (function_form define adjectives entry.token (changed_parameters capping (parameters_of entry.method.found entry.method.results)) body)) (sym (row_body capping entry.method.trees))

-- constants and variables

pub bound_is : (form : TargetTree → Tree → FormTree) (items : List Item) → bound_items_of form items ≡ option_map (bound_form form) (bound_parts items)
bound_is form items = go (first_cut is_equals_at items)
  where
    value : (target : TargetTree) (found : Option Tree) → option_map (form target) found ≡ option_map (bound_form form) (option_map (bound_of target) found)
    value target None = refl
    value target (Some tree) = refl

    to : (after : List Item) (found : Option TargetTree) → option_and_then (reading.bound_with form after) found ≡ option_map (bound_form form) (option_and_then (bound_with after) found)
    to after None = refl
    to after (Some target) = value target (expression_items splittings.Nothing after)

    go : (found : Option Sides) → option_and_then (bound_sides form) found ≡ option_map (bound_form form) (option_and_then spec.bound_sides found)
    go None = refl
    go (Some sides) = to sides.after (target_items sides.before)

pub no_target : (after : List Item) (found : Option TargetTree) → None ≡ option_map capped_target found → None ≡ option_map capped_bound (option_and_then (bound_with after) found)
no_target after None e = refl
no_target after (Some target) e = absurd cc

pub bound_through : (after : List Item) (target : TargetTree) (found : Option TargetTree) → Some target ≡ option_map capped_target found
    → option_map (bound_of target) (option_map capped (expression_items splittings.Nothing after)) ≡ option_map capped_bound (option_and_then (bound_with after) found)
bound_through after target None e = absurd cc
bound_through after target (Some other) e = let same : target ≡ capped_target other = cc in rw same (go (expression_items splittings.Nothing after))
  where
    go : (value : Option Tree) → option_map (bound_of (capped_target other)) (option_map capped value) ≡ option_map capped_bound (option_map (bound_of other) value)
    go None = refl
    go (Some tree) = refl

pub constant_through : (define : Token) (items : List Item) → option_map (bound_form (constant_of_form define)) (option_map capped_bound (bound_parts items)) ≡ option_map capped_form (bound_items_of (constant_of_form define) items)
constant_through define items = go (bound_parts items) ∙ ap (option_map capped_form) (sym (bound_is (constant_of_form define) items))
  where
    go : (found : Option BoundParts) → option_map (bound_form (constant_of_form define)) (option_map capped_bound found) ≡ option_map capped_form (option_map (bound_form (constant_of_form define)) found)
    go None = refl
    go (Some bound) = refl

pub variable_through : (define : Token) (items : List Item) → option_map (bound_form (variable_of_form define)) (option_map capped_bound (bound_parts items)) ≡ option_map capped_form (bound_items_of (variable_of_form define) items)
variable_through define items = go (bound_parts items) ∙ ap (option_map capped_form) (sym (bound_is (variable_of_form define) items))
  where
    go : (found : Option BoundParts) → option_map (bound_form (variable_of_form define)) (option_map capped_bound found) ≡ option_map capped_form (option_map (bound_form (variable_of_form define)) found)
    go None = refl
    go (Some bound) = refl

-- generic functions

module _ (define : Token) (adjectives : List Token) where
  abbrev pub generic_behind : Named → Option FormTree
  generic_behind front = option_and_then (generic_if define adjectives front.token) (signature_items front.rest)

  module _ (token : Token) where
    end_is : (found : Listed) (front : ResultsFront) (rest : List Item) → reading.generic_end define adjectives token found front rest ≡ generic_end define adjectives token (signature_of found front) rest
    end_is found front [] = refl
    end_is found front (item ∷ rest) = refl

    results_is : (rest : List Item) (found : Listed) → generic_listed define adjectives token rest found ≡ option_and_then (generic_if define adjectives token) (signature_listed rest found)
    results_is rest found = go (no_defaults found.keys) refl (results_front rest) refl
      where
        go : (plain : Bool) → no_defaults found.keys ≡ plain → (results : Option ResultsFront) → results_front rest ≡ results → generic_listed define adjectives token rest found ≡ option_and_then (generic_if define adjectives token) (signature_listed rest found)
        go true e None f = rw (e, f) refl
        go true e (Some front) f = simp (e, f) (end_is found front front.rest)
        go false e None f = rw (e, f) refl
        go false e (Some front) f = rw (f, e) refl

    listed_is : (rest : List Item) (found : Option Listed) → option_and_then (generic_listed define adjectives token rest) found ≡ option_and_then (generic_if define adjectives token) (option_and_then (signature_listed rest) found)
    listed_is rest None = refl
    listed_is rest (Some found) = results_is rest found

    headed_is : (found : Option Front) → option_and_then (generic_headed define adjectives token) found ≡ option_and_then (generic_if define adjectives token) (option_and_then signature_headed found)
    headed_is None = refl
    headed_is (Some front) = listed_is front.rest front.first.found.listed

    pub generic_through : (found : Option Signature) → option_and_then (generic_if define adjectives token) (option_map capped_signature found) ≡ option_map capped_form (option_and_then (generic_if define adjectives token) found)
    generic_through None = refl
    generic_through (Some found) = go found.is_plain refl found.rest refl
      where
        go : (plain : Bool) → found.is_plain ≡ plain → (rest : List Item) → found.rest ≡ rest → generic_if define adjectives token (capped_signature found) ≡ option_map capped_form (generic_if define adjectives token found)
        go true e [] f = rw (e, f) refl
        go true e (item ∷ rest) f = rw (e, f) refl
        go false e rest f = rw e refl

  pub generic_is : (items : List Item) → generic_items define adjectives items ≡ option_and_then generic_behind (name_front items)
  generic_is [] = refl
  generic_is (item ∷ rest) = at item.fragment
    where
      by : (role : Role) (token : Token) → generic_named role define adjectives token rest ≡ option_and_then generic_behind (name_by role token rest)
      by roles.Named token = headed_is token (headed rest)
      by role token = refl

      at : (fragment : SeenFragment) → generic_at define adjectives fragment rest ≡ option_and_then generic_behind (name_at fragment rest)
      at (one token) = by (role_of token) token
      at (group opener inner closer) = refl

-- domains

module _ (define : Token) where
  abbrev pub domain_behind : Named → Option FormTree
  domain_behind front = option_and_then (domain_headed define front.token) (headed front.rest)

  pub domain_is : (items : List Item) → domain_items define items ≡ option_and_then domain_behind (name_front items)
  domain_is [] = refl
  domain_is (item ∷ rest) = at item.fragment
    where
      by : (role : Role) (token : Token) → domain_named role define token rest ≡ option_and_then domain_behind (name_by role token rest)
      by roles.Named token = refl
      by role token = refl

      at : (fragment : SeenFragment) → domain_at define fragment rest ≡ option_and_then domain_behind (name_at fragment rest)
      at (one token) = by (role_of token) token
      at (group opener inner closer) = refl

pub domain_through : (define token : Token) (found : Option (List TypeTree)) → option_map (domain_of define token) (option_map capped_types found) ≡ option_map capped_form (option_map (domain_of define token) found)
domain_through define token None = refl
domain_through define token (Some types) = refl

pub types_in : (forms : List TypeForm) → map filled_type (map seen_type forms) ≡ read_types forms
types_in [] = refl
types_in (first ∷ rest) = ap (λ (others : List TypeTree). filled_type (seen_type first) ∷ others) (types_in rest)

pub domain_deep : (types : List TypeTree) → domain_depth types ≡ types_depth (types_of types)
domain_deep [] = refl
domain_deep (first ∷ rest) = let deep = domain_deep rest in omega arith
