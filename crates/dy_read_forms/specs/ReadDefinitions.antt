-- Definitions and whole forms, in the parts that the reader finds.
use Rattle.std.specs.Prelude.{if◌then◌else◌, List, [], ◌∷◌, Option, Some, None, option_map}
use Rattle.std.specs.Prelude.{option_and_then}
use Rattle.dy_tree.specs.declared.token.Token.{Token}
use Rattle.dy_tree.specs.Fragments.{SeenFragment, one, group, seen_fragments}
use Rattle.dy_tree.specs.declared.roles.Role.{Role}
use Rattle.dy_tree.specs.declared.roles.Role.TheVariants as roles
use Rattle.dy_tree.specs.declared.splitters.Splitting.TheVariants as splittings
use Rattle.dy_rules.specs.Trees.{Tree, body_of}
use Rattle.dy_rules.specs.Types.{TargetTree}
use Rattle.dy_rules.specs.Roles.{role_of}
use Rattle.dy_rules.specs.Cutting.{Item, Sides, first_cut}
use Rattle.dy_rules.specs.TypeReading.{target_items}
use Rattle.dy_rules.specs.Reading.{expression_items}
use Rattle.dy_rules.specs.Bodies.{is_equals_at}
use Rattle.dy_rules.specs.Fragments.{items_of}
use Rattle.dy_rules.specs.Forms.{FormTree, generic_form, method_form, function_form}
use Rattle.dy_rules_depth.specs.Changes.{changed_target}
use Rattle.dy_rules_depth.specs.Capping.{capped, capping}
use Rattle.dy_read_forms.specs.declared.form_read.Binding.{Binding}
use Rattle.dy_read_forms.specs.declared.form_read.FormRead.{FormRead}
use Rattle.dy_read_forms.specs.declared.name_front.NameFront.{NameFront}
use Rattle.dy_read_forms.specs.ReadForms.{read_form}
use Rattle.dy_read_statements.specs.ReadMethods.{NamedParts}
use Rattle.dy_read_outers.specs.ReadTrees.{read_tree}
use Rattle.dy_read_bodies.specs.SignatureFronts.{Signature}
use Rattle.dy_read_types.specs.Targets.{read_target}

abbrev pub read_found : FormRead → FormTree
read_found found = read_form found.form

-- a name in front

pub record Named : Type 0 where
  pub token : Token
  pub rest : List Item

abbrev pub named_of : Token → List Item → Named
named_of token rest = record { token = token; rest = rest }

abbrev pub name_by : Role → Token → List Item → Option Named
name_by roles.Named token rest = Some (named_of token rest)
name_by _ token rest = None

abbrev pub name_at : SeenFragment → List Item → Option Named
name_at (one token) rest = name_by (role_of token) token rest
name_at (group opener inner closer) rest = None

abbrev pub name_front : List Item → Option Named
name_front [] = None
name_front (item ∷ rest) = name_at item.fragment rest

abbrev pub seen_name : NameFront → Named
seen_name front = named_of front.name.now (items_of (seen_fragments front.rest.now))

-- a target, and what it is bound to

pub record BoundParts : Type 0 where
  pub target : TargetTree
  pub tree : Tree

abbrev pub bound_of : TargetTree → Tree → BoundParts
bound_of target tree = record { target = target; tree = tree }

abbrev pub bound_with : List Item → TargetTree → Option BoundParts
bound_with after target = option_map (bound_of target) (expression_items splittings.Nothing after)

abbrev pub bound_sides : Sides → Option BoundParts
bound_sides sides = option_and_then (bound_with sides.after) (target_items sides.before)

abbrev pub bound_parts : List Item → Option BoundParts
bound_parts items = option_and_then bound_sides (first_cut is_equals_at items)

abbrev pub capped_bound : BoundParts → BoundParts
capped_bound bound = bound_of (changed_target capping bound.target) (capped bound.tree)

abbrev pub read_bound : Binding → BoundParts
read_bound bound = bound_of (read_target bound.target) (read_tree bound.value)

abbrev pub bound_form : (TargetTree → Tree → FormTree) → BoundParts → FormTree
bound_form form bound = form bound.target bound.tree

-- definitions of their parts

abbrev pub method_parts : Token → List Token → Token → NamedParts → FormTree
method_parts define adjectives word entry =
    method_form define adjectives word entry.token entry.method.signature
    (body_of entry.method.trees)

abbrev pub function_parts : Token → List Token → NamedParts → FormTree
function_parts define adjectives entry =
    function_form define adjectives entry.token entry.method.signature (body_of entry.method.trees)

abbrev pub generic_end : Token → List Token → Token → Signature → List Item → Option FormTree
generic_end define adjectives token found [] =
    Some (generic_form define adjectives token found.parts)
generic_end define adjectives token found (item ∷ rest) = None

abbrev pub generic_if : Token → List Token → Token → Signature → Option FormTree
generic_if define adjectives token found =
    if found.is_plain then generic_end define adjectives token found found.rest else None
