-- Types that are within the limit, and what stands for those that are not.
use Rattle.std.proofs.Common.{◌≡◌, ◌<◌, ◌≤◌, max, Bool, true, false, if◌then◌else◌, List, [], ◌∷◌, ◌++◌, map, Option, Some, None, option_map, refl, sym, ap, ◌∙◌, arith}
use Rattle.dy_tree.specs.declared.token.Token.{Token}
use Rattle.dy_tree.specs.declared.types.TypeForm.{TypeForm}
use Rattle.dy_rules.specs.SeenTypes.{seen_type}
use Rattle.dy_rules.specs.Cutting.{Limits}
use Rattle.dy_rules.specs.Types.{Single, TypeTree, named_type, singleton_type, union_type, limited_type, types_of}
use Rattle.dy_rules.specs.TypeReading.{union_of, limited_of}
use Rattle.dy_rules.specs.Depth.{type_depth, types_depth}
use Rattle.dy_rules_depth.specs.Capping.{is_absent, deep_type, capped_type, filled_type}
use Rattle.dy_rules_depth.proofs.DeepTrees.{deep_type_depth, type_kept}
use Rattle.dy_rules_depth.proofs.Nodes.{capped_singleton, capped_limited}
use Rattle.dy_rules_depth.proofs.TypesSame.{union_same}
use Rattle.dy_rules_depth.proofs.Twice.{type_twice}
use Rattle.dy_rules_depth.proofs.Options.{map_twice}
use Rattle.dy_read_types.specs.TypeFronts.{capped_types, capped_union}
use Rattle.dy_read_types.specs.TypeCaps.{read_type, read_types}

filled_by : (absent : Bool) (token : Token) → type_depth (if absent then deep_type else named_type token) ≤ 200 → (if absent then deep_type else named_type token) ≡ named_type token
filled_by true token h = let deep = deep_type_depth in absurd (omega arith)
filled_by false token h = refl

-- what is filled in is too deep
pub filled_same : (type : TypeTree) → type_depth (filled_type type) ≤ 200 → filled_type type ≡ type
filled_same (named_type token) h = filled_by (is_absent token) token h
filled_same (singleton_type word single) h = refl
filled_same (union_type word types) h = refl
filled_same (limited_type word class bounds) h = refl

pub read_same : (forms : List TypeForm) → types_depth (types_of (read_types forms)) ≤ 200 → read_types forms ≡ map seen_type forms
read_same [] h = refl
read_same (first ∷ rest) h = ap (λ (t : TypeTree). t ∷ read_types rest) (filled_same (seen_type first) (omega arith)) ∙ ap (λ (ts : List TypeTree). seen_type first ∷ ts) (read_same rest (omega arith))

-- a union that is within the limit
pub union_kept : (word : Token) (forms : List TypeForm) (form : TypeForm) → seen_type form ≡ union_of word (map seen_type forms) → types_depth (types_of (read_types forms)) < 200 → read_type form ≡ union_of word (read_types forms)
union_kept word forms form e h = ap filled_type e ∙ ap (union_of word) (sym (read_same forms (omega arith)))

pub union_made : (word : Token) (forms : List TypeForm) (form : TypeForm) → seen_type form ≡ union_of word (map seen_type forms) → types_depth (types_of (read_types forms)) < 200 → read_type form ≡ capped_type (union_of word (read_types forms))
union_made word forms form e h = union_kept word forms form e h ∙ sym (type_kept (union_of word (read_types forms)) (omega arith))

-- A union of types is to the limit what the union of the capped types is.
pub union_through : (word : Token) (found : Option (List TypeTree)) → option_map (capped_union word) (option_map capped_types found) ≡ option_map capped_type (option_map (union_of word) found)
union_through word None = refl
union_through word (Some types) = ap Some (union_same word (capped_types types) types (map_twice capped_type type_twice types))

pub depth_more : (types : List TypeTree) (type : TypeTree) → types_depth (types_of (types ++ type ∷ [])) ≡ max (types_depth (types_of types)) (type_depth type)
depth_more [] type = omega arith
depth_more (first ∷ rest) type = let more = depth_more rest type in omega arith

pub singleton_kept : (word : Token) (found : Option Single) → option_map capped_type (option_map (singleton_type word) found) ≡ option_map (singleton_type word) found
singleton_kept word None = refl
singleton_kept word (Some single) = ap Some (capped_singleton word single)

pub limited_kept : (word : Token) (found : Option Limits) → option_map capped_type (option_map (limited_of word) found) ≡ option_map (limited_of word) found
limited_kept word None = refl
limited_kept word (Some limits) = ap Some (capped_limited word limits.class limits.bounds)
