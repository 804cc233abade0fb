-- Variables at the front, and variables in a row.
use Rattle.std.proofs.Common.{◌≡◌, ℕ, max, List, [], ◌∷◌, ◌++◌, map, Option, Some, None, option_map, option_and_then, refl, ap, ◌∙◌, arith}
use Rattle.std.proofs.lemmas.List.{map-append}
use Rattle.dy_tree.specs.declared.variables.Variable.{Variable}
use Rattle.dy_rules.specs.SeenTypes.{seen_variable}
use Rattle.dy_rules_depth.specs.Changes.{changed_variable}
use Rattle.dy_rules_depth.specs.Capping.{filling}
use Rattle.dy_tree.specs.declared.token.Token.{Token}
use Rattle.dy_rules.specs.Types.{VariableTree}
use Rattle.dy_rules.specs.Cutting.{Item}
use Rattle.dy_rules.specs.Depth.{variable_depth, variables_depth}
use Rattle.dy_rules.specs.TypeReading.{TypeFront, VariableFront, typed_front, if_whole, whole_variable}
use Rattle.dy_read_types.specs.TypeFronts as types
use Rattle.dy_read_types.specs.VariableFronts.{read_variable, read_variables, capped_variable, capped_front}

pub typed_changed : (token : Token) (found : Option TypeFront) → option_map (typed_front token) (option_map types.capped_front found) ≡ option_map capped_front (option_map (typed_front token) found)
typed_changed token None = refl
typed_changed token (Some front) = refl

whole_if : (variable : VariableTree) (rest : List Item) → if_whole (capped_variable variable) rest ≡ option_map capped_variable (if_whole variable rest)
whole_if variable [] = refl
whole_if variable (item ∷ rest) = refl

pub whole_changed : (front : Option VariableFront) → option_and_then whole_variable (option_map capped_front front) ≡ option_map capped_variable (option_and_then whole_variable front)
whole_changed None = refl
whole_changed (Some front) = whole_if front.variable front.rest

pub depth_more : (variables : List VariableTree) (variable : VariableTree) → variables_depth (variables ++ variable ∷ []) ≡ max (variables_depth variables) (variable_depth variable)
depth_more [] variable = omega arith
depth_more (first ∷ rest) variable = let more = depth_more rest variable in omega arith

pub read_each : (forms : List Variable) → map (changed_variable filling) (map seen_variable forms) ≡ read_variables forms
read_each [] = refl
read_each (first ∷ rest) = ap (λ (others : List VariableTree). read_variable first ∷ others) (read_each rest)

pub read_maybe : (form : Option Variable) → option_map (changed_variable filling) (option_map seen_variable form) ≡ option_map read_variable form
read_maybe None = refl
read_maybe (Some form) = refl

-- A variable more is as deep as the deepest.
pub deeper : (outer old new : ℕ) (before after : List Variable) (next : Variable) → after ≡ before ++ next ∷ [] → old ≡ max outer (variables_depth (read_variables before)) → new ≡ max old (variable_depth (read_variable next))
    → new ≡ max outer (variables_depth (read_variables after))
deeper outer old new before after next more e f =
    let same : variables_depth (read_variables after) ≡ variables_depth (read_variables before ++ read_variable next ∷ []) = ap (λ (forms : List Variable). variables_depth (read_variables forms)) more ∙ ap variables_depth (map-append read_variable before (next ∷ [])) in
    let deep = depth_more (read_variables before) (read_variable next) in
    omega arith
