-- The constructs that literals, types and bindings hold: what they are, and what their parts hold,
-- in the order of the text (DRM 3, "Literal constants"; DRM, appendix A).
use Rattle.std.specs.Prelude.{◌++◌, List, [], ◌∷◌, length, flat_map, Option, Some, None}
use Rattle.dy_tree.specs.declared.types.LiteralForm.{LiteralForm}
use Rattle.dy_tree.specs.declared.types.LiteralForm.TheVariants as literals
use Rattle.dy_rules.specs.ConstantTrees as source
use Rattle.dy_rules.specs.ConstantTrees.{Constant, Constants, Tail}
use Rattle.dy_rules.specs.Types as types
use Rattle.dy_rules.specs.Types.{Single, TypeTree, TypeTrees, VariableTree, TargetTree}
use Rattle.dy_rules.specs.Types.{RequiredTree, ResultTree}
use Rattle.dy_construct_parts.specs.declared.construct.Construct.{Construct}
use Rattle.dy_construct_parts.specs.declared.construct.Construct.TheVariants as constructs
use Rattle.dy_construct_parts.specs.Table.{by_count, where_given}

abbrev pub of_literal : LiteralForm → Construct
of_literal (literals.Int form) = constructs.Integer
of_literal (literals.Char token) = constructs.Character
of_literal (literals.Str token) = constructs.String
of_literal (literals.Bool token) = constructs.Boolean
of_literal (literals.Symbol token) = constructs.Symbol

abbrev mutual
  -- an item of a list or vector of literals
  pub in_constant : Constant → List Construct
  in_constant (source.literal_item value) = of_literal value ∷ []
  in_constant (source.list_item opener items last) =
      constructs.List ∷ (in_constants items ++ in_tail last)
  in_constant (source.vector_item opener items) = constructs.Vector ∷ in_constants items

  pub in_constants : Constants → List Construct
  in_constants source.no_constant = []
  in_constants (source.constant_and first rest) = in_constant first ++ in_constants rest

  pub in_tail : Tail → List Construct
  in_tail source.no_tail = []
  in_tail (source.tail value) = constructs.DottedTail ∷ in_constant value

-- the only value of a singleton type
abbrev pub of_single : Single → Construct
of_single (types.literal_single value) = of_literal value
of_single (types.empty_single opener) = constructs.List
of_single (types.name_single token) = constructs.Name

abbrev mutual
  pub in_type : TypeTree → List Construct
  in_type (types.named_type token) = constructs.NamedType ∷ []
  in_type (types.singleton_type word single) = constructs.SingletonType ∷ of_single single ∷ []
  in_type (types.union_type word parts) = constructs.UnionType ∷ in_types parts
  in_type (types.limited_type word class bounds) = constructs.LimitedType ∷ []

  pub in_types : TypeTrees → List Construct
  in_types types.no_type = []
  in_types (types.type_and first rest) = in_type first ++ in_types rest

-- a type that is declared, by which what is declared is this construct
abbrev pub in_declared : Construct → Option TypeTree → List Construct
in_declared typed None = []
in_declared typed (Some type) = typed ∷ in_type type

-- what is bound with a type, or without
abbrev pub in_variable : Construct → VariableTree → List Construct
in_variable typed variable = in_declared typed variable.declared

-- what a `let`, a constant or a variable binds
abbrev pub in_target : TargetTree → List Construct
in_target (types.one_target variable) = in_variable constructs.TypedVariable variable
in_target (types.several variables rest) =
    constructs.SeveralVariables
    ∷ (flat_map (in_variable constructs.TypedVariable) variables
    ++ where_given constructs.RestVariable rest)

abbrev pub in_required : RequiredTree → List Construct
in_required (types.required_variable variable) =
    constructs.RequiredParameter ∷ in_variable constructs.TypedParameter variable
in_required (types.required_single token single) =
    constructs.RequiredParameter ∷ constructs.SingletonParameter ∷ of_single single ∷ []

-- the required parameters of a list
abbrev pub in_all_required : List RequiredTree → List Construct
in_all_required required =
    by_count constructs.NoParameter constructs.SeveralParameters (length required)
    ++ flat_map in_required required

abbrev pub in_rest_result : Option VariableTree → List Construct
in_rest_result None = []
in_rest_result (Some variable) = constructs.RestResult ∷ in_variable constructs.TypedResult variable

abbrev pub in_given : ResultTree → List Construct
in_given (types.several_results variables rest) =
    constructs.Results
    ∷ (flat_map (in_variable constructs.TypedResult) variables ++ in_rest_result rest)
in_given (types.one_result variable) =
    constructs.Results ∷ in_variable constructs.TypedResult variable

abbrev pub in_results : Option ResultTree → List Construct
in_results None = []
in_results (Some results) = in_given results
