-- The fragments that types and variables are written as.
use Rattle.std.specs.Prelude.{List, [], ◌∷◌, ◌++◌, Option, Some, None}
use Rattle.dy_tree.specs.declared.token.Token.{Token}
use Rattle.dy_tree.specs.Fragments.{SeenFragment, one}
use Rattle.dy_rules.specs.Marks.{in_round, written_integer, written_literal, comma_mark, list_group}
use Rattle.dy_rules.specs.Marks.{colons_mark, rest_mark, next_mark, arrow_mark, identity_mark}
use Rattle.dy_rules.specs.Types.{Single, literal_single, empty_single, name_single, Bound, TypeTree}
use Rattle.dy_rules.specs.Types.{named_type, singleton_type, union_type, limited_type, TypeTrees}
use Rattle.dy_rules.specs.Types.{no_type, type_and, VariableTree, TargetTree, one_target, several}
use Rattle.dy_rules.specs.Types.{RequiredTree, required_variable, required_single, ResultTree}
use Rattle.dy_rules.specs.Types.{several_results, one_result}

abbrev pub written_single : Single → List SeenFragment
written_single (literal_single form) = written_literal form
written_single (empty_single opener) = list_group opener [] ∷ []
written_single (name_single token) = one token ∷ []

abbrev pub written_bounds : List Bound → List SeenFragment
written_bounds [] = []
written_bounds (bound ∷ rest) =
    comma_mark ∷ one bound.keyword
    ∷ (written_integer bound.number.minus bound.number.digits ++ written_bounds rest)

abbrev mutual
  pub written_type : TypeTree → List SeenFragment
  written_type (named_type token) = one token ∷ []
  written_type (singleton_type word single) = one word ∷ in_round (written_single single) ∷ []
  written_type (union_type word types) = one word ∷ in_round (written_types types) ∷ []
  written_type (limited_type word class bounds) =
      one word ∷ in_round (one class ∷ written_bounds bounds) ∷ []

  pub written_types : TypeTrees → List SeenFragment
  written_types no_type = []
  written_types (type_and first rest) = written_type first ++ types_behind rest

  pub types_behind : TypeTrees → List SeenFragment
  types_behind no_type = []
  types_behind (type_and first rest) = comma_mark ∷ (written_type first ++ types_behind rest)

abbrev pub written_declared : Option TypeTree → List SeenFragment
written_declared None = []
written_declared (Some type) = colons_mark ∷ written_type type

abbrev pub written_variable : VariableTree → List SeenFragment
written_variable variable = one variable.variable ∷ written_declared variable.declared

abbrev pub written_bound : List VariableTree → Option Token → List SeenFragment
written_bound [] None = []
written_bound [] (Some rest) = rest_mark ∷ one rest ∷ []
written_bound (variable ∷ []) None = written_variable variable
written_bound (variable ∷ []) (Some rest) =
    written_variable variable ++ comma_mark ∷ rest_mark ∷ one rest ∷ []
written_bound (variable ∷ second ∷ others) rest =
    written_variable variable ++ comma_mark ∷ written_bound (second ∷ others) rest

abbrev pub written_target : TargetTree → List SeenFragment
written_target (one_target variable) = written_variable variable
written_target (several variables rest) = in_round (written_bound variables rest) ∷ []

abbrev pub written_given : List VariableTree → Option VariableTree → List SeenFragment
written_given [] None = []
written_given [] (Some rest) = rest_mark ∷ written_variable rest
written_given (variable ∷ []) None = written_variable variable
written_given (variable ∷ []) (Some rest) =
    written_variable variable ++ comma_mark ∷ rest_mark ∷ written_variable rest
written_given (variable ∷ second ∷ others) rest =
    written_variable variable ++ comma_mark ∷ written_given (second ∷ others) rest

abbrev pub written_results : Option ResultTree → List SeenFragment
written_results None = []
written_results (Some (several_results variables rest)) =
    arrow_mark ∷ in_round (written_given variables rest) ∷ []
written_results (Some (one_result variable)) = arrow_mark ∷ written_variable variable

abbrev pub written_required : RequiredTree → List SeenFragment
written_required (required_variable variable) = written_variable variable
written_required (required_single token single) = one token ∷ identity_mark ∷ written_single single

-- the parts of a parameter list behind the required ones
abbrev pub rest_joined : Option Token → List SeenFragment → List SeenFragment
rest_joined None keys = keys
rest_joined (Some token) [] = rest_mark ∷ one token ∷ []
rest_joined (Some token) (first ∷ keys) = rest_mark ∷ one token ∷ comma_mark ∷ first ∷ keys

abbrev pub next_joined : Option Token → List SeenFragment → List SeenFragment
next_joined None rest = rest
next_joined (Some token) [] = next_mark ∷ one token ∷ []
next_joined (Some token) (first ∷ rest) = next_mark ∷ one token ∷ comma_mark ∷ first ∷ rest

abbrev pub required_joined : List RequiredTree → List SeenFragment → List SeenFragment
required_joined [] rest = rest
required_joined (required ∷ []) [] = written_required required
required_joined (required ∷ []) (first ∷ rest) =
    written_required required ++ comma_mark ∷ first ∷ rest
required_joined (required ∷ second ∷ others) rest =
    written_required required ++ comma_mark ∷ required_joined (second ∷ others) rest
