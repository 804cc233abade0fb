-- Types, constants and variables without where they lie in memory.
use Rattle.std.specs.Prelude.{List, [], ◌∷◌, map, Option, Some, None, option_map}
use Rattle.dy_tree.specs.declared.types.ConstantForm.{ConstantForm}
use Rattle.dy_tree.specs.declared.types.ConstantForm as constants
use Rattle.dy_tree.specs.declared.types.SingleForm.{SingleForm}
use Rattle.dy_tree.specs.declared.types.SingleForm.TheVariants as singles
use Rattle.dy_tree.specs.declared.types.BoundForm.{BoundForm}
use Rattle.dy_tree.specs.declared.types.TypeForm.{TypeForm}
use Rattle.dy_tree.specs.declared.types.TypeForm as types
use Rattle.dy_tree.specs.declared.variables.Variable.{Variable}
use Rattle.dy_tree.specs.declared.variables.Target.{Target}
use Rattle.dy_tree.specs.declared.variables.Target.TheVariants as targets
use Rattle.dy_tree.specs.declared.variables.Required.{Required}
use Rattle.dy_tree.specs.declared.variables.Required.TheVariants as required
use Rattle.dy_tree.specs.declared.variables.Results.{Results}
use Rattle.dy_tree.specs.declared.variables.Results.TheVariants as results
use Rattle.dy_rules.specs.ConstantTrees.{Constant, literal_item, list_item, vector_item, Constants}
use Rattle.dy_rules.specs.ConstantTrees.{no_constant, constant_and, Tail, no_tail, tail}
use Rattle.dy_rules.specs.Types.{Single, literal_single, empty_single, name_single, Bound, TypeTree}
use Rattle.dy_rules.specs.Types.{named_type, singleton_type, union_type, limited_type, TypeTrees}
use Rattle.dy_rules.specs.Types.{no_type, type_and, VariableTree, TargetTree, one_target, several}
use Rattle.dy_rules.specs.Types.{RequiredTree, required_variable, required_single, ResultTree}
use Rattle.dy_rules.specs.Types.{several_results, one_result}

abbrev mutual
  pub seen_constant : ConstantForm → Constant
  seen_constant (constants.Literal form) = literal_item form
  seen_constant (constants.List' opener shape items last) =
      list_item opener (seen_constants items) (seen_tail last)
  seen_constant (constants.Vector' opener shape items) = vector_item opener (seen_constants items)

  pub seen_constants : {m : _} → constants.Row_of-ConstantForm m → Constants
  seen_constants constants.end_of-ConstantForm = no_constant
  seen_constants (constants.more_of-ConstantForm first rest) =
      constant_and (seen_constant first) (seen_constants rest)

  pub seen_tail : constants.Held-ConstantForm-List-2 → Tail
  seen_tail constants.None' = no_tail
  seen_tail (constants.Some' p form) = tail (seen_constant form)

abbrev pub seen_single : SingleForm → Single
seen_single (singles.Literal form) = literal_single form
seen_single (singles.Empty opener) = empty_single opener
seen_single (singles.Name token) = name_single token

abbrev pub seen_bound : BoundForm → Bound
seen_bound bound = record { keyword = bound.keyword; number = bound.number }

abbrev mutual
  pub seen_type : TypeForm → TypeTree
  seen_type (types.Name token) = named_type token
  seen_type (types.Singleton word single) = singleton_type word (seen_single single)
  seen_type (types.Union' word shape inner) = union_type word (seen_types inner)
  seen_type (types.Limited word class bounds) =
      limited_type word class (map seen_bound bounds.items)

  pub seen_types : {m : _} → types.Row_of-TypeForm m → TypeTrees
  seen_types types.end_of-TypeForm = no_type
  seen_types (types.more_of-TypeForm first rest) = type_and (seen_type first) (seen_types rest)

abbrev pub seen_variable : Variable → VariableTree
seen_variable variable = record
    { variable = variable.name; declared = option_map seen_type variable.declared }

abbrev pub seen_target : Target → TargetTree
seen_target (targets.One variable) = one_target (seen_variable variable)
seen_target (targets.Several bound) = several (map seen_variable bound.variables.items) bound.rest

abbrev pub seen_required : Required → RequiredTree
seen_required (required.Variable variable) = required_variable (seen_variable variable)
seen_required (required.Single token single) = required_single token (seen_single single)

abbrev pub seen_results : Results → ResultTree
seen_results (results.Several variables rest) =
    several_results (map seen_variable variables.items) (option_map seen_variable rest)
seen_results (results.One variable) = one_result (seen_variable variable)
