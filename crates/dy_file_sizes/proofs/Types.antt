-- What is bound has a token for each local.
use Rattle.std.proofs.Common.{ℕ, ◌+◌, ◌≤◌, List, ◌∷◌, length, Option, ap, arith}
use Rattle.dy_tree.specs.declared.token.Token.{Token}
use Rattle.dy_tree.specs.Fragments.{SeenFragment, one, row}
use Rattle.dy_rules.specs.Types.{VariableTree, IsVariable, untyped, typed, Bind, last_bound, rest_bound, more_bound, TargetTree, one_target, several, IsTarget, by_variable, by_nothing, by_brackets, RequiredTree, IsRequired, any_value, one_value}
use Rattle.dy_binding.specs.Bound.{count}
use Rattle.dy_token_limit.specs.Tokens.{tokens_of}
use Rattle.dy_file_sizes.proofs.Tokens.{join_tokens, row_tokens}

pub variable_counts : (variable : VariableTree) (fragments : List SeenFragment) → IsVariable variable fragments → 1 ≤ tokens_of fragments
variable_counts variable fragments (untyped token is) = omega arith
variable_counts variable fragments (typed token sign type after is also h) = omega arith

pub required_counts : (required : RequiredTree) (fragments : List SeenFragment) → IsRequired required fragments → 1 ≤ tokens_of fragments
required_counts required fragments (any_value variable all h) = variable_counts variable all h
required_counts required fragments (one_value token sign single after is also h) = omega arith

bound_counts : (variables : List VariableTree) (rest : Option Token) (fragments : List SeenFragment) → Bind variables rest fragments → length variables + count rest ≤ tokens_of fragments
bound_counts variables rest fragments (last_bound variable all h) = omega (arith, variable_counts variable all h)
bound_counts variables rest fragments (rest_bound mark token is also) = omega arith
bound_counts variables rest fragments (more_bound variable others last separator before after all parts is h k) =
    omega (arith, ap tokens_of parts, join_tokens before (one separator ∷ after), variable_counts variable before h, bound_counts others last after k)

-- the locals of a target
abbrev pub target_size : TargetTree → ℕ
target_size (one_target variable) = 1
target_size (several variables rest) = length variables + count rest

pub target_counts : (target : TargetTree) (fragments : List SeenFragment) → IsTarget target fragments → target_size target ≤ tokens_of fragments
target_counts target fragments (by_variable variable all h) = variable_counts variable all h
target_counts target fragments (by_nothing opener closer is) = omega arith
target_counts target fragments (by_brackets variables rest opener inner closer is h) = omega (arith, row_tokens inner, bound_counts variables rest (row inner) h)
