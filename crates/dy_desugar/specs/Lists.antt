-- The table at the lists that a source tree holds.
use Rattle.std.specs.Prelude.{Bool, false, codes, List, [], ◌∷◌, map, Option, Some, None}
use Rattle.std.specs.Prelude.{option_map}
use Rattle.std.specs.Global.{Vec, Box}
use Rattle.dy_tree.specs.declared.token.Token.{Token}
use Rattle.dy_tree.specs.declared.expression.Expression.{Expression}
use Rattle.dy_tree.specs.declared.expression.Argument.{Argument}
use Rattle.dy_tree.specs.declared.expression.Item.{Item}
use Rattle.dy_tree.specs.declared.expression.Alternative.{Alternative}
use Rattle.dy_tree.specs.declared.expression.Arm.{Arm}
use Rattle.dy_tree.specs.declared.expression.BlockClause.{BlockClause}
use Rattle.dy_tree.specs.declared.expression.ForClause.{ForClause}
use Rattle.dy_tree.specs.declared.expression.Limit.{Limit}
use Rattle.dy_tree.specs.declared.expression.Stop.{Stop}
use Rattle.dy_tree.specs.declared.expression.Key.{Key}
use Rattle.dy_tree.specs.declared.expression.Keys.{Keys, out-Keys}
use Rattle.dy_tree.specs.declared.expression.Parameters.{Parameters, out-Parameters}
use Rattle.dy_tree.specs.declared.expression.LocalMethod.{LocalMethod, out-LocalMethod}
use Rattle.dy_tree.specs.Spelling.{is_spelled}
use Rattle.dy_term.specs.Types.{CoreKey}
use Rattle.dy_term.specs.Drafts.{Core, CoreItem, CoreArm, CoreLambda, CoreClause, CoreLimit}
use Rattle.dy_term.specs.Drafts.{no_limit, a_limit, CoreTest, no_test, a_test, CoreCatch, MaybeCore}
use Rattle.dy_term.specs.Drafts.{nothing, just}
use Rattle.dy_rules.specs.SeenTypes.{seen_variable}
use Rattle.dy_drafts.specs.Parts.{bodied, false_core, first_or_false, limit_of}
use Rattle.dy_drafts.specs.Shapes.{key_of, type_of}
use Rattle.dy_rules.specs.Trees as source
use Rattle.dy_rules.specs.Trees.{BlockClauses, block_clauses_of, afterwards_clause, cleanup_clause}
use Rattle.dy_rules.specs.Trees.{exception_clause}
use Rattle.dy_rules.specs.SeenForms.{seen_tree, seen_argument, seen_item, seen_clause}
use Rattle.dy_rules.specs.SeenForms.{seen_for_clause, seen_parameters}
use Rattle.dy_desugar.specs.Table as table

abbrev pub tree_core : Expression → Core
tree_core tree = table.core_of (seen_tree tree)

abbrev pub argument_terms : Argument → List Core
argument_terms argument = table.argument_of (seen_argument argument)

abbrev pub item_core : Item → CoreItem
item_core item = table.item_of (seen_item item)

abbrev pub body_core : List Item → Core
body_core items = bodied (map item_core items)

-- what may be left out, and is then `#f`
abbrev pub given_or_false : MaybeCore → Core
given_or_false nothing = false_core
given_or_false (just term) = term

-- a body that may be left out, and is then nothing or `#f`
abbrev pub maybe_body : Option (Vec Item) → MaybeCore
maybe_body None = nothing
maybe_body (Some items) = just (body_core items.items)

abbrev pub otherwise_core : Option (Vec Item) → Core
otherwise_core last = given_or_false (maybe_body last)

-- an expression that may be left out
abbrev pub maybe_tree : Option Expression → MaybeCore
maybe_tree None = nothing
maybe_tree (Some tree) = just (tree_core tree)

abbrev pub maybe_boxed : Option (Box Expression) → MaybeCore
maybe_boxed None = nothing
maybe_boxed (Some tree) = just (tree_core tree.value)

-- a test and its body
abbrev pub alternative_core : Alternative → Core × Core
alternative_core alternative = (tree_core alternative.test, body_core alternative.body.items)

abbrev pub case_core : Arm → Core × Core
case_core arm = (first_or_false (map tree_core arm.tests.items), body_core arm.body.items)

abbrev pub arm_core : Arm → CoreArm
arm_core arm = record { values = map tree_core arm.tests.items; body = body_core arm.body.items }

-- the default of a keyword parameter
abbrev pub default_core : Option Expression → Core
default_core default = given_or_false (maybe_tree default)

abbrev pub key_default : Key → Core
key_default key = default_core key.default

abbrev pub key_core : Key → CoreKey
key_core key = key_of key.keyword (seen_variable key.variable)

abbrev pub keys_defaults : Option Keys → List Core
keys_defaults None = []
keys_defaults (Some keys) = map key_default (out-Keys keys).keys.items

abbrev pub parameter_defaults : Parameters → List Core
parameter_defaults row = keys_defaults (out-Parameters row).keys

abbrev pub keys_core : Option Keys → Option (List CoreKey)
keys_core None = None
keys_core (Some keys) = Some (map key_core (out-Keys keys).keys.items)

abbrev pub keys_all : Option Keys → Bool
keys_all None = false
keys_all (Some keys) = (out-Keys keys).takes_all

-- a body with its parameters
abbrev pub lambda_core : Parameters → List Item → CoreLambda
lambda_core row items = table.lambda_from (seen_parameters row) (parameter_defaults row)
    (body_core items)

abbrev pub method_core : LocalMethod → Token × CoreLambda
method_core method = (
  (out-LocalMethod method).name,
  lambda_core (out-LocalMethod method).parameters
      (out-LocalMethod method).body.items,
)

-- the clauses of a block
abbrev pub block_clauses : List BlockClause → BlockClauses
block_clauses clauses = block_clauses_of (map seen_clause clauses)

-- what a clause says by itself
abbrev pub own_afterwards : source.BlockClause → MaybeCore
own_afterwards (afterwards_clause body) = just (table.body_of body)
own_afterwards (cleanup_clause body) = nothing
own_afterwards (exception_clause variable condition body) = nothing

abbrev pub own_cleanup : source.BlockClause → MaybeCore
own_cleanup (afterwards_clause body) = nothing
own_cleanup (cleanup_clause body) = just (table.body_of body)
own_cleanup (exception_clause variable condition body) = nothing

abbrev pub own_exception : source.BlockClause → Option CoreCatch
own_exception (afterwards_clause body) = None
own_exception (cleanup_clause body) = None
own_exception (exception_clause variable condition body) =
    Some (record { variable = variable; condition = type_of condition; body = table.body_of body })

abbrev pub for_clause_core : ForClause → CoreClause
for_clause_core clause = table.for_clause_of (seen_for_clause clause)

abbrev pub bound_core : Option Limit → CoreLimit
bound_core None = no_limit
bound_core (Some limit) = a_limit (limit_of limit.word) (tree_core limit.bound)

abbrev pub stop_core : Option (Box Stop) → CoreTest
stop_core None = no_test
stop_core (Some stop) = a_test (is_spelled (codes "until") stop.value.keyword)
    (tree_core stop.value.test)
