-- Parameters, put together of what was read.
use Rattle.std.proofs.Common.{◌≡◌, ◌∷◌, ◌∙◌, List, [], map, Option, Some, None, option_map, refl, ap}
use Rattle.dy_tree.specs.declared.expression.Key.{Key}
use Rattle.dy_tree.specs.declared.token.Token.{Token}
use Rattle.dy_tree.specs.declared.variables.Required.{Required}
use Rattle.dy_tree.specs.declared.variables.Results.{Results}
use Rattle.dy_rules.specs.SeenTypes.{seen_required, seen_results}
use Rattle.dy_rules.specs.Trees as trees
use Rattle.dy_rules.specs.Types.{RequiredTree, ResultTree}
use Rattle.dy_rules_depth.specs.Changes.{changed_key, changed_required, changed_results, changed_maybe_keys, changed_parameters}
use Rattle.dy_rules_depth.specs.Capping.{filling}
use Rattle.dy_rules_depth.proofs.Rows.{row_keys}
use Rattle.dy_read_shapes.specs.declared.keys_read.KeysRead.{KeysRead}
use Rattle.dy_rules.specs.Held.{held_key}
use Rattle.dy_read_shapes.specs.ListHeads.{read_each_required}
use Rattle.dy_read_bodies.specs.Parameters.{kept_keys}
use Rattle.dy_read_shapes.specs.ReadKeys.{read_key, read_each_key, read_keys}
use Rattle.dy_read_shapes.specs.ReadRequired.{read_required}
use Rattle.dy_read_types.specs.Results.{read_results}

filled_required : (forms : List Required) → map (changed_required filling) (map seen_required forms) ≡ read_each_required forms
filled_required [] = refl
filled_required (first ∷ rest) = ap (λ (others : List RequiredTree). read_required first ∷ others) (filled_required rest)

filled_keys : (forms : List Key) → map (changed_key filling) (map held_key forms) ≡ read_each_key forms
filled_keys [] = refl
filled_keys (first ∷ rest) = ap (λ (others : List trees.Key). read_key first ∷ others) (filled_keys rest)

filled_maybe : (read : Option KeysRead) → changed_maybe_keys filling (kept_keys read) ≡ trees.maybe_keys (option_map read_keys read)
filled_maybe None = refl
filled_maybe (Some read) =
    ap (λ (keys : trees.Keys). trees.some_keys keys read.takes_all) (row_keys filling (map held_key read.keys.items) ∙ ap trees.keys_of (filled_keys read.keys.items))

filled_results : (results : Option Results) → option_map (changed_results filling) (option_map seen_results results) ≡ option_map read_results results
filled_results None = refl
filled_results (Some results) = refl

pub filled_parameters : (required : List Required) (next rest : Option Token) (keys : Option KeysRead) (results : Option Results)
    → changed_parameters filling (trees.parameters (map seen_required required) next rest (kept_keys keys) (option_map seen_results results))
    ≡ trees.parameters (read_each_required required) next rest (trees.maybe_keys (option_map read_keys keys)) (option_map read_results results)
filled_parameters required next rest keys results =
    ap (λ (trees_of : List RequiredTree). trees.parameters trees_of next rest (changed_maybe_keys filling (kept_keys keys)) (option_map (changed_results filling) (option_map seen_results results))) (filled_required required)
    ∙ ap (λ (found : trees.MaybeKeys). trees.parameters (read_each_required required) next rest found (option_map (changed_results filling) (option_map seen_results results))) (filled_maybe keys)
    ∙ ap (λ (found : Option ResultTree). trees.parameters (read_each_required required) next rest (trees.maybe_keys (option_map read_keys keys)) found) (filled_results results)
