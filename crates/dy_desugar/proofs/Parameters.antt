-- What a parameter list is in the core, as the lists that it holds.
use Rattle.std.proofs.Common.{◌≡◌, List, map, refl, rules}
use Rattle.std.specs.Prelude.{Option, Some, None, option_map}
use Rattle.dy_tree.specs.declared.expression.Argument.TheViews.{the_lemmas}
use Rattle.dy_tree.specs.declared.expression.Keys.{Keys, Keys', out-Keys}
use Rattle.dy_tree.specs.declared.expression.Parameters.{Parameters, Parameters', out-Parameters, Held-Parameters-keys, Parameters-keys-None', Parameters-keys-Some', view-Parameters-keys}
use Rattle.dy_term.specs.Types.{CoreParams, CoreResults}
use Rattle.dy_rules.specs.SeenTypes.{seen_required, seen_results}
use Rattle.dy_drafts.specs.Shapes.{required_of, results_of}
use Rattle.dy_rules.specs.SeenForms.{seen_parameters, seen_maybe_keys}
use Rattle.dy_desugar.specs.Table as table
use Rattle.dy_desugar.specs.Lists.{keys_core, keys_all}
use Rattle.dy_desugar.proofs.Rows.{keys_items}

keys_held : (keys : Held-Parameters-keys) → table.keys_of (seen_maybe_keys keys) ≡ keys_core (view-Parameters-keys keys)
keys_held Parameters-keys-None' = refl
keys_held (Parameters-keys-Some' (Keys' shape keys takes_all)) = search (rules, the_lemmas, keys_items)

all_held : (keys : Held-Parameters-keys) → table.takes_all (seen_maybe_keys keys) ≡ keys_all (view-Parameters-keys keys)
all_held Parameters-keys-None' = refl
all_held (Parameters-keys-Some' (Keys' shape keys takes_all)) = search (rules, the_lemmas)

pub at_parameters : (row : Parameters) → table.params_of (seen_parameters row)
    ≡ record {
      required = map required_of (map seen_required (out-Parameters row).required.items);
      next = (out-Parameters row).next;
      rest = (out-Parameters row).rest;
      keys = keys_core (out-Parameters row).keys;
      all_keys = keys_all (out-Parameters row).keys;
    }
at_parameters (Parameters' required next rest keys results) = search (rules, the_lemmas, keys_held, all_held)

pub at_results : (row : Parameters) → table.returned_of (seen_parameters row) ≡ results_of (option_map seen_results (out-Parameters row).results)
unfolding out-Parameters denote.Hole.Carrier.out
at_results (Parameters' required next rest keys results) = refl
