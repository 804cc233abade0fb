-- The lists that are made, and what one more instruction adds to them.
use Rattle.std.specs.Prelude.{Bool, List, [], map}
use Rattle.std.specs.declared.option.Option.{Option}
use Rattle.std.specs.declared.option.Option.TheVariants.{None, Some}
use Rattle.indexmap.specs.IndexSet.{insert_key}
use Rattle.dy_values.specs.Identity.{is_same_binding}
use Rattle.dy_code.specs.Fetching.{Instruction}
use Rattle.dy_lowered.specs.Items.{constant_of, name_of, bound_of, list_of, type_of, results_of}
use Rattle.dy_lowered.specs.Sameness.{is_same_literal, is_same_bound, is_same_params, is_same_type}
use Rattle.dy_lowered.specs.Sameness.{is_same_results}
use Rattle.dy_lowered.specs.Tables.{Tables}
use Rattle.dy_keys.specs.Keys.{literal_of, params_of}
use Rattle.dy_keys.specs.Keys.{name_of as key_name, type_of as key_type, results_of as key_results}
use Rattle.dy_lower_lists.specs.declared.lists.Lists.{Lists}

abbrev pub tables : Lists → Tables
tables lists = record {
  constants = map literal_of lists.constants.keys;
  names = map key_name lists.names.keys;
  bound = [];
  lists = map params_of lists.lists.keys;
  types = map key_type lists.types.keys;
  results = map key_results lists.results.keys;
}

-- a list with one item more at its end, unless it holds it
abbrev pub with_item : {A : Type 0} → (A → A → Bool) → List A → Option A → List A
with_item same items None = items
with_item same items (Some item) = insert_key same items item

abbrev pub noted : Tables → Instruction → Tables
noted old instruction = record {
  constants = with_item is_same_literal old.constants (constant_of instruction);
  names = with_item is_same_binding old.names (name_of instruction);
  bound = with_item is_same_bound old.bound (bound_of instruction);
  lists = with_item is_same_params old.lists (list_of instruction);
  types = with_item is_same_type old.types (type_of instruction);
  results = with_item is_same_results old.results (results_of instruction);
}
