-- Rows in a program, where a library stands at another place than in the view in which they were
-- read. References, and the libraries that are used, are renumbered; nothing else is changed.
use Rattle.std.specs.Prelude.{ℕ, map}
use Rattle.std.specs.Option.{option_map}
use Rattle.dy_term.specs.declared.rows.Init.{Init}
use Rattle.dy_term.specs.declared.rows.Init.TheVariants.{Each, Calling}
use Rattle.dy_term.specs.declared.rows.SlotRow.{SlotRow}
use Rattle.dy_term.specs.declared.rows.ClassRow.{ClassRow}
use Rattle.dy_term.specs.declared.rows.GenericRow.{GenericRow}
use Rattle.dy_term.specs.declared.rows.MethodCode.{MethodCode}
use Rattle.dy_term.specs.declared.rows.MethodCode.TheVariants.{Dylan, Getter, Setter, Builtin}
use Rattle.dy_term.specs.declared.rows.MethodRow.{MethodRow}
use Rattle.dy_term.specs.declared.rows.DomainRow.{DomainRow}
use Rattle.dy_term.specs.declared.rows.VariableRow.{VariableRow}
use Rattle.dy_term.specs.declared.rows.TopTerm.{TopTerm}
use Rattle.dy_term.specs.declared.rows.TopTerm.TheVariants as tops
use Rattle.dy_term.specs.declared.rows.LibraryRow.{LibraryRow}
use Rattle.dy_lowered.specs.Linking.{linked_name, linked_class, linked_type, linked_params}
use Rattle.dy_lowered.specs.Linking.{linked_results}
use Rattle.dy_linked_rows.specs.Terms.{linked_generic, linked_term, linked_lambda}

module _ (places : ℕ → ℕ) where
  abbrev pub linked_init : Init → Init
  linked_init (Each term) = Each (linked_term places term)
  linked_init (Calling term) = Calling (linked_term places term)

  abbrev pub linked_slot : SlotRow → SlotRow
  linked_slot row = record row {
    getter = linked_generic places row.getter;
    setter = option_map (linked_generic places) row.setter;
    slot_type = linked_type places row.slot_type;
    init = option_map linked_init row.init;
  }

  abbrev pub linked_class_row : ClassRow → ClassRow
  linked_class_row row = record row {
    supers = map (linked_class places) row.supers;
    order = map (linked_class places) row.order;
    slots = map linked_slot row.slots;
  }

  abbrev pub linked_generic_row : GenericRow → GenericRow
  linked_generic_row row = record row {
    params = linked_params places row.params;
    results = linked_results places row.results;
  }

  abbrev pub linked_method_code : MethodCode → MethodCode
  linked_method_code (Dylan lambda) = Dylan (linked_lambda places lambda)
  linked_method_code (Getter class slot) = Getter (linked_class places class) slot
  linked_method_code (Setter class slot) = Setter (linked_class places class) slot
  linked_method_code (Builtin operation) = Builtin operation

  abbrev pub linked_method_row : MethodRow → MethodRow
  linked_method_row row = record {
    generic = linked_generic places row.generic;
    params = linked_params places row.params;
    results = linked_results places row.results;
    code = linked_method_code row.code;
  }

  abbrev pub linked_domain : DomainRow → DomainRow
  linked_domain row = record {
    generic = linked_generic places row.generic;
    types = map (linked_type places) row.types;
    result = option_map (linked_type places) row.result;
  }

  abbrev pub linked_variable : VariableRow → VariableRow
  linked_variable row = record row {
    declared = linked_type places row.declared;
    function = option_map (linked_lambda places) row.function;
    named = option_map (linked_type places) row.named;
  }

  -- a form that runs
  abbrev pub linked_form : TopTerm → TopTerm
  linked_form (tops.Init bindings term) =
      tops.Init (map (linked_name places) bindings) (linked_term places term)
  linked_form (tops.Run term) = tops.Run (linked_term places term)

  abbrev pub linked_library : LibraryRow → LibraryRow
  linked_library row = record row {
    uses = map places row.uses;
    classes = map linked_class_row row.classes;
    generics = map linked_generic_row row.generics;
    methods = map linked_method_row row.methods;
    domains = map linked_domain row.domains;
    variables = map linked_variable row.variables;
    tops = map linked_form row.tops;
  }
