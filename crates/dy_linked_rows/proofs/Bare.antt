-- Rows without terms, and how many rows there are.
use Rattle.std.proofs.Common.{◌≡◌, ℕ, Bool, false, List, [], ◌∷◌, map, Option, Some, None, refl, sym, ap, ◌∙◌}
use Rattle.std.specs.Option.{option_map}
use Rattle.std.proofs.lemmas.List.{length-map}
use Rattle.dy_term.specs.declared.term.ForClause.{ForClause}
use Rattle.dy_term.specs.declared.term.Item.{Item}
use Rattle.dy_term.specs.declared.term.Term.{Term, Term-F, roll-Term, fold-roll-Term}
use Rattle.dy_term.specs.declared.term.BlockRow.{BlockRow}
use Rattle.dy_term.specs.declared.term.ForRow.{ForRow}
use Rattle.dy_term.specs.declared.term.Lambda.{Lambda, Lambda-F, out-Lambda, roll-Lambda, fold-roll-Lambda}
use Rattle.dy_term.specs.declared.rows.Init.{Init}
use Rattle.dy_term.specs.declared.rows.Init.TheVariants.{Each, Calling}
use Rattle.dy_term.specs.declared.rows.SlotRow.{SlotRow}
use Rattle.dy_term.specs.declared.rows.ClassRow.{ClassRow}
use Rattle.dy_term.specs.declared.rows.MethodCode.{MethodCode}
use Rattle.dy_term.specs.declared.rows.MethodCode.TheVariants.{Dylan, Getter, Setter, Builtin}
use Rattle.dy_term.specs.declared.rows.MethodRow.{MethodRow}
use Rattle.dy_term.specs.declared.rows.VariableRow.{VariableRow}
use Rattle.dy_term.specs.declared.rows.LibraryRow.{LibraryRow}
use Rattle.dy_lowered.specs.Linking.{linked_class, linked_type, linked_params, linked_results}
use Rattle.dy_lowered.specs.Units.{no_term, bare_lambda, bare_init, bare_slot, bare_class, bare_code, bare_method, bare_variable, bare_row}
use Rattle.dy_linked_rows.specs.Terms.{linked_generic, linked_term, linked_lambda}
use Rattle.dy_linked_rows.specs.Rows.{linked_init, linked_slot, linked_class_row, linked_generic_row, linked_method_code, linked_method_row, linked_domain, linked_variable, linked_form, linked_library}
use Rattle.dy_linked_rows.specs.Laws.{BareRowsAreLinked, CountsStay}
use Rattle.dy_linked_rows.proofs.Blind.{row_of_lambda}

-- both orders on a list
module _ {A : Type 0} (f g : A → A) (same : (x : A) → f (g x) ≡ g (f x)) where
  orders : (xs : List A) → map f (map g xs) ≡ map g (map f xs)
  orders [] = refl
  orders (x ∷ xs) = λ j. same x j ∷ orders xs j

  held_orders : (x : Option A) → option_map f (option_map g x) ≡ option_map g (option_map f x)
  held_orders None = refl
  held_orders (Some x) = ap Some (same x)

module _ (places : ℕ → ℕ) where
  no_term_linked : linked_term places no_term ≡ no_term
  no_term_linked = fold-roll-Term _ _ _ _ _ _ _ _ _ _ _ _ (Term-F.Body [])

  bare_lambda_linked : (lambda : Lambda) → bare_lambda (linked_lambda places lambda) ≡ linked_lambda places (bare_lambda lambda)
  bare_lambda_linked lambda =
      let row = out-Lambda lambda in
      let empty : Lambda-F ForClause Item Term BlockRow ForRow Lambda = record { params = row.params; keywords = []; next = false; first = 0; locals = 0; body = no_term; results = row.results } in
      (λ j. roll-Lambda (record {
        params = (row_of_lambda places lambda j).params;
        keywords = [];
        next = false;
        first = 0;
        locals = 0;
        body = no_term;
        results = (row_of_lambda places lambda j).results;
      }))
      ∙ ((λ j. roll-Lambda (record {
        params = linked_params places row.params;
        keywords = [];
        next = false;
        first = 0;
        locals = 0;
        body = sym no_term_linked j;
        results = linked_results places row.results;
      }))
      ∙ sym (fold-roll-Lambda _ _ _ _ _ _ _ _ _ _ _ _ empty))

  init_linked : (init : Init) → bare_init (linked_init places init) ≡ linked_init places (bare_init init)
  init_linked (Each term) = ap Each (sym no_term_linked)
  init_linked (Calling term) = ap Calling (sym no_term_linked)

  slot_linked : (slot : SlotRow) → bare_slot (linked_slot places slot) ≡ linked_slot places (bare_slot slot)
  slot_linked slot = λ j. record {
    getter = linked_generic places slot.getter;
    setter = option_map (linked_generic places) slot.setter;
    kind = slot.kind;
    slot_type = linked_type places slot.slot_type;
    keyword = slot.keyword;
    required = slot.required;
    init = held_orders bare_init (linked_init places) init_linked slot.init j;
  }

  class_linked : (class : ClassRow) → bare_class (linked_class_row places class) ≡ linked_class_row places (bare_class class)
  class_linked class = λ j. record {
    name = class.name;
    supers = map (linked_class places) class.supers;
    order = map (linked_class places) class.order;
    is_open = class.is_open;
    is_abstract = class.is_abstract;
    is_primary = class.is_primary;
    slots = orders bare_slot (linked_slot places) slot_linked class.slots j;
  }

  code_linked : (code : MethodCode) → bare_code (linked_method_code places code) ≡ linked_method_code places (bare_code code)
  code_linked (Dylan lambda) = ap Dylan (bare_lambda_linked lambda)
  code_linked (Getter class slot) = refl
  code_linked (Setter class slot) = refl
  code_linked (Builtin operation) = refl

  method_linked : (method : MethodRow) → bare_method (linked_method_row places method) ≡ linked_method_row places (bare_method method)
  method_linked method = λ j. record {
    generic = linked_generic places method.generic;
    params = linked_params places method.params;
    results = linked_results places method.results;
    code = code_linked method.code j;
  }

  variable_linked : (variable : VariableRow) → bare_variable (linked_variable places variable) ≡ linked_variable places (bare_variable variable)
  variable_linked variable = λ j. record {
    name = variable.name;
    declared = linked_type places variable.declared;
    is_constant = variable.is_constant;
    function = held_orders bare_lambda (linked_lambda places) bare_lambda_linked variable.function j;
    named = option_map (linked_type places) variable.named;
    builtin = variable.builtin;
  }

pub bare_rows_are_linked : BareRowsAreLinked
bare_rows_are_linked places library = λ j. record {
  name = library.name;
  uses = map places library.uses;
  classes = orders bare_class (linked_class_row places) (class_linked places) library.classes j;
  generics = map (linked_generic_row places) library.generics;
  methods = orders bare_method (linked_method_row places) (method_linked places) library.methods j;
  domains = map (linked_domain places) library.domains;
  variables = orders bare_variable (linked_variable places) (variable_linked places) library.variables j;
  tops = [];
}

pub counts_stay : CountsStay
counts_stay places library = record {
  classes = length-map library.classes (linked_class_row places);
  generics = length-map library.generics (linked_generic_row places);
  methods = length-map library.methods (linked_method_row places);
  domains = length-map library.domains (linked_domain places);
  variables = length-map library.variables (linked_variable places);
  tops = length-map library.tops (linked_form places);
}
