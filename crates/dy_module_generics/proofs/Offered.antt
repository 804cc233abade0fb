-- Each definition of a generic function is of a name that is offered a row.
use Rattle.std.proofs.Common.{◌≡◌, Bool, List, [], ◌∷◌, ◌++◌, map, Option, Some, None, refl, sym, ap, ◌∙◌, subst}
use Rattle.std.proofs.lemmas.List.{map-append}
use Rattle.dy_base.specs.declared.fault.Place.{Place}
use Rattle.dy_base.specs.declared.ids.What.{What}
use Rattle.dy_base.specs.declared.ids.What.TheVariants as whats
use Rattle.dy_tree.specs.declared.token.Token.{Token}
use Rattle.dy_term.specs.Types.{CoreType}
use Rattle.dy_term.specs.Rows.{CoreDraft, class_row, generic_row, method_row, domain_row, variable_row, top_term, CoreSlot, CoreVariable, function, type_constant, CoreTop, init, run}
use Rattle.dy_code.specs.Validity.{Every}
use Rattle.dy_library_rows.specs.Names as plain
use Rattle.dy_library_rows.specs.Libraries.{Form}
use Rattle.dy_assembly.specs.Libraries.{drafts_of}
use Rattle.dy_definitions.specs.declared.definitions.Role.TheVariants.{Makes}
use Rattle.dy_definitions.specs.declared.definitions.Definition.{Definition}
use Rattle.dy_definitions.specs.Names.{what_made}
use Rattle.dy_module_names.specs.Definitions.{DefinedName, setter_names, slot_names, slots_names, variable_names, top_names, defined_names, Modules, definition, definitions_of, definitions}
use Rattle.dy_called_generics.proofs.Names.{AreTested}

-- what a definition makes its name
abbrev made : DefinedName → Token × What
made pair = (pair.0, what_made pair.1)

setter_made : (setter : Option Token) → map made (setter_names setter) ≡ plain.setter_name setter
setter_made None = refl
setter_made (Some setter) = refl

slots_made : (slots : List CoreSlot) → map made (slots_names slots) ≡ plain.slots_names slots
slots_made [] = refl
slots_made (slot ∷ slots) =
    map-append made (slot_names slot) (slots_names slots)
    ∙ (λ i. ((slot.getter, whats.Generic) ∷ setter_made slot.setter i) ++ slots_made slots i)

variables_made : (c : Bool) (variables : List (Token × CoreType)) → map made (map (λ (v : Token × CoreType). (v.0, Makes (plain.what_of c))) variables) ≡ map (λ (v : Token × CoreType). (v.0, plain.what_of c)) variables
variables_made c [] = refl
variables_made c (v ∷ variables) = ap (λ l. (v.0, plain.what_of c) ∷ l) (variables_made c variables)

variable_made : (v : CoreVariable) → map made (variable_names v) ≡ plain.variable_names v
variable_made (function adjectives name code) = refl
variable_made (type_constant name declared meant) = refl

top_made : (t : CoreTop) → map made (top_names t) ≡ plain.top_names t
top_made (init is_constant variables term) = variables_made is_constant variables
top_made (run term) = refl

-- A form defines the same names in its modules as without them.
all_made : (d : CoreDraft) → map made (defined_names d) ≡ plain.defined d
all_made (class_row class) = ap (λ l. (class.name, whats.Class) ∷ l) (slots_made class.slots)
all_made (generic_row generic) = refl
all_made (method_row method) = refl
all_made (domain_row domain) = refl
all_made (variable_row variable) = variable_made variable
all_made (top_term top) = top_made top

module _ (Test : Token → Type 0) where
  abbrev Passes : DefinedName → Type 0
  Passes pair = what_made pair.1 ≡ whats.Generic → Test pair.0

  unmapped : (pairs : List DefinedName) → AreTested Test (map made pairs) → Every Passes pairs
  unmapped [] all = tt
  unmapped (pair ∷ pairs) all = (all.0, unmapped pairs all.1)

  names_pass : (d : CoreDraft) → AreTested Test (plain.defined d) → Every Passes (defined_names d)
  names_pass d all = unmapped (defined_names d) (subst (AreTested Test) (sym (all_made d)) all)

  module _ (modules : Modules) (P : Definition → Type 0) (sound : (place : Place) (pair : DefinedName) → Passes pair → P (definition modules place pair)) where
    form_sound : (place : Place) (pairs : List DefinedName) → Every Passes pairs → Every P (map (definition modules place) pairs)
    form_sound place [] all = tt
    form_sound place (pair ∷ pairs) all = (sound place pair all.0, form_sound place pairs all.1)

    both : (xs ys : List Definition) → Every P xs → Every P ys → Every P (xs ++ ys)
    both [] ys some others = others
    both (x ∷ xs) ys some others = (some.0, both xs ys some.1 others)

    -- what holds of a definition whose name passes holds of all definitions of a library
    pub all_sound : (forms : List Form) → Every (λ (draft : CoreDraft). AreTested Test (plain.defined draft)) (drafts_of forms) → Every P (definitions modules forms)
    all_sound [] all = tt
    all_sound (form ∷ forms) all =
        both (definitions_of modules form) (definitions modules forms) (form_sound form.0 (defined_names form.1) (names_pass form.1 all.0)) (all_sound forms all.1)
