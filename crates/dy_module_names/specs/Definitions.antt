-- What the forms of a library define, and in which modules (DRM 4, "Modules", and 10).
use Rattle.std.specs.Prelude.{ℕ, Bool, List, [], ◌∷◌, ◌++◌, map, flat_map, Option, Some, None}
use Rattle.dy_base.specs.Folding.{folded}
use Rattle.dy_base.specs.declared.ids.What.TheVariants as whats
use Rattle.dy_base.specs.declared.fault.Place.{Place}
use Rattle.dy_tree.specs.declared.token.Token.{Token}
use Rattle.dy_term.specs.Rows.{CoreDraft, class_row, generic_row, method_row, domain_row}
use Rattle.dy_term.specs.Rows.{variable_row, top_term, CoreSlot, CoreVariable, function}
use Rattle.dy_term.specs.Rows.{type_constant, CoreTop, init, run}
use Rattle.dy_modules.specs.declared.owner.Owner.{Owner}
use Rattle.dy_library_rows.specs.Names.{what_of}
use Rattle.dy_library_rows.specs.Libraries.{Form}
use Rattle.dy_definitions.specs.declared.definitions.Role.{Role}
use Rattle.dy_definitions.specs.declared.definitions.Role.TheVariants.{Makes, Adds}
use Rattle.dy_definitions.specs.declared.definitions.Definition.{Definition}

-- A name that a form defines, with what the form does to it: it makes it something, or adds a
-- method to the generic function that it means.
abbrev pub DefinedName : Type 0
DefinedName = Token × Role

abbrev pub setter_names : Option Token → List DefinedName
setter_names None = []
setter_names (Some setter) = (setter, Adds) ∷ []

-- a slot adds a getter, and then a setter where it has one
abbrev pub slot_names : CoreSlot → List DefinedName
slot_names slot = (slot.getter, Adds) ∷ setter_names slot.setter

abbrev pub slots_names : List CoreSlot → List DefinedName
slots_names [] = []
slots_names (slot ∷ slots) = slot_names slot ++ slots_names slots

abbrev pub variable_names : CoreVariable → List DefinedName
variable_names (function adjectives name code) = (name, Makes whats.Function) ∷ []
variable_names (type_constant name declared meant) = (name, Makes whats.Constant) ∷ []

abbrev pub top_names : CoreTop → List DefinedName
top_names (init is_constant variables term) =
    map (λ v. (v.0, Makes (what_of is_constant))) variables
top_names (run term) = []

-- what a form defines, in the order of the text
abbrev pub defined_names : CoreDraft → List DefinedName
defined_names (class_row class) = (class.name, Makes whats.Class) ∷ slots_names class.slots
defined_names (generic_row generic) = (generic.name, Makes whats.Generic) ∷ []
defined_names (method_row method) = (method.generic, Adds) ∷ []
defined_names (domain_row domain) = []
defined_names (variable_row variable) = variable_names variable
defined_names (top_term top) = top_names top

-- who owns what a module means by a name, and whether a definition of the name may stand there
pub record Modules : Type 0 where
  pub owner : ℕ → List ℕ → Option Owner
  pub is_open : ℕ → List ℕ → Bool

-- Each definition has the place of its form. It is one of a name in the module of the name's token.
abbrev pub definition : Modules → Place → DefinedName → Definition
definition modules place defined = record {
  place = place;
  name = defined.0;
  role = defined.1;
  owner = modules.owner defined.0.module (folded defined.0.text);
  is_open = modules.is_open defined.0.module (folded defined.0.text);
}

-- the definitions that a form has
abbrev pub definitions_of : Modules → Form → List Definition
definitions_of modules form = map (definition modules form.0) (defined_names form.1)

-- the definitions of a library, in the order of the text
abbrev pub definitions : Modules → List Form → List Definition
definitions modules forms = flat_map (definitions_of modules) forms
