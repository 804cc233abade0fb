-- The generic functions of a library (DRM 6; own in where an implicit one stands): a name's is the
-- one that a form defines, or else the one that the first method or slot of the name makes.
use Rattle.std.specs.Prelude.{ℕ, Bool, false, List, [], ◌∷◌, ◌++◌, length, zip, flat_map, ◌==◌}
use Rattle.std.specs.Prelude.{Option, Some, None, is_some, if◌then◌else◌}
use Rattle.std.specs.FinMap.{values, from_entries}
use Rattle.std.specs.Ordering.{nat_cmp}
use Rattle.dy_base.specs.Folding.{folded}
use Rattle.dy_base.specs.declared.ids.BindingId.{BindingId}
use Rattle.dy_base.specs.declared.ids.What.{What}
use Rattle.dy_base.specs.declared.ids.What.TheVariants as whats
use Rattle.dy_tree.specs.declared.token.Token.{Token}
use Rattle.dy_term.specs.declared.rows.GenericRow.{GenericRow}
use Rattle.dy_term.specs.Drafts.{CoreLambda, lambda}
use Rattle.dy_term.specs.Rows.{CoreDraft, CoreSlot, class_row, generic_row, method_row, domain_row}
use Rattle.dy_term.specs.Rows.{variable_row, top_term}
use Rattle.dy_names.specs.Naming.{Table}
use Rattle.dy_generics.specs.Implicit.{plain_generic}

-- the number of a generic function among those of this library, if it is one of them
abbrev pub number_by : ℕ → BindingId → What → Option ℕ
number_by library binding whats.Generic =
    if binding.at.library == library then Some binding.at.row else None
number_by library binding whats.Class = None
number_by library binding whats.Variable = None
number_by library binding whats.Constant = None
number_by library binding whats.Function = None
number_by library binding whats.Macro = None

abbrev pub number_in : ℕ → Option BindingId → Option ℕ
number_in library None = None
number_in library (Some binding) = number_by library binding binding.what

-- a name, and a generic function for it
abbrev pub Offer : Type 0
Offer = Token × GenericRow

-- a generic function that is made
abbrev pub made : Token → ℕ → (rest keys : Bool) → Offer
made name count rest keys = (name, plain_generic (folded name.text) count rest keys)

-- A method makes one that takes what the method takes.
abbrev pub made_by_method : Token → CoreLambda → Offer
made_by_method name (lambda params defaults code results) =
    made name (length params.required) (is_some params.rest) (is_some params.keys)

abbrev pub made_by_setter : Option Token → List Offer
made_by_setter None = []
made_by_setter (Some setter) = made setter 2 false false ∷ []

-- A getter takes an object, and a setter a value and an object.
abbrev pub made_by_slot : CoreSlot → List Offer
made_by_slot slot = made slot.getter 1 false false ∷ made_by_setter slot.setter

abbrev pub made_by : CoreDraft → List Offer
made_by (class_row class) = flat_map made_by_slot class.slots
made_by (generic_row generic) = []
made_by (method_row method) = made_by_method method.generic method.code ∷ []
made_by (domain_row domain) = []
made_by (variable_row variable) = []
made_by (top_term top) = []

-- the name of the generic function that a form defines
abbrev pub defined_by : CoreDraft → List Token
defined_by (class_row class) = []
defined_by (generic_row generic) = generic.name ∷ []
defined_by (method_row method) = []
defined_by (domain_row domain) = []
defined_by (variable_row variable) = []
defined_by (top_term top) = []

-- Those that forms define, which have these rows, stand in front of those that are made.
abbrev pub offers : List CoreDraft → List GenericRow → List Offer
offers forms defined = zip (flat_map defined_by forms) defined ++ flat_map made_by forms

abbrev pub with_number : Option ℕ → GenericRow → List (ℕ × GenericRow)
with_number None row = []
with_number (Some number) row = (number, row) ∷ []

-- each that has a number of this library, with its number
abbrev pub numbered : ℕ → Table → List Offer → List (ℕ × GenericRow)
numbered library owner offers =
    flat_map (λ offer. with_number (number_in library (owner offer.0)) offer.1) offers

-- the first of each number, in the order of the numbers
abbrev pub generics_of : ℕ → Table → List CoreDraft → List GenericRow → List GenericRow
generics_of library owner forms defined =
    values (from_entries {R = nat_cmp} (numbered library owner (offers forms defined)))
