-- The type constants of a library, by its forms: which one a binding means, which uses which, and
-- those on rings.
use Rattle.std.specs.Prelude.{◌≡◌, ℕ, Bool, false, ◌&&◌, ◌==◌, List, [], ◌∷◌, ◌++◌, flat_map}
use Rattle.std.specs.Prelude.{Option, Some, None, IsSome, if◌then◌else◌}
use Rattle.std.specs.Option.{is_none}
use Rattle.dy_base.specs.declared.fault.Fault.{Fault}
use Rattle.dy_base.specs.declared.fault.Place.{Place}
use Rattle.dy_base.specs.declared.ids.BindingId.{BindingId}
use Rattle.dy_base.specs.declared.ids.What.{What}
use Rattle.dy_base.specs.declared.ids.What.TheVariants as whats
use Rattle.dy_tree.specs.declared.token.Token.{Token}
use Rattle.dy_term.specs.Types.{CoreType, object, integer, named, single, single_name, union, range}
use Rattle.dy_term.specs.Types.{CoreTypes, no_type, type_and}
use Rattle.dy_term.specs.Rows.{CoreDraft, class_row, generic_row, method_row, domain_row}
use Rattle.dy_term.specs.Rows.{variable_row, top_term, CoreVariable, function, type_constant}
use Rattle.dy_names.specs.Naming.{Table}
use Rattle.dy_rings.specs.Rings.{In}
use Rattle.dy_type_names.specs.Members.{not_a_type}

-- a form, and where it begins
abbrev pub Form : Type 0
Form = Place × CoreDraft

-- a type constant: its name, and the type that it is written as
abbrev pub Constant : Type 0
Constant = Token × CoreType

abbrev pub variable_constants : CoreVariable → List Constant
variable_constants (function adjectives name code) = []
variable_constants (type_constant name declared meant) = (name, meant) ∷ []

abbrev pub constants_in : CoreDraft → List Constant
constants_in (class_row class) = []
constants_in (generic_row generic) = []
constants_in (method_row method) = []
constants_in (domain_row domain) = []
constants_in (variable_row variable) = variable_constants variable
constants_in (top_term top) = []

-- the type constants of these forms, in the order of the text
abbrev pub constants_of : List Form → List Constant
constants_of forms = flat_map (λ form. constants_in form.1) forms

-- the row that a binding is, if it is a constant of this library
abbrev pub row_by : ℕ → BindingId → What → Option ℕ
row_by library binding whats.Constant =
    if binding.at.library == library then Some binding.at.row else None
row_by library binding whats.Class = None
row_by library binding whats.Generic = None
row_by library binding whats.Variable = None
row_by library binding whats.Function = None
row_by library binding whats.Macro = None

abbrev pub row_of : ℕ → BindingId → Option ℕ
row_of library binding = row_by library binding binding.what

abbrev pub row_owned : ℕ → Option BindingId → Option ℕ
row_owned library None = None
row_owned library (Some binding) = row_of library binding

abbrev pub is_row : ℕ → Option ℕ → Bool
is_row row None = false
is_row row (Some other) = row == other

abbrev mutual
  -- the names in a type that stand for what they mean, in the order of the text
  pub names_in : CoreType → List Token
  names_in object = []
  names_in integer = []
  names_in (named name) = name ∷ []
  names_in (single value) = []
  names_in (single_name told name) = []
  names_in (union told types) = names_of types
  names_in (range told least greatest) = []

  pub names_of : CoreTypes → List Token
  names_of no_type = []
  names_of (type_and first rest) = names_in first ++ names_of rest

-- what is told of a type constant on a ring, at the first word of its type
abbrev pub ring_told : CoreType → List Fault
ring_told (named name) = not_a_type name ∷ []
ring_told (union told types) = not_a_type told ∷ []
ring_told _ = []

module _ (table : Table) (library : ℕ) where
  -- what the constant of this row is written as: the type of the first of these with such a name
  abbrev pub first_of_row : ℕ → List Constant → Option CoreType
  first_of_row row [] = None
  first_of_row row (constant ∷ constants) =
      if is_row row (row_owned library (table constant.0)) then Some constant.1
      else first_of_row row constants

  abbrev pub first_of : List Constant → Option ℕ → Option CoreType
  first_of constants None = None
  first_of constants (Some row) = first_of_row row constants

  -- what the binding is written as, if it is one of these constants of the library
  abbrev pub written_as : List Constant → BindingId → Option CoreType
  written_as constants binding = first_of constants (row_of library binding)

  -- whether the owner of a constant behind these others is it, and is on a ring
  abbrev pub is_first_on_ring : (BindingId → Bool) → List Constant → Option BindingId → Bool
  is_first_on_ring on_ring before None = false
  is_first_on_ring on_ring before (Some binding) =
      on_ring binding && is_none (written_as before binding)

  -- the faults of the constants on rings, in the order of the text, behind some others
  abbrev pub ring_faults : (BindingId → Bool) → (before : List Constant) → List Constant
      → List Fault
  ring_faults on_ring before [] = []
  ring_faults on_ring before (constant ∷ constants) =
      (if is_first_on_ring on_ring before (table constant.0) then ring_told constant.1 else [])
      ++ ring_faults on_ring (before ++ constant ∷ []) constants

  module _ (constants : List Constant) where
    -- a type constant uses another where it is written as a type that names it
    pub record Uses (user used : BindingId) : Type 0 where
      pub type : CoreType
      pub written : written_as constants user ≡ Some type
      pub name : Token
      pub names : In name (names_in type)
      pub owner : table name ≡ Some used
      pub is : IsSome (written_as constants used)

    -- a chain of uses leads from one to another
    pub data Leads : BindingId → BindingId → Type 0 where
      one : {a b : BindingId} → Uses a b → Leads a b
      more : {a b c : BindingId} → Uses a b → Leads b c → Leads a c

    abbrev pub IsOnRing : BindingId → Type 0
    IsOnRing binding = Leads binding binding
