-- What the type constants of a library stand for.
use Rattle.std.specs.Prelude.{◌≡◌, ◌↔◌, ℕ, ◌<◌, Bool, false, IsTrue, List, [], ◌∷◌, map}
use Rattle.std.specs.Prelude.{Option}
use Rattle.std.specs.Prelude.{Some, None, IsSome, slice_get, if◌then◌else◌}
use Rattle.dy_base.specs.declared.fault.Fault.{Fault}
use Rattle.dy_base.specs.declared.ids.BindingId.{BindingId}
use Rattle.dy_base.specs.declared.ids.What.{What}
use Rattle.dy_base.specs.declared.ids.What.TheVariants as whats
use Rattle.dy_term.specs.declared.types.Member.{Member}
use Rattle.dy_term.specs.Types.{CoreType}
use Rattle.dy_names.specs.Naming.{Table}
use Rattle.dy_type_names.specs.declared.standing.NamedTypes.{NamedTypes}
use Rattle.dy_type_names.specs.declared.standing.Standing.{Standing}
use Rattle.dy_type_names.specs.declared.standing.Standing.TheVariants.{NoType, Stands, Faulty}
use Rattle.dy_type_names.specs.Members.{ReadType, read_members}
use Rattle.dy_type_names.specs.Constants.{Constant, written_as, Uses, IsOnRing}
use Rattle.dy_type_names.specs.Constants.{ring_faults}

-- what rows stand for, library by library
abbrev pub Rows : Type 0
Rows = List (List Standing)

abbrev pub rows_in : NamedTypes → Rows
rows_in types = map (λ rows. rows.items) types.libraries.items

abbrev pub at_row : ℕ → Option (List Standing) → Option Standing
at_row row None = None
at_row row (Some standings) = slice_get standings row

-- a row of a library has a place in the table
abbrev pub IsThere : (library row : ℕ) → Rows → Type 0
IsThere library row rows = IsSome (at_row row (slice_get rows library))

abbrev pub or_no_type : Option Standing → Standing
or_no_type None = NoType
or_no_type (Some standing) = standing

abbrev pub standing_by : Rows → BindingId → What → Standing
standing_by rows binding whats.Constant =
    or_no_type (at_row binding.at.row (slice_get rows binding.at.library))
standing_by rows binding whats.Class = NoType
standing_by rows binding whats.Generic = NoType
standing_by rows binding whats.Variable = NoType
standing_by rows binding whats.Function = NoType
standing_by rows binding whats.Macro = NoType

-- what a binding stands for
abbrev pub standing_in : NamedTypes → BindingId → Standing
standing_in types binding = standing_by (rows_in types) binding binding.what

-- a type constant stands for the members that are read of its type, and is faulty where something
-- is wrong with it
abbrev pub faulty_or : List Member → List Fault → Standing
faulty_or known [] = Stands (record { members = known })
faulty_or known (fault ∷ faults) = Faulty

abbrev pub standing_of : ReadType → Standing
standing_of read = faulty_or read.members read.faults

module _ (table : Table) (library : ℕ) (constants : List Constant) where
  -- What bindings stand for, where these are the type constants of a library, and all others stand
  -- for this. Names in types mean what they mean outside of bodies.
  pub record AreStanding (others standing : BindingId → Standing) : Type 0 where
    -- which are on rings
    pub on_ring : BindingId → Bool
    pub rings : (binding : BindingId)
        → IsTrue (on_ring binding) ↔ IsOnRing table library constants binding
    pub constant : (binding : BindingId) (type : CoreType)
        → written_as table library constants binding ≡ Some type
        → standing binding ≡ (if on_ring binding then Faulty
        else standing_of (read_members standing table [] type))
    pub other : (binding : BindingId) → written_as table library constants binding ≡ None
        → standing binding ≡ others binding
    -- an order in which each that is on no ring stands behind those that it uses
    pub rank : BindingId → ℕ
    pub behind : (user used : BindingId) → on_ring user ≡ false
        → Uses table library constants user used → rank used < rank user

  -- the same, and the faults of the constants on rings
  pub record AreTold (others standing : BindingId → Standing) (faults : List Fault) : Type 0 where
    pub are : AreStanding others standing
    pub told : faults ≡ ring_faults table library are.on_ring [] constants

-- Two standings of one library agree at every binding, and the same faults are told.
pub record AreOne : Type 0 where
  pub standing : (table : Table) (library : ℕ) (constants : List Constant)
      (others a b : BindingId → Standing) → AreStanding table library constants others a
      → AreStanding table library constants others b → (binding : BindingId)
      → a binding ≡ b binding
  pub faults : (table : Table) (library : ℕ) (constants : List Constant)
      (others a b : BindingId → Standing) (told again : List Fault)
      → AreTold table library constants others a told
      → AreTold table library constants others b again → told ≡ again
