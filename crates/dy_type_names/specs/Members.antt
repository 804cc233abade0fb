-- What a type stands for (DRM 4, "Types"): its members, and what is wrong with it.
use Rattle.std.specs.Prelude.{ℤ, List, [], ◌∷◌, ◌++◌, length, nat_lt, int_le, codes}
use Rattle.std.specs.Prelude.{if◌then◌else◌, Result, Ok, Err, Option, Some, None}
use Rattle.dy_base.specs.declared.fault.Fault.{Fault}
use Rattle.dy_base.specs.declared.kind.Kind.TheVariants.{Unbound as UnboundName, NotAType, Limit}
use Rattle.dy_base.specs.declared.ids.BindingId.{BindingId}
use Rattle.dy_base.specs.declared.ids.What.{What}
use Rattle.dy_base.specs.declared.ids.What.TheVariants as whats
use Rattle.dy_tree.specs.declared.token.Token.{Token}
use Rattle.dy_term.specs.declared.types.DyType.{DyType}
use Rattle.dy_term.specs.declared.types.Member.{Member}
use Rattle.dy_term.specs.declared.types.Member.TheVariants as members
use Rattle.dy_term.specs.Types.{CoreType, object, integer, named, single, single_name, union, range}
use Rattle.dy_term.specs.Types.{CoreTypes, no_type, type_and}
use Rattle.dy_types.specs.Classes.{built_in}
use Rattle.dy_names.specs.declared.denotation.Meaning.{Meaning}
use Rattle.dy_names.specs.declared.denotation.Meaning.TheVariants.{InForce, Owned, Unbound}
use Rattle.dy_names.specs.Naming.{Locals, Table, means}
use Rattle.dy_names.specs.Outside.{Outside}
use Rattle.dy_binding.specs.Faults.{first_of_two, fault_at}
use Rattle.dy_type_names.specs.declared.standing.Standing.{Standing}
use Rattle.dy_type_names.specs.declared.standing.Standing.TheVariants.{NoType, Stands, Faulty}

-- the members that are known of a type, and its faults in the order of the text
pub record ReadType : Type 0 where
  pub members : List Member
  pub faults : List Fault

abbrev pub nothing : ReadType
nothing = record { members = []; faults = [] }

abbrev pub these : List Member → ReadType
these known = record { members = known; faults = [] }

abbrev pub wrong : Fault → ReadType
wrong fault = record { members = []; faults = fault ∷ [] }

-- one behind the other
abbrev pub both : ReadType → ReadType → ReadType
both a b = record { members = a.members ++ b.members; faults = a.faults ++ b.faults }

-- a token that says no type
abbrev pub not_a_type : Token → Fault
not_a_type token = fault_at NotAType token []

-- a name that means nothing
abbrev pub unbound : Token → Fault
unbound token = fault_at UnboundName token (token.text ∷ [])

-- a union of more than 16 members
abbrev pub too_many : Token → Fault
too_many token = fault_at Limit token (codes "members" ∷ codes "16" ∷ [])

-- what a constant stands for: nothing further is wrong where a faulty one is named
abbrev pub constant_read : Token → Standing → ReadType
constant_read name NoType = wrong (not_a_type name)
constant_read name (Stands type) = these type.members
constant_read name Faulty = nothing

-- what a name stands for, by what it is bound to
abbrev pub bound_read : Token → BindingId → What → Standing → ReadType
bound_read name binding whats.Class standing =
    these (members.Class (record { 0 = binding.at }) ∷ [])
bound_read name binding whats.Constant standing = constant_read name standing
bound_read name binding whats.Generic standing = wrong (not_a_type name)
bound_read name binding whats.Variable standing = wrong (not_a_type name)
bound_read name binding whats.Function standing = wrong (not_a_type name)
bound_read name binding whats.Macro standing = wrong (not_a_type name)

-- a class itself
abbrev pub class_read : Token → BindingId → What → ReadType
class_read told binding whats.Class =
    these (members.SingleClass (record { 0 = binding.at }) ∷ [])
class_read told binding whats.Generic = wrong (not_a_type told)
class_read told binding whats.Variable = wrong (not_a_type told)
class_read told binding whats.Constant = wrong (not_a_type told)
class_read told binding whats.Function = wrong (not_a_type told)
class_read told binding whats.Macro = wrong (not_a_type told)

abbrev pub single_read : Token → Token → Meaning → ReadType
single_read told name (InForce denotation) = wrong (not_a_type told)
single_read told name (Owned binding) = class_read told binding binding.what
single_read told name Unbound = wrong (unbound name)

-- the integers between two, where there are any
abbrev pub range_read : Token → (least greatest : ℤ) → ReadType
range_read told least greatest =
    if int_le least greatest then these (members.Range least greatest ∷ [])
    else wrong (not_a_type told)

-- The members of a union are those of its parts, equal ones counted as others are. That they are
-- too many stands in front of what is wrong with the parts.
abbrev pub union_read : Token → ReadType → ReadType
union_read told parts =
    if nat_lt 16 (length parts.members) then both (wrong (too_many told)) parts else parts

module _ (standing : BindingId → Standing) where
  abbrev pub name_read : Token → Meaning → ReadType
  name_read name (InForce denotation) = wrong (not_a_type name)
  name_read name (Owned binding) = bound_read name binding binding.what (standing binding)
  name_read name Unbound = wrong (unbound name)

  module _ (table : Table) (locals : Locals) where
    abbrev mutual
      -- what is read of a type where names outside of bodies have these owners and these locals are
      -- in force, and each constant stands for this
      pub read_members : CoreType → ReadType
      read_members object = these (members.Class (built_in 0) ∷ [])
      read_members integer = these (members.Class (built_in 9) ∷ [])
      read_members (named name) = name_read name (means table locals name)
      read_members (single value) = these (members.Single value ∷ [])
      read_members (single_name told name) = single_read told name (means table locals name)
      read_members (union told types) = union_read told (read_parts types)
      read_members (range told least greatest) = range_read told least greatest

      pub read_parts : CoreTypes → ReadType
      read_parts no_type = nothing
      read_parts (type_and first rest) = both (read_members first) (read_parts rest)

-- the first of a fault and one behind it, where there are such
abbrev pub first_of_both : Option Fault → Option Fault → Option Fault
first_of_both first None = first
first_of_both first (Some fault) = Some (first_of_two first fault)

-- The first of some faults: the one at the earliest place, then the one of the smaller kind, then
-- the one in front. What a macro's call brings stands behind the words of its template, wherever
-- the template has it.
abbrev pub first_of : List Fault → Option Fault
first_of [] = None
first_of (fault ∷ faults) = first_of_both (Some fault) (first_of faults)

abbrev pub or_fault : List Member → Option Fault → Result DyType Fault
or_fault known None = Ok (record { members = known })
or_fault known (Some fault) = Err fault

-- the members, or the first fault
abbrev pub answer_of : ReadType → Result DyType Fault
answer_of read = or_fault read.members (first_of read.faults)

-- what a type stands for, or what is wrong with it
abbrev pub stands_for : (BindingId → Standing) → Table → Locals → CoreType → Result DyType Fault
stands_for standing table locals type = answer_of (read_members standing table locals type)

-- what names and types mean outside of bodies
abbrev pub outside_by : Table → (BindingId → Standing) → Outside
outside_by table standing =
    record { owner = table; type = λ locals type. stands_for standing table locals type }
