-- What is answered of a type that is read whole.
use Rattle.std.proofs.Common.{◌≡◌, List, [], ◌∷◌, Option, Some, None, Ok, Err, refl, sym, ap, ◌∙◌}
use Rattle.dy_base.specs.declared.fault.Fault.{Fault}
use Rattle.dy_term.specs.declared.types.DyType.{DyType}
use Rattle.dy_term.specs.declared.types.Member.{Member}
use Rattle.dy_type_names.specs.declared.reading.Reading.{Reading}
use Rattle.dy_type_names.specs.declared.standing.Standing.TheVariants.{Stands, Faulty}
use Rattle.dy_type_names.specs.Members.{ReadType, first_of_both, first_of, or_fault, answer_of}
use Rattle.dy_type_names.specs.Readings.{read_on}
use Rattle.dy_type_names.specs.Standings.{faulty_or, standing_of}
use Rattle.dy_type_names.proofs.FirstFaults.{none_first}

abbrev nothing_yet : Reading
nothing_yet = record { members = []; first = None }

module _ (read : ReadType) (reading : Reading) (e : reading ≡ read_on nothing_yet read) where
  members_are : reading.members ≡ read.members
  members_are = ap (λ (r : Reading). r.members) e

  first_is : reading.first ≡ first_of read.faults
  first_is = ap (λ (r : Reading). r.first) e ∙ none_first (first_of read.faults)

  pub read_ok : reading.first ≡ None → answer_of read ≡ Ok (record { members = reading.members })
  read_ok none =
      ap (λ (o : Option Fault). or_fault read.members o) (sym first_is ∙ none)
      ∙ ap (λ (ms : List Member). or_fault ms None) (sym members_are)

  pub read_err : (fault : Fault) → reading.first ≡ Some fault → answer_of read ≡ Err fault
  read_err fault some = ap (λ (o : Option Fault). or_fault read.members o) (sym first_is ∙ some)

-- ---- what the answer says of a constant

some_first : (members : List Member) (fault : Fault) (behind : Option Fault) (type : DyType) → or_fault members (first_of_both (Some fault) behind) ≡ Ok type → ⊥
some_first members fault None type e = absurd cc
some_first members fault (Some other) type e = absurd cc

standing_good : (members : List Member) (faults : List Fault) (type : DyType) → or_fault members (first_of faults) ≡ Ok type → Stands type ≡ faulty_or members faults
standing_good members [] type e = let k : record { members = members } ≡ type = cc in ap Stands (sym k)
standing_good members (fault ∷ faults) type e = absurd (some_first members fault (first_of faults) type e)

standing_bad : (members : List Member) (faults : List Fault) (fault : Fault) → or_fault members (first_of faults) ≡ Err fault → Faulty ≡ faulty_or members faults
standing_bad members [] fault e = absurd cc
standing_bad members (first ∷ faults) fault e = refl

pub standing_ok : (read : ReadType) (type : DyType) → answer_of read ≡ Ok type → Stands type ≡ standing_of read
standing_ok read type e = standing_good read.members read.faults type e

pub standing_err : (read : ReadType) (fault : Fault) → answer_of read ≡ Err fault → Faulty ≡ standing_of read
standing_err read fault e = standing_bad read.members read.faults fault e
