-- What names and types mean outside of bodies.
use Rattle.std.specs.Prelude.{◌≡◌, Result, Ok, Err}
use Rattle.dy_base.specs.declared.fault.Fault.{Fault}
use Rattle.dy_base.specs.declared.fault.Refusal.{Refusal}
use Rattle.dy_base.specs.declared.fault.Refusal.TheVariants as refusals
use Rattle.dy_term.specs.declared.types.DyType.{DyType}
use Rattle.dy_term.specs.Types.{CoreType}
use Rattle.dy_names.specs.Naming.{Locals, Table}

-- the owner of each name, and what a type stands for where some locals are in force, or what is
-- wrong with it
pub record Outside : Type 0 where
  pub owner : Table
  pub type : Locals → CoreType → Result DyType Fault

-- What is answered of a type: what it stands for, or what is wrong. Want of memory may be answered
-- at any time.
abbrev pub IsRead : Result DyType Fault → Result DyType Refusal → Type 0
IsRead read (Ok type) = read ≡ Ok type
IsRead read (Err (refusals.Fault fault)) = read ≡ Err fault
IsRead read (Err refusals.Memory) = Unit {0}
