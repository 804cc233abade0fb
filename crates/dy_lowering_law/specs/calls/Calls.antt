-- The theorem for calls: where each body of the program that is entered does what its lambda does,
-- the instructions of calls do what calls do.
use Rattle.std.specs.Prelude.{◌≡◌, ℕ, suc, true, List, drop, length}
use Rattle.std.specs.declared.option.Option.TheVariants.{None, Some}
use Rattle.dy_base.specs.declared.ids.BindingId.{BindingId}
use Rattle.dy_base.specs.declared.ids.GenericId.{GenericId}
use Rattle.dy_term.specs.declared.rows.GenericRow.{GenericRow}
use Rattle.dy_term.specs.declared.rows.Program.{Program}
use Rattle.dy_values.specs.declared.value.Variant.TheVariants.{Function}
use Rattle.dy_values.specs.Spending.{first}
use Rattle.dy_outcome.specs.States.{Does, gave}
use Rattle.dy_outcome.specs.Calls.{calls_within}
use Rattle.dy_code.specs.Fetching.{CallKnown, CallValue, Search, Op}
use Rattle.dy_meaning.specs.Meaning.{calling, with_arguments}
use Rattle.dy_meaning.specs.Operations.{operated}
use Rattle.dy_meaning.specs.Programs.{generic_at, world}
use Rattle.dy_lowered.specs.Flat.{Code}
use Rattle.dy_lowered.specs.Parts as parts
use Rattle.dy_lowering_law.specs.Following.{Follows}
use Rattle.dy_lowering_law.specs.Kinds.{AllDo, Takes}
use Rattle.dy_lowering_law.specs.Ready.{generic_ready}
use Rattle.dy_lowering_law.specs.calls.Entering.{LambdasEnter}

-- What calls stand on where at most n units are left: no generic function has keywords; each lambda
-- is entered; and built-in operations do what they do.
pub record CallsStand (program : Program) (n : ℕ) : Type 0 where
  pub generics : (generic : GenericId) (row : GenericRow) → generic_at program generic ≡ Some row
      → generic_ready row ≡ true
  pub lambdas : LambdasEnter program n
  pub operations : (before locals number count : ℕ)
      → Takes program n before locals count (Op number count) (operated program number)

-- a call of a function by its name
abbrev pub KnownCallsTaken : Type 0
KnownCallsTaken = (program : Program) (n before locals count : ℕ) (named : BindingId)
    → CallsStand program n
    → Takes program n before locals count (CallKnown named count)
    ((calls_within (world program) n).value (Function named))

-- a call of a value, which lies under its arguments
abbrev pub ValueCallsTaken : Type 0
ValueCallsTaken = (program : Program) (n before locals count : ℕ) → CallsStand program n
    → Takes program n before locals (suc count) (CallValue count)
    (λ values. (calls_within (world program) n).value (first values) (drop 1 values))

-- a call of a generic function
abbrev pub SearchesTaken : Type 0
SearchesTaken = (program : Program) (n before locals count : ℕ) (generic : GenericId)
    → CallsStand program n
    → Takes program n before locals count (Search generic count)
    ((calls_within (world program) n).generic generic)

-- the code of these calls, from that of their parts; a function that is named is not read first
abbrev pub KnownCallsFollow : Type 0
KnownCallsFollow = (program : Program) (n before locals : ℕ) (named : BindingId)
    (function : Code) (codes : List Code) (all : List Does) → CallsStand program n
    → AllDo program n before locals codes all
    → Follows program n before locals (parts.calling (Some named) function codes)
    (calling (calls_within (world program) n) (λ scope s. gave (Function named) s) all)

abbrev pub ValueCallsFollow : Type 0
ValueCallsFollow = (program : Program) (n before locals : ℕ) (function : Code) (does : Does)
    (codes : List Code) (all : List Does) → CallsStand program n
    → Follows program n before locals function does → AllDo program n before locals codes all
    → Follows program n before locals (parts.calling None function codes)
    (calling (calls_within (world program) n) does all)

abbrev pub SearchesFollow : Type 0
SearchesFollow = (program : Program) (n before locals : ℕ) (generic : GenericId)
    (codes : List Code) (all : List Does) → CallsStand program n
    → AllDo program n before locals codes all
    → Follows program n before locals
    (parts.with_arguments codes (Search generic (length codes)))
    (with_arguments all ((calls_within (world program) n).generic generic))
