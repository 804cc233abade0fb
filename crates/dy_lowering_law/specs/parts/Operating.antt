-- Built-in operations, `format-out` among them.
use Rattle.std.specs.Prelude.{ℕ, List}
use Rattle.dy_term.specs.declared.rows.Program.{Program}
use Rattle.dy_values.specs.declared.value.Variant.{Variant}
use Rattle.dy_prims.specs.Operations.{applied}
use Rattle.dy_meaning.specs.Operations.{operated}
use Rattle.dy_code.specs.Fetching.{Op}
use Rattle.dy_lowering_law.specs.Kinds.{Takes, IsLow}

-- an operation that prints nothing leaves no more units than there were
abbrev pub OperationsAreLow : Type 0
OperationsAreLow = (number : ℕ) (values : List Variant) (units : ℕ)
    → IsLow (applied number values units) units

-- whichever it is, and whatever it prints
abbrev pub AllOperationsTaken : Type 0
AllOperationsTaken = (program : Program) (n before locals number count : ℕ)
    → Takes program n before locals count (Op number count) (operated program number)
