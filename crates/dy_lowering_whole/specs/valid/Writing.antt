-- Which instructions a body can keep, and the law that it gives them back.
use Rattle.std.specs.Prelude.{◌≡◌, ℕ, ◌+◌, ◌<◌, ◌≤◌, true, List, [], take, slice_get}
use Rattle.std.specs.declared.option.Option.TheVariants.{Some}
use Rattle.dy_base.specs.declared.ids.MethodId.{MethodId}
use Rattle.dy_base.specs.declared.ids.What.{What}
use Rattle.dy_base.specs.declared.ids.What.TheVariants as what
use Rattle.dy_term.specs.declared.rows.LibraryRow.{LibraryRow}
use Rattle.dy_term.specs.declared.rows.Program.{Program}
use Rattle.dy_code.specs.Fetching.{Instruction, Local, SetLocal, NewCell, CellGet, CellSet, Free}
use Rattle.dy_code.specs.Fetching.{FreeGet, FreeSet, Global, SetGlobal, Closure, CallDirect}
use Rattle.dy_code.specs.Fetching.{CallKnown, Args, locals_of}
use Rattle.dy_code.specs.Programs.{bodies_in}
use Rattle.dy_code.specs.Validity.{Every}
use Rattle.dy_lowered.specs.Bodies.{FlatBody, bodies_of}
use Rattle.dy_lowered.specs.Flat.{Flat, Plain}
use Rattle.dy_lowered.specs.Readiness.{is_set}
use Rattle.dy_lowering_law.specs.Following.{Holds}
use Rattle.dy_lowering_law.specs.Machines.{linked_program}

-- a name of anything but a macro
abbrev pub IsNamed : What → Type 0
IsNamed what.Macro = ⊥
IsNamed kind = Unit {0}

-- a list of methods holds at least one
abbrev pub HasMethods : (sorted ambiguous : List MethodId) → Type 0
HasMethods [] [] = ⊥
HasMethods sorted ambiguous = Unit {0}

-- a closure takes as many operands as its body captures
pub record IsBody (bodies : List FlatBody) (body count : ℕ) : Type 0 where
  pub target : FlatBody
  pub at : slice_get bodies body ≡ Some target
  pub same : count ≡ target.captures

-- What an instruction names is there, in a body with so many locals and captured values.
module _ (bodies : List FlatBody) (locals captures : ℕ) where
  abbrev pub Fits : Instruction → Type 0
  Fits (Local local) = local < locals
  Fits (SetLocal local) = local < locals
  Fits (NewCell local) = local < locals
  Fits (CellGet local) = local < locals
  Fits (CellSet local) = local < locals
  Fits (Free capture) = capture < captures
  Fits (FreeGet capture) = capture < captures
  Fits (FreeSet capture) = capture < captures
  Fits (Global named) = IsNamed named.what
  Fits (SetGlobal named) = is_set named.what ≡ true
  Fits (Closure body count) = IsBody bodies body count
  Fits (CallDirect sorted ambiguous count) = HasMethods sorted ambiguous
  Fits (CallKnown named count) = named.what ≡ what.Function
  Fits (Args params) = locals_of params ≤ locals
  Fits instruction = Unit {0}

  abbrev pub FlatFits : Flat → Type 0
  FlatFits (Plain instruction) = Fits instruction
  FlatFits flat = Unit {0}

-- how many bodies of a program stand before those of the library at a place
abbrev pub bodies_before : Program → ℕ → ℕ
bodies_before program place = bodies_in (take place (linked_program program).code)

-- In a program that is linked in memory, what is fetched at each place of a body is what was placed
-- there.
abbrev pub WrittenHolds : Type 0
WrittenHolds = (program : Program) (place : ℕ) (library : LibraryRow)
    → slice_get program.libraries place ≡ Some library
    → (body : ℕ) (flat : FlatBody) → slice_get (bodies_of library) body ≡ Some flat
    → Every (FlatFits (bodies_of library) flat.locals flat.captures) flat.code
    → Holds (linked_program program) (bodies_before program place)
    (bodies_before program place + body) 0 flat.code
