-- Code that names what is there, and calls generic functions by a search alone.
use Rattle.std.specs.Prelude.{ℕ, ◌<◌, List}
use Rattle.dy_outcome.specs.declared.place.Place.{Place}
use Rattle.dy_outcome.specs.declared.place.Place.TheVariants.{Own, Captured}
use Rattle.dy_code.specs.Fetching.{Instruction, Closure, CallDirect, Next, NextValue}
use Rattle.dy_code.specs.Validity.{Every}
use Rattle.dy_lowered.specs.Bodies.{FlatBody}
use Rattle.dy_lowered.specs.Flat.{Flat, Plain, Code}
use Rattle.dy_lowering_whole.specs.valid.Writing.{FlatFits}

-- It makes closures of such bodies, and methods are found by a search alone.
module _ (Made : (body count : ℕ) → Type 0) where
  abbrev pub Simple : Instruction → Type 0
  Simple (Closure body count) = Made body count
  Simple (CallDirect sorted ambiguous count) = ⊥
  Simple (Next count) = ⊥
  Simple NextValue = ⊥
  Simple instruction = Unit {0}

  abbrev pub FlatSimple : Flat → Type 0
  FlatSimple (Plain instruction) = Simple instruction
  FlatSimple flat = Unit {0}

-- a local of a body with so many locals and captured values
abbrev pub PlaceFits : (locals captures : ℕ) → Place → Type 0
PlaceFits locals captures (Own number in_cell) = number < locals
PlaceFits locals captures (Captured number) = number < captures

abbrev pub IsSimple : (Made : (body count : ℕ) → Type 0) (bodies : List FlatBody)
    (locals captures : ℕ) → Code → Type 0
IsSimple Made bodies locals captures code =
    Every (λ flat. FlatFits bodies locals captures flat × FlatSimple Made flat) code
