-- How many instructions at most run one after the other without a `Tick`.
use Rattle.std.specs.Prelude.{ℕ, zero, suc, ◌+◌, List, [], ◌∷◌, length, map, flat_map, slice_get}
use Rattle.std.specs.declared.option.Option.{Option}
use Rattle.std.specs.declared.option.Option.TheVariants.{None, Some}
use Rattle.dy_code.specs.Fetching.{Instruction, Jump, JumpFalse, Tick, Return, NoMatch}
use Rattle.dy_meaning.specs.Numbers.{greatest}

-- The places that may come behind an instruction, the next one being at a place. No code has rows
-- yet, which lead to further ones.
abbrev pub ways : ℕ → Instruction → List ℕ
ways next Return = []
ways next NoMatch = []
ways next (Jump address) = address ∷ []
ways next (JumpFalse address) = next ∷ address ∷ []
ways next instruction = next ∷ []

abbrev pub ways_of : ℕ → Option Instruction → List ℕ
ways_of next None = []
ways_of next (Some instruction) = ways next instruction

abbrev pub ways_from : List Instruction → ℕ → List ℕ
ways_from code place = ways_of (place + 1) (slice_get code place)

-- the places to which so many steps lead, a place itself being the first
abbrev pub reached : List Instruction → ℕ → ℕ → List ℕ
reached code zero place = place ∷ []
reached code (suc steps) place = place ∷ flat_map (reached code steps) (ways_from code place)

abbrev pub unless_tick : Option Instruction → ℕ → ℕ
unless_tick None count = 0
unless_tick (Some Tick) count = 0
unless_tick (Some instruction) count = count

-- the longest way from a place without a `Tick`, of at most so many instructions
abbrev pub longest : List Instruction → ℕ → ℕ → ℕ
longest code zero place = 0
longest code (suc more) place =
    unless_tick (slice_get code place)
    (1 + greatest (map (longest code more) (ways_from code place)))

abbrev pub stretch_of : List Instruction → ℕ
stretch_of code = greatest (map (longest code (length code)) (reached code (length code) 0))
