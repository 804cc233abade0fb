-- What is known of the places of some code while they are walked over.
use Rattle.std.specs.Prelude.{◌≡◌, ◌⊎◌, ℕ, suc, ◌+◌, ◌<◌, ◌≤◌, min, Bool, true, false, List, [], ◌∷◌}
use Rattle.std.specs.Prelude.{◌++◌, length, map, get_or, slice_get}
use Rattle.std.specs.declared.option.Option.{Option}
use Rattle.std.specs.declared.option.Option.TheVariants.{None, Some}
use Rattle.dy_code.specs.Fetching.{Instruction}
use Rattle.dy_meaning.specs.Numbers.{greatest}
use Rattle.dy_lowered.specs.Flat.{placed_from}
use Rattle.dy_lowered.specs.Stretches.{ways_from, reached, unless_tick, longest}
use Rattle.dy_lower_parts.specs.declared.flat.Flat.{Flat}
use Rattle.dy_lower_parts.specs.Seen.{seen}

abbrev pub code_of : List Flat → List Instruction
code_of flats = placed_from 0 (map seen flats)

abbrev pub held : Option ℕ → List ℕ
held None = []
held (Some place) = place ∷ []

abbrev pub IsIn : ℕ → List ℕ → Type 0
IsIn place [] = ⊥
IsIn place (other ∷ others) = (place ≡ other) ⊎ IsIn place others

-- Places behind the code count as marked.
abbrev pub IsMarked : List Bool → ℕ → Type 0
IsMarked marks place = get_or marks place true ≡ true

abbrev pub unmarked : List Bool → ℕ
unmarked [] = 0
unmarked (true ∷ marks) = unmarked marks
unmarked (false ∷ marks) = suc (unmarked marks)

-- What marking a place does, to which an instruction leads, where some places wait: one that is new
-- waits too.
pub record Marks (to : Option ℕ) (old new : List Bool) (before after : List ℕ) : Type 0 where
  pub long : length new ≡ length old
  pub kept : (other : ℕ) → IsMarked old other → IsMarked new other
  pub marked : (way : ℕ) → IsIn way (held to) → IsMarked new way
  pub only : (other : ℕ) → IsMarked new other → IsMarked old other
      ⊎ ((unmarked new < unmarked old) × IsIn other (held to) × IsIn other after)
  pub waits : (other : ℕ) → IsIn other before → IsIn other after
  pub further : (other : ℕ) → IsIn other after → IsIn other before ⊎ IsMarked new other
  pub fewer : unmarked new ≤ unmarked old
  pub spent : unmarked new + length after ≡ unmarked old + length before

-- Each place that is marked is reached, by no more steps than there are marked ones. It waits, or
-- leads to marked ones.
pub record IsWalked (code : List Instruction) (marks : List Bool) (waiting : List ℕ) : Type 0 where
  pub long : length marks ≡ length code
  pub first : IsMarked marks 0
  pub sound : (place : ℕ) → place < length code → IsMarked marks place → (steps : ℕ)
      → steps + unmarked marks ≡ length code → IsIn place (reached code steps 0)
  pub waits : (place : ℕ) → IsIn place waiting → IsMarked marks place
  pub gone : (place : ℕ) → place < length code → IsMarked marks place → IsIn place waiting
      ⊎ ((way : ℕ) → IsIn way (ways_from code place) → IsMarked marks way)

-- what going on from a place does that waited
pub record VisitsTo (code : List Instruction) (place : ℕ) (old new : List Bool)
    (before after : List ℕ) : Type 0 where
  pub walked : IsWalked code old (before ++ place ∷ []) → IsWalked code new after
  pub spent : unmarked new + length after ≡ unmarked old + length before

-- The places that are reached are marked, and no others.
pub record AreReached (code : List Instruction) (marks : List Bool) : Type 0 where
  pub long : length marks ≡ length code
  pub first : IsMarked marks 0
  pub sound : (place : ℕ) → place < length code → IsMarked marks place
      → IsIn place (reached code (length code) 0)
  pub closed : (place : ℕ) → place < length code → IsMarked marks place
      → (way : ℕ) → IsIn way (ways_from code place) → IsMarked marks way

-- the longest way from a place, so far as it is known; none begins behind the code
abbrev pub long_at : List ℕ → ℕ → ℕ
long_at longs place = get_or longs place 0

-- one instruction more than the longest way behind it, unless it is a Tick, and no more than so many
abbrev pub by_ways : ℕ → Bool → ℕ → ℕ
by_ways all true behind = 0
by_ways all false behind = min (1 + behind) all

-- the longest way from a place by those that are known
abbrev pub long_by : List Instruction → List ℕ → ℕ → ℕ
long_by code longs place =
    min (unless_tick (slice_get code place)
    (1 + greatest (map (long_at longs) (ways_from code place)))) (length code)

-- What is known is at least as long as the longest way of so many instructions, and at most as long
-- as that of as many as the code has.
pub record AreBetween (code : List Instruction) (taken : ℕ) (longs : List ℕ) : Type 0 where
  pub long : length longs ≡ length code
  pub lower : (place : ℕ) → longest code taken place ≤ long_at longs place
  pub upper : (place : ℕ) → long_at longs place ≤ longest code (length code) place

-- No way gets longer by those that are known.
abbrev pub AreStill : List Instruction → List ℕ → Type 0
AreStill code longs =
    (place : ℕ) → place < length code → long_at longs place ≡ long_by code longs place

-- the longest way from each place, of no more instructions than the code has
pub record AreLongest (code : List Instruction) (longs : List ℕ) : Type 0 where
  pub long : length longs ≡ length code
  pub same : (place : ℕ) → long_at longs place ≡ longest code (length code) place

-- So far as the places before one are gone over, the longest way from those that are marked.
pub record IsMostTo (longs : List ℕ) (marks : List Bool) (to : ℕ) (most : ℕ) : Type 0 where
  pub upper : (place : ℕ) → place < to → IsMarked marks place → long_at longs place ≤ most
  pub lower : (most ≡ 0) ⊎ ((place : ℕ) × (place < to) × IsMarked marks place
      × (long_at longs place ≡ most))
