-- Where instructions lead, and how long code runs without a `Tick`, does not see references.
use Rattle.std.proofs.Common.{◌≡◌, ℕ, zero, suc, ◌+◌, List, [], ◌∷◌, length, map, flat_map, Option, Some, None, slice_get, refl, sym, ap, ◌∙◌}
use Rattle.std.specs.Option.{option_map}
use Rattle.std.proofs.lemmas.List.{length-map}
use Rattle.std.proofs.lemmas.Option.{slice_get-map}
use Rattle.std.proofs.Math.Path.{fun_ext}
use Rattle.dy_code.specs.Fetching.{Instruction}
use Rattle.dy_code.specs.Fetching as instr
use Rattle.dy_meaning.specs.Numbers.{greatest}
use Rattle.dy_lowered.specs.Stretches.{ways, ways_of, ways_from, reached, unless_tick, longest, stretch_of}
use Rattle.dy_linked_rows.specs.Code.{linked_instruction}

module _ (places : ℕ → ℕ) where
  abbrev Is : List Instruction → List Instruction
  Is = map (linked_instruction places)

  ways_linked : (next : ℕ) (instruction : Instruction) → ways next (linked_instruction places instruction) ≡ ways next instruction
  ways_linked next instr.Return = refl
  ways_linked next _ = refl

  ways_same : (next : ℕ) (o : Option Instruction) → ways_of next (option_map (linked_instruction places) o) ≡ ways_of next o
  ways_same next None = refl
  ways_same next (Some instruction) = ways_linked next instruction

  unless_linked : (instruction : Instruction) (count : ℕ) → unless_tick (Some (linked_instruction places instruction)) count ≡ unless_tick (Some instruction) count
  unless_linked instr.Tick count = refl
  unless_linked _ count = refl

  unless_same : (o : Option Instruction) (count : ℕ) → unless_tick (option_map (linked_instruction places) o) count ≡ unless_tick o count
  unless_same None count = refl
  unless_same (Some instruction) count = unless_linked instruction count

  module _ (code : List Instruction) where
    at_same : (place : ℕ) → slice_get (Is code) place ≡ option_map (linked_instruction places) (slice_get code place)
    at_same place = slice_get-map (linked_instruction places) code place

    from_same : (place : ℕ) → ways_from (Is code) place ≡ ways_from code place
    from_same place = ap (ways_of (place + 1)) (at_same place) ∙ ways_same (place + 1) (slice_get code place)

    reached_same : (steps place : ℕ) → reached (Is code) steps place ≡ reached code steps place
    reached_same zero place = refl
    reached_same (suc steps) place = λ j. place ∷ flat_map (λ p. reached_same steps p j) (from_same place j)

    longest_same : (more place : ℕ) → longest (Is code) more place ≡ longest code more place
    longest_same zero place = refl
    longest_same (suc more) place =
        (λ j. unless_tick (at_same place j) (1 + greatest (map (λ p. longest_same more p j) (from_same place j))))
        ∙ unless_same (slice_get code place) (1 + greatest (map (longest code more) (ways_from code place)))

    pub stretch_same : stretch_of (Is code) ≡ stretch_of code
    stretch_same =
        let long = length-map code (linked_instruction places) in
        (λ j. greatest (map (longest (Is code) (long j)) (reached (Is code) (long j) 0)))
        ∙ (λ j. greatest (map (λ p. longest_same (length code) p j) (reached_same (length code) 0 j)))
