-- Counts of what went wrong, and of calls.
use Rattle.std.specs.Prelude.{ℕ, ◌+◌, ◌-◌, ◌^◌, ◌≤◌, List, min, Contains}

-- the count after one more, which stops at the end of its type
abbrev pub one_more : ℕ → ℕ
one_more count = min (count + 1) (2 ^ 64 - 1)

-- a count has risen, or stands at its type's end
abbrev pub Rose : ℕ → ℕ → Type 0
Rose before now = one_more before ≤ now

-- the call after so many calls has a number among those that are to fail
abbrev pub FailsNext : ℕ → List ℕ → Type 0
FailsNext calls failing = Contains failing (one_more calls)
