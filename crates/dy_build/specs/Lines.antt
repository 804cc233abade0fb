-- The lines that a command prints beside those of refusals (own).
use Rattle.std.specs.Prelude.{ℕ, List, ◌++◌, codes}

-- a file could not be read or written
abbrev pub file_fault_line : List ℕ → List ℕ
file_fault_line name = codes "file fault: " ++ name ++ codes "\n"

-- a run ended by a condition that nothing handled, of which this is told
abbrev pub end_line : List ℕ → List ℕ
end_line text = text ++ codes "\n"

-- a run spent all its fuel
abbrev pub out_of_fuel_line : List ℕ
out_of_fuel_line = codes "out of fuel\n"
