-- Literals, read after what stands before them.
use Rattle.std.specs.Prelude.{ℕ, List, ◌++◌, Option, Some, None}

abbrev pub appended : List ℕ → Option (List ℕ) → Option (List ℕ)
appended front None = None
appended front (Some vs) = Some (front ++ vs)
