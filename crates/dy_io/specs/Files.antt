-- What files hold, and what a call on them does.
use Rattle.std.specs.Prelude.{◌≡◌, ◌≢◌, ℕ, ◌≤◌, List, ◌++◌, length, take, Option, Some, None}
use Rattle.std.specs.Ordering.{nat_cmp}
use Rattle.std.specs.Cmp.Lexicographic.{slice_cmp}
use Rattle.std.specs.FinMap as map
use Rattle.dy_io.specs.declared.files.Found.{Found}
use Rattle.dy_io.specs.declared.files.Found.TheVariants.{Here, Absent}

-- the bytes of each file, by its name
abbrev pub FileMap : Type 0
FileMap = map.FinMap (slice_cmp nat_cmp) (List ℕ)

-- The first `most` bytes of the file came behind what was there. Of files that tell nothing it is
-- known that so many bytes came at most.
abbrev pub Reads : Option FileMap → List ℕ → ℕ → List ℕ → List ℕ → Type 0
Reads None name most old new = (bytes : List ℕ) × (length bytes ≤ most) × (new ≡ old ++ bytes)
Reads (Some files) name most old new =
    (bytes : List ℕ) × (map.get files name ≡ Some bytes) × (new ≡ old ++ take most bytes)

-- no file has the name, as far as the files tell
abbrev pub Lacks : Option FileMap → List ℕ → Type 0
Lacks None name = Unit {0}
Lacks (Some files) name = map.get files name ≡ None

-- what an answer to a read says of the files, and of the bytes before and after
abbrev pub Answers : Option FileMap → List ℕ → ℕ → List ℕ → List ℕ → Found → Type 0
Answers files name most old new Here = Reads files name most old new
Answers files name most old new Absent = Lacks files name × (new ≡ old)

-- The file of the name holds these bytes, and every other is as before.
abbrev pub Writes : Option FileMap → Option FileMap → List ℕ → List ℕ → Type 0
Writes None new name bytes = Unit {0}
Writes (Some old) None name bytes = ⊥
Writes (Some old) (Some new) name bytes = new ≡ map.insert old name bytes

-- every file but this one is as before
abbrev pub ChangesOnly : Option FileMap → Option FileMap → List ℕ → Type 0
ChangesOnly None new name = Unit {0}
ChangesOnly (Some old) None name = ⊥
ChangesOnly (Some old) (Some new) name = (other : List ℕ) → other ≢ name
    → map.get new other ≡ map.get old other
