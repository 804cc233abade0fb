-- Where libraries stand in another view.
use Rattle.std.specs.Prelude.{ℕ, slice_index_or}
use Rattle.dy_seen_rows.specs.declared.places.Places.{Places}
use Rattle.dy_seen_rows.specs.declared.places.Places.TheVariants.{Kept, Moved}

-- the new place of the library at a place
abbrev pub placed : Places → ℕ → ℕ
placed Kept library = library
placed (Moved places behind) library = slice_index_or places library behind
