-- The directives of a text that is printed (DRM 12, "format").
use Rattle.std.specs.Prelude.{ℕ, ◌-◌, Bool, false, not, ◌&&◌, ◌==◌, List, [], ◌∷◌, if◌then◌else◌}

abbrev mutual
  -- the directives of a text are `%%`, and `%d` so many times
  pub has_directives : List ℕ → ℕ → Bool
  has_directives [] count = count == 0
  has_directives (byte ∷ bytes) count =
      if byte == 37 then has_directive bytes count else has_directives bytes count

  -- the same behind a `%`
  pub has_directive : List ℕ → ℕ → Bool
  has_directive [] count = false
  has_directive (byte ∷ bytes) count =
      if byte == 100 then not (count == 0) && has_directives bytes (count - 1)
      else if byte == 37 then has_directives bytes count
      else false
