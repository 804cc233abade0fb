-- Lists whose elements get new names.
use Rattle.std.proofs.Common.{◌≡◌, List, [], ◌∷◌, map, refl}
use Rattle.dy_classes.specs.Lists.{Before, now, later, Sub, done, keep, skip}
use Rattle.dy_classes.proofs.Lists.{in_map, in_mapped}

module _ {A B : Type 0} (new : A → B) where
  pub before_map : {xs : List A} {z x : A} → Before z x xs → Before (new z) (new x) (map new xs)
  before_map (now i) = now (in_map new i)
  before_map (later b) = later (before_map b)

  pub before_mapped : (xs : List A) (w v : B) → Before w v (map new xs) → (z : A) × (x : A) × Before z x xs × (w ≡ new z) × (v ≡ new x)
  before_mapped [] w v b = elim b [ ]
  before_mapped (x ∷ xs) w v (now i) = let (y, j, e) = in_mapped xs new v i in (x, y, now j, refl, e)
  before_mapped (x ∷ xs) w v (later b) = let (z, y, c, e, f) = before_mapped xs w v b in (z, y, later c, e, f)

  pub sub_map : {xs ys : List A} → Sub xs ys → Sub (map new xs) (map new ys)
  sub_map done = done
  sub_map (keep s) = keep (sub_map s)
  sub_map (skip s) = skip (sub_map s)
