-- The tables of modules, against who owns each name.
use Rattle.std.specs.Prelude.{◌≡◌, ℕ, ◌⊎◌, ◌≤◌, Bool, true, false, ◌&&◌, List, [], ◌∷◌, map, length}
use Rattle.std.specs.Prelude.{slice_get, Option, Some, None}
use Rattle.std.specs.List.{IsDistinct}
use Rattle.std.specs.Str.{bytes_eq}
use Rattle.dy_base.specs.Tables.{NamedList, names}
use Rattle.dy_modules.specs.declared.owner.Owner.{Owner}
use Rattle.dy_modules.specs.declared.clause.UseClause.{UseClause}
use Rattle.dy_modules.specs.declared.clause.ModuleForm.{ModuleForm}
use Rattle.dy_modules.specs.declared.table.Cell.{Cell}
use Rattle.dy_modules.specs.declared.rounds.ModuleTables.{ModuleTables}
use Rattle.dy_modules.specs.Clauses.{Name, IsIn}
use Rattle.dy_modules.specs.Sees.{imports, exports, Named, Owned, IsGrounded}
use Rattle.dy_modules.specs.Cells.{Says, at, after_uses, exported}

-- the rows of what a module exports, where its tables are made
abbrev pub exported_rows : Option ModuleTables → NamedList Cell
exported_rows None = []
exported_rows (Some t) = t.exports

abbrev pub all_rows : List (Option ModuleTables) → List (NamedList Cell)
all_rows ts = map exported_rows ts

abbrev pub is_made : Option (Option ModuleTables) → Bool
is_made None = false
is_made (Some None) = false
is_made (Some (Some t)) = true

-- the tables of each source are made
abbrev pub is_ready : List (Option ModuleTables) → List UseClause → Bool
is_ready done [] = true
is_ready done (u ∷ us) = is_made (slice_get done u.source) && is_ready done us

-- the tables of module m, from the rows that its sources export
pub record AreTables (m : ℕ) (d : ModuleForm) (ts : List (NamedList Cell))
    (t : ModuleTables) : Type 0 where
  pub imports : (n : Name) → at t.imports n ≡ after_uses false d.uses ts n None
  pub exports : (n : Name) → at t.exports n ≡ exported m (at t.imports) d ts n
  pub distinct : IsDistinct bytes_eq (names t.exports)
  pub apart : IsDistinct bytes_eq (names t.imports)

-- the tables of module m say what the clauses make
pub record IsRight (ms : List ModuleForm) (m : ℕ) (t : ModuleTables) : Type 0 where
  pub imported : (n : Name) → Says (at t.imports n) (Owned ms imports m n)
  pub exported : (n : Name) → Says (at t.exports n) (Owned ms exports m n)
  pub distinct : IsDistinct bytes_eq (names t.exports)
  -- a name that is there has an owner
  pub named : (n : Name) → Named ms exports m n → (k : Owner) × Owned ms exports m n k
  pub apart : IsDistinct bytes_eq (names t.imports)
  pub grounded : IsGrounded ms m
  pub brought : (n : Name) → Named ms imports m n → (k : Owner) × Owned ms imports m n k

-- so do all that are made
pub record AreRight (ms : List ModuleForm) (done : List (Option ModuleTables)) : Type 0 where
  pub count : length done ≡ length ms
  pub each : (m : ℕ) (t : ModuleTables) → slice_get done m ≡ Some (Some t) → IsRight ms m t

-- the tables of a source of module m are not made
abbrev pub IsStuck : List ModuleForm → List (Option ModuleTables) → ℕ → Type 0
IsStuck ms done m = (d : ModuleForm) × (u : UseClause) × (slice_get ms m ≡ Some d) × IsIn u d.uses
    × (is_made (slice_get done u.source) ≡ false)

-- the tables of module m are made, and no others are lost
pub record Makes (ms : List ModuleForm) (m : ℕ)
    (old new : List (Option ModuleTables)) : Type 0 where
  pub right : AreRight ms new
  pub made : is_made (slice_get new m) ≡ true
  pub stays : (s : ℕ) → is_made (slice_get old s) ≡ true → is_made (slice_get new s) ≡ true

-- of todo, after i of them: rest are still to come, and left were left
pub record Turns (ms : List ModuleForm) (todo rest : List ℕ) (i : ℕ)
    (old new : List (Option ModuleTables)) (left : List ℕ) : Type 0 where
  pub right : AreRight ms new
  pub stays : (s : ℕ) → is_made (slice_get old s) ≡ true → is_made (slice_get new s) ≡ true
  pub each : (m : ℕ) → IsIn m todo → (is_made (slice_get new m) ≡ true)
      ⊎ (IsIn m left ⊎ IsIn m rest)
  pub from : (m : ℕ) → IsIn m left → IsIn m todo
  pub few : length left ≤ i
  -- where each was left, each was stuck
  pub stuck : length left ≡ i → (m : ℕ) → IsIn m left → IsStuck ms new m
