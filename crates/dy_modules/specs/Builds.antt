-- When modules have a table: none leads to a ring, and no name has two owners by imports.
use Rattle.std.specs.Prelude.{◌≡◌, ℕ, ◌<◌, Bool, true, false, not, ◌&&◌, List, [], ◌∷◌, length}
use Rattle.std.specs.Prelude.{Option, Some, None}
use Rattle.dy_base.specs.Tables.{NamedList}
use Rattle.dy_modules.specs.declared.owner.Owner.{Owner}
use Rattle.dy_modules.specs.declared.table.Cell.{Cell}
use Rattle.dy_modules.specs.declared.table.Cell.TheVariants.{One, Many}
use Rattle.dy_modules.specs.declared.clause.ModuleForm.{ModuleForm}
use Rattle.dy_modules.specs.declared.rounds.ModuleTables.{ModuleTables}
use Rattle.dy_modules.specs.Clauses.{Name}
use Rattle.dy_modules.specs.Sees.{imports, Owned, IsGrounded}

pub record IsClear (ms : List ModuleForm) : Type 0 where
  pub grounded : (m : ℕ) → m < length ms → IsGrounded ms m
  pub single : (m : ℕ) (n : Name) (j k : Owner) → Owned ms imports m n j → Owned ms imports m n k
      → j ≡ k

-- the same as the tables say it
abbrev pub is_many : Cell → Bool
is_many (One k) = false
is_many Many = true

abbrev pub is_clear_row : Option (Name × Cell) → Bool
is_clear_row None = true
is_clear_row (Some r) = not (is_many r.1)

abbrev pub is_clear : NamedList Cell → Bool
is_clear [] = true
is_clear (r ∷ rs) = not (is_many r.1) && is_clear rs

abbrev pub is_clear_module : Option ModuleTables → Bool
is_clear_module None = false
is_clear_module (Some t) = is_clear t.imports

abbrev pub all_clear : List (Option ModuleTables) → Bool
all_clear [] = true
all_clear (t ∷ ts) = is_clear_module t && all_clear ts
