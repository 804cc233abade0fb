-- Which names a module has, and who owns them: the least sets that the clauses make.
use Rattle.std.specs.Prelude.{◌≡◌, ◌⊎◌, ℕ, true, List, slice_get, Option, Some, None}
use Rattle.dy_modules.specs.declared.owner.Owner.{Owner}
use Rattle.dy_modules.specs.declared.owner.Owner.TheVariants.{Own}
use Rattle.dy_modules.specs.declared.clause.UseClause.{UseClause}
use Rattle.dy_modules.specs.declared.clause.ModuleForm.{ModuleForm}
use Rattle.dy_modules.specs.Clauses.{Name, IsIn, brought, is_again, given_at}

-- what use clauses bring to a module, and what it exports
pub data Side : Type 0 where
  imports : Side
  exports : Side

-- the names, whoever owns them
pub data Named (ms : List ModuleForm) : Side → ℕ → Name → Type 0 where
  given_name : (m : ℕ) (d : ModuleForm) (n : Name) (k : Owner) → slice_get ms m ≡ Some d
      → given_at d n ≡ Some k → Named ms exports m n
  listed_name : (m : ℕ) (d : ModuleForm) (n : Name) → slice_get ms m ≡ Some d → IsIn n d.listed
      → Named ms exports m n
  brought_name : (m : ℕ) (d : ModuleForm) (u : UseClause) (a n : Name) → slice_get ms m ≡ Some d
      → IsIn u d.uses
      → brought u a ≡ Some n → Named ms exports u.source a → Named ms imports m n
  again_name : (m : ℕ) (d : ModuleForm) (u : UseClause) (a n : Name) → slice_get ms m ≡ Some d
      → IsIn u d.uses
      → brought u a ≡ Some n → is_again u n ≡ true → Named ms exports u.source a
      → Named ms exports m n

-- the names with their owners
pub data Owned (ms : List ModuleForm) : Side → ℕ → Name → Owner → Type 0 where
  given_owner : (m : ℕ) (d : ModuleForm) (n : Name) (k : Owner) → slice_get ms m ≡ Some d
      → given_at d n ≡ Some k → Owned ms exports m n k
  -- an export clause of a name that no use clause brings makes the module its owner
  own_owner : (m : ℕ) (d : ModuleForm) (n : Name) → slice_get ms m ≡ Some d → given_at d n ≡ None
      → IsIn n d.listed
      → (Named ms imports m n → ⊥) → Owned ms exports m n (Own m n)
  passed_owner : (m : ℕ) (d : ModuleForm) (n : Name) (k : Owner) → slice_get ms m ≡ Some d
      → given_at d n ≡ None → IsIn n d.listed
      → Owned ms imports m n k → Owned ms exports m n k
  brought_owner : (m : ℕ) (d : ModuleForm) (u : UseClause) (a n : Name) (k : Owner)
      → slice_get ms m ≡ Some d → IsIn u d.uses
      → brought u a ≡ Some n → Owned ms exports u.source a k → Owned ms imports m n k
  again_owner : (m : ℕ) (d : ModuleForm) (u : UseClause) (a n : Name) (k : Owner)
      → slice_get ms m ≡ Some d → given_at d n ≡ None → IsIn u d.uses
      → brought u a ≡ Some n → is_again u n ≡ true → Owned ms exports u.source a k
      → Owned ms exports m n k

-- a set of triples that holds what the modules own, and is closed under their clauses
pub record IsClosed (ms : List ModuleForm) (P : Side → ℕ → Name → Owner → Type 0) : Type 0 where
  pub given : (m : ℕ) (d : ModuleForm) (n : Name) (k : Owner) → slice_get ms m ≡ Some d
      → given_at d n ≡ Some k → P exports m n k
  pub own : (m : ℕ) (d : ModuleForm) (n : Name) → slice_get ms m ≡ Some d → given_at d n ≡ None
      → IsIn n d.listed
      → (Named ms imports m n → ⊥) → P exports m n (Own m n)
  pub passed : (m : ℕ) (d : ModuleForm) (n : Name) (k : Owner) → slice_get ms m ≡ Some d
      → given_at d n ≡ None → IsIn n d.listed
      → P imports m n k → P exports m n k
  pub bring : (m : ℕ) (d : ModuleForm) (u : UseClause) (a n : Name) (k : Owner)
      → slice_get ms m ≡ Some d → IsIn u d.uses
      → brought u a ≡ Some n → P exports u.source a k → P imports m n k
  pub repeat : (m : ℕ) (d : ModuleForm) (u : UseClause) (a n : Name) (k : Owner)
      → slice_get ms m ≡ Some d → given_at d n ≡ None → IsIn u d.uses
      → brought u a ≡ Some n → is_again u n ≡ true → P exports u.source a k → P exports m n k

-- a set of names that holds those of the modules, and is closed under their clauses
pub record HasNames (ms : List ModuleForm) (P : Side → ℕ → Name → Type 0) : Type 0 where
  pub given : (m : ℕ) (d : ModuleForm) (n : Name) (k : Owner) → slice_get ms m ≡ Some d
      → given_at d n ≡ Some k → P exports m n
  pub listed : (m : ℕ) (d : ModuleForm) (n : Name) → slice_get ms m ≡ Some d → IsIn n d.listed
      → P exports m n
  pub bring : (m : ℕ) (d : ModuleForm) (u : UseClause) (a n : Name) → slice_get ms m ≡ Some d
      → IsIn u d.uses
      → brought u a ≡ Some n → P exports u.source a → P imports m n
  pub repeat : (m : ℕ) (d : ModuleForm) (u : UseClause) (a n : Name) → slice_get ms m ≡ Some d
      → IsIn u d.uses
      → brought u a ≡ Some n → is_again u n ≡ true → P exports u.source a → P exports m n

-- no chain of use clauses from the module goes on without end, so that it leads to no ring
pub data IsGrounded (ms : List ModuleForm) : ℕ → Type 0 where
  grounded : (m : ℕ) (d : ModuleForm) → slice_get ms m ≡ Some d
      → ((u : UseClause) → IsIn u d.uses → IsGrounded ms u.source) → IsGrounded ms m
