-- Modules that use each other in a ring.
use Rattle.std.specs.Prelude.{◌≡◌, ℕ, Bool, true, false, if◌then◌else◌, List, [], ◌∷◌, ◌++◌}
use Rattle.std.specs.Prelude.{slice_get, slice_set, Option, Some, None}
use Rattle.dy_modules.specs.declared.clause.UseClause.{UseClause}
use Rattle.dy_modules.specs.declared.clause.ModuleForm.{ModuleForm}
use Rattle.dy_modules.specs.Clauses.{IsIn}

-- a chain of use clauses leads from one module to another; each of them exists
pub data Leads (ms : List ModuleForm) : ℕ → ℕ → Type 0 where
  straight : (m : ℕ) (d e : ModuleForm) (u : UseClause) → slice_get ms m ≡ Some d → IsIn u d.uses
      → slice_get ms u.source ≡ Some e → Leads ms m u.source
  further : (m : ℕ) (d e : ModuleForm) (u : UseClause) (k : ℕ) → slice_get ms m ≡ Some d
      → IsIn u d.uses → slice_get ms u.source ≡ Some e → Leads ms u.source k → Leads ms m k

-- which modules are marked, and which of them are still to be looked at
pub record Search : Type 0 where
  pub marks : List Bool
  pub todo : List ℕ

abbrev pub is_unmarked : Option Bool → Bool
is_unmarked None = false
is_unmarked (Some true) = false
is_unmarked (Some false) = true

abbrev pub is_marked : Option Bool → Bool
is_marked None = false
is_marked (Some mark) = mark

-- a module that is not marked yet is marked, and is to be looked at
abbrev pub marked : Search → ℕ → Search
marked s k = if is_unmarked (slice_get s.marks k)
    then record { marks = slice_set s.marks k true; todo = s.todo ++ k ∷ [] } else s

abbrev pub marked_all : Search → List UseClause → Search
marked_all s [] = s
marked_all s (u ∷ us) = marked_all (marked s u.source) us

-- the sources of a module, where it is there
abbrev pub marked_by : Search → Option ModuleForm → Search
marked_by s None = s
marked_by s (Some d) = marked_all s d.uses
