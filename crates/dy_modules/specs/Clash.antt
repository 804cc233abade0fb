-- By which clause a name has two owners.
use Rattle.std.specs.Prelude.{◌≡◌, ◌≢◌, ℕ, ◌+◌, false, List, take, Option, Some, None}
use Rattle.dy_modules.specs.Clauses.{Name, IsIn, brought}
use Rattle.dy_modules.specs.declared.owner.Owner.{Owner}
use Rattle.dy_modules.specs.declared.clause.UseClause.{UseClause}
use Rattle.dy_modules.specs.declared.clause.ModuleForm.{ModuleForm}
use Rattle.dy_modules.specs.Sees.{exports, Owned}
use Rattle.dy_modules.specs.declared.table.Cell.{Cell}
use Rattle.dy_modules.specs.declared.table.Cell.TheVariants.{Many}
use Rattle.dy_base.specs.Tables.{NamedList}
use Rattle.dy_modules.specs.Cells.{after_uses}

-- one of these clauses brings the name, of this owner
abbrev pub Brings : List ModuleForm → List UseClause → Name → Owner → Type 0
Brings ms us n k = (u : UseClause) × (a : Name) × IsIn u us × (brought u a ≡ Some n)
    × Owned ms exports u.source a k

abbrev pub OneOwner : List ModuleForm → List UseClause → Type 0
OneOwner ms us = (n : Name) (j k : Owner) → Brings ms us n j → Brings ms us n k → j ≡ k

abbrev pub TwoOwners : List ModuleForm → List UseClause → Type 0
TwoOwners ms us = (n : Name) × (j k : Owner) × Brings ms us n j × Brings ms us n k × (j ≢ k)

-- the first clause by which a name has two owners
abbrev pub Clashes : List ModuleForm → List UseClause → Option ℕ → Type 0
Clashes ms us None = OneOwner ms us
Clashes ms us (Some i) = TwoOwners ms (take (i + 1) us) × OneOwner ms (take i us)

-- the same as the tables say it
abbrev pub Found : List (NamedList Cell) → List UseClause → Option ℕ → Type 0
Found ts us None = (n : Name) → after_uses false us ts n None ≢ Some Many
Found ts us (Some i) = ((n : Name) × (after_uses false (take (i + 1) us) ts n None ≡ Some Many))
    × ((n : Name) → after_uses false (take i us) ts n None ≢ Some Many)
