-- Who owns what a module means by a name, and where a definition of a name may stand, whatever is
-- defined.
use Rattle.std.specs.Prelude.{◌≡◌, ◌↔◌, ◌⊎◌, ℕ, ◌≤◌, Bool, true, false, cond, nat_lt, List}
use Rattle.std.specs.Prelude.{Option, Some, None, is_some, slice_get}
use Rattle.dy_modules.specs.declared.owner.Owner.{Owner}
use Rattle.dy_modules.specs.declared.owner.Owner.TheVariants.{Outside, Own}
use Rattle.dy_modules.specs.declared.table.Cell.{Cell}
use Rattle.dy_modules.specs.declared.table.Cell.TheVariants.{One, Many}
use Rattle.dy_modules.specs.declared.clause.ModuleForm.{ModuleForm}
use Rattle.dy_modules.specs.declared.rounds.ModuleTables.{ModuleTables}
use Rattle.dy_modules.specs.Clauses.{Name, given_at}
use Rattle.dy_modules.specs.Sees.{imports, Named}
use Rattle.dy_module_tables.specs.Graphs.{Visible, Creates, Lends}
use Rattle.dy_module_tables.specs.Looking.{given_in, import_in, is_lent}

-- the one owner of what module m means by a name, or none where there is no such module
abbrev pub IsOwner : List ModuleForm → ℕ → Name → Option Owner → Type 0
IsOwner ms m n o = (k : Owner) → (o ≡ Some k) ↔ Visible ms m n k

-- No definition of the name may stand in module m: it is none of the library's, or creates the name
-- itself, or imports it, but not from a module of the library that creates it.
abbrev pub IsBarred : List ModuleForm → ℕ → ℕ → Name → Type 0
IsBarred ms own m n = (own ≤ m) ⊎ (Creates ms m n ⊎ (Named ms imports m n × (Lends ms m n → ⊥)))

-- the same as the tables say it
abbrev pub owner_by : ℕ → Name → Option Owner → Option Cell → Option Owner
owner_by m n (Some k) c = Some k
owner_by m n None (Some (One k)) = Some k
owner_by m n None (Some Many) = None
owner_by m n None None = Some (Own m n)

abbrev pub owner_here : ℕ → Name → Option ModuleForm → Option Cell → Option Owner
owner_here m n None c = None
owner_here m n (Some d) c = owner_by m n (given_at d n) c

abbrev pub owner_of : List ModuleForm → List (Option ModuleTables) → ℕ → Name → Option Owner
owner_of ms done m n = owner_here m n (slice_get ms m) (import_in (slice_get done m) n)

abbrev pub is_open_cell : List ModuleForm → ℕ → Name → Option Cell → Bool
is_open_cell ms m n None = true
is_open_cell ms m n (Some (One (Outside id))) = false
is_open_cell ms m n (Some (One (Own c a))) = is_lent ms m c a n
is_open_cell ms m n (Some Many) = false

abbrev pub is_open : List ModuleForm → List (Option ModuleTables) → ℕ → Name → Bool
is_open ms done m n = cond (is_some (given_in (slice_get ms m) n)) false
    (is_open_cell ms m n (import_in (slice_get done m) n))

-- the same where the first modules are the library's
abbrev pub is_open_in : ℕ → List ModuleForm → List (Option ModuleTables) → ℕ → Name → Bool
is_open_in own ms done m n = cond (nat_lt m own) (is_open ms done m n) false
