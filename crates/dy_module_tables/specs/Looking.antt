-- The same as the tables say it, by a look-up.
use Rattle.std.specs.Prelude.{◌≡◌, ◌≢◌, ℕ, ◌≤◌, ◌<◌, Bool, true, false, ◌&&◌, ◌||◌}
use Rattle.std.specs.Prelude.{nat_eq, List, [], ◌∷◌, length, slice_get, Option, Some, None}
use Rattle.std.specs.Prelude.{is_some, cond}
use Rattle.dy_base.specs.Folding.{folded}
use Rattle.dy_base.specs.Tables.{NameMap, NamedList}
use Rattle.dy_base.specs.declared.ids.BindingId.{BindingId}
use Rattle.dy_modules.specs.declared.owner.Owner.{Owner}
use Rattle.dy_modules.specs.declared.owner.Owner.TheVariants.{Outside, Own}
use Rattle.dy_modules.specs.declared.table.Cell.{Cell}
use Rattle.dy_modules.specs.declared.table.Cell.TheVariants.{One, Many}
use Rattle.dy_modules.specs.declared.clause.UseClause.{UseClause}
use Rattle.dy_modules.specs.declared.clause.ModuleForm.{ModuleForm}
use Rattle.dy_modules.specs.declared.rounds.ModuleTables.{ModuleTables}
use Rattle.dy_modules.specs.Clauses.{Name, brought, given_at, is_same_owner}
use Rattle.dy_modules.specs.Sees.{imports}
use Rattle.dy_modules.specs.Cells.{at, is_name}
use Rattle.dy_modules.specs.Order.{is_made, AreRight}
use Rattle.dy_module_tables.specs.Graphs.{defined_in, definition}

-- the tables of all modules are made, and no name has two owners by imports
pub record IsWhole (ms : List ModuleForm) (own : ℕ) (done : List (Option ModuleTables))
    (defs : List (NameMap BindingId)) : Type 0 where
  pub within : own ≤ length ms
  pub right : AreRight ms done
  pub made : (m : ℕ) → m < length ms → is_made (slice_get done m) ≡ true
  pub single : (m : ℕ) (t : ModuleTables) (n : Name) → slice_get done m ≡ Some (Some t)
      → at t.imports n ≢ Some Many
  pub count : length defs ≡ length ms

-- what the tables say of these
abbrev pub cell_definition : List (NameMap BindingId) → Cell → Option BindingId
cell_definition defs (One k) = definition defs k
cell_definition defs Many = None

abbrev pub given_in : Option ModuleForm → Name → Option Owner
given_in None n = None
given_in (Some d) n = given_at d n

abbrev pub import_in : Option (Option ModuleTables) → Name → Option Cell
import_in None n = None
import_in (Some None) n = None
import_in (Some (Some t)) n = at t.imports n

abbrev pub export_in : Option (Option ModuleTables) → Name → Option Cell
export_in None n = None
export_in (Some None) n = None
export_in (Some (Some t)) n = at t.exports n

abbrev pub choose : List (NameMap BindingId) → Option Owner → Option Cell → Option BindingId
    → Option BindingId
choose defs (Some k) c o = definition defs k
choose defs None (Some c) o = cell_definition defs c
choose defs None None o = o

abbrev pub seen_definition : List ModuleForm → List (Option ModuleTables) → List (NameMap BindingId)
    → ℕ → Name → Option BindingId
seen_definition ms done defs m n =
    choose defs (given_in (slice_get ms m) n) (import_in (slice_get done m) n)
    (defined_in (slice_get defs m) n)

abbrev pub maybe_definition : List (NameMap BindingId) → Option Cell → Option BindingId
maybe_definition defs None = None
maybe_definition defs (Some c) = cell_definition defs c

-- one of these clauses brings the name a of module s as n
abbrev pub any_brings : List UseClause → ℕ → Name → Name → Bool
any_brings [] s a n = false
any_brings (u ∷ us) s a n = (nat_eq u.source s && is_name (brought u a) n) || any_brings us s a n

abbrev pub uses_in : Option ModuleForm → List UseClause
uses_in None = []
uses_in (Some d) = d.uses

abbrev pub is_given : Option Owner → Owner → Bool
is_given None k = false
is_given (Some j) k = is_same_owner j k

-- module c creates the name a, and a clause of module m brings it as n
abbrev pub is_lent : List ModuleForm → ℕ → ℕ → Name → Name → Bool
is_lent ms m c a n = is_given (given_in (slice_get ms c) a) (Own c a)
    && any_brings (uses_in (slice_get ms m)) c a n

-- what a definition of a name would define that has this cell by imports
abbrev pub lent_target : List ModuleForm → ℕ → Name → Cell → Option (ℕ × Name)
lent_target ms m n (One (Outside id)) = None
lent_target ms m n (One (Own c a)) = cond (is_lent ms m c a n) (Some (c, a)) None
lent_target ms m n Many = None

abbrev pub import_target : List ModuleForm → ℕ → Name → Option Cell → Option (ℕ × Name)
import_target ms m n None = Some (m, n)
import_target ms m n (Some cell) = lent_target ms m n cell

-- what a definition of a name in a module of the library would define
abbrev pub target_of : List ModuleForm → List (Option ModuleTables) → List (NameMap BindingId) → ℕ
    → Name → Option (ℕ × Name)
target_of ms done defs m n =
    cond (is_some (seen_definition ms done defs m n)) None
    (cond (is_some (given_in (slice_get ms m) n)) None
    (import_target ms m n (import_in (slice_get done m) n)))

-- rows of a table as definitions
abbrev pub with_definition : Name → Option BindingId → NamedList BindingId → NamedList BindingId
with_definition n None rest = rest
with_definition n (Some id) rest = (folded n, id) ∷ rest

abbrev pub defined_rows : List (NameMap BindingId) → List (Option (Name × Cell))
    → NamedList BindingId
defined_rows defs [] = []
defined_rows defs (None ∷ rows) = defined_rows defs rows
defined_rows defs (Some r ∷ rows) =
    with_definition r.0 (cell_definition defs r.1) (defined_rows defs rows)

abbrev pub exports_in : Option (Option ModuleTables) → NamedList Cell
exports_in None = []
exports_in (Some None) = []
exports_in (Some (Some t)) = t.exports
