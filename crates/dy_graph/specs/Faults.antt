-- The faults of the modules of a library, apart from any order of work.
use Rattle.std.specs.Prelude.{◌≡◌, ◌≢◌, ◌⊎◌, ℕ, ◌+◌, ◌<◌, true, false, List, [], ◌∷◌, length}
use Rattle.std.specs.Prelude.{take, slice_get, Option, Some, None, T}
use Rattle.std.specs.Ordering.{is_lt}
use Rattle.dy_base.specs.Tables.{NamedList, by_bytes}
use Rattle.dy_base.specs.declared.kind.Kind.TheVariants.{UnknownModule, NameClash, NotExported}
use Rattle.dy_base.specs.declared.kind.Kind.TheVariants.{Cycle}
use Rattle.dy_base.specs.declared.fault.Place.{Place}
use Rattle.dy_module_forms.specs.declared.written.UseOption.{UseOption}
use Rattle.dy_module_forms.specs.declared.written.Clause.{Clause}
use Rattle.dy_module_forms.specs.declared.written.Clause.TheVariants as clauses
use Rattle.dy_module_forms.specs.declared.written.Placed.{Placed}
use Rattle.dy_module_forms.specs.declared.written.Form.{Form}
use Rattle.dy_modules.specs.declared.owner.Owner.{Owner}
use Rattle.dy_modules.specs.declared.clause.UseClause.{UseClause}
use Rattle.dy_modules.specs.declared.clause.ModuleForm.{ModuleForm}
use Rattle.dy_modules.specs.declared.rounds.ModuleTables.{ModuleTables}
use Rattle.dy_modules.specs.Clauses.{Name, IsIn, brought}
use Rattle.dy_modules.specs.Sees.{imports, exports, Named, Owned, IsGrounded}
use Rattle.dy_modules.specs.Order.{is_made, AreRight}
use Rattle.dy_modules.specs.declared.table.Cell.{Cell}
use Rattle.dy_modules.specs.declared.table.Cell.TheVariants.{Many}
use Rattle.dy_modules.specs.Cells.{after_uses}
use Rattle.dy_modules.specs.Clash.{Brings, OneOwner}
use Rattle.dy_module_numbers.specs.Options.{use_clause}
use Rattle.dy_module_numbers.specs.Numbers.{number_of}
use Rattle.dy_module_numbers.specs.Modules.{module_form}
use Rattle.dy_module_numbers.specs.Rings.{Leads}
use Rattle.dy_library_form.specs.declared.found.Found.{Found}
use Rattle.dy_library_form.specs.Told.{found, missing}

-- the names that a module exports, in some order
pub record AreNames (ms : List ModuleForm) (source : ℕ) (names : List Name) : Type 0 where
  pub to : (a : Name) → IsIn a names → Named ms exports source a
  pub from : (a : Name) → Named ms exports source a → IsIn a names

-- the names that a clause makes of these
pub record AreNew (u : UseClause) (names news : List Name) : Type 0 where
  pub to : (n : Name) → IsIn n news → (a : Name) × IsIn a names × (brought u a ≡ Some n)
  pub from : (a n : Name) → IsIn a names → brought u a ≡ Some n → IsIn n news

-- the first name of options that is not exported to their clause, or that they export again and do
-- not bring
pub record IsMissing (ms : List ModuleForm) (source : ℕ) (options : List UseOption) (n : Name)
    : Type 0 where
  pub first : (names news : List Name) → AreNames ms source names
      → AreNew (use_clause source options) names news → missing names news options ≡ Some n

-- the first clause by which a name has two owners, and the first such name by its bytes
abbrev pub HasTwo : List ModuleForm → List UseClause → Name → Type 0
HasTwo ms us n = (j k : Owner) × Brings ms us n j × Brings ms us n k × (j ≢ k)

pub record IsClash (ms : List ModuleForm) (us : List UseClause) (i : ℕ) (n : Name) : Type 0 where
  pub within : i < length us
  pub before : OneOwner ms (take i us)
  pub here : HasTwo ms (take (i + 1) us) n
  pub first : (m : Name) → HasTwo ms (take (i + 1) us) m → (m ≡ n) ⊎ T (is_lt (by_bytes n m))

-- the places of the use clauses of a form
abbrev pub place_if_use : Place → Clause → List Place → List Place
place_if_use place (clauses.Use name options) places = place ∷ places
place_if_use place (clauses.Export names) places = places
place_if_use place (clauses.Create names) places = places

abbrev pub use_places : List Placed → List Place
use_places [] = []
use_places (clause ∷ rest) = place_if_use clause.place clause.clause (use_places rest)

-- the fault of a clause by a name that is missing
abbrev pub IsMissingAt : List ModuleForm → Place → ℕ → List UseOption → Found → Type 0
IsMissingAt ms place source options f =
    (n : Name) × IsMissing ms source options n × (f ≡ found NotExported place n)

-- the faults of a use clause of module m that uses the module of this number
abbrev pub IsUseFault : List ModuleForm → ℕ → Place → Name → List UseOption → Option ℕ → Found
    → Type 0
IsUseFault ms m place name options None f = f ≡ found UnknownModule place name
IsUseFault ms m place name options (Some source) f =
    IsGrounded ms m × IsMissingAt ms place source options f

abbrev pub IsClauseFault : List Name → NamedList ℕ → List ModuleForm → ℕ → Place → Clause → Found
    → Type 0
IsClauseFault own imported ms m place (clauses.Use name options) f =
    IsUseFault ms m place name options (number_of own imported name) f
IsClauseFault own imported ms m place (clauses.Export names) f = ⊥
IsClauseFault own imported ms m place (clauses.Create names) f = ⊥

-- the faults of some clauses of module m
abbrev pub AreClauseFaults : List Name → NamedList ℕ → List ModuleForm → ℕ → List Placed → Found
    → Type 0
AreClauseFaults own imported ms m list f = (clause : Placed) × IsIn clause list
    × IsClauseFault own imported ms m clause.place clause.clause f

-- one name of two owners
abbrev pub IsClashFault : List ModuleForm → List UseClause → List Place → Found → Type 0
IsClashFault ms us places f = (i : ℕ) × (place : Place) × (n : Name) × IsClash ms us i n
    × (slice_get places i ≡ Some place) × (f ≡ found NameClash place n)

abbrev pub IsOwnClash : List ModuleForm → ℕ → Form → Found → Type 0
IsOwnClash ms m form f = (d : ModuleForm) × (slice_get ms m ≡ Some d) × IsGrounded ms m
    × IsClashFault ms d.uses (use_places form.clauses) f

-- the faults of module m, whose form this is
abbrev pub IsModuleFault : List Name → NamedList ℕ → List ModuleForm → ℕ → Form → Found → Type 0
IsModuleFault own imported ms m form f =
    AreClauseFaults own imported ms m form.clauses f ⊎ IsOwnClash ms m form f

-- the faults of these modules
abbrev pub AreModuleFaults : List Name → NamedList ℕ → List ModuleForm → List Form → Found → Type 0
AreModuleFaults own imported ms forms f = (m : ℕ) × (form : Form) × (slice_get forms m ≡ Some form)
    × IsModuleFault own imported ms m form f

-- the first of these modules that stands on a ring
abbrev pub IsRingFault : List ModuleForm → List Form → Found → Type 0
IsRingFault ms forms f = (m : ℕ) × (form : Form) × (slice_get forms m ≡ Some form) × Leads ms m m
    × ((k : ℕ) → k < m → Leads ms k k → ⊥) × (f ≡ found Cycle form.place form.name)

-- these faults come to others
pub record Adds (old new : List Found) (P : Found → Type 0) : Type 0 where
  pub kept : (f : Found) → IsIn f old → IsIn f new
  pub to : (f : Found) → P f → IsIn f new
  pub from : (f : Found) → IsIn f new → IsIn f old ⊎ P f

-- the tables of exactly the modules that lead to no ring
pub record AreMade (ms : List ModuleForm) (done : List (Option ModuleTables)) : Type 0 where
  pub right : AreRight ms done
  pub all : (m : ℕ) → IsGrounded ms m → is_made (slice_get done m) ≡ true

-- each of these modules is the one of its form
abbrev pub AreOfForms : List Name → NamedList ℕ → ℕ → List ModuleForm → List Form → Type 0
AreOfForms own imported nothing ms forms = (m : ℕ) (form : Form) → slice_get forms m ≡ Some form
    → slice_get ms m ≡ Some (module_form own imported nothing m form)

-- no name of module m has two owners by its clauses
abbrev pub IsSingle : List ModuleForm → ℕ → Type 0
IsSingle ms m = (n : Name) (j k : Owner) → Owned ms imports m n j → Owned ms imports m n k → j ≡ k

-- what the tables say of these
-- the first name, by its bytes, to which clauses bring two owners
abbrev pub LeastTwo : List (NamedList Cell) → List UseClause → Option Name → Type 0
LeastTwo ts us None = (n : Name) → after_uses false us ts n None ≢ Some Many
LeastTwo ts us (Some n) = (after_uses false us ts n None ≡ Some Many)
    × ((m : Name) → after_uses false us ts m None ≡ Some Many
    → (m ≡ n) ⊎ T (is_lt (by_bytes n m)))

abbrev pub IsClashOf : List ModuleForm → List UseClause → Option (ℕ × Name) → Type 0
IsClashOf ms us None = OneOwner ms us
IsClashOf ms us (Some clash) = IsClash ms us clash.0 clash.1

-- what is told of a clash, where its clause has a place
abbrev pub told_clash : Option Place → Name → List Found
told_clash None name = []
told_clash (Some place) name = found NameClash place name ∷ []

-- a module that leads to no ring uses others whose tables are made
abbrev pub IsReadySource : List ModuleForm → List (Option ModuleTables) → ℕ → Option ℕ → Type 0
IsReadySource ms done m None = Unit {0}
IsReadySource ms done m (Some source) = IsGrounded ms m → is_made (slice_get done source) ≡ true

abbrev pub IsReadyClause : List Name → NamedList ℕ → List ModuleForm → List (Option ModuleTables)
    → ℕ → Clause → Type 0
IsReadyClause own imported ms done m (clauses.Use name options) =
    IsReadySource ms done m (number_of own imported name)
IsReadyClause own imported ms done m (clauses.Export names) = Unit {0}
IsReadyClause own imported ms done m (clauses.Create names) = Unit {0}
