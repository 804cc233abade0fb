-- A table of modules: what its names are defined as, and what each module means by a name.
use Rattle.std.specs.Prelude.{◌≡◌, ◌⊎◌, ℕ, zero, suc, ◌≤◌, ◌<◌}
use Rattle.std.specs.Prelude.{List, [], ◌∷◌, T, length, slice_get, Option, Some, None}
use Rattle.std.specs.FinMap as finite
use Rattle.dy_base.specs.Folding.{folded}
use Rattle.dy_base.specs.Tables.{NameMap, NamedList, by_bytes}
use Rattle.dy_base.specs.declared.ids.BindingId.{BindingId}
use Rattle.dy_base.specs.declared.fault.Place.{Place}
use Rattle.dy_modules.specs.declared.owner.Owner.{Owner}
use Rattle.dy_modules.specs.declared.owner.Owner.TheVariants.{Outside, Own}
use Rattle.dy_modules.specs.declared.clause.UseClause.{UseClause}
use Rattle.dy_modules.specs.declared.clause.ModuleForm.{ModuleForm}
use Rattle.dy_module_tables.specs.declared.promise.Promise.{Promise}
use Rattle.dy_modules.specs.Clauses.{Name, IsIn, brought, given_at}
use Rattle.dy_modules.specs.Sees.{imports, exports, Named, Owned}

-- what stands in a table of definitions at a name
abbrev pub defined_in : Option (NameMap BindingId) → Name → Option BindingId
defined_in None n = None
defined_in (Some t) n = finite.get t n

-- what an owner is defined as, where each module has a table of the definitions of its own names
abbrev pub definition : List (NameMap BindingId) → Owner → Option BindingId
definition defs (Outside id) = Some id
definition defs (Own m n) = defined_in (slice_get defs m) n

-- the tables after one more definition
abbrev pub put_in : List (NameMap BindingId) → ℕ → Name → BindingId → List (NameMap BindingId)
put_in [] m n id = []
put_in (t ∷ ts) zero n id = finite.insert t n id ∷ ts
put_in (t ∷ ts) (suc m) n id = t ∷ put_in ts m n id

-- what module m means by a name: what it has by itself, else what a use clause brings, else a name
-- of its own
pub data Visible (ms : List ModuleForm) : ℕ → Name → Owner → Type 0 where
  given_here : (m : ℕ) (d : ModuleForm) (n : Name) (k : Owner) → slice_get ms m ≡ Some d
      → given_at d n ≡ Some k → Visible ms m n k
  brought_here : (m : ℕ) (d : ModuleForm) (n : Name) (k : Owner) → slice_get ms m ≡ Some d
      → given_at d n ≡ None → Owned ms imports m n k → Visible ms m n k
  own_here : (m : ℕ) (d : ModuleForm) (n : Name) → slice_get ms m ≡ Some d → given_at d n ≡ None
      → (Named ms imports m n → ⊥) → Visible ms m n (Own m n)

-- module m sees a definition of the name
abbrev pub Means : List ModuleForm → List (NameMap BindingId) → ℕ → Name → BindingId → Type 0
Means ms defs m n id = (k : Owner) × Visible ms m n k × (definition defs k ≡ Some id)

-- module m of the library creates the name
abbrev pub Creates : List ModuleForm → ℕ → Name → Type 0
Creates ms m n = (d : ModuleForm) × (k : Owner) × (slice_get ms m ≡ Some d)
    × (given_at d n ≡ Some k)

-- module m imports the name from a module of its own library that creates it
abbrev pub Lends : List ModuleForm → ℕ → Name → Type 0
Lends ms m n = (d e : ModuleForm) × (u : UseClause) × (a : Name) × (slice_get ms m ≡ Some d)
    × IsIn u d.uses × (brought u a ≡ Some n)
    × (slice_get ms u.source ≡ Some e) × (given_at e a ≡ Some (Own u.source a))

-- no definition of the name may be added in module m, where the first modules are the library's own
abbrev pub IsTaken : List ModuleForm → ℕ → List (NameMap BindingId) → ℕ → Name → Type 0
IsTaken ms own defs m n = (own ≤ m)
    ⊎ (((id : BindingId) × Means ms defs m n id)
    ⊎ (Creates ms m n ⊎ (Named ms imports m n × (Lends ms m n → ⊥))))

-- what is defined where a name may be defined in module m: a name of module c that has no
-- definition yet
abbrev pub IsFree : List ModuleForm → List (NameMap BindingId) → ℕ → Name → ℕ → Name → Type 0
IsFree ms defs m n c a = Visible ms m n (Own c a) × (definition defs (Own c a) ≡ None)
    × (c < length defs)

-- an exported name that is defined
abbrev pub IsExported : List ModuleForm → List (NameMap BindingId) → ℕ → Name → BindingId → Type 0
IsExported ms defs m n id = (k : Owner) × Owned ms exports m n k × (definition defs k ≡ Some id)

-- the first of these promised names that is not defined, with its place
abbrev pub FirstLacking : List ModuleForm → List (NameMap BindingId) → List Promise
    → Option (Name × Place) → Type 0
FirstLacking ms defs [] o = o ≡ None
FirstLacking ms defs (p ∷ ps) o =
    (((id : BindingId) → IsExported ms defs p.number p.name id → ⊥) × (o ≡ Some (p.name, p.place)))
    ⊎ (((id : BindingId) × IsExported ms defs p.number p.name id) × FirstLacking ms defs ps o)

-- the exported names of a module that are defined, with their definitions, sorted by bytes and each
-- once
pub record AreExported (ms : List ModuleForm) (defs : List (NameMap BindingId)) (m : ℕ)
    (list : NamedList BindingId) : Type 0 where
  pub sorted : T (finite.is_sorted by_bytes list)
  pub exact_to : (n : Name) (id : BindingId) → IsIn (n, id) list → IsExported ms defs m n id
  pub exact_from : (n : Name) (id : BindingId) → IsExported ms defs m n id → IsIn (n, id) list

-- the same for each of these modules, by their exported names
abbrev pub AllExported : List ModuleForm → List (NameMap BindingId) → List (Name × ℕ)
    → List (Name × NamedList BindingId) → Type 0
AllExported ms defs [] list = list ≡ []
AllExported ms defs (s ∷ shown) [] = ⊥
AllExported ms defs (s ∷ shown) (e ∷ list) = (e.0 ≡ s.0) × AreExported ms defs s.1 e.1
    × AllExported ms defs shown list

-- names in lower case, as all names are
pub record IsFolded (d : ModuleForm) : Type 0 where
  pub given : (n : Name) (k : Owner) → given_at d n ≡ Some k → folded n ≡ n
  pub listed : (n : Name) → IsIn n d.listed → folded n ≡ n
  pub brought : (u : UseClause) (a n : Name) → IsIn u d.uses → brought u a ≡ Some n → folded a ≡ a
      → folded n ≡ n

abbrev pub AreFolded : List ModuleForm → Type 0
AreFolded ms = (m : ℕ) (d : ModuleForm) → slice_get ms m ≡ Some d → IsFolded d

-- what a table of modules says
pub record Graph : Type 0 where
  -- the modules: those of the library first, in the order of their forms, and then those of used
  -- libraries
  pub modules : List ModuleForm
  -- how many are the library's
  pub own : ℕ
  -- for each module what its own names are defined as
  pub defined : List (NameMap BindingId)
  -- the names that modules of the library export or create, by their clauses and then by their
  -- places there
  pub promised : List Promise
  -- the modules that the library exports, sorted by their names' bytes, with their numbers
  pub shown : List (Name × ℕ)
