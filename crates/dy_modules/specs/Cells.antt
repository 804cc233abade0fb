-- What a table says of a name: no owner, one, or several.
use Rattle.std.specs.Prelude.{◌≡◌, ◌≢◌, ℕ, Bool, true, false, cond, List, [], ◌∷◌, Option, Some}
use Rattle.std.specs.Prelude.{None, ◌||◌, not, slice_get}
use Rattle.std.specs.Str.{bytes_eq}
use Rattle.std.specs.FinMap as finite
use Rattle.dy_base.specs.Tables.{NamedList, table_of}
use Rattle.dy_modules.specs.declared.owner.Owner.{Owner}
use Rattle.dy_modules.specs.declared.owner.Owner.TheVariants.{Own}
use Rattle.dy_modules.specs.declared.table.Cell.{Cell}
use Rattle.dy_modules.specs.declared.table.Cell.TheVariants.{One, Many}
use Rattle.dy_modules.specs.declared.clause.UseClause.{UseClause}
use Rattle.dy_modules.specs.declared.clause.ModuleForm.{ModuleForm}
use Rattle.dy_modules.specs.Clauses.{Name, brought, is_again, given_at, is_same_owner}

-- what the cell says of the owners P
abbrev pub Says : Option Cell → (Owner → Type 0) → Type 0
Says None P = (k : Owner) → P k → ⊥
Says (Some (One k)) P = P k × ((j : Owner) → P j → j ≡ k)
Says (Some Many) P = (j k : Owner) × P j × P k × (j ≢ k)

-- what both say
abbrev pub both : Cell → Cell → Cell
both (One j) (One k) = cond (is_same_owner j k) (One j) Many
both (One j) Many = Many
both Many d = Many

-- what a cell says where one more cell comes to it
abbrev pub plus : Option Cell → Cell → Option Cell
plus None d = Some d
plus (Some c) d = Some (both c d)

-- what a table says of a name
abbrev pub at : NamedList Cell → Name → Option Cell
at t n = finite.get (table_of t) n

-- each name is kept, or each that is exported again
abbrev pub is_kept : Bool → UseClause → Name → Bool
is_kept again_only u n = not again_only || is_again u n

abbrev pub kept : Bool → UseClause → Option Name → Option Name
kept again_only u None = None
kept again_only u (Some n) = cond (is_kept again_only u n) (Some n) None

-- the new name, where it is kept
abbrev pub picked : Bool → UseClause → Name → Option Name
picked again_only u a = kept again_only u (brought u a)

abbrev pub is_name : Option Name → Name → Bool
is_name None n = false
is_name (Some m) n = bytes_eq n m

-- a cell after another came to it, where its test says so
abbrev pub after_one : {X : Type 0} → (X → Bool) → (X → Cell) → Option X → Option Cell → Option Cell
after_one test cell None c = c
after_one test cell (Some x) c = cond (test x) (plus c (cell x)) c

-- a cell after others came to it
abbrev pub after_all : {X : Type 0} → (X → Bool) → (X → Cell) → List X → Option Cell → Option Cell
after_all test cell [] c = c
after_all test cell (x ∷ xs) c = after_all test cell xs (cond (test x) (plus c (cell x)) c)

abbrev pub comes : Bool → UseClause → Name → Name × Cell → Bool
comes again_only u n r = is_name (picked again_only u r.0) n

abbrev pub cell_of : Name × Cell → Cell
cell_of r = r.1

-- the cell of the name n after these rows came by the clause
abbrev pub after_rows : Bool → UseClause → NamedList Cell → Name → Option Cell → Option Cell
after_rows again_only u rs n c = after_all (comes again_only u n) cell_of rs c

abbrev pub after_source : Bool → UseClause → Option (NamedList Cell) → Name → Option Cell
    → Option Cell
after_source again_only u None n c = c
after_source again_only u (Some rs) n c = after_rows again_only u rs n c

-- the same after these clauses, where ts are the rows of the modules' exports
abbrev pub after_uses : Bool → List UseClause → List (NamedList Cell) → Name → Option Cell
    → Option Cell
after_uses again_only [] ts n c = c
after_uses again_only (u ∷ us) ts n c =
    after_uses again_only us ts n (after_source again_only u (slice_get ts u.source) n c)

-- the owner that a name has from elsewhere, or the module's own
abbrev pub owner_or : ℕ → Name → Option Cell → Cell
owner_or m a None = One (Own m a)
owner_or m a (Some c) = c

-- the same after these names of module m, each of its owner among the imports where they have it
abbrev pub after_listed : ℕ → (Name → Option Cell) → List Name → Name → Option Cell → Option Cell
after_listed m imported gs n c = after_all (bytes_eq n) (λ g. owner_or m g (imported g)) gs c

-- a given owner comes before all others
abbrev pub over : Option Owner → Option Cell → Option Cell
over None c = c
over (Some k) c = Some (One k)

-- what a module exports
abbrev pub exported : ℕ → (Name → Option Cell) → ModuleForm → List (NamedList Cell) → Name
    → Option Cell
exported m imported d ts n =
    over (given_at d n) (after_uses true d.uses ts n (after_listed m imported d.listed n None))

-- a cell after a given owner came to its name
abbrev pub over_one : Name → Option (Name × Owner) → Option Cell → Option Cell
over_one n None c = c
over_one n (Some g) c = cond (bytes_eq n g.0) (Some (One g.1)) c
