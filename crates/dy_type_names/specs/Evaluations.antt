-- What is known when the constants of some rows of a library are evaluated.
use Rattle.std.specs.Prelude.{◌≡◌, ℕ, Bool, List, [], Option, Some, None, slice_get}
use Rattle.std.specs.Prelude.{if◌then◌else◌}
use Rattle.dy_base.specs.declared.ids.BindingId.{BindingId}
use Rattle.dy_term.specs.Types.{CoreType}
use Rattle.dy_names.specs.Naming.{Table}
use Rattle.dy_rings.specs.Rings.{In}
use Rattle.dy_type_names.specs.declared.standing.Standing.{Standing}
use Rattle.dy_type_names.specs.declared.standing.Standing.TheVariants.{Faulty}
use Rattle.dy_type_names.specs.Members.{read_members}
use Rattle.dy_type_names.specs.Constants.{is_row, row_of}
use Rattle.dy_type_names.specs.RowTables.{Written, declared_at, truth}
use Rattle.dy_type_names.specs.Standings.{standing_of}

-- what a constant that is written as this type stands for
abbrev pub declared_standing : Table → (is_on_ring : Bool) → (BindingId → Standing) → CoreType
    → Standing
declared_standing table is_on_ring standing type =
    if is_on_ring then Faulty else standing_of (read_members standing table [] type)

module _ (table : Table) (library : ℕ) where
  -- what bindings stand for when a row is evaluated behind others
  abbrev pub with_row : ℕ → (is_on_ring : Bool) → Option CoreType → (BindingId → Standing)
      → BindingId → Standing
  with_row row is_on_ring None before binding = before binding
  with_row row is_on_ring (Some type) before binding =
      if is_row row (row_of library binding)
      then declared_standing table is_on_ring before type else before binding

  -- each of these rows stands for what its constant is written as, and all other bindings stand for
  -- what they did before
  pub record AreEvaluated (written : Written) (on_ring : List Bool) (rows : List ℕ)
      (before standing : BindingId → Standing) : Type 0 where
    pub constant : (binding : BindingId) (row : ℕ) (type : CoreType)
        → row_of library binding ≡ Some row → In row rows → declared_at written row ≡ Some type
        → standing binding
        ≡ declared_standing table (truth (slice_get on_ring row)) standing type
    pub other : (binding : BindingId)
        → ((row : ℕ) → row_of library binding ≡ Some row → In row rows
        → declared_at written row ≡ None)
        → standing binding ≡ before binding
