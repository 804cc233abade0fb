-- The type constants of a library by their rows.
use Rattle.std.specs.Prelude.{◌≡◌, ℕ, ◌<◌, ◌^◌, Bool, true, false, List, [], ◌∷◌, ◌++◌, map}
use Rattle.std.specs.Prelude.{flat_map, length, Option, Some, None, slice_get}
use Rattle.std.specs.Borrow.{Bor}
use Rattle.std.specs.Option.{option_map}
use Rattle.dy_base.specs.declared.fault.Fault.{Fault}
use Rattle.dy_tree.specs.declared.token.Token.{Token}
use Rattle.dy_term.specs.declared.draft.DraftType.{DraftType}
use Rattle.dy_term.specs.Types.{CoreType, seen_type}
use Rattle.dy_names.specs.Naming.{Table}
use Rattle.dy_type_names.specs.Constants.{Constant, row_owned, first_of_row, names_in}
use Rattle.dy_type_names.specs.Constants.{ring_told}

abbrev pub seen_constant : Bor Token × Bor DraftType → Constant
seen_constant constant = (constant.0.now, seen_type constant.1.now)

-- what the constant of each row is written as
abbrev pub Written : Type 0
Written = List (Option CoreType)

abbrev pub seen_written : Option (Bor DraftType) → Option CoreType
seen_written draft = option_map (λ d. seen_type d.now) draft

abbrev pub flat : Option (Option CoreType) → Option CoreType
flat None = None
flat (Some declared) = declared

abbrev pub declared_at : Written → ℕ → Option CoreType
declared_at written row = flat (slice_get written row)

abbrev pub row_if_new : Option CoreType → ℕ → List ℕ
row_if_new None row = row ∷ []
row_if_new (Some declared) row = []

abbrev pub kept_or : Option CoreType → CoreType → CoreType
kept_or None declared = declared
kept_or (Some kept) declared = kept

-- a row that is used, if something is written there
abbrev pub row_if_there : Option CoreType → ℕ → List ℕ
row_if_there None row = []
row_if_there (Some declared) row = row ∷ []

abbrev pub used_row : Written → Option ℕ → List ℕ
used_row written None = []
used_row written (Some row) = row_if_there (declared_at written row) row

module _ (table : Table) (library : ℕ) where
  abbrev pub new_row : (before : List Constant) → Option ℕ → List ℕ
  new_row before None = []
  new_row before (Some row) = row_if_new (first_of_row table library row before) row

  -- the rows of the constants behind some others, each once, in the order of the text
  abbrev pub first_rows : (before constants : List Constant) → List ℕ
  first_rows before [] = []
  first_rows before (constant ∷ constants) =
      new_row before (row_owned library (table constant.0))
      ++ first_rows (before ++ constant ∷ []) constants

  -- what is written at each row, and the rows, as these constants have it
  pub record IsTable (constants : List Constant) (written : Written) (rows : List ℕ) : Type 0 where
    pub at : (row : ℕ) → declared_at written row ≡ first_of_row table library row constants
    pub listed : rows ≡ first_rows [] constants
    pub least : length written < 2 ^ 32

  -- the rows that these names use
  abbrev pub rows_used : Written → List Token → List ℕ
  rows_used written names =
      flat_map (λ name. used_row written (row_owned library (table name))) names

  abbrev pub uses_at : Written → Option CoreType → List ℕ
  uses_at written None = []
  uses_at written (Some declared) = rows_used written (names_in declared)

  abbrev pub uses_of : Written → List (List ℕ)
  uses_of written = map (uses_at written) written

abbrev pub told_at : Bool → Option CoreType → List Fault
told_at false declared = []
told_at true None = []
told_at true (Some declared) = ring_told declared

abbrev pub truth : Option Bool → Bool
truth None = false
truth (Some is) = is

-- the faults of those of these rows that are on rings
abbrev pub told_on : Written → List Bool → List ℕ → List Fault
told_on written on_ring rows =
    flat_map (λ row. told_at (truth (slice_get on_ring row)) (declared_at written row)) rows
