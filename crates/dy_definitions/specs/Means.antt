-- The rows of definitions, and which row each name means.
use Rattle.std.specs.Prelude.{ℕ, ◌+◌, Bool, true, false, not, ◌&&◌, cond, List, [], ◌∷◌, ◌++◌}
use Rattle.std.specs.Prelude.{Option, Some, None}
use Rattle.std.specs.List.{list_any}
use Rattle.dy_base.specs.declared.ids.BindingId.{BindingId}
use Rattle.dy_base.specs.declared.ids.What.{What}
use Rattle.dy_base.specs.declared.ids.What.TheVariants as whats
use Rattle.dy_modules.specs.declared.owner.Owner.{Owner}
use Rattle.dy_modules.specs.declared.owner.Owner.TheVariants.{Outside, Own}
use Rattle.dy_definitions.specs.declared.meanings.RowCounts.{RowCounts}
use Rattle.dy_definitions.specs.declared.definitions.Role.{Role}
use Rattle.dy_definitions.specs.declared.definitions.Role.TheVariants.{Makes, Adds}
use Rattle.dy_definitions.specs.declared.definitions.Definition.{Definition}
use Rattle.dy_definitions.specs.Names.{gives, what_made}

-- the definition gives its name its row, and none of these before it does
abbrev pub is_first : List Definition → List Definition → Option Owner → Definition → Bool
is_first ds before None d = false
is_first ds before (Some (Outside id)) d = false
is_first ds before (Some (Own c a)) d = gives ds c a d && not (list_any (gives ds c a) before)

-- Each definition but a method has a row of its own. A method has none, but a generic function that
-- no form makes has one at its first method.
abbrev pub has_row : List Definition → List Definition → Definition → Role → Bool
has_row ds before d Adds = is_first ds before d.owner d
has_row ds before d (Makes what) = true

-- those of the definitions that have rows, in the order of the text, where these come first
abbrev pub with_rows : List Definition → List Definition → List Definition → List Definition
with_rows ds before [] = []
with_rows ds before (d ∷ rest) = cond (has_row ds before d d.role)
    (d ∷ with_rows ds (before ++ d ∷ []) rest) (with_rows ds (before ++ d ∷ []) rest)

-- the row that comes next of a kind; constants and functions are rows of the variables
abbrev pub next_row : What → RowCounts → ℕ
next_row whats.Class rows = rows.classes
next_row whats.Generic rows = rows.generics
next_row whats.Variable rows = rows.variables
next_row whats.Constant rows = rows.variables
next_row whats.Function rows = rows.variables
next_row whats.Macro rows = rows.variables

abbrev pub one_more : What → RowCounts → RowCounts
one_more whats.Class rows = record rows { classes = rows.classes + 1 }
one_more whats.Generic rows = record rows { generics = rows.generics + 1 }
one_more whats.Variable rows = record rows { variables = rows.variables + 1 }
one_more whats.Constant rows = record rows { variables = rows.variables + 1 }
one_more whats.Function rows = record rows { variables = rows.variables + 1 }
one_more whats.Macro rows = record rows { variables = rows.variables + 1 }

abbrev pub no_rows : RowCounts
no_rows = record { classes = 0; generics = 0; variables = 0 }

-- what the names that the modules of the library own mean
abbrev pub Meanings : Type 0
Meanings = ℕ → List ℕ → Option BindingId

module _ (library : ℕ) where
  -- the next row, for this definition
  abbrev pub row_id : RowCounts → Definition → BindingId
  row_id rows d = record {
    what = what_made d.role;
    at = record { library = library; row = next_row (what_made d.role) rows };
  }

  -- the row of the first of these definitions that gives it to a name, where each has the row that
  -- comes next of its kind
  abbrev pub first_row : List Definition → ℕ → List ℕ → RowCounts → List Definition
      → Option BindingId
  first_row ds c a rows [] = None
  first_row ds c a rows (d ∷ rest) = cond (gives ds c a d) (Some (row_id rows d))
      (first_row ds c a (one_more (what_made d.role) rows) rest)

  -- what a name means by the definitions of the library
  abbrev pub meanings_of : List Definition → Meanings
  meanings_of ds c a = first_row ds c a no_rows (with_rows ds [] ds)
