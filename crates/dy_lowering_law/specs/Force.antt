-- What is in force around a term, and the rows of the machine that stand for it.
use Rattle.std.specs.Prelude.{ℕ, ◌≤◌, List, [], ◌∷◌, ◌++◌, length}
use Rattle.dy_outcome.specs.States.{Scope, Block, Handler, Clause}
use Rattle.dy_code.specs.Layouts.{Landing}
use Rattle.dy_code.specs.Validity.{Every}
use Rattle.dy_steps.specs.Configurations.{Row, Leaves, Cleans, Handles, Catches, Activation}
use Rattle.dy_steps.specs.Configurations.{Waiting}

-- A block that can be left, a handler and an exception clause have the number of their row. A
-- cleanup is nothing that a term sees.
abbrev pub entries : Row → Scope
entries (Leaves number to) = Block number ∷ []
entries (Cleans number to) = []
entries (Handles number condition function) = Handler number condition function ∷ []
entries (Catches number condition to) = Clause number condition ∷ []

abbrev pub scope_in : List Row → Scope
scope_in [] = []
scope_in (row ∷ rows) = entries row ++ scope_in rows

abbrev pub scope_around : List Waiting → Scope
scope_around [] = []
scope_around (waiting ∷ others) = scope_in waiting.activation.rows ++ scope_around others

-- A row keeps no more than its body has of operands, lists on the side and cleanups under way.
abbrev pub Keeps : Activation → Landing → Type 0
Keeps a to = (to.operands ≤ length a.operands) × (to.saved ≤ length a.saved)
    × (to.cleanups ≤ length a.cleanups)

abbrev pub KeepsWithin : Activation → Row → Type 0
KeepsWithin a (Leaves number to) = Keeps a to
KeepsWithin a (Cleans number to) = Keeps a to
KeepsWithin a (Handles number condition function) = Unit {0}
KeepsWithin a (Catches number condition to) = Keeps a to

abbrev pub RowsFit : Activation → Type 0
RowsFit a = Every (KeepsWithin a) a.rows
