-- How the tables of the code are seen.
use Rattle.std.specs.Prelude.{◌≡◌, ℕ, List, [], ◌∷◌, Option, Some, None, Vec, map, reverse}
use Rattle.std.specs.Map.{lookup}
use Rattle.std.specs.BTreeMap.{is_at}
use Rattle.std.specs.Ordering.{nat_cmp, ordering_then}
use Rattle.std.specs.Cmp.Lexicographic.{slice_cmp}
use Rattle.dy_base.specs.declared.ids.BindingId.{BindingId}
use Rattle.dy_tree.specs.declared.token.Token.{Token}
use Rattle.dy_term.specs.declared.draft.Local.{Local}
use Rattle.dy_term.specs.declared.draft.Local.TheVariants.{Named, Hidden}
use Rattle.dy_names.specs.declared.denotation.Denotation.{Denotation}
use Rattle.dy_names.specs.declared.owners.OwnerTable.{OwnerTable}
use Rattle.dy_names.specs.declared.scope.Bound.{Bound}
use Rattle.dy_names.specs.Naming.{Locals, innermost}

-- values by a number and a text
abbrev pub Keyed : Type 0 → Type 0 → Type 0
Keyed B V = List ((ℕ × Vec ℕ B) × V)

-- what entries have at a number and a text
abbrev pub entry_at : {B V : Type 0} → Keyed B V → ℕ → List ℕ → Option V
entry_at entries number text =
    lookup (is_at (λ k. ordering_then (nat_cmp number k.0) (slice_cmp nat_cmp text k.1.items)))
    entries

unfoldable pub owner_in : OwnerTable → Token → Option BindingId
owner_in table name = entry_at table.entries.entries name.module name.text

-- what two tables have for a local: one for names, by origin and text, and one for hidden locals,
-- by number
abbrev pub entry_of : {B V : Type 0} → Keyed B V → List (ℕ × V) → Local → Option V
entry_of named hidden (Named name) = entry_at named name.origin name.text
entry_of named hidden (Hidden n) = lookup (is_at (nat_cmp n)) hidden

abbrev pub flat : Option (Option Denotation) → Option Denotation
flat None = None
flat (Some denotation) = denotation

-- the locals of a list that has the innermost first
abbrev pub locals_in : List Bound → Locals
locals_in bound = map (λ b. (b.local, b.denotation)) bound

-- the locals of a list that has the innermost last
abbrev pub locals_of : List Bound → Locals
locals_of bound = locals_in (reverse bound)

-- each local knows what the one that it hides stands for
abbrev pub KnowOuter : List Bound → Type 0
KnowOuter [] = Unit {0}
KnowOuter (b ∷ outer) = (b.outer ≡ innermost (locals_in outer) b.local) × KnowOuter outer

-- the tables have the innermost local of each name; the list has the innermost first
pub record IsKept {B : Type 0} (bound : List Bound) (named : Keyed B (Option Denotation))
    (hidden : List (ℕ × Option Denotation)) : Type 0 where
  pub found : (name : Local) → flat (entry_of named hidden name) ≡ innermost (locals_in bound) name
  pub outer : KnowOuter bound
