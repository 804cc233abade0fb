-- The generic functions of a library, gathered one by one in a table by number.
use Rattle.std.specs.Prelude.{ℕ, List, [], ◌∷◌, Option, Some, None, is_some, if◌then◌else◌}
use Rattle.std.specs.Map.{lookup}
use Rattle.std.specs.BTreeMap.{is_at, insert_entry}
use Rattle.std.specs.Ordering.{nat_cmp}
use Rattle.dy_term.specs.declared.rows.GenericRow.{GenericRow}
use Rattle.dy_names.specs.Naming.{Table}
use Rattle.dy_assembly.specs.Generics.{Offer, number_in}

-- the entries of a table
abbrev pub Entries : Type 0
Entries = List (ℕ × GenericRow)

-- A number that has a row keeps it.
abbrev pub with_row : Entries → ℕ → GenericRow → Entries
with_row entries number row =
    if is_some (lookup (is_at (nat_cmp number)) entries) then entries
    else insert_entry nat_cmp entries number row

abbrev pub with_offer : Entries → Option ℕ → GenericRow → Entries
with_offer entries None row = entries
with_offer entries (Some number) row = with_row entries number row

abbrev pub gathered : ℕ → Table → Entries → List Offer → Entries
gathered library owner entries [] = entries
gathered library owner entries (offer ∷ offers) =
    gathered library owner (with_offer entries (number_in library (owner offer.0)) offer.1) offers
