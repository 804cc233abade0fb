-- How the tables of the code are seen.
use Rattle.std.specs.Prelude.{ℕ, List, Option, Some, None}
use Rattle.dy_names.specs.Tables.{entry_at}
use Rattle.dy_definitions.specs.declared.tally.Tally.{Tally}
use Rattle.dy_definitions.specs.declared.owned.TallyTable.{TallyTable}
use Rattle.dy_definitions.specs.declared.owned.MeaningTable.{MeaningTable}
use Rattle.dy_definitions.specs.Means.{Meanings}
use Rattle.dy_definitions.specs.Passes.{Tallies, no_tally}

unfoldable pub tally_in : TallyTable → ℕ → List ℕ → Option Tally
tally_in table c a = entry_at table.entries.entries c a

abbrev pub or_no_tally : Option Tally → Tally
or_no_tally None = no_tally
or_no_tally (Some tally) = tally

abbrev pub tallies_in : TallyTable → Tallies
tallies_in table c a = or_no_tally (tally_in table c a)

unfoldable pub meanings_in : MeaningTable → Meanings
meanings_in table c a = entry_at table.entries.entries c a
