-- Commands whose LID files stand in another order (own).
use Rattle.std.specs.Prelude.{◌↔◌, ℕ, List, length, Some, Ok}
use Rattle.dy_io.specs.Files.{FileMap}
use Rattle.dy_libraries.specs.declared.libraries.Libraries.{Libraries}
use Rattle.dy_libraries.specs.Commands.{built_in}
use Rattle.dy_sources.specs.Libraries.{AreRead}
use Rattle.dy_orders.specs.Orders.{IsOrder, IsAdmissible, reordered}
use Rattle.dy_build.specs.Words.{Word, Command, build, check}
use Rattle.dy_build.specs.Outcome.{Report, ComesTo}

-- The two commands come to the same reports.
abbrev pub ComeToTheSame : FileMap → Command → Command → Type 0
ComeToTheSame files one other =
    (report : Report) → ComesTo (Some one) files report ↔ ComesTo (Some other) files report

-- what holds where LID files come to libraries, and of each order in which each library stands
-- behind those that it uses
abbrev pub OfOrders : (FileMap → (lids others : List (List ℕ)) → Type 0) → Type 0
OfOrders Holds = (files : FileMap) (lids : List (List ℕ)) (libraries : Libraries) (order : List ℕ)
    → AreRead files built_in lids (Ok libraries) → IsOrder (length lids) order
    → IsAdmissible libraries order → Holds files lids (reordered lids order)

-- The program of a main library that is named is the same: its status, its output and its lines.
abbrev pub BuildsAreAlike : Type 0
BuildsAreAlike = OfOrders (λ files lids others. (fuel : ℕ) (main : Word)
    → ComeToTheSame files (build fuel (Some main) lids) (build fuel (Some main) others))

-- No library is refused.
abbrev pub ChecksAreAlike : Type 0
ChecksAreAlike = OfOrders (λ files lids others. ComeToTheSame files (check lids) (check others))
