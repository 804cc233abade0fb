-- What lies at each place of flat code, wherever that stands, and how many instructions follow
-- each without a `Tick`.
use Rattle.std.specs.Prelude.{◌≡◌, ℕ, ◌+◌, ◌≤◌, List, [], ◌∷◌, ◌++◌, length, map}
use Rattle.std.specs.declared.option.Option.TheVariants.{Some}
use Rattle.dy_code.specs.Fetching.{Return}
use Rattle.dy_code.specs.Layouts.{Layout, Row, Handles, Way, follows}
use Rattle.dy_code.specs.Validity.{Every, Known, Arrives, Falls}
use Rattle.dy_lowered.specs.Flat.{Flat, Code, one, placed}
use Rattle.dy_lowered.specs.Stretches as stretches

-- what lies at a place, and its rank
pub record Shape : Type 0 where
  pub layout : Layout
  pub rank : ℕ

abbrev pub HasAt : Known → ℕ → Shape → Type 0
HasAt known place shape =
    (known.layouts place ≡ Some shape.layout) × (known.ranks place ≡ shape.rank)

-- places have these shapes, one after the other
abbrev pub Has : Known → ℕ → List Shape → Type 0
Has known place [] = Unit {0}
Has known place (shape ∷ shapes) = HasAt known place shape × Has known (place + 1) shapes

-- No row in force leads anywhere: handlers alone do not.
abbrev pub OnlyHandlers : List Row → Type 0
OnlyHandlers [] = Unit {0}
OnlyHandlers (Handles ∷ rows) = OnlyHandlers rows
OnlyHandlers (row ∷ rows) = ⊥

-- what it takes is there, and each way from it leads to a place with just what lies there then, and
-- to a lower rank if it is no `Tick`
pub record IsFine (known : Known) (place : ℕ) (shape : Shape) (flat : Flat) : Type 0 where
  pub ways : List Way
  pub follow : follows (placed place flat) (place + 1) shape.layout ≡ Some ways
  pub places : map (λ way. way.0) ways ≡ stretches.ways (place + 1) (placed place flat)
  pub arrive : Every (Arrives known) ways
  pub falls : Falls known shape.rank (placed place flat) ways
  pub handlers : OnlyHandlers shape.layout.rows

abbrev pub AreFine : Known → ℕ → List Shape → Code → Type 0
AreFine known place [] [] = Unit {0}
AreFine known place (shape ∷ shapes) (flat ∷ code) =
    IsFine known place shape flat × AreFine known (place + 1) shapes code
AreFine known place shapes code = ⊥

abbrev pub IsUnder : ℕ → Shape → Type 0
IsUnder most shape = shape.rank ≤ most

-- Code at a place, from one layout to another, with a rank behind it. Each of its places has one
-- shape; the ranks exceed that behind by no more than there are instructions; and whatever gives
-- these shapes to its places, and that to the place behind, has only fine instructions there.
pub record Laid (place : ℕ) (code : Code) (from to : Layout) (rank : ℕ) : Type 0 where
  pub shapes : List Shape
  pub start : ℕ
  pub long : length shapes ≡ length code
  pub low : start ≤ rank + length code
  pub under : Every (IsUnder (rank + length code)) shapes
  pub keeps : OnlyHandlers from.rows → OnlyHandlers to.rows
  pub starts : (known : Known) → Has known place shapes
      → HasAt known (place + length code) (record { layout = to; rank = rank })
      → HasAt known place (record { layout = from; rank = start })
  pub fine : (known : Known) → Has known place shapes
      → HasAt known (place + length code) (record { layout = to; rank = rank })
      → OnlyHandlers from.rows → AreFine known place shapes code

-- the same wherever it stands, with each rank behind it
abbrev pub Lays : Code → (from to : Layout) → Type 0
Lays code from to = (place rank : ℕ) → Laid place code from to rank

-- code that leaves all as it was, whatever that is
abbrev pub IsEven : Code → Type 0
IsEven code = (l : Layout) → Lays code l l

-- A body: code that leaves all as it was, and then its end.
pub record IsWhole (code : Code) : Type 0 where
  pub front : Code
  pub same : code ≡ front ++ one Return
  pub even : IsEven front
