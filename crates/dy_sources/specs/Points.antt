-- Places in a text, as a user counts.
use Rattle.std.specs.Prelude.{ℕ, ◌+◌, List, [], ◌∷◌, length, take, if◌then◌else◌}
use Rattle.std.specs.List.{list_any, count_by}
use Rattle.dy_sources.specs.declared.point.Point.{Point}
use Rattle.dy_sources.specs.Layout.{is_line_feed}

-- what stands behind the last line end
abbrev pub last_line : List ℕ → List ℕ
last_line [] = []
last_line (byte ∷ bytes) =
    if list_any is_line_feed (byte ∷ bytes) then last_line bytes else byte ∷ bytes

-- One more than the line ends before the place, and one more than the bytes between the last of
-- them and the place.
abbrev pub point_behind : List ℕ → Point
point_behind bytes = record
    { line = 1 + count_by is_line_feed bytes; column = 1 + length (last_line bytes) }

-- the place at this offset
abbrev pub point_at : List ℕ → ℕ → Point
point_at text offset = point_behind (take offset text)

-- the begin of a text
abbrev pub start : Point
start = record { line = 1; column = 1 }
