-- `let` of several locals of the body, and with `#rest`.
use Rattle.std.specs.Prelude.{◌≡◌, ℕ, ◌-◌, ◌<◌, ◌≢◌, true, List, [], ◌∷◌, ◌++◌, map}
use Rattle.std.specs.Option.{option_map}
use Rattle.std.specs.declared.option.Option.{Option}
use Rattle.std.specs.declared.option.Option.TheVariants.{None, Some}
use Rattle.dy_term.specs.declared.types.DyType.{DyType}
use Rattle.dy_term.specs.declared.rows.Program.{Program}
use Rattle.dy_outcome.specs.declared.place.Place.{Place}
use Rattle.dy_outcome.specs.declared.place.Place.TheVariants.{Own, Captured}
use Rattle.dy_outcome.specs.States.{Does}
use Rattle.dy_outcome.specs.Parts.{letting}
use Rattle.dy_meaning.specs.Layouts.{Layout, place_of}
use Rattle.dy_lowered.specs.Flat.{Code}
use Rattle.dy_lowered.specs.Parts as parts
use Rattle.dy_lowered.specs.Readiness.{with_rest, are_bound}
use Rattle.dy_lowering_law.specs.Following.{Follows, Prepares}

-- a place of a body with so many locals: nothing that is captured
abbrev pub IsOwn : ℕ → Place → Type 0
IsOwn locals (Own number in_cell) = number < locals
IsOwn locals (Captured number) = ⊥

abbrev pub AreOwn : ℕ → List Place → Type 0
AreOwn locals [] = Unit {0}
AreOwn locals (place ∷ places) = IsOwn locals place × AreOwn locals places

-- the local of a number stands at none of these places
abbrev pub IsNone : ℕ → List Place → Type 0
IsNone number [] = Unit {0}
IsNone number (Own other in_cell ∷ places) = (number ≢ other) × IsNone number places
IsNone number (Captured other ∷ places) = IsNone number places

-- each local stands at one place
abbrev pub AreDistinct : List Place → Type 0
AreDistinct [] = Unit {0}
AreDistinct (Own number in_cell ∷ places) = IsNone number places × AreDistinct places
AreDistinct (Captured number ∷ places) = AreDistinct places

-- the places that are bound: that of the surplus values comes last
abbrev pub all_places : List Place → Option Place → List Place
all_places places None = places
all_places places (Some rest) = places ++ rest ∷ []

abbrev pub AllLetsFollow : Type 0
AllLetsFollow = (program : Program) (n before locals : ℕ) (places : List Place)
    (rest : Option Place) (code : Code) (does : Does)
    → AreOwn locals (all_places places rest) → AreDistinct (all_places places rest)
    → Follows program n before locals code does
    → Prepares program n before locals (parts.letting places rest code) (letting places rest does)

-- `let` as a part of a body has it: it binds locals of the body by their numbers, no two of which
-- are the same
abbrev pub LetItemsFollow : Type 0
LetItemsFollow = (program : Program) (n before last : ℕ) (layout : Layout)
    (locals : List (ℕ × DyType)) (rest : Option ℕ) (code : Code) (does : Does)
    → are_bound layout.first last (with_rest (map (λ local. local.0) locals) rest) ≡ true
    → Follows program n before (last - layout.first) code does
    → Prepares program n before (last - layout.first)
    (parts.letting (map (λ local. place_of layout local.0) locals)
    (option_map (place_of layout) rest) code)
    (letting (map (λ local. place_of layout local.0) locals) (option_map (place_of layout) rest)
    does)
