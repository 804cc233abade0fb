-- `select`, with a test and without.
use Rattle.std.specs.Prelude.{ℕ, suc, List, [], ◌∷◌, drop}
use Rattle.std.specs.declared.option.Option.{Option}
use Rattle.std.specs.declared.option.Option.TheVariants.{None, Some}
use Rattle.dy_term.specs.declared.rows.Program.{Program}
use Rattle.dy_values.specs.Spending.{first}
use Rattle.dy_outcome.specs.States.{Does}
use Rattle.dy_outcome.specs.Calls.{calls_within}
use Rattle.dy_code.specs.Fetching.{CallValue}
use Rattle.dy_meaning.specs.Meaning.{selecting_in}
use Rattle.dy_meaning.specs.Programs.{world}
use Rattle.dy_lowered.specs.Flat.{Code}
use Rattle.dy_lowered.specs.Parts as parts
use Rattle.dy_lowering_law.specs.Following.{Follows}
use Rattle.dy_lowering_law.specs.Kinds.{AllDo, Takes}

-- a call of a value with so many arguments, under which it lies
abbrev pub CallsTaken : Program → (n before locals bound count : ℕ) → Type 0
CallsTaken program n before locals bound count =
    Takes program n before locals (suc count) (CallValue count)
    (λ values. (calls_within (world program) bound).value (first values) (drop 1 values))

-- the code of a term and what it does, if there is one
abbrev pub HeldDo : Program → (n before locals : ℕ) → Option Code → Option Does → Type 0
HeldDo program n before locals None None = Unit {0}
HeldDo program n before locals (Some code) (Some does) = Follows program n before locals code does
HeldDo program n before locals code does = ⊥

-- arms, one by one
abbrev pub ArmsDo : Program → (n before locals : ℕ) → List (List Code × Code)
    → List (List Does × Does) → Type 0
ArmsDo program n before locals [] [] = Unit {0}
ArmsDo program n before locals (code ∷ codes) (does ∷ others) =
    AllDo program n before locals code.0 does.0 × Follows program n before locals code.1 does.1
    × ArmsDo program n before locals codes others
ArmsDo program n before locals codes all = ⊥

-- The test of a `select` is a call of a value with two arguments.
abbrev pub SelectsFollow : Type 0
SelectsFollow = (program : Program) (n before locals bound : ℕ) (value : Code) (v : Does)
    (test : Option Code) (t : Option Does) (arms : List (List Code × Code))
    (all : List (List Does × Does)) (last : Option Code) (l : Option Does)
    → CallsTaken program n before locals bound 2 → Follows program n before locals value v
    → HeldDo program n before locals test t → ArmsDo program n before locals arms all
    → HeldDo program n before locals last l
    → Follows program n before locals (parts.select value test arms last)
    (selecting_in (calls_within (world program) bound) v t all l)
