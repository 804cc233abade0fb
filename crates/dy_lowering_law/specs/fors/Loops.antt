-- `for`, where the code of the parts does what these do.
use Rattle.std.specs.Prelude.{◌≡◌, ℕ, pos, Bool, true, List, [], ◌∷◌}
use Rattle.std.specs.declared.option.Option.{Option}
use Rattle.std.specs.declared.option.Option.TheVariants.{None, Some}
use Rattle.dy_term.specs.declared.literal.Literal.{Literal-F, roll-Literal}
use Rattle.dy_term.specs.declared.term.Limit.{Limit}
use Rattle.dy_term.specs.declared.rows.Program.{Program}
use Rattle.dy_outcome.specs.States.{Does}
use Rattle.dy_outcome.specs.Calls.{calls_within}
use Rattle.dy_outcome.specs.Turns as means
use Rattle.dy_outcome.specs.Turns.{fits}
use Rattle.dy_meaning.specs.Meaning.{literal, no_number}
use Rattle.dy_meaning.specs.Programs.{world}
use Rattle.dy_lowered.specs.Flat.{Code}
use Rattle.dy_lowering_law.specs.Following.{Follows}
use Rattle.dy_lowering_law.specs.parts.Lets.{IsOwn}
use Rattle.dy_lowering_law.specs.parts.Selects.{HeldDo}
use Rattle.dy_lowered.specs.Turns.{Amount, Known, Given, Clause, Takes, Counts, for_loop}

-- a number that is known is that of a literal
abbrev pub AmountDoes : Program → (n before locals : ℕ) → Amount → Does → Type 0
AmountDoes program n before locals (Known number) does =
    (fits number ≡ true) × (does ≡ literal (roll-Literal (Literal-F.Int number)))
AmountDoes program n before locals (Given code) does = Follows program n before locals code does

abbrev pub LimitDoes : Program → (n before locals : ℕ) → Option (Limit × Amount)
    → Option (Limit × Does) → Type 0
LimitDoes program n before locals None None = Unit {0}
LimitDoes program n before locals (Some limit) (Some other) =
    (limit.0 ≡ other.0) × AmountDoes program n before locals limit.1 other.1
LimitDoes program n before locals limit other = ⊥

-- a step that is none is 1
abbrev pub StepDoes : Program → (n before locals : ℕ) → Amount → Option Does → Type 0
StepDoes program n before locals (Known number) None = number ≡ pos 1
StepDoes program n before locals (Given code) None = ⊥
StepDoes program n before locals step (Some does) = AmountDoes program n before locals step does

abbrev pub TestDoes : Program → (n before locals : ℕ) → Option (Bool × Code)
    → Option (Bool × Does) → Type 0
TestDoes program n before locals None None = Unit {0}
TestDoes program n before locals (Some test) (Some other) =
    (test.0 ≡ other.0) × Follows program n before locals test.1 other.1
TestDoes program n before locals test other = ⊥

-- The parts of a clause do what those of the other do.
abbrev pub ClauseDoes : Program → (n before locals : ℕ) → Clause → means.Clause → Type 0
ClauseDoes program n before locals (Takes place start next) (means.Takes other a b) =
    (place ≡ other) × IsOwn locals place × Follows program n before locals start a
    × Follows program n before locals next b
ClauseDoes program n before locals (Counts place start limit step) (means.Counts other a l s) =
    (place ≡ other) × IsOwn locals place × Follows program n before locals start a
    × LimitDoes program n before locals limit l × StepDoes program n before locals step s
ClauseDoes program n before locals clause other = ⊥

abbrev pub ClausesDo : Program → (n before locals : ℕ) → List Clause → List means.Clause → Type 0
ClausesDo program n before locals [] [] = Unit {0}
ClausesDo program n before locals (clause ∷ clauses) (other ∷ others) =
    ClauseDoes program n before locals clause other
    × ClausesDo program n before locals clauses others
ClausesDo program n before locals clauses others = ⊥

-- a loop of any clauses
abbrev pub ForsFollow : Type 0
ForsFollow = (program : Program) (n before locals bound : ℕ) (clauses : List Clause)
    (others : List means.Clause) (test : Option (Bool × Code)) (t : Option (Bool × Does))
    (inner : Code) (b : Does) (last : Option Code) (f : Option Does)
    → ClausesDo program n before locals clauses others
    → TestDoes program n before locals test t → Follows program n before locals inner b
    → HeldDo program n before locals last f
    → Follows program n before locals (for_loop clauses test inner last)
    (means.for_loop (no_number (calls_within (world program) bound)) others t b f)
