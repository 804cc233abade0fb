-- How the clause of a fast loop counts.
use Rattle.std.specs.Prelude.{[], ◌∷◌, ◌++◌}
use Rattle.std.specs.declared.option.Option.{Option}
use Rattle.std.specs.declared.option.Option.TheVariants.{None, Some}
use Rattle.dy_term.specs.declared.term.Limit.{Limit}
use Rattle.dy_code.specs.Fetching.{Push, Save, Restore}
use Rattle.dy_lowered.specs.Flat.{Code, Plain, one}
use Rattle.dy_lowered.specs.Turns.{Amount, Known, Given, Counter, stepping, up_to, meeting}
use Rattle.dy_lowered.specs.Turns.{integer, raised}
use Rattle.dy_lower_turns.specs.ClauseCode.{bounded}
use Rattle.dy_lower_turns.specs.declared.counting.Counting.{Counting}
use Rattle.dy_lower_turns.specs.declared.counting.Counting.TheVariants as ways

-- where this evaluates the first number, and this the bound where it is not known
abbrev pub seen_counting : Counting → Code → Code → Counter
seen_counting (ways.Stepping limit step) start given = stepping start (bounded limit given) step
seen_counting (ways.UpTo bound) start given = up_to start bound
seen_counting ways.Meeting start given = meeting start given

-- the bound, where it is not known, while the first number waits
abbrev pub hidden_starting : Option (Limit × Amount) → Code
hidden_starting None = []
hidden_starting (Some (limit, Known bound)) = []
hidden_starting (Some (limit, Given code)) =
    Plain Save ∷ (integer code ++ (Plain Push ∷ one Restore))

-- what is done with the bound behind that
abbrev pub raised_for : Counting → Code
raised_for ways.Meeting = raised
raised_for way = []
