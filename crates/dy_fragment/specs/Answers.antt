-- What a call that groups tokens answers.
use Rattle.std.specs.Prelude.{◌≡◌, ◌≤◌, List, Result, Ok, Err}
use Rattle.dy_base.specs.declared.fault.Fault.{Fault}
use Rattle.dy_base.specs.declared.fault.Refusal.{Refusal}
use Rattle.dy_base.specs.declared.fault.Refusal.TheVariants as refusals
use Rattle.dy_tree.specs.declared.token.Token.{Token}
use Rattle.dy_tree.specs.declared.words.Words.{Words}
use Rattle.dy_tree.specs.declared.fragment.Fragment.{Fragment}
use Rattle.dy_tree.specs.Fragments.{SeenFragment, seen_fragments}
use Rattle.dy_fragment.specs.Groups.{Grouped, depth}
use Rattle.dy_fragment.specs.Faults.{Refused}

-- what a call gave are the trees of the tokens, at most 200 groups deep, or their first fault; want
-- of memory says nothing
abbrev pub IsGrouping : Words → List Token → Result (List Fragment) Refusal → Type 0
IsGrouping words tokens (Ok fragments) = Grouped words tokens (seen_fragments fragments)
    × (depth (seen_fragments fragments) ≤ 200)
IsGrouping words tokens (Err (refusals.Fault fault)) = Refused 200 words tokens fault
IsGrouping words tokens (Err refusals.Memory) = Unit {0}

-- a call gave these trees and nothing else
abbrev pub GivesTrees : Result (List Fragment) Refusal → List SeenFragment → Type 0
GivesTrees (Ok fragments) trees = seen_fragments fragments ≡ trees
GivesTrees (Err (refusals.Fault fault)) trees = ⊥
GivesTrees (Err refusals.Memory) trees = Unit {0}

-- a call refused with this fault and nothing else
abbrev pub Refuses : Result (List Fragment) Refusal → Fault → Type 0
Refuses (Ok fragments) fault = ⊥
Refuses (Err (refusals.Fault other)) fault = other ≡ fault
Refuses (Err refusals.Memory) fault = Unit {0}
