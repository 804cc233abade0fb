-- What a call answers, from what the function on lists gives.
use Rattle.std.proofs.Common.{◌≡◌, ◌≤◌, List, Result, Ok, Err}
use Rattle.dy_base.specs.declared.fault.Fault.{Fault}
use Rattle.dy_base.specs.declared.fault.Refusal.{Refusal}
use Rattle.dy_base.specs.declared.fault.Refusal.TheVariants as refusals
use Rattle.dy_tree.specs.declared.token.Token.{Token}
use Rattle.dy_tree.specs.declared.words.Words.{Words}
use Rattle.dy_tree.specs.declared.fragment.Fragment.{Fragment}
use Rattle.dy_tree.specs.Fragments.{SeenFragment, seen_fragments}
use Rattle.dy_fragment.specs.Answers.{IsGrouping, GivesTrees, Refuses}
use Rattle.dy_fragment.specs.Faults.{Refused}
use Rattle.dy_fragment.specs.Groups.{Grouped, depth}
use Rattle.dy_fragment.specs.Steps.{Grouping, Gives, group_of}
use Rattle.dy_fragment.proofs.Refusing.{refused}
use Rattle.dy_fragment.proofs.Telling.{determined}
use Rattle.dy_fragment.proofs.Verdicts.{given_all, given_grouped}

same_trees : (r : Grouping) (fs gs : List SeenFragment) → r ≡ Ok fs → r ≡ Ok gs → fs ≡ gs
same_trees r fs gs d e = cc

same_fault : (r : Grouping) (f g : Fault) → r ≡ Err f → r ≡ Err g → f ≡ g
same_fault r f g d e = cc

apart : (r : Grouping) (fs : List SeenFragment) (f : Fault) → r ≡ Ok fs → r ≡ Err f → ⊥
apart r fs f d e = absurd cc

module _ (words : Words) (tokens : List Token) where
  pub is_grouping : (r : Result (List Fragment) Refusal) → Gives seen_fragments r (group_of words tokens) → IsGrouping words tokens r
  is_grouping (Ok fragments) e = given_grouped 200 words tokens (seen_fragments fragments) e
  is_grouping (Err (refusals.Fault fault)) e = refused 200 words tokens fault e
  is_grouping (Err refusals.Memory) e = tt

  pub gives_trees : (r : Result (List Fragment) Refusal) → Gives seen_fragments r (group_of words tokens)
      → (trees : List SeenFragment) → Grouped words tokens trees → depth trees ≤ 200 → GivesTrees r trees
  gives_trees (Ok fragments) e trees grouped fits = same_trees (group_of words tokens) (seen_fragments fragments) trees e (given_all 200 words tokens trees grouped fits)
  gives_trees (Err (refusals.Fault fault)) e trees grouped fits = absurd (apart (group_of words tokens) trees fault (given_all 200 words tokens trees grouped fits) e)
  gives_trees (Err refusals.Memory) e trees grouped fits = tt

  pub gives_fault : (r : Result (List Fragment) Refusal) → Gives seen_fragments r (group_of words tokens)
      → (fault : Fault) → Refused 200 words tokens fault → Refuses r fault
  gives_fault (Ok fragments) e fault is = absurd (apart (group_of words tokens) (seen_fragments fragments) fault e (determined 200 words tokens fault is))
  gives_fault (Err (refusals.Fault other)) e fault is = same_fault (group_of words tokens) other fault e (determined 200 words tokens fault is)
  gives_fault (Err refusals.Memory) e fault is = tt
