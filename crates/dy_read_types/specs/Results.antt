-- The results of methods, as the reader gives them.
use Rattle.std.specs.Prelude.{◌≡◌, ◌≤◌, ℕ, max, ⊤, List, [], ◌∷◌, Option, Some, None, option_map}
use Rattle.dy_tree.specs.declared.variables.Results.{Results}
use Rattle.dy_tree.specs.Fragments.{SeenFragment, seen_fragments}
use Rattle.dy_rules.specs.SeenTypes.{seen_results}
use Rattle.dy_rules.specs.Types.{VariableTree, ResultTree, several_results}
use Rattle.dy_rules.specs.Cutting.{Ending}
use Rattle.dy_rules.specs.Depth.{variables_depth, given_depth, results_depth}
use Rattle.dy_rules.specs.Fragments.{items_of}
use Rattle.dy_rules.specs.Signatures as signatures
use Rattle.dy_rules.specs.Signatures.{several_given, give_items}
use Rattle.dy_rules_depth.specs.Changes.{changed_results}
use Rattle.dy_rules_depth.specs.ReaderChanges.{changed_given}
use Rattle.dy_rules_depth.specs.Capping.{capping, filling}
use Rattle.dy_read_types.specs.declared.results.Given.{Given}
use Rattle.dy_read_types.specs.declared.results.ResultsFront.{ResultsFront}
use Rattle.dy_read_parts.specs.Nesting.{nesting}
use Rattle.dy_read_types.specs.VariableFronts.{read_variable, read_variables}

abbrev pub read_given : Given → Ending VariableTree VariableTree
read_given given = record
    { parts = read_variables given.variables.items; last = option_map read_variable given.rest }

abbrev pub capped_given : Ending VariableTree VariableTree → Ending VariableTree VariableTree
capped_given given = changed_given capping given

abbrev pub read_results : Results → ResultTree
read_results form = changed_results filling (seen_results form)

abbrev pub capped_results : ResultTree → ResultTree
capped_results results = changed_results capping results

abbrev pub seen_front : ResultsFront → signatures.ResultsFront
seen_front front = record {
  results = option_map read_results front.results;
  rest = items_of (seen_fragments front.rest.now);
}

abbrev pub capped_front : signatures.ResultsFront → signatures.ResultsFront
capped_front front = record { results = option_map capped_results front.results; rest = front.rest }

-- the results that stand between brackets
abbrev pub several_in : List SeenFragment → Option ResultTree
several_in [] = Some (several_results [] None)
several_in (first ∷ rest) = option_map several_given (give_items (items_of (first ∷ rest)))

-- how deep they are with what was read before
abbrev pub GivenDepth : ℕ → ℕ → Option Given → Type 0
GivenDepth old new None = ⊤
GivenDepth old new (Some given) =
    new ≡ max old (max (variables_depth (read_variables given.variables.items))
    (given_depth (option_map read_variable given.rest)))

abbrev pub ResultsDepth : ℕ → ℕ → Option Results → Type 0
ResultsDepth old new None = ⊤
ResultsDepth old new (Some results) = new ≡ max old (results_depth (Some (read_results results)))

abbrev pub FrontDepth : ℕ → ℕ → Option ResultsFront → Type 0
FrontDepth old new None = ⊤
FrontDepth old new (Some front) =
    new ≡ max old (results_depth (option_map read_results front.results))

-- what stands behind them is nested at most so deep
abbrev pub IsRestWithin : ℕ → Option ResultsFront → Type 0
IsRestWithin n None = ⊤
IsRestWithin n (Some front) = nesting (seen_fragments front.rest.now) ≤ n
