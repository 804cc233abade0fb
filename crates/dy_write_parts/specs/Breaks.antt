-- Marks between two kinds of parts, where there are both.
use Rattle.std.specs.Prelude.{List, [], ◌∷◌}
use Rattle.dy_tree.specs.Fragments.{SeenFragment}
use Rattle.dy_rules.specs.Marks.{comma_mark, semicolon_mark}
use Rattle.dy_rules.specs.Trees.{ForClauses, no_for_clause, for_clause_and, MaybeStop, no_stop}
use Rattle.dy_rules.specs.Trees.{a_stop, Arms, no_arm, arm_and, Otherwise, no_otherwise, otherwise}

-- what stands between the arms and what is evaluated otherwise
abbrev pub choice_break : Arms → Otherwise → List SeenFragment
choice_break no_arm last = []
choice_break (arm_and first rest) no_otherwise = []
choice_break (arm_and first rest) (otherwise body) = semicolon_mark ∷ []

-- what stands between the clauses of a loop and the test that ends it
abbrev pub clause_break : ForClauses → MaybeStop → List SeenFragment
clause_break no_for_clause stop = []
clause_break (for_clause_and first rest) no_stop = []
clause_break (for_clause_and first rest) (a_stop key test) = comma_mark ∷ []
