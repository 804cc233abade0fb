-- Parts of what expressions and statements are written as.
use Rattle.std.specs.Prelude.{ℕ, List, [], ◌∷◌, ◌++◌}
use Rattle.dy_tree.specs.Fragments.{SeenFragment, one}
use Rattle.dy_rules.specs.Marks.{in_round, assigns_mark, dot_mark, square_group, semicolon_mark}
use Rattle.dy_rules.specs.Marks.{word_mark}
use Rattle.dy_rules.specs.Trees.{Tree, assignment, operation, call, element, member, begin_tree}
use Rattle.dy_rules.specs.Trees.{if_tree, guarded, case_tree, select_tree, block_tree, for_tree}
use Rattle.dy_rules.specs.Trees.{method_tree, Otherwise, no_otherwise, otherwise}
use Rattle.dy_rules.specs.Writing.{written, written_operand, written_arguments, written_body}
use Rattle.dy_rules.specs.Writing.{written_signature, written_test, written_exit, written_for}
use Rattle.dy_rules.specs.Writing.{written_stop, joined_clauses, written_alternatives}
use Rattle.dy_rules.specs.Writing.{written_otherwise, written_arms, written_remains, joined_choices}
use Rattle.dy_rules.specs.Writing.{written_clauses, written_finally}

-- what stands behind the first operand
abbrev pub behind_first : Tree → List SeenFragment
behind_first (assignment place assigned) = assigns_mark ∷ written_operand assigned
behind_first (operation precedence left operator right) = one operator ∷ written_operand right
behind_first (call function arguments) = in_round (written_arguments arguments) ∷ []
behind_first (element object opener index) = square_group opener (written index) ∷ []
behind_first (member object token) = dot_mark ∷ one token ∷ []
behind_first _ = []

-- what stands before the body of a statement
abbrev pub before_body : Tree → List SeenFragment
before_body (if_tree word test body others last) = in_round (written test) ∷ []
before_body (guarded guard word test body) = in_round (written test) ∷ []
before_body (select_tree word selected test arms last) =
    in_round (written selected ++ written_test test) ∷ []
before_body (block_tree word exit body clauses) = in_round (written_exit exit) ∷ []
before_body (for_tree word clauses stop body last) =
    in_round (joined_clauses clauses stop (written_for clauses) (written_stop stop)) ∷ []
before_body (method_tree word signature body) = written_signature signature ++ semicolon_mark ∷ []
before_body _ = []

-- the body of a statement
abbrev pub main_body : Tree → List SeenFragment
main_body (begin_tree word body) = written_body body
main_body (if_tree word test body others last) = written_body body
main_body (guarded guard word test body) = written_body body
main_body (block_tree word exit body clauses) = written_body body
main_body (for_tree word clauses stop body last) = written_body body
main_body (method_tree word signature body) = written_body body
main_body _ = []

-- what stands behind the body of a statement
abbrev pub behind_body : Tree → List SeenFragment
behind_body (if_tree word test body others last) =
    written_alternatives others ++ written_otherwise last
behind_body (case_tree word arms last) =
    joined_choices arms last (written_arms arms) (written_remains last)
behind_body (select_tree word selected test arms last) =
    joined_choices arms last (written_arms arms) (written_remains last)
behind_body (block_tree word exit body clauses) = written_clauses clauses
behind_body (for_tree word clauses stop body last) = written_finally last
behind_body _ = []

-- the last body of a statement, behind its word
abbrev pub last_body : List ℕ → Otherwise → List SeenFragment
last_body text no_otherwise = []
last_body text (otherwise body) = word_mark text ∷ written_body body
