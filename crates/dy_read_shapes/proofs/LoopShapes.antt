-- The parts of a clause of a `for` are the same to the limit as what the definitions make of them.
use Rattle.std.proofs.Common.{◌≡◌, ℕ, List, ◌∷◌, map, Option, Some, None, option_map, option_and_then, refl, subst}
use Rattle.std.specs.List.{All}
use Rattle.std.proofs.lemmas.List.Elements.{All-head, All-tail}
use Rattle.dy_tree.specs.declared.token.Token.{Token}
use Rattle.dy_rules.specs.Types.{VariableTree}
use Rattle.dy_rules.specs.Trees.{Tree, ItemTree}
use Rattle.dy_rules.specs.Loops.{Range, step_of, limit_with, from_with, in_of, finally_of}
use Rattle.dy_rules_depth.specs.Changes.{changed_for, changed_item, changed_otherwise, changed_variable}
use Rattle.dy_rules_depth.specs.ReaderChanges.{changed_range}
use Rattle.dy_rules_depth.specs.Capping.{capped, capping}
use Rattle.dy_rules_depth.proofs.Rows.{row_body}
use Rattle.dy_read_parts.specs.declared.pieces.Piece.{Piece}
use Rattle.dy_read_parts.specs.Cut.{IsPieceWithin}
use Rattle.dy_read_shapes.specs.LoopShapes.{next_with}

pub step_capped : (tree : Option Tree) → option_map step_of (option_map capped tree) ≡ option_map (changed_range capping) (option_map step_of tree)
step_capped None = refl
step_capped (Some tree) = refl

pub limit_capped : (word : Token) (rest : Option Range) (bound : Option Tree) → option_and_then (limit_with word (option_map (changed_range capping) rest)) (option_map capped bound) ≡ option_map (changed_range capping) (option_and_then (limit_with word rest) bound)
limit_capped word rest None = refl
limit_capped word None (Some bound) = refl
limit_capped word (Some rest) (Some bound) = refl

pub from_capped : (variable : VariableTree) (range : Option Range) (start : Option Tree) → option_and_then (from_with (changed_variable capping variable) (option_map (changed_range capping) range)) (option_map capped start) ≡ option_map (changed_for capping) (option_and_then (from_with variable range) start)
from_capped variable range None = refl
from_capped variable None (Some start) = refl
from_capped variable (Some range) (Some start) = refl

pub then_capped : (variable : VariableTree) (next first : Option Tree) → option_and_then (next_with (changed_variable capping variable) (option_map capped next)) (option_map capped first) ≡ option_map (changed_for capping) (option_and_then (next_with variable next) first)
then_capped variable next None = refl
then_capped variable None (Some first) = refl
then_capped variable (Some next) (Some first) = refl

pub in_capped : (variable : VariableTree) (collection : Option Tree) → option_map (in_of (changed_variable capping variable)) (option_map capped collection) ≡ option_map (changed_for capping) (option_map (in_of variable) collection)
in_capped variable None = refl
in_capped variable (Some collection) = refl

pub finally_capped : (trees : Option (List ItemTree)) → option_map finally_of (option_map (map (changed_item capping)) trees) ≡ option_map (changed_otherwise capping) (option_map finally_of trees)
finally_capped None = refl
finally_capped (Some trees) = rw (row_body capping trees) refl

-- pieces that are nested at most so deep
pub first_within : (n : ℕ) (pieces others : List Piece) (first : Piece) → pieces ≡ first ∷ others → All (IsPieceWithin n) pieces → IsPieceWithin n first × All (IsPieceWithin n) others
first_within n pieces others first e all =
    let more : All (IsPieceWithin n) (first ∷ others) = subst (λ (list : List Piece). All (IsPieceWithin n) list) e all in
    (All-head (IsPieceWithin n) first others more, All-tail (IsPieceWithin n) first others more)
