-- The alternatives of an `if`, as the reader holds them.
use Rattle.std.specs.Prelude.{List, [], ◌∷◌, Option, Some, None, option_map, option_and_then}
use Rattle.dy_tree.specs.declared.splitters.Splitting.TheVariants as splittings
use Rattle.dy_tree.specs.declared.splitters.Splitter.{Splitter}
use Rattle.dy_tree.specs.declared.splitters.Splitter.TheVariants as splitters
use Rattle.dy_rules.specs.Bodies.{body_items}
use Rattle.dy_rules.specs.Cutting.{Item, Piece, word_of}
use Rattle.dy_rules.specs.StatementReading.{Others, by_body, if_last}
use Rattle.dy_rules.specs.Trees.{no_otherwise}
use Rattle.dy_read_statements.specs.ReadBranches.{others_of, alternative_items, capped_alternative}
use Rattle.dy_read_statements.specs.ReadBranches.{others_behind}
use Rattle.dy_read_arms.specs.ReadItems.{capped_items}
use Rattle.dy_read_statements.specs.declared.others.Others.{Others as Found}
use Rattle.dy_read_statements.specs.declared.branch.Branch.{Branch}
use Rattle.dy_read_statements.specs.declared.branch.Branch.TheVariants as branch

abbrev pub read_others : Found → Others
read_others found = others_of found.alternatives.items found.otherwise

-- which alternative a word begins
abbrev pub branch_of : Splitter → Branch
branch_of splitters.Else = branch.Else
branch_of splitters.Elseif = branch.Elseif
branch_of _ = branch.Absent

-- the alternatives behind a word, with each of them to the limit
abbrev pub capped_other : Branch → List Item → List Piece → Option Others → Option Others
capped_other branch.Else items behind rest =
    if_last behind (option_map by_body
    (option_map capped_items (body_items splittings.Branches items)))
capped_other branch.Elseif items behind rest =
    option_and_then (others_behind rest) (option_map capped_alternative (alternative_items items))
capped_other branch.Absent items behind rest = None

abbrev pub capped_others : List Piece → Option Others
capped_others [] = Some (record { trees = []; last = no_otherwise })
capped_others (piece ∷ behind) =
    capped_other (branch_of (word_of piece.separator)) piece.items behind (capped_others behind)
