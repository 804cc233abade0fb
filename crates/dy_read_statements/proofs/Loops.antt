-- A `for` of parts to the limit, and of parts that were read.
use Rattle.std.proofs.Common.{◌≡◌, ℕ, max, List, [], ◌∷◌, map, Option, Some, None, option_map, refl, sym, ap, ◌∙◌}
use Rattle.std.specs.Global.{Vec}
use Rattle.dy_tree.specs.declared.token.Token.{Token}
use Rattle.dy_tree.specs.declared.expression.Item.{Item}
use Rattle.dy_tree.specs.declared.expression.Stop.{Stop}
use Rattle.dy_tree.specs.declared.expression.ForClause.{ForClause as FormClause}
use Rattle.dy_tree.specs.declared.splitters.Splitting.TheVariants as splittings
use Rattle.dy_rules.specs.Bodies.{body_items}
use Rattle.dy_rules.specs.Cutting.{Ending, Pieces}
use Rattle.dy_rules.specs.Depth.{body_depth, otherwise_depth}
use Rattle.dy_rules.specs.Loops.{for_of, finally_in}
use Rattle.dy_rules.specs.SeenForms.{seen_for_clause, seen_item}
use Rattle.dy_rules.specs.Trees.{Tree, ForClause, for_clauses_of, StopTree, stop_of, ItemTree, Otherwise, no_otherwise, otherwise, for_tree, body_of, MaybeStop}
use Rattle.dy_rules_depth.specs.Changes.{changed_for, changed_for_clauses, changed_stop, changed_item, changed_otherwise}
use Rattle.dy_rules_depth.specs.ReaderChanges.{changed_loop}
use Rattle.dy_rules_depth.specs.Capping.{capped, capping, filling}
use Rattle.dy_rules_depth.proofs.LoopsSame.{for_of_same}
use Rattle.dy_rules_depth.proofs.Options.{map_twice}
use Rattle.dy_rules_depth.proofs.Rows.{row_body, row_for_clauses}
use Rattle.dy_rules_depth.proofs.Twice.{loop_twice, item_twice, body_twice}
use Rattle.dy_read_arms.specs.BodyDepths.{BodyDepth}
use Rattle.dy_read_statements.specs.FilledInside.{filled_inside}
use Rattle.dy_rules.specs.Held.{held_clauses, held_body, held_last}
use Rattle.dy_read_statements.specs.LoopHeads.{read_head, head_depth, HeadDepth}
use Rattle.dy_read_statements.specs.Loops.{read_last, seen_stop, LoopDepth, LastDepth, loop_made, loop_at}
use Rattle.dy_read_arms.specs.ReadBodies.{read_items}
use Rattle.dy_read_statements.specs.ReadLoops.{read_for, read_fors, read_stop}
use Rattle.dy_read_statements.specs.declared.loop_head.ForHead.{ForHead}
use Rattle.dy_read_arms.proofs.Maxima.{max_assoc, max_zero}
use Rattle.dy_read_statements.specs.declared.loop_nodes.Finally.{Finally}

otherwise_twice : (last : Otherwise) → changed_otherwise capping (changed_otherwise capping last) ≡ changed_otherwise capping last
otherwise_twice no_otherwise = refl
otherwise_twice (otherwise body) = ap otherwise (body_twice body)

pub loop_capped : (word : Token) (head : Option (Ending ForClause StopTree)) (trees : Option (List ItemTree)) (last : Option Otherwise)
    → option_map capped (loop_made word (option_map (changed_loop capping) head) (option_map (map (changed_item capping)) trees) (option_map (changed_otherwise capping) last)) ≡ option_map capped (loop_made word head trees last)
loop_capped word None trees last = refl
loop_capped word (Some head) None last = refl
loop_capped word (Some head) (Some trees) None = refl
loop_capped word (Some head) (Some trees) (Some last) =
    ap Some (for_of_same word (changed_loop capping head) head (loop_twice head) (map (changed_item capping) trees) trees (map_twice (changed_item capping) item_twice trees) (changed_otherwise capping last) last (otherwise_twice last))

-- the parts that were read, with what stands behind the head cut into pieces
pub loop_found : (word : Token) (pieces cuts : Pieces) (head read : Option (Ending ForClause StopTree)) (trees : Option (List ItemTree)) (last : Option Otherwise) → pieces ≡ cuts → read ≡ option_map (changed_loop capping) head → trees ≡ option_map (map (changed_item capping)) (body_items splittings.LastPart pieces.first)
    → last ≡ option_map (changed_otherwise capping) (finally_in pieces.others) → option_map capped (loop_made word read trees last) ≡ option_map capped (loop_at word head cuts)
loop_found word pieces cuts head read trees last same e f g =
    ap (λ (it : Option (Ending ForClause StopTree)). option_map capped (loop_made word it trees last)) e
    ∙ ap (λ (it : Option (List ItemTree)). option_map capped (loop_made word (option_map (changed_loop capping) head) it last)) f
    ∙ ap (λ (it : Option Otherwise). option_map capped (loop_made word (option_map (changed_loop capping) head) (option_map (map (changed_item capping)) (body_items splittings.LastPart pieces.first)) it)) g
    ∙ loop_capped word head (body_items splittings.LastPart pieces.first) (finally_in pieces.others)
    ∙ ap (λ (it : Pieces). option_map capped (loop_at word head it)) same

-- what a `for` in memory is read as

fors_filled : (clauses : List FormClause) → map (changed_for filling) (map seen_for_clause clauses) ≡ read_fors clauses
fors_filled [] = refl
fors_filled (first ∷ rest) = ap (λ (others : List ForClause). read_for first ∷ others) (fors_filled rest)

clauses_filled : (clauses : Vec FormClause) → changed_for_clauses filling (held_clauses clauses) ≡ for_clauses_of (read_fors clauses.items)
clauses_filled clauses = row_for_clauses filling (map seen_for_clause clauses.items) ∙ ap for_clauses_of (fors_filled clauses.items)

stop_filled : (stop : Option Stop) → changed_stop filling (seen_stop stop) ≡ stop_of (option_map read_stop stop)
stop_filled None = refl
stop_filled (Some stop) = refl

last_filled : (last : Option (Vec Item)) → changed_otherwise filling (held_last last) ≡ read_last (record { body = last })
last_filled None = refl
last_filled (Some body) = ap otherwise (row_body filling (map seen_item body.items))

pub loop_filled : (word : Token) (head : ForHead) (body : Vec Item) (last : Finally)
    → filled_inside (for_tree word (held_clauses head.clauses) (seen_stop head.stop) (held_body body) (held_last last.body)) ≡ for_of word (read_head head) (read_items body) (read_last last)
loop_filled word head body last = cc (clauses_filled head.clauses, stop_filled head.stop, row_body filling (map seen_item body.items), last_filled last.body)

-- what was put together in memory
pub loop_within : (tree : Tree) (word copied : Token) (head : ForHead) (stop : MaybeStop) (body : Vec Item) (last : Finally) → tree ≡ for_tree copied (held_clauses head.clauses) stop (held_body body) (held_last last.body) → copied ≡ word → stop ≡ seen_stop head.stop
    → filled_inside tree ≡ for_of word (read_head head) (read_items body) (read_last last)
loop_within tree word copied head stop body last e same ends =
    ap filled_inside (e ∙ ap (λ (token : Token). for_tree token (held_clauses head.clauses) stop (held_body body) (held_last last.body)) same ∙ ap (λ (ended : MaybeStop). for_tree word (held_clauses head.clauses) ended (held_body body) (held_last last.body)) ends)
    ∙ loop_filled word head body last

-- how deep the parts are
pub parts_deep : (first second third : ℕ) (head : Option ForHead) (body : Option (Vec Item)) (last : Option Finally) → HeadDepth 0 first head → BodyDepth first second body → LastDepth second third last → LoopDepth third head body last
parts_deep first second third None body last e f g = tt
parts_deep first second third (Some head) None last e f g = tt
parts_deep first second third (Some head) (Some body) None e f g = tt
parts_deep first second third (Some head) (Some body) (Some last) e f g =
    let inner = body_depth (body_of (read_items body)) in
    let end = otherwise_depth (read_last last) in
    g ∙ ap (λ (n : ℕ). max n end) f ∙ max_assoc first inner end ∙ ap (λ (n : ℕ). max n (max inner end)) (e ∙ sym (max_zero (head_depth (read_head head))))
