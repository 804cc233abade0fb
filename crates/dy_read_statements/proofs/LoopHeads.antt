-- The last part of the head of a `for`, to the limit, and how deep a head is with a clause more.
use Rattle.std.proofs.Common.{◌≡◌, ◌==◌, length, false, ℕ, max, List, [], ◌∷◌, ◌++◌, Option, Some, None, option_map, refl, ap, ◌∙◌, arith}
use Rattle.std.proofs.lemmas.List.{map-append}
use Rattle.dy_tree.specs.declared.token.Token.{Token}
use Rattle.dy_tree.specs.declared.expression.ForClause.{ForClause as FormClause}
use Rattle.dy_rules.specs.Cutting.{only_part, only_last}
use Rattle.dy_rules.specs.Depth.{for_clause_depth, for_clauses_depth}
use Rattle.dy_rules.specs.Fragments.{items_of}
use Rattle.dy_rules.specs.Loops.{stop_with, for_items}
use Rattle.dy_tree.specs.declared.fragment.Fragment.{Fragment}
use Rattle.dy_tree.specs.Fragments.{seen_fragments}
use Rattle.dy_rules.specs.Trees.{Tree, ForClause, for_clauses_of}
use Rattle.dy_rules_depth.specs.Changes.{changed_for, changed_stop_tree}
use Rattle.dy_rules_depth.specs.ReaderChanges.{changed_ending, changed_loop}
use Rattle.dy_rules_depth.specs.Capping.{capped, capping}
use Rattle.dy_read_statements.specs.LoopHeads.{capped_parts, fors_depth, head_depth}
use Rattle.dy_read_statements.specs.ReadLoops.{read_for, read_fors}

pub stop_capped : (keyword : Token) (test : Option Tree) → option_map (changed_ending (changed_for capping) (changed_stop_tree capping)) (option_map only_last (option_map (stop_with keyword) test)) ≡ option_map only_last (option_map (stop_with keyword) (option_map capped test))
stop_capped keyword None = refl
stop_capped keyword (Some test) = refl

pub clause_capped : (clause : Option ForClause) → option_map (changed_ending (changed_for capping) (changed_stop_tree capping)) (option_map only_part clause) ≡ option_map only_part (option_map (changed_for capping) clause)
clause_capped None = refl
clause_capped (Some clause) = refl

depth_more : (clauses : List ForClause) (clause : ForClause) → for_clauses_depth (for_clauses_of (clauses ++ clause ∷ [])) ≡ max (for_clauses_depth (for_clauses_of clauses)) (for_clause_depth clause)
depth_more [] clause = omega arith
depth_more (first ∷ rest) clause = let more = depth_more rest clause in omega arith

pub fors_more : (before after : List FormClause) (next : FormClause) → after ≡ before ++ next ∷ [] → read_fors after ≡ read_fors before ++ read_for next ∷ []
fors_more before after next more = ap read_fors more ∙ map-append read_for before (next ∷ [])

-- A clause more is as deep as the deepest.
pub fors_deeper : (outer old new : ℕ) (before after : List FormClause) (next : FormClause) → after ≡ before ++ next ∷ [] → old ≡ max outer (fors_depth before) → new ≡ max old (for_clause_depth (read_for next)) → new ≡ max outer (fors_depth after)
fors_deeper outer old new before after next more e f =
    let same : fors_depth after ≡ for_clauses_depth (for_clauses_of (read_fors before ++ read_for next ∷ [])) = ap (λ (list : List ForClause). for_clauses_depth (for_clauses_of list)) (fors_more before after next more) in
    let deep = depth_more (read_fors before) (read_for next) in
    omega arith

-- A head without a test is as deep as its deepest clause.
pub clauses_head : (outer new : ℕ) (clauses : List FormClause) → new ≡ max outer (fors_depth clauses) → new ≡ max outer (head_depth (record { parts = read_fors clauses; last = None }))
clauses_head outer new clauses e = omega arith

-- brackets with something between them
pub some_items : (fragments : List Fragment) → false ≡ (length fragments == 0) → capped_parts (seen_fragments fragments) ≡ option_map (changed_loop capping) (for_items (items_of (seen_fragments fragments)))
some_items [] e = absurd cc
some_items (first ∷ rest) e = refl
