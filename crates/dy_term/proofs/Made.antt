-- Statements that are made from their parts, as the lists of the parts.
use Rattle.std.proofs.Common.{◌≡◌, List, ◌∷◌, map, refl, ap, ◌∙◌, rules}
use Rattle.std.specs.Prelude.{Bool, Option, Some, None, option_map}
use Rattle.std.specs.declared.vec.Vec.{Vec}
use Rattle.std.specs.declared.boxed.Box.{Box}
use Rattle.std.specs.declared.alloc.Global.{Global}
use Rattle.dy_tree.specs.declared.token.Token.{Token}
use Rattle.dy_term.specs.declared.term.Limit.{Limit}
use Rattle.dy_term.specs.declared.draft.DraftType.{DraftType}
use Rattle.dy_term.specs.declared.draft.DraftType.TheViews.{the_lemmas as type_lemmas}
use Rattle.dy_term.specs.declared.draft.DraftType.TheVariants as types
use Rattle.dy_term.specs.declared.draft.DraftTerm.{DraftTerm, Row_of-DraftArm, end_of-DraftArm, more_of-DraftArm, items-the_row-DraftArm, Row_of-DraftForClause, end_of-DraftForClause, more_of-DraftForClause, items-the_row-DraftForClause, Held-DraftTerm-Select-1, DraftTerm-Select-1-None', DraftTerm-Select-1-Some', view-DraftTerm-Select-1, Held-DraftFor-test, DraftFor-test-None', DraftFor-test-Some', view-DraftFor-test, Held-DraftForClause-From-4, DraftForClause-From-4-None', DraftForClause-From-4-Some', view-DraftForClause-From-4}
use Rattle.dy_term.specs.declared.draft.DraftTerm.TheVariants as terms
use Rattle.dy_term.specs.declared.draft.DraftArm.{DraftArm}
use Rattle.dy_term.specs.declared.draft.DraftItem.{Row_of-DraftItem-LetMethods-0-2, end_of-DraftItem-LetMethods-0-2, more_of-DraftItem-LetMethods-0-2, items-the_row-DraftItem-LetMethods-0-2}
use Rattle.dy_term.specs.declared.draft.DraftItem.TheVariants as items
use Rattle.dy_term.specs.declared.draft.DraftLambda.{DraftLambda}
use Rattle.dy_term.specs.declared.draft.DraftFor.{DraftFor}
use Rattle.dy_term.specs.declared.draft.DraftForClause.{DraftForClause, Held-DraftForClause-From-3, DraftForClause-From-3-None', DraftForClause-From-3-Some', view-DraftForClause-From-3}
use Rattle.dy_term.specs.declared.draft.DraftForClause.TheVariants as clauses
use Rattle.dy_term.specs.declared.draft.DraftForClause.TheViews.{the_lemmas}
use Rattle.dy_term.specs.declared.draft.DraftBlock.{DraftBlock, DraftBlock', out-DraftBlock, Row_of-DraftBlockClause, end_of-DraftBlockClause, more_of-DraftBlockClause, items-the_row-DraftBlockClause}
use Rattle.dy_term.specs.declared.draft.DraftBlockClause.{DraftBlockClause}
use Rattle.dy_term.specs.Types.{union, types_of, seen_type, seen_params, seen_results}
use Rattle.dy_term.specs.Drafts.{Core, MaybeCore, nothing, just, CoreArms, arm_and, arms_of, CoreClauses, clause_and, clauses_of, CoreCatches, catch_and, catches_of, CoreMethods, method_and, methods_of, values, select, for, method, block, let_methods, from_clause, cores_of, seen_term, seen_block, seen_maybe, seen_step, seen_arms, seen_arm, seen_clauses, seen_clause, seen_limit, seen_bound, seen_test, seen_ending, seen_catches, seen_catch, seen_methods, seen_method, seen_lambda, seen_item, seen_option}
use Rattle.dy_term.proofs.Parts.{types_items, terms_items}

pub seen_union : (word : Token) (inner : Vec DraftType Global) → seen_type (types.Union word inner) ≡ union word (types_of (map seen_type inner.items))
seen_union word inner = search (rules, type_lemmas, types_items)

pub seen_values : (inner : Vec DraftTerm Global) → seen_term (terms.Values inner) ≡ values (cores_of (map seen_term inner.items))
seen_values inner = search (rules, the_lemmas, terms_items)

pub seen_closure : (found : Box DraftLambda Global) → seen_term (terms.Method found) ≡ method (seen_lambda found.value)
seen_closure found = search (rules, the_lemmas, terms_items)

-- a term in a box
abbrev pub boxed_option : Option (Box DraftTerm Global) → MaybeCore
boxed_option None = nothing
boxed_option (Some kept) = just (seen_term kept.value)

pub boxed_seen : (term : Option (Box DraftTerm Global)) → boxed_option term ≡ seen_option (option_map (λ kept. kept.value) term)
boxed_seen None = refl
boxed_seen (Some kept) = refl

maybe_held : (held : Held-DraftTerm-Select-1) → seen_maybe held ≡ boxed_option (view-DraftTerm-Select-1 held)
maybe_held DraftTerm-Select-1-None' = refl
maybe_held (DraftTerm-Select-1-Some' p term) = refl

step_held : (held : Held-DraftForClause-From-4) → seen_step held ≡ seen_option (view-DraftForClause-From-4 held)
step_held DraftForClause-From-4-None' = refl
step_held (DraftForClause-From-4-Some' term) = refl

bound_held : (held : Held-DraftForClause-From-3) → seen_limit held ≡ seen_bound (view-DraftForClause-From-3 held)
bound_held DraftForClause-From-3-None' = refl
bound_held (DraftForClause-From-3-Some' limit bound) = refl

ending_held : (held : Held-DraftFor-test) → seen_test held ≡ seen_ending (view-DraftFor-test held)
ending_held DraftFor-test-None' = refl
ending_held (DraftFor-test-Some' ends test) = refl

arms_more : {n : _} (shape : _) (keys : _) (inner : _) (rest : Row_of-DraftArm n) → seen_arms rest ≡ arms_of (map seen_arm (items-the_row-DraftArm n rest))
    → seen_arms (more_of-DraftArm shape keys inner rest) ≡ arms_of (map seen_arm (items-the_row-DraftArm _ (more_of-DraftArm shape keys inner rest)))
arms_more shape keys inner rest same = search (rules, the_lemmas, terms_items, same)

arms_items : {m : _} (row : Row_of-DraftArm m) → seen_arms row ≡ arms_of (map seen_arm (items-the_row-DraftArm m row))
arms_items end_of-DraftArm = refl
arms_items (more_of-DraftArm shape keys inner rest) = arms_more shape keys inner rest (arms_items rest)

pub seen_select : (value : Box DraftTerm Global) (test : Option (Box DraftTerm Global)) (arms : Vec DraftArm Global) (last : Option (Box DraftTerm Global)) → seen_term (terms.Select value test arms last) ≡ select (seen_term value.value) (boxed_option test) (arms_of (map seen_arm arms.items)) (boxed_option last)
seen_select value test arms last = search (rules, the_lemmas, maybe_held, arms_items)

clauses_items : {m : _} (row : Row_of-DraftForClause m) → seen_clauses row ≡ clauses_of (map seen_clause (items-the_row-DraftForClause m row))
clauses_items end_of-DraftForClause = refl
clauses_items (more_of-DraftForClause first rest) = ap (λ (others : CoreClauses). clause_and (seen_clause first) others) (clauses_items rest)

pub seen_for : (row : Box DraftFor Global) → seen_term (terms.For row) ≡ for (clauses_of (map seen_clause row.value.clauses.items)) (seen_ending row.value.test) (seen_term row.value.body) (seen_option row.value.finally)
seen_for row = search (rules, the_lemmas, clauses_items, ending_held, step_held)

pub seen_from : (variable : Token) (declared : DraftType) (start : DraftTerm) (limit : Option (Limit × DraftTerm)) (step : Option DraftTerm) → seen_clause (clauses.From variable declared start limit step) ≡ from_clause variable (seen_type declared) (seen_term start) (seen_bound limit) (seen_option step)
seen_from variable declared start limit step = search (rules, the_lemmas, bound_held, step_held)

catches_items : {m : _} (row : Row_of-DraftBlockClause m) → seen_catches row ≡ catches_of (map seen_catch (items-the_row-DraftBlockClause m row))
catches_items end_of-DraftBlockClause = refl
catches_items (more_of-DraftBlockClause variable condition inner rest) = ap (λ (others : CoreCatches). catch_and variable (seen_type condition) (seen_term inner) others) (catches_items rest)

pub block_row : (row : DraftBlock) → seen_block row ≡ block (out-DraftBlock row).exit (seen_term (out-DraftBlock row).body) (seen_option (out-DraftBlock row).afterwards) (seen_option (out-DraftBlock row).cleanup) (catches_of (map seen_catch (out-DraftBlock row).clauses.items))
block_row (DraftBlock' exit inner afterwards cleanup shape found) = search (rules, the_lemmas, step_held, catches_items)

pub seen_boxed_block : (row : Box DraftBlock Global) → seen_term (terms.Block row) ≡ seen_block row.value
seen_boxed_block row = search (rules, the_lemmas)

methods_more : {n : _} (token : Token) (params : _) (shape : _) (defaults : _) (inner : _) (results : _) (rest : Row_of-DraftItem-LetMethods-0-2 n) → seen_methods rest ≡ methods_of (map seen_method (items-the_row-DraftItem-LetMethods-0-2 n rest))
    → seen_methods (more_of-DraftItem-LetMethods-0-2 token params shape defaults inner results rest) ≡ methods_of (map seen_method (items-the_row-DraftItem-LetMethods-0-2 _ (more_of-DraftItem-LetMethods-0-2 token params shape defaults inner results rest)))
methods_more token params shape defaults inner results rest same = search (rules, the_lemmas, terms_items, same)

methods_items : {m : _} (row : Row_of-DraftItem-LetMethods-0-2 m) → seen_methods row ≡ methods_of (map seen_method (items-the_row-DraftItem-LetMethods-0-2 m row))
methods_items end_of-DraftItem-LetMethods-0-2 = refl
methods_items (more_of-DraftItem-LetMethods-0-2 token params shape defaults inner results rest) = methods_more token params shape defaults inner results rest (methods_items rest)

pub seen_local : (found : Vec (Token × DraftLambda) Global) → seen_item (items.LetMethods found) ≡ let_methods (methods_of (map seen_method found.items))
seen_local found = search (rules, the_lemmas, methods_items)
