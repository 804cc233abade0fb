-- The clauses of a block, one by one.
use Rattle.std.proofs.Common.{◌≡◌, ℕ, List, [], ◌∷◌, ◌++◌, ◌+◌, ◌<◌, length, get_or, map, drop, refl, sym, ap, ◌∙◌, rules}
use Rattle.std.specs.Prelude.{Option, Some, None, option_map}
use Rattle.std.specs.Global.{Vec}
use Rattle.std.proofs.lemmas.List.{drop_more, append_assoc}
use Rattle.dy_tree.specs.declared.token.Token.{Token}
use Rattle.dy_tree.specs.declared.types.TypeForm.{TypeForm}
use Rattle.dy_tree.specs.declared.expression.Argument.TheViews.{the_lemmas}
use Rattle.dy_tree.specs.declared.expression.BlockClause.{BlockClause}
use Rattle.dy_tree.specs.declared.expression.BlockClause.TheVariants as blocks
use Rattle.dy_tree.specs.declared.expression.Item.{Item}
use Rattle.dy_term.specs.Drafts.{Core, CoreCatch, MaybeCore, nothing, just}
use Rattle.dy_rules.specs.SeenTypes.{seen_type}
use Rattle.dy_drafts.specs.Shapes.{type_of}
use Rattle.dy_rules.specs.Trees as source
use Rattle.dy_rules.specs.Trees.{BlockClauses, clause_and, afterwards_clause, cleanup_clause, exception_clause}
use Rattle.dy_rules.specs.SeenForms.{seen_clause}
use Rattle.dy_desugar.specs.Table as table
use Rattle.dy_desugar.specs.Lists.{body_core, block_clauses, own_afterwards, own_cleanup, own_exception}
use Rattle.dy_desugar.proofs.Rows.{body_items}

pub at_afterwards : (body : Vec Item) → own_afterwards (seen_clause (blocks.Afterwards body)) ≡ just (body_core body.items)
at_afterwards body = search (rules, the_lemmas, body_items)

pub at_cleanup : (body : Vec Item) → own_cleanup (seen_clause (blocks.Cleanup body)) ≡ just (body_core body.items)
at_cleanup body = search (rules, the_lemmas, body_items)

pub at_exception : (variable : Option Token) (condition : TypeForm) (body : Vec Item) → own_exception (seen_clause (blocks.Exception variable condition body))
    ≡ Some (record { variable = variable; condition = type_of (seen_type condition); body = body_core body.items })
at_exception variable condition body = search (rules, the_lemmas, body_items)

-- the clause in front of those that are left
clause_left : {Y : Type 0} (f : BlockClauses → Y) (clauses : List BlockClause) (i : ℕ) (clause : BlockClause) → i < length clauses → clause ≡ get_or clauses i clause
    → f (block_clauses (drop i clauses)) ≡ f (clause_and (seen_clause clause) (block_clauses (drop (i + 1) clauses)))
clause_left f clauses i clause lt is = ap (λ left. f (block_clauses left)) (drop_more clauses i clause lt ∙ ap (λ (one : BlockClause). one ∷ drop (i + 1) clauses) (sym is))

after_this : (first : source.BlockClause) (rest : BlockClauses) (term : Core) → own_afterwards first ≡ just term → table.afterwards_of (clause_and first rest) ≡ just term
after_this (afterwards_clause body) rest term found = found
after_this (cleanup_clause body) rest term found = absurd cc
after_this (exception_clause variable condition body) rest term found = absurd cc

after_other : (first : source.BlockClause) (rest : BlockClauses) → own_afterwards first ≡ nothing → table.afterwards_of (clause_and first rest) ≡ table.afterwards_of rest
after_other (afterwards_clause body) rest none = absurd cc
after_other (cleanup_clause body) rest none = refl
after_other (exception_clause variable condition body) rest none = refl

cleans_this : (first : source.BlockClause) (rest : BlockClauses) (term : Core) → own_cleanup first ≡ just term → table.cleanup_of (clause_and first rest) ≡ just term
cleans_this (afterwards_clause body) rest term found = absurd cc
cleans_this (cleanup_clause body) rest term found = found
cleans_this (exception_clause variable condition body) rest term found = absurd cc

cleans_other : (first : source.BlockClause) (rest : BlockClauses) → own_cleanup first ≡ nothing → table.cleanup_of (clause_and first rest) ≡ table.cleanup_of rest
cleans_other (afterwards_clause body) rest none = refl
cleans_other (cleanup_clause body) rest none = absurd cc
cleans_other (exception_clause variable condition body) rest none = refl

catch_this : (first : source.BlockClause) (rest : BlockClauses) (caught : CoreCatch) → own_exception first ≡ Some caught → table.exceptions_of (clause_and first rest) ≡ caught ∷ table.exceptions_of rest
catch_this (afterwards_clause body) rest caught found = absurd cc
catch_this (cleanup_clause body) rest caught found = absurd cc
catch_this (exception_clause variable condition body) rest caught found =
    let same : record { variable = variable; condition = type_of condition; body = table.body_of body } ≡ caught = cc in
    ap (λ (one : CoreCatch). one ∷ table.exceptions_of rest) same

catch_other : (first : source.BlockClause) (rest : BlockClauses) → own_exception first ≡ None → table.exceptions_of (clause_and first rest) ≡ table.exceptions_of rest
catch_other (afterwards_clause body) rest none = refl
catch_other (cleanup_clause body) rest none = refl
catch_other (exception_clause variable condition body) rest none = absurd cc

-- where the clause is the one that is sought, and where it is not
pub afterwards_found : (clauses : List BlockClause) (i : ℕ) (clause : BlockClause) (term : Core) (all : MaybeCore) → i < length clauses → clause ≡ get_or clauses i clause → own_afterwards (seen_clause clause) ≡ just term
    → table.afterwards_of (block_clauses (drop i clauses)) ≡ all → just term ≡ all
afterwards_found clauses i clause term all lt is found same = sym (clause_left table.afterwards_of clauses i clause lt is ∙ after_this (seen_clause clause) (block_clauses (drop (i + 1) clauses)) term found) ∙ same

pub afterwards_passed : (clauses : List BlockClause) (i : ℕ) (clause : BlockClause) (all : MaybeCore) → i < length clauses → clause ≡ get_or clauses i clause → own_afterwards (seen_clause clause) ≡ nothing
    → table.afterwards_of (block_clauses (drop i clauses)) ≡ all → table.afterwards_of (block_clauses (drop (i + 1) clauses)) ≡ all
afterwards_passed clauses i clause all lt is none same = sym (clause_left table.afterwards_of clauses i clause lt is ∙ after_other (seen_clause clause) (block_clauses (drop (i + 1) clauses)) none) ∙ same

pub cleanup_found : (clauses : List BlockClause) (i : ℕ) (clause : BlockClause) (term : Core) (all : MaybeCore) → i < length clauses → clause ≡ get_or clauses i clause → own_cleanup (seen_clause clause) ≡ just term
    → table.cleanup_of (block_clauses (drop i clauses)) ≡ all → just term ≡ all
cleanup_found clauses i clause term all lt is found same = sym (clause_left table.cleanup_of clauses i clause lt is ∙ cleans_this (seen_clause clause) (block_clauses (drop (i + 1) clauses)) term found) ∙ same

pub cleanup_passed : (clauses : List BlockClause) (i : ℕ) (clause : BlockClause) (all : MaybeCore) → i < length clauses → clause ≡ get_or clauses i clause → own_cleanup (seen_clause clause) ≡ nothing
    → table.cleanup_of (block_clauses (drop i clauses)) ≡ all → table.cleanup_of (block_clauses (drop (i + 1) clauses)) ≡ all
cleanup_passed clauses i clause all lt is none same = sym (clause_left table.cleanup_of clauses i clause lt is ∙ cleans_other (seen_clause clause) (block_clauses (drop (i + 1) clauses)) none) ∙ same

pub exception_found : (before : List CoreCatch) (clauses : List BlockClause) (i : ℕ) (clause : BlockClause) (caught : CoreCatch) (all : List CoreCatch) → i < length clauses → clause ≡ get_or clauses i clause → own_exception (seen_clause clause) ≡ Some caught
    → before ++ table.exceptions_of (block_clauses (drop i clauses)) ≡ all → (before ++ caught ∷ []) ++ table.exceptions_of (block_clauses (drop (i + 1) clauses)) ≡ all
exception_found before clauses i clause caught all lt is found same =
    let rest = block_clauses (drop (i + 1) clauses) in
    append_assoc before (caught ∷ []) (table.exceptions_of rest) ∙ ap (λ (more : List CoreCatch). before ++ more) (sym (clause_left table.exceptions_of clauses i clause lt is ∙ catch_this (seen_clause clause) rest caught found)) ∙ same

pub exception_passed : (before : List CoreCatch) (clauses : List BlockClause) (i : ℕ) (clause : BlockClause) (all : List CoreCatch) → i < length clauses → clause ≡ get_or clauses i clause → own_exception (seen_clause clause) ≡ None
    → before ++ table.exceptions_of (block_clauses (drop i clauses)) ≡ all → before ++ table.exceptions_of (block_clauses (drop (i + 1) clauses)) ≡ all
exception_passed before clauses i clause all lt is none same =
    ap (λ (more : List CoreCatch). before ++ more) (sym (clause_left table.exceptions_of clauses i clause lt is ∙ catch_other (seen_clause clause) (block_clauses (drop (i + 1) clauses)) none)) ∙ same
