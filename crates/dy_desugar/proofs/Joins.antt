-- Cores that are made of equal parts.
use Rattle.std.proofs.Common.{◌≡◌, List, ◌∷◌, map, ap, ◌∙◌}
use Rattle.std.specs.Prelude.{Option, Some}
use Rattle.dy_tree.specs.declared.token.Token.{Token}
use Rattle.dy_tree.specs.declared.expression.Expression.{Expression}
use Rattle.dy_tree.specs.declared.expression.Item.{Item}
use Rattle.dy_tree.specs.declared.expression.Parameters.{Parameters}
use Rattle.dy_term.specs.Types.{CoreType}
use Rattle.dy_term.specs.Drafts as core
use Rattle.dy_term.specs.Drafts.{Core, CoreArm, CoreCatch, CoreClause, CoreLambda, CoreLimit, CoreTest, MaybeCore, cond, choice_of, cores_of, arms_of, catches_of, clauses_of}
use Rattle.dy_tree.specs.declared.brackets.Guard.{Guard}
use Rattle.dy_rules.specs.SeenForms.{seen_tree, seen_parameters}
use Rattle.dy_desugar.specs.Table as table
use Rattle.dy_desugar.specs.Table.{core_of, guarded_core}
use Rattle.dy_desugar.specs.Lists.{body_core, parameter_defaults, lambda_core}

-- the core of an expression that is held in a box
pub held_core : (made : Core) (given held : Expression) → made ≡ core_of (seen_tree given) → given ≡ held → made ≡ core_of (seen_tree held)
held_core made given held e f = e ∙ ap (λ (tree : Expression). core_of (seen_tree tree)) f

pub call_same : (f g : Core) (a b : List Core) → f ≡ g → a ≡ b → core.call f (cores_of a) ≡ core.call g (cores_of b)
call_same f g a b e h = ap (λ (x : Core). core.call x (cores_of a)) e ∙ ap (λ (xs : List Core). core.call g (cores_of xs)) h

pub cond_same : (pairs : List (Core × Core)) (test test' body body' last last' : Core) (others : List (Core × Core)) → pairs ≡ (test, body) ∷ others → test ≡ test' → body ≡ body' → last ≡ last'
    → cond (choice_of pairs last) ≡ cond (choice_of ((test', body') ∷ others) last')
cond_same pairs test test' body body' last last' others e t b l =
    ap (λ (ps : List (Core × Core)). cond (choice_of ps last)) e
    ∙ ap (λ (x : Core). cond (choice_of ((x, body) ∷ others) last)) t
    ∙ ap (λ (x : Core). cond (choice_of ((test', x) ∷ others) last)) b
    ∙ ap (λ (x : Core). cond (choice_of ((test', body') ∷ others) x)) l

pub guarded_same : (guard : Guard) (test test' body body' : Core) → test ≡ test' → body ≡ body' → guarded_core guard test body ≡ guarded_core guard test' body'
guarded_same guard test test' body body' t b = ap (λ (x : Core). guarded_core guard x body) t ∙ ap (λ (x : Core). guarded_core guard test' x) b

pub select_same : (value value' : Core) (test test' last last' : MaybeCore) (arms arms' : List CoreArm) → value ≡ value' → test ≡ test' → arms ≡ arms' → last ≡ last'
    → core.select value test (arms_of arms) last ≡ core.select value' test' (arms_of arms') last'
select_same value value' test test' last last' arms arms' v t a l =
    ap (λ (x : Core). core.select x test (arms_of arms) last) v
    ∙ ap (λ (x : MaybeCore). core.select value' x (arms_of arms) last) t
    ∙ ap (λ (xs : List CoreArm). core.select value' test' (arms_of xs) last) a
    ∙ ap (λ (x : MaybeCore). core.select value' test' (arms_of arms') x) l

pub for_same : (clauses clauses' : List CoreClause) (test test' : CoreTest) (body body' : Core) (last last' : MaybeCore) → clauses ≡ clauses' → test ≡ test' → body ≡ body' → last ≡ last'
    → core.for (clauses_of clauses) test body last ≡ core.for (clauses_of clauses') test' body' last'
for_same clauses clauses' test test' body body' last last' c t b l =
    ap (λ (xs : List CoreClause). core.for (clauses_of xs) test body last) c
    ∙ ap (λ (x : CoreTest). core.for (clauses_of clauses') x body last) t
    ∙ ap (λ (x : Core). core.for (clauses_of clauses') test' x last) b
    ∙ ap (λ (x : MaybeCore). core.for (clauses_of clauses') test' body' x) l

pub from_same : (name : Token) (declared : CoreType) (start start' : Core) (limit limit' : CoreLimit) (step step' : MaybeCore) → start ≡ start' → limit ≡ limit' → step ≡ step'
    → core.from_clause name declared start limit step ≡ core.from_clause name declared start' limit' step'
from_same name declared start start' limit limit' step step' s l e =
    ap (λ (x : Core). core.from_clause name declared x limit step) s
    ∙ ap (λ (x : CoreLimit). core.from_clause name declared start' x step) l
    ∙ ap (λ (x : MaybeCore). core.from_clause name declared start' limit' x) e

pub block_same : (exit : Option Token) (body body' : Core) (after after' cleanup cleanup' : MaybeCore) (catches catches' : List CoreCatch) → body ≡ body' → after ≡ after' → cleanup ≡ cleanup' → catches ≡ catches'
    → core.block exit body after cleanup (catches_of catches) ≡ core.block exit body' after' cleanup' (catches_of catches')
block_same exit body body' after after' cleanup cleanup' catches catches' b a c e =
    ap (λ (x : Core). core.block exit x after cleanup (catches_of catches)) b
    ∙ ap (λ (x : MaybeCore). core.block exit body' x cleanup (catches_of catches)) a
    ∙ ap (λ (x : MaybeCore). core.block exit body' after' x (catches_of catches)) c
    ∙ ap (λ (xs : List CoreCatch). core.block exit body' after' cleanup' (catches_of xs)) e

abbrev caught : Option Token → CoreType → Core → CoreCatch
caught variable condition body = record { variable = variable; condition = condition; body = body }

pub catch_same : (variable variable' : Option Token) (condition condition' : CoreType) (body body' : Core) → variable ≡ variable' → condition ≡ condition' → body ≡ body'
    → Some (caught variable condition body) ≡ Some (caught variable' condition' body')
catch_same variable variable' condition condition' body body' v c b =
    ap (λ (x : Option Token). Some (caught x condition body)) v ∙ ap (λ (x : CoreType). Some (caught variable' x body)) c ∙ ap (λ (x : Core). Some (caught variable' condition' x)) b

pub lambda_same : (made : CoreLambda) (first second held : Parameters) (defaults : List Core) (inner : Core) (items : List Item) → made ≡ table.lambda_from (seen_parameters second) defaults inner
    → defaults ≡ parameter_defaults first → inner ≡ body_core items → first ≡ held → second ≡ held → made ≡ lambda_core held items
lambda_same made first second held defaults inner items e d b f s =
    e
    ∙ ap (λ (row : Parameters). table.lambda_from (seen_parameters row) defaults inner) s
    ∙ ap (λ (xs : List Core). table.lambda_from (seen_parameters held) xs inner) (d ∙ ap parameter_defaults f)
    ∙ ap (λ (x : Core). table.lambda_from (seen_parameters held) (parameter_defaults held) x) b
