-- Where locals are bound in terms, variant by variant.
use Rattle.std.proofs.Common.{◌≡◌, ℕ, Bool, List, ◌++◌, map, Option, Some, None, sym, ap, ◌∙◌}
use Rattle.std.specs.Option.{option_map}
use Rattle.dy_base.specs.declared.ids.BindingId.{BindingId}
use Rattle.dy_base.specs.declared.ids.ClassId.{ClassId}
use Rattle.dy_base.specs.declared.ids.GenericId.{GenericId}
use Rattle.dy_term.specs.declared.literal.Literal.{Literal}
use Rattle.dy_term.specs.declared.types.DyType.{DyType}
use Rattle.dy_term.specs.declared.term.Limit.{Limit}
use Rattle.dy_term.specs.declared.term.ForClause.{ForClause, ForClause-F, roll-ForClause}
use Rattle.dy_term.specs.declared.term.ForClause.{map-ForClause, fold-roll-ForClause, Then, In}
use Rattle.dy_term.specs.declared.term.ForClause.{From}
use Rattle.dy_term.specs.declared.term.ForClause.TheVariants.{rolls-Then, rolls-In, rolls-From}
use Rattle.dy_term.specs.declared.term.Item.{Item, Item-F, roll-Item, map-Item, fold-roll-Item, Run}
use Rattle.dy_term.specs.declared.term.Item.{Let, LetMethods, Handler}
use Rattle.dy_term.specs.declared.term.Item.TheVariants.{rolls-Run, rolls-Let, rolls-LetMethods}
use Rattle.dy_term.specs.declared.term.Item.TheVariants.{rolls-Handler}
use Rattle.dy_term.specs.declared.term.Term.{Term, Term-F, roll-Term, map-Term, fold-roll-Term, Lit}
use Rattle.dy_term.specs.declared.term.Term.{Local, Global, ClassName, GenericName, SetLocal}
use Rattle.dy_term.specs.declared.term.Term.{SetGlobal, Call, Site, Cond, And, Or, Select, Body}
use Rattle.dy_term.specs.declared.term.Term.{Loop, For, Method, Block, Op, Next}
use Rattle.dy_term.specs.declared.term.Term.TheVariants.{rolls-Lit, rolls-Local, rolls-Global}
use Rattle.dy_term.specs.declared.term.Term.TheVariants.{rolls-ClassName, rolls-GenericName}
use Rattle.dy_term.specs.declared.term.Term.TheVariants.{rolls-SetLocal, rolls-SetGlobal}
use Rattle.dy_term.specs.declared.term.Term.TheVariants.{rolls-Call, rolls-Site, rolls-Cond}
use Rattle.dy_term.specs.declared.term.Term.TheVariants.{rolls-And, rolls-Or, rolls-Select}
use Rattle.dy_term.specs.declared.term.Term.TheVariants.{rolls-Body, rolls-Loop, rolls-For}
use Rattle.dy_term.specs.declared.term.Term.TheVariants.{rolls-Method, rolls-Block, rolls-Op}
use Rattle.dy_term.specs.declared.term.Term.TheVariants.{rolls-Next}
use Rattle.dy_term.specs.declared.term.BlockRow.{BlockRow, BlockRow-F, roll-BlockRow, map-BlockRow}
use Rattle.dy_term.specs.declared.term.BlockRow.{fold-roll-BlockRow}
use Rattle.dy_term.specs.declared.term.ForRow.{ForRow, ForRow-F, roll-ForRow, map-ForRow}
use Rattle.dy_term.specs.declared.term.ForRow.{fold-roll-ForRow}
use Rattle.dy_term.specs.declared.term.Lambda.{Lambda, Lambda-F, roll-Lambda, map-Lambda}
use Rattle.dy_term.specs.declared.term.Lambda.{fold-roll-Lambda}
use Rattle.dy_resolution.specs.Numbers.{ClauseUses, all_catches, catch_numbers}
use Rattle.dy_resolution.specs.Numbers.{Uses, no_uses, both, all, some_uses, all_branches, all_arms}
use Rattle.dy_resolution.specs.Numbers.{all_behind, some_behind, given_uses, binds, listed}
use Rattle.dy_resolution.specs.Numbers.{term_uses, item_uses, clause_uses, block_uses, for_uses}
use Rattle.dy_resolution.specs.Numbers.{lambda_uses, uses_of_term, uses_of_item, uses_of_clause}
use Rattle.dy_resolution.specs.Numbers.{uses_of_block, uses_of_for, uses_of_lambda}

pub term_used : (x : Term-F ForClause Item Term BlockRow ForRow Lambda)
    → uses_of_term (roll-Term x)
    ≡ term_uses (map-Term _ _ _ _ _ _ _ _ _ _ _ _ uses_of_clause uses_of_item uses_of_term
    uses_of_block uses_of_for uses_of_lambda x)
term_used = fold-roll-Term _ _ _ _ _ _ _ _ _ _ _ _

pub item_used : (x : Item-F ForClause Item Term BlockRow ForRow Lambda)
    → uses_of_item (roll-Item x)
    ≡ item_uses (map-Item _ _ _ _ _ _ _ _ _ _ _ _ uses_of_clause uses_of_item uses_of_term
    uses_of_block uses_of_for uses_of_lambda x)
item_used = fold-roll-Item _ _ _ _ _ _ _ _ _ _ _ _

pub clause_used : (x : ForClause-F ForClause Item Term BlockRow ForRow Lambda)
    → uses_of_clause (roll-ForClause x)
    ≡ clause_uses (map-ForClause _ _ _ _ _ _ _ _ _ _ _ _ uses_of_clause uses_of_item uses_of_term
    uses_of_block uses_of_for uses_of_lambda x)
clause_used = fold-roll-ForClause _ _ _ _ _ _ _ _ _ _ _ _

pub block_used : (x : BlockRow-F ForClause Item Term BlockRow ForRow Lambda)
    → uses_of_block (roll-BlockRow x)
    ≡ block_uses (map-BlockRow _ _ _ _ _ _ _ _ _ _ _ _ uses_of_clause uses_of_item uses_of_term
    uses_of_block uses_of_for uses_of_lambda x)
block_used = fold-roll-BlockRow _ _ _ _ _ _ _ _ _ _ _ _

pub for_used : (x : ForRow-F ForClause Item Term BlockRow ForRow Lambda)
    → uses_of_for (roll-ForRow x)
    ≡ for_uses (map-ForRow _ _ _ _ _ _ _ _ _ _ _ _ uses_of_clause uses_of_item uses_of_term
    uses_of_block uses_of_for uses_of_lambda x)
for_used = fold-roll-ForRow _ _ _ _ _ _ _ _ _ _ _ _

pub lambda_used : (x : Lambda-F ForClause Item Term BlockRow ForRow Lambda)
    → uses_of_lambda (roll-Lambda x)
    ≡ lambda_uses (map-Lambda _ _ _ _ _ _ _ _ _ _ _ _ uses_of_clause uses_of_item uses_of_term
    uses_of_block uses_of_for uses_of_lambda x)
lambda_used = fold-roll-Lambda _ _ _ _ _ _ _ _ _ _ _ _

pub uses_lit : (v : Literal) → uses_of_term (Lit v) ≡ no_uses
uses_lit v = ap uses_of_term (sym (rolls-Lit v)) ∙ term_used (Term-F.Lit v)

pub uses_local : (k : ℕ) → uses_of_term (Local k) ≡ no_uses
uses_local k = ap uses_of_term (sym (rolls-Local k)) ∙ term_used (Term-F.Local k)

pub uses_global : (b : BindingId) → uses_of_term (Global b) ≡ no_uses
uses_global b = ap uses_of_term (sym (rolls-Global b)) ∙ term_used (Term-F.Global b)

pub uses_class : (c : ClassId) → uses_of_term (ClassName c) ≡ no_uses
uses_class c = ap uses_of_term (sym (rolls-ClassName c)) ∙ term_used (Term-F.ClassName c)

pub uses_generic : (g : GenericId) → uses_of_term (GenericName g) ≡ no_uses
uses_generic g = ap uses_of_term (sym (rolls-GenericName g)) ∙ term_used (Term-F.GenericName g)

pub uses_set_local : (k : ℕ) (t : Term) → uses_of_term (SetLocal k t) ≡ uses_of_term t
uses_set_local k t = ap uses_of_term (sym (rolls-SetLocal k t)) ∙ term_used (Term-F.SetLocal k t)

pub uses_set_global : (b : BindingId) (t : Term) → uses_of_term (SetGlobal b t) ≡ uses_of_term t
uses_set_global b t = ap uses_of_term (sym (rolls-SetGlobal b t)) ∙ term_used (Term-F.SetGlobal b t)

pub uses_call : (f : Term) (ts : List Term)
    → uses_of_term (Call f ts) ≡ both (uses_of_term f) (all (map uses_of_term ts))
uses_call f ts = ap uses_of_term (sym (rolls-Call f ts)) ∙ term_used (Term-F.Call f ts)

pub uses_site : (g : GenericId) (ts : List Term)
    → uses_of_term (Site g ts) ≡ all (map uses_of_term ts)
uses_site g ts = ap uses_of_term (sym (rolls-Site g ts)) ∙ term_used (Term-F.Site g ts)

pub uses_cond : (bs : List (Term × Term)) (l : Term)
    → uses_of_term (Cond bs l)
    ≡ both (all_branches (map {B = Uses × Uses} (λ b. (uses_of_term b.0, uses_of_term b.1)) bs))
    (uses_of_term l)
uses_cond bs l = ap uses_of_term (sym (rolls-Cond bs l)) ∙ term_used (Term-F.Cond bs l)

pub uses_and : (a : Term) (b : Term)
    → uses_of_term (And a b) ≡ both (uses_of_term a) (uses_of_term b)
uses_and a b = ap uses_of_term (sym (rolls-And a b)) ∙ term_used (Term-F.And a b)

pub uses_or : (a : Term) (b : Term) → uses_of_term (Or a b) ≡ both (uses_of_term a) (uses_of_term b)
uses_or a b = ap uses_of_term (sym (rolls-Or a b)) ∙ term_used (Term-F.Or a b)

pub uses_select : (v : Term) (t : Option Term) (as1 : List (List Term × Term)) (l : Option Term)
    → uses_of_term (Select v t as1 l)
    ≡ both (uses_of_term v) (both (some_uses (option_map uses_of_term t))
    (both (all_arms (map {B = List Uses × Uses}
    (λ a. (map uses_of_term a.0, uses_of_term a.1)) as1)) (some_uses (option_map uses_of_term l))))
uses_select v None as1 None =
    ap uses_of_term (sym (rolls-Select v None as1 None)) ∙ term_used (Term-F.Select v None as1 None)
uses_select v None as1 (Some l) =
    ap uses_of_term (sym (rolls-Select v None as1 (Some l))) ∙ term_used
    (Term-F.Select v None as1 (Some l))
uses_select v (Some t) as1 None =
    ap uses_of_term (sym (rolls-Select v (Some t) as1 None)) ∙ term_used
    (Term-F.Select v (Some t) as1 None)
uses_select v (Some t) as1 (Some l) =
    ap uses_of_term (sym (rolls-Select v (Some t) as1 (Some l))) ∙ term_used
    (Term-F.Select v (Some t) as1 (Some l))

pub uses_body : (is : List Item) → uses_of_term (Body is) ≡ all (map uses_of_item is)
uses_body is = ap uses_of_term (sym (rolls-Body is)) ∙ term_used (Term-F.Body is)

pub uses_loop : (a : Term) (b : Term)
    → uses_of_term (Loop a b) ≡ both (uses_of_term a) (uses_of_term b)
uses_loop a b = ap uses_of_term (sym (rolls-Loop a b)) ∙ term_used (Term-F.Loop a b)

pub uses_for : (r : ForRow) → uses_of_term (For r) ≡ uses_of_for r
uses_for r = ap uses_of_term (sym (rolls-For r)) ∙ term_used (Term-F.For r)

pub uses_method : (l : Lambda) → uses_of_term (Method l) ≡ uses_of_lambda l
uses_method l = ap uses_of_term (sym (rolls-Method l)) ∙ term_used (Term-F.Method l)

pub uses_block : (r : BlockRow) → uses_of_term (Block r) ≡ uses_of_block r
uses_block r = ap uses_of_term (sym (rolls-Block r)) ∙ term_used (Term-F.Block r)

pub uses_op : (k : ℕ) (ts : List Term) → uses_of_term (Op k ts) ≡ all (map uses_of_term ts)
uses_op k ts = ap uses_of_term (sym (rolls-Op k ts)) ∙ term_used (Term-F.Op k ts)

pub uses_next : (o : Option (List Term))
    → uses_of_term (Next o) ≡ given_uses (option_map (map uses_of_term) o)
uses_next None = ap uses_of_term (sym (rolls-Next None)) ∙ term_used (Term-F.Next None)
uses_next (Some ts) = ap uses_of_term (sym (rolls-Next (Some ts))) ∙ term_used
    (Term-F.Next (Some ts))

pub uses_run : (t : Term) → uses_of_item (Run t) ≡ uses_of_term t
uses_run t = ap uses_of_item (sym (rolls-Run t)) ∙ item_used (Item-F.Run t)

pub uses_let : (ns : List (ℕ × DyType)) (r : Option ℕ) (t : Term)
    → uses_of_item (Let ns r t)
    ≡ both (binds (map (λ (n : ℕ × DyType). n.0) ns ++ listed r)) (uses_of_term t)
uses_let ns r t = ap uses_of_item (sym (rolls-Let ns r t)) ∙ item_used (Item-F.Let ns r t)

pub uses_methods : (ms : List (ℕ × Lambda))
    → uses_of_item (LetMethods ms)
    ≡ both (binds (map (λ (m : ℕ × Uses). m.0)
    (map {B = ℕ × Uses} (λ (m : ℕ × Lambda). (m.0, uses_of_lambda m.1)) ms)))
    (all_behind (map {B = ℕ × Uses} (λ (m : ℕ × Lambda). (m.0, uses_of_lambda m.1)) ms))
uses_methods ms = ap uses_of_item (sym (rolls-LetMethods ms)) ∙ item_used (Item-F.LetMethods ms)

pub uses_handler : (d : DyType) (t : Term) → uses_of_item (Handler d t) ≡ uses_of_term t
uses_handler d t = ap uses_of_item (sym (rolls-Handler d t)) ∙ item_used (Item-F.Handler d t)

pub uses_then : (k : ℕ) (d : DyType) (f : Term) (t : Term)
    → uses_of_clause (Then k d f t) ≡ (k, uses_of_term f, uses_of_term t)
uses_then k d f t = ap uses_of_clause (sym (rolls-Then k d f t)) ∙ clause_used
    (ForClause-F.Then k d f t)

pub uses_in : (k : ℕ) (d : DyType) (f : Term)
    → uses_of_clause (In k d f) ≡ (k, uses_of_term f, no_uses)
uses_in k d f = ap uses_of_clause (sym (rolls-In k d f)) ∙ clause_used (ForClause-F.In k d f)

pub uses_from : (k : ℕ) (d : DyType) (f : Term) (l : Option (Limit × Term)) (s : Option Term)
    → uses_of_clause (From k d f l s)
    ≡ (
      k,
      both (uses_of_term f)
          (both (some_behind (option_map {U = Limit × Uses}
          (λ (x : Limit × Term). (x.0, uses_of_term x.1)) l))
          (some_uses (option_map uses_of_term s))),
      no_uses,
    )
uses_from k d f None None =
    ap uses_of_clause (sym (rolls-From k d f None None)) ∙ clause_used
    (ForClause-F.From k d f None None)
uses_from k d f None (Some s) =
    ap uses_of_clause (sym (rolls-From k d f None (Some s))) ∙ clause_used
    (ForClause-F.From k d f None (Some s))
uses_from k d f (Some l) None =
    ap uses_of_clause (sym (rolls-From k d f (Some l) None)) ∙ clause_used
    (ForClause-F.From k d f (Some l) None)
uses_from k d f (Some l) (Some s) =
    ap uses_of_clause (sym (rolls-From k d f (Some l) (Some s))) ∙ clause_used
    (ForClause-F.From k d f (Some l) (Some s))

pub for_row_used : (cs : List ForClause) (test : Option (Bool × Term)) (body : Term)
    (finally : Option Term)
    → uses_of_for (roll-ForRow
    (record { clauses = cs; test = test; body = body; finally = finally }))
    ≡ both (binds (map (λ (c : ClauseUses). c.0) (map uses_of_clause cs)))
    (both (all (map (λ (c : ClauseUses). c.1) (map uses_of_clause cs)))
    (both (all (map (λ (c : ClauseUses). c.2) (map uses_of_clause cs)))
    (both (some_behind (option_map {U = Bool × Uses}
    (λ (x : Bool × Term). (x.0, uses_of_term x.1)) test))
    (both (uses_of_term body) (some_uses (option_map uses_of_term finally))))))
for_row_used cs None body None = for_used _
for_row_used cs None body (Some e) = for_used _
for_row_used cs (Some t) body None = for_used _
for_row_used cs (Some t) body (Some e) = for_used _

pub block_row_used : (exit : Option ℕ) (body : Term) (afterwards cleanup : Option Term)
    (clauses : List (Option ℕ × DyType × Term))
    → uses_of_block (roll-BlockRow (record {
      exit = exit;
      body = body;
      afterwards = afterwards;
      cleanup = cleanup;
      clauses = clauses;
    }))
    ≡ (let us = map {B = Option ℕ × DyType × Uses}
    (λ (c : Option ℕ × DyType × Term). (c.0, c.1, uses_of_term c.2)) clauses in
    both (binds (listed exit ++ catch_numbers us))
    (both (uses_of_term body) (both (some_uses (option_map uses_of_term afterwards))
    (both (some_uses (option_map uses_of_term cleanup)) (all_catches us)))))
block_row_used exit body None None clauses = block_used _
block_row_used exit body None (Some c) clauses = block_used _
block_row_used exit body (Some a) None clauses = block_used _
block_row_used exit body (Some a) (Some c) clauses = block_used _
