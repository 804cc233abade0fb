-- A term has no more nodes than its draft, by induction over drafts.
use Rattle.std.proofs.Common.{◌≡◌, ℕ, ◌+◌, ◌≤◌, Bool, false, List, [], ◌∷◌, length, map, Option, Some, None, Result, refl, sym, ap, ◌∙◌, arith}
use Rattle.std.specs.Option.{option_map, is_some}
use Rattle.std.proofs.lemmas.List.{length-map}
use Rattle.dy_base.specs.declared.fault.Fault.{Fault}
use Rattle.dy_base.specs.declared.kind.Kind.TheVariants.{NotAssignable}
use Rattle.dy_base.specs.declared.ids.BindingId.{BindingId}
use Rattle.dy_base.specs.declared.ids.GenericId.{GenericId}
use Rattle.dy_base.specs.declared.ids.ClassId.{ClassId}
use Rattle.dy_base.specs.declared.ids.What.{What}
use Rattle.dy_base.specs.declared.ids.What.TheVariants as whats
use Rattle.dy_tree.specs.declared.token.Token.{Token}
use Rattle.dy_term.specs.declared.literal.Literal.{Literal}
use Rattle.dy_term.specs.declared.literal.Literal.TheVariants.{Bool as a_truth}
use Rattle.dy_term.specs.declared.types.DyType.{DyType}
use Rattle.dy_term.specs.declared.term.ForClause.{ForClause, ForClause-F, Then, In, From}
use Rattle.dy_term.specs.declared.term.ForClause.TheVariants.{rolls-Then, rolls-In, rolls-From}
use Rattle.dy_term.specs.declared.term.Item.{Item, Item-F, Run, Let, LetMethods, Handler}
use Rattle.dy_term.specs.declared.term.Item.TheVariants.{rolls-Run, rolls-Let, rolls-LetMethods, rolls-Handler}
use Rattle.dy_term.specs.declared.term.Term.{Term, Term-F, Lit, Local, Global, ClassName, GenericName, SetLocal, SetGlobal, Call, Site, Cond, And, Or, Select, Body, Loop, For, Method, Block, Op, Next}
use Rattle.dy_term.specs.declared.term.Term.TheVariants.{rolls-Lit, rolls-Local, rolls-Global, rolls-ClassName, rolls-GenericName, rolls-SetLocal, rolls-SetGlobal, rolls-Call, rolls-Site, rolls-Cond, rolls-And, rolls-Or, rolls-Select, rolls-Body, rolls-Loop, rolls-For, rolls-Method, rolls-Block, rolls-Op, rolls-Next}
use Rattle.dy_term.specs.declared.term.BlockRow.{BlockRow, roll-BlockRow}
use Rattle.dy_term.specs.declared.term.ForRow.{ForRow, roll-ForRow}
use Rattle.dy_term.specs.declared.term.Lambda.{Lambda}
use Rattle.dy_term.specs.declared.term.Limit.{Limit}
use Rattle.dy_term.specs.declared.draft.Local.TheVariants.{Hidden, Named}
use Rattle.dy_term.specs.Types.{CoreType}
use Rattle.dy_term.specs.Drafts.{Core, literal, name, hidden, set, no_place, call, values, cond, and, or, select, body, loop, for, method, block, Cores, no_core, core_and, MaybeCore, nothing, just, Choice, otherwise, branch, CoreArms, no_arm, arm_and, CoreItems, no_item, item_and, CoreItem, run, let_values, let_methods, handler, CoreMethods, no_method, method_and, CoreLambda, lambda, CoreClauses, no_clause, clause_and, CoreClause, then_clause, in_clause, from_clause, CoreLimit, no_limit, a_limit, CoreTest, no_test, a_test, CoreCatches, no_catch, catch_and}
use Rattle.dy_names.specs.declared.denotation.Denotation.{Denotation}
use Rattle.dy_names.specs.declared.denotation.Denotation.TheVariants as stands
use Rattle.dy_names.specs.declared.denotation.Meaning.{Meaning}
use Rattle.dy_names.specs.declared.denotation.Meaning.TheVariants.{InForce, Owned, Unbound}
use Rattle.dy_names.specs.Naming.{Locals, innermost, means}
use Rattle.dy_names.specs.Outside.{Outside}
use Rattle.dy_binding.specs.declared.progress.Progress.{Progress}
use Rattle.dy_binding.specs.declared.names.Head.{Head}
use Rattle.dy_binding.specs.declared.names.Head.TheVariants as heads
use Rattle.dy_binding.specs.Faults.{fault_at}
use Rattle.dy_binding.specs.Reads.{Reads, none, numbered, told, told_some}
use Rattle.dy_binding.specs.Bound.{count, number_of, bound_some, params_bound, methods_bound, method_count, clause_count, variables_bound, kept_bound, catches_numbered}
use Rattle.dy_binding.specs.Names.{denoted, owned, named, placed, assigned, hidden_term, head_of, called, is_next}
use Rattle.dy_binding.specs.Types.{told_of, read_types, read_numbered, read_type, read_results, key_types, key_list, shape_of}
use Rattle.dy_resolution.specs.Terms.{core_term, core_terms, core_maybe, core_choice, core_arms, core_items, core_item, core_methods, core_lambda, core_defaults, core_firsts, core_first, core_limit, core_clauses, core_clause, core_test, core_catches, values_operation, fresh}
use Rattle.dy_lowering_whole.specs.sizes.Nodes.{total, held, second, one_if, one_in, nodes_of_clause, nodes_of_item, nodes_of, nodes_of_block, nodes_of_for, nodes_of_lambda}
use Rattle.dy_lowering_whole.proofs.sizes.Marked.{clause_size_is, item_size_is, term_size_is, block_size_is, for_size_is, lambda_size_is}
use Rattle.dy_file_sizes.specs.Drafts.{size, terms_size, maybe_size, choice_size, arms_size, items_size, item_size, methods_size, lambda_size, defaults_size, clauses_size, clause_size, limit_size, test_size, catches_size}

-- nodes of lists of terms
abbrev all_nodes : List Term → ℕ
all_nodes terms = total (map nodes_of terms)

abbrev maybe_nodes : Option Term → ℕ
maybe_nodes term = held (option_map nodes_of term)

abbrev behind_nodes : {A : Type 0} → Option (A × Term) → ℕ
behind_nodes {A} term = second (option_map {U = A × ℕ} (λ (x : A × Term). (x.0, nodes_of x.1)) term)

abbrev branches_nodes : List (Term × Term) → ℕ
branches_nodes branches = total (map (λ (b : ℕ × ℕ). b.0 + b.1) (map (λ (b : Term × Term). (nodes_of b.0, nodes_of b.1)) branches))

abbrev arms_nodes : List (List Term × Term) → ℕ
arms_nodes arms = total (map (λ (a : List ℕ × ℕ). total a.0 + a.1) (map (λ (a : List Term × Term). (map nodes_of a.0, nodes_of a.1)) arms))

abbrev methods_nodes : List (ℕ × Lambda) → ℕ
methods_nodes methods = total (map (λ (m : ℕ × ℕ). 1 + m.1) (map (λ (m : ℕ × Lambda). (m.0, nodes_of_lambda m.1)) methods))

abbrev keywords_nodes : List (DyType × Term) → ℕ
keywords_nodes keywords = total (map (λ (k : DyType × ℕ). 1 + k.1) (map (λ (k : DyType × Term). (k.0, nodes_of k.1)) keywords))

abbrev catches_nodes : List (Option ℕ × DyType × Term) → ℕ
catches_nodes clauses = total (map (λ (c : Option ℕ × DyType × ℕ). 1 + c.2) (map (λ (c : Option ℕ × DyType × Term). (c.0, c.1, nodes_of c.2)) clauses))

-- terms, variant by variant
lit_nodes : (v : Literal) → nodes_of (Lit v) ≡ 1
lit_nodes v = ap nodes_of (sym (rolls-Lit v)) ∙ term_size_is (Term-F.Lit v)

local_nodes : (k : ℕ) → nodes_of (Local k) ≡ 1
local_nodes k = ap nodes_of (sym (rolls-Local k)) ∙ term_size_is (Term-F.Local k)

global_nodes : (b : BindingId) → nodes_of (Global b) ≡ 1
global_nodes b = ap nodes_of (sym (rolls-Global b)) ∙ term_size_is (Term-F.Global b)

class_nodes : (c : ClassId) → nodes_of (ClassName c) ≡ 1
class_nodes c = ap nodes_of (sym (rolls-ClassName c)) ∙ term_size_is (Term-F.ClassName c)

generic_nodes : (g : GenericId) → nodes_of (GenericName g) ≡ 1
generic_nodes g = ap nodes_of (sym (rolls-GenericName g)) ∙ term_size_is (Term-F.GenericName g)

set_local_nodes : (k : ℕ) (t : Term) → nodes_of (SetLocal k t) ≡ 1 + nodes_of t
set_local_nodes k t = ap nodes_of (sym (rolls-SetLocal k t)) ∙ term_size_is (Term-F.SetLocal k t)

set_global_nodes : (b : BindingId) (t : Term) → nodes_of (SetGlobal b t) ≡ 1 + nodes_of t
set_global_nodes b t = ap nodes_of (sym (rolls-SetGlobal b t)) ∙ term_size_is (Term-F.SetGlobal b t)

call_nodes : (f : Term) (ts : List Term) → nodes_of (Call f ts) ≡ 1 + (nodes_of f + all_nodes ts)
call_nodes f ts = ap nodes_of (sym (rolls-Call f ts)) ∙ term_size_is (Term-F.Call f ts)

site_nodes : (g : GenericId) (ts : List Term) → nodes_of (Site g ts) ≡ 1 + all_nodes ts
site_nodes g ts = ap nodes_of (sym (rolls-Site g ts)) ∙ term_size_is (Term-F.Site g ts)

op_nodes : (k : ℕ) (ts : List Term) → nodes_of (Op k ts) ≡ 1 + all_nodes ts
op_nodes k ts = ap nodes_of (sym (rolls-Op k ts)) ∙ term_size_is (Term-F.Op k ts)

bare_next_nodes : nodes_of (Next None) ≡ 1
bare_next_nodes = ap nodes_of (sym (rolls-Next None)) ∙ term_size_is (Term-F.Next None)

next_nodes : (ts : List Term) → nodes_of (Next (Some ts)) ≡ 1 + all_nodes ts
next_nodes ts = ap nodes_of (sym (rolls-Next (Some ts))) ∙ term_size_is (Term-F.Next (Some ts))

cond_nodes : (bs : List (Term × Term)) (t : Term) → nodes_of (Cond bs t) ≡ 1 + (branches_nodes bs + nodes_of t)
cond_nodes bs t = ap nodes_of (sym (rolls-Cond bs t)) ∙ term_size_is (Term-F.Cond bs t)

and_nodes : (s t : Term) → nodes_of (And s t) ≡ 1 + (nodes_of s + nodes_of t)
and_nodes s t = ap nodes_of (sym (rolls-And s t)) ∙ term_size_is (Term-F.And s t)

or_nodes : (s t : Term) → nodes_of (Or s t) ≡ 1 + (nodes_of s + nodes_of t)
or_nodes s t = ap nodes_of (sym (rolls-Or s t)) ∙ term_size_is (Term-F.Or s t)

loop_nodes : (s t : Term) → nodes_of (Loop s t) ≡ 1 + (nodes_of s + nodes_of t)
loop_nodes s t = ap nodes_of (sym (rolls-Loop s t)) ∙ term_size_is (Term-F.Loop s t)

body_nodes : (is : List Item) → nodes_of (Body is) ≡ 1 + total (map nodes_of_item is)
body_nodes is = ap nodes_of (sym (rolls-Body is)) ∙ term_size_is (Term-F.Body is)

method_nodes : (l : Lambda) → nodes_of (Method l) ≡ nodes_of_lambda l
method_nodes l = ap nodes_of (sym (rolls-Method l)) ∙ term_size_is (Term-F.Method l)

for_nodes : (r : ForRow) → nodes_of (For r) ≡ nodes_of_for r
for_nodes r = ap nodes_of (sym (rolls-For r)) ∙ term_size_is (Term-F.For r)

block_nodes : (r : BlockRow) → nodes_of (Block r) ≡ nodes_of_block r
block_nodes r = ap nodes_of (sym (rolls-Block r)) ∙ term_size_is (Term-F.Block r)

select_nodes : (v : Term) (t : Option Term) (arms : List (List Term × Term)) (l : Option Term)
    → nodes_of (Select v t arms l) ≡ 1 + (nodes_of v + (maybe_nodes t + (arms_nodes arms + maybe_nodes l)))
select_nodes v None arms None = ap nodes_of (sym (rolls-Select v None arms None)) ∙ term_size_is (Term-F.Select v None arms None)
select_nodes v None arms (Some l) = ap nodes_of (sym (rolls-Select v None arms (Some l))) ∙ term_size_is (Term-F.Select v None arms (Some l))
select_nodes v (Some t) arms None = ap nodes_of (sym (rolls-Select v (Some t) arms None)) ∙ term_size_is (Term-F.Select v (Some t) arms None)
select_nodes v (Some t) arms (Some l) = ap nodes_of (sym (rolls-Select v (Some t) arms (Some l))) ∙ term_size_is (Term-F.Select v (Some t) arms (Some l))

run_nodes : (t : Term) → nodes_of_item (Run t) ≡ 1 + nodes_of t
run_nodes t = ap nodes_of_item (sym (rolls-Run t)) ∙ item_size_is (Item-F.Run t)

let_nodes : (ns : List (ℕ × DyType)) (r : Option ℕ) (t : Term) → nodes_of_item (Let ns r t) ≡ 1 + (length ns + (one_in r + nodes_of t))
let_nodes ns r t = ap nodes_of_item (sym (rolls-Let ns r t)) ∙ item_size_is (Item-F.Let ns r t)

let_methods_nodes : (ms : List (ℕ × Lambda)) → nodes_of_item (LetMethods ms) ≡ 1 + methods_nodes ms
let_methods_nodes ms = ap nodes_of_item (sym (rolls-LetMethods ms)) ∙ item_size_is (Item-F.LetMethods ms)

handler_nodes : (d : DyType) (t : Term) → nodes_of_item (Handler d t) ≡ 1 + nodes_of t
handler_nodes d t = ap nodes_of_item (sym (rolls-Handler d t)) ∙ item_size_is (Item-F.Handler d t)

then_nodes : (k : ℕ) (d : DyType) (f t : Term) → nodes_of_clause (Then k d f t) ≡ 1 + (nodes_of f + nodes_of t)
then_nodes k d f t = ap nodes_of_clause (sym (rolls-Then k d f t)) ∙ clause_size_is (ForClause-F.Then k d f t)

in_nodes : (k : ℕ) (d : DyType) (f : Term) → nodes_of_clause (In k d f) ≡ 1 + nodes_of f
in_nodes k d f = ap nodes_of_clause (sym (rolls-In k d f)) ∙ clause_size_is (ForClause-F.In k d f)

from_nodes : (k : ℕ) (d : DyType) (f : Term) (l : Option (Limit × Term)) (s : Option Term) → nodes_of_clause (From k d f l s) ≡ 1 + (nodes_of f + (behind_nodes l + maybe_nodes s))
from_nodes k d f None None = ap nodes_of_clause (sym (rolls-From k d f None None)) ∙ clause_size_is (ForClause-F.From k d f None None)
from_nodes k d f None (Some s) = ap nodes_of_clause (sym (rolls-From k d f None (Some s))) ∙ clause_size_is (ForClause-F.From k d f None (Some s))
from_nodes k d f (Some l) None = ap nodes_of_clause (sym (rolls-From k d f (Some l) None)) ∙ clause_size_is (ForClause-F.From k d f (Some l) None)
from_nodes k d f (Some l) (Some s) = ap nodes_of_clause (sym (rolls-From k d f (Some l) (Some s))) ∙ clause_size_is (ForClause-F.From k d f (Some l) (Some s))

for_row_nodes : (cs : List ForClause) (test : Option (Bool × Term)) (inner : Term) (finally : Option Term)
    → nodes_of_for (roll-ForRow (record { clauses = cs; test = test; body = inner; finally = finally })) ≡ 1 + (total (map nodes_of_clause cs) + (behind_nodes test + (nodes_of inner + maybe_nodes finally)))
for_row_nodes cs None inner None = for_size_is _
for_row_nodes cs None inner (Some e) = for_size_is _
for_row_nodes cs (Some t) inner None = for_size_is _
for_row_nodes cs (Some t) inner (Some e) = for_size_is _

block_row_nodes : (exit : Option ℕ) (inner : Term) (afterwards cleanup : Option Term) (clauses : List (Option ℕ × DyType × Term))
    → nodes_of_block (roll-BlockRow (record { exit = exit; body = inner; afterwards = afterwards; cleanup = cleanup; clauses = clauses })) ≡ 1 + (nodes_of inner + (maybe_nodes afterwards + (maybe_nodes cleanup + catches_nodes clauses)))
block_row_nodes exit inner None None clauses = block_size_is _
block_row_nodes exit inner None (Some c) clauses = block_size_is _
block_row_nodes exit inner (Some a) None clauses = block_size_is _
block_row_nodes exit inner (Some a) (Some c) clauses = block_size_is _

-- names
denoted_nodes : (d : Denotation) → nodes_of (denoted d) ≡ 1
denoted_nodes (stands.Local k) = local_nodes k
denoted_nodes stands.NextMethod = bare_next_nodes
denoted_nodes stands.NoMethod = lit_nodes (a_truth false)

owned_nodes : (token : Token) (b : BindingId) (w : What) (p : Progress) → nodes_of (owned token b w p).0 ≡ 1
owned_nodes token b whats.Class p = class_nodes (record { 0 = b.at })
owned_nodes token b whats.Generic p = generic_nodes (record { 0 = b.at })
owned_nodes token b whats.Variable p = global_nodes b
owned_nodes token b whats.Constant p = global_nodes b
owned_nodes token b whats.Function p = global_nodes b
owned_nodes token b whats.Macro p = lit_nodes (a_truth false)

named_nodes : (token : Token) (m : Meaning) (p : Progress) → nodes_of (named token m p).0 ≡ 1
named_nodes token (InForce d) p = denoted_nodes d
named_nodes token (Owned b) p = owned_nodes token b b.what p
named_nodes token Unbound p = lit_nodes (a_truth false)

hidden_nodes : (d : Option Denotation) → nodes_of (hidden_term d) ≡ 1
hidden_nodes None = lit_nodes (a_truth false)
hidden_nodes (Some d) = denoted_nodes d

assigned_nodes : (m : Meaning) (v : Term) → nodes_of (assigned m v) ≤ 1 + nodes_of v
assigned_nodes (InForce (stands.Local k)) v = omega (arith, set_local_nodes k v)
assigned_nodes (InForce stands.NextMethod) v = omega arith
assigned_nodes (InForce stands.NoMethod) v = omega arith
assigned_nodes (Owned b) v = omega (arith, set_global_nodes b v)
assigned_nodes Unbound v = omega arith

called_nodes : (h : Head) (f : Reads Term) (a : Reads (List Term)) (n m : ℕ) → ((locals : Locals) (p : Progress) → nodes_of (f locals p).0 ≤ n) → ((locals : Locals) (p : Progress) → all_nodes (a locals p).0 ≤ m)
    → (locals : Locals) (p : Progress) → nodes_of (called h f a locals p).0 ≤ 1 + (n + m)
called_nodes (heads.Generic g) f a n m fn am locals p = omega (arith, site_nodes g (a locals p).0, am locals p)
called_nodes heads.NextMethod f a n m fn am locals p = omega (arith, next_nodes (a locals p).0, am locals p)
called_nodes heads.Value f a n m fn am locals p = omega (arith, call_nodes (f locals p).0 (a locals (f locals p).1).0, fn locals p, am locals (f locals p).1)

one_counted : {A : Type 0} (rest : Option A) (n : ℕ) → one_in (number_of rest n) ≡ count rest
one_counted None n = refl
one_counted (Some rest) n = refl

rest_counted : (rest : Option Token) → one_if (is_some rest) ≡ count rest
rest_counted None = refl
rest_counted (Some rest) = refl

module _ (out : Outside) where
  numbered_length : {A : Type 0} (ts : List (A × CoreType)) (n : ℕ) (locals : Locals) (p : Progress) → length (read_numbered out ts n locals p).0 ≡ length ts
  numbered_length [] n locals p = refl
  numbered_length (t ∷ ts) n locals p = omega (arith, numbered_length ts (n + 1) locals (read_type out t.1 locals p).1)

  types_length : (ts : List CoreType) (locals : Locals) (p : Progress) → length (read_types out ts locals p).0 ≡ length ts
  types_length [] locals p = refl
  types_length (t ∷ ts) locals p = omega (arith, types_length ts locals (read_type out t locals p).1)

  mutual
    pub term_small : (d : Core) (locals : Locals) (p : Progress) → nodes_of (core_term out d locals p).0 ≤ size d
    term_small (literal value) locals p = omega (arith, lit_nodes value)
    term_small (name token) locals p = omega (arith, named_nodes token (means out.owner locals token) p)
    term_small (hidden number) locals p = omega (arith, hidden_nodes (innermost locals (Hidden number)))
    term_small (set token value) locals p =
        let m = means out.owner locals token in
        let q = placed token m p in
        omega (arith, assigned_nodes m (core_term out value locals q).0, term_small value locals q)
    term_small (no_place token place value) locals p =
        let q = told (fault_at NotAssignable token []) p in
        let l = core_term out place locals q in
        let v = core_term out value locals l.1 in
        omega (arith, and_nodes l.0 v.0, term_small place locals q, term_small value locals l.1)
    term_small (call function arguments) locals p =
        called_nodes (head_of out function locals) (core_term out function) (core_terms out arguments) (size function) (terms_size arguments)
        (λ ls q. term_small function ls q) (λ ls q. terms_small arguments ls q) locals p
    term_small (values terms) locals p = omega (arith, op_nodes values_operation (core_terms out terms locals p).0, terms_small terms locals p)
    term_small (cond choice) locals p =
        let c = core_choice out choice locals p in
        omega (arith, cond_nodes c.0.0 c.0.1, choice_small choice locals p)
    term_small (and left right) locals p =
        let l = core_term out left locals p in
        let r = core_term out right locals l.1 in
        omega (arith, and_nodes l.0 r.0, term_small left locals p, term_small right locals l.1)
    term_small (or left right) locals p =
        let l = core_term out left locals p in
        let r = core_term out right locals l.1 in
        omega (arith, or_nodes l.0 r.0, term_small left locals p, term_small right locals l.1)
    term_small (select value test arms last) locals p =
        let v = core_term out value locals p in
        let t = core_maybe out test locals v.1 in
        let a = core_arms out arms locals t.1 in
        let l = core_maybe out last locals a.1 in
        omega (arith, select_nodes v.0 t.0 a.0 l.0, term_small value locals p, maybe_small test locals v.1, arms_small arms locals t.1, maybe_small last locals a.1)
    term_small (body items) locals p = omega (arith, body_nodes (core_items out items locals p).0, items_small items locals p)
    term_small (loop test inner) locals p =
        let l = core_term out test locals p in
        let r = core_term out inner locals l.1 in
        omega (arith, loop_nodes l.0 r.0, term_small test locals p, term_small inner locals l.1)
    term_small (for clauses test inner finally) locals p =
        let start = p.next + clause_count clauses in
        let f = core_firsts out clauses locals start in
        let within = variables_bound clauses p.next locals in
        let kept = kept_bound clauses p.next locals in
        let q : Progress = record p { next = f.1 } in
        let c = core_clauses out clauses f.0 p.next within q in
        let t = core_test out test within c.1 in
        let b = core_term out inner within t.1 in
        let l = core_maybe out finally kept b.1 in
        omega (
          arith,
          for_nodes _ ∙ for_row_nodes c.0 t.0 b.0 l.0,
          clauses_small clauses locals start p.next within q,
          test_small test within c.1,
          term_small inner within t.1,
          maybe_small finally kept b.1,
        )
    term_small (method row) locals p = omega (arith, method_nodes (core_lambda out row stands.NoMethod locals p).0, lambda_small row stands.NoMethod locals p)
    term_small (block exit inner afterwards cleanup clauses) locals p =
        let within = bound_some p.next (option_map Named exit) locals in
        let first = p.next + count exit in
        let q = catches_numbered clauses (numbered (count exit) p) in
        let b = core_term out inner within q in
        let a = core_maybe out afterwards within b.1 in
        let c = core_maybe out cleanup within a.1 in
        let e = core_catches out clauses first within c.1 in
        omega (
          arith,
          block_nodes _ ∙ block_row_nodes (number_of exit p.next) b.0 a.0 c.0 e.0,
          term_small inner within q,
          maybe_small afterwards within b.1,
          maybe_small cleanup within a.1,
          catches_small clauses first within c.1,
        )

    terms_small : (ds : Cores) (locals : Locals) (p : Progress) → all_nodes (core_terms out ds locals p).0 ≤ terms_size ds
    terms_small no_core locals p = omega arith
    terms_small (core_and first rest) locals p = omega (arith, term_small first locals p, terms_small rest locals (core_term out first locals p).1)

    maybe_small : (d : MaybeCore) (locals : Locals) (p : Progress) → maybe_nodes (core_maybe out d locals p).0 ≤ maybe_size d
    maybe_small nothing locals p = omega arith
    maybe_small (just term) locals p = omega (arith, term_small term locals p)

    choice_small : (c : Choice) (locals : Locals) (p : Progress) → branches_nodes (core_choice out c locals p).0.0 + nodes_of (core_choice out c locals p).0.1 ≤ choice_size c
    choice_small (otherwise term) locals p = omega (arith, term_small term locals p)
    choice_small (branch test term others) locals p =
        let s = core_term out test locals p in
        let t = core_term out term locals s.1 in
        omega (arith, term_small test locals p, term_small term locals s.1, choice_small others locals t.1)

    arms_small : (arms : CoreArms) (locals : Locals) (p : Progress) → arms_nodes (core_arms out arms locals p).0 ≤ arms_size arms
    arms_small no_arm locals p = omega arith
    arms_small (arm_and keys inner rest) locals p =
        let k = core_terms out keys locals p in
        let b = core_term out inner locals k.1 in
        omega (arith, terms_small keys locals p, term_small inner locals k.1, arms_small rest locals b.1)

    items_small : (is : CoreItems) (locals : Locals) (p : Progress) → total (map nodes_of_item (core_items out is locals p).0) ≤ items_size is
    items_small no_item locals p = omega arith
    items_small (item_and first rest) locals p =
        let f = core_item out first locals p in
        omega (arith, item_small first locals p, items_small rest f.0.1 f.1)

    item_small : (i : CoreItem) (locals : Locals) (p : Progress) → nodes_of_item (core_item out i locals p).0.0 ≤ item_size i
    item_small (run term) locals p = omega (arith, run_nodes (core_term out term locals p).0, term_small term locals p)
    item_small (let_values typed rest term) locals p =
        let last = p.next + length typed in
        let q = numbered (count rest) (numbered (length typed) p) in
        let t = read_numbered out typed p.next locals q in
        let v = core_term out term locals t.1 in
        omega (
          arith,
          let_nodes t.0 (number_of rest last) v.0,
          numbered_length typed p.next locals q,
          one_counted rest last,
          term_small term locals t.1,
        )
    item_small (let_methods methods) locals p =
        let group = methods_bound methods p.next locals in
        let q = numbered (method_count methods) p in
        omega (arith, let_methods_nodes (core_methods out methods p.next group q).0, methods_small methods p.next group q)
    item_small (handler condition term) locals p =
        let c = read_type out condition locals p in
        omega (arith, handler_nodes c.0 (core_term out term locals c.1).0, term_small term locals c.1)

    methods_small : (ms : CoreMethods) (n : ℕ) (locals : Locals) (p : Progress) → methods_nodes (core_methods out ms n locals p).0 ≤ methods_size ms
    methods_small no_method n locals p = omega arith
    methods_small (method_and token first rest) n locals p =
        let f = core_lambda out first stands.NoMethod locals p in
        omega (arith, lambda_small first stands.NoMethod locals p, methods_small rest (n + 1) locals f.1)

    pub lambda_small : (l : CoreLambda) (d : Denotation) (locals : Locals) (p : Progress) → nodes_of_lambda (core_lambda out l d locals p).0 ≤ lambda_size l
    lambda_small (lambda params defaults inner results) d locals p =
        let keys = key_types out locals (key_list params.keys) in
        let rest = p.next + length params.required in
        let own = numbered (length keys) (numbered (count params.rest) (numbered (length params.required) p)) in
        let required = map (λ (r : Token × CoreType). r.1) params.required in
        let t = read_types out required locals own in
        let r = read_results out results locals none in
        let within = params_bound params d p.next rest locals in
        let k = core_defaults out defaults keys (rest + count params.rest) within t.1 in
        let q = told_some r.1.first k.1 in
        omega (
          arith,
          lambda_size_is (record { params = shape_of params t.0; keywords = k.0.0; next = is_next d; first = p.next; locals = (core_term out inner k.0.1 q).1.next; body = (core_term out inner k.0.1 q).0; results = r.0 }),
          types_length required locals own,
          length-map params.required (λ (r : Token × CoreType). r.1),
          rest_counted params.rest,
          defaults_small defaults keys (rest + count params.rest) within t.1,
          term_small inner k.0.1 q,
        )

    defaults_small : (ds : Cores) (keys : List (Token × Result DyType Fault)) (n : ℕ) (locals : Locals) (p : Progress) → keywords_nodes (core_defaults out ds keys n locals p).0.0 ≤ defaults_size ds
    defaults_small no_core keys n locals p = omega arith
    defaults_small (core_and default rest) [] n locals p = omega arith
    defaults_small (core_and default rest) (key ∷ keys) n locals p =
        let q = told_of key.1 p in
        omega (arith, term_small default locals q, defaults_small rest keys (n + 1) ((Named key.0, stands.Local n) ∷ locals) (core_term out default locals q).1)

    -- clauses with their first expressions
    clauses_small : (cs : CoreClauses) (locals : Locals) (m n : ℕ) (within : Locals) (p : Progress)
        → total (map nodes_of_clause (core_clauses out cs (core_firsts out cs locals m).0 n within p).0) ≤ clauses_size cs
    clauses_small no_clause locals m n within p = omega arith
    clauses_small (clause_and first rest) locals m n within p =
        let f = core_first out first locals (fresh m) in
        let c = core_clause out first (record f.0 { fault = f.1.first }) n within p in
        omega (arith, clause_small first locals (fresh m) f.1.first n within p, clauses_small rest locals f.1.next (n + 1) within c.1)

    clause_small : (c : CoreClause) (locals : Locals) (q : Progress) (fault : Option Fault) (n : ℕ) (within : Locals) (p : Progress)
        → nodes_of_clause (core_clause out c (record (core_first out c locals q).0 { fault = fault }) n within p).0 ≤ clause_size c
    clause_small (then_clause variable declared first next) locals q fault n within p =
        let t = read_type out declared locals q in
        let f = core_term out first locals t.1 in
        let u = told_some fault p in
        omega (arith, then_nodes n t.0 f.0 (core_term out next within u).0, term_small first locals t.1, term_small next within u)
    clause_small (in_clause variable declared collection) locals q fault n within p =
        let t = read_type out declared locals q in
        omega (arith, in_nodes n t.0 (core_term out collection locals t.1).0, term_small collection locals t.1)
    clause_small (from_clause variable declared start limit step) locals q fault n within p =
        let t = read_type out declared locals q in
        let f = core_term out start locals t.1 in
        let l = core_limit out limit locals f.1 in
        let s = core_maybe out step locals l.1 in
        omega (arith, from_nodes n t.0 f.0 l.0 s.0, term_small start locals t.1, limit_small limit locals f.1, maybe_small step locals l.1)

    limit_small : (l : CoreLimit) (locals : Locals) (p : Progress) → behind_nodes (core_limit out l locals p).0 ≤ limit_size l
    limit_small no_limit locals p = omega arith
    limit_small (a_limit limit inner) locals p = omega (arith, term_small inner locals p)

    test_small : (t : CoreTest) (locals : Locals) (p : Progress) → behind_nodes (core_test out t locals p).0 ≤ test_size t
    test_small no_test locals p = omega arith
    test_small (a_test ends test) locals p = omega (arith, term_small test locals p)

    catches_small : (cs : CoreCatches) (n : ℕ) (locals : Locals) (p : Progress) → catches_nodes (core_catches out cs n locals p).0 ≤ catches_size cs
    catches_small no_catch n locals p = omega arith
    catches_small (catch_and variable condition inner rest) n locals p =
        let c = read_type out condition locals p in
        let ls = bound_some n (option_map Named variable) locals in
        omega (arith, term_small inner ls c.1, catches_small rest (n + count variable) locals (core_term out inner ls c.1).1)
