-- Terms, variant by variant: which are lowered yet, which are in scope, and how many locals they
-- have.
use Rattle.std.proofs.Common.{◌≡◌, ℕ, ◌+◌, Bool, true, false, ◌&&◌, List, map, Option, Some, None, sym, ap, ◌∙◌}
use Rattle.std.specs.Prelude.{max, nat_lt}
use Rattle.std.specs.Option.{option_map}
use Rattle.dy_base.specs.declared.ids.BindingId.{BindingId}
use Rattle.dy_base.specs.declared.ids.ClassId.{ClassId}
use Rattle.dy_base.specs.declared.ids.GenericId.{GenericId}
use Rattle.dy_term.specs.declared.literal.Literal.{Literal}
use Rattle.dy_term.specs.declared.types.DyType.{DyType}
use Rattle.dy_term.specs.declared.term.ForClause.{ForClause}
use Rattle.dy_term.specs.declared.term.Item.{Item, Item-F, roll-Item, map-Item, fold-roll-Item, Run}
use Rattle.dy_term.specs.declared.term.Item.{Let, LetMethods, Handler}
use Rattle.dy_term.specs.declared.term.Item.TheVariants.{rolls-Run, rolls-Let, rolls-LetMethods}
use Rattle.dy_term.specs.declared.term.Item.TheVariants.{rolls-Handler}
use Rattle.dy_term.specs.declared.term.Term.{Term, Term-F, roll-Term, map-Term, fold-roll-Term, Lit}
use Rattle.dy_term.specs.declared.term.Term.{Local, Global, ClassName, GenericName, SetLocal}
use Rattle.dy_term.specs.declared.term.Term.{SetGlobal, Call, Site, Cond, And, Or, Select, Body}
use Rattle.dy_term.specs.declared.term.Term.{Loop, For, Method, Block, Op, Next}
use Rattle.dy_term.specs.declared.term.Term.TheVariants.{rolls-Lit, rolls-Local, rolls-Global}
use Rattle.dy_term.specs.declared.term.Term.TheVariants.{rolls-ClassName, rolls-GenericName}
use Rattle.dy_term.specs.declared.term.Term.TheVariants.{rolls-SetLocal, rolls-SetGlobal}
use Rattle.dy_term.specs.declared.term.Term.TheVariants.{rolls-Call, rolls-Site, rolls-Cond}
use Rattle.dy_term.specs.declared.term.Term.TheVariants.{rolls-And, rolls-Or, rolls-Select}
use Rattle.dy_term.specs.declared.term.Term.TheVariants.{rolls-Body, rolls-Loop, rolls-For}
use Rattle.dy_term.specs.declared.term.Term.TheVariants.{rolls-Method, rolls-Block, rolls-Op}
use Rattle.dy_term.specs.declared.term.Term.TheVariants.{rolls-Next}
use Rattle.dy_term.specs.declared.term.BlockRow.{BlockRow}
use Rattle.dy_term.specs.declared.term.ForRow.{ForRow}
use Rattle.dy_term.specs.declared.term.Lambda.{Lambda, Lambda-F, roll-Lambda, map-Lambda}
use Rattle.dy_term.specs.declared.term.Lambda.{fold-roll-Lambda}
use Rattle.dy_meaning.specs.Globals.{is_variable}
use Rattle.dy_meaning.specs.Numbers.{greatest, held, behind, term_numbers, item_numbers}
use Rattle.dy_meaning.specs.Numbers.{lambda_numbers, numbers_in, numbers_in_clause}
use Rattle.dy_meaning.specs.Numbers.{numbers_in_item, numbers_in_block, numbers_in_for}
use Rattle.dy_meaning.specs.Numbers.{numbers_in_lambda}
use Rattle.dy_lowered.specs.Readiness.{is_own, is_set, with_rest, all_ready, held_ready, are_distinct}
use Rattle.dy_lowering_whole.specs.valid.Scoped.{Scoping, all_scoped, held_scoped}
use Rattle.dy_lowering_whole.specs.valid.Scoped.{pairs_scoped, arms_scoped, methods_scoped}
use Rattle.dy_lowering_whole.specs.valid.Scoped.{are_own, item_scoped, term_scoped, lambda_scoped}
use Rattle.dy_lowering_whole.specs.valid.Scoped.{is_clause_scoped, is_item_scoped, is_scoped}
use Rattle.dy_lowering_whole.specs.valid.Scoped.{is_block_scoped, is_for_scoped, is_lambda_scoped}
use Rattle.dy_lowering_whole.specs.Lowered.{term_lowered, item_lowered, lambda_lowered, clause_lowered}
use Rattle.dy_lowering_whole.specs.Lowered.{block_lowered, for_lowered, is_lowered, is_item_lowered}
use Rattle.dy_lowering_whole.specs.Lowered.{is_lambda_lowered}
use Rattle.dy_term.specs.declared.term.ForClause.{fold-ForClause}
use Rattle.dy_term.specs.declared.term.BlockRow.{fold-BlockRow}
use Rattle.dy_term.specs.declared.term.ForRow.{fold-ForRow}
use Rattle.dy_term.specs.declared.term.Limit.{Limit}
use Rattle.dy_term.specs.declared.term.ForClause.{ForClause-F, roll-ForClause, map-ForClause, fold-roll-ForClause, Then, In, From}
use Rattle.dy_term.specs.declared.term.ForClause.TheVariants.{rolls-Then, rolls-In, rolls-From}
use Rattle.dy_term.specs.declared.term.ForRow.{roll-ForRow, fold-roll-ForRow}
use Rattle.dy_meaning.specs.Numbers.{second, clause_numbers}
use Rattle.dy_lowering_whole.specs.valid.Scoped.{second_scoped, clause_scoped}
use Rattle.dy_lowering_whole.specs.Lowered.{second_lowered}

abbrev pub is_clause_lowered : ForClause → Bool
is_clause_lowered = fold-ForClause Bool Bool Bool Bool Bool Bool clause_lowered item_lowered
    term_lowered block_lowered for_lowered lambda_lowered

abbrev is_block_lowered : BlockRow → Bool
is_block_lowered = fold-BlockRow Bool Bool Bool Bool Bool Bool clause_lowered item_lowered
    term_lowered block_lowered for_lowered lambda_lowered

abbrev pub is_for_lowered : ForRow → Bool
is_for_lowered = fold-ForRow Bool Bool Bool Bool Bool Bool clause_lowered item_lowered
    term_lowered block_lowered for_lowered lambda_lowered

pub term_lowered_is : (x : Term-F ForClause Item Term BlockRow ForRow Lambda)
    → is_lowered (roll-Term x)
    ≡ term_lowered (map-Term _ _ _ _ _ _ _ _ _ _ _ _ is_clause_lowered is_item_lowered is_lowered is_block_lowered is_for_lowered is_lambda_lowered x)
term_lowered_is = fold-roll-Term _ _ _ _ _ _ _ _ _ _ _ _

pub item_lowered_is : (x : Item-F ForClause Item Term BlockRow ForRow Lambda)
    → is_item_lowered (roll-Item x)
    ≡ item_lowered (map-Item _ _ _ _ _ _ _ _ _ _ _ _ is_clause_lowered is_item_lowered is_lowered is_block_lowered is_for_lowered is_lambda_lowered x)
item_lowered_is = fold-roll-Item _ _ _ _ _ _ _ _ _ _ _ _

pub lambda_lowered_is : (x : Lambda-F ForClause Item Term BlockRow ForRow Lambda)
    → is_lambda_lowered (roll-Lambda x)
    ≡ lambda_lowered (map-Lambda _ _ _ _ _ _ _ _ _ _ _ _ is_clause_lowered is_item_lowered is_lowered is_block_lowered is_for_lowered is_lambda_lowered x)
lambda_lowered_is = fold-roll-Lambda _ _ _ _ _ _ _ _ _ _ _ _

pub term_scoped_is : (x : Term-F ForClause Item Term BlockRow ForRow Lambda)
    → is_scoped (roll-Term x)
    ≡ term_scoped (map-Term _ _ _ _ _ _ _ _ _ _ _ _ is_clause_scoped is_item_scoped is_scoped is_block_scoped is_for_scoped is_lambda_scoped x)
term_scoped_is = fold-roll-Term _ _ _ _ _ _ _ _ _ _ _ _

pub item_scoped_is : (x : Item-F ForClause Item Term BlockRow ForRow Lambda)
    → is_item_scoped (roll-Item x)
    ≡ item_scoped (map-Item _ _ _ _ _ _ _ _ _ _ _ _ is_clause_scoped is_item_scoped is_scoped is_block_scoped is_for_scoped is_lambda_scoped x)
item_scoped_is = fold-roll-Item _ _ _ _ _ _ _ _ _ _ _ _

pub lambda_scoped_is : (x : Lambda-F ForClause Item Term BlockRow ForRow Lambda)
    → is_lambda_scoped (roll-Lambda x)
    ≡ lambda_scoped (map-Lambda _ _ _ _ _ _ _ _ _ _ _ _ is_clause_scoped is_item_scoped is_scoped is_block_scoped is_for_scoped is_lambda_scoped x)
lambda_scoped_is = fold-roll-Lambda _ _ _ _ _ _ _ _ _ _ _ _

pub term_numbers_is : (x : Term-F ForClause Item Term BlockRow ForRow Lambda)
    → numbers_in (roll-Term x)
    ≡ term_numbers (map-Term _ _ _ _ _ _ _ _ _ _ _ _ numbers_in_clause numbers_in_item numbers_in numbers_in_block numbers_in_for numbers_in_lambda x)
term_numbers_is = fold-roll-Term _ _ _ _ _ _ _ _ _ _ _ _

pub item_numbers_is : (x : Item-F ForClause Item Term BlockRow ForRow Lambda)
    → numbers_in_item (roll-Item x)
    ≡ item_numbers (map-Item _ _ _ _ _ _ _ _ _ _ _ _ numbers_in_clause numbers_in_item numbers_in numbers_in_block numbers_in_for numbers_in_lambda x)
item_numbers_is = fold-roll-Item _ _ _ _ _ _ _ _ _ _ _ _

pub lambda_numbers_is : (x : Lambda-F ForClause Item Term BlockRow ForRow Lambda)
    → numbers_in_lambda (roll-Lambda x)
    ≡ lambda_numbers (map-Lambda _ _ _ _ _ _ _ _ _ _ _ _ numbers_in_clause numbers_in_item numbers_in numbers_in_block numbers_in_for numbers_in_lambda x)
lambda_numbers_is = fold-roll-Lambda _ _ _ _ _ _ _ _ _ _ _ _

abbrev pub branches_lowered : List (Term × Term) → Bool
branches_lowered bs = all_ready (map (λ (b : Bool × Bool). b.0 && b.1)
    (map (λ (b : Term × Term). (is_lowered b.0, is_lowered b.1)) bs))

abbrev pub branches_scoped : List (Term × Term) → Scoping
branches_scoped bs =
    pairs_scoped (map (λ (b : Term × Term). (is_scoped b.0, is_scoped b.1)) bs)

abbrev pub branches_numbers : List (Term × Term) → ℕ
branches_numbers bs = greatest (map (λ (b : ℕ × ℕ). max b.0 b.1)
    (map (λ (b : Term × Term). (numbers_in b.0, numbers_in b.1)) bs))

abbrev pub arms_lowered : List (List Term × Term) → Bool
arms_lowered arms = all_ready (map (λ (a : List Bool × Bool). all_ready a.0 && a.1)
    (map (λ (a : List Term × Term). (map is_lowered a.0, is_lowered a.1)) arms))

abbrev pub arms_in_scope : List (List Term × Term) → Scoping
arms_in_scope arms =
    arms_scoped (map (λ (a : List Term × Term). (map is_scoped a.0, is_scoped a.1)) arms)

abbrev pub arms_numbers : List (List Term × Term) → ℕ
arms_numbers arms = greatest (map (λ (a : List ℕ × ℕ). max (greatest a.0) a.1)
    (map (λ (a : List Term × Term). (map numbers_in a.0, numbers_in a.1)) arms))

abbrev pub maybe_lowered : Option Term → Bool
maybe_lowered t = held_ready (option_map is_lowered t)

abbrev pub maybe_scoped : Option Term → Scoping
maybe_scoped t = held_scoped (option_map is_scoped t)

abbrev pub maybe_numbers : Option Term → ℕ
maybe_numbers t = held (option_map numbers_in t)

abbrev pub local_methods_lowered : List (ℕ × Lambda) → Bool
local_methods_lowered ms = all_ready (map (λ (m : ℕ × Bool). m.1)
    (map (λ (m : ℕ × Lambda). (m.0, is_lambda_lowered m.1)) ms))

abbrev pub local_methods_scoped : List (ℕ × Lambda) → Scoping
local_methods_scoped ms =
    methods_scoped (map (λ (m : ℕ × Lambda). (m.0, is_lambda_scoped m.1)) ms)

abbrev pub local_methods_numbers : List (ℕ × Lambda) → ℕ
local_methods_numbers ms = greatest (map (λ (m : ℕ × ℕ). max (m.0 + 1) m.1)
    (map (λ (m : ℕ × Lambda). (m.0, numbers_in_lambda m.1)) ms))

pub scoped_lit : (v : Literal) → is_scoped (Lit v)
    ≡ (λ first last. true)
scoped_lit v = ap is_scoped (sym (rolls-Lit v)) ∙ term_scoped_is (Term-F.Lit v)

pub scoped_local : (k : ℕ) → is_scoped (Local k)
    ≡ (λ first last. nat_lt k last)
scoped_local k = ap is_scoped (sym (rolls-Local k)) ∙ term_scoped_is (Term-F.Local k)

pub scoped_global : (b : BindingId) → is_scoped (Global b)
    ≡ (λ first last. is_variable b.what)
scoped_global b = ap is_scoped (sym (rolls-Global b)) ∙ term_scoped_is (Term-F.Global b)

pub scoped_class : (c : ClassId) → is_scoped (ClassName c)
    ≡ (λ first last. true)
scoped_class c = ap is_scoped (sym (rolls-ClassName c)) ∙ term_scoped_is (Term-F.ClassName c)

pub scoped_generic : (g : GenericId) → is_scoped (GenericName g)
    ≡ (λ first last. true)
scoped_generic g = ap is_scoped (sym (rolls-GenericName g)) ∙ term_scoped_is (Term-F.GenericName g)

pub lowered_set_local : (k : ℕ) (t : Term) → is_lowered (SetLocal k t)
    ≡ (is_lowered t)
lowered_set_local k t = ap is_lowered (sym (rolls-SetLocal k t)) ∙ term_lowered_is (Term-F.SetLocal k t)

pub scoped_set_local : (k : ℕ) (t : Term) → is_scoped (SetLocal k t)
    ≡ (λ first last. nat_lt k last && is_scoped t first last)
scoped_set_local k t = ap is_scoped (sym (rolls-SetLocal k t)) ∙ term_scoped_is (Term-F.SetLocal k t)

pub numbers_set_local : (k : ℕ) (t : Term) → numbers_in (SetLocal k t)
    ≡ (numbers_in t)
numbers_set_local k t = ap numbers_in (sym (rolls-SetLocal k t)) ∙ term_numbers_is (Term-F.SetLocal k t)

pub lowered_set_global : (b : BindingId) (t : Term) → is_lowered (SetGlobal b t)
    ≡ (is_lowered t)
lowered_set_global b t = ap is_lowered (sym (rolls-SetGlobal b t)) ∙ term_lowered_is (Term-F.SetGlobal b t)

pub scoped_set_global : (b : BindingId) (t : Term) → is_scoped (SetGlobal b t)
    ≡ (λ first last. is_set b.what && is_scoped t first last)
scoped_set_global b t = ap is_scoped (sym (rolls-SetGlobal b t)) ∙ term_scoped_is (Term-F.SetGlobal b t)

pub numbers_set_global : (b : BindingId) (t : Term) → numbers_in (SetGlobal b t)
    ≡ (numbers_in t)
numbers_set_global b t = ap numbers_in (sym (rolls-SetGlobal b t)) ∙ term_numbers_is (Term-F.SetGlobal b t)

pub lowered_call : (f : Term) (ts : List Term) → is_lowered (Call f ts)
    ≡ (is_lowered f && all_ready (map is_lowered ts))
lowered_call f ts = ap is_lowered (sym (rolls-Call f ts)) ∙ term_lowered_is (Term-F.Call f ts)

pub scoped_call : (f : Term) (ts : List Term) → is_scoped (Call f ts)
    ≡ (λ first last. is_scoped f first last && all_scoped (map is_scoped ts) first last)
scoped_call f ts = ap is_scoped (sym (rolls-Call f ts)) ∙ term_scoped_is (Term-F.Call f ts)

pub numbers_call : (f : Term) (ts : List Term) → numbers_in (Call f ts)
    ≡ (max (numbers_in f) (greatest (map numbers_in ts)))
numbers_call f ts = ap numbers_in (sym (rolls-Call f ts)) ∙ term_numbers_is (Term-F.Call f ts)

pub lowered_site : (g : GenericId) (ts : List Term) → is_lowered (Site g ts)
    ≡ (all_ready (map is_lowered ts))
lowered_site g ts = ap is_lowered (sym (rolls-Site g ts)) ∙ term_lowered_is (Term-F.Site g ts)

pub scoped_site : (g : GenericId) (ts : List Term) → is_scoped (Site g ts)
    ≡ (λ first last. all_scoped (map is_scoped ts) first last)
scoped_site g ts = ap is_scoped (sym (rolls-Site g ts)) ∙ term_scoped_is (Term-F.Site g ts)

pub numbers_site : (g : GenericId) (ts : List Term) → numbers_in (Site g ts)
    ≡ (greatest (map numbers_in ts))
numbers_site g ts = ap numbers_in (sym (rolls-Site g ts)) ∙ term_numbers_is (Term-F.Site g ts)

pub lowered_op : (k : ℕ) (ts : List Term) → is_lowered (Op k ts)
    ≡ (all_ready (map is_lowered ts))
lowered_op k ts = ap is_lowered (sym (rolls-Op k ts)) ∙ term_lowered_is (Term-F.Op k ts)

pub scoped_op : (k : ℕ) (ts : List Term) → is_scoped (Op k ts)
    ≡ (λ first last. all_scoped (map is_scoped ts) first last)
scoped_op k ts = ap is_scoped (sym (rolls-Op k ts)) ∙ term_scoped_is (Term-F.Op k ts)

pub numbers_op : (k : ℕ) (ts : List Term) → numbers_in (Op k ts)
    ≡ (greatest (map numbers_in ts))
numbers_op k ts = ap numbers_in (sym (rolls-Op k ts)) ∙ term_numbers_is (Term-F.Op k ts)

pub lowered_cond : (bs : List (Term × Term)) (t : Term) → is_lowered (Cond bs t)
    ≡ (branches_lowered bs && is_lowered t)
lowered_cond bs t = ap is_lowered (sym (rolls-Cond bs t)) ∙ term_lowered_is (Term-F.Cond bs t)

pub scoped_cond : (bs : List (Term × Term)) (t : Term) → is_scoped (Cond bs t)
    ≡ (λ first last. branches_scoped bs first last && is_scoped t first last)
scoped_cond bs t = ap is_scoped (sym (rolls-Cond bs t)) ∙ term_scoped_is (Term-F.Cond bs t)

pub numbers_cond : (bs : List (Term × Term)) (t : Term) → numbers_in (Cond bs t)
    ≡ (max (branches_numbers bs) (numbers_in t))
numbers_cond bs t = ap numbers_in (sym (rolls-Cond bs t)) ∙ term_numbers_is (Term-F.Cond bs t)

pub lowered_and : (s t : Term) → is_lowered (And s t)
    ≡ (is_lowered s && is_lowered t)
lowered_and s t = ap is_lowered (sym (rolls-And s t)) ∙ term_lowered_is (Term-F.And s t)

pub scoped_and : (s t : Term) → is_scoped (And s t)
    ≡ (λ first last. is_scoped s first last && is_scoped t first last)
scoped_and s t = ap is_scoped (sym (rolls-And s t)) ∙ term_scoped_is (Term-F.And s t)

pub numbers_and : (s t : Term) → numbers_in (And s t)
    ≡ (max (numbers_in s) (numbers_in t))
numbers_and s t = ap numbers_in (sym (rolls-And s t)) ∙ term_numbers_is (Term-F.And s t)

pub lowered_or : (s t : Term) → is_lowered (Or s t)
    ≡ (is_lowered s && is_lowered t)
lowered_or s t = ap is_lowered (sym (rolls-Or s t)) ∙ term_lowered_is (Term-F.Or s t)

pub scoped_or : (s t : Term) → is_scoped (Or s t)
    ≡ (λ first last. is_scoped s first last && is_scoped t first last)
scoped_or s t = ap is_scoped (sym (rolls-Or s t)) ∙ term_scoped_is (Term-F.Or s t)

pub numbers_or : (s t : Term) → numbers_in (Or s t)
    ≡ (max (numbers_in s) (numbers_in t))
numbers_or s t = ap numbers_in (sym (rolls-Or s t)) ∙ term_numbers_is (Term-F.Or s t)

pub lowered_loop : (s t : Term) → is_lowered (Loop s t)
    ≡ (is_lowered s && is_lowered t)
lowered_loop s t = ap is_lowered (sym (rolls-Loop s t)) ∙ term_lowered_is (Term-F.Loop s t)

pub scoped_loop : (s t : Term) → is_scoped (Loop s t)
    ≡ (λ first last. is_scoped s first last && is_scoped t first last)
scoped_loop s t = ap is_scoped (sym (rolls-Loop s t)) ∙ term_scoped_is (Term-F.Loop s t)

pub numbers_loop : (s t : Term) → numbers_in (Loop s t)
    ≡ (max (numbers_in s) (numbers_in t))
numbers_loop s t = ap numbers_in (sym (rolls-Loop s t)) ∙ term_numbers_is (Term-F.Loop s t)

pub lowered_body : (is : List Item) → is_lowered (Body is)
    ≡ (all_ready (map is_item_lowered is))
lowered_body is = ap is_lowered (sym (rolls-Body is)) ∙ term_lowered_is (Term-F.Body is)

pub scoped_body : (is : List Item) → is_scoped (Body is)
    ≡ (λ first last. all_scoped (map is_item_scoped is) first last)
scoped_body is = ap is_scoped (sym (rolls-Body is)) ∙ term_scoped_is (Term-F.Body is)

pub numbers_body : (is : List Item) → numbers_in (Body is)
    ≡ (greatest (map numbers_in_item is))
numbers_body is = ap numbers_in (sym (rolls-Body is)) ∙ term_numbers_is (Term-F.Body is)

pub lowered_method : (l : Lambda) → is_lowered (Method l)
    ≡ (is_lambda_lowered l)
lowered_method l = ap is_lowered (sym (rolls-Method l)) ∙ term_lowered_is (Term-F.Method l)

pub scoped_method : (l : Lambda) → is_scoped (Method l)
    ≡ (λ first last. is_lambda_scoped l first last)
scoped_method l = ap is_scoped (sym (rolls-Method l)) ∙ term_scoped_is (Term-F.Method l)

pub numbers_method : (l : Lambda) → numbers_in (Method l)
    ≡ (numbers_in_lambda l)
numbers_method l = ap numbers_in (sym (rolls-Method l)) ∙ term_numbers_is (Term-F.Method l)

pub lowered_block : (r : BlockRow) → is_lowered (Block r)
    ≡ (false)
lowered_block r = ap is_lowered (sym (rolls-Block r)) ∙ term_lowered_is (Term-F.Block r)

pub lowered_next : (o : Option (List Term)) → is_lowered (Next o) ≡ false
lowered_next None = ap is_lowered (sym (rolls-Next None)) ∙ term_lowered_is (Term-F.Next None)
lowered_next (Some ts) =
    ap is_lowered (sym (rolls-Next (Some ts))) ∙ term_lowered_is (Term-F.Next (Some ts))

pub lowered_select : (v : Term) (t : Option Term) (arms : List (List Term × Term)) (l : Option Term)
    → is_lowered (Select v t arms l)
    ≡ (is_lowered v && (maybe_lowered t && (arms_lowered arms && maybe_lowered l)))
lowered_select v None arms None =
    ap is_lowered (sym (rolls-Select v None arms None)) ∙ term_lowered_is (Term-F.Select v None arms None)
lowered_select v None arms (Some l) =
    ap is_lowered (sym (rolls-Select v None arms (Some l))) ∙ term_lowered_is (Term-F.Select v None arms (Some l))
lowered_select v (Some t) arms None =
    ap is_lowered (sym (rolls-Select v (Some t) arms None)) ∙ term_lowered_is (Term-F.Select v (Some t) arms None)
lowered_select v (Some t) arms (Some l) =
    ap is_lowered (sym (rolls-Select v (Some t) arms (Some l))) ∙ term_lowered_is (Term-F.Select v (Some t) arms (Some l))

pub scoped_select : (v : Term) (t : Option Term) (arms : List (List Term × Term)) (l : Option Term)
    → is_scoped (Select v t arms l)
    ≡ (λ first last. is_scoped v first last && (maybe_scoped t first last && (arms_in_scope arms first last && maybe_scoped l first last)))
scoped_select v None arms None =
    ap is_scoped (sym (rolls-Select v None arms None)) ∙ term_scoped_is (Term-F.Select v None arms None)
scoped_select v None arms (Some l) =
    ap is_scoped (sym (rolls-Select v None arms (Some l))) ∙ term_scoped_is (Term-F.Select v None arms (Some l))
scoped_select v (Some t) arms None =
    ap is_scoped (sym (rolls-Select v (Some t) arms None)) ∙ term_scoped_is (Term-F.Select v (Some t) arms None)
scoped_select v (Some t) arms (Some l) =
    ap is_scoped (sym (rolls-Select v (Some t) arms (Some l))) ∙ term_scoped_is (Term-F.Select v (Some t) arms (Some l))

pub numbers_select : (v : Term) (t : Option Term) (arms : List (List Term × Term)) (l : Option Term)
    → numbers_in (Select v t arms l)
    ≡ (max (numbers_in v) (max (maybe_numbers t) (max (arms_numbers arms) (maybe_numbers l))))
numbers_select v None arms None =
    ap numbers_in (sym (rolls-Select v None arms None)) ∙ term_numbers_is (Term-F.Select v None arms None)
numbers_select v None arms (Some l) =
    ap numbers_in (sym (rolls-Select v None arms (Some l))) ∙ term_numbers_is (Term-F.Select v None arms (Some l))
numbers_select v (Some t) arms None =
    ap numbers_in (sym (rolls-Select v (Some t) arms None)) ∙ term_numbers_is (Term-F.Select v (Some t) arms None)
numbers_select v (Some t) arms (Some l) =
    ap numbers_in (sym (rolls-Select v (Some t) arms (Some l))) ∙ term_numbers_is (Term-F.Select v (Some t) arms (Some l))

pub lowered_run : (t : Term) → is_item_lowered (Run t)
    ≡ (is_lowered t)
lowered_run t = ap is_item_lowered (sym (rolls-Run t)) ∙ item_lowered_is (Item-F.Run t)

pub scoped_run : (t : Term) → is_item_scoped (Run t)
    ≡ (λ first last. is_scoped t first last)
scoped_run t = ap is_item_scoped (sym (rolls-Run t)) ∙ item_scoped_is (Item-F.Run t)

pub numbers_run : (t : Term) → numbers_in_item (Run t)
    ≡ (numbers_in t)
numbers_run t = ap numbers_in_item (sym (rolls-Run t)) ∙ item_numbers_is (Item-F.Run t)

pub lowered_let : (ns : List (ℕ × DyType)) (r : Option ℕ) (t : Term) → is_item_lowered (Let ns r t)
    ≡ (are_distinct (with_rest (map (λ (n : ℕ × DyType). n.0) ns) r) && is_lowered t)
lowered_let ns r t = ap is_item_lowered (sym (rolls-Let ns r t)) ∙ item_lowered_is (Item-F.Let ns r t)

pub scoped_let : (ns : List (ℕ × DyType)) (r : Option ℕ) (t : Term) → is_item_scoped (Let ns r t)
    ≡ (λ first last. are_own (with_rest (map (λ (n : ℕ × DyType). n.0) ns) r) first last && is_scoped t first last)
scoped_let ns r t = ap is_item_scoped (sym (rolls-Let ns r t)) ∙ item_scoped_is (Item-F.Let ns r t)

pub numbers_let : (ns : List (ℕ × DyType)) (r : Option ℕ) (t : Term) → numbers_in_item (Let ns r t)
    ≡ (max (greatest (map (λ (n : ℕ × DyType). n.0 + 1) ns)) (max (behind r) (numbers_in t)))
numbers_let ns r t = ap numbers_in_item (sym (rolls-Let ns r t)) ∙ item_numbers_is (Item-F.Let ns r t)

pub lowered_methods : (ms : List (ℕ × Lambda)) → is_item_lowered (LetMethods ms)
    ≡ (local_methods_lowered ms)
lowered_methods ms = ap is_item_lowered (sym (rolls-LetMethods ms)) ∙ item_lowered_is (Item-F.LetMethods ms)

pub scoped_methods : (ms : List (ℕ × Lambda)) → is_item_scoped (LetMethods ms)
    ≡ (λ first last. local_methods_scoped ms first last)
scoped_methods ms = ap is_item_scoped (sym (rolls-LetMethods ms)) ∙ item_scoped_is (Item-F.LetMethods ms)

pub numbers_methods : (ms : List (ℕ × Lambda)) → numbers_in_item (LetMethods ms)
    ≡ (local_methods_numbers ms)
numbers_methods ms = ap numbers_in_item (sym (rolls-LetMethods ms)) ∙ item_numbers_is (Item-F.LetMethods ms)

pub lowered_handler : (d : DyType) (t : Term) → is_item_lowered (Handler d t)
    ≡ (false)
lowered_handler d t = ap is_item_lowered (sym (rolls-Handler d t)) ∙ item_lowered_is (Item-F.Handler d t)

pub lowered_for : (r : ForRow) → is_lowered (For r) ≡ is_for_lowered r
lowered_for r = ap is_lowered (sym (rolls-For r)) ∙ term_lowered_is (Term-F.For r)

pub scoped_for : (r : ForRow) → is_scoped (For r) ≡ (λ first last. is_for_scoped r first last)
scoped_for r = ap is_scoped (sym (rolls-For r)) ∙ term_scoped_is (Term-F.For r)

pub numbers_for : (r : ForRow) → numbers_in (For r) ≡ numbers_in_for r
numbers_for r = ap numbers_in (sym (rolls-For r)) ∙ term_numbers_is (Term-F.For r)

-- a term behind something else, which may be left out
abbrev pub behind_lowered : {A : Type 0} → Option (A × Term) → Bool
behind_lowered {A} t = second_lowered (option_map {U = A × Bool} (λ (x : A × Term). (x.0, is_lowered x.1)) t)

abbrev pub behind_scoped : {A : Type 0} → Option (A × Term) → Scoping
behind_scoped {A} t = second_scoped (option_map {U = A × Scoping} (λ (x : A × Term). (x.0, is_scoped x.1)) t)

abbrev pub behind_numbers : {A : Type 0} → Option (A × Term) → ℕ
behind_numbers {A} t = second (option_map {U = A × ℕ} (λ (x : A × Term). (x.0, numbers_in x.1)) t)

pub row_lowered : (cs : List ForClause) (test : Option (Bool × Term)) (body : Term) (finally : Option Term)
    → is_for_lowered (roll-ForRow (record { clauses = cs; test = test; body = body; finally = finally }))
    ≡ (all_ready (map is_clause_lowered cs) && (behind_lowered test && (is_lowered body && maybe_lowered finally)))
row_lowered cs None body None = fold-roll-ForRow _ _ _ _ _ _ _ _ _ _ _ _ _
row_lowered cs None body (Some e) = fold-roll-ForRow _ _ _ _ _ _ _ _ _ _ _ _ _
row_lowered cs (Some t) body None = fold-roll-ForRow _ _ _ _ _ _ _ _ _ _ _ _ _
row_lowered cs (Some t) body (Some e) = fold-roll-ForRow _ _ _ _ _ _ _ _ _ _ _ _ _

pub row_scoped : (cs : List ForClause) (test : Option (Bool × Term)) (body : Term) (finally : Option Term)
    → is_for_scoped (roll-ForRow (record { clauses = cs; test = test; body = body; finally = finally }))
    ≡ (λ first last. all_scoped (map is_clause_scoped cs) first last && (behind_scoped test first last && (is_scoped body first last && maybe_scoped finally first last)))
row_scoped cs None body None = fold-roll-ForRow _ _ _ _ _ _ _ _ _ _ _ _ _
row_scoped cs None body (Some e) = fold-roll-ForRow _ _ _ _ _ _ _ _ _ _ _ _ _
row_scoped cs (Some t) body None = fold-roll-ForRow _ _ _ _ _ _ _ _ _ _ _ _ _
row_scoped cs (Some t) body (Some e) = fold-roll-ForRow _ _ _ _ _ _ _ _ _ _ _ _ _

pub row_numbers : (cs : List ForClause) (test : Option (Bool × Term)) (body : Term) (finally : Option Term)
    → numbers_in_for (roll-ForRow (record { clauses = cs; test = test; body = body; finally = finally }))
    ≡ (max (greatest (map numbers_in_clause cs)) (max (behind_numbers test) (max (numbers_in body) (maybe_numbers finally))))
row_numbers cs None body None = fold-roll-ForRow _ _ _ _ _ _ _ _ _ _ _ _ _
row_numbers cs None body (Some e) = fold-roll-ForRow _ _ _ _ _ _ _ _ _ _ _ _ _
row_numbers cs (Some t) body None = fold-roll-ForRow _ _ _ _ _ _ _ _ _ _ _ _ _
row_numbers cs (Some t) body (Some e) = fold-roll-ForRow _ _ _ _ _ _ _ _ _ _ _ _ _

clause_lowered_is : (x : ForClause-F ForClause Item Term BlockRow ForRow Lambda)
    → is_clause_lowered (roll-ForClause x)
    ≡ clause_lowered (map-ForClause _ _ _ _ _ _ _ _ _ _ _ _ is_clause_lowered is_item_lowered is_lowered is_block_lowered is_for_lowered is_lambda_lowered x)
clause_lowered_is = fold-roll-ForClause _ _ _ _ _ _ _ _ _ _ _ _

clause_scoped_is : (x : ForClause-F ForClause Item Term BlockRow ForRow Lambda)
    → is_clause_scoped (roll-ForClause x)
    ≡ clause_scoped (map-ForClause _ _ _ _ _ _ _ _ _ _ _ _ is_clause_scoped is_item_scoped is_scoped is_block_scoped is_for_scoped is_lambda_scoped x)
clause_scoped_is = fold-roll-ForClause _ _ _ _ _ _ _ _ _ _ _ _

clause_numbers_is : (x : ForClause-F ForClause Item Term BlockRow ForRow Lambda)
    → numbers_in_clause (roll-ForClause x)
    ≡ clause_numbers (map-ForClause _ _ _ _ _ _ _ _ _ _ _ _ numbers_in_clause numbers_in_item numbers_in numbers_in_block numbers_in_for numbers_in_lambda x)
clause_numbers_is = fold-roll-ForClause _ _ _ _ _ _ _ _ _ _ _ _

pub lowered_then : (k : ℕ) (d : DyType) (f : Term) (t : Term) → is_clause_lowered (Then k d f t)
    ≡ (is_lowered f && is_lowered t)
lowered_then k d f t = ap is_clause_lowered (sym (rolls-Then k d f t)) ∙ clause_lowered_is (ForClause-F.Then k d f t)

pub scoped_then : (k : ℕ) (d : DyType) (f : Term) (t : Term) → is_clause_scoped (Then k d f t)
    ≡ (λ first last. is_own first last k && (is_scoped f first last && is_scoped t first last))
scoped_then k d f t = ap is_clause_scoped (sym (rolls-Then k d f t)) ∙ clause_scoped_is (ForClause-F.Then k d f t)

pub numbers_then : (k : ℕ) (d : DyType) (f : Term) (t : Term) → numbers_in_clause (Then k d f t)
    ≡ (max (k + 1) (max (numbers_in f) (numbers_in t)))
numbers_then k d f t = ap numbers_in_clause (sym (rolls-Then k d f t)) ∙ clause_numbers_is (ForClause-F.Then k d f t)

pub lowered_in : (k : ℕ) (d : DyType) (f : Term) → is_clause_lowered (In k d f)
    ≡ (false)
lowered_in k d f = ap is_clause_lowered (sym (rolls-In k d f)) ∙ clause_lowered_is (ForClause-F.In k d f)

pub lowered_from : (k : ℕ) (d : DyType) (f : Term) (l : Option (Limit × Term)) (s : Option Term)
    → is_clause_lowered (From k d f l s)
    ≡ (is_lowered f && (behind_lowered l && maybe_lowered s))
lowered_from k d f None None = ap is_clause_lowered (sym (rolls-From k d f None None)) ∙ clause_lowered_is (ForClause-F.From k d f None None)
lowered_from k d f None (Some s) = ap is_clause_lowered (sym (rolls-From k d f None (Some s))) ∙ clause_lowered_is (ForClause-F.From k d f None (Some s))
lowered_from k d f (Some l) None = ap is_clause_lowered (sym (rolls-From k d f (Some l) None)) ∙ clause_lowered_is (ForClause-F.From k d f (Some l) None)
lowered_from k d f (Some l) (Some s) = ap is_clause_lowered (sym (rolls-From k d f (Some l) (Some s))) ∙ clause_lowered_is (ForClause-F.From k d f (Some l) (Some s))

pub scoped_from : (k : ℕ) (d : DyType) (f : Term) (l : Option (Limit × Term)) (s : Option Term)
    → is_clause_scoped (From k d f l s)
    ≡ (λ first last. is_own first last k && (is_scoped f first last && (behind_scoped l first last && maybe_scoped s first last)))
scoped_from k d f None None = ap is_clause_scoped (sym (rolls-From k d f None None)) ∙ clause_scoped_is (ForClause-F.From k d f None None)
scoped_from k d f None (Some s) = ap is_clause_scoped (sym (rolls-From k d f None (Some s))) ∙ clause_scoped_is (ForClause-F.From k d f None (Some s))
scoped_from k d f (Some l) None = ap is_clause_scoped (sym (rolls-From k d f (Some l) None)) ∙ clause_scoped_is (ForClause-F.From k d f (Some l) None)
scoped_from k d f (Some l) (Some s) = ap is_clause_scoped (sym (rolls-From k d f (Some l) (Some s))) ∙ clause_scoped_is (ForClause-F.From k d f (Some l) (Some s))

pub numbers_from : (k : ℕ) (d : DyType) (f : Term) (l : Option (Limit × Term)) (s : Option Term)
    → numbers_in_clause (From k d f l s)
    ≡ (max (k + 1) (max (numbers_in f) (max (behind_numbers l) (maybe_numbers s))))
numbers_from k d f None None = ap numbers_in_clause (sym (rolls-From k d f None None)) ∙ clause_numbers_is (ForClause-F.From k d f None None)
numbers_from k d f None (Some s) = ap numbers_in_clause (sym (rolls-From k d f None (Some s))) ∙ clause_numbers_is (ForClause-F.From k d f None (Some s))
numbers_from k d f (Some l) None = ap numbers_in_clause (sym (rolls-From k d f (Some l) None)) ∙ clause_numbers_is (ForClause-F.From k d f (Some l) None)
numbers_from k d f (Some l) (Some s) = ap numbers_in_clause (sym (rolls-From k d f (Some l) (Some s))) ∙ clause_numbers_is (ForClause-F.From k d f (Some l) (Some s))
