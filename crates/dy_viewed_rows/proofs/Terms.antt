-- What a term mentions are such libraries, where what its parts mention are.
use Rattle.std.proofs.Common.{◌≡◌, ℕ, Bool, List, [], ◌∷◌, ◌++◌, map, Option, Some, None, sym, subst}
use Rattle.std.specs.Prelude.{flat_map}
use Rattle.dy_base.specs.declared.ids.BindingId.{BindingId}
use Rattle.dy_base.specs.declared.ids.ClassId.{ClassId}
use Rattle.dy_base.specs.declared.ids.GenericId.{GenericId}
use Rattle.dy_term.specs.declared.literal.Literal.{Literal}
use Rattle.dy_term.specs.declared.types.DyType.{DyType}
use Rattle.dy_term.specs.declared.types.Params.{Params}
use Rattle.dy_term.specs.declared.types.Results.{Results}
use Rattle.dy_term.specs.declared.term.Limit.{Limit}
use Rattle.dy_term.specs.declared.term.ForClause.{ForClause, ForClause-F, roll-ForClause, fold-ForClause, fold-roll-ForClause, Then, In, From}
use Rattle.dy_term.specs.declared.term.ForClause.TheVariants.{rolls-Then, rolls-In, rolls-From}
use Rattle.dy_term.specs.declared.term.Item.{Item, Item-F, roll-Item, fold-Item, fold-roll-Item, Run, Let, LetMethods, Handler}
use Rattle.dy_term.specs.declared.term.Item.TheVariants.{rolls-Run, rolls-Let, rolls-LetMethods, rolls-Handler}
use Rattle.dy_term.specs.declared.term.Term.{Term, Term-F, roll-Term, fold-roll-Term, Lit, Local, Global, ClassName, GenericName, SetLocal, SetGlobal, Call, Site, Cond, And, Or, Select, Body, Loop, For, Method, Block, Op, Next}
use Rattle.dy_term.specs.declared.term.Term.TheVariants.{rolls-Lit, rolls-Local, rolls-Global, rolls-ClassName, rolls-GenericName, rolls-SetLocal, rolls-SetGlobal, rolls-Call, rolls-Site, rolls-Cond, rolls-And, rolls-Or, rolls-Select, rolls-Body, rolls-Loop, rolls-For, rolls-Method, rolls-Block, rolls-Op, rolls-Next}
use Rattle.dy_term.specs.declared.term.BlockRow.{BlockRow, BlockRow-F, roll-BlockRow, fold-BlockRow, fold-roll-BlockRow}
use Rattle.dy_term.specs.declared.term.ForRow.{ForRow, ForRow-F, roll-ForRow, fold-ForRow, fold-roll-ForRow}
use Rattle.dy_term.specs.declared.term.Lambda.{Lambda, Lambda-F, roll-Lambda, fold-roll-Lambda}
use Rattle.dy_code.specs.Validity.{Every}
use Rattle.dy_lowering_whole.proofs.valid.Laying.{every_append}
use Rattle.dy_linked_rows.specs.Mentioned.{in_type, in_held_type, in_params, in_results, in_all, clause_mentions, item_mentions, term_mentions, block_mentions, for_mentions, lambda_mentions, in_term, in_lambda}
use Rattle.dy_linked_rows.proofs.Layers.{over_clause, over_item, over_term, over_block, over_for, over_lambda}

-- what the other kinds of terms mention
abbrev in_clause : ForClause → List ℕ
in_clause = fold-ForClause (List ℕ) (List ℕ) (List ℕ) (List ℕ) (List ℕ) (List ℕ) clause_mentions item_mentions term_mentions block_mentions for_mentions lambda_mentions

abbrev in_item : Item → List ℕ
in_item = fold-Item (List ℕ) (List ℕ) (List ℕ) (List ℕ) (List ℕ) (List ℕ) clause_mentions item_mentions term_mentions block_mentions for_mentions lambda_mentions

abbrev in_block : BlockRow → List ℕ
in_block = fold-BlockRow (List ℕ) (List ℕ) (List ℕ) (List ℕ) (List ℕ) (List ℕ) clause_mentions item_mentions term_mentions block_mentions for_mentions lambda_mentions

abbrev in_for : ForRow → List ℕ
in_for = fold-ForRow (List ℕ) (List ℕ) (List ℕ) (List ℕ) (List ℕ) (List ℕ) clause_mentions item_mentions term_mentions block_mentions for_mentions lambda_mentions

-- layer by layer
clause_is : (x : ForClause-F ForClause Item Term BlockRow ForRow Lambda) → in_clause (roll-ForClause x) ≡ clause_mentions (over_clause in_clause in_item in_term in_block in_for in_lambda x)
clause_is = fold-roll-ForClause _ _ _ _ _ _ _ _ _ _ _ _

item_is : (x : Item-F ForClause Item Term BlockRow ForRow Lambda) → in_item (roll-Item x) ≡ item_mentions (over_item in_clause in_item in_term in_block in_for in_lambda x)
item_is = fold-roll-Item _ _ _ _ _ _ _ _ _ _ _ _

term_is : (x : Term-F ForClause Item Term BlockRow ForRow Lambda) → in_term (roll-Term x) ≡ term_mentions (over_term in_clause in_item in_term in_block in_for in_lambda x)
term_is = fold-roll-Term _ _ _ _ _ _ _ _ _ _ _ _

block_is : (x : BlockRow-F ForClause Item Term BlockRow ForRow Lambda) → in_block (roll-BlockRow x) ≡ block_mentions (over_block in_clause in_item in_term in_block in_for in_lambda x)
block_is = fold-roll-BlockRow _ _ _ _ _ _ _ _ _ _ _ _

for_is : (x : ForRow-F ForClause Item Term BlockRow ForRow Lambda) → in_for (roll-ForRow x) ≡ for_mentions (over_for in_clause in_item in_term in_block in_for in_lambda x)
for_is = fold-roll-ForRow _ _ _ _ _ _ _ _ _ _ _ _

lambda_is : (x : Lambda-F ForClause Item Term BlockRow ForRow Lambda) → in_lambda (roll-Lambda x) ≡ lambda_mentions (over_lambda in_clause in_item in_term in_block in_for in_lambda x)
lambda_is = fold-roll-Lambda _ _ _ _ _ _ _ _ _ _ _ _

-- libraries that are such
module _ (Is : ℕ → Type 0) where
  abbrev pub Are : List ℕ → Type 0
  Are libraries = Every Is libraries

  pub both : (xs ys : List ℕ) → Are xs → Are ys → Are (xs ++ ys)
  both xs ys a b = every_append Is xs ys a b

  pub four : (a b c d : List ℕ) → Are a → Are b → Are c → Are d → Are (a ++ (b ++ (c ++ d)))
  four a b c d p q r s = both a (b ++ (c ++ d)) p (both b (c ++ d) q (both c d r s))

  -- types, terms and lambdas that mention such libraries alone
  abbrev pub TypeIn : DyType → Type 0
  TypeIn type = Are (in_type type)

  abbrev pub HeldTypeIn : Option DyType → Type 0
  HeldTypeIn type = Are (in_held_type type)

  abbrev pub TypesIn : List DyType → Type 0
  TypesIn types = Every TypeIn types

  abbrev pub ParamsIn : Params → Type 0
  ParamsIn params = TypesIn params.required

  abbrev pub ResultsIn : Results → Type 0
  ResultsIn results = TypesIn results.required × HeldTypeIn results.rest

  abbrev pub TermIn : Term → Type 0
  TermIn term = Are (in_term term)

  abbrev pub LambdaIn : Lambda → Type 0
  LambdaIn lambda = Are (in_lambda lambda)

  abbrev pub ItemIn : Item → Type 0
  ItemIn item = Are (in_item item)

  abbrev pub ClauseIn : ForClause → Type 0
  ClauseIn clause = Are (in_clause clause)

  -- parts of which there are several
  abbrev pub TermsIn : List Term → Type 0
  TermsIn ts = Every TermIn ts

  abbrev pub PairsIn : List (Term × Term) → Type 0
  PairsIn ps = Every (λ (p : Term × Term). TermIn p.0 × TermIn p.1) ps

  abbrev pub ArmsIn : List (List Term × Term) → Type 0
  ArmsIn arms = Every (λ (arm : List Term × Term). TermsIn arm.0 × TermIn arm.1) arms

  abbrev pub HeldIn : Option Term → Type 0
  HeldIn None = Unit {0}
  HeldIn (Some t) = TermIn t

  abbrev pub GivenIn : Option (List Term) → Type 0
  GivenIn None = Unit {0}
  GivenIn (Some ts) = TermsIn ts

  abbrev pub SecondIn : {A : Type 0} → Option (A × Term) → Type 0
  SecondIn None = Unit {0}
  SecondIn (Some p) = TermIn p.1

  abbrev pub LocalsIn : List (ℕ × DyType) → Type 0
  LocalsIn locals = Every (λ (l : ℕ × DyType). TypeIn l.1) locals

  abbrev pub MethodsIn : List (ℕ × Lambda) → Type 0
  MethodsIn ms = Every (λ (m : ℕ × Lambda). LambdaIn m.1) ms

  abbrev pub CatchesIn : List (Option ℕ × DyType × Term) → Type 0
  CatchesIn cs = Every (λ (c : Option ℕ × DyType × Term). TypeIn c.1 × TermIn c.2) cs

  abbrev pub KeywordsIn : List (DyType × Term) → Type 0
  KeywordsIn ks = Every (λ (k : DyType × Term). TypeIn k.0 × TermIn k.1) ks

  -- what they mention, all together
  types_in : (types : List DyType) → TypesIn types → Are (flat_map in_type types)
  types_in [] all = tt
  types_in (t ∷ types) all = both (in_type t) (flat_map in_type types) all.0 (types_in types all.1)

  params_in : (params : Params) → ParamsIn params → Are (in_params params)
  params_in params all = types_in params.required all

  results_in : (results : Results) → ResultsIn results → Are (in_results results)
  results_in results all = both (flat_map in_type results.required) (in_held_type results.rest) (types_in results.required all.0) all.1

  terms_in : (ts : List Term) → TermsIn ts → Are (in_all (map in_term ts))
  terms_in [] all = tt
  terms_in (t ∷ ts) all = both (in_term t) (in_all (map in_term ts)) all.0 (terms_in ts all.1)

  items_in : (is : List Item) → Every ItemIn is → Are (in_all (map in_item is))
  items_in [] all = tt
  items_in (i ∷ is) all = both (in_item i) (in_all (map in_item is)) all.0 (items_in is all.1)

  clauses_in : (cs : List ForClause) → Every ClauseIn cs → Are (in_all (map in_clause cs))
  clauses_in [] all = tt
  clauses_in (c ∷ cs) all = both (in_clause c) (in_all (map in_clause cs)) all.0 (clauses_in cs all.1)

  abbrev in_pairs : List (Term × Term) → List ℕ
  in_pairs ps = flat_map (λ (b : List ℕ × List ℕ). b.0 ++ b.1) (map (λ (p : Term × Term). (in_term p.0, in_term p.1)) ps)

  pairs_in : (ps : List (Term × Term)) → PairsIn ps → Are (in_pairs ps)
  pairs_in [] all = tt
  pairs_in (p ∷ ps) all =
      let one = all.0 in
      both (in_term p.0 ++ in_term p.1) (in_pairs ps) (both (in_term p.0) (in_term p.1) one.0 one.1) (pairs_in ps all.1)

  abbrev in_arms : List (List Term × Term) → List ℕ
  in_arms arms = flat_map (λ (a : List (List ℕ) × List ℕ). in_all a.0 ++ a.1) (map (λ (p : List Term × Term). (map in_term p.0, in_term p.1)) arms)

  arms_in : (arms : List (List Term × Term)) → ArmsIn arms → Are (in_arms arms)
  arms_in [] all = tt
  arms_in (a ∷ arms) all =
      let one = all.0 in
      let keys = in_all (map in_term a.0) in
      both (keys ++ in_term a.1) (in_arms arms) (both keys (in_term a.1) (terms_in a.0 one.0) one.1) (arms_in arms all.1)

  abbrev in_locals : List (ℕ × DyType) → List ℕ
  in_locals locals = flat_map (λ (l : ℕ × DyType). in_type l.1) locals

  locals_in : (locals : List (ℕ × DyType)) → LocalsIn locals → Are (in_locals locals)
  locals_in [] all = tt
  locals_in (l ∷ locals) all = both (in_type l.1) (in_locals locals) all.0 (locals_in locals all.1)

  abbrev in_methods : List (ℕ × Lambda) → List ℕ
  in_methods ms = flat_map (λ (m : ℕ × List ℕ). m.1) (map (λ (m : ℕ × Lambda). (m.0, in_lambda m.1)) ms)

  methods_in : (ms : List (ℕ × Lambda)) → MethodsIn ms → Are (in_methods ms)
  methods_in [] all = tt
  methods_in (m ∷ ms) all = both (in_lambda m.1) (in_methods ms) all.0 (methods_in ms all.1)

  abbrev in_keywords : List (DyType × Term) → List ℕ
  in_keywords ks = flat_map (λ (k : DyType × List ℕ). in_type k.0 ++ k.1) (map (λ (p : DyType × Term). (p.0, in_term p.1)) ks)

  keywords_in : (ks : List (DyType × Term)) → KeywordsIn ks → Are (in_keywords ks)
  keywords_in [] all = tt
  keywords_in (k ∷ ks) all =
      let one = all.0 in
      both (in_type k.0 ++ in_term k.1) (in_keywords ks) (both (in_type k.0) (in_term k.1) one.0 one.1) (keywords_in ks all.1)

  abbrev in_catches : List (Option ℕ × DyType × Term) → List ℕ
  in_catches cs = flat_map (λ (c : Option ℕ × DyType × List ℕ). in_type c.1 ++ c.2) (map (λ (p : Option ℕ × DyType × Term). (p.0, p.1, in_term p.2)) cs)

  catches_in : (cs : List (Option ℕ × DyType × Term)) → CatchesIn cs → Are (in_catches cs)
  catches_in [] all = tt
  catches_in (c ∷ cs) all =
      let one = all.0 in
      both (in_type c.1 ++ in_term c.2) (in_catches cs) (both (in_type c.1) (in_term c.2) one.0 one.1) (catches_in cs all.1)

  -- layers
  from_clause : (x : ForClause-F ForClause Item Term BlockRow ForRow Lambda) → Are (clause_mentions (over_clause in_clause in_item in_term in_block in_for in_lambda x)) → ClauseIn (roll-ForClause x)
  from_clause x h = subst Are (sym (clause_is x)) h

  from_item : (x : Item-F ForClause Item Term BlockRow ForRow Lambda) → Are (item_mentions (over_item in_clause in_item in_term in_block in_for in_lambda x)) → ItemIn (roll-Item x)
  from_item x h = subst Are (sym (item_is x)) h

  from_term : (x : Term-F ForClause Item Term BlockRow ForRow Lambda) → Are (term_mentions (over_term in_clause in_item in_term in_block in_for in_lambda x)) → TermIn (roll-Term x)
  from_term x h = subst Are (sym (term_is x)) h

  -- clauses of a `for`
  pub then_in : (n : ℕ) (d : DyType) (s t : Term) → TypeIn d → TermIn s → TermIn t → ClauseIn (Then n d s t)
  then_in n d s t a b c = subst ClauseIn (rolls-Then n d s t) (from_clause (ForClause-F.Then n d s t) (both (in_type d) (in_term s ++ in_term t) a (both (in_term s) (in_term t) b c)))

  pub in_in : (n : ℕ) (d : DyType) (s : Term) → TypeIn d → TermIn s → ClauseIn (In n d s)
  in_in n d s a b = subst ClauseIn (rolls-In n d s) (from_clause (ForClause-F.In n d s) (both (in_type d) (in_term s) a b))

  from_parts : (n : ℕ) (d : DyType) (s : Term) (l : Option (Limit × Term)) (t : Option Term) → TypeIn d → TermIn s → SecondIn l → HeldIn t
      → Are (clause_mentions (over_clause in_clause in_item in_term in_block in_for in_lambda (ForClause-F.From n d s l t)))
  from_parts n d s None None a b c e = four (in_type d) (in_term s) [] [] a b tt tt
  from_parts n d s None (Some t) a b c e = four (in_type d) (in_term s) [] (in_term t) a b tt e
  from_parts n d s (Some l) None a b c e = four (in_type d) (in_term s) (in_term l.1) [] a b c tt
  from_parts n d s (Some l) (Some t) a b c e = four (in_type d) (in_term s) (in_term l.1) (in_term t) a b c e

  pub from_in : (n : ℕ) (d : DyType) (s : Term) (l : Option (Limit × Term)) (t : Option Term) → TypeIn d → TermIn s → SecondIn l → HeldIn t → ClauseIn (From n d s l t)
  from_in n d s l t a b c e = subst ClauseIn (rolls-From n d s l t) (from_clause (ForClause-F.From n d s l t) (from_parts n d s l t a b c e))

  -- parts of a body
  pub run_in : (t : Term) → TermIn t → ItemIn (Run t)
  run_in t h = subst ItemIn (rolls-Run t) (from_item (Item-F.Run t) h)

  pub let_in : (ls : List (ℕ × DyType)) (r : Option ℕ) (t : Term) → LocalsIn ls → TermIn t → ItemIn (Let ls r t)
  let_in ls r t all h = subst ItemIn (rolls-Let ls r t) (from_item (Item-F.Let ls r t) (both (in_locals ls) (in_term t) (locals_in ls all) h))

  pub let_methods_in : (ms : List (ℕ × Lambda)) → MethodsIn ms → ItemIn (LetMethods ms)
  let_methods_in ms all = subst ItemIn (rolls-LetMethods ms) (from_item (Item-F.LetMethods ms) (methods_in ms all))

  pub handler_in : (d : DyType) (t : Term) → TypeIn d → TermIn t → ItemIn (Handler d t)
  handler_in d t a h = subst ItemIn (rolls-Handler d t) (from_item (Item-F.Handler d t) (both (in_type d) (in_term t) a h))

  -- each kind of term
  pub lit_in : (v : Literal) → TermIn (Lit v)
  lit_in v = subst TermIn (rolls-Lit v) (from_term (Term-F.Lit v) tt)

  pub local_in : (k : ℕ) → TermIn (Local k)
  local_in k = subst TermIn (rolls-Local k) (from_term (Term-F.Local k) tt)

  pub global_in : (b : BindingId) → Is b.at.library → TermIn (Global b)
  global_in b h = subst TermIn (rolls-Global b) (from_term (Term-F.Global b) (h, tt))

  pub class_in : (c : ClassId) → Is c.0.library → TermIn (ClassName c)
  class_in c h = subst TermIn (rolls-ClassName c) (from_term (Term-F.ClassName c) (h, tt))

  pub generic_in : (g : GenericId) → Is g.0.library → TermIn (GenericName g)
  generic_in g h = subst TermIn (rolls-GenericName g) (from_term (Term-F.GenericName g) (h, tt))

  pub set_local_in : (k : ℕ) (t : Term) → TermIn t → TermIn (SetLocal k t)
  set_local_in k t h = subst TermIn (rolls-SetLocal k t) (from_term (Term-F.SetLocal k t) h)

  pub set_global_in : (b : BindingId) (t : Term) → Is b.at.library → TermIn t → TermIn (SetGlobal b t)
  set_global_in b t i h = subst TermIn (rolls-SetGlobal b t) (from_term (Term-F.SetGlobal b t) (i, h))

  pub call_in : (f : Term) (ts : List Term) → TermIn f → TermsIn ts → TermIn (Call f ts)
  call_in f ts h all = subst TermIn (rolls-Call f ts) (from_term (Term-F.Call f ts) (both (in_term f) (in_all (map in_term ts)) h (terms_in ts all)))

  pub site_in : (g : GenericId) (ts : List Term) → Is g.0.library → TermsIn ts → TermIn (Site g ts)
  site_in g ts i all = subst TermIn (rolls-Site g ts) (from_term (Term-F.Site g ts) (i, terms_in ts all))

  pub op_in : (k : ℕ) (ts : List Term) → TermsIn ts → TermIn (Op k ts)
  op_in k ts all = subst TermIn (rolls-Op k ts) (from_term (Term-F.Op k ts) (terms_in ts all))

  pub cond_in : (ps : List (Term × Term)) (t : Term) → PairsIn ps → TermIn t → TermIn (Cond ps t)
  cond_in ps t all h = subst TermIn (rolls-Cond ps t) (from_term (Term-F.Cond ps t) (both (in_pairs ps) (in_term t) (pairs_in ps all) h))

  pub and_in : (s t : Term) → TermIn s → TermIn t → TermIn (And s t)
  and_in s t a b = subst TermIn (rolls-And s t) (from_term (Term-F.And s t) (both (in_term s) (in_term t) a b))

  pub or_in : (s t : Term) → TermIn s → TermIn t → TermIn (Or s t)
  or_in s t a b = subst TermIn (rolls-Or s t) (from_term (Term-F.Or s t) (both (in_term s) (in_term t) a b))

  pub loop_in : (s t : Term) → TermIn s → TermIn t → TermIn (Loop s t)
  loop_in s t a b = subst TermIn (rolls-Loop s t) (from_term (Term-F.Loop s t) (both (in_term s) (in_term t) a b))

  select_parts : (v : Term) (t : Option Term) (arms : List (List Term × Term)) (l : Option Term) → TermIn v → HeldIn t → ArmsIn arms → HeldIn l
      → Are (term_mentions (over_term in_clause in_item in_term in_block in_for in_lambda (Term-F.Select v t arms l)))
  select_parts v None arms None a b c e = four (in_term v) [] (in_arms arms) [] a tt (arms_in arms c) tt
  select_parts v None arms (Some l) a b c e = four (in_term v) [] (in_arms arms) (in_term l) a tt (arms_in arms c) e
  select_parts v (Some t) arms None a b c e = four (in_term v) (in_term t) (in_arms arms) [] a b (arms_in arms c) tt
  select_parts v (Some t) arms (Some l) a b c e = four (in_term v) (in_term t) (in_arms arms) (in_term l) a b (arms_in arms c) e

  pub select_in : (v : Term) (t : Option Term) (arms : List (List Term × Term)) (l : Option Term) → TermIn v → HeldIn t → ArmsIn arms → HeldIn l → TermIn (Select v t arms l)
  select_in v t arms l a b c e = subst TermIn (rolls-Select v t arms l) (from_term (Term-F.Select v t arms l) (select_parts v t arms l a b c e))

  pub body_in : (is : List Item) → Every ItemIn is → TermIn (Body is)
  body_in is all = subst TermIn (rolls-Body is) (from_term (Term-F.Body is) (items_in is all))

  pub method_in : (l : Lambda) → LambdaIn l → TermIn (Method l)
  method_in l h = subst TermIn (rolls-Method l) (from_term (Term-F.Method l) h)

  pub next_in : (o : Option (List Term)) → GivenIn o → TermIn (Next o)
  next_in None all = subst TermIn (rolls-Next None) (from_term (Term-F.Next None) tt)
  next_in (Some ts) all = subst TermIn (rolls-Next (Some ts)) (from_term (Term-F.Next (Some ts)) (terms_in ts all))

  abbrev a_for : List ForClause → Option (Bool × Term) → Term → Option Term → ForRow-F ForClause Item Term BlockRow ForRow Lambda
  a_for cs t b e = record { clauses = cs; test = t; body = b; finally = e }

  for_parts : (cs : List ForClause) (t : Option (Bool × Term)) (b : Term) (e : Option Term) → Every ClauseIn cs → SecondIn t → TermIn b → HeldIn e
      → Are (for_mentions (over_for in_clause in_item in_term in_block in_for in_lambda (a_for cs t b e)))
  for_parts cs None b None p q r s = four (in_all (map in_clause cs)) [] (in_term b) [] (clauses_in cs p) tt r tt
  for_parts cs None b (Some e) p q r s = four (in_all (map in_clause cs)) [] (in_term b) (in_term e) (clauses_in cs p) tt r s
  for_parts cs (Some t) b None p q r s = four (in_all (map in_clause cs)) (in_term t.1) (in_term b) [] (clauses_in cs p) q r tt
  for_parts cs (Some t) b (Some e) p q r s = four (in_all (map in_clause cs)) (in_term t.1) (in_term b) (in_term e) (clauses_in cs p) q r s

  pub for_in : (cs : List ForClause) (t : Option (Bool × Term)) (b : Term) (e : Option Term) → Every ClauseIn cs → SecondIn t → TermIn b → HeldIn e → TermIn (For (roll-ForRow (a_for cs t b e)))
  for_in cs t b e p q r s =
      let row = roll-ForRow (a_for cs t b e) in
      subst TermIn (rolls-For row) (from_term (Term-F.For row) (subst Are (sym (for_is (a_for cs t b e))) (for_parts cs t b e p q r s)))

  abbrev a_block : Option ℕ → Term → Option Term → Option Term → List (Option ℕ × DyType × Term) → BlockRow-F ForClause Item Term BlockRow ForRow Lambda
  a_block x b a c es = record { exit = x; body = b; afterwards = a; cleanup = c; clauses = es }

  block_parts : (x : Option ℕ) (b : Term) (a c : Option Term) (es : List (Option ℕ × DyType × Term)) → TermIn b → HeldIn a → HeldIn c → CatchesIn es
      → Are (block_mentions (over_block in_clause in_item in_term in_block in_for in_lambda (a_block x b a c es)))
  block_parts x b None None es p q r s = four (in_term b) [] [] (in_catches es) p tt tt (catches_in es s)
  block_parts x b None (Some c) es p q r s = four (in_term b) [] (in_term c) (in_catches es) p tt r (catches_in es s)
  block_parts x b (Some a) None es p q r s = four (in_term b) (in_term a) [] (in_catches es) p q tt (catches_in es s)
  block_parts x b (Some a) (Some c) es p q r s = four (in_term b) (in_term a) (in_term c) (in_catches es) p q r (catches_in es s)

  pub block_in : (x : Option ℕ) (b : Term) (a c : Option Term) (es : List (Option ℕ × DyType × Term)) → TermIn b → HeldIn a → HeldIn c → CatchesIn es → TermIn (Block (roll-BlockRow (a_block x b a c es)))
  block_in x b a c es p q r s =
      let row = roll-BlockRow (a_block x b a c es) in
      subst TermIn (rolls-Block row) (from_term (Term-F.Block row) (subst Are (sym (block_is (a_block x b a c es))) (block_parts x b a c es p q r s)))

  pub lambda_in : (x : Lambda-F ForClause Item Term BlockRow ForRow Lambda) → ParamsIn x.params → KeywordsIn x.keywords → TermIn x.body → ResultsIn x.results → LambdaIn (roll-Lambda x)
  lambda_in x p k b r =
      subst Are (sym (lambda_is x))
      (four (in_params x.params) (in_keywords x.keywords) (in_term x.body) (in_results x.results) (params_in x.params p) (keywords_in x.keywords k) b (results_in x.results r))
