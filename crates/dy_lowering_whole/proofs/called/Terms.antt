-- A term calls generic functions that are there, with all lambdas inside of it, where its parts do.
use Rattle.std.proofs.Common.{◌≡◌, ℕ, ◌+◌, Bool, false, ℤ, List, [], ◌∷◌, ◌++◌, length, map, Option, Some, None, refl, sym, ap, ◌∙◌, subst}
use Rattle.std.specs.Prelude.{flat_map, IsSome}
use Rattle.std.specs.Option.{option_map}
use Rattle.dy_base.specs.declared.ids.BindingId.{BindingId}
use Rattle.dy_base.specs.declared.ids.ClassId.{ClassId}
use Rattle.dy_base.specs.declared.ids.GenericId.{GenericId}
use Rattle.dy_term.specs.declared.literal.Literal.{Literal}
use Rattle.dy_term.specs.declared.types.DyType.{DyType}
use Rattle.dy_term.specs.declared.term.Limit.{Limit}
use Rattle.dy_term.specs.declared.term.ForClause.{ForClause, ForClause-F, roll-ForClause, Then, In, From}
use Rattle.dy_term.specs.declared.term.ForClause.TheVariants.{rolls-Then, rolls-In, rolls-From}
use Rattle.dy_term.specs.declared.term.Item.{Item, Item-F, roll-Item, Run, Let, LetMethods, Handler}
use Rattle.dy_term.specs.declared.term.Item.TheVariants.{rolls-Run, rolls-Let, rolls-LetMethods, rolls-Handler}
use Rattle.dy_term.specs.declared.term.Term.{Term, Term-F, out-Term, roll-Term, Lit, Local, Global, ClassName, GenericName, SetLocal, SetGlobal, Call, Site, Cond, And, Or, Select, Body, Loop, For, Method, Block, Op, Next}
use Rattle.dy_term.specs.declared.term.Term.TheVariants.{rolls-Lit, rolls-Local, rolls-Global, rolls-ClassName, rolls-GenericName, rolls-SetLocal, rolls-SetGlobal, rolls-Call, rolls-Site, rolls-Cond, rolls-And, rolls-Or, rolls-Select, rolls-Body, rolls-Loop, rolls-For, rolls-Method, rolls-Block, rolls-Op, rolls-Next}
use Rattle.dy_term.specs.declared.term.BlockRow.{BlockRow, BlockRow-F, roll-BlockRow, map-BlockRow, para-roll-BlockRow}
use Rattle.dy_term.specs.declared.term.ForRow.{ForRow, ForRow-F, roll-ForRow}
use Rattle.dy_term.specs.declared.term.Lambda.{Lambda, Lambda-F, out-Lambda, roll-Lambda, out-roll-Lambda}
use Rattle.dy_outcome.specs.declared.place.Place.{Place}
use Rattle.dy_code.specs.declared.unit.Linked.{Linked}
use Rattle.dy_code.specs.Fetching as instr
use Rattle.dy_code.specs.Programs.{generic_row}
use Rattle.dy_code.specs.Validity.{Every}
use Rattle.dy_meaning.specs.Lambdas.{Inside, of_all, of_held, of_pairs, of_arms, of_second, of_given, itself_and, block_lambdas, lambdas_in_clause, lambdas_in_item, lambdas_in, lambdas_in_block, lambdas_in_for, lambdas_within, of_defaults}
use Rattle.dy_meaning.specs.Layouts.{Layout, place_of, layout_of, captured_by}
use Rattle.dy_meaning.specs.Numbering.{Numbered, terms_from, behind_terms, items_from, branches_from, behind_branches, arms_from, behind_arms, held_from, behind_held, clauses_from, behind_clauses, second_from, behind_second}
use Rattle.dy_lowered.specs.Bodies.{parameters, entry, lambda_body}
use Rattle.dy_lowered.specs.Flat.{Plain, Code, one}
use Rattle.dy_lowered.specs.Parts.{truth, first_alone, select, Part, Method as LocalMethod}
use Rattle.dy_lowered.specs.Turns.{Amount, Clause, for_loop}
use Rattle.dy_lowered.specs.Terms.{function_named, number_of, known_or, limit_from, step_from, methods_from, code_of, item_code, clause_code, block_code, for_code, lambda_code}
use Rattle.dy_lowering_whole.proofs.valid.Evenness.{beside, clause_layer, item_layer, term_layer, for_layer, clause_is, item_is, term_is, block_is, for_is}
use Rattle.dy_lowering_whole.proofs.valid.Laying.{every_append}
use Rattle.dy_lowering_whole.proofs.valid.Scopes.{clause_held, item_held, term_held, for_held, clause_held_is, item_held_is, term_held_is, for_held_is, lambda_held_is}
use Rattle.dy_lowering_whole.specs.called.Called.{CallsKnown, TermKnown, LambdaKnown}
use Rattle.dy_lowering_whole.proofs.called.Pieces.{Found, PairsFound, ArmsFound, SomeFound, PartFound, plain, join, found_read, found_cells, found_assigning, found_with, found_calling, found_choice, found_branching, found_select, found_letting, found_body, found_loop, found_closing, found_local_methods}
use Rattle.dy_lowering_whole.proofs.called.Turns.{AmountFound, LimitFound, TurnFound, TestFound, found_for}

block_held_is : (x : BlockRow-F ForClause Item Term BlockRow ForRow Lambda)
    → lambdas_in_block (roll-BlockRow x) ≡ block_lambdas (map-BlockRow _ _ _ _ _ _ _ _ _ _ _ _ (beside lambdas_in_clause) (beside lambdas_in_item) (beside lambdas_in) (beside lambdas_in_block) (beside lambdas_in_for) (beside lambdas_within) x)
block_held_is = para-roll-BlockRow _ _ _ _ _ _ _ _ _ _ _ _

module _ (linked : Linked) where
  abbrev CallsHere : Lambda → Type 0
  CallsHere lambda = CallsKnown linked lambda

  abbrev TermHere : Term → Type 0
  TermHere term = TermKnown linked term

  abbrev LambdaHere : Lambda → Type 0
  LambdaHere lambda = LambdaKnown linked lambda

  abbrev pub AllKnown : List Lambda → Type 0
  AllKnown lambdas = Every CallsHere lambdas

  -- the code of a part, and the lambdas inside of it
  pub record ItemKnown (item : Item) : Type 0 where
    pub code : (layout : Layout) (n : ℕ) → PartFound linked (item_code layout item n)
    pub inner : AllKnown (lambdas_in_item item)

  pub record ClauseKnown (clause : ForClause) : Type 0 where
    pub code : (layout : Layout) (n : ℕ) → TurnFound linked (clause_code layout clause n)
    pub inner : AllKnown (lambdas_in_clause clause)

  all_join : (xs ys : List Lambda) → AllKnown xs → AllKnown ys → AllKnown (xs ++ ys)
  all_join xs ys a b = every_append CallsHere xs ys a b

  known_term : (x : Term-F ForClause Item Term BlockRow ForRow Lambda) → ((layout : Layout) (n : ℕ) → Found linked (term_layer layout x n)) → AllKnown (term_held x) → TermHere (roll-Term x)
  known_term x h k = record {
    code = λ layout n. subst (λ (make : ℕ → Code). Found linked (make n)) (sym (term_is layout x)) (h layout n);
    inner = subst AllKnown (sym (term_held_is x)) k;
  }

  known_item : (x : Item-F ForClause Item Term BlockRow ForRow Lambda) → ((layout : Layout) (n : ℕ) → PartFound linked (item_layer layout x n)) → AllKnown (item_held x) → ItemKnown (roll-Item x)
  known_item x h k = record {
    code = λ layout n. subst (λ (make : ℕ → Part). PartFound linked (make n)) (sym (item_is layout x)) (h layout n);
    inner = subst AllKnown (sym (item_held_is x)) k;
  }

  known_clause : (x : ForClause-F ForClause Item Term BlockRow ForRow Lambda) → ((layout : Layout) (n : ℕ) → TurnFound linked (clause_layer layout x n)) → AllKnown (clause_held x) → ClauseKnown (roll-ForClause x)
  known_clause x h k = record {
    code = λ layout n. subst (λ (make : ℕ → Clause). TurnFound linked (make n)) (sym (clause_is layout x)) (h layout n);
    inner = subst AllKnown (sym (clause_held_is x)) k;
  }

  -- parts of which there are several
  abbrev pub TermsKnown : List Term → Type 0
  TermsKnown ts = Every TermHere ts

  abbrev pub PairsKnown : List (Term × Term) → Type 0
  PairsKnown ps = Every (λ (p : Term × Term). TermHere p.0 × TermHere p.1) ps

  abbrev pub ArmsKnown : List (List Term × Term) → Type 0
  ArmsKnown arms = Every (λ (arm : List Term × Term). TermsKnown arm.0 × TermHere arm.1) arms

  abbrev pub HeldKnown : Option Term → Type 0
  HeldKnown None = Unit {0}
  HeldKnown (Some t) = TermHere t

  abbrev pub GivenKnown : Option (List Term) → Type 0
  GivenKnown None = Unit {0}
  GivenKnown (Some ts) = TermsKnown ts

  abbrev pub SecondKnown : {A : Type 0} → Option (A × Term) → Type 0
  SecondKnown None = Unit {0}
  SecondKnown (Some p) = TermHere p.1

  abbrev pub MethodsKnown : List (ℕ × Lambda) → Type 0
  MethodsKnown ms = Every (λ (m : ℕ × Lambda). LambdaHere m.1) ms

  abbrev pub CatchesKnown : List (Option ℕ × DyType × Term) → Type 0
  CatchesKnown cs = Every (λ (c : Option ℕ × DyType × Term). TermHere c.2) cs

  abbrev pub KeywordsKnown : List (DyType × Term) → Type 0
  KeywordsKnown ks = Every (λ (k : DyType × Term). TermHere k.1) ks

  abbrev coded : Layout → List Term → List (Numbered Term Code)
  coded layout ts = map (beside (code_of layout)) ts

  terms_code : (layout : Layout) (ts : List Term) (n : ℕ) → TermsKnown ts → Every (Found linked) (terms_from (coded layout ts) n)
  terms_code layout [] n all = tt
  terms_code layout (t ∷ ts) n all = let first = all.0 in (first.code layout n, terms_code layout ts (n + length (lambdas_in t)) all.1)

  terms_inner : (ts : List Term) → TermsKnown ts → AllKnown (of_all (map (beside lambdas_in) ts))
  terms_inner [] all = tt
  terms_inner (t ∷ ts) all = let first = all.0 in all_join (lambdas_in t) (of_all (map (beside lambdas_in) ts)) first.inner (terms_inner ts all.1)

  abbrev coded_pairs : Layout → List (Term × Term) → List (Numbered Term Code × Numbered Term Code)
  coded_pairs layout ps = map (λ (p : Term × Term). (beside (code_of layout) p.0, beside (code_of layout) p.1)) ps

  abbrev inside_pairs : List (Term × Term) → List Lambda
  inside_pairs ps = of_pairs (map (λ (p : Term × Term). (beside lambdas_in p.0, beside lambdas_in p.1)) ps)

  pairs_code : (layout : Layout) (ps : List (Term × Term)) (n : ℕ) → PairsKnown ps → PairsFound linked (branches_from (coded_pairs layout ps) n)
  pairs_code layout [] n all = tt
  pairs_code layout (p ∷ ps) n all =
      let first = all.0 in
      let a = first.0 in
      let b = first.1 in
      let m = n + length (lambdas_in p.0) in
      ((a.code layout n, b.code layout m), pairs_code layout ps (m + length (lambdas_in p.1)) all.1)

  pairs_inner : (ps : List (Term × Term)) → PairsKnown ps → AllKnown (inside_pairs ps)
  pairs_inner [] all = tt
  pairs_inner (p ∷ ps) all =
      let first = all.0 in
      let a = first.0 in
      let b = first.1 in
      all_join (lambdas_in p.0 ++ lambdas_in p.1) (inside_pairs ps) (all_join (lambdas_in p.0) (lambdas_in p.1) a.inner b.inner) (pairs_inner ps all.1)

  abbrev coded_arms : Layout → List (List Term × Term) → List (List (Numbered Term Code) × Numbered Term Code)
  coded_arms layout arms = map (λ (a : List Term × Term). (map (beside (code_of layout)) a.0, beside (code_of layout) a.1)) arms

  abbrev inside_arms : List (List Term × Term) → List Lambda
  inside_arms arms = of_arms (map (λ (a : List Term × Term). (map (beside lambdas_in) a.0, beside lambdas_in a.1)) arms)

  arms_code : (layout : Layout) (arms : List (List Term × Term)) (n : ℕ) → ArmsKnown arms → ArmsFound linked (arms_from (coded_arms layout arms) n)
  arms_code layout [] n all = tt
  arms_code layout (a ∷ arms) n all =
      let first = all.0 in
      let b = first.1 in
      let m = behind_terms (coded layout a.0) n in
      ((terms_code layout a.0 n first.0, b.code layout m), arms_code layout arms (m + length (lambdas_in a.1)) all.1)

  arms_inner : (arms : List (List Term × Term)) → ArmsKnown arms → AllKnown (inside_arms arms)
  arms_inner [] all = tt
  arms_inner (a ∷ arms) all =
      let first = all.0 in
      let b = first.1 in
      let keys = of_all (map (beside lambdas_in) a.0) in
      all_join (keys ++ lambdas_in a.1) (inside_arms arms) (all_join keys (lambdas_in a.1) (terms_inner a.0 first.0) b.inner) (arms_inner arms all.1)

  abbrev coded_held : Layout → Option Term → Option (Numbered Term Code)
  coded_held layout t = option_map (beside (code_of layout)) t

  abbrev inside_held : Option Term → List Lambda
  inside_held t = of_held (option_map (beside lambdas_in) t)

  held_code : (layout : Layout) (t : Option Term) (n : ℕ) → HeldKnown t → SomeFound linked (held_from (coded_held layout t) n)
  held_code layout None n h = tt
  held_code layout (Some t) n h = h.code layout n

  held_inner : (t : Option Term) → HeldKnown t → AllKnown (inside_held t)
  held_inner None h = tt
  held_inner (Some t) h = h.inner

  abbrev coded_second : {A : Type 0} → Layout → Option (A × Term) → Option (A × Numbered Term Code)
  coded_second {A} layout t = option_map {U = A × Numbered Term Code} (λ (p : A × Term). (p.0, beside (code_of layout) p.1)) t

  abbrev inside_second : {A : Type 0} → Option (A × Term) → List Lambda
  inside_second {A} t = of_second (option_map {U = A × Inside Term} (λ (p : A × Term). (p.0, beside lambdas_in p.1)) t)

  second_inner : {A : Type 0} (t : Option (A × Term)) → SecondKnown t → AllKnown (inside_second t)
  second_inner None h = tt
  second_inner (Some p) h = h.inner

  test_code : (layout : Layout) (t : Option (Bool × Term)) (n : ℕ) → SecondKnown t → TestFound linked (second_from (coded_second layout t) n)
  test_code layout None n h = tt
  test_code layout (Some p) n h = h.code layout n

  amount_code : (number : Option ℤ) (code : Code) → Found linked code → AmountFound linked (known_or number code)
  amount_code None code h = h
  amount_code (Some number) code h = tt

  limit_code : (layout : Layout) (t : Option (Limit × Term)) (n : ℕ) → SecondKnown t → LimitFound linked (limit_from (coded_second layout t) n)
  limit_code layout None n h = tt
  limit_code layout (Some p) n h = amount_code (number_of (out-Term p.1)) (code_of layout p.1 n) (h.code layout n)

  step_code : (layout : Layout) (t : Option Term) (n : ℕ) → HeldKnown t → AmountFound linked (step_from (coded_held layout t) n)
  step_code layout None n h = tt
  step_code layout (Some t) n h = amount_code (number_of (out-Term t)) (code_of layout t n) (h.code layout n)

  items_code : (layout : Layout) (is : List Item) (n : ℕ) → Every ItemKnown is → Every (PartFound linked) (items_from (map (beside (item_code layout)) is) n)
  items_code layout [] n all = tt
  items_code layout (i ∷ is) n all = let first = all.0 in (first.code layout n, items_code layout is (n + length (lambdas_in_item i)) all.1)

  items_inner : (is : List Item) → Every ItemKnown is → AllKnown (of_all (map (beside lambdas_in_item) is))
  items_inner [] all = tt
  items_inner (i ∷ is) all = let first = all.0 in all_join (lambdas_in_item i) (of_all (map (beside lambdas_in_item) is)) first.inner (items_inner is all.1)

  clauses_code : (layout : Layout) (cs : List ForClause) (n : ℕ) → Every ClauseKnown cs → Every (TurnFound linked) (clauses_from (map (beside (clause_code layout)) cs) n)
  clauses_code layout [] n all = tt
  clauses_code layout (c ∷ cs) n all = let first = all.0 in (first.code layout n, clauses_code layout cs (n + length (lambdas_in_clause c)) all.1)

  clauses_inner : (cs : List ForClause) → Every ClauseKnown cs → AllKnown (of_all (map (beside lambdas_in_clause) cs))
  clauses_inner [] all = tt
  clauses_inner (c ∷ cs) all = let first = all.0 in all_join (lambdas_in_clause c) (of_all (map (beside lambdas_in_clause) cs)) first.inner (clauses_inner cs all.1)

  abbrev inside_methods : List (ℕ × Lambda) → List Lambda
  inside_methods ms = flat_map (λ (m : ℕ × Inside Lambda). itself_and m.1) (map (λ (m : ℕ × Lambda). (m.0, beside lambdas_within m.1)) ms)

  methods_inner : (ms : List (ℕ × Lambda)) → MethodsKnown ms → AllKnown (inside_methods ms)
  methods_inner [] all = tt
  methods_inner (m ∷ ms) all = all_join (m.1 ∷ lambdas_within m.1) (inside_methods ms) all.0 (methods_inner ms all.1)

  abbrev inside_catches : List (Option ℕ × DyType × Term) → List Lambda
  inside_catches cs = flat_map (λ (c : Option ℕ × DyType × Inside Term). c.2.1) (map (λ (c : Option ℕ × DyType × Term). (c.0, c.1, beside lambdas_in c.2)) cs)

  catches_inner : (cs : List (Option ℕ × DyType × Term)) → CatchesKnown cs → AllKnown (inside_catches cs)
  catches_inner [] all = tt
  catches_inner (c ∷ cs) all = let first = all.0 in all_join (lambdas_in c.2) (inside_catches cs) first.inner (catches_inner cs all.1)

  abbrev inside_keywords : List (DyType × Term) → List Lambda
  inside_keywords ks = flat_map (λ (k : DyType × Inside Term). k.1.1) (map (λ (k : DyType × Term). (k.0, beside lambdas_in k.1)) ks)

  keywords_inner : (ks : List (DyType × Term)) → KeywordsKnown ks → AllKnown (inside_keywords ks)
  keywords_inner [] all = tt
  keywords_inner (k ∷ ks) all = let first = all.0 in all_join (lambdas_in k.1) (inside_keywords ks) first.inner (keywords_inner ks all.1)

  -- each kind of term
  pub known_lit : (v : Literal) → TermHere (Lit v)
  known_lit v = subst TermHere (rolls-Lit v) (known_term (Term-F.Lit v) (λ layout n. (tt, tt)) tt)

  pub known_local : (k : ℕ) → TermHere (Local k)
  known_local k = subst TermHere (rolls-Local k) (known_term (Term-F.Local k) (λ layout n. found_read linked (place_of layout k)) tt)

  pub known_global : (b : BindingId) → TermHere (Global b)
  known_global b = subst TermHere (rolls-Global b) (known_term (Term-F.Global b) (λ layout n. (tt, tt)) tt)

  pub known_class : (c : ClassId) → TermHere (ClassName c)
  known_class c = subst TermHere (rolls-ClassName c) (known_term (Term-F.ClassName c) (λ layout n. (tt, tt)) tt)

  pub known_generic : (g : GenericId) → TermHere (GenericName g)
  known_generic g = subst TermHere (rolls-GenericName g) (known_term (Term-F.GenericName g) (λ layout n. (tt, tt)) tt)

  pub known_set_local : (k : ℕ) (t : Term) → TermHere t → TermHere (SetLocal k t)
  known_set_local k t h = subst TermHere (rolls-SetLocal k t) (known_term (Term-F.SetLocal k t) (λ layout n. found_assigning linked (place_of layout k) (code_of layout t n) (h.code layout n)) h.inner)

  pub known_set_global : (b : BindingId) (t : Term) → TermHere t → TermHere (SetGlobal b t)
  known_set_global b t h =
      subst TermHere (rolls-SetGlobal b t) (known_term (Term-F.SetGlobal b t) (λ layout n. join linked (code_of layout t n) (one (instr.SetGlobal b)) (h.code layout n) (tt, tt)) h.inner)

  pub known_call : (f : Term) (ts : List Term) → TermHere f → TermsKnown ts → TermHere (Call f ts)
  known_call f ts h all =
      subst TermHere (rolls-Call f ts) (known_term (Term-F.Call f ts) (λ layout n.
      let m = n + length (lambdas_in f) in
      found_calling linked (function_named f) (code_of layout f n) (terms_from (coded layout ts) m) (h.code layout n) (terms_code layout ts m all))
      (all_join (lambdas_in f) (of_all (map (beside lambdas_in) ts)) h.inner (terms_inner ts all)))

  -- The one kind that searches: what it calls is there.
  pub known_site : (g : GenericId) (ts : List Term) → IsSome (generic_row linked g) → TermsKnown ts → TermHere (Site g ts)
  known_site g ts there all =
      subst TermHere (rolls-Site g ts)
      (known_term (Term-F.Site g ts) (λ layout n. found_with linked (terms_from (coded layout ts) n) (instr.Search g (length (coded layout ts))) (terms_code layout ts n all) there) (terms_inner ts all))

  pub known_op : (k : ℕ) (ts : List Term) → TermsKnown ts → TermHere (Op k ts)
  known_op k ts all =
      subst TermHere (rolls-Op k ts)
      (known_term (Term-F.Op k ts) (λ layout n. found_with linked (terms_from (coded layout ts) n) (instr.Op k (length (coded layout ts))) (terms_code layout ts n all) tt) (terms_inner ts all))

  pub known_cond : (ps : List (Term × Term)) (t : Term) → PairsKnown ps → TermHere t → TermHere (Cond ps t)
  known_cond ps t all h =
      subst TermHere (rolls-Cond ps t) (known_term (Term-F.Cond ps t) (λ layout n.
      let m = behind_branches (coded_pairs layout ps) n in
      found_branching linked (branches_from (coded_pairs layout ps) n) (code_of layout t m) (pairs_code layout ps n all) (h.code layout m))
      (all_join (inside_pairs ps) (lambdas_in t) (pairs_inner ps all) h.inner))

  two_inner : (s t : Term) → TermHere s → TermHere t → AllKnown (lambdas_in s ++ lambdas_in t)
  two_inner s t a b = all_join (lambdas_in s) (lambdas_in t) a.inner b.inner

  pub known_and : (s t : Term) → TermHere s → TermHere t → TermHere (And s t)
  known_and s t a b =
      subst TermHere (rolls-And s t) (known_term (Term-F.And s t) (λ layout n.
      let m = n + length (lambdas_in s) in
      found_choice linked (code_of layout s n) (code_of layout t m) (truth false) (a.code layout n) (b.code layout m) (tt, tt)) (two_inner s t a b))

  pub known_or_else : (s t : Term) → TermHere s → TermHere t → TermHere (Or s t)
  known_or_else s t a b =
      subst TermHere (rolls-Or s t) (known_term (Term-F.Or s t) (λ layout n.
      let m = n + length (lambdas_in s) in
      found_choice linked (code_of layout s n) first_alone (code_of layout t m) (a.code layout n) (tt, (tt, tt)) (b.code layout m)) (two_inner s t a b))

  pub known_loop : (s t : Term) → TermHere s → TermHere t → TermHere (Loop s t)
  known_loop s t a b =
      subst TermHere (rolls-Loop s t) (known_term (Term-F.Loop s t) (λ layout n.
      let m = n + length (lambdas_in s) in
      found_loop linked (code_of layout s n) (code_of layout t m) (a.code layout n) (b.code layout m)) (two_inner s t a b))

  pub known_body : (is : List Item) → Every ItemKnown is → TermHere (Body is)
  known_body is all =
      subst TermHere (rolls-Body is) (known_term (Term-F.Body is) (λ layout n. found_body linked (items_from (map (beside (item_code layout)) is) n) (items_code layout is n all)) (items_inner is all))

  pub known_method : (l : Lambda) → LambdaHere l → TermHere (Method l)
  known_method l h = subst TermHere (rolls-Method l) (known_term (Term-F.Method l) (λ layout n. found_closing linked n (map (place_of layout) (captured_by l))) h)

  pub known_next : (o : Option (List Term)) → GivenKnown o → TermHere (Next o)
  known_next None all = subst TermHere (rolls-Next None) (known_term (Term-F.Next None) (λ layout n. tt) tt)
  known_next (Some ts) all = subst TermHere (rolls-Next (Some ts)) (known_term (Term-F.Next (Some ts)) (λ layout n. tt) (terms_inner ts all))

  select_code : (layout : Layout) (v : Term) (t : Option Term) (arms : List (List Term × Term)) (l : Option Term) (n : ℕ) → TermHere v → HeldKnown t → ArmsKnown arms → HeldKnown l
      → let m = n + length (lambdas_in v) in
      let k = behind_held (coded_held layout t) m in
      Found linked (select (code_of layout v n) (held_from (coded_held layout t) m) (arms_from (coded_arms layout arms) k) (held_from (coded_held layout l) (behind_arms (coded_arms layout arms) k)))
  select_code layout v t arms l n a b c d =
      let m = n + length (lambdas_in v) in
      let k = behind_held (coded_held layout t) m in
      let j = behind_arms (coded_arms layout arms) k in
      found_select linked (code_of layout v n) (held_from (coded_held layout t) m) (arms_from (coded_arms layout arms) k) (held_from (coded_held layout l) j)
      (a.code layout n) (held_code layout t m b) (arms_code layout arms k c) (held_code layout l j d)

  select_inner : (v : Term) (t : Option Term) (arms : List (List Term × Term)) (l : Option Term) → TermHere v → HeldKnown t → ArmsKnown arms → HeldKnown l
      → AllKnown (lambdas_in v ++ inside_held t ++ inside_arms arms ++ inside_held l)
  select_inner v t arms l a b c d =
      all_join (lambdas_in v ++ inside_held t ++ inside_arms arms) (inside_held l)
      (all_join (lambdas_in v ++ inside_held t) (inside_arms arms) (all_join (lambdas_in v) (inside_held t) a.inner (held_inner t b)) (arms_inner arms c)) (held_inner l d)

  pub known_select : (v : Term) (t : Option Term) (arms : List (List Term × Term)) (l : Option Term) → TermHere v → HeldKnown t → ArmsKnown arms → HeldKnown l → TermHere (Select v t arms l)
  known_select v None arms None a b c d =
      subst TermHere (rolls-Select v None arms None) (known_term (Term-F.Select v None arms None) (λ layout n. select_code layout v None arms None n a b c d) (select_inner v None arms None a b c d))
  known_select v None arms (Some l) a b c d =
      subst TermHere (rolls-Select v None arms (Some l)) (known_term (Term-F.Select v None arms (Some l)) (λ layout n. select_code layout v None arms (Some l) n a b c d) (select_inner v None arms (Some l) a b c d))
  known_select v (Some t) arms None a b c d =
      subst TermHere (rolls-Select v (Some t) arms None) (known_term (Term-F.Select v (Some t) arms None) (λ layout n. select_code layout v (Some t) arms None n a b c d) (select_inner v (Some t) arms None a b c d))
  known_select v (Some t) arms (Some l) a b c d =
      subst TermHere (rolls-Select v (Some t) arms (Some l))
      (known_term (Term-F.Select v (Some t) arms (Some l)) (λ layout n. select_code layout v (Some t) arms (Some l) n a b c d) (select_inner v (Some t) arms (Some l) a b c d))

  -- the parts of a body
  pub known_run : (t : Term) → TermHere t → ItemKnown (Run t)
  known_run t h = subst ItemKnown (rolls-Run t) (known_item (Item-F.Run t) (λ layout n. h.code layout n) h.inner)

  pub known_let : (ns : List (ℕ × DyType)) (r : Option ℕ) (t : Term) → TermHere t → ItemKnown (Let ns r t)
  known_let ns r t h =
      subst ItemKnown (rolls-Let ns r t)
      (known_item (Item-F.Let ns r t) (λ layout n. found_letting linked (map (λ (local : ℕ × DyType). place_of layout local.0) ns) (option_map (place_of layout) r) (code_of layout t n) (h.code layout n)) h.inner)

  pub known_methods : (ms : List (ℕ × Lambda)) → MethodsKnown ms → ItemKnown (LetMethods ms)
  known_methods ms all = subst ItemKnown (rolls-LetMethods ms) (known_item (Item-F.LetMethods ms) (λ layout n. found_local_methods linked (methods_from layout (map (λ (m : ℕ × Lambda). (m.0, beside (lambda_code layout) m.1)) ms) n)) (methods_inner ms all))

  pub known_handler : (d : DyType) (t : Term) → TermHere t → ItemKnown (Handler d t)
  known_handler d t h = subst ItemKnown (rolls-Handler d t) (known_item (Item-F.Handler d t) (λ layout n. h.code layout n) h.inner)

  -- the clauses of a `for`
  pub known_then : (k : ℕ) (d : DyType) (s t : Term) → TermHere s → TermHere t → ClauseKnown (Then k d s t)
  known_then k d s t a b =
      subst ClauseKnown (rolls-Then k d s t) (known_clause (ForClause-F.Then k d s t) (λ layout n. (a.code layout n, b.code layout (n + length (lambdas_in s)))) (two_inner s t a b))

  pub known_in : (k : ℕ) (d : DyType) (t : Term) → TermHere t → ClauseKnown (In k d t)
  known_in k d t h = subst ClauseKnown (rolls-In k d t) (known_clause (ForClause-F.In k d t) (λ layout n. (tt, tt)) h.inner)

  from_inner : (t : Term) (l : Option (Limit × Term)) (s : Option Term) → TermHere t → SecondKnown l → HeldKnown s → AllKnown (lambdas_in t ++ inside_second l ++ inside_held s)
  from_inner t l s a b c = all_join (lambdas_in t ++ inside_second l) (inside_held s) (all_join (lambdas_in t) (inside_second l) a.inner (second_inner l b)) (held_inner s c)

  from_code : (layout : Layout) (t : Term) (l : Option (Limit × Term)) (s : Option Term) (n : ℕ) → TermHere t → SecondKnown l → HeldKnown s
      → let m = n + length (lambdas_in t) in
      Found linked (code_of layout t n) × LimitFound linked (limit_from (coded_second layout l) m) × AmountFound linked (step_from (coded_held layout s) (behind_second (coded_second layout l) m))
  from_code layout t l s n a b c =
      let m = n + length (lambdas_in t) in
      (a.code layout n, limit_code layout l m b, step_code layout s (behind_second (coded_second layout l) m) c)

  pub known_from : (k : ℕ) (d : DyType) (t : Term) (l : Option (Limit × Term)) (s : Option Term) → TermHere t → SecondKnown l → HeldKnown s → ClauseKnown (From k d t l s)
  known_from k d t None None a b c = subst ClauseKnown (rolls-From k d t None None) (known_clause (ForClause-F.From k d t None None) (λ layout n. from_code layout t None None n a b c) (from_inner t None None a b c))
  known_from k d t None (Some s) a b c =
      subst ClauseKnown (rolls-From k d t None (Some s)) (known_clause (ForClause-F.From k d t None (Some s)) (λ layout n. from_code layout t None (Some s) n a b c) (from_inner t None (Some s) a b c))
  known_from k d t (Some l) None a b c =
      subst ClauseKnown (rolls-From k d t (Some l) None) (known_clause (ForClause-F.From k d t (Some l) None) (λ layout n. from_code layout t (Some l) None n a b c) (from_inner t (Some l) None a b c))
  known_from k d t (Some l) (Some s) a b c =
      subst ClauseKnown (rolls-From k d t (Some l) (Some s)) (known_clause (ForClause-F.From k d t (Some l) (Some s)) (λ layout n. from_code layout t (Some l) (Some s) n a b c) (from_inner t (Some l) (Some s) a b c))

  -- `for`
  pub record ForKnown (row : ForRow) : Type 0 where
    pub code : (layout : Layout) (n : ℕ) → Found linked (for_code layout row n)
    pub inner : AllKnown (lambdas_in_for row)

  known_row : (x : ForRow-F ForClause Item Term BlockRow ForRow Lambda) → ((layout : Layout) (n : ℕ) → Found linked (for_layer layout x n)) → AllKnown (for_held x) → ForKnown (roll-ForRow x)
  known_row x h k = record {
    code = λ layout n. subst (λ (make : ℕ → Code). Found linked (make n)) (sym (for_is layout x)) (h layout n);
    inner = subst AllKnown (sym (for_held_is x)) k;
  }

  turns_inner : (cs : List ForClause) (t : Option (Bool × Term)) (b : Term) (f : Option Term) → Every ClauseKnown cs → SecondKnown t → TermHere b → HeldKnown f
      → AllKnown (of_all (map (beside lambdas_in_clause) cs) ++ inside_second t ++ lambdas_in b ++ inside_held f)
  turns_inner cs t b f every tested inner last =
      let a = of_all (map (beside lambdas_in_clause) cs) in
      all_join (a ++ inside_second t ++ lambdas_in b) (inside_held f)
      (all_join (a ++ inside_second t) (lambdas_in b) (all_join a (inside_second t) (clauses_inner cs every) (second_inner t tested)) inner.inner) (held_inner f last)

  turns_code : (layout : Layout) (cs : List ForClause) (t : Option (Bool × Term)) (b : Term) (f : Option Term) (n : ℕ) → Every ClauseKnown cs → SecondKnown t → TermHere b → HeldKnown f
      → let clauses = map (beside (clause_code layout)) cs in
      let m = behind_clauses clauses n in
      let k = behind_second (coded_second layout t) m in
      Found linked (for_loop (clauses_from clauses n) (second_from (coded_second layout t) m) (code_of layout b k) (held_from (coded_held layout f) (k + length (lambdas_in b))))
  turns_code layout cs t b f n every tested inner last =
      let clauses = map (beside (clause_code layout)) cs in
      let m = behind_clauses clauses n in
      let k = behind_second (coded_second layout t) m in
      let j = k + length (lambdas_in b) in
      found_for linked (clauses_from clauses n) (second_from (coded_second layout t) m) (code_of layout b k) (held_from (coded_held layout f) j)
      (clauses_code layout cs n every) (test_code layout t m tested) (inner.code layout k) (held_code layout f j last)

  abbrev a_for : List ForClause → Option (Bool × Term) → Term → Option Term → ForRow-F ForClause Item Term BlockRow ForRow Lambda
  a_for cs t b f = record { clauses = cs; test = t; body = b; finally = f }

  known_turns : (cs : List ForClause) (t : Option (Bool × Term)) (b : Term) (f : Option Term) → Every ClauseKnown cs → SecondKnown t → TermHere b → HeldKnown f → ForKnown (roll-ForRow (a_for cs t b f))
  known_turns cs None b None e t i l = known_row (a_for cs None b None) (λ layout n. turns_code layout cs None b None n e t i l) (turns_inner cs None b None e t i l)
  known_turns cs None b (Some f) e t i l = known_row (a_for cs None b (Some f)) (λ layout n. turns_code layout cs None b (Some f) n e t i l) (turns_inner cs None b (Some f) e t i l)
  known_turns cs (Some c) b None e t i l = known_row (a_for cs (Some c) b None) (λ layout n. turns_code layout cs (Some c) b None n e t i l) (turns_inner cs (Some c) b None e t i l)
  known_turns cs (Some c) b (Some f) e t i l = known_row (a_for cs (Some c) b (Some f)) (λ layout n. turns_code layout cs (Some c) b (Some f) n e t i l) (turns_inner cs (Some c) b (Some f) e t i l)

  pub known_for : (cs : List ForClause) (t : Option (Bool × Term)) (b : Term) (f : Option Term) → Every ClauseKnown cs → SecondKnown t → TermHere b → HeldKnown f → TermHere (For (roll-ForRow (a_for cs t b f)))
  known_for cs t b f every tested inner last =
      let row = roll-ForRow (a_for cs t b f) in
      let h = known_turns cs t b f every tested inner last in
      subst TermHere (rolls-For row) (known_term (Term-F.For row) (λ layout n. h.code layout n) h.inner)

  -- A block has no code yet.
  abbrev a_block : Option ℕ → Term → Option Term → Option Term → List (Option ℕ × DyType × Term) → BlockRow-F ForClause Item Term BlockRow ForRow Lambda
  a_block x b a c es = record { exit = x; body = b; afterwards = a; cleanup = c; clauses = es }

  parts_inner : (b : Term) (a c : Option Term) (es : List (Option ℕ × DyType × Term)) → TermHere b → HeldKnown a → HeldKnown c → CatchesKnown es
      → AllKnown (lambdas_in b ++ inside_held a ++ inside_held c ++ inside_catches es)
  parts_inner b a c es h i j k =
      all_join (lambdas_in b ++ inside_held a ++ inside_held c) (inside_catches es)
      (all_join (lambdas_in b ++ inside_held a) (inside_held c) (all_join (lambdas_in b) (inside_held a) h.inner (held_inner a i)) (held_inner c j)) (catches_inner es k)

  block_inner : (x : Option ℕ) (b : Term) (a c : Option Term) (es : List (Option ℕ × DyType × Term)) → TermHere b → HeldKnown a → HeldKnown c → CatchesKnown es → AllKnown (lambdas_in_block (roll-BlockRow (a_block x b a c es)))
  block_inner x b None None es h i j k = subst AllKnown (sym (block_held_is (a_block x b None None es))) (parts_inner b None None es h i j k)
  block_inner x b None (Some c) es h i j k = subst AllKnown (sym (block_held_is (a_block x b None (Some c) es))) (parts_inner b None (Some c) es h i j k)
  block_inner x b (Some a) None es h i j k = subst AllKnown (sym (block_held_is (a_block x b (Some a) None es))) (parts_inner b (Some a) None es h i j k)
  block_inner x b (Some a) (Some c) es h i j k = subst AllKnown (sym (block_held_is (a_block x b (Some a) (Some c) es))) (parts_inner b (Some a) (Some c) es h i j k)

  pub known_block : (x : Option ℕ) (b : Term) (a c : Option Term) (es : List (Option ℕ × DyType × Term)) → TermHere b → HeldKnown a → HeldKnown c → CatchesKnown es → TermHere (Block (roll-BlockRow (a_block x b a c es)))
  known_block x b a c es h i j k =
      let row = roll-BlockRow (a_block x b a c es) in
      subst TermHere (rolls-Block row)
      (known_term (Term-F.Block row) (λ layout n. subst (λ (make : ℕ → Code). Found linked (make n)) (sym (block_is layout (a_block x b a c es))) tt) (block_inner x b a c es h i j k))

  -- lambdas
  body_known : (lambda : Lambda) → TermHere (out-Lambda lambda).body → CallsHere lambda
  body_known lambda h number =
      let row = out-Lambda lambda in
      let n = number + length (of_defaults row.keywords) in
      let code = code_of (layout_of lambda) row.body n in
      let last = Plain (instr.CheckResults row.results) ∷ one instr.Return in
      join linked (entry lambda) (code ++ last) (tt, (tt, found_cells linked (parameters lambda)))
      (join linked code last (h.code (layout_of lambda) n) (tt, (tt, tt)))

  pub known_lambda : (x : Lambda-F ForClause Item Term BlockRow ForRow Lambda) → KeywordsKnown x.keywords → TermHere x.body → LambdaHere (roll-Lambda x)
  known_lambda x all h = (
    body_known (roll-Lambda x) (subst (λ (row : Lambda-F ForClause Item Term BlockRow ForRow Lambda). TermHere row.body) (sym (out-roll-Lambda x)) h),
    subst AllKnown (sym (lambda_held_is x)) (all_join (inside_keywords x.keywords) (lambdas_in x.body) (keywords_inner x.keywords all) h.inner),
  )
