-- The code of each term leaves what lies in the frame as it was, by induction on terms.
use Rattle.std.proofs.Common.{◌≡◌, ℕ, suc, ◌+◌, Bool, ℤ, List, [], ◌∷◌, length, map, Option, Some, None, refl, sym, ap, subst}
use Rattle.std.specs.Option.{option_map}
use Rattle.dy_term.specs.declared.term.Limit.{Limit}
use Rattle.dy_term.specs.declared.term.ForClause.{ForClause, ForClause-F, roll-ForClause, map-ForClause, para-roll-ForClause}
use Rattle.dy_term.specs.declared.term.Item.{Item, Item-F, roll-Item, map-Item, para-roll-Item}
use Rattle.dy_term.specs.declared.term.Term.{Term, Term-F, out-Term, roll-Term, map-Term, para-roll-Term}
use Rattle.dy_term.specs.declared.term.BlockRow.{BlockRow, BlockRow-F, roll-BlockRow, map-BlockRow, para-roll-BlockRow}
use Rattle.dy_term.specs.declared.term.ForRow.{ForRow, ForRow-F, roll-ForRow, map-ForRow, para-roll-ForRow}
use Rattle.dy_term.specs.declared.term.Lambda.{Lambda}
use Rattle.dy_code.specs.Fetching.{Instruction}
use Rattle.dy_code.specs.Fetching as instr
use Rattle.dy_code.specs.Validity.{Every}
use Rattle.dy_meaning.specs.Lambdas.{lambdas_in, lambdas_in_clause, lambdas_in_item}
use Rattle.dy_meaning.specs.Layouts.{Layout, place_of, captured_by}
use Rattle.dy_meaning.specs.Numbering.{Numbered, terms_from, behind_terms, items_from, branches_from, behind_branches, arms_from, behind_arms, held_from, behind_held, clauses_from, behind_clauses, second_from, behind_second}
use Rattle.dy_meaning.proofs.Induction.{by_terms, Clauses_with, Items_with, Terms_with, Blocks_with, Fors_with, Lambdas_with, clause_of, item_of, term_of, for_of}
use Rattle.dy_lowered.specs.Flat.{Code, one}
use Rattle.dy_lowered.specs.Parts.{Part, select}
use Rattle.dy_lowered.specs.Turns.{Clause, for_loop}
use Rattle.dy_lowered.specs.Terms.{class_named, generic_named, function_named, number_of, known_or, limit_from, step_from, methods_from, clause_coded, item_coded, term_coded, block_coded, for_coded, code_of, item_code, clause_code, block_code, for_code, lambda_code}
use Rattle.dy_lowering_whole.specs.valid.Shapes.{IsEven}
use Rattle.dy_lowering_whole.proofs.valid.Counting.{IsAmountEven, IsLimitEven}
use Rattle.dy_lowering_whole.proofs.valid.Laying.{Takes, lays_nothing, goes_const, goes_global, goes_set_global, goes_search, goes_op}
use Rattle.dy_lowering_whole.proofs.valid.Pieces.{even_one, even_join, even_read, even_assigning, even_with_arguments, even_calling, ArePairsEven, even_branching, even_both, even_either, AreArmsEven, IsHeldEven, even_select, even_letting, even_closing, even_local_methods, IsPartEven, even_body, even_loop}
use Rattle.dy_lowering_whole.proofs.valid.Fors.{even_for_loop}
use Rattle.dy_lowering_whole.proofs.valid.Turning.{IsClauseEven, IsTestEven}

-- a part, and what is made of it
abbrev pub beside : {A B : Type 0} → (A → B) → A → A × B
beside make part = (part, make part)

module _ (layout : Layout) where
  abbrev pub clause_layer : ForClause-F ForClause Item Term BlockRow ForRow Lambda → ℕ → Clause
  clause_layer x = clause_coded layout (map-ForClause _ _ _ _ _ _ _ _ _ _ _ _ (beside (clause_code layout)) (beside (item_code layout)) (beside (code_of layout)) (beside (block_code layout)) (beside (for_code layout)) (beside (lambda_code layout)) x)

  abbrev pub item_layer : Item-F ForClause Item Term BlockRow ForRow Lambda → ℕ → Part
  item_layer x = item_coded layout (map-Item _ _ _ _ _ _ _ _ _ _ _ _ (beside (clause_code layout)) (beside (item_code layout)) (beside (code_of layout)) (beside (block_code layout)) (beside (for_code layout)) (beside (lambda_code layout)) x)

  abbrev pub term_layer : Term-F ForClause Item Term BlockRow ForRow Lambda → ℕ → Code
  term_layer x = term_coded layout (map-Term _ _ _ _ _ _ _ _ _ _ _ _ (beside (clause_code layout)) (beside (item_code layout)) (beside (code_of layout)) (beside (block_code layout)) (beside (for_code layout)) (beside (lambda_code layout)) x)

  abbrev block_layer : BlockRow-F ForClause Item Term BlockRow ForRow Lambda → ℕ → Code
  block_layer x = block_coded layout (map-BlockRow _ _ _ _ _ _ _ _ _ _ _ _ (beside (clause_code layout)) (beside (item_code layout)) (beside (code_of layout)) (beside (block_code layout)) (beside (for_code layout)) (beside (lambda_code layout)) x)

  abbrev pub for_layer : ForRow-F ForClause Item Term BlockRow ForRow Lambda → ℕ → Code
  for_layer x = for_coded layout (map-ForRow _ _ _ _ _ _ _ _ _ _ _ _ (beside (clause_code layout)) (beside (item_code layout)) (beside (code_of layout)) (beside (block_code layout)) (beside (for_code layout)) (beside (lambda_code layout)) x)

  pub clause_is : (x : ForClause-F ForClause Item Term BlockRow ForRow Lambda) → clause_code layout (roll-ForClause x) ≡ clause_layer x
  clause_is = para-roll-ForClause _ _ _ _ _ _ _ _ _ _ _ _

  pub item_is : (x : Item-F ForClause Item Term BlockRow ForRow Lambda) → item_code layout (roll-Item x) ≡ item_layer x
  item_is = para-roll-Item _ _ _ _ _ _ _ _ _ _ _ _

  pub term_is : (x : Term-F ForClause Item Term BlockRow ForRow Lambda) → code_of layout (roll-Term x) ≡ term_layer x
  term_is = para-roll-Term _ _ _ _ _ _ _ _ _ _ _ _

  pub block_is : (x : BlockRow-F ForClause Item Term BlockRow ForRow Lambda) → block_code layout (roll-BlockRow x) ≡ block_layer x
  block_is = para-roll-BlockRow _ _ _ _ _ _ _ _ _ _ _ _

  pub for_is : (x : ForRow-F ForClause Item Term BlockRow ForRow Lambda) → for_code layout (roll-ForRow x) ≡ for_layer x
  for_is = para-roll-ForRow _ _ _ _ _ _ _ _ _ _ _ _

  abbrev C : ForClause → Type 0
  C x = (n : ℕ) → IsClauseEven (clause_code layout x n)

  abbrev I : Item → Type 0
  I x = (n : ℕ) → IsPartEven (item_code layout x n)

  abbrev T : Term → Type 0
  T x = (n : ℕ) → IsEven (code_of layout x n)

  abbrev K : BlockRow → Type 0
  K x = (n : ℕ) → IsEven (block_code layout x n)

  abbrev F : ForRow → Type 0
  F x = (n : ℕ) → IsEven (for_code layout x n)

  abbrev L : Lambda → Type 0
  L x = Unit {0}

  even_clause : (x : ForClause-F ForClause Item Term BlockRow ForRow Lambda) → ((n : ℕ) → IsClauseEven (clause_layer x n)) → C (roll-ForClause x)
  even_clause x h = subst (λ (make : ℕ → Clause). (n : ℕ) → IsClauseEven (make n)) (sym (clause_is x)) h

  even_item : (x : Item-F ForClause Item Term BlockRow ForRow Lambda) → ((n : ℕ) → IsPartEven (item_layer x n)) → I (roll-Item x)
  even_item x h = subst (λ (make : ℕ → Part). (n : ℕ) → IsPartEven (make n)) (sym (item_is x)) h

  even_term : (x : Term-F ForClause Item Term BlockRow ForRow Lambda) → ((n : ℕ) → IsEven (term_layer x n)) → T (roll-Term x)
  even_term x h = subst (λ (make : ℕ → Code). (n : ℕ) → IsEven (make n)) (sym (term_is x)) h

  even_block : (x : BlockRow-F ForClause Item Term BlockRow ForRow Lambda) → ((n : ℕ) → IsEven (block_layer x n)) → K (roll-BlockRow x)
  even_block x h = subst (λ (make : ℕ → Code). (n : ℕ) → IsEven (make n)) (sym (block_is x)) h

  even_for : (x : ForRow-F ForClause Item Term BlockRow ForRow Lambda) → ((n : ℕ) → IsEven (for_layer x n)) → F (roll-ForRow x)
  even_for x h = subst (λ (make : ℕ → Code). (n : ℕ) → IsEven (make n)) (sym (for_is x)) h

  abbrev A_term : Type 0
  A_term = Terms_with C I T K F L

  abbrev An_item : Type 0
  An_item = Items_with C I T K F L

  abbrev coded : List A_term → List (Numbered Term Code)
  coded ys = map (beside (code_of layout)) (map (λ y. y.0) ys)

  terms_even : (ys : List A_term) (n : ℕ) → Every IsEven (terms_from (coded ys) n)
  terms_even [] n = tt
  terms_even (y ∷ ys) n = (y.1 n, terms_even ys (n + length (lambdas_in y.0)))

  terms_count : (ys : List A_term) (n : ℕ) → length (terms_from (coded ys) n) ≡ length (coded ys)
  terms_count [] n = refl
  terms_count (y ∷ ys) n = ap suc (terms_count ys (n + length (lambdas_in y.0)))

  abbrev coded_items : List An_item → List (Numbered Item Part)
  coded_items ys = map (beside (item_code layout)) (map (λ y. y.0) ys)

  items_even : (ys : List An_item) (n : ℕ) → Every IsPartEven (items_from (coded_items ys) n)
  items_even [] n = tt
  items_even (y ∷ ys) n = (y.1 n, items_even ys (n + length (lambdas_in_item y.0)))

  abbrev A_pair : Type 0
  A_pair = A_term × A_term

  abbrev coded_pairs : List A_pair → List (Numbered Term Code × Numbered Term Code)
  coded_pairs ys = map (λ (p : Term × Term). (beside (code_of layout) p.0, beside (code_of layout) p.1)) (map (λ (y : A_pair). (y.0.0, y.1.0)) ys)

  pairs_even : (ys : List A_pair) (n : ℕ) → ArePairsEven (branches_from (coded_pairs ys) n)
  pairs_even [] n = tt
  pairs_even (y ∷ ys) n = (y.0.1 n, y.1.1 (n + length (lambdas_in y.0.0)), pairs_even ys (n + length (lambdas_in y.0.0) + length (lambdas_in y.1.0)))

  abbrev An_arm : Type 0
  An_arm = List A_term × A_term

  abbrev coded_arms : List An_arm → List (List (Numbered Term Code) × Numbered Term Code)
  coded_arms ys = map (λ (p : List Term × Term). (map (beside (code_of layout)) p.0, beside (code_of layout) p.1)) (map (λ (y : An_arm). (map (λ z. z.0) y.0, y.1.0)) ys)

  arms_even : (ys : List An_arm) (n : ℕ) → AreArmsEven (arms_from (coded_arms ys) n)
  arms_even [] n = tt
  arms_even (y ∷ ys) n =
      let m = behind_terms (coded y.0) n in
      (terms_even y.0 n, y.1.1 m, arms_even ys (m + length (lambdas_in y.1.0)))

  abbrev coded_held : Option A_term → Option (Numbered Term Code)
  coded_held y = option_map (beside (code_of layout)) (option_map (λ y. y.0) y)

  held_even : (y : Option A_term) (n : ℕ) → IsHeldEven (held_from (coded_held y) n)
  held_even None n = tt
  held_even (Some y) n = y.1 n

  abbrev behind_test : A_term → Option A_term → ℕ → ℕ
  behind_test v t n = behind_held (coded_held t) (n + length (lambdas_in v.0))

  select_even : (v : A_term) (t : Option A_term) (ys : List An_arm) (o : Option A_term) (n : ℕ)
      → IsEven (select (code_of layout v.0 n) (held_from (coded_held t) (n + length (lambdas_in v.0))) (arms_from (coded_arms ys) (behind_test v t n)) (held_from (coded_held o) (behind_arms (coded_arms ys) (behind_test v t n))))
  select_even v t ys o n =
      let m = n + length (lambdas_in v.0) in
      let k = behind_test v t n in
      let j = behind_arms (coded_arms ys) k in
      even_select (code_of layout v.0 n) (held_from (coded_held t) m) (arms_from (coded_arms ys) k) (held_from (coded_held o) j) (v.1 n) (held_even t m) (arms_even ys k) (held_even o j)

  abbrev coded_methods : List (ℕ × Lambdas_with C I T K F L) → List (ℕ × (Lambda × Unit {0}))
  coded_methods ys = map (λ (m : ℕ × Lambda). (m.0, beside (lambda_code layout) m.1)) (map (λ (y : ℕ × Lambdas_with C I T K F L). (y.0, y.1.0)) ys)

  term_even : (y : Term-F (Clauses_with C I T K F L) An_item A_term (Blocks_with C I T K F L) (Fors_with C I T K F L) (Lambdas_with C I T K F L)) → T (term_of C I T K F L y)
  term_even (Term-F.Lit value) = even_term _ (λ n. even_one (instr.Const value) (goes_const value))
  term_even (Term-F.Local local) = even_term _ (λ n. even_read (place_of layout local))
  term_even (Term-F.Global binding) = even_term _ (λ n. even_one (instr.Global binding) (goes_global binding))
  term_even (Term-F.ClassName class) = even_term _ (λ n. even_one (instr.Global (class_named class)) (goes_global (class_named class)))
  term_even (Term-F.GenericName generic) = even_term _ (λ n. even_one (instr.Global (generic_named generic)) (goes_global (generic_named generic)))
  term_even (Term-F.SetLocal local y) = even_term _ (λ n. even_assigning (place_of layout local) (code_of layout y.0 n) (y.1 n))
  term_even (Term-F.SetGlobal binding y) = even_term _ (λ n. even_join (code_of layout y.0 n) (one (instr.SetGlobal binding)) (y.1 n) (even_one (instr.SetGlobal binding) (goes_set_global binding)))
  term_even (Term-F.Call f ys) = even_term _ (λ n.
      let m = n + length (lambdas_in f.0) in
      even_calling (function_named f.0) (code_of layout f.0 n) (terms_from (coded ys) m) (f.1 n) (terms_even ys m))
  term_even (Term-F.Site generic ys) = even_term _ (λ n.
      let call = instr.Search generic (length (coded ys)) in
      even_with_arguments (terms_from (coded ys) n) call (terms_even ys n) (subst (λ (k : ℕ). Takes k call) (sym (terms_count ys n)) (goes_search generic (length (coded ys)))))
  term_even (Term-F.Cond ys y) = even_term _ (λ n.
      let m = behind_branches (coded_pairs ys) n in
      even_branching (branches_from (coded_pairs ys) n) (code_of layout y.0 m) (pairs_even ys n) (y.1 m))
  term_even (Term-F.And a b) = even_term _ (λ n.
      let m = n + length (lambdas_in a.0) in
      even_both (code_of layout a.0 n) (code_of layout b.0 m) (a.1 n) (b.1 m))
  term_even (Term-F.Or a b) = even_term _ (λ n.
      let m = n + length (lambdas_in a.0) in
      even_either (code_of layout a.0 n) (code_of layout b.0 m) (a.1 n) (b.1 m))
  term_even (Term-F.Select v None ys None) = even_term _ (λ n. select_even v None ys None n)
  term_even (Term-F.Select v None ys (Some o)) = even_term _ (λ n. select_even v None ys (Some o) n)
  term_even (Term-F.Select v (Some t) ys None) = even_term _ (λ n. select_even v (Some t) ys None n)
  term_even (Term-F.Select v (Some t) ys (Some o)) = even_term _ (λ n. select_even v (Some t) ys (Some o) n)
  term_even (Term-F.Body ys) = even_term _ (λ n. even_body (items_from (coded_items ys) n) (items_even ys n))
  term_even (Term-F.Loop a b) = even_term _ (λ n.
      let m = n + length (lambdas_in a.0) in
      even_loop (code_of layout a.0 n) (code_of layout b.0 m) (a.1 n) (b.1 m))
  term_even (Term-F.For y) = even_term _ (λ n. y.1 n)
  term_even (Term-F.Method y) = even_term _ (λ n. even_closing n (map (place_of layout) (captured_by y.0)))
  term_even (Term-F.Block y) = even_term _ (λ n. y.1 n)
  term_even (Term-F.Op operation ys) = even_term _ (λ n.
      let call = instr.Op operation (length (coded ys)) in
      even_with_arguments (terms_from (coded ys) n) call (terms_even ys n) (subst (λ (k : ℕ). Takes k call) (sym (terms_count ys n)) (goes_op operation (length (coded ys)))))
  term_even (Term-F.Next ys) = even_term _ (λ n. lays_nothing)

  item_even : (y : Item-F (Clauses_with C I T K F L) An_item A_term (Blocks_with C I T K F L) (Fors_with C I T K F L) (Lambdas_with C I T K F L)) → I (item_of C I T K F L y)
  item_even (Item-F.Run y) = even_item _ (λ n. y.1 n)
  item_even (Item-F.Let locals rest y) = even_item _ (λ n. even_letting (map (λ local. place_of layout local.0) locals) (option_map (place_of layout) rest) (code_of layout y.0 n) (y.1 n))
  item_even (Item-F.LetMethods methods) = even_item _ (λ n. even_local_methods (methods_from layout (coded_methods methods) n))
  item_even (Item-F.Handler type y) = even_item _ (λ n. y.1 n)

  -- `for`
  abbrev A_clause : Type 0
  A_clause = Clauses_with C I T K F L

  abbrev A_limit : Type 0
  A_limit = Limit × A_term

  abbrev A_test : Type 0
  A_test = Bool × A_term

  abbrev coded_limit : Option A_limit → Option (Limit × Numbered Term Code)
  coded_limit y = option_map (λ (p : Limit × Term). (p.0, beside (code_of layout) p.1)) (option_map (λ (p : A_limit). (p.0, p.1.0)) y)

  abbrev coded_test : Option A_test → Option (Bool × Numbered Term Code)
  coded_test y = option_map (λ (p : Bool × Term). (p.0, beside (code_of layout) p.1)) (option_map (λ (p : A_test). (p.0, p.1.0)) y)

  abbrev coded_clauses : List A_clause → List (Numbered ForClause Clause)
  coded_clauses ys = map (beside (clause_code layout)) (map (λ y. y.0) ys)

  amount_even : (known : Option ℤ) (code : Code) → IsEven code → IsAmountEven (known_or known code)
  amount_even None code h = h
  amount_even (Some number) code h = tt

  limit_even : (y : Option A_limit) (n : ℕ) → IsLimitEven (limit_from (coded_limit y) n)
  limit_even None n = tt
  limit_even (Some y) n = amount_even (number_of (out-Term y.1.0)) (code_of layout y.1.0 n) (y.1.1 n)

  step_even : (y : Option A_term) (n : ℕ) → IsAmountEven (step_from (coded_held y) n)
  step_even None n = tt
  step_even (Some y) n = amount_even (number_of (out-Term y.0)) (code_of layout y.0 n) (y.1 n)

  test_even : (y : Option A_test) (n : ℕ) → IsTestEven (second_from (coded_test y) n)
  test_even None n = tt
  test_even (Some y) n = y.1.1 n

  clauses_even : (ys : List A_clause) (n : ℕ) → Every IsClauseEven (clauses_from (coded_clauses ys) n)
  clauses_even [] n = tt
  clauses_even (y ∷ ys) n = (y.1 n, clauses_even ys (n + length (lambdas_in_clause y.0)))

  counts_even : (s : A_term) (y : Option A_limit) (t : Option A_term) (n : ℕ) → IsEven (code_of layout s.0 n)
      × IsLimitEven (limit_from (coded_limit y) (n + length (lambdas_in s.0))) × IsAmountEven (step_from (coded_held t) (behind_second (coded_limit y) (n + length (lambdas_in s.0))))
  counts_even s y t n =
      let m = n + length (lambdas_in s.0) in
      (s.1 n, limit_even y m, step_even t (behind_second (coded_limit y) m))

  abbrev A_clause_row : Type 0
  A_clause_row = ForClause-F A_clause An_item A_term (Blocks_with C I T K F L) (Fors_with C I T K F L) (Lambdas_with C I T K F L)

  clause_even : (y : A_clause_row) → C (clause_of C I T K F L y)
  clause_even (ForClause-F.Then local type s t) = even_clause _ (λ n. (s.1 n, t.1 (n + length (lambdas_in s.0))))
  clause_even (ForClause-F.In local type c) = even_clause _ (λ n. (lays_nothing, lays_nothing))
  clause_even (ForClause-F.From local type s None None) = even_clause _ (λ n. counts_even s None None n)
  clause_even (ForClause-F.From local type s None (Some t)) = even_clause _ (λ n. counts_even s None (Some t) n)
  clause_even (ForClause-F.From local type s (Some y) None) = even_clause _ (λ n. counts_even s (Some y) None n)
  clause_even (ForClause-F.From local type s (Some y) (Some t)) = even_clause _ (λ n. counts_even s (Some y) (Some t) n)

  turns_even : (ys : List A_clause) (t : Option A_test) (b : A_term) (f : Option A_term) (n : ℕ)
      → IsEven (for_loop (clauses_from (coded_clauses ys) n) (second_from (coded_test t) (behind_clauses (coded_clauses ys) n)) (code_of layout b.0 (behind_second (coded_test t) (behind_clauses (coded_clauses ys) n)))
      (held_from (coded_held f) (behind_second (coded_test t) (behind_clauses (coded_clauses ys) n) + length (lambdas_in b.0))))
  turns_even ys t b f n =
      let m = behind_clauses (coded_clauses ys) n in
      let k = behind_second (coded_test t) m in
      let j = k + length (lambdas_in b.0) in
      even_for_loop (clauses_from (coded_clauses ys) n) (second_from (coded_test t) m) (code_of layout b.0 k) (held_from (coded_held f) j) (clauses_even ys n) (test_even t m) (b.1 k) (held_even f j)

  abbrev A_for_row : Type 0
  A_for_row = ForRow-F A_clause An_item A_term (Blocks_with C I T K F L) (Fors_with C I T K F L) (Lambdas_with C I T K F L)

  abbrev a_for : List A_clause → Option A_test → A_term → Option A_term → A_for_row
  a_for cs t b f = record { clauses = cs; test = t; body = b; finally = f }

  for_by : (cs : List A_clause) (t : Option A_test) (b : A_term) (f : Option A_term) → F (for_of C I T K F L (a_for cs t b f))
  for_by cs None b None = even_for _ (λ n. turns_even cs None b None n)
  for_by cs None b (Some f) = even_for _ (λ n. turns_even cs None b (Some f) n)
  for_by cs (Some t) b None = even_for _ (λ n. turns_even cs (Some t) b None n)
  for_by cs (Some t) b (Some f) = even_for _ (λ n. turns_even cs (Some t) b (Some f) n)

  pub even_code : (term : Term) (number : ℕ) → IsEven (code_of layout term number)
  even_code = by_terms C I T K F L clause_even item_even term_even (λ y. even_block _ (λ n. lays_nothing)) (λ y. for_by y.clauses y.test y.body y.finally) (λ y. tt)
