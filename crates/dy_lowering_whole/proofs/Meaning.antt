-- No term leaves a block, where no call does: by induction on terms.
use Rattle.std.proofs.Common.{ℕ, ◌+◌, Bool, List, [], ◌∷◌, length, map, Option, Some, None, sym, subst}
use Rattle.std.specs.Option.{option_map}
use Rattle.dy_base.specs.declared.ids.BindingId.{BindingId}
use Rattle.dy_base.specs.declared.ids.GenericId.{GenericId}
use Rattle.dy_base.specs.declared.ids.What.{What}
use Rattle.dy_base.specs.declared.ids.What.TheVariants as whats
use Rattle.dy_types.specs.Classes.{integer}
use Rattle.dy_term.specs.declared.term.ForClause.{ForClause, ForClause-F, roll-ForClause}
use Rattle.dy_term.specs.declared.term.Item.{Item, Item-F, roll-Item}
use Rattle.dy_term.specs.declared.term.Term.{Term, Term-F, roll-Term}
use Rattle.dy_term.specs.declared.term.BlockRow.{BlockRow, BlockRow-F, roll-BlockRow}
use Rattle.dy_term.specs.declared.term.ForRow.{ForRow, ForRow-F, roll-ForRow}
use Rattle.dy_term.specs.declared.term.Lambda.{Lambda}
use Rattle.dy_term.specs.declared.rows.Program.{Program}
use Rattle.dy_values.specs.declared.value.Variant.{Variant}
use Rattle.dy_values.specs.declared.error.ErrorRow.{ErrorRow}
use Rattle.dy_values.specs.Errors.{no_match, wrong_class, read_too_early}
use Rattle.dy_values.specs.Spending.{Made, Makes, Lacks, made_literal}
use Rattle.dy_outcome.specs.declared.state.State.{State}
use Rattle.dy_outcome.specs.States.{Does}
use Rattle.dy_outcome.specs.Calls.{Calls}
use Rattle.dy_outcome.specs.Parts.{Part}
use Rattle.dy_outcome.specs.Turns.{Clause, for_loop}
use Rattle.dy_code.specs.Validity.{Every}
use Rattle.dy_meaning.specs.Globals.{value_of, name_of, variable_at, given_or, read_variable}
use Rattle.dy_meaning.specs.Lambdas.{lambdas_in_clause, lambdas_in_item, lambdas_in}
use Rattle.dy_meaning.specs.Layouts.{Layout, place_of}
use Rattle.dy_meaning.specs.Meaning.{with_made, identity, or_no_match, selecting_in, no_number, closing_of, methods_from, clause_meaning, item_meaning, meaning, block_meaning, for_meaning, lambda_meaning}
use Rattle.dy_meaning.specs.Numbering.{Numbered, terms_from, behind_terms, items_from, clauses_from, behind_clauses, branches_from, behind_branches, arms_from, behind_arms, held_from, behind_held, second_from, behind_second}
use Rattle.dy_meaning.proofs.Induction.{by_terms, Clauses_with, Items_with, Terms_with, Blocks_with, Fors_with, Lambdas_with, clause_of, item_of, term_of, for_of}
use Rattle.dy_lowering_whole.proofs.valid.Evenness.{beside}
use Rattle.dy_lowering_whole.specs.Unexited.{IsNoExit, NeverExits}
use Rattle.dy_lowering_whole.proofs.Layers.{clause_meant_layer, item_meant_layer, term_meant_layer, block_meant_layer, for_meant_layer, clause_meant, item_meant, term_meant, block_meant, for_meant}
use Rattle.dy_lowering_whole.proofs.Staying.{then_stays, with_stays, assigning_stays, letting_stays, closing_stays, methods_stay, PartStays, body_stays, PairStays, branching_stays, both_stays, either_stays, ArmStays, HeldStays, select_stays, loop_stays, BesideStays, ClauseStays, for_stays}

-- no call leaves a block
pub record CallsStay (calls : Calls) : Type 0 where
  pub value : (function : Variant) (values : List Variant) → NeverExits (calls.value function values)
  pub generic : (generic : GenericId) (values : List Variant) → NeverExits (calls.generic generic values)
  pub operation : (number : ℕ) (values : List Variant) → NeverExits (calls.operation number values)
  pub signal : (error : ErrorRow) → NeverExits (calls.signal error)

made_stays : (m : Made) (s : State) → IsNoExit (with_made m s)
made_stays (Makes value store units) s = tt
made_stays Lacks s = tt

given_stays : (o : Option Variant) (missing : Does) → NeverExits missing → NeverExits (given_or o missing)
given_stays (Some value) missing h scope s = tt
given_stays None missing h scope s = h scope s

module _ (program : Program) (calls : Calls) (layout : Layout) (stay : CallsStay calls) where
  abbrev meant : Term → ℕ → Does
  meant = meaning program calls layout

  read_stays : (what : What) (binding : BindingId) → NeverExits (read_variable program calls what binding)
  read_stays whats.Function binding scope s = tt
  read_stays what binding scope s =
      given_stays (value_of s.store.globals binding) (calls.signal (read_too_early (name_of (variable_at program binding.at)))) (stay.signal (read_too_early (name_of (variable_at program binding.at)))) scope s

  match_stays : (last : Option Does) → HeldStays last → NeverExits (or_no_match calls last)
  match_stays None h = stay.signal no_match
  match_stays (Some d) h = h

  abbrev C : ForClause → Type 0
  C x = (l : ℕ) → ClauseStays (clause_meaning program calls layout x l)

  abbrev I : Item → Type 0
  I x = (l : ℕ) → PartStays (item_meaning program calls layout x l)

  abbrev T : Term → Type 0
  T x = (l : ℕ) → NeverExits (meant x l)

  abbrev K : BlockRow → Type 0
  K x = (l : ℕ) → NeverExits (block_meaning program calls layout x l)

  abbrev F : ForRow → Type 0
  F x = (l : ℕ) → NeverExits (for_meaning program calls layout x l)

  abbrev L : Lambda → Type 0
  L x = Unit {0}

  stay_clause : (x : ForClause-F ForClause Item Term BlockRow ForRow Lambda) → ((l : ℕ) → ClauseStays (clause_meant_layer program calls layout x l)) → C (roll-ForClause x)
  stay_clause x h = subst (λ (does : ℕ → Clause). (l : ℕ) → ClauseStays (does l)) (sym (clause_meant program calls layout x)) h

  stay_item : (x : Item-F ForClause Item Term BlockRow ForRow Lambda) → ((l : ℕ) → PartStays (item_meant_layer program calls layout x l)) → I (roll-Item x)
  stay_item x h = subst (λ (does : ℕ → Part). (l : ℕ) → PartStays (does l)) (sym (item_meant program calls layout x)) h

  stay_term : (x : Term-F ForClause Item Term BlockRow ForRow Lambda) → ((l : ℕ) → NeverExits (term_meant_layer program calls layout x l)) → T (roll-Term x)
  stay_term x h = subst (λ (does : ℕ → Does). (l : ℕ) → NeverExits (does l)) (sym (term_meant program calls layout x)) h

  stay_block : (x : BlockRow-F ForClause Item Term BlockRow ForRow Lambda) → ((l : ℕ) → NeverExits (block_meant_layer program calls layout x l)) → K (roll-BlockRow x)
  stay_block x h = subst (λ (does : ℕ → Does). (l : ℕ) → NeverExits (does l)) (sym (block_meant program calls layout x)) h

  stay_for : (x : ForRow-F ForClause Item Term BlockRow ForRow Lambda) → ((l : ℕ) → NeverExits (for_meant_layer program calls layout x l)) → F (roll-ForRow x)
  stay_for x h = subst (λ (does : ℕ → Does). (l : ℕ) → NeverExits (does l)) (sym (for_meant program calls layout x)) h

  abbrev A_term : Type 0
  A_term = Terms_with C I T K F L

  abbrev does_of : List A_term → List (Numbered Term Does)
  does_of ys = map (beside meant) (map (λ y. y.0) ys)

  terms_stay : (ys : List A_term) (l : ℕ) → Every NeverExits (terms_from (does_of ys) l)
  terms_stay [] l = tt
  terms_stay (y ∷ ys) l = (y.1 l, terms_stay ys (l + length (lambdas_in y.0)))

  abbrev An_item : Type 0
  An_item = Items_with C I T K F L

  items_stay : (ys : List An_item) (l : ℕ) → Every PartStays (items_from (map (beside (item_meaning program calls layout)) (map (λ y. y.0) ys)) l)
  items_stay [] l = tt
  items_stay (y ∷ ys) l = (y.1 l, items_stay ys (l + length (lambdas_in_item y.0)))

  abbrev A_clause : Type 0
  A_clause = Clauses_with C I T K F L

  abbrev clauses_of : List A_clause → List (Numbered ForClause Clause)
  clauses_of ys = map (beside (clause_meaning program calls layout)) (map (λ y. y.0) ys)

  clauses_stay : (ys : List A_clause) (l : ℕ) → Every ClauseStays (clauses_from (clauses_of ys) l)
  clauses_stay [] l = tt
  clauses_stay (y ∷ ys) l = (y.1 l, clauses_stay ys (l + length (lambdas_in_clause y.0)))

  abbrev A_pair : Type 0
  A_pair = A_term × A_term

  abbrev pairs_of : List A_pair → List (Numbered Term Does × Numbered Term Does)
  pairs_of ys = map (λ (p : Term × Term). (beside meant p.0, beside meant p.1)) (map (λ (y : A_pair). (y.0.0, y.1.0)) ys)

  pairs_stay : (ys : List A_pair) (l : ℕ) → Every PairStays (branches_from (pairs_of ys) l)
  pairs_stay [] l = tt
  pairs_stay (y ∷ ys) l = ((y.0.1 l, y.1.1 (l + length (lambdas_in y.0.0))), pairs_stay ys (l + length (lambdas_in y.0.0) + length (lambdas_in y.1.0)))

  abbrev An_arm : Type 0
  An_arm = List A_term × A_term

  abbrev arms_of : List An_arm → List (List (Numbered Term Does) × Numbered Term Does)
  arms_of ys = map (λ (p : List Term × Term). (map (beside meant) p.0, beside meant p.1)) (map (λ (y : An_arm). (map (λ z. z.0) y.0, y.1.0)) ys)

  arms_stay : (ys : List An_arm) (l : ℕ) → Every ArmStays (arms_from (arms_of ys) l)
  arms_stay [] l = tt
  arms_stay (y ∷ ys) l =
      let m = behind_terms (does_of y.0) l in
      ((terms_stay y.0 l, y.1.1 m), arms_stay ys (m + length (lambdas_in y.1.0)))

  abbrev held_of : Option A_term → Option (Numbered Term Does)
  held_of y = option_map (beside meant) (option_map (λ y. y.0) y)

  held_stays : (y : Option A_term) (l : ℕ) → HeldStays (held_from (held_of y) l)
  held_stays None l = tt
  held_stays (Some y) l = y.1 l

  select_does : (v : A_term) (t : Option A_term) (ys : List An_arm) (o : Option A_term) (l : ℕ)
      → NeverExits (selecting_in calls (meant v.0 l) (held_from (held_of t) (l + length (lambdas_in v.0))) (arms_from (arms_of ys) (behind_held (held_of t) (l + length (lambdas_in v.0))))
      (held_from (held_of o) (behind_arms (arms_of ys) (behind_held (held_of t) (l + length (lambdas_in v.0))))))
  select_does v t ys o l =
      let l1 = l + length (lambdas_in v.0) in
      let l2 = behind_held (held_of t) l1 in
      let l3 = behind_arms (arms_of ys) l2 in
      select_stays _ _ (meant v.0 l) (held_from (held_of t) l1) (arms_from (arms_of ys) l2) (or_no_match calls (held_from (held_of o) l3)) (λ f x y. stay.value f (x ∷ y ∷ [])) (λ x y. stay.operation identity (x ∷ y ∷ [])) (v.1 l) (held_stays t l1) (arms_stay ys l2)
      (match_stays (held_from (held_of o) l3) (held_stays o l3))

  term_stays : (y : Term-F A_clause An_item A_term (Blocks_with C I T K F L) (Fors_with C I T K F L) (Lambdas_with C I T K F L)) → T (term_of C I T K F L y)
  term_stays (Term-F.Lit value) = stay_term _ (λ l scope s. made_stays (made_literal value s.store s.fuel.left) s)
  term_stays (Term-F.Local local) = stay_term _ (λ l scope s. tt)
  term_stays (Term-F.Global binding) = stay_term _ (λ l. read_stays binding.what binding)
  term_stays (Term-F.ClassName class) = stay_term _ (λ l scope s. tt)
  term_stays (Term-F.GenericName generic) = stay_term _ (λ l scope s. tt)
  term_stays (Term-F.SetLocal local y) = stay_term _ (λ l. assigning_stays (place_of layout local) (meant y.0 l) (y.1 l))
  term_stays (Term-F.SetGlobal binding y) = stay_term _ (λ l scope s. then_stays (meant y.0 l scope s) _ (y.1 l scope s) (λ vs t. tt))
  term_stays (Term-F.Call f ys) = stay_term _ (λ l scope s.
      then_stays (meant f.0 l scope s) _ (f.1 l scope s) (λ vs t. with_stays (terms_from (does_of ys) (l + length (lambdas_in f.0))) _ (terms_stay ys (l + length (lambdas_in f.0))) (λ ws. stay.value _ ws) scope t))
  term_stays (Term-F.Site generic ys) = stay_term _ (λ l. with_stays (terms_from (does_of ys) l) (calls.generic generic) (terms_stay ys l) (stay.generic generic))
  term_stays (Term-F.Cond ys y) = stay_term _ (λ l. branching_stays (branches_from (pairs_of ys) l) (meant y.0 (behind_branches (pairs_of ys) l)) (pairs_stay ys l) (y.1 (behind_branches (pairs_of ys) l)))
  term_stays (Term-F.And a b) = stay_term _ (λ l. both_stays (meant a.0 l) (meant b.0 (l + length (lambdas_in a.0))) (a.1 l) (b.1 (l + length (lambdas_in a.0))))
  term_stays (Term-F.Or a b) = stay_term _ (λ l. either_stays (meant a.0 l) (meant b.0 (l + length (lambdas_in a.0))) (a.1 l) (b.1 (l + length (lambdas_in a.0))))
  term_stays (Term-F.Select v None ys None) = stay_term _ (λ l. select_does v None ys None l)
  term_stays (Term-F.Select v None ys (Some o)) = stay_term _ (λ l. select_does v None ys (Some o) l)
  term_stays (Term-F.Select v (Some t) ys None) = stay_term _ (λ l. select_does v (Some t) ys None l)
  term_stays (Term-F.Select v (Some t) ys (Some o)) = stay_term _ (λ l. select_does v (Some t) ys (Some o) l)
  term_stays (Term-F.Body ys) = stay_term _ (λ l. body_stays _ (items_stay ys l))
  term_stays (Term-F.Loop a b) = stay_term _ (λ l. loop_stays (meant a.0 l) (meant b.0 (l + length (lambdas_in a.0))) (a.1 l) (b.1 (l + length (lambdas_in a.0))))
  term_stays (Term-F.For y) = stay_term _ (λ l. y.1 l)
  term_stays (Term-F.Method y) = stay_term _ (λ l. closing_stays (closing_of layout y.0 l))
  term_stays (Term-F.Block y) = stay_term _ (λ l. y.1 l)
  term_stays (Term-F.Op operation ys) = stay_term _ (λ l. with_stays (terms_from (does_of ys) l) (calls.operation operation) (terms_stay ys l) (stay.operation operation))
  term_stays (Term-F.Next ys) = stay_term _ (λ l scope s. tt)

  abbrev methods_of : List (ℕ × Lambdas_with C I T K F L) → List (ℕ × (Lambda × Unit {0}))
  methods_of ys = map (λ (m : ℕ × Lambda). (m.0, beside (lambda_meaning program calls layout) m.1)) (map (λ (y : ℕ × Lambdas_with C I T K F L). (y.0, y.1.0)) ys)

  item_stays : (y : Item-F A_clause An_item A_term (Blocks_with C I T K F L) (Fors_with C I T K F L) (Lambdas_with C I T K F L)) → I (item_of C I T K F L y)
  item_stays (Item-F.Run y) = stay_item _ (λ l. y.1 l)
  item_stays (Item-F.Let all rest y) = stay_item _ (λ l. letting_stays (map (λ local. place_of layout local.0) all) (option_map (place_of layout) rest) (meant y.0 l) (y.1 l))
  item_stays (Item-F.LetMethods methods) = stay_item _ (λ l. methods_stay (methods_from layout (methods_of methods) l))
  item_stays (Item-F.Handler type y) = stay_item _ (λ l. y.1 l)

  abbrev beside_of : {A : Type 0} → Option (A × A_term) → Option (A × Numbered Term Does)
  beside_of {A} y = option_map (λ (p : A × Term). (p.0, beside meant p.1)) (option_map (λ (p : A × A_term). (p.0, p.1.0)) y)

  beside_stays : {A : Type 0} (y : Option (A × A_term)) (l : ℕ) → BesideStays (second_from (beside_of y) l)
  beside_stays None l = tt
  beside_stays (Some p) l = p.1.1 l

  clause_stays : (y : ForClause-F A_clause An_item A_term (Blocks_with C I T K F L) (Fors_with C I T K F L) (Lambdas_with C I T K F L)) → C (clause_of C I T K F L y)
  clause_stays (ForClause-F.Then local type s t) = stay_clause _ (λ l. (s.1 l, t.1 (l + length (lambdas_in s.0))))
  clause_stays (ForClause-F.In local type c) = stay_clause _ (λ l. ((λ scope s. tt), (λ scope s. tt)))
  clause_stays (ForClause-F.From local type s None None) = stay_clause _ (λ l. (s.1 l, tt, tt))
  clause_stays (ForClause-F.From local type s None (Some t)) = stay_clause _ (λ l. (s.1 l, tt, t.1 _))
  clause_stays (ForClause-F.From local type s (Some p) None) = stay_clause _ (λ l. (s.1 l, p.1.1 _, tt))
  clause_stays (ForClause-F.From local type s (Some p) (Some t)) = stay_clause _ (λ l. (s.1 l, p.1.1 _, t.1 _))

  abbrev for_does_of : List A_clause → Option (Bool × A_term) → A_term → Option A_term → ℕ → Does
  for_does_of cs t b f l =
      let test = behind_clauses (clauses_of cs) l in
      let inner = behind_second (beside_of {A = Bool} t) test in
      for_loop (no_number calls) (clauses_from (clauses_of cs) l) (second_from (beside_of {A = Bool} t) test) (meant b.0 inner) (held_from (held_of f) (inner + length (lambdas_in b.0)))

  turns_do : (cs : List A_clause) (t : Option (Bool × A_term)) (b : A_term) (f : Option A_term) (l : ℕ) → NeverExits (for_does_of cs t b f l)
  turns_do cs t b f l =
      let test = behind_clauses (clauses_of cs) l in
      let inner = behind_second (beside_of {A = Bool} t) test in
      for_stays (no_number calls) (λ value. stay.signal (wrong_class value integer)) (clauses_from (clauses_of cs) l) (clauses_stay cs l) (second_from (beside_of {A = Bool} t) test) (beside_stays {A = Bool} t test) (meant b.0 inner) (b.1 inner)
      (held_from (held_of f) (inner + length (lambdas_in b.0))) (held_stays f (inner + length (lambdas_in b.0)))

  for_by : (cs : List A_clause) (t : Option (Bool × A_term)) (b : A_term) (f : Option A_term) → F (for_of C I T K F L (record { clauses = cs; test = t; body = b; finally = f }))
  for_by cs None b None = stay_for _ (λ l. turns_do cs None b None l)
  for_by cs None b (Some f) = stay_for _ (λ l. turns_do cs None b (Some f) l)
  for_by cs (Some t) b None = stay_for _ (λ l. turns_do cs (Some t) b None l)
  for_by cs (Some t) b (Some f) = stay_for _ (λ l. turns_do cs (Some t) b (Some f) l)

  for_stays_of : (y : ForRow-F A_clause An_item A_term (Blocks_with C I T K F L) (Fors_with C I T K F L) (Lambdas_with C I T K F L)) → F (for_of C I T K F L y)
  for_stays_of y = for_by y.clauses y.test y.body y.finally

  pub meaning_stays : (term : Term) → T term
  meaning_stays = by_terms C I T K F L clause_stays item_stays term_stays (λ y. stay_block _ (λ l scope s. tt)) for_stays_of (λ y. tt)
