-- The machine follows each term in scope that is lowered yet, closures among them, by induction on
-- terms.
use Rattle.std.proofs.Common.{◌≡◌, ℕ, suc, ◌+◌, ◌-◌, Bool, true, ◌&&◌, ℤ, List, [], ◌∷◌, ◌++◌, length, map, Option, Some, None, refl, sym, ap, ◌∙◌, subst, arith, length-append}
use Rattle.std.specs.Prelude.{nat_lt, flat_map}
use Rattle.std.specs.Option.{option_map}
use Rattle.std.proofs.lemmas.Option.{same_Some, none-some}
use Rattle.dy_base.specs.declared.ids.BindingId.{BindingId}
use Rattle.dy_base.specs.declared.ids.Ref.{Ref}
use Rattle.dy_base.specs.declared.ids.What.{What}
use Rattle.dy_base.specs.declared.ids.What.TheVariants as whats
use Rattle.dy_term.specs.declared.literal.Literal.{Literal, Literal-F, roll-Literal, out-Literal, roll-out-Literal}
use Rattle.dy_term.specs.declared.types.DyType.{DyType}
use Rattle.dy_term.specs.declared.term.Limit.{Limit}
use Rattle.dy_term.specs.declared.term.ForClause.{ForClause, ForClause-F, roll-ForClause}
use Rattle.dy_term.specs.declared.term.Item.{Item, Item-F, roll-Item}
use Rattle.dy_term.specs.declared.term.Term.{Term, Term-F, roll-Term, out-Term, roll-out-Term}
use Rattle.dy_term.specs.declared.term.BlockRow.{BlockRow}
use Rattle.dy_term.specs.declared.term.ForRow.{ForRow, ForRow-F, roll-ForRow}
use Rattle.dy_term.specs.declared.term.Lambda.{Lambda}
use Rattle.dy_term.specs.declared.rows.Program.{Program}
use Rattle.dy_values.specs.declared.value.Variant.TheVariants.{Function}
use Rattle.dy_outcome.specs.States.{Does, gave}
use Rattle.dy_outcome.specs.Calls.{Calls, calls_within}
use Rattle.dy_outcome.specs.Parts as means
use Rattle.dy_outcome.specs.Turns as means_turns
use Rattle.dy_outcome.specs.Turns.{fits}
use Rattle.dy_code.specs.Fetching as instr
use Rattle.dy_meaning.specs.Globals.{is_variable, read_variable, read_global}
use Rattle.dy_meaning.specs.Lambdas.{Inside, of_all, of_pairs, of_arms, of_held, of_second, itself_and, lambdas_in, lambdas_in_clause, lambdas_in_for, lambdas_in_item, lambdas_within, with_inner}
use Rattle.dy_meaning.specs.Layouts.{Layout, place_of}
use Rattle.dy_meaning.specs.Meaning.{literal, no_number, calling, with_arguments, selecting_in, closing_of, clause_meaning, item_meaning, for_meaning, meaning}
use Rattle.dy_meaning.specs.Numbering.{Numbered, terms_from, behind_terms, items_from, branches_from, behind_branches, arms_from, behind_arms, held_from, behind_held, clauses_from, behind_clauses, second_from, behind_second}
use Rattle.dy_meaning.specs.Programs.{world, meaning_within}
use Rattle.dy_meaning.proofs.Induction.{by_terms, Clauses_with, Items_with, Terms_with, Blocks_with, Fors_with, Lambdas_with, clause_of, item_of, term_of, for_of}
use Rattle.dy_lowered.specs.Flat.{Code, one}
use Rattle.dy_lowered.specs.Parts as parts
use Rattle.dy_lowered.specs.Readiness.{all_ready, held_ready, is_set, is_own, with_rest, are_distinct, is_ready}
use Rattle.dy_lowered.specs.Turns as turns
use Rattle.dy_lowered.specs.Words.{is_word}
use Rattle.dy_lowered.specs.Terms.{when_function, function_of, function_named, number_in, number_of, known_or, amount, limit_from, step_from, code_of, item_code, clause_code, for_code}
use Rattle.dy_lowering_law.specs.Behaving.{AreNumbered}
use Rattle.dy_lowering_law.specs.Following.{Follows, Prepares}
use Rattle.dy_lowering_law.specs.Kinds.{BranchesDo, AllDo, PartsDo}
use Rattle.dy_lowering_law.proofs.Arguments.{arguments_follow}
use Rattle.dy_lowering_law.proofs.Bodies.{either_follows, body_follows}
use Rattle.dy_lowering_law.proofs.Cases.{read_follows}
use Rattle.dy_lowering_law.proofs.Literals.{literal_follows, both_follows}
use Rattle.dy_lowering_law.proofs.Names.{names_follow}
use Rattle.dy_lowering_law.proofs.Values.{branching_follows, assigning_follows}
use Rattle.dy_lowering_law.specs.parts.Selects.{HeldDo, ArmsDo}
use Rattle.dy_lowering_law.proofs.parts.Bound.{own_at, let_items_follow}
use Rattle.dy_lowering_law.proofs.parts.Looping.{loop_follows}
use Rattle.dy_lowering_law.proofs.parts.Selects.{select_follows}
use Rattle.dy_lowering_law.specs.calls.Calls.{CallsStand}
use Rattle.dy_lowering_law.proofs.calls.Taking as taking
use Rattle.dy_lowering_whole.proofs.valid.Evenness.{beside, clause_layer, term_layer, item_layer, for_layer, clause_is, term_is, item_is, for_is}
use Rattle.dy_lowering_whole.proofs.valid.Sameness.{both_true, and_true, no}
use Rattle.dy_lowering_whole.proofs.Layers.{clause_meant_layer, item_meant_layer, term_meant_layer, for_meant_layer, clause_meant, item_meant, term_meant, for_meant}
use Rattle.dy_lowering_whole.specs.Lowered.{second_lowered, is_lowered, is_item_lowered}
use Rattle.dy_lowering_whole.proofs.Scoping.{is_clause_lowered, is_for_lowered, clause_lowered_layer, for_lowered_layer, clause_lowered_is, for_lowered_is, scope_layer, item_scope_layer, scope_is, item_scope_is, lowered_layer, item_lowered_layer, lowered_is, item_lowered_is, held_layer, item_held_layer, held_is, item_held_is}
use Rattle.dy_lowering_whole.proofs.Numbered.{Numbers as AreLaid, front, back, moved, first_one, behind_terms_is, behind_branches_is, behind_arms_is, behind_held_is}
use Rattle.dy_lowering_whole.specs.valid.Scoped.{Scoping, all_scoped, held_scoped, second_scoped, pairs_scoped, arms_scoped, methods_scoped, are_own, is_clause_scoped, is_for_scoped, is_item_scoped, is_scoped, is_lambda_scoped}
use Rattle.dy_lowering_whole.proofs.valid.Readying.{ready_scoped}
use Rattle.dy_lowering_whole.proofs.valid.Scopes.{at_layer, clause_scope, for_scope, clause_scope_is, for_scope_is, clause_held, for_held, clause_held_is, for_held_is}
use Rattle.dy_lowering_law.specs.fors.Loops.{AmountDoes, LimitDoes, StepDoes, TestDoes, ClauseDoes, ClausesDo}
use Rattle.dy_lowering_law.proofs.fors.Fors.{fors_follow}
use Rattle.dy_lowering_whole.proofs.Readied.{ready_lowered}
use Rattle.dy_lowering_law.specs.parts.Closures.{Methods, StandThere, lambdas_among}
use Rattle.dy_lowering_law.proofs.parts.Closing.{closing_follows, items_follow}

module _ (program : Program) (n before last : ℕ) (layout : Layout) (stand : CallsStand program n) where
  abbrev calls : Calls
  calls = calls_within (world program) n

  abbrev locals : ℕ
  locals = last - layout.first

  abbrev Goes : Code → Does → Type 0
  Goes code does = Follows program n before locals code does

  abbrev Numbers : ℕ → ℕ → List Lambda → Type 0
  Numbers = AreLaid program before

  abbrev meant : Term → ℕ → Does
  meant = meaning program calls layout

  abbrev coded : Term → ℕ → Code
  coded = code_of layout

  -- names of libraries
  global_follows : (what : What) (at : Ref) → is_variable what ≡ true
      → Goes (one (instr.Global (record { what = what; at = at }))) (read_global program calls (record { what = what; at = at }))
  global_follows whats.Variable at e = (names_follow program n before locals).variables at n
  global_follows whats.Constant at e = (names_follow program n before locals).constants at n
  global_follows whats.Function at e = (names_follow program n before locals).functions at n
  global_follows _ at e = no e

  -- a function that is named is not read first
  when_read : (what : What) (binding named : BindingId) → when_function what binding ≡ Some named
      → read_variable program calls what binding ≡ (λ scope s. gave (Function named) s)
  when_read whats.Function binding named e = λ i scope s. gave (Function (same_Some binding named e i)) s
  when_read _ binding named e = absurd (none-some named e)

  layer_read : (x : Term-F ForClause Item Term BlockRow ForRow Lambda) (named : BindingId) (l : ℕ) → function_of x ≡ Some named
      → term_meant_layer program calls layout x l ≡ (λ scope s. gave (Function named) s)
  layer_read (Term-F.Global binding) named l e = when_read binding.what binding named e
  layer_read _ named l e = absurd (none-some named e)

  named_read : (f : Term) (named : BindingId) (l : ℕ) → function_named f ≡ Some named → meant f l ≡ (λ scope s. gave (Function named) s)
  named_read f named l e =
      ap (λ (t : Term). meant t l) (sym (roll-out-Term f)) ∙ ap (λ (does : ℕ → Does). does l) (term_meant program calls layout (out-Term f)) ∙ layer_read (out-Term f) named l e

  call_follows : (f : Term) (c l : ℕ) (codes : List Code) (all : List Does) → Goes (coded f c) (meant f l) → AllDo program n before locals codes all
      → (named : Option BindingId) → function_named f ≡ named → Goes (parts.calling named (coded f c) codes) (calling calls (meant f l) all)
  call_follows f c l codes all function arguments None e = taking.value_follows program n before locals (coded f c) (meant f l) codes all stand function arguments
  call_follows f c l codes all function arguments (Some named) e =
      subst (λ (does : Does). Goes (parts.calling (Some named) (coded f c) codes) (calling calls does all)) (sym (named_read f named l e))
      (taking.known_follows program n before locals named (coded f c) codes all stand arguments)

  -- a part of a body
  abbrev PartDoes : parts.Part → means.Part → Type 0
  PartDoes (parts.Runs code) (means.Runs does) = Goes code does
  PartDoes (parts.Binds code) (means.Binds does) = Prepares program n before locals code does
  PartDoes _ _ = ⊥

  part_before : (p : parts.Part) (q : means.Part) (ps : List parts.Part) (qs : List means.Part) → PartDoes p q → PartsDo program n before locals ps qs → PartsDo program n before locals (p ∷ ps) (q ∷ qs)
  part_before (parts.Runs code) (means.Runs does) ps qs h rest = (h, rest)
  part_before (parts.Binds code) (means.Binds does) ps qs h rest = (h, rest)
  part_before (parts.Runs code) (means.Binds does) ps qs h rest = absurd h
  part_before (parts.Runs code) (means.Handles condition does) ps qs h rest = absurd h
  part_before (parts.Binds code) (means.Runs does) ps qs h rest = absurd h
  part_before (parts.Binds code) (means.Handles condition does) ps qs h rest = absurd h
  part_before (parts.Handles type code) q ps qs h rest = absurd h

  abbrev C : ForClause → Type 0
  C x = (c l : ℕ) → is_clause_scoped x layout.first last ≡ true → is_clause_lowered x ≡ true → Numbers c l (lambdas_in_clause x) → ClauseDoes program n before locals (clause_code layout x c) (clause_meaning program calls layout x l)

  abbrev I : Item → Type 0
  I x = (c l : ℕ) → is_item_scoped x layout.first last ≡ true → is_item_lowered x ≡ true → Numbers c l (lambdas_in_item x) → PartDoes (item_code layout x c) (item_meaning program calls layout x l)

  abbrev T : Term → Type 0
  T x = (c l : ℕ) → is_scoped x layout.first last ≡ true → is_lowered x ≡ true → Numbers c l (lambdas_in x) → Goes (coded x c) (meant x l)

  abbrev K : BlockRow → Type 0
  K x = Unit {0}

  abbrev F : ForRow → Type 0
  F x = (c l : ℕ) → is_for_scoped x layout.first last ≡ true → is_for_lowered x ≡ true → Numbers c l (lambdas_in_for x) → Goes (for_code layout x c) (for_meaning program calls layout x l)

  abbrev L : Lambda → Type 0
  L x = Unit {0}

  follow_term : (x : Term-F ForClause Item Term BlockRow ForRow Lambda)
      → ((c l : ℕ) → scope_layer x layout.first last ≡ true → lowered_layer x ≡ true → Numbers c l (held_layer x) → Goes (term_layer layout x c) (term_meant_layer program calls layout x l)) → T (roll-Term x)
  follow_term x h c l s k are =
      subst (λ (make : ℕ → Code). Goes (make c) (meant (roll-Term x) l)) (sym (term_is layout x))
      (subst (λ (does : ℕ → Does). Goes (term_layer layout x c) (does l)) (sym (term_meant program calls layout x))
      (h c l (at_layer (is_scoped (roll-Term x)) (scope_layer x) layout.first last (scope_is x) s) (sym (lowered_is x) ∙ k) (subst (λ (xs : List Lambda). Numbers c l xs) (held_is x) are)))

  follow_item : (x : Item-F ForClause Item Term BlockRow ForRow Lambda)
      → ((c l : ℕ) → item_scope_layer x layout.first last ≡ true → item_lowered_layer x ≡ true → Numbers c l (item_held_layer x) → PartDoes (item_layer layout x c) (item_meant_layer program calls layout x l)) → I (roll-Item x)
  follow_item x h c l s k are =
      subst (λ (make : ℕ → parts.Part). PartDoes (make c) (item_meaning program calls layout (roll-Item x) l)) (sym (item_is layout x))
      (subst (λ (does : ℕ → means.Part). PartDoes (item_layer layout x c) (does l)) (sym (item_meant program calls layout x))
      (h c l (at_layer (is_item_scoped (roll-Item x)) (item_scope_layer x) layout.first last (item_scope_is x) s) (sym (item_lowered_is x) ∙ k) (subst (λ (xs : List Lambda). Numbers c l xs) (item_held_is x) are)))

  follow_clause : (x : ForClause-F ForClause Item Term BlockRow ForRow Lambda)
      → ((c l : ℕ) → clause_scope x layout.first last ≡ true → clause_lowered_layer x ≡ true → Numbers c l (clause_held x) → ClauseDoes program n before locals (clause_layer layout x c) (clause_meant_layer program calls layout x l)) → C (roll-ForClause x)
  follow_clause x h c l s k are =
      subst (λ (make : ℕ → turns.Clause). ClauseDoes program n before locals (make c) (clause_meaning program calls layout (roll-ForClause x) l)) (sym (clause_is layout x))
      (subst (λ (does : ℕ → means_turns.Clause). ClauseDoes program n before locals (clause_layer layout x c) (does l)) (sym (clause_meant program calls layout x))
      (h c l (at_layer (is_clause_scoped (roll-ForClause x)) (clause_scope x) layout.first last (clause_scope_is x) s) (sym (clause_lowered_is x) ∙ k) (subst (λ (xs : List Lambda). Numbers c l xs) (clause_held_is x) are)))

  follow_for : (x : ForRow-F ForClause Item Term BlockRow ForRow Lambda)
      → ((c l : ℕ) → for_scope x layout.first last ≡ true → for_lowered_layer x ≡ true → Numbers c l (for_held x) → Goes (for_layer layout x c) (for_meant_layer program calls layout x l)) → F (roll-ForRow x)
  follow_for x h c l s k are =
      subst (λ (make : ℕ → Code). Goes (make c) (for_meaning program calls layout (roll-ForRow x) l)) (sym (for_is layout x))
      (subst (λ (does : ℕ → Does). Goes (for_layer layout x c) (does l)) (sym (for_meant program calls layout x))
      (h c l (at_layer (is_for_scoped (roll-ForRow x)) (for_scope x) layout.first last (for_scope_is x) s) (sym (for_lowered_is x) ∙ k) (subst (λ (xs : List Lambda). Numbers c l xs) (for_held_is x) are)))

  abbrev A_term : Type 0
  A_term = Terms_with C I T K F L

  abbrev An_item : Type 0
  An_item = Items_with C I T K F L

  abbrev A_lambda : Type 0
  A_lambda = Lambdas_with C I T K F L

  abbrev terms_of : List A_term → List Term
  terms_of ys = map (λ y. y.0) ys

  abbrev codes_of : List A_term → List (Numbered Term Code)
  codes_of ys = map (beside coded) (terms_of ys)

  abbrev does_of : List A_term → List (Numbered Term Does)
  does_of ys = map (beside meant) (terms_of ys)

  abbrev held_of : List A_term → List Lambda
  held_of ys = of_all (map (beside lambdas_in) (terms_of ys))

  abbrev scoped_of : List A_term → List Scoping
  scoped_of ys = map is_scoped (terms_of ys)

  abbrev lowered_of : List A_term → Bool
  lowered_of ys = all_ready (map is_lowered (terms_of ys))

  terms_do : (ys : List A_term) (c l : ℕ) → all_scoped (scoped_of ys) layout.first last ≡ true → lowered_of ys ≡ true → Numbers c l (held_of ys) → AllDo program n before locals (terms_from (codes_of ys) c) (terms_from (does_of ys) l)
  terms_do [] c l s k are = tt
  terms_do (y ∷ ys) c l s k are =
      let p = both_true (is_scoped y.0 layout.first last) (all_scoped (scoped_of ys) layout.first last) s in
      let q = both_true (is_lowered y.0) (lowered_of ys) k in
      let inner = lambdas_in y.0 in
      let count = length inner in
      (y.1 c l p.0 q.0 (front program before inner (held_of ys) c l are), terms_do ys (c + count) (l + count) p.1 q.1 (back program before inner (held_of ys) c l are))

  terms_count : (ys : List A_term) (c : ℕ) → length (terms_from (codes_of ys) c) ≡ length (codes_of ys)
  terms_count [] c = refl
  terms_count (y ∷ ys) c = ap suc (terms_count ys (c + length (lambdas_in y.0)))

  abbrev items_of : List An_item → List Item
  items_of ys = map (λ y. y.0) ys

  abbrev coded_items : List An_item → List (Numbered Item parts.Part)
  coded_items ys = map (beside (item_code layout)) (items_of ys)

  abbrev meant_items : List An_item → List (Numbered Item means.Part)
  meant_items ys = map (beside (item_meaning program calls layout)) (items_of ys)

  abbrev held_items : List An_item → List Lambda
  held_items ys = of_all (map (beside lambdas_in_item) (items_of ys))

  items_do : (ys : List An_item) (c l : ℕ) → all_scoped (map is_item_scoped (items_of ys)) layout.first last ≡ true → all_ready (map is_item_lowered (items_of ys)) ≡ true → Numbers c l (held_items ys)
      → PartsDo program n before locals (items_from (coded_items ys) c) (items_from (meant_items ys) l)
  items_do [] c l s k are = tt
  items_do (y ∷ ys) c l s k are =
      let p = both_true (is_item_scoped y.0 layout.first last) (all_scoped (map is_item_scoped (items_of ys)) layout.first last) s in
      let q = both_true (is_item_lowered y.0) (all_ready (map is_item_lowered (items_of ys))) k in
      let inner = lambdas_in_item y.0 in
      let count = length inner in
      part_before (item_code layout y.0 c) (item_meaning program calls layout y.0 l) (items_from (coded_items ys) (c + count)) (items_from (meant_items ys) (l + count))
      (y.1 c l p.0 q.0 (front program before inner (held_items ys) c l are)) (items_do ys (c + count) (l + count) p.1 q.1 (back program before inner (held_items ys) c l are))

  abbrev A_pair : Type 0
  A_pair = A_term × A_term

  abbrev pairs_of : List A_pair → List (Term × Term)
  pairs_of ys = map (λ (y : A_pair). (y.0.0, y.1.0)) ys

  abbrev coded_pairs : List A_pair → List (Numbered Term Code × Numbered Term Code)
  coded_pairs ys = map (λ (p : Term × Term). (beside coded p.0, beside coded p.1)) (pairs_of ys)

  abbrev meant_pairs : List A_pair → List (Numbered Term Does × Numbered Term Does)
  meant_pairs ys = map (λ (p : Term × Term). (beside meant p.0, beside meant p.1)) (pairs_of ys)

  abbrev held_pairs : List A_pair → List Lambda
  held_pairs ys = of_pairs (map (λ (p : Term × Term). (beside lambdas_in p.0, beside lambdas_in p.1)) (pairs_of ys))

  abbrev scoped_pairs : List A_pair → List (Scoping × Scoping)
  scoped_pairs ys = map (λ (p : Term × Term). (is_scoped p.0, is_scoped p.1)) (pairs_of ys)

  abbrev lowered_pairs : List A_pair → Bool
  lowered_pairs ys = all_ready (map (λ (b : Bool × Bool). b.0 && b.1) (map (λ (p : Term × Term). (is_lowered p.0, is_lowered p.1)) (pairs_of ys)))

  pairs_do : (ys : List A_pair) (c l : ℕ) → pairs_scoped (scoped_pairs ys) layout.first last ≡ true → lowered_pairs ys ≡ true → Numbers c l (held_pairs ys) → BranchesDo program n before locals (branches_from (coded_pairs ys) c) (branches_from (meant_pairs ys) l)
  pairs_do [] c l s k are = tt
  pairs_do (y ∷ ys) c l s k are =
      let p = both_true (is_scoped y.0.0 layout.first last && is_scoped y.1.0 layout.first last) (pairs_scoped (scoped_pairs ys) layout.first last) s in
      let q = both_true (is_scoped y.0.0 layout.first last) (is_scoped y.1.0 layout.first last) p.0 in
      let u = both_true (is_lowered y.0.0 && is_lowered y.1.0) (lowered_pairs ys) k in
      let v = both_true (is_lowered y.0.0) (is_lowered y.1.0) u.0 in
      let xs = lambdas_in y.0.0 in
      let zs = lambdas_in y.1.0 in
      let one = length xs in
      let other = length zs in
      let here = front program before (xs ++ zs) (held_pairs ys) c l are in
      let long = length-append xs zs in (
        y.0.1 c l q.0 v.0 (front program before xs zs c l here),
        y.1.1 (c + one) (l + one) q.1 v.1 (back program before xs zs c l here),
        pairs_do ys (c + one + other) (l + one + other) p.1 u.1 (moved program before (held_pairs ys) (c + length (xs ++ zs)) (c + one + other) (l + length (xs ++ zs)) (l + one + other) (omega (arith, long)) (omega (arith, long)) (back program before (xs ++ zs) (held_pairs ys) c l are)),
      )

  abbrev An_arm : Type 0
  An_arm = List A_term × A_term

  abbrev arms_of : List An_arm → List (List Term × Term)
  arms_of ys = map (λ (y : An_arm). (map (λ z. z.0) y.0, y.1.0)) ys

  abbrev coded_arms : List An_arm → List (List (Numbered Term Code) × Numbered Term Code)
  coded_arms ys = map (λ (p : List Term × Term). (map (beside coded) p.0, beside coded p.1)) (arms_of ys)

  abbrev meant_arms : List An_arm → List (List (Numbered Term Does) × Numbered Term Does)
  meant_arms ys = map (λ (p : List Term × Term). (map (beside meant) p.0, beside meant p.1)) (arms_of ys)

  abbrev held_arms : List An_arm → List Lambda
  held_arms ys = of_arms (map (λ (p : List Term × Term). (map (beside lambdas_in) p.0, beside lambdas_in p.1)) (arms_of ys))

  abbrev scoped_arms : List An_arm → List (List Scoping × Scoping)
  scoped_arms ys = map (λ (p : List Term × Term). (map is_scoped p.0, is_scoped p.1)) (arms_of ys)

  abbrev lowered_arms : List An_arm → Bool
  lowered_arms ys = all_ready (map (λ (b : List Bool × Bool). all_ready b.0 && b.1) (map (λ (p : List Term × Term). (map is_lowered p.0, is_lowered p.1)) (arms_of ys)))

  arms_do : (ys : List An_arm) (c l : ℕ) → arms_scoped (scoped_arms ys) layout.first last ≡ true → lowered_arms ys ≡ true → Numbers c l (held_arms ys) → ArmsDo program n before locals (arms_from (coded_arms ys) c) (arms_from (meant_arms ys) l)
  arms_do [] c l s k are = tt
  arms_do (y ∷ ys) c l s k are =
      let p = both_true (all_scoped (scoped_of y.0) layout.first last && is_scoped y.1.0 layout.first last) (arms_scoped (scoped_arms ys) layout.first last) s in
      let q = both_true (all_scoped (scoped_of y.0) layout.first last) (is_scoped y.1.0 layout.first last) p.0 in
      let u = both_true (lowered_of y.0 && is_lowered y.1.0) (lowered_arms ys) k in
      let v = both_true (lowered_of y.0) (is_lowered y.1.0) u.0 in
      let xs = held_of y.0 in
      let zs = lambdas_in y.1.0 in
      let other = length zs in
      let d = behind_terms (codes_of y.0) c in
      let m = behind_terms (does_of y.0) l in
      let at_d = behind_terms_is coded (terms_of y.0) c in
      let at_m = behind_terms_is meant (terms_of y.0) l in
      let here = front program before (xs ++ zs) (held_arms ys) c l are in
      let long = length-append xs zs in (
        terms_do y.0 c l q.0 v.0 (front program before xs zs c l here),
        y.1.1 d m q.1 v.1 (moved program before zs (c + length xs) d (l + length xs) m (sym at_d) (sym at_m) (back program before xs zs c l here)),
        arms_do ys (d + other) (m + other) p.1 u.1 (moved program before (held_arms ys) (c + length (xs ++ zs)) (d + other) (l + length (xs ++ zs)) (m + other) (omega (arith, long, at_d)) (omega (arith, long, at_m)) (back program before (xs ++ zs) (held_arms ys) c l are)),
      )

  abbrev term_in : Option A_term → Option Term
  term_in y = option_map (λ y. y.0) y

  abbrev coded_held : Option A_term → Option (Numbered Term Code)
  coded_held y = option_map (beside coded) (term_in y)

  abbrev meant_held : Option A_term → Option (Numbered Term Does)
  meant_held y = option_map (beside meant) (term_in y)

  abbrev held_held : Option A_term → List Lambda
  held_held y = of_held (option_map (beside lambdas_in) (term_in y))

  abbrev scoped_held : Option A_term → Bool
  scoped_held y = held_scoped (option_map is_scoped (term_in y)) layout.first last

  abbrev lowered_held : Option A_term → Bool
  lowered_held y = held_ready (option_map is_lowered (term_in y))

  held_do : (y : Option A_term) (c l : ℕ) → scoped_held y ≡ true → lowered_held y ≡ true → Numbers c l (held_held y) → HeldDo program n before locals (held_from (coded_held y) c) (held_from (meant_held y) l)
  held_do None c l s k are = tt
  held_do (Some y) c l s k are = y.1 c l s k are

  select_does : (v : A_term) (t : Option A_term) (ys : List An_arm) (o : Option A_term) (c l : ℕ)
      → (is_scoped v.0 layout.first last && (scoped_held t && (arms_scoped (scoped_arms ys) layout.first last && scoped_held o))) ≡ true
      → (is_lowered v.0 && (lowered_held t && (lowered_arms ys && lowered_held o))) ≡ true
      → Numbers c l (lambdas_in v.0 ++ held_held t ++ held_arms ys ++ held_held o)
      → Goes (parts.select (coded v.0 c) (held_from (coded_held t) (c + length (lambdas_in v.0))) (arms_from (coded_arms ys) (behind_held (coded_held t) (c + length (lambdas_in v.0))))
      (held_from (coded_held o) (behind_arms (coded_arms ys) (behind_held (coded_held t) (c + length (lambdas_in v.0))))))
      (selecting_in calls (meant v.0 l) (held_from (meant_held t) (l + length (lambdas_in v.0))) (arms_from (meant_arms ys) (behind_held (meant_held t) (l + length (lambdas_in v.0))))
      (held_from (meant_held o) (behind_arms (meant_arms ys) (behind_held (meant_held t) (l + length (lambdas_in v.0))))))
  select_does v t ys o c l s k are =
      let p = both_true (is_scoped v.0 layout.first last) (scoped_held t && (arms_scoped (scoped_arms ys) layout.first last && scoped_held o)) s in
      let q = both_true (scoped_held t) (arms_scoped (scoped_arms ys) layout.first last && scoped_held o) p.1 in
      let r = both_true (arms_scoped (scoped_arms ys) layout.first last) (scoped_held o) q.1 in
      let e = both_true (is_lowered v.0) (lowered_held t && (lowered_arms ys && lowered_held o)) k in
      let f = both_true (lowered_held t) (lowered_arms ys && lowered_held o) e.1 in
      let g = both_true (lowered_arms ys) (lowered_held o) f.1 in
      let w = lambdas_in v.0 in
      let x = held_held t in
      let z = held_arms ys in
      let h = held_held o in
      let count = length w in
      let c1 = c + count in
      let l1 = l + count in
      let c2 = behind_held (coded_held t) c1 in
      let l2 = behind_held (meant_held t) l1 in
      let c3 = behind_arms (coded_arms ys) c2 in
      let l3 = behind_arms (meant_arms ys) l2 in
      let at_c2 = behind_held_is coded (term_in t) c1 in
      let at_l2 = behind_held_is meant (term_in t) l1 in
      let at_c3 = behind_arms_is coded (arms_of ys) c2 in
      let at_l3 = behind_arms_is meant (arms_of ys) l2 in
      let long2 = length-append w x in
      let long3 = length-append (w ++ x) z in
      let three = front program before (w ++ x ++ z) h c l are in
      let two = front program before (w ++ x) z c l three in
      select_follows program n before locals n (coded v.0 c) (meant v.0 l) (held_from (coded_held t) c1) (held_from (meant_held t) l1) (arms_from (coded_arms ys) c2) (arms_from (meant_arms ys) l2)
      (held_from (coded_held o) c3) (held_from (meant_held o) l3) (taking.value_taken program n before locals 2 stand) (v.1 c l p.0 e.0 (front program before w x c l two)) (held_do t c1 l1 q.0 f.0 (back program before w x c l two))
      (arms_do ys c2 l2 r.0 g.0 (moved program before z (c + length (w ++ x)) c2 (l + length (w ++ x)) l2 (omega (arith, long2, at_c2)) (omega (arith, long2, at_l2)) (back program before (w ++ x) z c l three)))
      (held_do o c3 l3 r.1 g.1 (moved program before h (c + length (w ++ x ++ z)) c3 (l + length (w ++ x ++ z)) l3 (omega (arith, long2, long3, at_c2, at_c3)) (omega (arith, long2, long3, at_l2, at_l3)) (back program before (w ++ x ++ z) h c l are)))

  -- a number that is a literal
  kind_is : (kind : Literal-F Literal) (z : ℤ) → number_in kind ≡ Some z → kind ≡ Literal-F.Int z
  kind_is (Literal-F.Int number) z e = ap (λ (i : ℤ). Literal-F.Int i) (same_Some number z e)
  kind_is kind z e = absurd (none-some z e)

  layer_number : (x : Term-F ForClause Item Term BlockRow ForRow Lambda) (z : ℤ) (l : ℕ) → number_of x ≡ Some z → term_meant_layer program calls layout x l ≡ literal (roll-Literal (Literal-F.Int z))
  layer_number (Term-F.Lit value) z l e = ap literal (sym (roll-out-Literal value) ∙ ap roll-Literal (kind_is (out-Literal value) z e))
  layer_number x z l e = absurd (none-some z e)

  layer_fits : (x : Term-F ForClause Item Term BlockRow ForRow Lambda) (z : ℤ) → number_of x ≡ Some z → lowered_layer x ≡ true → fits z ≡ true
  layer_fits (Term-F.Lit value) z e k = sym (ap (λ (kind : Literal-F Literal). is_word kind) (kind_is (out-Literal value) z e)) ∙ k
  layer_fits x z e k = absurd (none-some z e)

  amount_by : (known : Option ℤ) (t : Term) (c l : ℕ) → number_of (out-Term t) ≡ known → is_lowered t ≡ true → Goes (coded t c) (meant t l) → AmountDoes program n before locals (known_or known (coded t c)) (meant t l)
  amount_by None t c l e k goes = goes
  amount_by (Some z) t c l e k goes = (
    layer_fits (out-Term t) z e (sym (lowered_is (out-Term t)) ∙ ap is_lowered (roll-out-Term t) ∙ k),
    ap (λ (u : Term). meant u l) (sym (roll-out-Term t)) ∙ ap (λ (does : ℕ → Does). does l) (term_meant program calls layout (out-Term t)) ∙ layer_number (out-Term t) z l e,
  )

  amount_does : (y : A_term) (c l : ℕ) → is_scoped y.0 layout.first last ≡ true → is_lowered y.0 ≡ true → Numbers c l (lambdas_in y.0) → AmountDoes program n before locals (amount (beside coded y.0) c) (meant y.0 l)
  amount_does y c l s k are = amount_by (number_of (out-Term y.0)) y.0 c l refl k (y.1 c l s k are)

  -- a term with what stands before it
  module _ {A : Type 0} where
    abbrev second_in : Option (A × A_term) → Option (A × Term)
    second_in y = option_map (λ (p : A × A_term). (p.0, p.1.0)) y

    abbrev coded_second : Option (A × A_term) → Option (A × Numbered Term Code)
    coded_second y = option_map (λ (p : A × Term). (p.0, beside coded p.1)) (second_in y)

    abbrev meant_second : Option (A × A_term) → Option (A × Numbered Term Does)
    meant_second y = option_map (λ (p : A × Term). (p.0, beside meant p.1)) (second_in y)

    abbrev held_second : Option (A × A_term) → List Lambda
    held_second y = of_second (option_map (λ (p : A × Term). (p.0, beside lambdas_in p.1)) (second_in y))

    abbrev scoped_second : Option (A × A_term) → Bool
    scoped_second y = second_scoped (option_map (λ (p : A × Term). (p.0, is_scoped p.1)) (second_in y)) layout.first last

    abbrev lowered_second : Option (A × A_term) → Bool
    lowered_second y = second_lowered (option_map (λ (p : A × Term). (p.0, is_lowered p.1)) (second_in y))

    behind_coded : (y : Option (A × A_term)) (c : ℕ) → behind_second (coded_second y) c ≡ c + length (held_second y)
    behind_coded None c = omega arith
    behind_coded (Some y) c = refl

    behind_meant : (y : Option (A × A_term)) (l : ℕ) → behind_second (meant_second y) l ≡ l + length (held_second y)
    behind_meant None l = omega arith
    behind_meant (Some y) l = refl

  limit_does : (y : Option (Limit × A_term)) (c l : ℕ) → scoped_second y ≡ true → lowered_second y ≡ true → Numbers c l (held_second y) → LimitDoes program n before locals (limit_from (coded_second y) c) (second_from (meant_second y) l)
  limit_does None c l s k are = tt
  limit_does (Some y) c l s k are = (refl, amount_does y.1 c l s k are)

  step_does : (y : Option A_term) (c l : ℕ) → scoped_held y ≡ true → lowered_held y ≡ true → Numbers c l (held_held y) → StepDoes program n before locals (step_from (coded_held y) c) (held_from (meant_held y) l)
  step_does None c l s k are = refl
  step_does (Some y) c l s k are = step_is (amount (beside coded y.0) c) (meant y.0 l) (amount_does y c l s k are)
    where
      step_is : (code : turns.Amount) (does : Does) → AmountDoes program n before locals code does → StepDoes program n before locals code (Some does)
      step_is (turns.Known number) does is = is
      step_is (turns.Given code) does is = is

  test_does : (y : Option (Bool × A_term)) (c l : ℕ) → scoped_second y ≡ true → lowered_second y ≡ true → Numbers c l (held_second y) → TestDoes program n before locals (second_from (coded_second y) c) (second_from (meant_second y) l)
  test_does None c l s k are = tt
  test_does (Some y) c l s k are = (refl, y.1.1 c l s k are)

  -- a clause that counts
  counts_do : (local : ℕ) (a : A_term) (y : Option (Limit × A_term)) (t : Option A_term) (c l : ℕ)
      → (is_own layout.first last local && (is_scoped a.0 layout.first last && (scoped_second y && scoped_held t))) ≡ true
      → (is_lowered a.0 && (lowered_second y && lowered_held t)) ≡ true → Numbers c l (lambdas_in a.0 ++ held_second y ++ held_held t)
      → ClauseDoes program n before locals
      (turns.Counts (place_of layout local) (coded a.0 c) (limit_from (coded_second y) (c + length (lambdas_in a.0))) (step_from (coded_held t) (behind_second (coded_second y) (c + length (lambdas_in a.0)))))
      (means_turns.Counts (place_of layout local) (meant a.0 l) (second_from (meant_second y) (l + length (lambdas_in a.0))) (held_from (meant_held t) (behind_second (meant_second y) (l + length (lambdas_in a.0)))))
  counts_do local a y t c l s k are =
      let p = both_true (is_own layout.first last local) (is_scoped a.0 layout.first last && (scoped_second y && scoped_held t)) s in
      let q = both_true (is_scoped a.0 layout.first last) (scoped_second y && scoped_held t) p.1 in
      let r = both_true (scoped_second y) (scoped_held t) q.1 in
      let e = both_true (is_lowered a.0) (lowered_second y && lowered_held t) k in
      let f = both_true (lowered_second y) (lowered_held t) e.1 in
      let w = lambdas_in a.0 in
      let x = held_second y in
      let z = held_held t in
      let c1 = c + length w in
      let l1 = l + length w in
      let c2 = behind_second (coded_second y) c1 in
      let l2 = behind_second (meant_second y) l1 in
      let long = length-append w x in
      let two = front program before (w ++ x) z c l are in (
        refl,
        own_at layout last local p.0,
        a.1 c l q.0 e.0 (front program before w x c l two),
        limit_does y c1 l1 r.0 f.0 (back program before w x c l two),
        step_does t c2 l2 r.1 f.1 (moved program before z (c + length (w ++ x)) c2 (l + length (w ++ x)) l2 (omega (arith, long, behind_coded y c1)) (omega (arith, long, behind_meant y l1)) (back program before (w ++ x) z c l are)),
      )

  abbrev A_clause : Type 0
  A_clause = Clauses_with C I T K F L

  abbrev clauses_of : List A_clause → List ForClause
  clauses_of ys = map (λ y. y.0) ys

  abbrev coded_clauses : List A_clause → List (Numbered ForClause turns.Clause)
  coded_clauses ys = map (beside (clause_code layout)) (clauses_of ys)

  abbrev meant_clauses : List A_clause → List (Numbered ForClause means_turns.Clause)
  meant_clauses ys = map (beside (clause_meaning program calls layout)) (clauses_of ys)

  abbrev held_clauses : List A_clause → List Lambda
  held_clauses ys = of_all (map (beside lambdas_in_clause) (clauses_of ys))

  clauses_do : (ys : List A_clause) (c l : ℕ) → all_scoped (map is_clause_scoped (clauses_of ys)) layout.first last ≡ true → all_ready (map is_clause_lowered (clauses_of ys)) ≡ true → Numbers c l (held_clauses ys)
      → ClausesDo program n before locals (clauses_from (coded_clauses ys) c) (clauses_from (meant_clauses ys) l)
  clauses_do [] c l s k are = tt
  clauses_do (y ∷ ys) c l s k are =
      let p = both_true (is_clause_scoped y.0 layout.first last) (all_scoped (map is_clause_scoped (clauses_of ys)) layout.first last) s in
      let q = both_true (is_clause_lowered y.0) (all_ready (map is_clause_lowered (clauses_of ys))) k in
      let inner = lambdas_in_clause y.0 in
      let count = length inner in
      (y.1 c l p.0 q.0 (front program before inner (held_clauses ys) c l are), clauses_do ys (c + count) (l + count) p.1 q.1 (back program before inner (held_clauses ys) c l are))

  behind_clauses_coded : (ys : List A_clause) (c : ℕ) → behind_clauses (coded_clauses ys) c ≡ c + length (held_clauses ys)
  behind_clauses_coded [] c = omega arith
  behind_clauses_coded (y ∷ ys) c =
      let rest = behind_clauses_coded ys (c + length (lambdas_in_clause y.0)) in
      omega (arith, rest, length-append (lambdas_in_clause y.0) (held_clauses ys))

  behind_clauses_meant : (ys : List A_clause) (c : ℕ) → behind_clauses (meant_clauses ys) c ≡ c + length (held_clauses ys)
  behind_clauses_meant [] c = omega arith
  behind_clauses_meant (y ∷ ys) c =
      let rest = behind_clauses_meant ys (c + length (lambdas_in_clause y.0)) in
      omega (arith, rest, length-append (lambdas_in_clause y.0) (held_clauses ys))

  -- a loop
  loop_does : (ys : List A_clause) (t : Option (Bool × A_term)) (b : A_term) (o : Option A_term) (c l : ℕ)
      → (all_scoped (map is_clause_scoped (clauses_of ys)) layout.first last && (scoped_second t && (is_scoped b.0 layout.first last && scoped_held o))) ≡ true
      → (all_ready (map is_clause_lowered (clauses_of ys)) && (lowered_second t && (is_lowered b.0 && lowered_held o))) ≡ true
      → Numbers c l (held_clauses ys ++ held_second t ++ lambdas_in b.0 ++ held_held o)
      → Goes (turns.for_loop (clauses_from (coded_clauses ys) c) (second_from (coded_second t) (behind_clauses (coded_clauses ys) c)) (coded b.0 (behind_second (coded_second t) (behind_clauses (coded_clauses ys) c)))
      (held_from (coded_held o) (behind_second (coded_second t) (behind_clauses (coded_clauses ys) c) + length (lambdas_in b.0))))
      (means_turns.for_loop (no_number calls) (clauses_from (meant_clauses ys) l) (second_from (meant_second t) (behind_clauses (meant_clauses ys) l)) (meant b.0 (behind_second (meant_second t) (behind_clauses (meant_clauses ys) l)))
      (held_from (meant_held o) (behind_second (meant_second t) (behind_clauses (meant_clauses ys) l) + length (lambdas_in b.0))))
  loop_does ys t b o c l s k are =
      let p = both_true (all_scoped (map is_clause_scoped (clauses_of ys)) layout.first last) (scoped_second t && (is_scoped b.0 layout.first last && scoped_held o)) s in
      let q = both_true (scoped_second t) (is_scoped b.0 layout.first last && scoped_held o) p.1 in
      let r = both_true (is_scoped b.0 layout.first last) (scoped_held o) q.1 in
      let e = both_true (all_ready (map is_clause_lowered (clauses_of ys))) (lowered_second t && (is_lowered b.0 && lowered_held o)) k in
      let f = both_true (lowered_second t) (is_lowered b.0 && lowered_held o) e.1 in
      let g = both_true (is_lowered b.0) (lowered_held o) f.1 in
      let w = held_clauses ys in
      let x = held_second t in
      let z = lambdas_in b.0 in
      let h = held_held o in
      let c1 = behind_clauses (coded_clauses ys) c in
      let l1 = behind_clauses (meant_clauses ys) l in
      let c2 = behind_second (coded_second t) c1 in
      let l2 = behind_second (meant_second t) l1 in
      let c3 = c2 + length z in
      let l3 = l2 + length z in
      let at_c1 = behind_clauses_coded ys c in
      let at_l1 = behind_clauses_meant ys l in
      let at_c2 = behind_coded t c1 in
      let at_l2 = behind_meant t l1 in
      let long2 = length-append w x in
      let long3 = length-append (w ++ x) z in
      let three = front program before (w ++ x ++ z) h c l are in
      let two = front program before (w ++ x) z c l three in
      fors_follow program n before locals n (clauses_from (coded_clauses ys) c) (clauses_from (meant_clauses ys) l) (second_from (coded_second t) c1) (second_from (meant_second t) l1) (coded b.0 c2) (meant b.0 l2)
      (held_from (coded_held o) c3) (held_from (meant_held o) l3) (clauses_do ys c l p.0 e.0 (front program before w x c l two))
      (test_does t c1 l1 q.0 f.0 (moved program before x (c + length w) c1 (l + length w) l1 (omega (arith, at_c1)) (omega (arith, at_l1)) (back program before w x c l two)))
      (b.1 c2 l2 r.0 g.0 (moved program before z (c + length (w ++ x)) c2 (l + length (w ++ x)) l2 (omega (arith, long2, at_c1, at_c2)) (omega (arith, long2, at_l1, at_l2)) (back program before (w ++ x) z c l three)))
      (held_do o c3 l3 r.1 g.1 (moved program before h (c + length (w ++ x ++ z)) c3 (l + length (w ++ x ++ z)) l3 (omega (arith, long2, long3, at_c1, at_c2)) (omega (arith, long2, long3, at_l1, at_l2)) (back program before (w ++ x ++ z) h c l are)))

  abbrev A_for_row : Type 0
  A_for_row = ForRow-F A_clause An_item A_term (Blocks_with C I T K F L) (Fors_with C I T K F L) A_lambda

  abbrev a_for : List A_clause → Option (Bool × A_term) → A_term → Option A_term → A_for_row
  a_for cs t b o = record { clauses = cs; test = t; body = b; finally = o }

  for_by : (cs : List A_clause) (t : Option (Bool × A_term)) (b : A_term) (o : Option A_term) → F (for_of C I T K F L (a_for cs t b o))
  for_by cs None b None = follow_for _ (λ c l s k are. loop_does cs None b None c l s k are)
  for_by cs None b (Some o) = follow_for _ (λ c l s k are. loop_does cs None b (Some o) c l s k are)
  for_by cs (Some t) b None = follow_for _ (λ c l s k are. loop_does cs (Some t) b None c l s k are)
  for_by cs (Some t) b (Some o) = follow_for _ (λ c l s k are. loop_does cs (Some t) b (Some o) c l s k are)

  -- two terms one after the other
  abbrev Both : Term → Term → ℕ → ℕ → Type 0
  Both a b c l = Goes (coded a c) (meant a l) × Goes (coded b (c + length (lambdas_in a))) (meant b (l + length (lambdas_in a)))

  both_do : (a b : A_term) (c l : ℕ) → (is_scoped a.0 layout.first last && is_scoped b.0 layout.first last) ≡ true → (is_lowered a.0 && is_lowered b.0) ≡ true → Numbers c l (lambdas_in a.0 ++ lambdas_in b.0) → Both a.0 b.0 c l
  both_do a b c l s k are =
      let p = both_true (is_scoped a.0 layout.first last) (is_scoped b.0 layout.first last) s in
      let q = both_true (is_lowered a.0) (is_lowered b.0) k in
      let count = length (lambdas_in a.0) in
      (a.1 c l p.0 q.0 (front program before (lambdas_in a.0) (lambdas_in b.0) c l are), b.1 (c + count) (l + count) p.1 q.1 (back program before (lambdas_in a.0) (lambdas_in b.0) c l are))

  term_follows : (y : Term-F (Clauses_with C I T K F L) An_item A_term (Blocks_with C I T K F L) (Fors_with C I T K F L) A_lambda) → T (term_of C I T K F L y)
  term_follows (Term-F.Lit value) = follow_term _ (λ c l s k are. literal_follows program n before locals value k)
  term_follows (Term-F.Local local) = follow_term _ (λ c l s k are. read_follows program n before locals (place_of layout local))
  term_follows (Term-F.Global binding) = follow_term _ (λ c l s k are. global_follows binding.what binding.at s)
  term_follows (Term-F.ClassName class) = follow_term _ (λ c l s k are. (names_follow program n before locals).classes class)
  term_follows (Term-F.GenericName generic) = follow_term _ (λ c l s k are. (names_follow program n before locals).generics generic)
  term_follows (Term-F.SetLocal local y) = follow_term _ (λ c l s k are.
      let p = both_true (nat_lt local last) (is_scoped y.0 layout.first last) s in
      assigning_follows program n before locals (place_of layout local) (coded y.0 c) (meant y.0 l) (y.1 c l p.1 k are))
  term_follows (Term-F.SetGlobal binding y) = follow_term _ (λ c l s k are.
      let p = both_true (is_set binding.what) (is_scoped y.0 layout.first last) s in
      (names_follow program n before locals).assignments binding (coded y.0 c) (meant y.0 l) (y.1 c l p.1 k are))
  term_follows (Term-F.Call f ys) = follow_term _ (λ c l s k are.
      let count = length (lambdas_in f.0) in
      let p = both_true (is_scoped f.0 layout.first last) (all_scoped (scoped_of ys) layout.first last) s in
      let q = both_true (is_lowered f.0) (lowered_of ys) k in
      call_follows f.0 c l (terms_from (codes_of ys) (c + count)) (terms_from (does_of ys) (l + count)) (f.1 c l p.0 q.0 (front program before (lambdas_in f.0) (held_of ys) c l are))
      (terms_do ys (c + count) (l + count) p.1 q.1 (back program before (lambdas_in f.0) (held_of ys) c l are)) (function_named f.0) refl)
  term_follows (Term-F.Site generic ys) = follow_term _ (λ c l s k are.
      let codes = terms_from (codes_of ys) c in
      let all = terms_from (does_of ys) l in
      subst (λ (k : ℕ). Goes (parts.with_arguments codes (instr.Search generic k)) (with_arguments all (calls.generic generic))) (terms_count ys c)
      (taking.search_follows program n before locals generic codes all stand (terms_do ys c l s k are)))
  term_follows (Term-F.Cond ys y) = follow_term _ (λ c l s k are.
      let p = both_true (pairs_scoped (scoped_pairs ys) layout.first last) (is_scoped y.0 layout.first last) s in
      let q = both_true (lowered_pairs ys) (is_lowered y.0) k in
      let d = behind_branches (coded_pairs ys) c in
      let m = behind_branches (meant_pairs ys) l in
      let long = length (held_pairs ys) in
      branching_follows program n before locals (branches_from (coded_pairs ys) c) (branches_from (meant_pairs ys) l) (coded y.0 d) (meant y.0 m)
      (pairs_do ys c l p.0 q.0 (front program before (held_pairs ys) (lambdas_in y.0) c l are))
      (y.1 d m p.1 q.1 (moved program before (lambdas_in y.0) (c + long) d (l + long) m (sym (behind_branches_is coded (pairs_of ys) c)) (sym (behind_branches_is meant (pairs_of ys) l)) (back program before (held_pairs ys) (lambdas_in y.0) c l are))))
  term_follows (Term-F.And a b) = follow_term _ (λ c l s k are.
      let count = length (lambdas_in a.0) in
      let p = both_do a b c l s k are in
      both_follows program n before locals (coded a.0 c) (coded b.0 (c + count)) (meant a.0 l) (meant b.0 (l + count)) p.0 p.1)
  term_follows (Term-F.Or a b) = follow_term _ (λ c l s k are.
      let count = length (lambdas_in a.0) in
      let p = both_do a b c l s k are in
      either_follows program n before locals (coded a.0 c) (coded b.0 (c + count)) (meant a.0 l) (meant b.0 (l + count)) p.0 p.1)
  term_follows (Term-F.Select v None ys None) = follow_term _ (λ c l s k are. select_does v None ys None c l s k are)
  term_follows (Term-F.Select v None ys (Some o)) = follow_term _ (λ c l s k are. select_does v None ys (Some o) c l s k are)
  term_follows (Term-F.Select v (Some t) ys None) = follow_term _ (λ c l s k are. select_does v (Some t) ys None c l s k are)
  term_follows (Term-F.Select v (Some t) ys (Some o)) = follow_term _ (λ c l s k are. select_does v (Some t) ys (Some o) c l s k are)
  term_follows (Term-F.Body ys) = follow_term _ (λ c l s k are. body_follows program n before locals (items_from (coded_items ys) c) (items_from (meant_items ys) l) (items_do ys c l s k are))
  term_follows (Term-F.Loop a b) = follow_term _ (λ c l s k are.
      let count = length (lambdas_in a.0) in
      let p = both_do a b c l s k are in
      loop_follows program n before locals (coded a.0 c) (coded b.0 (c + count)) (meant a.0 l) (meant b.0 (l + count)) p.0 p.1)
  term_follows (Term-F.For y) = follow_term _ (λ c l s k are. y.1 c l s k are)
  term_follows (Term-F.Method y) = follow_term _ (λ c l s k are. closing_follows program n before locals c (closing_of layout y.0 l) (first_one program before y.0 (lambdas_within y.0) c l are))
  term_follows (Term-F.Block y) = follow_term _ (λ c l s k are. no k)
  term_follows (Term-F.Op operation ys) = follow_term _ (λ c l s k are.
      let codes = terms_from (codes_of ys) c in
      let all = terms_from (does_of ys) l in
      subst (λ (k : ℕ). Goes (parts.with_arguments codes (instr.Op operation k)) (with_arguments all (calls.operation operation))) (terms_count ys c)
      (arguments_follow program n before locals codes all (instr.Op operation (length codes)) (calls.operation operation) (terms_do ys c l s k are) (stand.operations before locals operation (length codes))))
  term_follows (Term-F.Next ys) = follow_term _ (λ c l s k are. no k)

  -- local methods
  abbrev A_method : Type 0
  A_method = ℕ × A_lambda

  abbrev methods_of : List A_method → Methods
  methods_of ys = map (λ (m : ℕ × Lambda). (m.0, (m.1, tt))) (map (λ (y : A_method). (y.0, y.1.0)) ys)

  abbrev scoped_methods : List A_method → List (ℕ × Scoping)
  scoped_methods ys = map (λ (m : ℕ × Lambda). (m.0, is_lambda_scoped m.1)) (map (λ (y : A_method). (y.0, y.1.0)) ys)

  abbrev held_methods : List A_method → List Lambda
  held_methods ys = flat_map (λ (m : ℕ × Inside Lambda). itself_and m.1) (map (λ (m : ℕ × Lambda). (m.0, beside lambdas_within m.1)) (map (λ (y : A_method). (y.0, y.1.0)) ys))

  methods_there : (ys : List A_method) → methods_scoped (scoped_methods ys) layout.first last ≡ true → StandThere locals layout (methods_of ys)
  methods_there [] s = tt
  methods_there (y ∷ ys) s =
      let p = both_true (is_own layout.first last y.0 && is_lambda_scoped y.1.0 layout.first last) (methods_scoped (scoped_methods ys) layout.first last) s in
      let q = both_true (is_own layout.first last y.0) (is_lambda_scoped y.1.0 layout.first last) p.0 in
      (own_at layout last y.0 q.0, methods_there ys p.1)

  methods_held : (ys : List A_method) → held_methods ys ≡ lambdas_among (methods_of ys)
  methods_held [] = refl
  methods_held (y ∷ ys) = ap (λ (xs : List Lambda). with_inner y.1.0 ++ xs) (methods_held ys)

  item_follows : (y : Item-F (Clauses_with C I T K F L) An_item A_term (Blocks_with C I T K F L) (Fors_with C I T K F L) A_lambda) → I (item_of C I T K F L y)
  item_follows (Item-F.Run y) = follow_item _ (λ c l s k are. y.1 c l s k are)
  item_follows (Item-F.Let all rest y) = follow_item _ (λ c l s k are.
      let numbers = with_rest (map (λ (local : ℕ × DyType). local.0) all) rest in
      let p = both_true (are_own numbers layout.first last) (is_scoped y.0 layout.first last) s in
      let q = both_true (are_distinct numbers) (is_lowered y.0) k in
      let_items_follow program n before last layout all rest (coded y.0 c) (meant y.0 l) (and_true (are_own numbers layout.first last) (are_distinct numbers) p.0 q.0) (y.1 c l p.1 q.1 are))
  item_follows (Item-F.LetMethods ys) = follow_item _ (λ c l s k are.
      items_follow program n before locals l c layout (methods_of ys) (methods_there ys s) (subst (λ (xs : List Lambda). Numbers c l xs) (methods_held ys) are))
  item_follows (Item-F.Handler type y) = follow_item _ (λ c l s k are. no k)

  clause_follows : (y : ForClause-F A_clause An_item A_term (Blocks_with C I T K F L) (Fors_with C I T K F L) A_lambda) → C (clause_of C I T K F L y)
  clause_follows (ForClause-F.Then local type a b) = follow_clause _ (λ c l s k are.
      let p = both_true (is_own layout.first last local) (is_scoped a.0 layout.first last && is_scoped b.0 layout.first last) s in
      let q = both_do a b c l p.1 k are in
      (refl, own_at layout last local p.0, q.0, q.1))
  clause_follows (ForClause-F.In local type y) = follow_clause _ (λ c l s k are. no k)
  clause_follows (ForClause-F.From local type a None None) = follow_clause _ (λ c l s k are. counts_do local a None None c l s k are)
  clause_follows (ForClause-F.From local type a None (Some t)) = follow_clause _ (λ c l s k are. counts_do local a None (Some t) c l s k are)
  clause_follows (ForClause-F.From local type a (Some y) None) = follow_clause _ (λ c l s k are. counts_do local a (Some y) None c l s k are)
  clause_follows (ForClause-F.From local type a (Some y) (Some t)) = follow_clause _ (λ c l s k are. counts_do local a (Some y) (Some t) c l s k are)

  pub all_follow : (term : Term) → T term
  all_follow = by_terms C I T K F L clause_follows item_follows term_follows (λ y. tt) (λ y. for_by y.clauses y.test y.body y.finally) (λ y. tt)

pub lowered_terms_follow : (program : Program) (n before closure lambda last : ℕ) (layout : Layout) (term : Term) → CallsStand program n → is_scoped term layout.first last ≡ true → is_lowered term ≡ true → AreNumbered program before closure lambda term
    → Follows program n before (last - layout.first) (code_of layout term closure) (meaning_within program n layout term lambda)
lowered_terms_follow program n before closure lambda last layout term stand scoped lowered numbered = all_follow program n before last layout stand term closure lambda scoped lowered numbered

pub ready_terms_follow : (program : Program) (n before closure lambda last : ℕ) (layout : Layout) (term : Term) → CallsStand program n → is_ready layout.first last term ≡ true → AreNumbered program before closure lambda term
    → Follows program n before (last - layout.first) (code_of layout term closure) (meaning_within program n layout term lambda)
ready_terms_follow program n before closure lambda last layout term stand ready numbered =
    all_follow program n before last layout stand term closure lambda (ready_scoped layout.first last term ready) (ready_lowered layout.first last term ready) numbered
