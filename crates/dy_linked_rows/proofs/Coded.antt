-- The code of a linked term is the code of the term, linked.
use Rattle.std.proofs.Common.{◌≡◌, ℕ, ◌+◌, ℤ, Bool, List, [], ◌∷◌, ◌++◌, length, map, Option, Some, None, refl, sym, ap, ◌∙◌}
use Rattle.std.specs.Option.{option_map}
use Rattle.std.proofs.lemmas.List.{length-map}
use Rattle.std.proofs.Math.Path.{fun_ext}
use Rattle.dy_base.specs.declared.ids.BindingId.{BindingId}
use Rattle.dy_base.specs.declared.ids.What.{What}
use Rattle.dy_base.specs.declared.ids.What.TheVariants as what
use Rattle.dy_term.specs.declared.types.DyType.{DyType}
use Rattle.dy_term.specs.declared.literal.Literal.{out-Literal}
use Rattle.dy_term.specs.declared.term.Limit.{Limit}
use Rattle.dy_term.specs.declared.term.ForClause.{ForClause, ForClause-F}
use Rattle.dy_term.specs.declared.term.Item.{Item, Item-F}
use Rattle.dy_term.specs.declared.term.Term.{Term, Term-F, out-Term, roll-Term, roll-out-Term, out-roll-Term, fold-roll-Term}
use Rattle.dy_term.specs.declared.term.BlockRow.{BlockRow, BlockRow-F}
use Rattle.dy_term.specs.declared.term.ForRow.{ForRow, ForRow-F}
use Rattle.dy_term.specs.declared.term.Lambda.{Lambda, Lambda-F}
use Rattle.dy_outcome.specs.declared.place.Place.{Place}
use Rattle.dy_code.specs.Fetching.{Const, Global, SetGlobal, Search, Op}
use Rattle.dy_meaning.specs.Lambdas.{with_inner, lambdas_in_clause, lambdas_in_item}
use Rattle.dy_meaning.specs.Layouts.{Layout, place_of, captured_by}
use Rattle.dy_meaning.specs.Numbering.{Numbered, behind, terms_from, behind_terms, items_from, clauses_from, behind_clauses, branches_from, behind_branches, arms_from, behind_arms, held_from, behind_held, second_from, behind_second}
use Rattle.dy_lowered.specs.Flat.{Code, one}
use Rattle.dy_lowered.specs.Parts.{read, with_arguments, calling, branching, both, either, select, letting, closing, Method, local_methods, Part, Runs, Binds, Handles, body, loop}
use Rattle.dy_lowered.specs.Terms.{class_named, generic_named, when_function, function_of, function_named, number_in, number_of, known_or, amount, limit_from, step_from, methods_from, clause_coded, item_coded, term_coded, block_coded, for_coded, lambda_coded, code_of}
use Rattle.dy_lowered.specs.Turns.{Amount, Known, Given, Clause, Takes, Counts, for_loop}
use Rattle.dy_lowered.specs.Linking.{linked_name, linked_type}
use Rattle.dy_linked_rows.specs.Terms.{clause_linked, item_linked, term_linked, block_linked, for_linked, lambda_linked, linked_clause, linked_item, linked_term, linked_block, linked_for, linked_lambda}
use Rattle.dy_linked_rows.specs.Code.{linked_flat, linked_flats}
use Rattle.dy_linked_rows.proofs.Layers.{over_clause, over_item, over_term, over_block, over_for, over_lambda}
use Rattle.dy_linked_rows.proofs.Folding.{Carries, carried_through_term}
use Rattle.dy_linked_rows.proofs.Blind.{captured_same}
use Rattle.dy_linked_rows.proofs.Inside.{clause_count, item_count, term_count, inner_count}
use Rattle.dy_linked_rows.proofs.Pieces.{linked_part, read_fixed, join, with_linked, calling_linked, assigning_linked, branching_linked, both_linked, either_linked, select_linked, letting_linked, closing_fixed, methods_fixed, body_linked, loop_linked}
use Rattle.dy_linked_rows.proofs.Loops.{linked_amount, linked_limit, linked_count, linked_test, for_linked_code}

-- what a term is, looked at from outside
module _ (places : ℕ → ℕ) where
  abbrev inside_term : Term-F ForClause Item Term BlockRow ForRow Lambda → Term-F ForClause Item Term BlockRow ForRow Lambda
  inside_term = over_term (linked_clause places) (linked_item places) (linked_term places) (linked_block places) (linked_for places) (linked_lambda places)

  layer_of : (term : Term) → out-Term (linked_term places term) ≡ term_linked places (inside_term (out-Term term))
  layer_of term =
      ap (λ (x : Term). out-Term (linked_term places x)) (sym (roll-out-Term term))
      ∙ (ap out-Term (fold-roll-Term _ _ _ _ _ _ _ _ _ _ _ _ (out-Term term))
      ∙ out-roll-Term (term_linked places (inside_term (out-Term term))))

  when_linked : (kind : What) (binding : BindingId) → when_function kind (linked_name places binding) ≡ option_map (linked_name places) (when_function kind binding)
  when_linked what.Class binding = refl
  when_linked what.Generic binding = refl
  when_linked what.Variable binding = refl
  when_linked what.Constant binding = refl
  when_linked what.Function binding = refl
  when_linked what.Macro binding = refl

  function_linked : (x : Term-F ForClause Item Term BlockRow ForRow Lambda) → function_of (term_linked places (inside_term x)) ≡ option_map (linked_name places) (function_of x)
  function_linked (Term-F.Lit value) = refl
  function_linked (Term-F.Local local) = refl
  function_linked (Term-F.Global binding) = when_linked binding.what binding
  function_linked (Term-F.ClassName class) = refl
  function_linked (Term-F.GenericName generic) = refl
  function_linked (Term-F.SetLocal local term) = refl
  function_linked (Term-F.SetGlobal binding term) = refl
  function_linked (Term-F.Call function terms) = refl
  function_linked (Term-F.Site generic terms) = refl
  function_linked (Term-F.Cond branches other) = refl
  function_linked (Term-F.And left right) = refl
  function_linked (Term-F.Or left right) = refl
  function_linked (Term-F.Select value test arms last) = refl
  function_linked (Term-F.Body items) = refl
  function_linked (Term-F.Loop test inner) = refl
  function_linked (Term-F.For row) = refl
  function_linked (Term-F.Method lambda) = refl
  function_linked (Term-F.Block row) = refl
  function_linked (Term-F.Op operation terms) = refl
  function_linked (Term-F.Next terms) = refl

  named_linked : (term : Term) → function_named (linked_term places term) ≡ option_map (linked_name places) (function_named term)
  named_linked term = ap function_of (layer_of term) ∙ function_linked (out-Term term)

  number_layer : (x : Term-F ForClause Item Term BlockRow ForRow Lambda) → number_of (term_linked places (inside_term x)) ≡ number_of x
  number_layer (Term-F.Lit value) = refl
  number_layer (Term-F.Local local) = refl
  number_layer (Term-F.Global binding) = refl
  number_layer (Term-F.ClassName class) = refl
  number_layer (Term-F.GenericName generic) = refl
  number_layer (Term-F.SetLocal local term) = refl
  number_layer (Term-F.SetGlobal binding term) = refl
  number_layer (Term-F.Call function terms) = refl
  number_layer (Term-F.Site generic terms) = refl
  number_layer (Term-F.Cond branches other) = refl
  number_layer (Term-F.And left right) = refl
  number_layer (Term-F.Or left right) = refl
  number_layer (Term-F.Select value test arms last) = refl
  number_layer (Term-F.Body items) = refl
  number_layer (Term-F.Loop test inner) = refl
  number_layer (Term-F.For row) = refl
  number_layer (Term-F.Method lambda) = refl
  number_layer (Term-F.Block row) = refl
  number_layer (Term-F.Op operation terms) = refl
  number_layer (Term-F.Next terms) = refl

  number_same : (term : Term) → number_of (out-Term (linked_term places term)) ≡ number_of (out-Term term)
  number_same term = ap number_of (layer_of term) ∙ number_layer (out-Term term)

-- parts, numbered
module _ (places : ℕ → ℕ) where
  abbrev L : Code → Code
  L = linked_flats places

  abbrev C : Numbered ForClause Clause → Numbered ForClause Clause
  C part = (linked_clause places part.0, λ number. linked_count places (part.1 number))

  abbrev I : Numbered Item Part → Numbered Item Part
  I part = (linked_item places part.0, λ number. linked_part places (part.1 number))

  abbrev T : Numbered Term Code → Numbered Term Code
  T part = (linked_term places part.0, λ number. L (part.1 number))

  abbrev K : Numbered BlockRow Code → Numbered BlockRow Code
  K part = (linked_block places part.0, λ number. L (part.1 number))

  abbrev F : Numbered ForRow Code → Numbered ForRow Code
  F part = (linked_for places part.0, λ number. L (part.1 number))

  abbrev M : Lambda × Unit {0} → Lambda × Unit {0}
  M part = (linked_lambda places part.0, part.1)

  behind_same : (term : Numbered Term Code) (n : ℕ) → behind (T term) n ≡ behind term n
  behind_same term n = ap (λ (m : ℕ). n + m) (term_count places term.0)

  terms_linked : (terms : List (Numbered Term Code)) (n : ℕ) → terms_from (map T terms) n ≡ map L (terms_from terms n)
  terms_linked [] n = refl
  terms_linked (term ∷ terms) n =
      (λ j. L (term.1 n) ∷ terms_from (map T terms) (behind_same term n j)) ∙ ap (λ (cs : List Code). L (term.1 n) ∷ cs) (terms_linked terms (behind term n))

  behind_all : (terms : List (Numbered Term Code)) (n : ℕ) → behind_terms (map T terms) n ≡ behind_terms terms n
  behind_all [] n = refl
  behind_all (term ∷ terms) n = ap (λ (m : ℕ). behind_terms (map T terms) m) (behind_same term n) ∙ behind_all terms (behind term n)

  items_linked : (items : List (Numbered Item Part)) (n : ℕ) → items_from (map I items) n ≡ map (linked_part places) (items_from items n)
  items_linked [] n = refl
  items_linked (item ∷ items) n =
      let first = linked_part places (item.1 n) in
      (λ j. first ∷ items_from (map I items) (n + item_count places item.0 j)) ∙ ap (λ (ps : List Part). first ∷ ps) (items_linked items (n + length (lambdas_in_item item.0)))

  clauses_linked : (clauses : List (Numbered ForClause Clause)) (n : ℕ) → clauses_from (map C clauses) n ≡ map (linked_count places) (clauses_from clauses n)
  clauses_linked [] n = refl
  clauses_linked (clause ∷ clauses) n =
      let first = linked_count places (clause.1 n) in
      (λ j. first ∷ clauses_from (map C clauses) (n + clause_count places clause.0 j)) ∙ ap (λ (cs : List Clause). first ∷ cs) (clauses_linked clauses (n + length (lambdas_in_clause clause.0)))

  behind_clauses_same : (clauses : List (Numbered ForClause Clause)) (n : ℕ) → behind_clauses (map C clauses) n ≡ behind_clauses clauses n
  behind_clauses_same [] n = refl
  behind_clauses_same (clause ∷ clauses) n =
      (λ j. behind_clauses (map C clauses) (n + clause_count places clause.0 j)) ∙ behind_clauses_same clauses (n + length (lambdas_in_clause clause.0))

  abbrev A_branch : Type 0
  A_branch = Numbered Term Code × Numbered Term Code

  abbrev Bs : List A_branch → List A_branch
  Bs branches = map (λ (b : A_branch). (T b.0, T b.1)) branches

  abbrev coded_branches : List (Code × Code) → List (Code × Code)
  coded_branches branches = map (λ (b : Code × Code). (L b.0, L b.1)) branches

  behind_two : (one two : Numbered Term Code) (n : ℕ) → behind (T two) (behind (T one) n) ≡ behind two (behind one n)
  behind_two one two n = ap (behind (T two)) (behind_same one n) ∙ behind_same two (behind one n)

  branches_linked : (branches : List A_branch) (n : ℕ) → branches_from (Bs branches) n ≡ coded_branches (branches_from branches n)
  branches_linked [] n = refl
  branches_linked (branch ∷ branches) n =
      let first : Code × Code = (L (branch.0.1 n), L (branch.1.1 (behind branch.0 n))) in
      (λ j. (L (branch.0.1 n), L (branch.1.1 (behind_same branch.0 n j))) ∷ branches_from (Bs branches) (behind_two branch.0 branch.1 n j))
      ∙ ap (λ (bs : List (Code × Code)). first ∷ bs) (branches_linked branches (behind branch.1 (behind branch.0 n)))

  behind_branches_same : (branches : List A_branch) (n : ℕ) → behind_branches (Bs branches) n ≡ behind_branches branches n
  behind_branches_same [] n = refl
  behind_branches_same (branch ∷ branches) n =
      ap (behind_branches (Bs branches)) (behind_two branch.0 branch.1 n) ∙ behind_branches_same branches (behind branch.1 (behind branch.0 n))

  abbrev An_arm : Type 0
  An_arm = List (Numbered Term Code) × Numbered Term Code

  abbrev As : List An_arm → List An_arm
  As arms = map (λ (a : An_arm). (map T a.0, T a.1)) arms

  abbrev coded_arms : List (List Code × Code) → List (List Code × Code)
  coded_arms arms = map (λ (a : List Code × Code). (map L a.0, L a.1)) arms

  behind_arm : (arm : An_arm) (n : ℕ) → behind (T arm.1) (behind_terms (map T arm.0) n) ≡ behind arm.1 (behind_terms arm.0 n)
  behind_arm arm n = ap (behind (T arm.1)) (behind_all arm.0 n) ∙ behind_same arm.1 (behind_terms arm.0 n)

  arms_linked : (arms : List An_arm) (n : ℕ) → arms_from (As arms) n ≡ coded_arms (arms_from arms n)
  arms_linked [] n = refl
  arms_linked (arm ∷ arms) n =
      let first : List Code × Code = (map L (terms_from arm.0 n), L (arm.1.1 (behind_terms arm.0 n))) in
      (λ j. (terms_linked arm.0 n j, L (arm.1.1 (behind_all arm.0 n j))) ∷ arms_from (As arms) (behind_arm arm n j))
      ∙ ap (λ (xs : List (List Code × Code)). first ∷ xs) (arms_linked arms (behind arm.1 (behind_terms arm.0 n)))

  behind_arms_same : (arms : List An_arm) (n : ℕ) → behind_arms (As arms) n ≡ behind_arms arms n
  behind_arms_same [] n = refl
  behind_arms_same (arm ∷ arms) n = ap (behind_arms (As arms)) (behind_arm arm n) ∙ behind_arms_same arms (behind arm.1 (behind_terms arm.0 n))

  held_linked : (term : Option (Numbered Term Code)) (n : ℕ) → held_from (option_map T term) n ≡ option_map L (held_from term n)
  held_linked None n = refl
  held_linked (Some term) n = refl

  behind_held_same : (term : Option (Numbered Term Code)) (n : ℕ) → behind_held (option_map T term) n ≡ behind_held term n
  behind_held_same None n = refl
  behind_held_same (Some term) n = behind_same term n

  abbrev second : {X : Type 0} → Option (X × Numbered Term Code) → Option (X × Numbered Term Code)
  second {X} pair = option_map (λ (p : X × Numbered Term Code). (p.0, T p.1)) pair

  abbrev test_second : Option (Bool × Numbered Term Code) → Option (Bool × Numbered Term Code)
  test_second test = second {X = Bool} test

  second_linked : (test : Option (Bool × Numbered Term Code)) (n : ℕ) → second_from {A = Bool} (test_second test) n ≡ linked_test places (second_from {A = Bool} test n)
  second_linked None n = refl
  second_linked (Some test) n = refl

  behind_second_same : {X : Type 0} (pair : Option (X × Numbered Term Code)) (n : ℕ) → behind_second {A = X} (second {X = X} pair) n ≡ behind_second {A = X} pair n
  behind_second_same None n = refl
  behind_second_same (Some pair) n = behind_same pair.1 n

  -- amounts
  known_linked : (number : Option ℤ) (code : Code) → known_or number (L code) ≡ linked_amount places (known_or number code)
  known_linked (Some number) code = refl
  known_linked None code = refl

  amount_linked : (term : Numbered Term Code) (n : ℕ) → amount (T term) n ≡ linked_amount places (amount term n)
  amount_linked term n = ap (λ (number : Option ℤ). known_or number (L (term.1 n))) (number_same places term.0) ∙ known_linked (number_of (out-Term term.0)) (term.1 n)

  limits_linked : (limit : Option (Limit × Numbered Term Code)) (n : ℕ) → limit_from (second {X = Limit} limit) n ≡ linked_limit places (limit_from limit n)
  limits_linked None n = refl
  limits_linked (Some limit) n = ap (λ (a : Amount). Some (limit.0, a)) (amount_linked limit.1 n)

  step_linked : (step : Option (Numbered Term Code)) (n : ℕ) → step_from (option_map T step) n ≡ linked_amount places (step_from step n)
  step_linked None n = refl
  step_linked (Some step) n = amount_linked step n

  module _ (layout : Layout) where
    abbrev A_method : Type 0
    A_method = ℕ × (Lambda × Unit {0})

    methods_same : (methods : List A_method) (n : ℕ) → methods_from layout (map (λ (m : A_method). (m.0, M m.1)) methods) n ≡ methods_from layout methods n
    methods_same [] n = refl
    methods_same (method ∷ methods) n =
        let first : Method = record { place = place_of layout method.0; body = n; captured = map (place_of layout) (captured_by method.1.0) } in
        let others = map (λ (m : A_method). (m.0, M m.1)) methods in
        (λ j. record { place = place_of layout method.0; body = n; captured = map (place_of layout) (captured_same places method.1.0 j) } ∷ methods_from layout others (n + inner_count places method.1.0 j))
        ∙ ap (λ (ms : List Method). first ∷ ms) (methods_same methods (n + length (with_inner method.1.0)))

    places_same : (locals : List (ℕ × DyType)) → map (λ (local : ℕ × DyType). place_of layout local.0) (map (λ (local : ℕ × DyType). (local.0, linked_type places local.1)) locals) ≡ map (λ (local : ℕ × DyType). place_of layout local.0) locals
    places_same [] = refl
    places_same (local ∷ locals) = ap (λ (ps : List Place). place_of layout local.0 ∷ ps) (places_same locals)

    -- layers
    clause_carries : (x : ForClause-F (Numbered ForClause Clause) (Numbered Item Part) (Numbered Term Code) (Numbered BlockRow Code) (Numbered ForRow Code) (Lambda × Unit {0})) (n : ℕ)
        → clause_coded layout (clause_linked places (over_clause C I T K F M x)) n ≡ linked_count places (clause_coded layout x n)
    clause_carries (ForClause-F.Then local type start next) n = λ j. Takes (place_of layout local) (L (start.1 n)) (L (next.1 (behind_same start n j)))
    clause_carries (ForClause-F.In local type collection) n = refl
    clause_carries (ForClause-F.From local type start None None) n =
        let m = behind start n in
        let limit' = second {X = Limit} None in
        let step' = option_map T None in
        let place = place_of layout local in
        (λ j. Counts place (L (start.1 n)) (limit_from limit' (behind_same start n j)) (step_from step' (behind_second {A = Limit} {B = Code} limit' (behind_same start n j))))
        ∙ ((λ j. Counts place (L (start.1 n)) (limits_linked None m j) (step_from step' (behind_second_same {X = Limit} None m j)))
        ∙ (λ j. Counts place (L (start.1 n)) (linked_limit places (limit_from None m)) (step_linked None (behind_second {A = Limit} {B = Code} None m) j)))
    clause_carries (ForClause-F.From local type start None (Some step)) n =
        let m = behind start n in
        let limit' = second {X = Limit} None in
        let step' = option_map T (Some step) in
        let place = place_of layout local in
        (λ j. Counts place (L (start.1 n)) (limit_from limit' (behind_same start n j)) (step_from step' (behind_second {A = Limit} {B = Code} limit' (behind_same start n j))))
        ∙ ((λ j. Counts place (L (start.1 n)) (limits_linked None m j) (step_from step' (behind_second_same {X = Limit} None m j)))
        ∙ (λ j. Counts place (L (start.1 n)) (linked_limit places (limit_from None m)) (step_linked (Some step) (behind_second {A = Limit} {B = Code} None m) j)))
    clause_carries (ForClause-F.From local type start (Some limit) None) n =
        let m = behind start n in
        let limit' = second {X = Limit} (Some limit) in
        let step' = option_map T None in
        let place = place_of layout local in
        (λ j. Counts place (L (start.1 n)) (limit_from limit' (behind_same start n j)) (step_from step' (behind_second {A = Limit} {B = Code} limit' (behind_same start n j))))
        ∙ ((λ j. Counts place (L (start.1 n)) (limits_linked (Some limit) m j) (step_from step' (behind_second_same {X = Limit} (Some limit) m j)))
        ∙ (λ j. Counts place (L (start.1 n)) (linked_limit places (limit_from (Some limit) m)) (step_linked None (behind_second {A = Limit} {B = Code} (Some limit) m) j)))
    clause_carries (ForClause-F.From local type start (Some limit) (Some step)) n =
        let m = behind start n in
        let limit' = second {X = Limit} (Some limit) in
        let step' = option_map T (Some step) in
        let place = place_of layout local in
        (λ j. Counts place (L (start.1 n)) (limit_from limit' (behind_same start n j)) (step_from step' (behind_second {A = Limit} {B = Code} limit' (behind_same start n j))))
        ∙ ((λ j. Counts place (L (start.1 n)) (limits_linked (Some limit) m j) (step_from step' (behind_second_same {X = Limit} (Some limit) m j)))
        ∙ (λ j. Counts place (L (start.1 n)) (linked_limit places (limit_from (Some limit) m)) (step_linked (Some step) (behind_second {A = Limit} {B = Code} (Some limit) m) j)))

    item_carries : (x : Item-F (Numbered ForClause Clause) (Numbered Item Part) (Numbered Term Code) (Numbered BlockRow Code) (Numbered ForRow Code) (Lambda × Unit {0})) (n : ℕ)
        → item_coded layout (item_linked places (over_item C I T K F M x)) n ≡ linked_part places (item_coded layout x n)
    item_carries (Item-F.Run term) n = refl
    item_carries (Item-F.Let locals rest term) n =
        let all = map (λ (local : ℕ × DyType). place_of layout local.0) locals in
        let last = option_map (place_of layout) rest in
        (λ j. Binds (letting (places_same locals j) last (L (term.1 n)))) ∙ ap Binds (letting_linked places all last (term.1 n))
    item_carries (Item-F.LetMethods methods) n =
        (λ j. Binds (local_methods (methods_same methods n j))) ∙ ap Binds (methods_fixed places (methods_from layout methods n))
    item_carries (Item-F.Handler type function) n = refl

    term_carries : (x : Term-F (Numbered ForClause Clause) (Numbered Item Part) (Numbered Term Code) (Numbered BlockRow Code) (Numbered ForRow Code) (Lambda × Unit {0})) (n : ℕ)
        → term_coded layout (term_linked places (over_term C I T K F M x)) n ≡ L (term_coded layout x n)
    term_carries (Term-F.Lit value) n = refl
    term_carries (Term-F.Local local) n = read_fixed places (place_of layout local)
    term_carries (Term-F.Global binding) n = refl
    term_carries (Term-F.ClassName class) n = refl
    term_carries (Term-F.GenericName generic) n = refl
    term_carries (Term-F.SetLocal local term) n = assigning_linked places (place_of layout local) (term.1 n)
    term_carries (Term-F.SetGlobal binding term) n = join places (term.1 n) (one (SetGlobal binding)) (L (term.1 n)) (one (SetGlobal (linked_name places binding))) refl refl
    term_carries (Term-F.Call function terms) n =
        let m = behind function n in
        (λ j. calling (named_linked places function.0 j) (L (function.1 n)) (terms_from (map T terms) (behind_same function n j)))
        ∙ ((λ j. calling (option_map (linked_name places) (function_named function.0)) (L (function.1 n)) (terms_linked terms m j))
        ∙ calling_linked places (function_named function.0) (function.1 n) (terms_from terms m))
    term_carries (Term-F.Site generic terms) n =
        let call = Search (record { 0 = record generic.0 { library = places generic.0.library } }) in
        (λ j. with_arguments (terms_linked terms n j) (call (length-map terms T j))) ∙ with_linked places (terms_from terms n) (Search generic (length terms))
    term_carries (Term-F.Cond branches other) n =
        (λ j. branching (branches_linked branches n j) (L (other.1 (behind_branches_same branches n j)))) ∙ branching_linked places (branches_from branches n) (other.1 (behind_branches branches n))
    term_carries (Term-F.And left right) n =
        (λ j. both (L (left.1 n)) (L (right.1 (behind_same left n j)))) ∙ both_linked places (left.1 n) (right.1 (behind left n))
    term_carries (Term-F.Or left right) n =
        (λ j. either (L (left.1 n)) (L (right.1 (behind_same left n j)))) ∙ either_linked places (left.1 n) (right.1 (behind left n))
    term_carries (Term-F.Select value None arms None) n =
        let a = behind value n in
        let b = behind_held {B = Code} None a in
        let c = behind_arms arms b in
        let at_test : behind (T value) n ≡ a = behind_same value n in
        let at_arms : behind_held {B = Code} (option_map T None) (behind (T value) n) ≡ b = ap (behind_held {B = Code} (option_map T None)) at_test ∙ behind_held_same None a in
        let at_last : behind_arms (As arms) (behind_held {B = Code} (option_map T None) (behind (T value) n)) ≡ c = ap (behind_arms (As arms)) at_arms ∙ behind_arms_same arms b in
        (λ j. select (L (value.1 n)) (held_from {B = Code} (option_map T None) (at_test j)) (arms_from (As arms) (at_arms j)) (held_from {B = Code} (option_map T None) (at_last j)))
        ∙ ((λ j. select (L (value.1 n)) (held_linked None a j) (arms_linked arms b j) (held_linked None c j))
        ∙ select_linked places (value.1 n) (held_from {B = Code} None a) (arms_from arms b) (held_from {B = Code} None c))
    term_carries (Term-F.Select value None arms (Some last)) n =
        let a = behind value n in
        let b = behind_held {B = Code} None a in
        let c = behind_arms arms b in
        let at_test : behind (T value) n ≡ a = behind_same value n in
        let at_arms : behind_held {B = Code} (option_map T None) (behind (T value) n) ≡ b = ap (behind_held {B = Code} (option_map T None)) at_test ∙ behind_held_same None a in
        let at_last : behind_arms (As arms) (behind_held {B = Code} (option_map T None) (behind (T value) n)) ≡ c = ap (behind_arms (As arms)) at_arms ∙ behind_arms_same arms b in
        (λ j. select (L (value.1 n)) (held_from {B = Code} (option_map T None) (at_test j)) (arms_from (As arms) (at_arms j)) (held_from {B = Code} (option_map T (Some last)) (at_last j)))
        ∙ ((λ j. select (L (value.1 n)) (held_linked None a j) (arms_linked arms b j) (held_linked (Some last) c j))
        ∙ select_linked places (value.1 n) (held_from {B = Code} None a) (arms_from arms b) (held_from {B = Code} (Some last) c))
    term_carries (Term-F.Select value (Some test) arms None) n =
        let a = behind value n in
        let b = behind_held {B = Code} (Some test) a in
        let c = behind_arms arms b in
        let at_test : behind (T value) n ≡ a = behind_same value n in
        let at_arms : behind_held {B = Code} (option_map T (Some test)) (behind (T value) n) ≡ b = ap (behind_held {B = Code} (option_map T (Some test))) at_test ∙ behind_held_same (Some test) a in
        let at_last : behind_arms (As arms) (behind_held {B = Code} (option_map T (Some test)) (behind (T value) n)) ≡ c = ap (behind_arms (As arms)) at_arms ∙ behind_arms_same arms b in
        (λ j. select (L (value.1 n)) (held_from {B = Code} (option_map T (Some test)) (at_test j)) (arms_from (As arms) (at_arms j)) (held_from {B = Code} (option_map T None) (at_last j)))
        ∙ ((λ j. select (L (value.1 n)) (held_linked (Some test) a j) (arms_linked arms b j) (held_linked None c j))
        ∙ select_linked places (value.1 n) (held_from {B = Code} (Some test) a) (arms_from arms b) (held_from {B = Code} None c))
    term_carries (Term-F.Select value (Some test) arms (Some last)) n =
        let a = behind value n in
        let b = behind_held {B = Code} (Some test) a in
        let c = behind_arms arms b in
        let at_test : behind (T value) n ≡ a = behind_same value n in
        let at_arms : behind_held {B = Code} (option_map T (Some test)) (behind (T value) n) ≡ b = ap (behind_held {B = Code} (option_map T (Some test))) at_test ∙ behind_held_same (Some test) a in
        let at_last : behind_arms (As arms) (behind_held {B = Code} (option_map T (Some test)) (behind (T value) n)) ≡ c = ap (behind_arms (As arms)) at_arms ∙ behind_arms_same arms b in
        (λ j. select (L (value.1 n)) (held_from {B = Code} (option_map T (Some test)) (at_test j)) (arms_from (As arms) (at_arms j)) (held_from {B = Code} (option_map T (Some last)) (at_last j)))
        ∙ ((λ j. select (L (value.1 n)) (held_linked (Some test) a j) (arms_linked arms b j) (held_linked (Some last) c j))
        ∙ select_linked places (value.1 n) (held_from {B = Code} (Some test) a) (arms_from arms b) (held_from {B = Code} (Some last) c))
    term_carries (Term-F.Body items) n = ap body (items_linked items n) ∙ body_linked places (items_from items n)
    term_carries (Term-F.Loop test inner) n =
        (λ j. loop (L (test.1 n)) (L (inner.1 (behind_same test n j)))) ∙ loop_linked places (test.1 n) (inner.1 (behind test n))
    term_carries (Term-F.For row) n = refl
    term_carries (Term-F.Method lambda) n =
        (λ j. closing n (map (place_of layout) (captured_same places lambda.0 j))) ∙ closing_fixed places n (map (place_of layout) (captured_by lambda.0))
    term_carries (Term-F.Block row) n = refl
    term_carries (Term-F.Op operation terms) n =
        (λ j. with_arguments (terms_linked terms n j) (Op operation (length-map terms T j))) ∙ with_linked places (terms_from terms n) (Op operation (length terms))
    term_carries (Term-F.Next None) n = refl
    term_carries (Term-F.Next (Some terms)) n = refl

    abbrev a_for : List (Numbered ForClause Clause) → Option (Bool × Numbered Term Code) → Numbered Term Code → Option (Numbered Term Code) → ForRow-F (Numbered ForClause Clause) (Numbered Item Part) (Numbered Term Code) (Numbered BlockRow Code) (Numbered ForRow Code) (Lambda × Unit {0})
    a_for clauses test inner last = record { clauses = clauses; test = test; body = inner; finally = last }

    for_parts : (clauses : List (Numbered ForClause Clause)) (test : Option (Bool × Numbered Term Code)) (inner : Numbered Term Code) (last : Option (Numbered Term Code)) (n : ℕ) → for_coded layout (for_linked places (over_for C I T K F M (a_for clauses test inner last))) n ≡ L (for_coded layout (a_for clauses test inner last) n)
    for_parts clauses None inner None n =
        let a = behind_clauses clauses n in
        let b = behind_second {A = Bool} {B = Code} None a in
        let c = behind inner b in
        let clauses' = map C clauses in
        let test' = test_second None in
        let at_test : behind_clauses clauses' n ≡ a = behind_clauses_same clauses n in
        let at_body : behind_second {A = Bool} {B = Code} test' (behind_clauses clauses' n) ≡ b = ap (behind_second {A = Bool} {B = Code} test') at_test ∙ behind_second_same {X = Bool} None a in
        let at_last : behind (T inner) (behind_second {A = Bool} {B = Code} test' (behind_clauses clauses' n)) ≡ c = ap (behind (T inner)) at_body ∙ behind_same inner b in
        (λ j. for_loop (clauses_linked clauses n j) (second_from {A = Bool} {B = Code} test' (at_test j)) (L (inner.1 (at_body j))) (held_from {B = Code} (option_map T None) (at_last j)))
        ∙ ((λ j. for_loop (map (linked_count places) (clauses_from clauses n)) (second_linked None a j) (L (inner.1 b)) (held_linked None c j))
        ∙ for_linked_code places (clauses_from clauses n) (second_from {A = Bool} {B = Code} None a) (inner.1 b) (held_from {B = Code} None c))
    for_parts clauses None inner (Some q) n =
        let a = behind_clauses clauses n in
        let b = behind_second {A = Bool} {B = Code} None a in
        let c = behind inner b in
        let clauses' = map C clauses in
        let test' = test_second None in
        let at_test : behind_clauses clauses' n ≡ a = behind_clauses_same clauses n in
        let at_body : behind_second {A = Bool} {B = Code} test' (behind_clauses clauses' n) ≡ b = ap (behind_second {A = Bool} {B = Code} test') at_test ∙ behind_second_same {X = Bool} None a in
        let at_last : behind (T inner) (behind_second {A = Bool} {B = Code} test' (behind_clauses clauses' n)) ≡ c = ap (behind (T inner)) at_body ∙ behind_same inner b in
        (λ j. for_loop (clauses_linked clauses n j) (second_from {A = Bool} {B = Code} test' (at_test j)) (L (inner.1 (at_body j))) (held_from {B = Code} (option_map T (Some q)) (at_last j)))
        ∙ ((λ j. for_loop (map (linked_count places) (clauses_from clauses n)) (second_linked None a j) (L (inner.1 b)) (held_linked (Some q) c j))
        ∙ for_linked_code places (clauses_from clauses n) (second_from {A = Bool} {B = Code} None a) (inner.1 b) (held_from {B = Code} (Some q) c))
    for_parts clauses (Some p) inner None n =
        let a = behind_clauses clauses n in
        let b = behind_second {A = Bool} {B = Code} (Some p) a in
        let c = behind inner b in
        let clauses' = map C clauses in
        let test' = test_second (Some p) in
        let at_test : behind_clauses clauses' n ≡ a = behind_clauses_same clauses n in
        let at_body : behind_second {A = Bool} {B = Code} test' (behind_clauses clauses' n) ≡ b = ap (behind_second {A = Bool} {B = Code} test') at_test ∙ behind_second_same {X = Bool} (Some p) a in
        let at_last : behind (T inner) (behind_second {A = Bool} {B = Code} test' (behind_clauses clauses' n)) ≡ c = ap (behind (T inner)) at_body ∙ behind_same inner b in
        (λ j. for_loop (clauses_linked clauses n j) (second_from {A = Bool} {B = Code} test' (at_test j)) (L (inner.1 (at_body j))) (held_from {B = Code} (option_map T None) (at_last j)))
        ∙ ((λ j. for_loop (map (linked_count places) (clauses_from clauses n)) (second_linked (Some p) a j) (L (inner.1 b)) (held_linked None c j))
        ∙ for_linked_code places (clauses_from clauses n) (second_from {A = Bool} {B = Code} (Some p) a) (inner.1 b) (held_from {B = Code} None c))
    for_parts clauses (Some p) inner (Some q) n =
        let a = behind_clauses clauses n in
        let b = behind_second {A = Bool} {B = Code} (Some p) a in
        let c = behind inner b in
        let clauses' = map C clauses in
        let test' = test_second (Some p) in
        let at_test : behind_clauses clauses' n ≡ a = behind_clauses_same clauses n in
        let at_body : behind_second {A = Bool} {B = Code} test' (behind_clauses clauses' n) ≡ b = ap (behind_second {A = Bool} {B = Code} test') at_test ∙ behind_second_same {X = Bool} (Some p) a in
        let at_last : behind (T inner) (behind_second {A = Bool} {B = Code} test' (behind_clauses clauses' n)) ≡ c = ap (behind (T inner)) at_body ∙ behind_same inner b in
        (λ j. for_loop (clauses_linked clauses n j) (second_from {A = Bool} {B = Code} test' (at_test j)) (L (inner.1 (at_body j))) (held_from {B = Code} (option_map T (Some q)) (at_last j)))
        ∙ ((λ j. for_loop (map (linked_count places) (clauses_from clauses n)) (second_linked (Some p) a j) (L (inner.1 b)) (held_linked (Some q) c j))
        ∙ for_linked_code places (clauses_from clauses n) (second_from {A = Bool} {B = Code} (Some p) a) (inner.1 b) (held_from {B = Code} (Some q) c))

    for_carries : (x : ForRow-F (Numbered ForClause Clause) (Numbered Item Part) (Numbered Term Code) (Numbered BlockRow Code) (Numbered ForRow Code) (Lambda × Unit {0})) (n : ℕ)
        → for_coded layout (for_linked places (over_for C I T K F M x)) n ≡ L (for_coded layout x n)
    for_carries x n = for_parts x.clauses x.test x.body x.finally n

    carries : Carries places (clause_coded layout) (item_coded layout) (term_coded layout) (block_coded layout) (for_coded layout) (lambda_coded layout)
        (clause_coded layout) (item_coded layout) (term_coded layout) (block_coded layout) (for_coded layout) (lambda_coded layout)
        (λ part number. linked_count places (part number)) (λ part number. linked_part places (part number)) (λ part number. L (part number)) (λ part number. L (part number)) (λ part number. L (part number)) (λ part. part)
    carries = record {
      clause = λ x. fun_ext (clause_carries x);
      item = λ x. fun_ext (item_carries x);
      term = λ x. fun_ext (term_carries x);
      block = λ x. refl;
      for = λ x. fun_ext (for_carries x);
      lambda = λ x. refl;
    }

    pub code_linked : (term : Term) (number : ℕ) → code_of layout (linked_term places term) number ≡ L (code_of layout term number)
    code_linked term number =
        ap (λ (make : ℕ → Code). make number) (carried_through_term places (clause_coded layout) (item_coded layout) (term_coded layout) (block_coded layout) (for_coded layout) (lambda_coded layout)
        (clause_coded layout) (item_coded layout) (term_coded layout) (block_coded layout) (for_coded layout) (lambda_coded layout)
        (λ part number. linked_count places (part number)) (λ part number. linked_part places (part number)) (λ part number. L (part number)) (λ part number. L (part number)) (λ part number. L (part number)) (λ part. part)
        carries term)
