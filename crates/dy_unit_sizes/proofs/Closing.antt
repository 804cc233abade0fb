-- What is held for a lambda: its own body, and those inside of it.
use Rattle.std.proofs.Common.{◌≡◌, ℕ, zero, suc, ◌+◌, ◌*◌, ◌≤◌, Bool, true, false, List, [], ◌∷◌, ◌++◌, length, map, refl, sym, ap, ◌∙◌, subst, arith, length-append}
use Rattle.std.specs.Prelude.{flat_map}
use Rattle.std.proofs.lemmas.List.{length-map}
use Rattle.dy_term.specs.declared.types.DyType.{DyType}
use Rattle.dy_term.specs.declared.term.ForClause.{ForClause}
use Rattle.dy_term.specs.declared.term.Item.{Item}
use Rattle.dy_term.specs.declared.term.Term.{Term}
use Rattle.dy_term.specs.declared.term.BlockRow.{BlockRow}
use Rattle.dy_term.specs.declared.term.ForRow.{ForRow}
use Rattle.dy_term.specs.declared.term.Lambda.{Lambda, Lambda-F, out-Lambda, roll-Lambda, map-Lambda, out-roll-Lambda, roll-out-Lambda}
use Rattle.dy_outcome.specs.declared.place.Place.{Place}
use Rattle.dy_code.specs.Fetching as instr
use Rattle.dy_code.specs.Validity.{Every}
use Rattle.dy_meaning.specs.Lambdas.{Inside, lambdas_in, lambdas_within, of_defaults}
use Rattle.dy_meaning.specs.Layouts.{Layout, place_of, layout_of, from, captured_by}
use Rattle.dy_meaning.proofs.Induction.{lambda_of}
use Rattle.dy_lowered.specs.Bodies.{FlatBody, rest_place, parameters, entry, lambda_body, closure_bodies}
use Rattle.dy_lowered.specs.Flat.{Plain, one}
use Rattle.dy_lowered.specs.Terms.{code_of}
use Rattle.dy_lowering_whole.specs.sizes.Nodes.{total, one_if, parameter_nodes, nodes_of, nodes_of_lambda}
use Rattle.dy_lowering_whole.proofs.sizes.Closing.{naming, naming_light, bodies_join}
use Rattle.dy_lowering_whole.proofs.sizes.Marked.{lambda_size, lambda_size_is}
use Rattle.dy_lowering_whole.proofs.sizes.Measuring.{beside, lambda_held, lambda_held_is}
use Rattle.dy_lowering_whole.proofs.sizes.Weighing.{cells_weigh}
use Rattle.dy_unit_sizes.proofs.Pieces.{W, join, closing_names}
use Rattle.dy_unit_sizes.proofs.Measuring.{C, I, T, K, F, L, A_term, A_lambda_row, all_weigh}

-- the parameters of a lambda are no more than it has nodes for them
from_counts : (first count : ℕ) → length (from first count) ≡ count
from_counts first zero = refl
from_counts first (suc count) = omega (arith, from_counts (first + 1) count)

rest_counts : (rest : Bool) (place : Place) → length (rest_place rest place) ≡ one_if rest
rest_counts true place = refl
rest_counts false place = refl

parameters_count : (lambda : Lambda) → length (parameters lambda) ≡ parameter_nodes (out-Lambda lambda).params
parameters_count lambda =
    let row = out-Lambda lambda in
    let layout = layout_of lambda in
    let required = length row.params.required in
    let places = map (place_of layout) (from row.first required) in
    let rest = rest_place row.params.rest (place_of layout (row.first + required)) in
    omega (arith, length-append places rest, length-map (from row.first required) (place_of layout), from_counts row.first required, rest_counts row.params.rest (place_of layout (row.first + required)))

-- the nodes of a lambda, by its row
nodes_are : (lambda : Lambda) → nodes_of_lambda lambda ≡ lambda_size (out-Lambda lambda)
nodes_are lambda = ap nodes_of_lambda (sym (roll-out-Lambda lambda)) ∙ lambda_size_is (out-Lambda lambda)

within_are : (lambda : Lambda) → lambdas_within lambda ≡ lambda_held (out-Lambda lambda)
within_are lambda = ap lambdas_within (sym (roll-out-Lambda lambda)) ∙ lambda_held_is (out-Lambda lambda)

entry_names : (lambda : Lambda) → W (entry lambda) ≤ parameter_nodes (out-Lambda lambda).params + 1
entry_names lambda = omega (arith, cells_weigh naming naming_light (parameters lambda), parameters_count lambda)

-- a lambda whose body and whose defaults are known to name few
module _ (keeps : List Lambda → ℕ → ℕ) (keeps_none : (m : ℕ) → keeps [] m ≡ 0) (keeps_join : (xs ys : List Lambda) (m : ℕ) → keeps (xs ++ ys) m ≤ keeps xs m + keeps ys (m + length xs)) where
  abbrev IsKnown : DyType × Term → Type 0
  IsKnown keyword = T keeps keyword.1

  abbrev defaults : List (DyType × Term) → List Lambda
  defaults keywords = flat_map (λ (k : DyType × Inside Term). k.1.1) (map (λ (k : DyType × Term). (k.0, beside lambdas_in k.1)) keywords)

  defaults_weigh : (keywords : List (DyType × Term)) (m : ℕ) → Every IsKnown keywords → keeps (defaults keywords) m ≤ 4 * total (map (λ (k : DyType × ℕ). 1 + k.1) (map (λ (k : DyType × Term). (k.0, nodes_of k.1)) keywords))
  defaults_weigh [] m every = omega (arith, keeps_none m)
  defaults_weigh (keyword ∷ keywords) m every =
      let a = lambdas_in keyword.1 in
      let layout : Layout = record { first = 0; captured = []; in_cell = λ number. false } in
      omega (arith, keeps_join a (defaults keywords) m, every.0 layout 0 m, defaults_weigh keywords (m + length a) every.1)

  -- what the code of its body names, with what is held inside
  abbrev pub FewInside : Lambda → ℕ → ℕ → Type 0
  FewInside lambda n m =
      let row = out-Lambda lambda in
      W (code_of (layout_of lambda) row.body (n + length (of_defaults row.keywords))) + (keeps (lambdas_within lambda) m + (parameter_nodes row.params + 7)) ≤ 4 * nodes_of_lambda lambda

  inner_weighs : (lambda : Lambda) (n m : ℕ) → T keeps (out-Lambda lambda).body → Every IsKnown (out-Lambda lambda).keywords → FewInside lambda n m
  inner_weighs lambda n m body every =
      let row = out-Lambda lambda in
      let a = defaults row.keywords in
      let inner = ap (λ (xs : List Lambda). keeps xs m) (within_are lambda) in
      omega (
        arith,
        body (layout_of lambda) (n + length (of_defaults row.keywords)) (m + length a),
        inner,
        keeps_join a (lambdas_in row.body) m,
        defaults_weigh row.keywords m every,
        nodes_are lambda,
      )

  pub body_names : (lambda : Lambda) (n m : ℕ) → FewInside lambda n m → W (lambda_body lambda n).code + (keeps (lambdas_within lambda) m + 5) ≤ 4 * nodes_of_lambda lambda
  body_names lambda n m few =
      let row = out-Lambda lambda in
      let code = code_of (layout_of lambda) row.body (n + length (of_defaults row.keywords)) in
      let end = Plain (instr.CheckResults row.results) ∷ one instr.Return in
      omega (arith, join (entry lambda) (code ++ end), join code end, entry_names lambda, few)

  -- where that is known of the parts of its row
  abbrev pub row_of : A_lambda_row keeps → Lambda-F ForClause Item Term BlockRow ForRow Lambda
  row_of y = map-Lambda _ _ _ _ _ _ _ _ _ _ _ _ (λ e. e.0) (λ e. e.0) (λ e. e.0) (λ e. e.0) (λ e. e.0) (λ e. e.0) y

  every_known : (ks : List (DyType × A_term keeps)) → Every IsKnown (map (λ (k : DyType × A_term keeps). (k.0, k.1.0)) ks)
  every_known [] = tt
  every_known (k ∷ ks) = (k.1.1, every_known ks)

  pub made_weighs : (y : A_lambda_row keeps) (n m : ℕ) → FewInside (roll-Lambda (row_of y)) n m
  made_weighs y n m =
      let row = row_of y in
      let same = sym (out-roll-Lambda row) in
      inner_weighs (roll-Lambda row) n m (subst (λ (r : Lambda-F ForClause Item Term BlockRow ForRow Lambda). T keeps r.body) same y.body.1)
      (subst (λ (r : Lambda-F ForClause Item Term BlockRow ForRow Lambda). Every IsKnown r.keywords) same (every_known y.keywords))

  every_default : ((term : Term) → T keeps term) → (ks : List (DyType × Term)) → Every IsKnown ks
  every_default all [] = tt
  every_default all (k ∷ ks) = (all k.1, every_default all ks)

  pub lambda_weighs : ((term : Term) → T keeps term) → (lambda : Lambda) (n m : ℕ) → FewInside lambda n m
  lambda_weighs all lambda n m = inner_weighs lambda n m (all (out-Lambda lambda).body) (every_default all (out-Lambda lambda).keywords)

-- how many there are, four for each
abbrev pub keeps_count : List Lambda → ℕ → ℕ
keeps_count xs m = 4 * length xs

keeps_count_join : (xs ys : List Lambda) (m : ℕ) → keeps_count (xs ++ ys) m ≤ keeps_count xs m + keeps_count ys (m + length xs)
keeps_count_join xs ys m = omega (arith, length-append xs ys)

close_count : (y : A_lambda_row keeps_count) → L keeps_count (lambda_of (C keeps_count) (I keeps_count) (T keeps_count) (K keeps_count) (F keeps_count) (L keeps_count) y)
close_count y layout n m =
    let lambda = roll-Lambda (row_of keeps_count (λ m. refl) keeps_count_join y) in
    omega (arith, closing_names n (map (place_of layout) (captured_by lambda)), made_weighs keeps_count (λ m. refl) keeps_count_join y 0 0)

counts_weigh : (term : Term) → T keeps_count term
counts_weigh = all_weigh keeps_count (λ m. refl) keeps_count_join close_count

pub count_in : (term : Term) → length (lambdas_in term) + 1 ≤ nodes_of term
count_in term = let layout : Layout = record { first = 0; captured = []; in_cell = λ number. false } in omega (arith, counts_weigh term layout 0 0)

pub count_within : (lambda : Lambda) → length (lambdas_within lambda) + 1 ≤ nodes_of_lambda lambda
count_within lambda = omega (arith, lambda_weighs keeps_count (λ m. refl) keeps_count_join counts_weigh lambda 0 0)

-- what all bodies name, and two more for each
abbrev pub worth : List FlatBody → ℕ
worth [] = 0
worth (body ∷ bodies) = W body.code + (2 + worth bodies)

pub worth_join : (xs ys : List FlatBody) → worth (xs ++ ys) ≡ worth xs + worth ys
worth_join [] ys = omega arith
worth_join (x ∷ xs) ys = omega (arith, worth_join xs ys)

abbrev pub keeps_worth : List Lambda → ℕ → ℕ
keeps_worth xs m = worth (closure_bodies xs m)

keeps_worth_join : (xs ys : List Lambda) (m : ℕ) → keeps_worth (xs ++ ys) m ≤ keeps_worth xs m + keeps_worth ys (m + length xs)
keeps_worth_join xs ys m = omega (arith, ap worth (bodies_join xs ys m), worth_join (closure_bodies xs m) (closure_bodies ys (m + length xs)))

close_worth : (y : A_lambda_row keeps_worth) → L keeps_worth (lambda_of (C keeps_worth) (I keeps_worth) (T keeps_worth) (K keeps_worth) (F keeps_worth) (L keeps_worth) y)
close_worth y layout n m =
    let lambda = roll-Lambda (row_of keeps_worth (λ m. refl) keeps_worth_join y) in
    let few = body_names keeps_worth (λ m. refl) keeps_worth_join lambda (m + 1) (m + 1) (made_weighs keeps_worth (λ m. refl) keeps_worth_join y (m + 1) (m + 1)) in
    omega (arith, closing_names n (map (place_of layout) (captured_by lambda)), few)

pub worth_in : (term : Term) → T keeps_worth term
worth_in = all_weigh keeps_worth (λ m. refl) keeps_worth_join close_worth

pub worth_within : (lambda : Lambda) (n m : ℕ) → W (lambda_body lambda n).code + (keeps_worth (lambdas_within lambda) m + 5) ≤ 4 * nodes_of_lambda lambda
worth_within lambda n m = body_names keeps_worth (λ m. refl) keeps_worth_join lambda n m (lambda_weighs keeps_worth (λ m. refl) keeps_worth_join worth_in lambda n m)
