-- What is held for a lambda: its own body, and those inside of it.
use Rattle.std.proofs.Common.{◌≡◌, ℕ, zero, suc, ◌+◌, ◌*◌, ◌≤◌, Bool, true, false, List, [], ◌∷◌, ◌++◌, length, map, refl, sym, ap, ◌∙◌, subst, arith, length-append}
use Rattle.std.specs.Prelude.{flat_map, max}
use Rattle.std.proofs.lemmas.List.{length-map}
use Rattle.dy_term.specs.declared.types.DyType.{DyType}
use Rattle.dy_term.specs.declared.term.ForClause.{ForClause}
use Rattle.dy_term.specs.declared.term.Item.{Item}
use Rattle.dy_term.specs.declared.term.Term.{Term}
use Rattle.dy_term.specs.declared.term.BlockRow.{BlockRow}
use Rattle.dy_term.specs.declared.term.ForRow.{ForRow}
use Rattle.dy_term.specs.declared.term.Lambda.{Lambda, Lambda-F, out-Lambda, roll-Lambda, map-Lambda, out-roll-Lambda, roll-out-Lambda}
use Rattle.dy_outcome.specs.declared.place.Place.{Place}
use Rattle.dy_outcome.specs.declared.place.Place.TheVariants.{Own, Captured}
use Rattle.dy_code.specs.Fetching.{Instruction}
use Rattle.dy_code.specs.Fetching as instr
use Rattle.dy_code.specs.Validity.{Every}
use Rattle.dy_meaning.specs.Lambdas.{Inside, lambdas_in, lambdas_within, of_defaults}
use Rattle.dy_meaning.specs.Layouts.{Layout, place_of, layout_of, from, captured_by}
use Rattle.dy_meaning.proofs.Induction.{lambda_of}
use Rattle.dy_lowered.specs.Bodies.{FlatBody, rest_place, parameters, entry, lambda_body, closure_bodies}
use Rattle.dy_lowered.specs.Flat.{Flat, Plain, Catch, Code, one}
use Rattle.dy_lowered.specs.Parts.{kept, captures, closing}
use Rattle.dy_lowered.specs.Terms.{code_of}
use Rattle.dy_lowering_whole.specs.sizes.Nodes.{total, one_if, parameter_nodes, nodes_of, nodes_of_lambda}
use Rattle.dy_lowering_whole.proofs.sizes.Marked.{captures_few, lambda_size, lambda_size_is}
use Rattle.dy_lowering_whole.proofs.sizes.Measuring.{beside, lambda_held, lambda_held_is, C, I, T, K, F, L, A_term, A_lambda_row, all_weigh}
use Rattle.dy_lowering_whole.proofs.sizes.Weighing.{weigh, weigh_join, cells_weigh, closing_weighs}

from_counts : (first count : ℕ) → length (from first count) ≡ count
from_counts first zero = refl
from_counts first (suc count) = omega (arith, from_counts (first + 1) count)

rest_counts : (rest : Bool) (place : Place) → length (rest_place rest place) ≡ one_if rest
rest_counts true place = refl
rest_counts false place = refl

parameters_count : (lambda : Lambda) → length (parameters lambda) ≡ parameter_nodes (out-Lambda lambda).params
parameters_count lambda =
    let row = out-Lambda lambda in
    let layout = layout_of lambda in
    let required = length row.params.required in
    let places = map (place_of layout) (from row.first required) in
    let rest = rest_place row.params.rest (place_of layout (row.first + required)) in
    omega (arith, length-append places rest, length-map (from row.first required) (place_of layout), from_counts row.first required, rest_counts row.params.rest (place_of layout (row.first + required)))

-- the nodes of a lambda, by its row
nodes_are : (lambda : Lambda) → nodes_of_lambda lambda ≡ lambda_size (out-Lambda lambda)
nodes_are lambda = ap nodes_of_lambda (sym (roll-out-Lambda lambda)) ∙ lambda_size_is (out-Lambda lambda)

within_are : (lambda : Lambda) → lambdas_within lambda ≡ lambda_held (out-Lambda lambda)
within_are lambda = ap lambdas_within (sym (roll-out-Lambda lambda)) ∙ lambda_held_is (out-Lambda lambda)

-- a lambda whose body and whose defaults are known to weigh little
module _ (w : Flat → ℕ) (light : (flat : Flat) → w flat ≤ 1) (keeps : List Lambda → ℕ → ℕ) (keeps_none : (m : ℕ) → keeps [] m ≡ 0) (keeps_join : (xs ys : List Lambda) (m : ℕ) → keeps (xs ++ ys) m ≤ keeps xs m + keeps ys (m + length xs)) where
  abbrev IsKnown : DyType × Term → Type 0
  IsKnown keyword = T w light keeps keyword.1

  abbrev defaults : List (DyType × Term) → List Lambda
  defaults keywords = flat_map (λ (k : DyType × Inside Term). k.1.1) (map (λ (k : DyType × Term). (k.0, beside lambdas_in k.1)) keywords)

  defaults_weigh : (keywords : List (DyType × Term)) (m : ℕ) → Every IsKnown keywords → keeps (defaults keywords) m ≤ 64 * total (map (λ (k : DyType × ℕ). 1 + k.1) (map (λ (k : DyType × Term). (k.0, nodes_of k.1)) keywords))
  defaults_weigh [] m every = omega (arith, keeps_none m)
  defaults_weigh (keyword ∷ keywords) m every =
      let a = lambdas_in keyword.1 in
      let layout : Layout = record { first = 0; captured = []; in_cell = λ number. false } in
      omega (arith, keeps_join a (defaults keywords) m, every.0 layout 0 m, defaults_weigh keywords (m + length a) every.1)

  entry_weighs : (lambda : Lambda) → weigh w (entry lambda) ≤ parameter_nodes (out-Lambda lambda).params + 2
  entry_weighs lambda = omega (arith, light (Plain instr.Tick), light (Plain (instr.Args (out-Lambda lambda).params)), cells_weigh w light (parameters lambda), parameters_count lambda)

  pub row_weighs : (lambda : Lambda) (n m : ℕ) → T w light keeps (out-Lambda lambda).body → Every IsKnown (out-Lambda lambda).keywords → weigh w (lambda_body lambda n).code + (keeps (lambdas_within lambda) m + 40) ≤ 64 * nodes_of_lambda lambda
  row_weighs lambda n m body every =
      let row = out-Lambda lambda in
      let code = code_of (layout_of lambda) row.body (n + length (of_defaults row.keywords)) in
      let end = Plain (instr.CheckResults row.results) ∷ one instr.Return in
      let a = defaults row.keywords in
      let inner = ap (λ (xs : List Lambda). keeps xs m) (within_are lambda) in
      omega (
        arith,
        weigh_join w (entry lambda) (code ++ end),
        weigh_join w code end,
        light (Plain (instr.CheckResults row.results)),
        light (Plain instr.Return),
        entry_weighs lambda,
        body (layout_of lambda) (n + length (of_defaults row.keywords)) (m + length a),
        inner,
        keeps_join a (lambdas_in row.body) m,
        defaults_weigh row.keywords m every,
        nodes_are lambda,
      )

  -- where that is known of the parts of its row
  abbrev pub row_of : A_lambda_row w light keeps → Lambda-F ForClause Item Term BlockRow ForRow Lambda
  row_of y = map-Lambda _ _ _ _ _ _ _ _ _ _ _ _ (λ e. e.0) (λ e. e.0) (λ e. e.0) (λ e. e.0) (λ e. e.0) (λ e. e.0) y

  every_known : (ks : List (DyType × A_term w light keeps)) → Every IsKnown (map (λ (k : DyType × A_term w light keeps). (k.0, k.1.0)) ks)
  every_known [] = tt
  every_known (k ∷ ks) = (k.1.1, every_known ks)

  pub made_weighs : (y : A_lambda_row w light keeps) (n m : ℕ) → weigh w (lambda_body (roll-Lambda (row_of y)) n).code + (keeps (lambdas_within (roll-Lambda (row_of y))) m + 40) ≤ 64 * nodes_of_lambda (roll-Lambda (row_of y))
  made_weighs y n m =
      let row = row_of y in
      let same = sym (out-roll-Lambda row) in
      row_weighs (roll-Lambda row) n m (subst (λ (r : Lambda-F ForClause Item Term BlockRow ForRow Lambda). T w light keeps r.body) same y.body.1)
      (subst (λ (r : Lambda-F ForClause Item Term BlockRow ForRow Lambda). Every IsKnown r.keywords) same (every_known y.keywords))

  every_default : ((term : Term) → T w light keeps term) → (ks : List (DyType × Term)) → Every IsKnown ks
  every_default all [] = tt
  every_default all (k ∷ ks) = (all k.1, every_default all ks)

  pub lambda_weighs : ((term : Term) → T w light keeps term) → (lambda : Lambda) (n m : ℕ) → weigh w (lambda_body lambda n).code + (keeps (lambdas_within lambda) m + 40) ≤ 64 * nodes_of_lambda lambda
  lambda_weighs all lambda n m = row_weighs lambda n m (all (out-Lambda lambda).body) (every_default all (out-Lambda lambda).keywords)

-- each instruction counts
abbrev pub each : Flat → ℕ
each flat = 1

abbrev pub nothing : Flat → ℕ
nothing flat = 0

pub each_light : (flat : Flat) → each flat ≤ 1
each_light flat = omega arith

pub nothing_light : (flat : Flat) → nothing flat ≤ 1
nothing_light flat = omega arith

pub length_is : (code : Code) → weigh each code ≡ length code
length_is [] = refl
length_is (flat ∷ code) = omega (arith, length_is code)

no_weight : (code : Code) → weigh nothing code ≡ 0
no_weight [] = refl
no_weight (flat ∷ code) = omega (arith, no_weight code)

abbrev pub keeps_nothing : List Lambda → ℕ → ℕ
keeps_nothing xs m = 0

pub some_nodes : (lambda : Lambda) → 1 ≤ nodes_of_lambda lambda
some_nodes lambda = omega (arith, nodes_are lambda)

-- the code of a term alone
close_alone : (y : A_lambda_row each each_light keeps_nothing)
    → L each each_light keeps_nothing (lambda_of (C each each_light keeps_nothing) (I each each_light keeps_nothing) (T each each_light keeps_nothing) (K each each_light keeps_nothing) (F each each_light keeps_nothing) (L each each_light keeps_nothing) y)
close_alone y layout n m =
    let lambda = roll-Lambda (row_of each each_light keeps_nothing (λ m. refl) (λ xs ys m. omega arith) y) in
    let places = map (place_of layout) (captured_by lambda) in
    omega (arith, closing_weighs each each_light n places, length-map (captured_by lambda) (place_of layout), captures_few lambda, some_nodes lambda)

pub alone : (term : Term) → T each each_light keeps_nothing term
alone = all_weigh each each_light keeps_nothing (λ m. refl) (λ xs ys m. omega arith) close_alone

pub lambda_short : (lambda : Lambda) (n : ℕ) → length (lambda_body lambda n).code + 40 ≤ 64 * nodes_of_lambda lambda
lambda_short lambda n = omega (arith, lambda_weighs each each_light keeps_nothing (λ m. refl) (λ xs ys m. omega arith) alone lambda n 0, length_is (lambda_body lambda n).code)

-- bodies one after the other
pub bodies_join : (xs ys : List Lambda) (m : ℕ) → closure_bodies (xs ++ ys) m ≡ closure_bodies xs m ++ closure_bodies ys (m + length xs)
bodies_join [] ys m = let none : m ≡ m + 0 = omega arith in ap (closure_bodies ys) none
bodies_join (x ∷ xs) ys m =
    let next : m + 1 + length xs ≡ m + length (x ∷ xs) = omega arith in
    ap (λ (rest : List FlatBody). lambda_body x (m + 1) ∷ rest) (bodies_join xs ys (m + 1) ∙ ap (λ (k : ℕ). closure_bodies xs (m + 1) ++ closure_bodies ys k) next)

-- the longest of them
abbrev pub longest : List FlatBody → ℕ
longest [] = 0
longest (body ∷ bodies) = max (length body.code) (longest bodies)

longest_join : (xs ys : List FlatBody) → longest (xs ++ ys) ≤ longest xs + longest ys
longest_join [] ys = omega arith
longest_join (x ∷ xs) ys = omega (arith, longest_join xs ys)

abbrev pub keeps_longest : List Lambda → ℕ → ℕ
keeps_longest xs m = longest (closure_bodies xs m)

pub keeps_longest_join : (xs ys : List Lambda) (m : ℕ) → keeps_longest (xs ++ ys) m ≤ keeps_longest xs m + keeps_longest ys (m + length xs)
keeps_longest_join xs ys m = omega (arith, ap longest (bodies_join xs ys m), longest_join (closure_bodies xs m) (closure_bodies ys (m + length xs)))

close_longest : (y : A_lambda_row nothing nothing_light keeps_longest)
    → L nothing nothing_light keeps_longest (lambda_of (C nothing nothing_light keeps_longest) (I nothing nothing_light keeps_longest) (T nothing nothing_light keeps_longest) (K nothing nothing_light keeps_longest) (F nothing nothing_light keeps_longest) (L nothing nothing_light keeps_longest) y)
close_longest y layout n m =
    let lambda = roll-Lambda (row_of nothing nothing_light keeps_longest (λ m. refl) keeps_longest_join y) in
    omega (
      arith,
      no_weight (closing n (map (place_of layout) (captured_by lambda))),
      lambda_short lambda (m + 1),
      made_weighs nothing nothing_light keeps_longest (λ m. refl) keeps_longest_join y 0 (m + 1),
    )

longest_weigh : (term : Term) → T nothing nothing_light keeps_longest term
longest_weigh = all_weigh nothing nothing_light keeps_longest (λ m. refl) keeps_longest_join close_longest

pub longest_in : (term : Term) (m : ℕ) → keeps_longest (lambdas_in term) m ≤ 64 * nodes_of term
longest_in term m = let layout : Layout = record { first = 0; captured = []; in_cell = λ number. false } in omega (arith, longest_weigh term layout 0 m)

pub longest_within : (lambda : Lambda) (m : ℕ) → keeps_longest (lambdas_within lambda) m ≤ 64 * nodes_of_lambda lambda
longest_within lambda m = omega (arith, lambda_weighs nothing nothing_light keeps_longest (λ m. refl) keeps_longest_join longest_weigh lambda 0 m)

-- how many there are
abbrev pub keeps_count : List Lambda → ℕ → ℕ
keeps_count xs m = length xs

keeps_count_join : (xs ys : List Lambda) (m : ℕ) → keeps_count (xs ++ ys) m ≤ keeps_count xs m + keeps_count ys (m + length xs)
keeps_count_join xs ys m = omega (arith, length-append xs ys)

close_count : (y : A_lambda_row nothing nothing_light keeps_count)
    → L nothing nothing_light keeps_count (lambda_of (C nothing nothing_light keeps_count) (I nothing nothing_light keeps_count) (T nothing nothing_light keeps_count) (K nothing nothing_light keeps_count) (F nothing nothing_light keeps_count) (L nothing nothing_light keeps_count) y)
close_count y layout n m =
    let lambda = roll-Lambda (row_of nothing nothing_light keeps_count (λ m. refl) keeps_count_join y) in
    omega (arith, no_weight (closing n (map (place_of layout) (captured_by lambda))), made_weighs nothing nothing_light keeps_count (λ m. refl) keeps_count_join y 0 0)

counts_weigh : (term : Term) → T nothing nothing_light keeps_count term
counts_weigh = all_weigh nothing nothing_light keeps_count (λ m. refl) keeps_count_join close_count

pub count_in : (term : Term) → length (lambdas_in term) + 16 ≤ 64 * nodes_of term
count_in term = let layout : Layout = record { first = 0; captured = []; in_cell = λ number. false } in omega (arith, counts_weigh term layout 0 0)

pub count_within : (lambda : Lambda) → length (lambdas_within lambda) + 40 ≤ 64 * nodes_of_lambda lambda
count_within lambda = omega (arith, lambda_weighs nothing nothing_light keeps_count (λ m. refl) keeps_count_join counts_weigh lambda 0 0)

-- instructions that name an item
abbrev pub names : Instruction → ℕ
names (instr.Const literal) = 1
names (instr.Global named) = 1
names (instr.SetGlobal named) = 1
names (instr.Search generic count) = 1
names (instr.CallDirect sorted ambiguous count) = 1
names (instr.CallKnown named count) = 1
names (instr.Check type) = 1
names (instr.CheckResults results) = 1
names (instr.Handle condition) = 1
names (instr.Catch condition address) = 1
names (instr.Args params) = 1
names _ = 0

abbrev pub naming : Flat → ℕ
naming (Plain instruction) = names instruction
naming (Catch condition distance) = 1
naming _ = 0

names_light : (instruction : Instruction) → names instruction ≤ 1
names_light (instr.Const literal) = omega arith
names_light (instr.Global named) = omega arith
names_light (instr.SetGlobal named) = omega arith
names_light (instr.Search generic count) = omega arith
names_light (instr.CallDirect sorted ambiguous count) = omega arith
names_light (instr.CallKnown named count) = omega arith
names_light (instr.Check type) = omega arith
names_light (instr.CheckResults results) = omega arith
names_light (instr.Handle condition) = omega arith
names_light (instr.Catch condition address) = omega arith
names_light (instr.Args params) = omega arith
names_light _ = omega arith

pub naming_light : (flat : Flat) → naming flat ≤ 1
naming_light (Plain instruction) = names_light instruction
naming_light (Catch condition distance) = omega arith
naming_light _ = omega arith

-- A closure names none.
kept_names : (place : Place) → weigh naming (kept place) ≡ 0
kept_names (Own number in_cell) = refl
kept_names (Captured number) = refl

captures_name : (places : List Place) → weigh naming (captures places) ≡ 0
captures_name [] = refl
captures_name (place ∷ places) = weigh_join naming (kept place) (Plain instr.Push ∷ captures places) ∙ omega (arith, kept_names place, captures_name places)

closing_names : (number : ℕ) (places : List Place) → weigh naming (closing number places) ≡ 0
closing_names number places = weigh_join naming (captures places) (one (instr.Closure number (length places))) ∙ omega (arith, captures_name places)

abbrev pub names_of : List FlatBody → ℕ
names_of [] = 0
names_of (body ∷ bodies) = weigh naming body.code + names_of bodies

pub names_join : (xs ys : List FlatBody) → names_of (xs ++ ys) ≡ names_of xs + names_of ys
names_join [] ys = omega arith
names_join (x ∷ xs) ys = omega (arith, names_join xs ys)

abbrev pub keeps_names : List Lambda → ℕ → ℕ
keeps_names xs m = names_of (closure_bodies xs m)

pub keeps_names_join : (xs ys : List Lambda) (m : ℕ) → keeps_names (xs ++ ys) m ≤ keeps_names xs m + keeps_names ys (m + length xs)
keeps_names_join xs ys m = omega (arith, ap names_of (bodies_join xs ys m), names_join (closure_bodies xs m) (closure_bodies ys (m + length xs)))

close_names : (y : A_lambda_row naming naming_light keeps_names)
    → L naming naming_light keeps_names (lambda_of (C naming naming_light keeps_names) (I naming naming_light keeps_names) (T naming naming_light keeps_names) (K naming naming_light keeps_names) (F naming naming_light keeps_names) (L naming naming_light keeps_names) y)
close_names y layout n m =
    let lambda = roll-Lambda (row_of naming naming_light keeps_names (λ m. refl) keeps_names_join y) in
    omega (arith, closing_names n (map (place_of layout) (captured_by lambda)), made_weighs naming naming_light keeps_names (λ m. refl) keeps_names_join y (m + 1) (m + 1))

pub names_weigh : (term : Term) → T naming naming_light keeps_names term
names_weigh = all_weigh naming naming_light keeps_names (λ m. refl) keeps_names_join close_names

pub names_within : (lambda : Lambda) (n m : ℕ) → weigh naming (lambda_body lambda n).code + keeps_names (lambdas_within lambda) m ≤ 64 * nodes_of_lambda lambda
names_within lambda n m = omega (arith, lambda_weighs naming naming_light keeps_names (λ m. refl) keeps_names_join names_weigh lambda n m)
