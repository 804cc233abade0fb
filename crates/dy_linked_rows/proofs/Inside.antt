-- The lambdas inside of a linked term are those inside of the term, each linked.
use Rattle.std.proofs.Common.{◌≡◌, ℕ, ◌+◌, Bool, List, [], ◌∷◌, ◌++◌, length, map, Option, Some, None, refl, sym, ap, ◌∙◌}
use Rattle.std.specs.Prelude.{flat_map}
use Rattle.std.specs.Option.{option_map}
use Rattle.std.proofs.lemmas.List.{length-map, map-append}
use Rattle.dy_term.specs.declared.types.DyType.{DyType}
use Rattle.dy_term.specs.declared.term.Limit.{Limit}
use Rattle.dy_term.specs.declared.term.ForClause.{ForClause, ForClause-F}
use Rattle.dy_term.specs.declared.term.Item.{Item, Item-F}
use Rattle.dy_term.specs.declared.term.Term.{Term, Term-F}
use Rattle.dy_term.specs.declared.term.BlockRow.{BlockRow, BlockRow-F}
use Rattle.dy_term.specs.declared.term.ForRow.{ForRow, ForRow-F}
use Rattle.dy_term.specs.declared.term.Lambda.{Lambda, Lambda-F}
use Rattle.dy_meaning.specs.Lambdas.{Inside, of_all, of_held, of_pairs, of_arms, of_second, of_given, itself_and, clause_lambdas, item_lambdas, term_lambdas, block_lambdas, for_lambdas, lambda_lambdas, lambdas_in_clause, lambdas_in_item, lambdas_in, lambdas_within, with_inner, of_defaults}
use Rattle.dy_lowered.specs.Linking.{linked_type}
use Rattle.dy_linked_rows.specs.Terms.{typed, clause_linked, item_linked, term_linked, block_linked, for_linked, lambda_linked, linked_clause, linked_item, linked_term, linked_block, linked_for, linked_lambda}
use Rattle.dy_linked_rows.proofs.Lists.{map_both}
use Rattle.dy_linked_rows.proofs.Layers.{over_clause, over_item, over_term, over_block, over_for, over_lambda}
use Rattle.dy_linked_rows.proofs.Folding.{Carries, carried_through_clause, carried_through_item, carried_through_term, carried_through_lambda}

module _ (places : ℕ → ℕ) where
  abbrev Ls : List Lambda → List Lambda
  Ls = map (linked_lambda places)

  both : (xs ys xs' ys' : List Lambda) → xs' ≡ Ls xs → ys' ≡ Ls ys → xs' ++ ys' ≡ Ls (xs ++ ys)
  both = map_both (linked_lambda places)

  -- a part, linked, with the lambdas inside of it
  abbrev carried : {A : Type 0} → (A → A) → Inside A → Inside A
  carried link part = (link part.0, Ls part.1)

  all_carried : {A : Type 0} (link : A → A) (parts : List (Inside A)) → of_all (map (carried link) parts) ≡ Ls (of_all parts)
  all_carried link [] = refl
  all_carried link (part ∷ parts) = both part.1 (of_all parts) (Ls part.1) (of_all (map (carried link) parts)) refl (all_carried link parts)

  held_carried : {A : Type 0} (link : A → A) (part : Option (Inside A)) → of_held (option_map (carried link) part) ≡ Ls (of_held part)
  held_carried link None = refl
  held_carried link (Some part) = refl

  second_carried : {X A : Type 0} (link : A → A) (part : Option (X × Inside A)) → of_second {A = X} {B = A} (option_map (λ (p : X × Inside A). (p.0, carried link p.1)) part) ≡ Ls (of_second {A = X} {B = A} part)
  second_carried link None = refl
  second_carried link (Some part) = refl

  given_carried : {A : Type 0} (link : A → A) (parts : Option (List (Inside A))) → of_given (option_map (map (carried link)) parts) ≡ Ls (of_given parts)
  given_carried link None = refl
  given_carried link (Some parts) = all_carried link parts

  pairs_carried : {A : Type 0} (link : A → A) (pairs : List (Inside A × Inside A)) → of_pairs (map (λ (p : Inside A × Inside A). (carried link p.0, carried link p.1)) pairs) ≡ Ls (of_pairs pairs)
  pairs_carried link [] = refl
  pairs_carried {A} link (pair ∷ pairs) =
      both (pair.0.1 ++ pair.1.1) (of_pairs pairs) (Ls pair.0.1 ++ Ls pair.1.1) (of_pairs (map (λ (p : Inside A × Inside A). (carried link p.0, carried link p.1)) pairs))
      (sym (map-append (linked_lambda places) pair.0.1 pair.1.1)) (pairs_carried link pairs)

  arms_carried : {A : Type 0} (link : A → A) (arms : List (List (Inside A) × Inside A)) → of_arms (map (λ (p : List (Inside A) × Inside A). (map (carried link) p.0, carried link p.1)) arms) ≡ Ls (of_arms arms)
  arms_carried link [] = refl
  arms_carried {A} link (arm ∷ arms) =
      both (of_all arm.0 ++ arm.1.1) (of_arms arms) (of_all (map (carried link) arm.0) ++ Ls arm.1.1) (of_arms (map (λ (p : List (Inside A) × Inside A). (map (carried link) p.0, carried link p.1)) arms))
      (both (of_all arm.0) arm.1.1 (of_all (map (carried link) arm.0)) (Ls arm.1.1) (all_carried link arm.0) refl) (arms_carried link arms)

  abbrev linked_one : Inside Lambda → Inside Lambda
  linked_one = carried (linked_lambda places)

  methods_carried : (methods : List (ℕ × Inside Lambda)) → flat_map (λ (m : ℕ × Inside Lambda). itself_and m.1) (map (λ (m : ℕ × Inside Lambda). (m.0, linked_one m.1)) methods) ≡ Ls (flat_map (λ (m : ℕ × Inside Lambda). itself_and m.1) methods)
  methods_carried [] = refl
  methods_carried (method ∷ methods) =
      both (itself_and method.1) (flat_map (λ (m : ℕ × Inside Lambda). itself_and m.1) methods) (Ls (itself_and method.1)) (flat_map (λ (m : ℕ × Inside Lambda). itself_and m.1) (map (λ (m : ℕ × Inside Lambda). (m.0, linked_one m.1)) methods)) refl (methods_carried methods)

  caught_carried : {A : Type 0} (link : A → A) (clauses : List (Option ℕ × DyType × Inside A))
      → flat_map (λ (c : Option ℕ × DyType × Inside A). c.2.1) (map (λ (c : Option ℕ × DyType × Inside A). (c.0, linked_type places c.1, c.2)) (map (λ (c : Option ℕ × DyType × Inside A). (c.0, c.1, carried link c.2)) clauses))
      ≡ Ls (flat_map (λ (c : Option ℕ × DyType × Inside A). c.2.1) clauses)
  caught_carried link [] = refl
  caught_carried {A} link (clause ∷ clauses) =
      both clause.2.1 (flat_map (λ (c : Option ℕ × DyType × Inside A). c.2.1) clauses) (Ls clause.2.1)
      (flat_map (λ (c : Option ℕ × DyType × Inside A). c.2.1) (map (λ (c : Option ℕ × DyType × Inside A). (c.0, linked_type places c.1, c.2)) (map (λ (c : Option ℕ × DyType × Inside A). (c.0, c.1, carried link c.2)) clauses)))
      refl (caught_carried link clauses)

  keywords_carried : {A : Type 0} (link : A → A) (keywords : List (DyType × Inside A))
      → flat_map (λ (k : DyType × Inside A). k.1.1) (map (typed places) (map (λ (k : DyType × Inside A). (k.0, carried link k.1)) keywords)) ≡ Ls (flat_map (λ (k : DyType × Inside A). k.1.1) keywords)
  keywords_carried link [] = refl
  keywords_carried {A} link (keyword ∷ keywords) =
      both keyword.1.1 (flat_map (λ (k : DyType × Inside A). k.1.1) keywords) (Ls keyword.1.1)
      (flat_map (λ (k : DyType × Inside A). k.1.1) (map (typed places) (map (λ (k : DyType × Inside A). (k.0, carried link k.1)) keywords))) refl (keywords_carried link keywords)

  -- layers
  abbrev C : Inside ForClause → Inside ForClause
  C = carried (linked_clause places)

  abbrev I : Inside Item → Inside Item
  I = carried (linked_item places)

  abbrev T : Inside Term → Inside Term
  T = carried (linked_term places)

  abbrev K : Inside BlockRow → Inside BlockRow
  K = carried (linked_block places)

  abbrev F : Inside ForRow → Inside ForRow
  F = carried (linked_for places)

  clause_carries : (x : ForClause-F (Inside ForClause) (Inside Item) (Inside Term) (Inside BlockRow) (Inside ForRow) (Inside Lambda)) → clause_lambdas (clause_linked places (over_clause C I T K F linked_one x)) ≡ Ls (clause_lambdas x)
  clause_carries (ForClause-F.Then local type start next) = both start.1 next.1 _ _ refl refl
  clause_carries (ForClause-F.In local type collection) = refl
  clause_carries (ForClause-F.From local type start None None) = both (start.1 ++ of_second {A = Limit} {B = Term} None) (of_held {A = Term} None) _ _ (both start.1 (of_second {A = Limit} {B = Term} None) _ _ refl (second_carried {X = Limit} {A = Term} (linked_term places) None)) (held_carried {A = Term} (linked_term places) None)
  clause_carries (ForClause-F.From local type start None (Some step)) = both (start.1 ++ of_second {A = Limit} {B = Term} None) (of_held {A = Term} (Some step)) _ _ (both start.1 (of_second {A = Limit} {B = Term} None) _ _ refl (second_carried {X = Limit} {A = Term} (linked_term places) None)) (held_carried {A = Term} (linked_term places) (Some step))
  clause_carries (ForClause-F.From local type start (Some limit) None) = both (start.1 ++ of_second {A = Limit} {B = Term} (Some limit)) (of_held {A = Term} None) _ _ (both start.1 (of_second {A = Limit} {B = Term} (Some limit)) _ _ refl (second_carried {X = Limit} {A = Term} (linked_term places) (Some limit))) (held_carried {A = Term} (linked_term places) None)
  clause_carries (ForClause-F.From local type start (Some limit) (Some step)) = both (start.1 ++ of_second {A = Limit} {B = Term} (Some limit)) (of_held {A = Term} (Some step)) _ _ (both start.1 (of_second {A = Limit} {B = Term} (Some limit)) _ _ refl (second_carried {X = Limit} {A = Term} (linked_term places) (Some limit))) (held_carried {A = Term} (linked_term places) (Some step))

  item_carries : (x : Item-F (Inside ForClause) (Inside Item) (Inside Term) (Inside BlockRow) (Inside ForRow) (Inside Lambda)) → item_lambdas (item_linked places (over_item C I T K F linked_one x)) ≡ Ls (item_lambdas x)
  item_carries (Item-F.Run term) = refl
  item_carries (Item-F.Let locals rest term) = refl
  item_carries (Item-F.LetMethods methods) = methods_carried methods
  item_carries (Item-F.Handler type function) = refl

  term_carries : (x : Term-F (Inside ForClause) (Inside Item) (Inside Term) (Inside BlockRow) (Inside ForRow) (Inside Lambda)) → term_lambdas (term_linked places (over_term C I T K F linked_one x)) ≡ Ls (term_lambdas x)
  term_carries (Term-F.Lit value) = refl
  term_carries (Term-F.Local local) = refl
  term_carries (Term-F.Global binding) = refl
  term_carries (Term-F.ClassName class) = refl
  term_carries (Term-F.GenericName generic) = refl
  term_carries (Term-F.SetLocal local term) = refl
  term_carries (Term-F.SetGlobal binding term) = refl
  term_carries (Term-F.Call function terms) = both function.1 (of_all terms) _ _ refl (all_carried (linked_term places) terms)
  term_carries (Term-F.Site generic terms) = all_carried (linked_term places) terms
  term_carries (Term-F.Cond branches other) = both (of_pairs branches) other.1 _ _ (pairs_carried (linked_term places) branches) refl
  term_carries (Term-F.And left right) = both left.1 right.1 _ _ refl refl
  term_carries (Term-F.Or left right) = both left.1 right.1 _ _ refl refl
  term_carries (Term-F.Select value None arms None) = both (value.1 ++ of_held {A = Term} None ++ of_arms arms) (of_held {A = Term} None) _ _ (both (value.1 ++ of_held {A = Term} None) (of_arms arms) _ _ (both value.1 (of_held {A = Term} None) _ _ refl (held_carried {A = Term} (linked_term places) None)) (arms_carried (linked_term places) arms)) (held_carried {A = Term} (linked_term places) None)
  term_carries (Term-F.Select value None arms (Some last)) = both (value.1 ++ of_held {A = Term} None ++ of_arms arms) (of_held {A = Term} (Some last)) _ _ (both (value.1 ++ of_held {A = Term} None) (of_arms arms) _ _ (both value.1 (of_held {A = Term} None) _ _ refl (held_carried {A = Term} (linked_term places) None)) (arms_carried (linked_term places) arms)) (held_carried {A = Term} (linked_term places) (Some last))
  term_carries (Term-F.Select value (Some test) arms None) = both (value.1 ++ of_held {A = Term} (Some test) ++ of_arms arms) (of_held {A = Term} None) _ _ (both (value.1 ++ of_held {A = Term} (Some test)) (of_arms arms) _ _ (both value.1 (of_held {A = Term} (Some test)) _ _ refl (held_carried {A = Term} (linked_term places) (Some test))) (arms_carried (linked_term places) arms)) (held_carried {A = Term} (linked_term places) None)
  term_carries (Term-F.Select value (Some test) arms (Some last)) = both (value.1 ++ of_held {A = Term} (Some test) ++ of_arms arms) (of_held {A = Term} (Some last)) _ _ (both (value.1 ++ of_held {A = Term} (Some test)) (of_arms arms) _ _ (both value.1 (of_held {A = Term} (Some test)) _ _ refl (held_carried {A = Term} (linked_term places) (Some test))) (arms_carried (linked_term places) arms)) (held_carried {A = Term} (linked_term places) (Some last))
  term_carries (Term-F.Body items) = all_carried (linked_item places) items
  term_carries (Term-F.Loop test inner) = both test.1 inner.1 _ _ refl refl
  term_carries (Term-F.For row) = refl
  term_carries (Term-F.Method lambda) = refl
  term_carries (Term-F.Block row) = refl
  term_carries (Term-F.Op operation terms) = all_carried (linked_term places) terms
  term_carries (Term-F.Next None) = refl
  term_carries (Term-F.Next (Some terms)) = all_carried (linked_term places) terms

  abbrev a_block : Option ℕ → Inside Term → Option (Inside Term) → Option (Inside Term) → List (Option ℕ × DyType × Inside Term) → BlockRow-F (Inside ForClause) (Inside Item) (Inside Term) (Inside BlockRow) (Inside ForRow) (Inside Lambda)
  a_block exit body afterwards cleanup clauses = record { exit = exit; body = body; afterwards = afterwards; cleanup = cleanup; clauses = clauses }

  block_parts : (exit : Option ℕ) (body : Inside Term) (afterwards cleanup : Option (Inside Term)) (clauses : List (Option ℕ × DyType × Inside Term)) → block_lambdas (block_linked places (over_block C I T K F linked_one (a_block exit body afterwards cleanup clauses))) ≡ Ls (block_lambdas (a_block exit body afterwards cleanup clauses))
  block_parts exit body None None clauses = both (body.1 ++ of_held {A = Term} None ++ of_held {A = Term} None) (flat_map (λ (c : Option ℕ × DyType × Inside Term). c.2.1) clauses) _ _ (both (body.1 ++ of_held {A = Term} None) (of_held {A = Term} None) _ _ (both body.1 (of_held {A = Term} None) _ _ refl (held_carried {A = Term} (linked_term places) None)) (held_carried {A = Term} (linked_term places) None)) (caught_carried (linked_term places) clauses)
  block_parts exit body None (Some b) clauses = both (body.1 ++ of_held {A = Term} None ++ of_held {A = Term} (Some b)) (flat_map (λ (c : Option ℕ × DyType × Inside Term). c.2.1) clauses) _ _ (both (body.1 ++ of_held {A = Term} None) (of_held {A = Term} (Some b)) _ _ (both body.1 (of_held {A = Term} None) _ _ refl (held_carried {A = Term} (linked_term places) None)) (held_carried {A = Term} (linked_term places) (Some b))) (caught_carried (linked_term places) clauses)
  block_parts exit body (Some a) None clauses = both (body.1 ++ of_held {A = Term} (Some a) ++ of_held {A = Term} None) (flat_map (λ (c : Option ℕ × DyType × Inside Term). c.2.1) clauses) _ _ (both (body.1 ++ of_held {A = Term} (Some a)) (of_held {A = Term} None) _ _ (both body.1 (of_held {A = Term} (Some a)) _ _ refl (held_carried {A = Term} (linked_term places) (Some a))) (held_carried {A = Term} (linked_term places) None)) (caught_carried (linked_term places) clauses)
  block_parts exit body (Some a) (Some b) clauses = both (body.1 ++ of_held {A = Term} (Some a) ++ of_held {A = Term} (Some b)) (flat_map (λ (c : Option ℕ × DyType × Inside Term). c.2.1) clauses) _ _ (both (body.1 ++ of_held {A = Term} (Some a)) (of_held {A = Term} (Some b)) _ _ (both body.1 (of_held {A = Term} (Some a)) _ _ refl (held_carried {A = Term} (linked_term places) (Some a))) (held_carried {A = Term} (linked_term places) (Some b))) (caught_carried (linked_term places) clauses)

  block_carries : (x : BlockRow-F (Inside ForClause) (Inside Item) (Inside Term) (Inside BlockRow) (Inside ForRow) (Inside Lambda)) → block_lambdas (block_linked places (over_block C I T K F linked_one x)) ≡ Ls (block_lambdas x)
  block_carries x = block_parts x.exit x.body x.afterwards x.cleanup x.clauses

  abbrev a_for : List (Inside ForClause) → Option (Bool × Inside Term) → Inside Term → Option (Inside Term) → ForRow-F (Inside ForClause) (Inside Item) (Inside Term) (Inside BlockRow) (Inside ForRow) (Inside Lambda)
  a_for clauses test body finally = record { clauses = clauses; test = test; body = body; finally = finally }

  for_parts : (clauses : List (Inside ForClause)) (test : Option (Bool × Inside Term)) (body : Inside Term) (finally : Option (Inside Term)) → for_lambdas (for_linked places (over_for C I T K F linked_one (a_for clauses test body finally))) ≡ Ls (for_lambdas (a_for clauses test body finally))
  for_parts clauses None body None = both (of_all clauses ++ of_second {A = Bool} {B = Term} None ++ body.1) (of_held {A = Term} None) _ _ (both (of_all clauses ++ of_second {A = Bool} {B = Term} None) body.1 _ _ (both (of_all clauses) (of_second {A = Bool} {B = Term} None) _ _ (all_carried (linked_clause places) clauses) (second_carried {X = Bool} {A = Term} (linked_term places) None)) refl) (held_carried {A = Term} (linked_term places) None)
  for_parts clauses None body (Some b) = both (of_all clauses ++ of_second {A = Bool} {B = Term} None ++ body.1) (of_held {A = Term} (Some b)) _ _ (both (of_all clauses ++ of_second {A = Bool} {B = Term} None) body.1 _ _ (both (of_all clauses) (of_second {A = Bool} {B = Term} None) _ _ (all_carried (linked_clause places) clauses) (second_carried {X = Bool} {A = Term} (linked_term places) None)) refl) (held_carried {A = Term} (linked_term places) (Some b))
  for_parts clauses (Some a) body None = both (of_all clauses ++ of_second {A = Bool} {B = Term} (Some a) ++ body.1) (of_held {A = Term} None) _ _ (both (of_all clauses ++ of_second {A = Bool} {B = Term} (Some a)) body.1 _ _ (both (of_all clauses) (of_second {A = Bool} {B = Term} (Some a)) _ _ (all_carried (linked_clause places) clauses) (second_carried {X = Bool} {A = Term} (linked_term places) (Some a))) refl) (held_carried {A = Term} (linked_term places) None)
  for_parts clauses (Some a) body (Some b) = both (of_all clauses ++ of_second {A = Bool} {B = Term} (Some a) ++ body.1) (of_held {A = Term} (Some b)) _ _ (both (of_all clauses ++ of_second {A = Bool} {B = Term} (Some a)) body.1 _ _ (both (of_all clauses) (of_second {A = Bool} {B = Term} (Some a)) _ _ (all_carried (linked_clause places) clauses) (second_carried {X = Bool} {A = Term} (linked_term places) (Some a))) refl) (held_carried {A = Term} (linked_term places) (Some b))

  for_carries : (x : ForRow-F (Inside ForClause) (Inside Item) (Inside Term) (Inside BlockRow) (Inside ForRow) (Inside Lambda)) → for_lambdas (for_linked places (over_for C I T K F linked_one x)) ≡ Ls (for_lambdas x)
  for_carries x = for_parts x.clauses x.test x.body x.finally

  lambda_carries : (x : Lambda-F (Inside ForClause) (Inside Item) (Inside Term) (Inside BlockRow) (Inside ForRow) (Inside Lambda)) → lambda_lambdas (lambda_linked places (over_lambda C I T K F linked_one x)) ≡ Ls (lambda_lambdas x)
  lambda_carries x = both (flat_map (λ (k : DyType × Inside Term). k.1.1) x.keywords) x.body.1 _ _ (keywords_carried (linked_term places) x.keywords) refl

  carries : Carries places clause_lambdas item_lambdas term_lambdas block_lambdas for_lambdas lambda_lambdas clause_lambdas item_lambdas term_lambdas block_lambdas for_lambdas lambda_lambdas Ls Ls Ls Ls Ls Ls
  carries = record {
    clause = clause_carries;
    item = item_carries;
    term = term_carries;
    block = block_carries;
    for = for_carries;
    lambda = lambda_carries;
  }

  pub inside_clause : (x : ForClause) → lambdas_in_clause (linked_clause places x) ≡ Ls (lambdas_in_clause x)
  inside_clause = carried_through_clause places clause_lambdas item_lambdas term_lambdas block_lambdas for_lambdas lambda_lambdas clause_lambdas item_lambdas term_lambdas block_lambdas for_lambdas lambda_lambdas Ls Ls Ls Ls Ls Ls carries

  pub inside_item : (x : Item) → lambdas_in_item (linked_item places x) ≡ Ls (lambdas_in_item x)
  inside_item = carried_through_item places clause_lambdas item_lambdas term_lambdas block_lambdas for_lambdas lambda_lambdas clause_lambdas item_lambdas term_lambdas block_lambdas for_lambdas lambda_lambdas Ls Ls Ls Ls Ls Ls carries

  pub inside_term : (x : Term) → lambdas_in (linked_term places x) ≡ Ls (lambdas_in x)
  inside_term = carried_through_term places clause_lambdas item_lambdas term_lambdas block_lambdas for_lambdas lambda_lambdas clause_lambdas item_lambdas term_lambdas block_lambdas for_lambdas lambda_lambdas Ls Ls Ls Ls Ls Ls carries

  pub within_lambda : (x : Lambda) → lambdas_within (linked_lambda places x) ≡ Ls (lambdas_within x)
  within_lambda = carried_through_lambda places clause_lambdas item_lambdas term_lambdas block_lambdas for_lambdas lambda_lambdas clause_lambdas item_lambdas term_lambdas block_lambdas for_lambdas lambda_lambdas Ls Ls Ls Ls Ls Ls carries

  -- so there are as many
  as_many : (xs ys : List Lambda) → xs ≡ Ls ys → length xs ≡ length ys
  as_many xs ys e = ap length e ∙ length-map ys (linked_lambda places)

  pub clause_count : (x : ForClause) → length (lambdas_in_clause (linked_clause places x)) ≡ length (lambdas_in_clause x)
  clause_count x = as_many _ (lambdas_in_clause x) (inside_clause x)

  pub item_count : (x : Item) → length (lambdas_in_item (linked_item places x)) ≡ length (lambdas_in_item x)
  item_count x = as_many _ (lambdas_in_item x) (inside_item x)

  pub term_count : (x : Term) → length (lambdas_in (linked_term places x)) ≡ length (lambdas_in x)
  term_count x = as_many _ (lambdas_in x) (inside_term x)

  pub inner_count : (x : Lambda) → length (with_inner (linked_lambda places x)) ≡ length (with_inner x)
  inner_count x = as_many (with_inner (linked_lambda places x)) (with_inner x) (λ j. linked_lambda places x ∷ within_lambda x j)
