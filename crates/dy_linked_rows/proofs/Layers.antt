-- Layers of terms whose parts are mapped: twice is once, and what a layer names itself is linked
-- before or after.
use Rattle.std.proofs.Common.{◌≡◌, ℕ, Bool, List, [], ◌∷◌, map, Option, Some, None, refl, sym, ap, ◌∙◌}
use Rattle.std.specs.Option.{option_map}
use Rattle.dy_term.specs.declared.types.DyType.{DyType}
use Rattle.dy_term.specs.declared.term.Limit.{Limit}
use Rattle.dy_term.specs.declared.term.ForClause.{ForClause-F, map-ForClause}
use Rattle.dy_term.specs.declared.term.Item.{Item-F, map-Item}
use Rattle.dy_term.specs.declared.term.Term.{Term-F, map-Term}
use Rattle.dy_term.specs.declared.term.BlockRow.{BlockRow-F, map-BlockRow}
use Rattle.dy_term.specs.declared.term.ForRow.{ForRow-F, map-ForRow}
use Rattle.dy_term.specs.declared.term.Lambda.{Lambda-F, map-Lambda}
use Rattle.dy_lowered.specs.Linking.{linked_type, linked_params, linked_results}
use Rattle.dy_linked_rows.specs.Terms.{typed, clause_linked, item_linked, term_linked, block_linked, for_linked, lambda_linked}
use Rattle.dy_linked_rows.proofs.Lists.{map_twice, option_twice}

module _ {C I T K F L C' I' T' K' F' L' : Type 0} (c : C → C') (i : I → I') (t : T → T') (k : K → K') (f : F → F') (l : L → L') where
  abbrev pub over_clause : ForClause-F C I T K F L → ForClause-F C' I' T' K' F' L'
  over_clause = map-ForClause _ _ _ _ _ _ _ _ _ _ _ _ c i t k f l

  abbrev pub over_item : Item-F C I T K F L → Item-F C' I' T' K' F' L'
  over_item = map-Item _ _ _ _ _ _ _ _ _ _ _ _ c i t k f l

  abbrev pub over_term : Term-F C I T K F L → Term-F C' I' T' K' F' L'
  over_term = map-Term _ _ _ _ _ _ _ _ _ _ _ _ c i t k f l

  abbrev pub over_block : BlockRow-F C I T K F L → BlockRow-F C' I' T' K' F' L'
  over_block = map-BlockRow _ _ _ _ _ _ _ _ _ _ _ _ c i t k f l

  abbrev pub over_for : ForRow-F C I T K F L → ForRow-F C' I' T' K' F' L'
  over_for = map-ForRow _ _ _ _ _ _ _ _ _ _ _ _ c i t k f l

  abbrev pub over_lambda : Lambda-F C I T K F L → Lambda-F C' I' T' K' F' L'
  over_lambda = map-Lambda _ _ _ _ _ _ _ _ _ _ _ _ c i t k f l

-- lists of pairs, arms with their values, and what may be given
pub pairs_twice : {A B D : Type 0} (g : B → D) (f : A → B) (xs : List (A × A)) → map {B = D × D} (λ (p : B × B). (g p.0, g p.1)) (map {B = B × B} (λ (p : A × A). (f p.0, f p.1)) xs) ≡ map {B = D × D} (λ (p : A × A). (g (f p.0), g (f p.1))) xs
pairs_twice g f [] = refl
pairs_twice g f (x ∷ xs) = ap (λ ys. (g (f x.0), g (f x.1)) ∷ ys) (pairs_twice g f xs)

pub arms_twice : {A B D : Type 0} (g : B → D) (f : A → B) (xs : List (List A × A)) → map {B = List D × D} (λ (p : List B × B). (map g p.0, g p.1)) (map {B = List B × B} (λ (p : List A × A). (map f p.0, f p.1)) xs) ≡ map {B = List D × D} (λ (p : List A × A). (map (λ y. g (f y)) p.0, g (f p.1))) xs
arms_twice g f [] = refl
arms_twice g f (x ∷ xs) = λ j. (map_twice g f x.0 j, g (f x.1)) ∷ arms_twice g f xs j

pub given_twice : {A B D : Type 0} (g : B → D) (f : A → B) (x : Option (List A)) → option_map (map g) (option_map (map f) x) ≡ option_map (map (λ y. g (f y))) x
given_twice g f None = refl
given_twice g f (Some xs) = ap Some (map_twice g f xs)

pub second_twice : {X A B D : Type 0} (g : B → D) (f : A → B) (x : Option (X × A)) → option_map {U = X × D} (λ (p : X × B). (p.0, g p.1)) (option_map {U = X × B} (λ (p : X × A). (p.0, f p.1)) x) ≡ option_map {U = X × D} (λ (p : X × A). (p.0, g (f p.1))) x
second_twice g f None = refl
second_twice g f (Some p) = refl

pub seconds_twice : {X A B D : Type 0} (g : B → D) (f : A → B) (xs : List (X × A)) → map {B = X × D} (λ (p : X × B). (p.0, g p.1)) (map {B = X × B} (λ (p : X × A). (p.0, f p.1)) xs) ≡ map {B = X × D} (λ (p : X × A). (p.0, g (f p.1))) xs
seconds_twice g f [] = refl
seconds_twice g f (x ∷ xs) = ap (λ ys. (x.0, g (f x.1)) ∷ ys) (seconds_twice g f xs)

pub caught_twice : {X Y A B D : Type 0} (g : B → D) (f : A → B) (xs : List (X × Y × A)) → map {B = X × Y × D} (λ (p : X × Y × B). (p.0, p.1, g p.2)) (map {B = X × Y × B} (λ (p : X × Y × A). (p.0, p.1, f p.2)) xs) ≡ map {B = X × Y × D} (λ (p : X × Y × A). (p.0, p.1, g (f p.2))) xs
caught_twice g f [] = refl
caught_twice g f (x ∷ xs) = ap (λ ys. (x.0, x.1, g (f x.2)) ∷ ys) (caught_twice g f xs)

-- twice is once
module _ {C I T K F L C' I' T' K' F' L' C'' I'' T'' K'' F'' L'' : Type 0}
    (c' : C' → C'') (i' : I' → I'') (t' : T' → T'') (k' : K' → K'') (f' : F' → F'') (l' : L' → L'')
    (c : C → C') (i : I → I') (t : T → T') (k : K → K') (f : F → F') (l : L → L') where
  pub clause_twice : (x : ForClause-F C I T K F L) → over_clause c' i' t' k' f' l' (over_clause c i t k f l x) ≡ over_clause (λ y. c' (c y)) (λ y. i' (i y)) (λ y. t' (t y)) (λ y. k' (k y)) (λ y. f' (f y)) (λ y. l' (l y)) x
  clause_twice (ForClause-F.Then local type start next) = refl
  clause_twice (ForClause-F.In local type collection) = refl
  clause_twice (ForClause-F.From local type start None None) = refl
  clause_twice (ForClause-F.From local type start None (Some step)) = refl
  clause_twice (ForClause-F.From local type start (Some limit) None) = refl
  clause_twice (ForClause-F.From local type start (Some limit) (Some step)) = refl

  pub item_twice : (x : Item-F C I T K F L) → over_item c' i' t' k' f' l' (over_item c i t k f l x) ≡ over_item (λ y. c' (c y)) (λ y. i' (i y)) (λ y. t' (t y)) (λ y. k' (k y)) (λ y. f' (f y)) (λ y. l' (l y)) x
  item_twice (Item-F.Run term) = refl
  item_twice (Item-F.Let locals rest term) = refl
  item_twice (Item-F.LetMethods methods) = ap Item-F.LetMethods (seconds_twice {X = ℕ} l' l methods)
  item_twice (Item-F.Handler type function) = refl

  pub term_twice : (x : Term-F C I T K F L) → over_term c' i' t' k' f' l' (over_term c i t k f l x) ≡ over_term (λ y. c' (c y)) (λ y. i' (i y)) (λ y. t' (t y)) (λ y. k' (k y)) (λ y. f' (f y)) (λ y. l' (l y)) x
  term_twice (Term-F.Lit value) = refl
  term_twice (Term-F.Local local) = refl
  term_twice (Term-F.Global binding) = refl
  term_twice (Term-F.ClassName class) = refl
  term_twice (Term-F.GenericName generic) = refl
  term_twice (Term-F.SetLocal local term) = refl
  term_twice (Term-F.SetGlobal binding term) = refl
  term_twice (Term-F.Call function terms) = λ j. Term-F.Call (t' (t function)) (map_twice t' t terms j)
  term_twice (Term-F.Site generic terms) = λ j. Term-F.Site generic (map_twice t' t terms j)
  term_twice (Term-F.Cond branches other) = λ j. Term-F.Cond (pairs_twice t' t branches j) (t' (t other))
  term_twice (Term-F.And left right) = refl
  term_twice (Term-F.Or left right) = refl
  term_twice (Term-F.Select value None arms None) = λ j. Term-F.Select (t' (t value)) None (arms_twice t' t arms j) None
  term_twice (Term-F.Select value None arms (Some last)) = λ j. Term-F.Select (t' (t value)) None (arms_twice t' t arms j) (Some (t' (t last)))
  term_twice (Term-F.Select value (Some test) arms None) = λ j. Term-F.Select (t' (t value)) (Some (t' (t test))) (arms_twice t' t arms j) None
  term_twice (Term-F.Select value (Some test) arms (Some last)) = λ j. Term-F.Select (t' (t value)) (Some (t' (t test))) (arms_twice t' t arms j) (Some (t' (t last)))
  term_twice (Term-F.Body items) = λ j. Term-F.Body (map_twice i' i items j)
  term_twice (Term-F.Loop test inner) = refl
  term_twice (Term-F.For row) = refl
  term_twice (Term-F.Method lambda) = refl
  term_twice (Term-F.Block row) = refl
  term_twice (Term-F.Op operation terms) = λ j. Term-F.Op operation (map_twice t' t terms j)
  term_twice (Term-F.Next None) = refl
  term_twice (Term-F.Next (Some terms)) = λ j. Term-F.Next (Some (map_twice t' t terms j))

  pub block_twice : (x : BlockRow-F C I T K F L) → over_block c' i' t' k' f' l' (over_block c i t k f l x) ≡ over_block (λ y. c' (c y)) (λ y. i' (i y)) (λ y. t' (t y)) (λ y. k' (k y)) (λ y. f' (f y)) (λ y. l' (l y)) x
  block_twice x = block_parts x.exit x.body x.afterwards x.cleanup x.clauses
    where
      block_parts : (exit : Option ℕ) (body : T) (afterwards cleanup : Option T) (clauses : List (Option ℕ × DyType × T)) → over_block c' i' t' k' f' l' (over_block c i t k f l (record { exit = exit; body = body; afterwards = afterwards; cleanup = cleanup; clauses = clauses }))
          ≡ over_block (λ y. c' (c y)) (λ y. i' (i y)) (λ y. t' (t y)) (λ y. k' (k y)) (λ y. f' (f y)) (λ y. l' (l y)) (record { exit = exit; body = body; afterwards = afterwards; cleanup = cleanup; clauses = clauses })
      block_parts exit body None None clauses = λ j. record { exit = exit; body = t' (t body); afterwards = None; cleanup = None; clauses = caught_twice {X = Option ℕ} {Y = DyType} t' t clauses j }
      block_parts exit body None (Some b) clauses = λ j. record { exit = exit; body = t' (t body); afterwards = None; cleanup = Some (t' (t b)); clauses = caught_twice {X = Option ℕ} {Y = DyType} t' t clauses j }
      block_parts exit body (Some a) None clauses = λ j. record { exit = exit; body = t' (t body); afterwards = Some (t' (t a)); cleanup = None; clauses = caught_twice {X = Option ℕ} {Y = DyType} t' t clauses j }
      block_parts exit body (Some a) (Some b) clauses = λ j. record { exit = exit; body = t' (t body); afterwards = Some (t' (t a)); cleanup = Some (t' (t b)); clauses = caught_twice {X = Option ℕ} {Y = DyType} t' t clauses j }

  pub for_twice : (x : ForRow-F C I T K F L) → over_for c' i' t' k' f' l' (over_for c i t k f l x) ≡ over_for (λ y. c' (c y)) (λ y. i' (i y)) (λ y. t' (t y)) (λ y. k' (k y)) (λ y. f' (f y)) (λ y. l' (l y)) x
  for_twice x = for_parts x.clauses x.test x.body x.finally
    where
      for_parts : (clauses : List C) (test : Option (Bool × T)) (body : T) (finally : Option T) → over_for c' i' t' k' f' l' (over_for c i t k f l (record { clauses = clauses; test = test; body = body; finally = finally }))
          ≡ over_for (λ y. c' (c y)) (λ y. i' (i y)) (λ y. t' (t y)) (λ y. k' (k y)) (λ y. f' (f y)) (λ y. l' (l y)) (record { clauses = clauses; test = test; body = body; finally = finally })
      for_parts clauses None body None = λ j. record { clauses = map_twice c' c clauses j; test = None; body = t' (t body); finally = None }
      for_parts clauses None body (Some b) = λ j. record { clauses = map_twice c' c clauses j; test = None; body = t' (t body); finally = Some (t' (t b)) }
      for_parts clauses (Some a) body None = λ j. record { clauses = map_twice c' c clauses j; test = Some (a.0, t' (t a.1)); body = t' (t body); finally = None }
      for_parts clauses (Some a) body (Some b) = λ j. record { clauses = map_twice c' c clauses j; test = Some (a.0, t' (t a.1)); body = t' (t body); finally = Some (t' (t b)) }

  pub lambda_twice : (x : Lambda-F C I T K F L) → over_lambda c' i' t' k' f' l' (over_lambda c i t k f l x) ≡ over_lambda (λ y. c' (c y)) (λ y. i' (i y)) (λ y. t' (t y)) (λ y. k' (k y)) (λ y. f' (f y)) (λ y. l' (l y)) x
  lambda_twice x = λ j. record {
    params = x.params;
    keywords = seconds_twice {X = DyType} t' t x.keywords j;
    next = x.next;
    first = x.first;
    locals = x.locals;
    body = t' (t x.body);
    results = x.results;
  }

-- before or after
caught_over : {X A B : Type 0} (places : ℕ → ℕ) (f : A → B) (xs : List (X × DyType × A)) → map {B = X × DyType × B} (λ (p : X × DyType × A). (p.0, p.1, f p.2)) (map {B = X × DyType × A} (λ (p : X × DyType × A). (p.0, linked_type places p.1, p.2)) xs) ≡ map {B = X × DyType × B} (λ (p : X × DyType × B). (p.0, linked_type places p.1, p.2)) (map {B = X × DyType × B} (λ (p : X × DyType × A). (p.0, p.1, f p.2)) xs)
caught_over places f [] = refl
caught_over places f (x ∷ xs) = ap (λ ys. (x.0, linked_type places x.1, f x.2) ∷ ys) (caught_over places f xs)

keywords_over : {A B : Type 0} (places : ℕ → ℕ) (f : A → B) (xs : List (DyType × A)) → map {B = DyType × B} (λ (p : DyType × A). (p.0, f p.1)) (map (typed places) xs) ≡ map (typed places) (map {B = DyType × B} (λ (p : DyType × A). (p.0, f p.1)) xs)
keywords_over places f [] = refl
keywords_over places f (x ∷ xs) = ap (λ ys. (linked_type places x.0, f x.1) ∷ ys) (keywords_over places f xs)

module _ (places : ℕ → ℕ) {C I T K F L C' I' T' K' F' L' : Type 0} (c : C → C') (i : I → I') (t : T → T') (k : K → K') (f : F → F') (l : L → L') where
  pub clause_over : (x : ForClause-F C I T K F L) → over_clause c i t k f l (clause_linked places x) ≡ clause_linked places (over_clause c i t k f l x)
  clause_over (ForClause-F.Then local type start next) = refl
  clause_over (ForClause-F.In local type collection) = refl
  clause_over (ForClause-F.From local type start limit step) = refl

  pub item_over : (x : Item-F C I T K F L) → over_item c i t k f l (item_linked places x) ≡ item_linked places (over_item c i t k f l x)
  item_over (Item-F.Run term) = refl
  item_over (Item-F.Let locals rest term) = refl
  item_over (Item-F.LetMethods methods) = refl
  item_over (Item-F.Handler type function) = refl

  pub term_over : (x : Term-F C I T K F L) → over_term c i t k f l (term_linked places x) ≡ term_linked places (over_term c i t k f l x)
  term_over (Term-F.Lit value) = refl
  term_over (Term-F.Local local) = refl
  term_over (Term-F.Global binding) = refl
  term_over (Term-F.ClassName class) = refl
  term_over (Term-F.GenericName generic) = refl
  term_over (Term-F.SetLocal local term) = refl
  term_over (Term-F.SetGlobal binding term) = refl
  term_over (Term-F.Call function terms) = refl
  term_over (Term-F.Site generic terms) = refl
  term_over (Term-F.Cond branches other) = refl
  term_over (Term-F.And left right) = refl
  term_over (Term-F.Or left right) = refl
  term_over (Term-F.Select value test arms last) = refl
  term_over (Term-F.Body items) = refl
  term_over (Term-F.Loop test inner) = refl
  term_over (Term-F.For row) = refl
  term_over (Term-F.Method lambda) = refl
  term_over (Term-F.Block row) = refl
  term_over (Term-F.Op operation terms) = refl
  term_over (Term-F.Next terms) = refl

  pub block_over : (x : BlockRow-F C I T K F L) → over_block c i t k f l (block_linked places x) ≡ block_linked places (over_block c i t k f l x)
  block_over x = λ j. record {
    exit = x.exit;
    body = t x.body;
    afterwards = (over_block c i t k f l x).afterwards;
    cleanup = (over_block c i t k f l x).cleanup;
    clauses = caught_over {X = Option ℕ} places t x.clauses j;
  }

  pub for_over : (x : ForRow-F C I T K F L) → over_for c i t k f l (for_linked places x) ≡ for_linked places (over_for c i t k f l x)
  for_over x = refl

  pub lambda_over : (x : Lambda-F C I T K F L) → over_lambda c i t k f l (lambda_linked places x) ≡ lambda_linked places (over_lambda c i t k f l x)
  lambda_over x = λ j. record {
    params = linked_params places x.params;
    keywords = keywords_over places t x.keywords j;
    next = x.next;
    first = x.first;
    locals = x.locals;
    body = t x.body;
    results = linked_results places x.results;
  }
