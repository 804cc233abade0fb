-- Where a renumbering leaves each library as it is that a term mentions, the linked term is the term.
use Rattle.std.proofs.Common.{◌≡◌, ℕ, Bool, List, [], ◌∷◌, ◌++◌, map, Option, Some, None, refl, sym, ap, ◌∙◌, subst}
use Rattle.std.specs.Prelude.{flat_map}
use Rattle.std.specs.Option.{option_map}
use Rattle.dy_base.specs.declared.ids.Ref.{Ref}
use Rattle.dy_base.specs.declared.ids.BindingId.{BindingId}
use Rattle.dy_base.specs.declared.ids.ClassId.{ClassId}
use Rattle.dy_base.specs.declared.ids.GenericId.{GenericId}
use Rattle.dy_term.specs.declared.types.Member.{Member}
use Rattle.dy_term.specs.declared.types.Member.TheVariants as members
use Rattle.dy_term.specs.declared.types.DyType.{DyType}
use Rattle.dy_term.specs.declared.types.Params.{Params}
use Rattle.dy_term.specs.declared.types.Results.{Results}
use Rattle.dy_term.specs.declared.term.Limit.{Limit}
use Rattle.dy_term.specs.declared.term.ForClause.{ForClause, ForClause-F, roll-ForClause, fold-ForClause, fold-roll-ForClause}
use Rattle.dy_term.specs.declared.term.Item.{Item, Item-F, roll-Item, fold-Item, fold-roll-Item}
use Rattle.dy_term.specs.declared.term.Term.{Term, Term-F, roll-Term, fold-Term, fold-roll-Term}
use Rattle.dy_term.specs.declared.term.BlockRow.{BlockRow, BlockRow-F, roll-BlockRow, fold-BlockRow, fold-roll-BlockRow}
use Rattle.dy_term.specs.declared.term.ForRow.{ForRow, ForRow-F, roll-ForRow, fold-ForRow, fold-roll-ForRow}
use Rattle.dy_term.specs.declared.term.Lambda.{Lambda, Lambda-F, roll-Lambda, fold-Lambda, fold-roll-Lambda}
use Rattle.dy_term.specs.declared.rows.Init.{Init}
use Rattle.dy_term.specs.declared.rows.Init.TheVariants.{Each, Calling}
use Rattle.dy_term.specs.declared.rows.MethodCode.{MethodCode}
use Rattle.dy_term.specs.declared.rows.MethodCode.TheVariants.{Dylan, Getter, Setter, Builtin}
use Rattle.dy_term.specs.declared.rows.MethodRow.{MethodRow}
use Rattle.dy_term.specs.declared.rows.SlotRow.{SlotRow}
use Rattle.dy_term.specs.declared.rows.VariableRow.{VariableRow}
use Rattle.dy_term.specs.declared.rows.TopTerm.{TopTerm}
use Rattle.dy_term.specs.declared.rows.TopTerm.TheVariants as tops
use Rattle.dy_term.specs.declared.rows.LibraryRow.{LibraryRow}
use Rattle.dy_code.specs.Validity.{Every}
use Rattle.dy_meaning.proofs.Induction.{Clauses_with, Items_with, Terms_with, Blocks_with, Fors_with, Lambdas_with, clause_of, item_of, term_of, block_of, for_of, lambda_of}
use Rattle.dy_lowered.specs.Linking.{linked_ref, linked_name, linked_class, linked_member, linked_type, linked_params, linked_results}
use Rattle.dy_linked_rows.specs.Terms.{linked_generic, typed, clause_linked, item_linked, term_linked, block_linked, for_linked, lambda_linked, linked_clause, linked_item, linked_term, linked_block, linked_for, linked_lambda}
use Rattle.dy_linked_rows.specs.Rows.{linked_init, linked_method_code, linked_form}
use Rattle.dy_linked_rows.specs.Mentioned.{in_member, in_type, in_held_type, in_params, in_results, in_all, in_held, in_second, in_given, clause_mentions, item_mentions, term_mentions, block_mentions, for_mentions, lambda_mentions, in_term, in_lambda, in_init, in_code, in_function, in_form, mentioned}
use Rattle.dy_lowered.specs.Bodies.{all_slots}
use Rattle.dy_linked_rows.proofs.Every.{every_first, every_last}
use Rattle.dy_linked_rows.proofs.Layers.{over_clause, over_item, over_term, over_block, over_for, over_lambda}
use Rattle.dy_linked_rows.proofs.Folding.{by_term, by_lambda}
use Rattle.dy_linked_rows.proofs.Bodies.{Parts, parts_of, linked_parts}

-- what the other terms mention
abbrev in_clause : ForClause → List ℕ
in_clause = fold-ForClause (List ℕ) (List ℕ) (List ℕ) (List ℕ) (List ℕ) (List ℕ) clause_mentions item_mentions term_mentions block_mentions for_mentions lambda_mentions

abbrev in_item : Item → List ℕ
in_item = fold-Item (List ℕ) (List ℕ) (List ℕ) (List ℕ) (List ℕ) (List ℕ) clause_mentions item_mentions term_mentions block_mentions for_mentions lambda_mentions

abbrev in_block : BlockRow → List ℕ
in_block = fold-BlockRow (List ℕ) (List ℕ) (List ℕ) (List ℕ) (List ℕ) (List ℕ) clause_mentions item_mentions term_mentions block_mentions for_mentions lambda_mentions

abbrev in_for : ForRow → List ℕ
in_for = fold-ForRow (List ℕ) (List ℕ) (List ℕ) (List ℕ) (List ℕ) (List ℕ) clause_mentions item_mentions term_mentions block_mentions for_mentions lambda_mentions

module _ (r : ℕ → ℕ) where
  abbrev Fixed : ℕ → Type 0
  Fixed library = r library ≡ library

  abbrev All : List ℕ → Type 0
  All libraries = Every Fixed libraries

  -- references
  name_fixed : (named : BindingId) → Fixed named.at.library → linked_name r named ≡ named
  name_fixed named h = λ j. record { what = named.what; at = record { library = h j; row = named.at.row } }

  class_fixed : (class : ClassId) → Fixed class.0.library → linked_class r class ≡ class
  class_fixed class h = λ j. record { 0 = record { library = h j; row = class.0.row } }

  generic_fixed : (generic : GenericId) → Fixed generic.0.library → linked_generic r generic ≡ generic
  generic_fixed generic h = λ j. record { 0 = record { library = h j; row = generic.0.row } }

  member_fixed : (member : Member) → All (in_member member) → linked_member r member ≡ member
  member_fixed (members.Class class) h = ap members.Class (class_fixed class h.0)
  member_fixed (members.SingleClass class) h = ap members.SingleClass (class_fixed class h.0)
  member_fixed (members.Single value) h = refl
  member_fixed (members.Range least greatest) h = refl

  -- what is joined from parts
  parts_fixed : {A : Type 0} (f : A → A) (g : A → List ℕ) → ((x : A) → All (g x) → f x ≡ x) → (xs : List A) → All (flat_map g xs) → map f xs ≡ xs
  parts_fixed f g one [] h = refl
  parts_fixed f g one (x ∷ xs) h = λ j. one x (every_first Fixed (g x) (flat_map g xs) h) j ∷ parts_fixed f g one xs (every_last Fixed (g x) (flat_map g xs) h) j

  type_fixed : (type : DyType) → All (in_type type) → linked_type r type ≡ type
  type_fixed type h = λ j. record { members = parts_fixed (linked_member r) in_member member_fixed type.members h j }

  types_fixed : (types : List DyType) → All (flat_map in_type types) → map (linked_type r) types ≡ types
  types_fixed = parts_fixed (linked_type r) in_type type_fixed

  held_type_fixed : (type : Option DyType) → All (in_held_type type) → option_map (linked_type r) type ≡ type
  held_type_fixed None h = refl
  held_type_fixed (Some type) h = ap Some (type_fixed type h)

  params_fixed : (params : Params) → All (in_params params) → linked_params r params ≡ params
  params_fixed params h = λ j. record { required = types_fixed params.required h j; rest = params.rest; keys = params.keys; all_keys = params.all_keys }

  results_fixed : (results : Results) → All (in_results results) → linked_results r results ≡ results
  results_fixed results h =
      let one = every_first Fixed (flat_map in_type results.required) (in_held_type results.rest) h in
      let two = every_last Fixed (flat_map in_type results.required) (in_held_type results.rest) h in
      λ j. record { required = types_fixed results.required one j; rest = held_type_fixed results.rest two j }

  locals_fixed : (locals : List (ℕ × DyType)) → All (flat_map (λ (l : ℕ × DyType). in_type l.1) locals) → map (λ (l : ℕ × DyType). (l.0, linked_type r l.1)) locals ≡ locals
  locals_fixed = parts_fixed (λ (l : ℕ × DyType). (l.0, linked_type r l.1)) (λ (l : ℕ × DyType). in_type l.1) (λ l h j. (l.0, type_fixed l.1 h j))

  abbrev C : ForClause → Type 0
  C x = All (in_clause x) → linked_clause r x ≡ x

  abbrev I : Item → Type 0
  I x = All (in_item x) → linked_item r x ≡ x

  abbrev T : Term → Type 0
  T x = All (in_term x) → linked_term r x ≡ x

  abbrev K : BlockRow → Type 0
  K x = All (in_block x) → linked_block r x ≡ x

  abbrev F : ForRow → Type 0
  F x = All (in_for x) → linked_for r x ≡ x

  abbrev L : Lambda → Type 0
  L x = All (in_lambda x) → linked_lambda r x ≡ x

  from_clause : (x : ForClause-F ForClause Item Term BlockRow ForRow Lambda) → (All (clause_mentions (over_clause in_clause in_item in_term in_block in_for in_lambda x)) → clause_linked r (over_clause (linked_clause r) (linked_item r) (linked_term r) (linked_block r) (linked_for r) (linked_lambda r) x) ≡ x) → C (roll-ForClause x)
  from_clause x one h = fold-roll-ForClause _ _ _ _ _ _ _ _ _ _ _ _ x ∙ ap roll-ForClause (one (subst All (fold-roll-ForClause _ _ _ _ _ _ _ _ _ _ _ _ x) h))

  from_item : (x : Item-F ForClause Item Term BlockRow ForRow Lambda) → (All (item_mentions (over_item in_clause in_item in_term in_block in_for in_lambda x)) → item_linked r (over_item (linked_clause r) (linked_item r) (linked_term r) (linked_block r) (linked_for r) (linked_lambda r) x) ≡ x) → I (roll-Item x)
  from_item x one h = fold-roll-Item _ _ _ _ _ _ _ _ _ _ _ _ x ∙ ap roll-Item (one (subst All (fold-roll-Item _ _ _ _ _ _ _ _ _ _ _ _ x) h))

  from_term : (x : Term-F ForClause Item Term BlockRow ForRow Lambda) → (All (term_mentions (over_term in_clause in_item in_term in_block in_for in_lambda x)) → term_linked r (over_term (linked_clause r) (linked_item r) (linked_term r) (linked_block r) (linked_for r) (linked_lambda r) x) ≡ x) → T (roll-Term x)
  from_term x one h = fold-roll-Term _ _ _ _ _ _ _ _ _ _ _ _ x ∙ ap roll-Term (one (subst All (fold-roll-Term _ _ _ _ _ _ _ _ _ _ _ _ x) h))

  from_block : (x : BlockRow-F ForClause Item Term BlockRow ForRow Lambda) → (All (block_mentions (over_block in_clause in_item in_term in_block in_for in_lambda x)) → block_linked r (over_block (linked_clause r) (linked_item r) (linked_term r) (linked_block r) (linked_for r) (linked_lambda r) x) ≡ x) → K (roll-BlockRow x)
  from_block x one h = fold-roll-BlockRow _ _ _ _ _ _ _ _ _ _ _ _ x ∙ ap roll-BlockRow (one (subst All (fold-roll-BlockRow _ _ _ _ _ _ _ _ _ _ _ _ x) h))

  from_for : (x : ForRow-F ForClause Item Term BlockRow ForRow Lambda) → (All (for_mentions (over_for in_clause in_item in_term in_block in_for in_lambda x)) → for_linked r (over_for (linked_clause r) (linked_item r) (linked_term r) (linked_block r) (linked_for r) (linked_lambda r) x) ≡ x) → F (roll-ForRow x)
  from_for x one h = fold-roll-ForRow _ _ _ _ _ _ _ _ _ _ _ _ x ∙ ap roll-ForRow (one (subst All (fold-roll-ForRow _ _ _ _ _ _ _ _ _ _ _ _ x) h))

  from_lambda : (x : Lambda-F ForClause Item Term BlockRow ForRow Lambda) → (All (lambda_mentions (over_lambda in_clause in_item in_term in_block in_for in_lambda x)) → lambda_linked r (over_lambda (linked_clause r) (linked_item r) (linked_term r) (linked_block r) (linked_for r) (linked_lambda r) x) ≡ x) → L (roll-Lambda x)
  from_lambda x one h = fold-roll-Lambda _ _ _ _ _ _ _ _ _ _ _ _ x ∙ ap roll-Lambda (one (subst All (fold-roll-Lambda _ _ _ _ _ _ _ _ _ _ _ _ x) h))

  abbrev A_clause : Type 0
  A_clause = Clauses_with C I T K F L

  abbrev An_item : Type 0
  An_item = Items_with C I T K F L

  abbrev A_term : Type 0
  A_term = Terms_with C I T K F L

  abbrev A_block : Type 0
  A_block = Blocks_with C I T K F L

  abbrev A_for : Type 0
  A_for = Fors_with C I T K F L

  abbrev A_lambda : Type 0
  A_lambda = Lambdas_with C I T K F L

  -- lists of parts
  abbrev terms : List A_term → List Term
  terms ys = map (λ y. y.0) ys

  list_fixed : (ys : List A_term) → All (in_all (map in_term (terms ys))) → map (linked_term r) (terms ys) ≡ terms ys
  list_fixed [] h = refl
  list_fixed (y ∷ ys) h =
      let rest = in_all (map in_term (terms ys)) in
      λ j. y.1 (every_first Fixed (in_term y.0) rest h) j ∷ list_fixed ys (every_last Fixed (in_term y.0) rest h) j

  items_fixed : (ys : List An_item) → All (in_all (map in_item (map (λ y. y.0) ys))) → map (linked_item r) (map (λ y. y.0) ys) ≡ map (λ y. y.0) ys
  items_fixed [] h = refl
  items_fixed (y ∷ ys) h =
      let rest = in_all (map in_item (map (λ y. y.0) ys)) in
      λ j. y.1 (every_first Fixed (in_item y.0) rest h) j ∷ items_fixed ys (every_last Fixed (in_item y.0) rest h) j

  clauses_fixed : (ys : List A_clause) → All (in_all (map in_clause (map (λ y. y.0) ys))) → map (linked_clause r) (map (λ y. y.0) ys) ≡ map (λ y. y.0) ys
  clauses_fixed [] h = refl
  clauses_fixed (y ∷ ys) h =
      let rest = in_all (map in_clause (map (λ y. y.0) ys)) in
      λ j. y.1 (every_first Fixed (in_clause y.0) rest h) j ∷ clauses_fixed ys (every_last Fixed (in_clause y.0) rest h) j

  abbrev A_pair : Type 0
  A_pair = A_term × A_term

  abbrev pairs : List A_pair → List (Term × Term)
  pairs ys = map (λ (y : A_pair). (y.0.0, y.1.0)) ys

  abbrev in_pairs : List A_pair → List ℕ
  in_pairs ys = flat_map (λ (b : List ℕ × List ℕ). b.0 ++ b.1) (map (λ (p : Term × Term). (in_term p.0, in_term p.1)) (pairs ys))

  pairs_fixed : (ys : List A_pair) → All (in_pairs ys) → map (λ (p : Term × Term). (linked_term r p.0, linked_term r p.1)) (pairs ys) ≡ pairs ys
  pairs_fixed [] h = refl
  pairs_fixed (y ∷ ys) h =
      let one = every_first Fixed (in_term y.0.0 ++ in_term y.1.0) (in_pairs ys) h in
      let a = every_first Fixed (in_term y.0.0) (in_term y.1.0) one in
      let b = every_last Fixed (in_term y.0.0) (in_term y.1.0) one in
      λ j. (y.0.1 a j, y.1.1 b j) ∷ pairs_fixed ys (every_last Fixed (in_term y.0.0 ++ in_term y.1.0) (in_pairs ys) h) j

  abbrev An_arm : Type 0
  An_arm = List A_term × A_term

  abbrev arms : List An_arm → List (List Term × Term)
  arms ys = map (λ (y : An_arm). (map (λ z. z.0) y.0, y.1.0)) ys

  abbrev in_arms : List An_arm → List ℕ
  in_arms ys = flat_map (λ (a : List (List ℕ) × List ℕ). in_all a.0 ++ a.1) (map (λ (p : List Term × Term). (map in_term p.0, in_term p.1)) (arms ys))

  arms_fixed : (ys : List An_arm) → All (in_arms ys) → map (λ (p : List Term × Term). (map (linked_term r) p.0, linked_term r p.1)) (arms ys) ≡ arms ys
  arms_fixed [] h = refl
  arms_fixed (y ∷ ys) h =
      let values = in_all (map in_term (terms y.0)) in
      let one = every_first Fixed (values ++ in_term y.1.0) (in_arms ys) h in
      let a = every_first Fixed values (in_term y.1.0) one in
      let b = every_last Fixed values (in_term y.1.0) one in
      λ j. (list_fixed y.0 a j, y.1.1 b j) ∷ arms_fixed ys (every_last Fixed (values ++ in_term y.1.0) (in_arms ys) h) j

  abbrev held : Option A_term → Option Term
  held y = option_map (λ y. y.0) y

  held_fixed : (y : Option A_term) → All (in_held (option_map in_term (held y))) → option_map (linked_term r) (held y) ≡ held y
  held_fixed None h = refl
  held_fixed (Some y) h = ap Some (y.1 h)

  second_fixed : {X : Type 0} (y : Option (X × A_term)) → All (in_second {A = X} (option_map {U = X × List ℕ} (λ (p : X × Term). (p.0, in_term p.1)) (option_map {U = X × Term} (λ (p : X × A_term). (p.0, p.1.0)) y)))
      → option_map {U = X × Term} (λ (p : X × Term). (p.0, linked_term r p.1)) (option_map {U = X × Term} (λ (p : X × A_term). (p.0, p.1.0)) y) ≡ option_map {U = X × Term} (λ (p : X × A_term). (p.0, p.1.0)) y
  second_fixed None h = refl
  second_fixed (Some y) h = λ j. Some (y.0, y.1.1 h j)

  given_fixed : (y : Option (List A_term)) → All (in_given (option_map (map in_term) (option_map (map (λ z. z.0)) y))) → option_map (map (linked_term r)) (option_map (map (λ z. z.0)) y) ≡ option_map (map (λ z. z.0)) y
  given_fixed None h = refl
  given_fixed (Some ys) h = ap Some (list_fixed ys h)

  abbrev A_method : Type 0
  A_method = ℕ × A_lambda

  abbrev methods : List A_method → List (ℕ × Lambda)
  methods ys = map (λ (y : A_method). (y.0, y.1.0)) ys

  abbrev in_methods : List A_method → List ℕ
  in_methods ys = flat_map (λ (m : ℕ × List ℕ). m.1) (map (λ (m : ℕ × Lambda). (m.0, in_lambda m.1)) (methods ys))

  methods_fixed : (ys : List A_method) → All (in_methods ys) → map (λ (m : ℕ × Lambda). (m.0, linked_lambda r m.1)) (methods ys) ≡ methods ys
  methods_fixed [] h = refl
  methods_fixed (y ∷ ys) h =
      let a = every_first Fixed (in_lambda y.1.0) (in_methods ys) h in
      λ j. (y.0, y.1.1 a j) ∷ methods_fixed ys (every_last Fixed (in_lambda y.1.0) (in_methods ys) h) j

  abbrev A_keyword : Type 0
  A_keyword = DyType × A_term

  abbrev keywords : List A_keyword → List (DyType × Term)
  keywords ys = map (λ (y : A_keyword). (y.0, y.1.0)) ys

  abbrev in_keywords : List A_keyword → List ℕ
  in_keywords ys = flat_map (λ (k : DyType × List ℕ). in_type k.0 ++ k.1) (map (λ (p : DyType × Term). (p.0, in_term p.1)) (keywords ys))

  keywords_fixed : (ys : List A_keyword) → All (in_keywords ys) → map (typed r) (map (λ (p : DyType × Term). (p.0, linked_term r p.1)) (keywords ys)) ≡ keywords ys
  keywords_fixed [] h = refl
  keywords_fixed (y ∷ ys) h =
      let one = every_first Fixed (in_type y.0 ++ in_term y.1.0) (in_keywords ys) h in
      let a = every_first Fixed (in_type y.0) (in_term y.1.0) one in
      let b = every_last Fixed (in_type y.0) (in_term y.1.0) one in
      λ j. (type_fixed y.0 a j, y.1.1 b j) ∷ keywords_fixed ys (every_last Fixed (in_type y.0 ++ in_term y.1.0) (in_keywords ys) h) j

  abbrev A_catch : Type 0
  A_catch = Option ℕ × DyType × A_term

  abbrev catches : List A_catch → List (Option ℕ × DyType × Term)
  catches ys = map (λ (y : A_catch). (y.0, y.1, y.2.0)) ys

  abbrev in_catches : List A_catch → List ℕ
  in_catches ys = flat_map (λ (c : Option ℕ × DyType × List ℕ). in_type c.1 ++ c.2) (map (λ (p : Option ℕ × DyType × Term). (p.0, p.1, in_term p.2)) (catches ys))

  catches_fixed : (ys : List A_catch) → All (in_catches ys)
      → map (λ (c : Option ℕ × DyType × Term). (c.0, linked_type r c.1, c.2)) (map (λ (p : Option ℕ × DyType × Term). (p.0, p.1, linked_term r p.2)) (catches ys)) ≡ catches ys
  catches_fixed [] h = refl
  catches_fixed (y ∷ ys) h =
      let one = every_first Fixed (in_type y.1 ++ in_term y.2.0) (in_catches ys) h in
      let a = every_first Fixed (in_type y.1) (in_term y.2.0) one in
      let b = every_last Fixed (in_type y.1) (in_term y.2.0) one in
      λ j. (y.0, type_fixed y.1 a j, y.2.1 b j) ∷ catches_fixed ys (every_last Fixed (in_type y.1 ++ in_term y.2.0) (in_catches ys) h) j

  -- layers
  both_fixed : (a b : A_term) → All (in_term a.0 ++ in_term b.0) → (linked_term r a.0 ≡ a.0) × (linked_term r b.0 ≡ b.0)
  both_fixed a b h = (a.1 (every_first Fixed (in_term a.0) (in_term b.0) h), b.1 (every_last Fixed (in_term a.0) (in_term b.0) h))

  clause_fixed : (y : ForClause-F A_clause An_item A_term A_block A_for A_lambda) → C (clause_of C I T K F L y)
  clause_fixed (ForClause-F.Then local type a b) = from_clause _ (λ h.
      let t = type_fixed type (every_first Fixed (in_type type) (in_term a.0 ++ in_term b.0) h) in
      let e = both_fixed a b (every_last Fixed (in_type type) (in_term a.0 ++ in_term b.0) h) in
      λ j. ForClause-F.Then local (t j) (e.0 j) (e.1 j))
  clause_fixed (ForClause-F.In local type a) = from_clause _ (λ h.
      let t = type_fixed type (every_first Fixed (in_type type) (in_term a.0) h) in
      let e = a.1 (every_last Fixed (in_type type) (in_term a.0) h) in
      λ j. ForClause-F.In local (t j) (e j))
  clause_fixed (ForClause-F.From local type a None None) = from_clause _ (λ h.
      let limits = in_second {A = Limit} (option_map (λ (p : Limit × Term). (p.0, in_term p.1)) (option_map (λ (p : Limit × A_term). (p.0, p.1.0)) None)) in
      let steps = in_held (option_map in_term (held None)) in
      let t = type_fixed type (every_first Fixed (in_type type) (in_term a.0 ++ (limits ++ steps)) h) in
      let b = every_last Fixed (in_type type) (in_term a.0 ++ (limits ++ steps)) h in
      let c = every_last Fixed (in_term a.0) (limits ++ steps) b in
      let e = a.1 (every_first Fixed (in_term a.0) (limits ++ steps) b) in
      let f = second_fixed {X = Limit} None (every_first Fixed limits steps c) in
      let g = held_fixed None (every_last Fixed limits steps c) in
      λ j. ForClause-F.From local (t j) (e j) (f j) (g j))
  clause_fixed (ForClause-F.From local type a None (Some step)) = from_clause _ (λ h.
      let limits = in_second {A = Limit} (option_map (λ (p : Limit × Term). (p.0, in_term p.1)) (option_map (λ (p : Limit × A_term). (p.0, p.1.0)) None)) in
      let steps = in_held (option_map in_term (held (Some step))) in
      let t = type_fixed type (every_first Fixed (in_type type) (in_term a.0 ++ (limits ++ steps)) h) in
      let b = every_last Fixed (in_type type) (in_term a.0 ++ (limits ++ steps)) h in
      let c = every_last Fixed (in_term a.0) (limits ++ steps) b in
      let e = a.1 (every_first Fixed (in_term a.0) (limits ++ steps) b) in
      let f = second_fixed {X = Limit} None (every_first Fixed limits steps c) in
      let g = held_fixed (Some step) (every_last Fixed limits steps c) in
      λ j. ForClause-F.From local (t j) (e j) (f j) (g j))
  clause_fixed (ForClause-F.From local type a (Some limit) None) = from_clause _ (λ h.
      let limits = in_second {A = Limit} (option_map (λ (p : Limit × Term). (p.0, in_term p.1)) (option_map (λ (p : Limit × A_term). (p.0, p.1.0)) (Some limit))) in
      let steps = in_held (option_map in_term (held None)) in
      let t = type_fixed type (every_first Fixed (in_type type) (in_term a.0 ++ (limits ++ steps)) h) in
      let b = every_last Fixed (in_type type) (in_term a.0 ++ (limits ++ steps)) h in
      let c = every_last Fixed (in_term a.0) (limits ++ steps) b in
      let e = a.1 (every_first Fixed (in_term a.0) (limits ++ steps) b) in
      let f = second_fixed {X = Limit} (Some limit) (every_first Fixed limits steps c) in
      let g = held_fixed None (every_last Fixed limits steps c) in
      λ j. ForClause-F.From local (t j) (e j) (f j) (g j))
  clause_fixed (ForClause-F.From local type a (Some limit) (Some step)) = from_clause _ (λ h.
      let limits = in_second {A = Limit} (option_map (λ (p : Limit × Term). (p.0, in_term p.1)) (option_map (λ (p : Limit × A_term). (p.0, p.1.0)) (Some limit))) in
      let steps = in_held (option_map in_term (held (Some step))) in
      let t = type_fixed type (every_first Fixed (in_type type) (in_term a.0 ++ (limits ++ steps)) h) in
      let b = every_last Fixed (in_type type) (in_term a.0 ++ (limits ++ steps)) h in
      let c = every_last Fixed (in_term a.0) (limits ++ steps) b in
      let e = a.1 (every_first Fixed (in_term a.0) (limits ++ steps) b) in
      let f = second_fixed {X = Limit} (Some limit) (every_first Fixed limits steps c) in
      let g = held_fixed (Some step) (every_last Fixed limits steps c) in
      λ j. ForClause-F.From local (t j) (e j) (f j) (g j))

  item_fixed : (y : Item-F A_clause An_item A_term A_block A_for A_lambda) → I (item_of C I T K F L y)
  item_fixed (Item-F.Run a) = from_item _ (λ h j. Item-F.Run (a.1 h j))
  item_fixed (Item-F.Let locals rest a) = from_item _ (λ h.
      let types = flat_map (λ (l : ℕ × DyType). in_type l.1) locals in
      let t = locals_fixed locals (every_first Fixed types (in_term a.0) h) in
      let e = a.1 (every_last Fixed types (in_term a.0) h) in
      λ j. Item-F.Let (t j) rest (e j))
  item_fixed (Item-F.LetMethods ys) = from_item _ (λ h j. Item-F.LetMethods (methods_fixed ys h j))
  item_fixed (Item-F.Handler type a) = from_item _ (λ h.
      let t = type_fixed type (every_first Fixed (in_type type) (in_term a.0) h) in
      let e = a.1 (every_last Fixed (in_type type) (in_term a.0) h) in
      λ j. Item-F.Handler (t j) (e j))

  term_fixed : (y : Term-F A_clause An_item A_term A_block A_for A_lambda) → T (term_of C I T K F L y)
  term_fixed (Term-F.Lit value) = from_term _ (λ h. refl)
  term_fixed (Term-F.Local local) = from_term _ (λ h. refl)
  term_fixed (Term-F.Global binding) = from_term _ (λ h j. Term-F.Global (name_fixed binding h.0 j))
  term_fixed (Term-F.ClassName class) = from_term _ (λ h j. Term-F.ClassName (class_fixed class h.0 j))
  term_fixed (Term-F.GenericName generic) = from_term _ (λ h j. Term-F.GenericName (generic_fixed generic h.0 j))
  term_fixed (Term-F.SetLocal local a) = from_term _ (λ h j. Term-F.SetLocal local (a.1 h j))
  term_fixed (Term-F.SetGlobal binding a) = from_term _ (λ h j. Term-F.SetGlobal (name_fixed binding h.0 j) (a.1 h.1 j))
  term_fixed (Term-F.Call f ys) = from_term _ (λ h.
      let rest = in_all (map in_term (terms ys)) in
      let e = f.1 (every_first Fixed (in_term f.0) rest h) in
      let g = list_fixed ys (every_last Fixed (in_term f.0) rest h) in
      λ j. Term-F.Call (e j) (g j))
  term_fixed (Term-F.Site generic ys) = from_term _ (λ h j. Term-F.Site (generic_fixed generic h.0 j) (list_fixed ys h.1 j))
  term_fixed (Term-F.Cond ys a) = from_term _ (λ h.
      let g = pairs_fixed ys (every_first Fixed (in_pairs ys) (in_term a.0) h) in
      let e = a.1 (every_last Fixed (in_pairs ys) (in_term a.0) h) in
      λ j. Term-F.Cond (g j) (e j))
  term_fixed (Term-F.And a b) = from_term _ (λ h. let e = both_fixed a b h in λ j. Term-F.And (e.0 j) (e.1 j))
  term_fixed (Term-F.Or a b) = from_term _ (λ h. let e = both_fixed a b h in λ j. Term-F.Or (e.0 j) (e.1 j))
  term_fixed (Term-F.Select v None ys None) = from_term _ (λ h.
      let tests = in_held (option_map in_term (held None)) in
      let lasts = in_held (option_map in_term (held None)) in
      let a = every_last Fixed (in_term v.0) (tests ++ (in_arms ys ++ lasts)) h in
      let b = every_last Fixed tests (in_arms ys ++ lasts) a in
      let e = v.1 (every_first Fixed (in_term v.0) (tests ++ (in_arms ys ++ lasts)) h) in
      let f = held_fixed None (every_first Fixed tests (in_arms ys ++ lasts) a) in
      let g = arms_fixed ys (every_first Fixed (in_arms ys) lasts b) in
      let k = held_fixed None (every_last Fixed (in_arms ys) lasts b) in
      λ j. Term-F.Select (e j) (f j) (g j) (k j))
  term_fixed (Term-F.Select v None ys (Some o)) = from_term _ (λ h.
      let tests = in_held (option_map in_term (held None)) in
      let lasts = in_held (option_map in_term (held (Some o))) in
      let a = every_last Fixed (in_term v.0) (tests ++ (in_arms ys ++ lasts)) h in
      let b = every_last Fixed tests (in_arms ys ++ lasts) a in
      let e = v.1 (every_first Fixed (in_term v.0) (tests ++ (in_arms ys ++ lasts)) h) in
      let f = held_fixed None (every_first Fixed tests (in_arms ys ++ lasts) a) in
      let g = arms_fixed ys (every_first Fixed (in_arms ys) lasts b) in
      let k = held_fixed (Some o) (every_last Fixed (in_arms ys) lasts b) in
      λ j. Term-F.Select (e j) (f j) (g j) (k j))
  term_fixed (Term-F.Select v (Some t) ys None) = from_term _ (λ h.
      let tests = in_held (option_map in_term (held (Some t))) in
      let lasts = in_held (option_map in_term (held None)) in
      let a = every_last Fixed (in_term v.0) (tests ++ (in_arms ys ++ lasts)) h in
      let b = every_last Fixed tests (in_arms ys ++ lasts) a in
      let e = v.1 (every_first Fixed (in_term v.0) (tests ++ (in_arms ys ++ lasts)) h) in
      let f = held_fixed (Some t) (every_first Fixed tests (in_arms ys ++ lasts) a) in
      let g = arms_fixed ys (every_first Fixed (in_arms ys) lasts b) in
      let k = held_fixed None (every_last Fixed (in_arms ys) lasts b) in
      λ j. Term-F.Select (e j) (f j) (g j) (k j))
  term_fixed (Term-F.Select v (Some t) ys (Some o)) = from_term _ (λ h.
      let tests = in_held (option_map in_term (held (Some t))) in
      let lasts = in_held (option_map in_term (held (Some o))) in
      let a = every_last Fixed (in_term v.0) (tests ++ (in_arms ys ++ lasts)) h in
      let b = every_last Fixed tests (in_arms ys ++ lasts) a in
      let e = v.1 (every_first Fixed (in_term v.0) (tests ++ (in_arms ys ++ lasts)) h) in
      let f = held_fixed (Some t) (every_first Fixed tests (in_arms ys ++ lasts) a) in
      let g = arms_fixed ys (every_first Fixed (in_arms ys) lasts b) in
      let k = held_fixed (Some o) (every_last Fixed (in_arms ys) lasts b) in
      λ j. Term-F.Select (e j) (f j) (g j) (k j))
  term_fixed (Term-F.Body ys) = from_term _ (λ h j. Term-F.Body (items_fixed ys h j))
  term_fixed (Term-F.Loop a b) = from_term _ (λ h. let e = both_fixed a b h in λ j. Term-F.Loop (e.0 j) (e.1 j))
  term_fixed (Term-F.For y) = from_term _ (λ h j. Term-F.For (y.1 h j))
  term_fixed (Term-F.Method y) = from_term _ (λ h j. Term-F.Method (y.1 h j))
  term_fixed (Term-F.Block y) = from_term _ (λ h j. Term-F.Block (y.1 h j))
  term_fixed (Term-F.Op operation ys) = from_term _ (λ h j. Term-F.Op operation (list_fixed ys h j))
  term_fixed (Term-F.Next None) = from_term _ (λ h. refl)
  term_fixed (Term-F.Next (Some ys)) = from_term _ (λ h j. Term-F.Next (Some (list_fixed ys h j)))

  block_parts : (exit : Option ℕ) (body : A_term) (afterwards cleanup : Option A_term) (clauses : List A_catch) → K (block_of C I T K F L (record { exit = exit; body = body; afterwards = afterwards; cleanup = cleanup; clauses = clauses }))
  block_parts exit body None None clauses = from_block _ (λ h.
      let afters = in_held (option_map in_term (held None)) in
      let cleanups = in_held (option_map in_term (held None)) in
      let caught = in_catches clauses in
      let a = every_last Fixed (in_term body.0) (afters ++ (cleanups ++ caught)) h in
      let b = every_last Fixed afters (cleanups ++ caught) a in
      let e = body.1 (every_first Fixed (in_term body.0) (afters ++ (cleanups ++ caught)) h) in
      let f = held_fixed None (every_first Fixed afters (cleanups ++ caught) a) in
      let g = held_fixed None (every_first Fixed cleanups caught b) in
      let k = catches_fixed clauses (every_last Fixed cleanups caught b) in
      λ j. record { exit = exit; body = e j; afterwards = f j; cleanup = g j; clauses = k j })
  block_parts exit body None (Some q) clauses = from_block _ (λ h.
      let afters = in_held (option_map in_term (held None)) in
      let cleanups = in_held (option_map in_term (held (Some q))) in
      let caught = in_catches clauses in
      let a = every_last Fixed (in_term body.0) (afters ++ (cleanups ++ caught)) h in
      let b = every_last Fixed afters (cleanups ++ caught) a in
      let e = body.1 (every_first Fixed (in_term body.0) (afters ++ (cleanups ++ caught)) h) in
      let f = held_fixed None (every_first Fixed afters (cleanups ++ caught) a) in
      let g = held_fixed (Some q) (every_first Fixed cleanups caught b) in
      let k = catches_fixed clauses (every_last Fixed cleanups caught b) in
      λ j. record { exit = exit; body = e j; afterwards = f j; cleanup = g j; clauses = k j })
  block_parts exit body (Some p) None clauses = from_block _ (λ h.
      let afters = in_held (option_map in_term (held (Some p))) in
      let cleanups = in_held (option_map in_term (held None)) in
      let caught = in_catches clauses in
      let a = every_last Fixed (in_term body.0) (afters ++ (cleanups ++ caught)) h in
      let b = every_last Fixed afters (cleanups ++ caught) a in
      let e = body.1 (every_first Fixed (in_term body.0) (afters ++ (cleanups ++ caught)) h) in
      let f = held_fixed (Some p) (every_first Fixed afters (cleanups ++ caught) a) in
      let g = held_fixed None (every_first Fixed cleanups caught b) in
      let k = catches_fixed clauses (every_last Fixed cleanups caught b) in
      λ j. record { exit = exit; body = e j; afterwards = f j; cleanup = g j; clauses = k j })
  block_parts exit body (Some p) (Some q) clauses = from_block _ (λ h.
      let afters = in_held (option_map in_term (held (Some p))) in
      let cleanups = in_held (option_map in_term (held (Some q))) in
      let caught = in_catches clauses in
      let a = every_last Fixed (in_term body.0) (afters ++ (cleanups ++ caught)) h in
      let b = every_last Fixed afters (cleanups ++ caught) a in
      let e = body.1 (every_first Fixed (in_term body.0) (afters ++ (cleanups ++ caught)) h) in
      let f = held_fixed (Some p) (every_first Fixed afters (cleanups ++ caught) a) in
      let g = held_fixed (Some q) (every_first Fixed cleanups caught b) in
      let k = catches_fixed clauses (every_last Fixed cleanups caught b) in
      λ j. record { exit = exit; body = e j; afterwards = f j; cleanup = g j; clauses = k j })

  block_fixed : (y : BlockRow-F A_clause An_item A_term A_block A_for A_lambda) → K (block_of C I T K F L y)
  block_fixed y = block_parts y.exit y.body y.afterwards y.cleanup y.clauses

  for_parts : (clauses : List A_clause) (test : Option (Bool × A_term)) (body : A_term) (finally : Option A_term) → F (for_of C I T K F L (record { clauses = clauses; test = test; body = body; finally = finally }))
  for_parts clauses None body None = from_for _ (λ h.
      let all = in_all (map in_clause (map (λ z. z.0) clauses)) in
      let tests = in_second {A = Bool} (option_map (λ (p : Bool × Term). (p.0, in_term p.1)) (option_map (λ (p : Bool × A_term). (p.0, p.1.0)) None)) in
      let lasts = in_held (option_map in_term (held None)) in
      let a = every_last Fixed all (tests ++ (in_term body.0 ++ lasts)) h in
      let b = every_last Fixed tests (in_term body.0 ++ lasts) a in
      let e = clauses_fixed clauses (every_first Fixed all (tests ++ (in_term body.0 ++ lasts)) h) in
      let f = second_fixed {X = Bool} None (every_first Fixed tests (in_term body.0 ++ lasts) a) in
      let g = body.1 (every_first Fixed (in_term body.0) lasts b) in
      let k = held_fixed None (every_last Fixed (in_term body.0) lasts b) in
      λ j. record { clauses = e j; test = f j; body = g j; finally = k j })
  for_parts clauses None body (Some q) = from_for _ (λ h.
      let all = in_all (map in_clause (map (λ z. z.0) clauses)) in
      let tests = in_second {A = Bool} (option_map (λ (p : Bool × Term). (p.0, in_term p.1)) (option_map (λ (p : Bool × A_term). (p.0, p.1.0)) None)) in
      let lasts = in_held (option_map in_term (held (Some q))) in
      let a = every_last Fixed all (tests ++ (in_term body.0 ++ lasts)) h in
      let b = every_last Fixed tests (in_term body.0 ++ lasts) a in
      let e = clauses_fixed clauses (every_first Fixed all (tests ++ (in_term body.0 ++ lasts)) h) in
      let f = second_fixed {X = Bool} None (every_first Fixed tests (in_term body.0 ++ lasts) a) in
      let g = body.1 (every_first Fixed (in_term body.0) lasts b) in
      let k = held_fixed (Some q) (every_last Fixed (in_term body.0) lasts b) in
      λ j. record { clauses = e j; test = f j; body = g j; finally = k j })
  for_parts clauses (Some p) body None = from_for _ (λ h.
      let all = in_all (map in_clause (map (λ z. z.0) clauses)) in
      let tests = in_second {A = Bool} (option_map (λ (p : Bool × Term). (p.0, in_term p.1)) (option_map (λ (p : Bool × A_term). (p.0, p.1.0)) (Some p))) in
      let lasts = in_held (option_map in_term (held None)) in
      let a = every_last Fixed all (tests ++ (in_term body.0 ++ lasts)) h in
      let b = every_last Fixed tests (in_term body.0 ++ lasts) a in
      let e = clauses_fixed clauses (every_first Fixed all (tests ++ (in_term body.0 ++ lasts)) h) in
      let f = second_fixed {X = Bool} (Some p) (every_first Fixed tests (in_term body.0 ++ lasts) a) in
      let g = body.1 (every_first Fixed (in_term body.0) lasts b) in
      let k = held_fixed None (every_last Fixed (in_term body.0) lasts b) in
      λ j. record { clauses = e j; test = f j; body = g j; finally = k j })
  for_parts clauses (Some p) body (Some q) = from_for _ (λ h.
      let all = in_all (map in_clause (map (λ z. z.0) clauses)) in
      let tests = in_second {A = Bool} (option_map (λ (p : Bool × Term). (p.0, in_term p.1)) (option_map (λ (p : Bool × A_term). (p.0, p.1.0)) (Some p))) in
      let lasts = in_held (option_map in_term (held (Some q))) in
      let a = every_last Fixed all (tests ++ (in_term body.0 ++ lasts)) h in
      let b = every_last Fixed tests (in_term body.0 ++ lasts) a in
      let e = clauses_fixed clauses (every_first Fixed all (tests ++ (in_term body.0 ++ lasts)) h) in
      let f = second_fixed {X = Bool} (Some p) (every_first Fixed tests (in_term body.0 ++ lasts) a) in
      let g = body.1 (every_first Fixed (in_term body.0) lasts b) in
      let k = held_fixed (Some q) (every_last Fixed (in_term body.0) lasts b) in
      λ j. record { clauses = e j; test = f j; body = g j; finally = k j })

  for_fixed : (y : ForRow-F A_clause An_item A_term A_block A_for A_lambda) → F (for_of C I T K F L y)
  for_fixed y = for_parts y.clauses y.test y.body y.finally

  lambda_fixed : (y : Lambda-F A_clause An_item A_term A_block A_for A_lambda) → L (lambda_of C I T K F L y)
  lambda_fixed y = from_lambda _ (λ h.
      let keys = in_keywords y.keywords in
      let a = every_last Fixed (in_params y.params) (keys ++ (in_term y.body.0 ++ in_results y.results)) h in
      let b = every_last Fixed keys (in_term y.body.0 ++ in_results y.results) a in
      let e = params_fixed y.params (every_first Fixed (in_params y.params) (keys ++ (in_term y.body.0 ++ in_results y.results)) h) in
      let f = keywords_fixed y.keywords (every_first Fixed keys (in_term y.body.0 ++ in_results y.results) a) in
      let g = y.body.1 (every_first Fixed (in_term y.body.0) (in_results y.results) b) in
      let k = results_fixed y.results (every_last Fixed (in_term y.body.0) (in_results y.results) b) in
      λ j. record { params = e j; keywords = f j; next = y.next; first = y.first; locals = y.locals; body = g j; results = k j })

  pub fixed_term : (x : Term) → T x
  fixed_term = by_term C I T K F L clause_fixed item_fixed term_fixed block_fixed for_fixed lambda_fixed

  pub fixed_lambda : (x : Lambda) → L x
  fixed_lambda = by_lambda C I T K F L clause_fixed item_fixed term_fixed block_fixed for_fixed lambda_fixed

  -- rows
  init_fixed : (init : Option Init) → All (in_init init) → option_map (linked_init r) init ≡ init
  init_fixed None h = refl
  init_fixed (Some (Each term)) h = λ j. Some (Each (fixed_term term h j))
  init_fixed (Some (Calling term)) h = λ j. Some (Calling (fixed_term term h j))

  function_fixed : (function : Option Lambda) → All (in_function function) → option_map (linked_lambda r) function ≡ function
  function_fixed None h = refl
  function_fixed (Some lambda) h = ap Some (fixed_lambda lambda h)

  names_fixed : (names : List BindingId) → All (map (λ (b : BindingId). b.at.library) names) → map (linked_name r) names ≡ names
  names_fixed [] h = refl
  names_fixed (named ∷ names) h = λ j. name_fixed named h.0 j ∷ names_fixed names h.1 j

  form_fixed : (form : TopTerm) → All (in_form form) → linked_form r form ≡ form
  form_fixed (tops.Init bindings term) h =
      let names = map (λ (b : BindingId). b.at.library) bindings in
      let a = names_fixed bindings (every_first Fixed names (in_term term) h) in
      let b = fixed_term term (every_last Fixed names (in_term term) h) in
      λ j. tops.Init (a j) (b j)
  form_fixed (tops.Run term) h = ap tops.Run (fixed_term term h)

  code_fixed : (code : MethodCode) → All (in_code code) → linked_method_code r code ≡ code
  code_fixed (Dylan lambda) h = ap Dylan (fixed_lambda lambda h)
  code_fixed (Getter class slot) h = λ j. Getter (class_fixed class h.0 j) slot
  code_fixed (Setter class slot) h = λ j. Setter (class_fixed class h.0 j) slot
  code_fixed (Builtin operation) h = refl

  taken_fixed : {A B : Type 0} (f : B → B) (g : B → List ℕ) (take : A → B) → ((x : B) → All (g x) → f x ≡ x) → (xs : List A) → All (flat_map (λ (x : A). g (take x)) xs) → map f (map take xs) ≡ map take xs
  taken_fixed f g take one [] h = refl
  taken_fixed {A} f g take one (x ∷ xs) h =
      let rest = flat_map (λ (x : A). g (take x)) xs in
      λ j. one (take x) (every_first Fixed (g (take x)) rest h) j ∷ taken_fixed f g take one xs (every_last Fixed (g (take x)) rest h) j

  pub all_fixed : (library : LibraryRow) → Every Fixed (mentioned library) → linked_parts r (parts_of library) ≡ parts_of library
  all_fixed library h =
      let methods = flat_map (λ (m : MethodRow). in_code m.code) library.methods in
      let variables = flat_map (λ (v : VariableRow). in_function v.function) library.variables in
      let slots = flat_map (λ (s : SlotRow). in_init s.init) (all_slots library) in
      let forms = flat_map in_form library.tops in
      let a = every_last Fixed methods (variables ++ (slots ++ forms)) h in
      let b = every_last Fixed variables (slots ++ forms) a in
      let codes = taken_fixed (linked_method_code r) in_code (λ (m : MethodRow). m.code) code_fixed library.methods (every_first Fixed methods (variables ++ (slots ++ forms)) h) in
      let functions = taken_fixed (option_map (linked_lambda r)) in_function (λ (v : VariableRow). v.function) function_fixed library.variables (every_first Fixed variables (slots ++ forms) a) in
      let inits = taken_fixed (option_map (linked_init r)) in_init (λ (s : SlotRow). s.init) init_fixed (all_slots library) (every_first Fixed slots forms b) in
      let tops = parts_fixed (linked_form r) in_form form_fixed library.tops (every_last Fixed slots forms b) in
      λ j. record { codes = codes j; functions = functions j; inits = inits j; forms = tops j }
