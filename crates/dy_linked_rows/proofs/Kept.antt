-- Whether terms are in scope, and of kinds that are lowered yet, does not see references.
use Rattle.std.proofs.Common.{◌≡◌, ℕ, ◌+◌, Bool, true, false, ◌&&◌, not, List, [], ◌∷◌, length, map, Option, Some, None, refl, sym, ap, ◌∙◌}
use Rattle.std.specs.Prelude.{nat_le, is_some}
use Rattle.std.specs.List.{list_all}
use Rattle.std.specs.Option.{option_map}
use Rattle.std.proofs.lemmas.List.{length-map}
use Rattle.dy_term.specs.declared.types.DyType.{DyType}
use Rattle.dy_term.specs.declared.types.Params.{Params}
use Rattle.dy_term.specs.declared.term.ForClause.{ForClause-F}
use Rattle.dy_term.specs.declared.term.Item.{Item-F}
use Rattle.dy_term.specs.declared.term.Term.{Term, Term-F}
use Rattle.dy_term.specs.declared.term.BlockRow.{BlockRow-F}
use Rattle.dy_term.specs.declared.term.ForRow.{ForRow-F}
use Rattle.dy_term.specs.declared.term.Lambda.{Lambda, Lambda-F}
use Rattle.dy_term.specs.declared.rows.Init.{Init}
use Rattle.dy_term.specs.declared.rows.Init.TheVariants.{Each, Calling}
use Rattle.dy_term.specs.declared.rows.ClassRow.{ClassRow}
use Rattle.dy_term.specs.declared.rows.GenericRow.{GenericRow}
use Rattle.dy_term.specs.declared.rows.SlotRow.{SlotRow}
use Rattle.dy_term.specs.declared.rows.MethodCode.{MethodCode}
use Rattle.dy_term.specs.declared.rows.MethodCode.TheVariants.{Dylan, Getter, Setter, Builtin}
use Rattle.dy_term.specs.declared.rows.MethodRow.{MethodRow}
use Rattle.dy_term.specs.declared.rows.VariableRow.{VariableRow}
use Rattle.dy_term.specs.declared.rows.TopTerm.{TopTerm}
use Rattle.dy_term.specs.declared.rows.TopTerm.TheVariants as tops
use Rattle.dy_term.specs.declared.rows.LibraryRow.{LibraryRow}
use Rattle.dy_code.specs.Fetching.{rest_locals, keyword_locals, locals_of}
use Rattle.dy_meaning.specs.Numbers.{numbers_in}
use Rattle.dy_lowered.specs.Bodies.{all_slots}
use Rattle.dy_lowered.specs.Linking.{linked_type, linked_params}
use Rattle.dy_lowered.specs.Readiness.{are_distinct, with_rest}
use Rattle.dy_lowering_law.specs.Ready.{has_no_keywords, generic_ready, is_empty}
use Rattle.dy_lowering_whole.specs.Lowered.{clause_lowered, item_lowered, term_lowered, block_lowered, for_lowered, lambda_lowered, is_lowered, is_lambda_lowered, is_code_lowered, is_function_lowered, is_top_lowered, has_no_slots, is_library_lowered}
use Rattle.dy_lowering_whole.specs.valid.Scoped.{Scoping, typed_scoped, clauses_scoped, held_scoped, are_own, clause_scoped, item_scoped, term_scoped, block_scoped, for_scoped, lambda_scoped, is_scoped, is_lambda_scoped, is_code_scoped, is_function_scoped, is_alone_scoped, is_init_scoped, is_top_scoped, is_library_scoped}
use Rattle.dy_linked_rows.specs.Terms.{typed, clause_linked, item_linked, term_linked, block_linked, for_linked, lambda_linked, linked_term, linked_lambda}
use Rattle.dy_linked_rows.specs.Rows.{linked_init, linked_slot, linked_class_row, linked_generic_row, linked_method_code, linked_method_row, linked_variable, linked_form, linked_library}
use Rattle.dy_linked_rows.specs.Kept.{ScopeStays, KindsStay}
use Rattle.dy_linked_rows.proofs.Folding.{IsBlind, blind_term, blind_lambda}
use Rattle.dy_linked_rows.proofs.Blind.{numbers_same}
use Rattle.dy_linked_rows.proofs.Bodies.{slots_linked}

numbers_of : (places : ℕ → ℕ) (locals : List (ℕ × DyType)) → map (λ (l : ℕ × DyType). l.0) (map (λ (l : ℕ × DyType). (l.0, linked_type places l.1)) locals) ≡ map (λ (l : ℕ × DyType). l.0) locals
numbers_of places [] = refl
numbers_of places (local ∷ locals) = ap (λ (ns : List ℕ). local.0 ∷ ns) (numbers_of places locals)

all_mapped : {A B : Type 0} (f : A → B) (test : B → Bool) (other : A → Bool) → ((x : A) → test (f x) ≡ other x) → (xs : List A) → list_all test (map f xs) ≡ list_all other xs
all_mapped f test other same [] = refl
all_mapped f test other same (x ∷ xs) = λ j. same x j && all_mapped f test other same xs j

-- in scope
module _ (places : ℕ → ℕ) where
  typed_same : (keywords : List (DyType × Scoping)) (first last : ℕ) → typed_scoped (map (typed places) keywords) first last ≡ typed_scoped keywords first last
  typed_same [] first last = refl
  typed_same (k ∷ keywords) first last = ap (λ (b : Bool). k.1 first last && b) (typed_same keywords first last)

  caught_same : (clauses : List (Option ℕ × DyType × Scoping)) (first last : ℕ) → clauses_scoped (map (λ (c : Option ℕ × DyType × Scoping). (c.0, linked_type places c.1, c.2)) clauses) first last ≡ clauses_scoped clauses first last
  caught_same [] first last = refl
  caught_same (c ∷ clauses) first last = ap (λ (b : Bool). c.2 first last && b) (caught_same clauses first last)

  locals_same : (params : Params) → locals_of (linked_params places params) ≡ locals_of params
  locals_same params = ap (λ (n : ℕ). n + rest_locals params.rest + keyword_locals params.keys) (length-map params.required (linked_type places))

  clause_scope : (x : ForClause-F Scoping Scoping Scoping Scoping Scoping Scoping) (first last : ℕ) → clause_scoped (clause_linked places x) first last ≡ clause_scoped x first last
  clause_scope (ForClause-F.Then local type start next) first last = refl
  clause_scope (ForClause-F.In local type collection) first last = refl
  clause_scope (ForClause-F.From local type start limit step) first last = refl

  item_scope : (x : Item-F Scoping Scoping Scoping Scoping Scoping Scoping) (first last : ℕ) → item_scoped (item_linked places x) first last ≡ item_scoped x first last
  item_scope (Item-F.Run term) first last = refl
  item_scope (Item-F.Let locals rest term) first last = ap (λ (ns : List ℕ). are_own (with_rest ns rest) first last && term first last) (numbers_of places locals)
  item_scope (Item-F.LetMethods methods) first last = refl
  item_scope (Item-F.Handler type function) first last = refl

  term_scope : (x : Term-F Scoping Scoping Scoping Scoping Scoping Scoping) (first last : ℕ) → term_scoped (term_linked places x) first last ≡ term_scoped x first last
  term_scope (Term-F.Lit value) first last = refl
  term_scope (Term-F.Local local) first last = refl
  term_scope (Term-F.Global binding) first last = refl
  term_scope (Term-F.ClassName class) first last = refl
  term_scope (Term-F.GenericName generic) first last = refl
  term_scope (Term-F.SetLocal local term) first last = refl
  term_scope (Term-F.SetGlobal binding term) first last = refl
  term_scope (Term-F.Call function terms) first last = refl
  term_scope (Term-F.Site generic terms) first last = refl
  term_scope (Term-F.Cond branches other) first last = refl
  term_scope (Term-F.And left right) first last = refl
  term_scope (Term-F.Or left right) first last = refl
  term_scope (Term-F.Select value test arms other) first last = refl
  term_scope (Term-F.Body items) first last = refl
  term_scope (Term-F.Loop test inner) first last = refl
  term_scope (Term-F.For row) first last = refl
  term_scope (Term-F.Method lambda) first last = refl
  term_scope (Term-F.Block row) first last = refl
  term_scope (Term-F.Op operation terms) first last = refl
  term_scope (Term-F.Next terms) first last = refl

  block_scope : (x : BlockRow-F Scoping Scoping Scoping Scoping Scoping Scoping) (first last : ℕ) → block_scoped (block_linked places x) first last ≡ block_scoped x first last
  block_scope x first last = ap (λ (b : Bool). x.body first last && (held_scoped x.afterwards first last && (held_scoped x.cleanup first last && b))) (caught_same x.clauses first last)

  lambda_scope : (x : Lambda-F Scoping Scoping Scoping Scoping Scoping Scoping) (first last : ℕ) → lambda_scoped (lambda_linked places x) first last ≡ lambda_scoped x first last
  lambda_scope x first last =
      λ j. nat_le x.first last && (nat_le (x.first + locals_same x.params j) x.locals && (typed_same x.keywords x.first x.locals j && x.body x.first x.locals))

  blind_scope : IsBlind places clause_scoped item_scoped term_scoped block_scoped for_scoped lambda_scoped
  blind_scope = record {
    clause = λ x j first last. clause_scope x first last j;
    item = λ x j first last. item_scope x first last j;
    term = λ x j first last. term_scope x first last j;
    block = λ x j first last. block_scope x first last j;
    for = λ x. refl;
    lambda = λ x j first last. lambda_scope x first last j;
  }

  scoped_same : (term : Term) → is_scoped (linked_term places term) ≡ is_scoped term
  scoped_same = blind_term places clause_scoped item_scoped term_scoped block_scoped for_scoped lambda_scoped blind_scope

  lambda_scoped_same : (lambda : Lambda) → is_lambda_scoped (linked_lambda places lambda) ≡ is_lambda_scoped lambda
  lambda_scoped_same = blind_lambda places clause_scoped item_scoped term_scoped block_scoped for_scoped lambda_scoped blind_scope

  alone_same : (term : Term) → is_alone_scoped (linked_term places term) ≡ is_alone_scoped term
  alone_same term = λ j. scoped_same term j 0 (numbers_same places term j)

  init_same : (init : Option Init) → is_init_scoped (option_map (linked_init places) init) ≡ is_init_scoped init
  init_same None = refl
  init_same (Some (Each term)) = alone_same term
  init_same (Some (Calling term)) = alone_same term

  code_same : (code : MethodCode) → is_code_scoped (linked_method_code places code) ≡ is_code_scoped code
  code_same (Dylan lambda) = λ j. lambda_scoped_same lambda j 0 0
  code_same (Getter class slot) = refl
  code_same (Setter class slot) = refl
  code_same (Builtin operation) = refl

  function_same : (function : Option Lambda) → is_function_scoped (option_map (linked_lambda places) function) ≡ is_function_scoped function
  function_same None = refl
  function_same (Some lambda) = λ j. lambda_scoped_same lambda j 0 0

  form_same : (form : TopTerm) → is_top_scoped (linked_form places form) ≡ is_top_scoped form
  form_same (tops.Init bindings term) = alone_same term
  form_same (tops.Run term) = alone_same term

pub scope_stays : ScopeStays
scope_stays places library =
    let slot_scoped : SlotRow → Bool = λ s. is_init_scoped s.init in
    let method_scoped : MethodRow → Bool = λ m. is_code_scoped m.code in
    let variable_scoped : VariableRow → Bool = λ v. is_function_scoped v.function in
    let slots = ap (list_all slot_scoped) (slots_linked places library.classes) ∙ all_mapped (linked_slot places) slot_scoped slot_scoped (λ s. init_same places s.init) (all_slots library) in
    let methods = all_mapped (linked_method_row places) method_scoped method_scoped (λ m. code_same places m.code) library.methods in
    let variables = all_mapped (linked_variable places) variable_scoped variable_scoped (λ v. function_same places v.function) library.variables in
    let forms = all_mapped (linked_form places) is_top_scoped is_top_scoped (form_same places) library.tops in
    λ j. slots j && (methods j && (variables j && forms j))

-- kinds
module _ (places : ℕ → ℕ) where
  empty_same : {A B : Type 0} (f : A → B) (xs : List A) → is_empty (map f xs) ≡ is_empty xs
  empty_same f [] = refl
  empty_same f (x ∷ xs) = refl

  clause_kind : (x : ForClause-F Bool Bool Bool Bool Bool Bool) → clause_lowered (clause_linked places x) ≡ clause_lowered x
  clause_kind (ForClause-F.Then local type start next) = refl
  clause_kind (ForClause-F.In local type collection) = refl
  clause_kind (ForClause-F.From local type start limit step) = refl

  item_kind : (x : Item-F Bool Bool Bool Bool Bool Bool) → item_lowered (item_linked places x) ≡ item_lowered x
  item_kind (Item-F.Run term) = refl
  item_kind (Item-F.Let locals rest term) = ap (λ (ns : List ℕ). are_distinct (with_rest ns rest) && term) (numbers_of places locals)
  item_kind (Item-F.LetMethods methods) = refl
  item_kind (Item-F.Handler type function) = refl

  term_kind : (x : Term-F Bool Bool Bool Bool Bool Bool) → term_lowered (term_linked places x) ≡ term_lowered x
  term_kind (Term-F.Lit value) = refl
  term_kind (Term-F.Local local) = refl
  term_kind (Term-F.Global binding) = refl
  term_kind (Term-F.ClassName class) = refl
  term_kind (Term-F.GenericName generic) = refl
  term_kind (Term-F.SetLocal local term) = refl
  term_kind (Term-F.SetGlobal binding term) = refl
  term_kind (Term-F.Call function terms) = refl
  term_kind (Term-F.Site generic terms) = refl
  term_kind (Term-F.Cond branches other) = refl
  term_kind (Term-F.And left right) = refl
  term_kind (Term-F.Or left right) = refl
  term_kind (Term-F.Select value test arms last) = refl
  term_kind (Term-F.Body items) = refl
  term_kind (Term-F.Loop test inner) = refl
  term_kind (Term-F.For row) = refl
  term_kind (Term-F.Method lambda) = refl
  term_kind (Term-F.Block row) = refl
  term_kind (Term-F.Op operation terms) = refl
  term_kind (Term-F.Next terms) = refl

  blind_kinds : IsBlind places clause_lowered item_lowered term_lowered block_lowered for_lowered lambda_lowered
  blind_kinds = record {
    clause = clause_kind;
    item = item_kind;
    term = term_kind;
    block = λ x. refl;
    for = λ x. refl;
    lambda = λ x. ap (λ (b : Bool). has_no_keywords x.params && (b && x.body)) (empty_same (typed places) x.keywords);
  }

  kind_same : (term : Term) → is_lowered (linked_term places term) ≡ is_lowered term
  kind_same = blind_term places clause_lowered item_lowered term_lowered block_lowered for_lowered lambda_lowered blind_kinds

  lambda_kind_same : (lambda : Lambda) → is_lambda_lowered (linked_lambda places lambda) ≡ is_lambda_lowered lambda
  lambda_kind_same = blind_lambda places clause_lowered item_lowered term_lowered block_lowered for_lowered lambda_lowered blind_kinds

  code_kind : (code : MethodCode) → is_code_lowered (linked_method_code places code) ≡ is_code_lowered code
  code_kind (Dylan lambda) = lambda_kind_same lambda
  code_kind (Getter class slot) = refl
  code_kind (Setter class slot) = refl
  code_kind (Builtin operation) = refl

  function_kind : (function : Option Lambda) → is_function_lowered (option_map (linked_lambda places) function) ≡ is_function_lowered function
  function_kind None = refl
  function_kind (Some lambda) = lambda_kind_same lambda

  form_kind : (form : TopTerm) → is_top_lowered (linked_form places form) ≡ is_top_lowered form
  form_kind (tops.Init bindings term) = kind_same term
  form_kind (tops.Run term) = kind_same term

  class_kind : (class : ClassRow) → has_no_slots (linked_class_row places class) ≡ has_no_slots class
  class_kind class = empty_same (linked_slot places) class.slots

pub kinds_stay : KindsStay
kinds_stay places library =
    let method_lowered : MethodRow → Bool = λ m. is_code_lowered m.code in
    let variable_lowered : VariableRow → Bool = λ v. is_function_lowered v.function in
    let classes = all_mapped (linked_class_row places) has_no_slots has_no_slots (class_kind places) library.classes in
    let generics = all_mapped (linked_generic_row places) generic_ready generic_ready (λ g. refl) library.generics in
    let methods = all_mapped (linked_method_row places) method_lowered method_lowered (λ m. code_kind places m.code) library.methods in
    let variables = all_mapped (linked_variable places) variable_lowered variable_lowered (λ v. function_kind places v.function) library.variables in
    let forms = all_mapped (linked_form places) is_top_lowered is_top_lowered (form_kind places) library.tops in
    λ j. classes j && (generics j && (methods j && (variables j && forms j)))
