-- The bodies of a linked library are its bodies, each linked.
use Rattle.std.proofs.Common.{◌≡◌, ℕ, ◌+◌, ◌-◌, Bool, true, false, cond, List, [], ◌∷◌, ◌++◌, length, map, Option, Some, None, refl, sym, ap, ◌∙◌, fold}
use Rattle.std.specs.Prelude.{flat_map, count_by, is_some}
use Rattle.std.specs.Option.{option_map}
use Rattle.std.proofs.lemmas.List.{length-map}
use Rattle.std.proofs.lemmas.Grind.{flat_map-append}
use Rattle.std.proofs.Math.Path.{fun_ext}
use Rattle.dy_term.specs.declared.types.DyType.{DyType}
use Rattle.dy_term.specs.declared.types.Params.{Params}
use Rattle.dy_term.specs.declared.term.ForClause.{ForClause}
use Rattle.dy_term.specs.declared.term.Item.{Item}
use Rattle.dy_term.specs.declared.term.Term.{Term}
use Rattle.dy_term.specs.declared.term.BlockRow.{BlockRow}
use Rattle.dy_term.specs.declared.term.ForRow.{ForRow}
use Rattle.dy_term.specs.declared.term.Lambda.{Lambda, Lambda-F, out-Lambda}
use Rattle.dy_term.specs.declared.rows.Init.{Init}
use Rattle.dy_term.specs.declared.rows.Init.TheVariants.{Each, Calling}
use Rattle.dy_term.specs.declared.rows.ClassRow.{ClassRow}
use Rattle.dy_term.specs.declared.rows.SlotRow.{SlotRow}
use Rattle.dy_term.specs.declared.rows.MethodCode.{MethodCode}
use Rattle.dy_term.specs.declared.rows.MethodCode.TheVariants.{Dylan, Getter, Setter, Builtin}
use Rattle.dy_term.specs.declared.rows.MethodRow.{MethodRow}
use Rattle.dy_term.specs.declared.rows.VariableRow.{VariableRow}
use Rattle.dy_term.specs.declared.rows.TopTerm.{TopTerm}
use Rattle.dy_term.specs.declared.rows.TopTerm.TheVariants as tops
use Rattle.dy_term.specs.declared.rows.LibraryRow.{LibraryRow}
use Rattle.dy_outcome.specs.declared.place.Place.{Place}
use Rattle.dy_code.specs.Fetching.{Push, Tick, CallValue, Return, CheckResults, Args}
use Rattle.dy_code.specs.Programs.{is_dylan, dylan_methods, dylan_functions}
use Rattle.dy_meaning.specs.Lambdas.{lambdas_in, lambdas_within, of_defaults, of_init, of_class, of_classes, of_top}
use Rattle.dy_meaning.specs.Layouts.{Layout, place_of, layout_of, layout_of_term, from}
use Rattle.dy_meaning.specs.Numbering.{numbered_by}
use Rattle.dy_meaning.specs.Numbers.{numbers_in}
use Rattle.dy_lowered.specs.Flat.{Plain, Code, one}
use Rattle.dy_lowered.specs.Parts.{cells}
use Rattle.dy_lowered.specs.Terms.{code_of}
use Rattle.dy_lowered.specs.Bodies.{FlatBody, rest_place, parameters, entry, lambda_body, body_alone, top_body, init_body, inside_code, inside_method, inside_function, inside_variable, inside_slot, all_slots, closures_of, code_bodies, function_bodies, init_bodies, init_count, start_count, first_closure, closure_bodies, bodies_of}
use Rattle.dy_lowered.specs.Linking.{linked_name, linked_type, linked_params, linked_results}
use Rattle.dy_linked_rows.specs.Terms.{typed, lambda_linked, linked_clause, linked_item, linked_term, linked_block, linked_for, linked_lambda}
use Rattle.dy_linked_rows.specs.Rows.{linked_init, linked_slot, linked_class_row, linked_method_code, linked_method_row, linked_variable, linked_form, linked_library}
use Rattle.dy_linked_rows.specs.Code.{linked_flat, linked_flats, linked_body}
use Rattle.dy_linked_rows.specs.Laws.{BodiesAreLinked}
use Rattle.dy_linked_rows.proofs.Lists.{map_twice, map_both, flat_mapped}
use Rattle.dy_linked_rows.proofs.Blind.{inside_lambda, row_of_lambda, numbers_same, layout_same, captured_same, term_layout_same}
use Rattle.dy_linked_rows.proofs.Inside.{inside_term, within_lambda, term_count}
use Rattle.dy_linked_rows.proofs.Pieces.{join, cells_fixed}
use Rattle.dy_linked_rows.proofs.Coded.{code_linked}

-- The code of a library alone: that of its methods, the init expressions of its slots, its functions
-- and its forms.
pub record Parts : Type 0 where
  pub codes : List MethodCode
  pub functions : List (Option Lambda)
  pub inits : List (Option Init)
  pub forms : List TopTerm

abbrev pub parts_of : LibraryRow → Parts
parts_of library = record {
  codes = map (λ (m : MethodRow). m.code) library.methods;
  functions = map (λ (v : VariableRow). v.function) library.variables;
  inits = map (λ (s : SlotRow). s.init) (all_slots library);
  forms = library.tops;
}

abbrev inits_in : List (Option Init) → ℕ
inits_in [] = 0
inits_in (init ∷ inits) = length (init_bodies init 0) + inits_in inits

abbrev pub starts : Parts → ℕ
starts parts = count_by is_dylan parts.codes + count_by is_some parts.functions + inits_in parts.inits

-- what rows give, one after the other
module _ {X Y : Type 0} (give : X × ℕ → List Y) (inside : X → List Lambda) where
  abbrev given : List X → ℕ → List Y
  given xs n = flat_map give (numbered_by inside xs n)

abbrev give_code : MethodCode × ℕ → List FlatBody
give_code code = code_bodies code.0 code.1

abbrev give_function : Option Lambda × ℕ → List FlatBody
give_function function = function_bodies function.0 function.1

abbrev give_init : Option Init × ℕ → List FlatBody
give_init init = init_bodies init.0 init.1

abbrev give_form : TopTerm × ℕ → FlatBody
give_form form = top_body form.0 form.1

abbrev in_inits : Parts → List Lambda
in_inits parts = flat_map of_init parts.inits

abbrev in_codes : Parts → List Lambda
in_codes parts = flat_map inside_code parts.codes

abbrev in_functions : Parts → List Lambda
in_functions parts = flat_map inside_function parts.functions

abbrev in_forms : Parts → List Lambda
in_forms parts = flat_map of_top parts.forms

abbrev first_of : Parts → ℕ
first_of parts = starts parts + length parts.forms

abbrev pub bodies_from : Parts → List FlatBody
bodies_from parts =
    let first = first_of parts in
    let methods = first + length (in_inits parts) in
    let variables = methods + length (in_codes parts) in
    let forms = variables + length (in_functions parts) in
    given give_code inside_code parts.codes methods
    ++ given give_function inside_function parts.functions variables
    ++ given give_init of_init parts.inits first
    ++ map give_form (numbered_by of_top parts.forms forms)
    ++ closure_bodies (in_inits parts ++ in_codes parts ++ in_functions parts ++ in_forms parts) first

-- The bodies of a library are those of its code.
fold_mapped : {A X Y : Type 0} (f : A → X → A) (g : Y → X) (xs : List Y) (n : A) → fold f n (map g xs) ≡ fold (λ (a : A) (y : Y). f a (g y)) n xs
fold_mapped f g [] n = refl
fold_mapped f g (x ∷ xs) n = fold_mapped f g xs (f n (g x))

count_mapped : {X Y : Type 0} (p : X → Bool) (g : Y → X) (xs : List Y) → count_by p (map g xs) ≡ count_by (λ (y : Y). p (g y)) xs
count_mapped {X} p g xs = fold_mapped (λ (a : ℕ) (x : X). a + cond (p x) 1 0) g xs 0

given_mapped : {X Y Z : Type 0} (give : Y × ℕ → List Z) (inside : Y → List Lambda) (f : X → Y) (xs : List X) (n : ℕ)
    → flat_map (λ (p : X × ℕ). give (f p.0, p.1)) (numbered_by (λ (x : X). inside (f x)) xs n) ≡ flat_map give (numbered_by inside (map f xs) n)
given_mapped give inside f [] n = refl
given_mapped give inside f (x ∷ xs) n = ap (λ ys. give (f x, n) ++ ys) (given_mapped give inside f xs (n + length (inside (f x))))

classes_of : (classes : List ClassRow) → flat_map of_class classes ≡ flat_map of_init (map (λ (s : SlotRow). s.init) (flat_map (λ (c : ClassRow). c.slots) classes))
classes_of [] = refl
classes_of (class ∷ classes) =
    let slots = flat_map (λ (c : ClassRow). c.slots) classes in
    let init_of : SlotRow → Option Init = λ s. s.init in
    let each : SlotRow → List Lambda = λ s. of_init s.init in
    (λ j. flat_map each class.slots ++ classes_of classes j)
    ∙ ((λ j. flat_map each class.slots ++ flat_mapped of_init init_of slots j)
    ∙ (sym (flat_map-append each class.slots slots)
    ∙ sym (flat_mapped of_init init_of (class.slots ++ slots))))

inits_counted : (slots : List SlotRow) → init_count slots ≡ inits_in (map (λ (s : SlotRow). s.init) slots)
inits_counted [] = refl
inits_counted (slot ∷ slots) = ap (λ (n : ℕ). length (init_bodies slot.init 0) + n) (inits_counted slots)

module _ (library : LibraryRow) where
  abbrev parts : Parts
  parts = parts_of library

  pub starts_same : start_count library ≡ starts parts
  starts_same =
      let methods = count_mapped is_dylan (λ (m : MethodRow). m.code) library.methods in
      let functions = count_mapped {X = Option Lambda} is_some (λ (v : VariableRow). v.function) library.variables in
      λ j. sym methods j + sym functions j + inits_counted (all_slots library) j

  pub bodies_are : bodies_of library ≡ bodies_from parts
  bodies_are =
      let first : first_closure library ≡ first_of parts = ap (λ (n : ℕ). n + length library.tops) starts_same in
      let of_inits : of_classes library ≡ in_inits parts = classes_of library.classes in
      let of_codes : flat_map inside_method library.methods ≡ in_codes parts = sym (flat_mapped inside_code (λ (m : MethodRow). m.code) library.methods) in
      let of_functions : flat_map inside_variable library.variables ≡ in_functions parts = sym (flat_mapped inside_function (λ (v : VariableRow). v.function) library.variables) in
      let methods : first_closure library + length (of_classes library) ≡ first_of parts + length (in_inits parts) = λ j. first j + length (of_inits j) in
      let variables : first_closure library + length (of_classes library) + length (flat_map inside_method library.methods) ≡ first_of parts + length (in_inits parts) + length (in_codes parts) = λ j. methods j + length (of_codes j) in
      let give_m : MethodRow × ℕ → List FlatBody = λ m. code_bodies m.0.code m.1 in
      let give_v : VariableRow × ℕ → List FlatBody = λ v. function_bodies v.0.function v.1 in
      let give_s : SlotRow × ℕ → List FlatBody = λ s. init_bodies s.0.init s.1 in
      (λ j. flat_map give_m (numbered_by inside_method library.methods (methods j))
      ++ flat_map give_v (numbered_by inside_variable library.variables (variables j))
      ++ flat_map give_s (numbered_by inside_slot (all_slots library) (first j))
      ++ map give_form (numbered_by of_top library.tops (variables j + length (of_functions j)))
      ++ closure_bodies (of_inits j ++ of_codes j ++ of_functions j ++ flat_map of_top library.tops) (first j))
      ∙ (λ j. given_mapped give_code inside_code (λ (m : MethodRow). m.code) library.methods (first_of parts + length (in_inits parts)) j
      ++ given_mapped give_function inside_function (λ (v : VariableRow). v.function) library.variables (first_of parts + length (in_inits parts) + length (in_codes parts)) j
      ++ given_mapped give_init of_init (λ (s : SlotRow). s.init) (all_slots library) (first_of parts) j
      ++ map give_form (numbered_by of_top library.tops (first_of parts + length (in_inits parts) + length (in_codes parts) + length (in_functions parts)))
      ++ closure_bodies (in_inits parts ++ in_codes parts ++ in_functions parts ++ in_forms parts) (first_of parts))

-- linked code
module _ (places : ℕ → ℕ) where
  abbrev pub linked_parts : Parts → Parts
  linked_parts parts = record {
    codes = map (linked_method_code places) parts.codes;
    functions = map (option_map (linked_lambda places)) parts.functions;
    inits = map (option_map (linked_init places)) parts.inits;
    forms = map (linked_form places) parts.forms;
  }

pub slots_linked : (places : ℕ → ℕ) (classes : List ClassRow) → flat_map (λ (c : ClassRow). c.slots) (map (linked_class_row places) classes) ≡ map (linked_slot places) (flat_map (λ (c : ClassRow). c.slots) classes)
slots_linked places [] = refl
slots_linked places (class ∷ classes) =
    map_both (linked_slot places) class.slots (flat_map (λ (c : ClassRow). c.slots) classes) (map (linked_slot places) class.slots) (flat_map (λ (c : ClassRow). c.slots) (map (linked_class_row places) classes)) refl (slots_linked places classes)

module _ {A B C : Type 0} (take : B → C) (f : A → B) (g : C → C) (h : A → C) (same : (x : A) → take (f x) ≡ g (h x)) where
  mapped_both : (xs : List A) → map take (map f xs) ≡ map g (map h xs)
  mapped_both [] = refl
  mapped_both (x ∷ xs) = λ j. same x j ∷ mapped_both xs j

pub parts_linked : (places : ℕ → ℕ) (library : LibraryRow) → parts_of (linked_library places library) ≡ linked_parts places (parts_of library)
parts_linked places library =
    let init_of : SlotRow → Option Init = λ s. s.init in
    λ j. record {
      codes = mapped_both (λ (m : MethodRow). m.code) (linked_method_row places) (linked_method_code places) (λ (m : MethodRow). m.code) (λ m. refl) library.methods j;
      functions = mapped_both (λ (v : VariableRow). v.function) (linked_variable places) (option_map (linked_lambda places)) (λ (v : VariableRow). v.function) (λ v. refl) library.variables j;
      inits = (ap (map init_of) (slots_linked places library.classes) ∙ mapped_both init_of (linked_slot places) (option_map (linked_init places)) init_of (λ s. refl) (all_slots library)) j;
      forms = map (linked_form places) library.tops;
    }

module _ (places : ℕ → ℕ) where
  abbrev L : Code → Code
  L = linked_flats places

  abbrev B : FlatBody → FlatBody
  B = linked_body places

  abbrev Ls : List Lambda → List Lambda
  Ls = map (linked_lambda places)

  -- the body of a lambda
  defaults_count : (keywords : List (DyType × Term)) → length (of_defaults (map (typed places) (map (λ (k : DyType × Term). (k.0, linked_term places k.1)) keywords))) ≡ length (of_defaults keywords)
  defaults_count keywords = ap length (defaults_linked keywords) ∙ length-map (of_defaults keywords) (linked_lambda places)
    where
      defaults_linked : (keywords : List (DyType × Term)) → of_defaults (map (typed places) (map (λ (k : DyType × Term). (k.0, linked_term places k.1)) keywords)) ≡ Ls (of_defaults keywords)
      defaults_linked [] = refl
      defaults_linked (k ∷ keywords) =
          map_both (linked_lambda places) (lambdas_in k.1) (of_defaults keywords) (lambdas_in (linked_term places k.1)) (of_defaults (map (typed places) (map (λ (k : DyType × Term). (k.0, linked_term places k.1)) keywords)))
          (inside_term places k.1) (defaults_linked keywords)

  module _ (lambda : Lambda) where
    abbrev row : Lambda-F ForClause Item Term BlockRow ForRow Lambda
    row = out-Lambda lambda

    abbrev linked_row : Lambda-F ForClause Item Term BlockRow ForRow Lambda
    linked_row = lambda_linked places (inside_lambda places row)

    abbrev layout : Layout
    layout = layout_of lambda

    parameters_same : parameters (linked_lambda places lambda) ≡ parameters lambda
    parameters_same =
        let e = row_of_lambda places lambda in
        let l = layout_same places lambda in
        let n : length (map (linked_type places) row.params.required) ≡ length row.params.required = length-map row.params.required (linked_type places) in
        (λ j. map (place_of (l j)) (from (e j).first (length (e j).params.required)) ++ rest_place (e j).params.rest (place_of (l j) ((e j).first + length (e j).params.required)))
        ∙ (λ j. map (place_of layout) (from row.first (n j)) ++ rest_place row.params.rest (place_of layout (row.first + n j)))

    entry_linked : entry (linked_lambda places lambda) ≡ L (entry lambda)
    entry_linked =
        let params = linked_params places row.params in
        (λ j. Plain Tick ∷ Plain (Args (row_of_lambda places lambda j).params) ∷ cells (parameters_same j))
        ∙ ap (λ (c : Code). Plain Tick ∷ Plain (Args params) ∷ c) (cells_fixed places (parameters lambda))

    behind_code : Code
    behind_code = Plain (CheckResults row.results) ∷ one Return

    lambda_code : (number : ℕ) → (lambda_body (linked_lambda places lambda) number).code ≡ L (lambda_body lambda number).code
    lambda_code number =
        let e = row_of_lambda places lambda in
        let l = layout_same places lambda in
        let at = number + length (of_defaults row.keywords) in
        let end : Code = Plain (CheckResults (linked_results places row.results)) ∷ one Return in
        let inner = code_of layout row.body at in
        (λ j. entry_linked j ++ (code_of (l j) (e j).body (number + length (of_defaults (e j).keywords)) ++ (Plain (CheckResults (e j).results) ∷ one Return)))
        ∙ ((λ j. L (entry lambda) ++ (code_of layout (linked_term places row.body) (number + defaults_count row.keywords j) ++ end))
        ∙ join places (entry lambda) (inner ++ (Plain (CheckResults row.results) ∷ one Return)) (L (entry lambda)) (code_of layout (linked_term places row.body) at ++ end) refl
        (join places inner (Plain (CheckResults row.results) ∷ one Return) (code_of layout (linked_term places row.body) at) end (code_linked places layout row.body at) refl))

    pub lambda_body_linked : (number : ℕ) → lambda_body (linked_lambda places lambda) number ≡ B (lambda_body lambda number)
    lambda_body_linked number = λ j. record {
      locals = (row_of_lambda places lambda j).locals - (row_of_lambda places lambda j).first;
      captures = length (captured_same places lambda j);
      code = lambda_code number j;
    }

  -- a term that runs by itself
  alone_linked : (term : Term) (number : ℕ) (last last' : Code) → last' ≡ L last → body_alone (linked_term places term) number last' ≡ B (body_alone term number last)
  alone_linked term number last last' e =
      let code = code_of (layout_of_term term) term number in
      let same : code_of (layout_of_term (linked_term places term)) (linked_term places term) number ++ last' ≡ L (code ++ last) =
      (λ j. code_of (term_layout_same places term j) (linked_term places term) number ++ last')
      ∙ join places code last (code_of (layout_of_term term) (linked_term places term) number) last' (code_linked places (layout_of_term term) term number) e in
      λ j. record { locals = numbers_same places term j; captures = 0; code = same j }

  form_linked : (form : TopTerm) (number : ℕ) → top_body (linked_form places form) number ≡ B (top_body form number)
  form_linked (tops.Init bindings term) number = alone_linked term number (one Return) (one Return) refl
  form_linked (tops.Run term) number = alone_linked term number (one Return) (one Return) refl

  abbrev called : Code
  called = Plain Push ∷ Plain (CallValue 0) ∷ one Return

  inits_linked : (init : Option Init) (number : ℕ) → init_bodies (option_map (linked_init places) init) number ≡ map B (init_bodies init number)
  inits_linked None number = refl
  inits_linked (Some (Each term)) number = λ j. alone_linked term number (one Return) (one Return) refl j ∷ []
  inits_linked (Some (Calling term)) number = λ j. alone_linked term number called called refl j ∷ []

  codes_linked : (code : MethodCode) (number : ℕ) → code_bodies (linked_method_code places code) number ≡ map B (code_bodies code number)
  codes_linked (Dylan lambda) number = λ j. lambda_body_linked lambda number j ∷ []
  codes_linked (Getter class slot) number = refl
  codes_linked (Setter class slot) number = refl
  codes_linked (Builtin operation) number = refl

  functions_linked : (function : Option Lambda) (number : ℕ) → function_bodies (option_map (linked_lambda places) function) number ≡ map B (function_bodies function number)
  functions_linked None number = refl
  functions_linked (Some lambda) number = λ j. lambda_body_linked lambda number j ∷ []

  closures_linked : (lambdas : List Lambda) (number : ℕ) → closure_bodies (Ls lambdas) number ≡ map B (closure_bodies lambdas number)
  closures_linked [] number = refl
  closures_linked (lambda ∷ lambdas) number = λ j. lambda_body_linked lambda (number + 1) j ∷ closures_linked lambdas (number + 1) j

  -- the closures inside of each
  inside_code_linked : (code : MethodCode) → inside_code (linked_method_code places code) ≡ Ls (inside_code code)
  inside_code_linked (Dylan lambda) = within_lambda places lambda
  inside_code_linked (Getter class slot) = refl
  inside_code_linked (Setter class slot) = refl
  inside_code_linked (Builtin operation) = refl

  inside_function_linked : (function : Option Lambda) → inside_function (option_map (linked_lambda places) function) ≡ Ls (inside_function function)
  inside_function_linked None = refl
  inside_function_linked (Some lambda) = within_lambda places lambda

  inside_init_linked : (init : Option Init) → of_init (option_map (linked_init places) init) ≡ Ls (of_init init)
  inside_init_linked None = refl
  inside_init_linked (Some (Each term)) = inside_term places term
  inside_init_linked (Some (Calling term)) = inside_term places term

  inside_form_linked : (form : TopTerm) → of_top (linked_form places form) ≡ Ls (of_top form)
  inside_form_linked (tops.Init bindings term) = inside_term places term
  inside_form_linked (tops.Run term) = inside_term places term

  -- one row after the other
  module _ {X : Type 0} (link : X → X) (inside : X → List Lambda) (inner : (x : X) → inside (link x) ≡ Ls (inside x)) where
    all_inside : (xs : List X) → flat_map inside (map link xs) ≡ Ls (flat_map inside xs)
    all_inside [] = refl
    all_inside (x ∷ xs) = map_both (linked_lambda places) (inside x) (flat_map inside xs) (inside (link x)) (flat_map inside (map link xs)) (inner x) (all_inside xs)

    one_count : (x : X) → length (inside (link x)) ≡ length (inside x)
    one_count x = ap length (inner x) ∙ length-map (inside x) (linked_lambda places)

    all_count : (xs : List X) → length (flat_map inside (map link xs)) ≡ length (flat_map inside xs)
    all_count xs = ap length (all_inside xs) ∙ length-map (flat_map inside xs) (linked_lambda places)

    given_linked : (give : X × ℕ → List FlatBody) → ((x : X) (n : ℕ) → give (link x, n) ≡ map B (give (x, n))) → (xs : List X) (n : ℕ) → given give inside (map link xs) n ≡ map B (given give inside xs n)
    given_linked give each [] n = refl
    given_linked give each (x ∷ xs) n =
        let next = n + length (inside x) in
        (λ j. give (link x, n) ++ given give inside (map link xs) (n + one_count x j))
        ∙ map_both B (give (x, n)) (given give inside xs next) (give (link x, n)) (given give inside (map link xs) next) (each x n) (given_linked give each xs next)

    formed_linked : (give : X × ℕ → FlatBody) → ((x : X) (n : ℕ) → give (link x, n) ≡ B (give (x, n))) → (xs : List X) (n : ℕ) → map give (numbered_by inside (map link xs) n) ≡ map B (map give (numbered_by inside xs n))
    formed_linked give each [] n = refl
    formed_linked give each (x ∷ xs) n =
        let next = n + length (inside x) in
        (λ j. give (link x, n) ∷ map give (numbered_by inside (map link xs) (n + one_count x j)))
        ∙ (λ j. each x n j ∷ formed_linked give each xs next j)

  -- how many bodies begin
  dylan_same : (code : MethodCode) → is_dylan (linked_method_code places code) ≡ is_dylan code
  dylan_same (Dylan lambda) = refl
  dylan_same (Getter class slot) = refl
  dylan_same (Setter class slot) = refl
  dylan_same (Builtin operation) = refl

  some_same : (function : Option Lambda) → is_some (option_map (linked_lambda places) function) ≡ is_some function
  some_same None = refl
  some_same (Some lambda) = refl

  inits_same : (inits : List (Option Init)) → inits_in (map (option_map (linked_init places)) inits) ≡ inits_in inits
  inits_same [] = refl
  inits_same (None ∷ inits) = ap (λ (n : ℕ). 0 + n) (inits_same inits)
  inits_same (Some (Each term) ∷ inits) = ap (λ (n : ℕ). 1 + n) (inits_same inits)
  inits_same (Some (Calling term) ∷ inits) = ap (λ (n : ℕ). 1 + n) (inits_same inits)

  pub starts_linked : (parts : Parts) → starts (linked_parts places parts) ≡ starts parts
  starts_linked parts =
      let codes : count_by is_dylan (map (linked_method_code places) parts.codes) ≡ count_by is_dylan parts.codes =
      count_mapped is_dylan (linked_method_code places) parts.codes ∙ ap (λ (p : MethodCode → Bool). count_by p parts.codes) (fun_ext dylan_same) in
      let functions : count_by is_some (map (option_map (linked_lambda places)) parts.functions) ≡ count_by is_some parts.functions =
      count_mapped {X = Option Lambda} is_some (option_map (linked_lambda places)) parts.functions ∙ ap (λ (p : Option Lambda → Bool). count_by p parts.functions) (fun_ext some_same) in
      λ j. codes j + functions j + inits_same parts.inits j

  -- all bodies
  pub from_linked : (parts : Parts) → bodies_from (linked_parts places parts) ≡ map B (bodies_from parts)
  from_linked parts =
      let link_code = linked_method_code places in
      let link_function : Option Lambda → Option Lambda = option_map (linked_lambda places) in
      let link_init : Option Init → Option Init = option_map (linked_init places) in
      let link_form = linked_form places in
      let codes' = map link_code parts.codes in
      let functions' = map link_function parts.functions in
      let inits' = map link_init parts.inits in
      let forms' = map link_form parts.forms in
      let first = first_of parts in
      let methods = first + length (in_inits parts) in
      let variables = methods + length (in_codes parts) in
      let forms = variables + length (in_functions parts) in
      let at_first : first_of (linked_parts places parts) ≡ first = λ j. starts_linked parts j + length-map parts.forms link_form j in
      let by_inits = all_inside link_init of_init inside_init_linked parts.inits in
      let by_codes = all_inside link_code inside_code inside_code_linked parts.codes in
      let by_functions = all_inside link_function inside_function inside_function_linked parts.functions in
      let by_forms = all_inside link_form of_top inside_form_linked parts.forms in
      let at_methods : first_of (linked_parts places parts) + length (flat_map of_init inits') ≡ methods = λ j. at_first j + all_count link_init of_init inside_init_linked parts.inits j in
      let at_variables : first_of (linked_parts places parts) + length (flat_map of_init inits') + length (flat_map inside_code codes') ≡ variables = λ j. at_methods j + all_count link_code inside_code inside_code_linked parts.codes j in
      let at_forms : first_of (linked_parts places parts) + length (flat_map of_init inits') + length (flat_map inside_code codes') + length (flat_map inside_function functions') ≡ forms = λ j. at_variables j + all_count link_function inside_function inside_function_linked parts.functions j in
      let two = in_inits parts ++ in_codes parts in
      let three = two ++ in_functions parts in
      let inner : flat_map of_init inits' ++ flat_map inside_code codes' ++ flat_map inside_function functions' ++ flat_map of_top forms' ≡ Ls (three ++ in_forms parts) =
      map_both (linked_lambda places) three (in_forms parts) (flat_map of_init inits' ++ flat_map inside_code codes' ++ flat_map inside_function functions') (flat_map of_top forms')
      (map_both (linked_lambda places) two (in_functions parts) (flat_map of_init inits' ++ flat_map inside_code codes') (flat_map inside_function functions')
      (map_both (linked_lambda places) (in_inits parts) (in_codes parts) (flat_map of_init inits') (flat_map inside_code codes') by_inits by_codes) by_functions) by_forms in
      let a = given give_code inside_code parts.codes methods in
      let b = given give_function inside_function parts.functions variables in
      let c = given give_init of_init parts.inits first in
      let d = map give_form (numbered_by of_top parts.forms forms) in
      let e = closure_bodies (three ++ in_forms parts) first in
      let a' = given give_code inside_code codes' methods in
      let b' = given give_function inside_function functions' variables in
      let c' = given give_init of_init inits' first in
      let d' = map give_form (numbered_by of_top forms' forms) in
      let e' = closure_bodies (Ls (three ++ in_forms parts)) first in
      let to_a : a' ≡ map B a = given_linked link_code inside_code inside_code_linked give_code codes_linked parts.codes methods in
      let to_b : b' ≡ map B b = given_linked link_function inside_function inside_function_linked give_function functions_linked parts.functions variables in
      let to_c : c' ≡ map B c = given_linked link_init of_init inside_init_linked give_init inits_linked parts.inits first in
      let to_d : d' ≡ map B d = formed_linked link_form of_top inside_form_linked give_form form_linked parts.forms forms in
      let to_e : e' ≡ map B e = closures_linked (three ++ in_forms parts) first in
      (λ j. given give_code inside_code codes' (at_methods j) ++ given give_function inside_function functions' (at_variables j) ++ given give_init of_init inits' (at_first j)
      ++ map give_form (numbered_by of_top forms' (at_forms j)) ++ closure_bodies (inner j) (at_first j))
      ∙ map_both B (a ++ b ++ c ++ d) e (a' ++ b' ++ c' ++ d') e'
      (map_both B (a ++ b ++ c) d (a' ++ b' ++ c') d' (map_both B (a ++ b) c (a' ++ b') c' (map_both B a b a' b' to_a to_b) to_c) to_d) to_e

pub bodies_are_linked : BodiesAreLinked
bodies_are_linked places library =
    bodies_are (linked_library places library)
    ∙ (ap bodies_from (parts_linked places library)
    ∙ (from_linked places (parts_of library)
    ∙ sym (ap (map (linked_body places)) (bodies_are library))))
