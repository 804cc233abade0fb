-- The bodies of a library call generic functions that are there, where those of its rows do.
use Rattle.std.proofs.Common.{◌≡◌, ℕ, ◌+◌, List, [], ◌∷◌, ◌++◌, length, map, Option, Some, None, sym, ap, ◌∙◌, subst}
use Rattle.std.specs.Prelude.{flat_map}
use Rattle.dy_term.specs.declared.term.Term.{Term}
use Rattle.dy_term.specs.declared.term.Lambda.{Lambda}
use Rattle.dy_term.specs.declared.rows.Init.{Init}
use Rattle.dy_term.specs.declared.rows.Init.TheVariants.{Each, Calling}
use Rattle.dy_term.specs.declared.rows.ClassRow.{ClassRow}
use Rattle.dy_term.specs.declared.rows.MethodCode.{MethodCode}
use Rattle.dy_term.specs.declared.rows.MethodCode.TheVariants.{Dylan}
use Rattle.dy_term.specs.declared.rows.MethodRow.{MethodRow}
use Rattle.dy_term.specs.declared.rows.SlotRow.{SlotRow}
use Rattle.dy_term.specs.declared.rows.VariableRow.{VariableRow}
use Rattle.dy_term.specs.declared.rows.TopTerm.{TopTerm}
use Rattle.dy_term.specs.declared.rows.TopTerm.TheVariants as tops
use Rattle.dy_term.specs.declared.rows.LibraryRow.{LibraryRow}
use Rattle.dy_code.specs.declared.unit.Linked.{Linked}
use Rattle.dy_code.specs.Fetching as instr
use Rattle.dy_code.specs.Validity.{Every}
use Rattle.dy_meaning.specs.Lambdas.{of_init, of_class, of_classes, of_top}
use Rattle.dy_meaning.specs.Layouts.{layout_of_term}
use Rattle.dy_meaning.specs.Numbering.{numbered_by}
use Rattle.dy_lowered.specs.Bodies.{FlatBody, body_alone, top_body, inside_code, inside_method, inside_function, inside_variable, inside_slot, all_slots, closures_of, code_bodies, function_bodies, init_bodies, closure_bodies, lambda_body, bodies_of}
use Rattle.dy_lowered.specs.Flat.{Plain, Code, one}
use Rattle.dy_lowered.specs.Terms.{code_of}
use Rattle.dy_lowering_whole.specs.valid.Valid.{FlatFound}
use Rattle.dy_lowering_whole.proofs.valid.Laying.{every_append}
use Rattle.dy_lowering_whole.proofs.valid.Positions.{first, methods_at, variables_at, forms_at, methods_part, variables_part, slots_part, forms_part, closures_part, behind_slots, behind_variables, behind_methods, parts_are, give_method, give_variable, give_slot, give_top}
use Rattle.dy_lowering_whole.proofs.called.Pieces.{Found, join}
use Rattle.dy_lowering_whole.specs.called.Called.{CallsKnown, TermKnown}
use Rattle.dy_lowering_whole.proofs.called.Terms.{AllKnown}
use Rattle.dy_called_generics.proofs.Rows.{InitKnown, CodeKnown, FunctionKnown, TopKnown, SlotsKnown}

module _ {X Y : Type 0} (P : Y → Type 0) (Q : X → Type 0) (inside : X → List Lambda) where
  rows_every : (give : X × ℕ → List Y) → ((x : X) (n : ℕ) → Q x → Every P (give (x, n))) → (xs : List X) (n : ℕ) → Every Q xs → Every P (flat_map give (numbered_by inside xs n))
  rows_every give one [] n all = tt
  rows_every give one (x ∷ xs) n all =
      let next = n + length (inside x) in
      every_append P (give (x, n)) (flat_map give (numbered_by inside xs next)) (one x n all.0) (rows_every give one xs next all.1)

  rows_mapped : (give : X × ℕ → Y) → ((x : X) (n : ℕ) → Q x → P (give (x, n))) → (xs : List X) (n : ℕ) → Every Q xs → Every P (map give (numbered_by inside xs n))
  rows_mapped give one [] n all = tt
  rows_mapped give one (x ∷ xs) n all = (one x n all.0, rows_mapped give one xs (n + length (inside x)) all.1)

pub flat_every : {A B : Type 0} (P : B → Type 0) (Q : A → Type 0) (f : A → List B) → ((x : A) → Q x → Every P (f x)) → (xs : List A) → Every Q xs → Every P (flat_map f xs)
flat_every P Q f one [] all = tt
flat_every P Q f one (x ∷ xs) all = every_append P (f x) (flat_map f xs) (one x all.0) (flat_every P Q f one xs all.1)

module _ (linked : Linked) where
  abbrev BodyKnown : FlatBody → Type 0
  BodyKnown body = Found linked body.code

  alone_known : (term : Term) (number : ℕ) (last : Code) → TermKnown linked term → Found linked last → BodyKnown (body_alone term number last)
  alone_known term number last h end = join linked (code_of (layout_of_term term) term number) last (h.code (layout_of_term term) number) end

  code_bodies_known : (code : MethodCode) (number : ℕ) → CodeKnown linked code → Every BodyKnown (code_bodies code number)
  code_bodies_known (Dylan lambda) number h = (h.0 number, tt)
  code_bodies_known _ number h = tt

  function_bodies_known : (function : Option Lambda) (number : ℕ) → FunctionKnown linked function → Every BodyKnown (function_bodies function number)
  function_bodies_known None number h = tt
  function_bodies_known (Some lambda) number h = (h.0 number, tt)

  init_bodies_known : (init : Option Init) (number : ℕ) → InitKnown linked init → Every BodyKnown (init_bodies init number)
  init_bodies_known None number h = tt
  init_bodies_known (Some (Each term)) number h = (alone_known term number (one instr.Return) h (tt, tt), tt)
  init_bodies_known (Some (Calling term)) number h = (alone_known term number (Plain instr.Push ∷ Plain (instr.CallValue 0) ∷ one instr.Return) h (tt, (tt, (tt, tt))), tt)

  top_body_known : (top : TopTerm) (number : ℕ) → TopKnown linked top → BodyKnown (top_body top number)
  top_body_known (tops.Init bindings term) number h = alone_known term number (one instr.Return) h (tt, tt)
  top_body_known (tops.Run term) number h = alone_known term number (one instr.Return) h (tt, tt)

  closures_known : (lambdas : List Lambda) (number : ℕ) → AllKnown linked lambdas → Every BodyKnown (closure_bodies lambdas number)
  closures_known [] number all = tt
  closures_known (lambda ∷ lambdas) number all = (all.0 (number + 1), closures_known lambdas (number + 1) all.1)

  -- the closures inside of rows
  code_inside : (code : MethodCode) → CodeKnown linked code → AllKnown linked (inside_code code)
  code_inside (Dylan lambda) h = h.1
  code_inside _ h = tt

  function_inside : (function : Option Lambda) → FunctionKnown linked function → AllKnown linked (inside_function function)
  function_inside None h = tt
  function_inside (Some lambda) h = h.1

  init_inside : (init : Option Init) → InitKnown linked init → AllKnown linked (of_init init)
  init_inside None h = tt
  init_inside (Some (Each term)) h = h.inner
  init_inside (Some (Calling term)) h = h.inner

  top_inside : (top : TopTerm) → TopKnown linked top → AllKnown linked (of_top top)
  top_inside (tops.Init bindings term) h = h.inner
  top_inside (tops.Run term) h = h.inner

  -- a library whose terms do
  pub record LibraryKnown (library : LibraryRow) : Type 0 where
    pub classes : Every (λ (class : ClassRow). SlotsKnown linked class.slots) library.classes
    pub methods : Every (λ (method : MethodRow). CodeKnown linked method.code) library.methods
    pub variables : Every (λ (variable : VariableRow). FunctionKnown linked variable.function) library.variables
    pub tops : Every (TopKnown linked) library.tops

  pub bodies_known : (library : LibraryRow) → LibraryKnown library → Every (λ (body : FlatBody). Every (FlatFound linked) body.code) (bodies_of library)
  bodies_known library known =
      let slots : SlotsKnown linked (all_slots library) =
      flat_every (λ (slot : SlotRow). InitKnown linked slot.init) (λ (class : ClassRow). SlotsKnown linked class.slots) (λ class. class.slots) (λ class h. h) library.classes known.classes in
      let in_class : (class : ClassRow) → SlotsKnown linked class.slots → AllKnown linked (of_class class) =
      λ class h. flat_every (CallsKnown linked) (λ (slot : SlotRow). InitKnown linked slot.init) (λ slot. of_init slot.init) (λ slot i. init_inside slot.init i) class.slots h in
      let in_classes = flat_every (CallsKnown linked) (λ (class : ClassRow). SlotsKnown linked class.slots) of_class in_class library.classes known.classes in
      let in_methods = flat_every (CallsKnown linked) (λ (method : MethodRow). CodeKnown linked method.code) inside_method (λ method h. code_inside method.code h) library.methods known.methods in
      let in_variables = flat_every (CallsKnown linked) (λ (variable : VariableRow). FunctionKnown linked variable.function) inside_variable (λ variable h. function_inside variable.function h) library.variables known.variables in
      let in_tops = flat_every (CallsKnown linked) (TopKnown linked) of_top top_inside library.tops known.tops in
      let two = of_classes library ++ flat_map inside_method library.methods in
      let three = two ++ flat_map inside_variable library.variables in
      let closures : AllKnown linked (closures_of library) =
      every_append (CallsKnown linked) three (flat_map of_top library.tops)
      (every_append (CallsKnown linked) two (flat_map inside_variable library.variables) (every_append (CallsKnown linked) (of_classes library) (flat_map inside_method library.methods) in_classes in_methods) in_variables) in_tops in
      subst (Every BodyKnown) (sym (parts_are library))
      (every_append BodyKnown (methods_part library) (behind_methods library)
      (rows_every BodyKnown (λ (method : MethodRow). CodeKnown linked method.code) inside_method give_method (λ method n h. code_bodies_known method.code n h) library.methods (methods_at library) known.methods)
      (every_append BodyKnown (variables_part library) (behind_variables library)
      (rows_every BodyKnown (λ (variable : VariableRow). FunctionKnown linked variable.function) inside_variable give_variable (λ variable n h. function_bodies_known variable.function n h) library.variables (variables_at library) known.variables)
      (every_append BodyKnown (slots_part library) (behind_slots library)
      (rows_every BodyKnown (λ (slot : SlotRow). InitKnown linked slot.init) inside_slot give_slot (λ slot n h. init_bodies_known slot.init n h) (all_slots library) (first library) slots)
      (every_append BodyKnown (forms_part library) (closures_part library)
      (rows_mapped BodyKnown (TopKnown linked) of_top give_top top_body_known library.tops (forms_at library) known.tops) (closures_known (closures_of library) (first library) closures)))))
