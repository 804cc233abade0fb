-- What the rows of forms mention are such libraries, where what names and types mean outside of bodies
-- does, and the first library is one.
use Rattle.std.proofs.Common.{◌≡◌, ℕ, Bool, true, false, List, [], ◌∷◌, map, Option, Some, None, refl}
use Rattle.std.specs.Prelude.{codes, flat_map}
use Rattle.dy_base.specs.declared.ids.BindingId.{BindingId}
use Rattle.dy_base.specs.declared.ids.GenericId.{GenericId}
use Rattle.dy_tree.specs.declared.token.Token.{Token}
use Rattle.dy_term.specs.declared.term.Lambda.{Lambda}
use Rattle.dy_term.specs.declared.rows.ClassRow.{ClassRow}
use Rattle.dy_term.specs.declared.rows.MethodRow.{MethodRow}
use Rattle.dy_term.specs.declared.rows.SlotRow.{SlotRow}
use Rattle.dy_term.specs.declared.rows.VariableRow.{VariableRow}
use Rattle.dy_term.specs.declared.rows.TopTerm.{TopTerm}
use Rattle.dy_term.specs.declared.rows.TopTerm.TheVariants as tops
use Rattle.dy_term.specs.declared.rows.Row.{Row}
use Rattle.dy_term.specs.declared.rows.Row.TheVariants as rows
use Rattle.dy_term.specs.declared.rows.LibraryRow.{LibraryRow}
use Rattle.dy_term.specs.Types.{CoreType, object}
use Rattle.dy_term.specs.Rows.{CoreInit, each, calling, CoreSlot, CoreVariable, function}
use Rattle.dy_term.specs.Rows.{type_constant, CoreTop, init, run, CoreDraft, class_row, generic_row}
use Rattle.dy_term.specs.Rows.{method_row, domain_row, variable_row, top_term}
use Rattle.dy_names.specs.declared.denotation.Denotation.TheVariants.{NextMethod, NoMethod}
use Rattle.dy_names.specs.Naming.{Locals}
use Rattle.dy_names.specs.Outside.{Outside}
use Rattle.dy_binding.specs.declared.progress.Progress.{Progress}
use Rattle.dy_binding.specs.Reads.{none}
use Rattle.dy_binding.specs.Bound.{standing}
use Rattle.dy_binding.specs.Types.{read_type}
use Rattle.dy_resolution.specs.Terms.{core_term, core_lambda}
use Rattle.dy_rows.specs.Rows.{has, bound_to, generic_of, method_rows, classes_of, read_init, read_slot}
use Rattle.dy_rows.specs.Rows.{read_slots, read_variables, read_variable, read_top}
use Rattle.dy_library_rows.specs.Libraries.{Form, read_form, rows_of}
use Rattle.dy_assembly.specs.declared.library.Heading.{Heading}
use Rattle.dy_assembly.specs.Libraries.{class_in, method_in, variable_in, top_in, library_of, drafts_of}
use Rattle.dy_lowered.specs.Bodies.{all_slots}
use Rattle.dy_code.specs.Validity.{Every}
use Rattle.dy_lowering_whole.proofs.valid.Laying.{every_append}
use Rattle.dy_called_generics.proofs.Bodies.{flat_every}
use Rattle.dy_linked_rows.specs.Mentioned.{in_init, in_code, in_function, in_form, in_term, mentioned}
use Rattle.dy_viewed_rows.proofs.Terms.{Are, LambdaIn, both, four}
use Rattle.dy_viewed_rows.proofs.Drafts.{OutsideIn, term_in, lambda_in}

module _ (Is : ℕ → Type 0) where
  abbrev SlotIn : SlotRow → Type 0
  SlotIn slot = Are Is (in_init slot.init)

  abbrev ClassIn : ClassRow → Type 0
  ClassIn class = Every SlotIn class.slots

  abbrev MethodIn : MethodRow → Type 0
  MethodIn method = Are Is (in_code method.code)

  abbrev VariableIn : VariableRow → Type 0
  VariableIn variable = Are Is (in_function variable.function)

  abbrev TopIn : TopTerm → Type 0
  TopIn top = Are Is (in_form top)

  -- a row that mentions such libraries alone
  abbrev RowIn : Row → Type 0
  RowIn (rows.Class row) = ClassIn row
  RowIn (rows.Method row) = MethodIn row
  RowIn (rows.Variable row) = VariableIn row
  RowIn (rows.Top top) = TopIn top
  RowIn row = Unit {0}

  methods_in : (g : GenericId) (l : Lambda) (sealed : Bool) → LambdaIn Is l → Every RowIn (method_rows g l sealed)
  methods_in g l false h = (h, tt)
  methods_in g l true h = (h, (tt, tt))

  module _ (out : Outside) (outside : OutsideIn Is out) (first : Is 0) where
    init_in : (i : Option CoreInit) (locals : Locals) (p : Progress) → Are Is (in_init (read_init out i locals p).0)
    init_in None locals p = tt
    init_in (Some (each term)) locals p = term_in Is out outside term locals (record p { next = 0 })
    init_in (Some (calling term)) locals p = term_in Is out outside term locals (record p { next = 0 })

    slots_in : (slots : List CoreSlot) (locals : Locals) (p : Progress) → Every SlotIn (read_slots out slots locals p).0
    slots_in [] locals p = tt
    slots_in (slot ∷ slots) locals p =
        let g = generic_of slot.getter (out.owner slot.getter) p in
        let t = read_type out slot.slot_type locals g.1 in
        (init_in slot.init locals t.1, slots_in slots locals (read_slot out slot locals p).1)

    variables_in : (c : Bool) (ts : List (Token × CoreType)) (p : Progress) → Every RowIn (read_variables out c ts [] p).0.0
    variables_in c [] p = tt
    variables_in c (t ∷ ts) p =
        let d = read_type out t.1 [] p in
        (tt, variables_in c ts (bound_to t.0 (out.owner t.0) d.1).1)

    -- A name that means nothing is told, and stands for the first row of the first library.
    bound_in : (token : Token) (o : Option BindingId) (p : Progress) → ((b : BindingId) → o ≡ Some b → Is b.at.library) → Is (bound_to token o p).0.at.library
    bound_in token (Some b) p there = there b refl
    bound_in token None p there = first

    bindings_in : (c : Bool) (ts : List (Token × CoreType)) (p : Progress) → Are Is (map (λ (b : BindingId). b.at.library) (read_variables out c ts [] p).0.1)
    bindings_in c [] p = tt
    bindings_in c (t ∷ ts) p =
        let d = read_type out t.1 [] p in
        (bound_in t.0 (out.owner t.0) d.1 (λ b e. outside.names t.0 b e), bindings_in c ts (bound_to t.0 (out.owner t.0) d.1).1)

    row_of_variable : (v : CoreVariable) → Every RowIn (read_variable out v [] none).0
    row_of_variable (function adjectives name code) = (lambda_in Is out outside code NoMethod [] (read_type out object [] none).1, tt)
    row_of_variable (type_constant name declared meant) = (tt, tt)

    row_of_top : (t : CoreTop) → Every RowIn (read_top out t [] none).0
    row_of_top (init is_constant typed term) =
        let v = read_variables out is_constant typed [] none in
        let t = core_term out term [] v.1 in
        every_append RowIn v.0.0 (rows.Top (tops.Init v.0.1 t.0) ∷ []) (variables_in is_constant typed none)
        (both Is (map (λ (b : BindingId). b.at.library) v.0.1) (in_term t.0) (bindings_in is_constant typed none) (term_in Is out outside term [] v.1), tt)
    row_of_top (run term) = (term_in Is out outside term [] none, tt)

    rows_of_draft : (d : CoreDraft) → Every RowIn (read_form out d).0
    rows_of_draft (class_row class) = (slots_in class.slots [] (classes_of out class.supers none).1, tt)
    rows_of_draft (generic_row generic) = (tt, tt)
    rows_of_draft (method_row method) =
        let g = generic_of method.generic (out.owner method.generic) none in
        let around = standing NextMethod method.next [] in
        let l = core_lambda out method.code NextMethod around g.1 in
        methods_in g.0 l.0 (has (codes "sealed") method.adjectives) (lambda_in Is out outside method.code NextMethod around g.1)
    rows_of_draft (domain_row domain) = (tt, tt)
    rows_of_draft (variable_row variable) = row_of_variable variable
    rows_of_draft (top_term top) = row_of_top top

    rows_in : (forms : List Form) → Every RowIn (rows_of out forms)
    rows_in [] = tt
    rows_in (form ∷ forms) = every_append RowIn (read_form out form.1).0 (rows_of out forms) (rows_of_draft form.1) (rows_in forms)

  -- the rows of each kind
  one_class : (row : Row) → RowIn row → Every ClassIn (class_in row)
  one_class (rows.Class row) h = (h, tt)
  one_class _ h = tt

  one_method : (row : Row) → RowIn row → Every MethodIn (method_in row)
  one_method (rows.Method row) h = (h, tt)
  one_method _ h = tt

  one_variable : (row : Row) → RowIn row → Every VariableIn (variable_in row)
  one_variable (rows.Variable row) h = (h, tt)
  one_variable _ h = tt

  one_top : (row : Row) → RowIn row → Every TopIn (top_in row)
  one_top (rows.Top top) h = (h, tt)
  one_top _ h = tt

  -- So a library of these forms mentions such libraries alone.
  pub library_in : (heading : Heading) (out : Outside) (forms : List Form) → OutsideIn Is out → Is 0 → Are Is (mentioned (library_of heading out.owner (drafts_of forms) (rows_of out forms)))
  library_in heading out forms outside first =
      let library : LibraryRow = library_of heading out.owner (drafts_of forms) (rows_of out forms) in
      let all = rows_of out forms in
      let found = rows_in out outside first forms in
      let methods = flat_every MethodIn RowIn method_in one_method all found in
      let variables = flat_every VariableIn RowIn variable_in one_variable all found in
      let classes = flat_every ClassIn RowIn class_in one_class all found in
      let slots = flat_every SlotIn ClassIn (λ class. class.slots) (λ class h. h) library.classes classes in
      let tops = flat_every TopIn RowIn top_in one_top all found in
      four Is (flat_map (λ (m : MethodRow). in_code m.code) library.methods) (flat_map (λ (v : VariableRow). in_function v.function) library.variables)
      (flat_map (λ (s : SlotRow). in_init s.init) (all_slots library)) (flat_map in_form library.tops)
      (flat_every Is MethodIn (λ (m : MethodRow). in_code m.code) (λ m h. h) library.methods methods)
      (flat_every Is VariableIn (λ (v : VariableRow). in_function v.function) (λ v h. h) library.variables variables)
      (flat_every Is SlotIn (λ (s : SlotRow). in_init s.init) (λ s h. h) (all_slots library) slots)
      (flat_every Is TopIn in_form (λ t h. h) library.tops tops)
