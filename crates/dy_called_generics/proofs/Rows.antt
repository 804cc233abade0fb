-- The rows of forms call generic functions that are there.
use Rattle.std.proofs.Common.{◌≡◌, ℕ, Bool, true, false, List, [], ◌∷◌, ◌++◌, Option, Some, None}
use Rattle.std.specs.Prelude.{codes}
use Rattle.dy_base.specs.declared.ids.GenericId.{GenericId}
use Rattle.dy_tree.specs.declared.token.Token.{Token}
use Rattle.dy_term.specs.declared.term.Lambda.{Lambda}
use Rattle.dy_term.specs.declared.rows.Init.{Init}
use Rattle.dy_term.specs.declared.rows.Init.TheVariants as inits
use Rattle.dy_term.specs.declared.rows.MethodCode.{MethodCode}
use Rattle.dy_term.specs.declared.rows.MethodCode.TheVariants.{Dylan}
use Rattle.dy_term.specs.declared.rows.SlotRow.{SlotRow}
use Rattle.dy_term.specs.declared.rows.TopTerm.{TopTerm}
use Rattle.dy_term.specs.declared.rows.TopTerm.TheVariants as tops
use Rattle.dy_term.specs.declared.rows.Row.{Row}
use Rattle.dy_term.specs.declared.rows.Row.TheVariants as rows
use Rattle.dy_term.specs.Types.{CoreType, object}
use Rattle.dy_term.specs.Rows.{CoreInit, each, calling, CoreSlot, CoreVariable, function}
use Rattle.dy_term.specs.Rows.{type_constant, CoreTop, init, run, CoreDraft, class_row, generic_row}
use Rattle.dy_term.specs.Rows.{method_row, domain_row, variable_row, top_term}
use Rattle.dy_names.specs.declared.denotation.Denotation.TheVariants.{NextMethod, NoMethod}
use Rattle.dy_names.specs.Naming.{Locals}
use Rattle.dy_names.specs.Outside.{Outside}
use Rattle.dy_binding.specs.declared.progress.Progress.{Progress}
use Rattle.dy_binding.specs.Reads.{none}
use Rattle.dy_binding.specs.Bound.{standing}
use Rattle.dy_binding.specs.Types.{read_type}
use Rattle.dy_resolution.specs.Terms.{core_term, core_lambda}
use Rattle.dy_rows.specs.Rows.{has, bound_to, generic_of, method_rows, classes_of, read_init, read_slot}
use Rattle.dy_rows.specs.Rows.{read_slots, read_variables, read_variable, read_top}
use Rattle.dy_library_rows.specs.Libraries.{Form, read_form, rows_of}
use Rattle.dy_code.specs.declared.unit.Linked.{Linked}
use Rattle.dy_code.specs.Validity.{Every}
use Rattle.dy_lowering_whole.proofs.valid.Laying.{every_append}
use Rattle.dy_lowering_whole.specs.called.Called.{TermKnown, LambdaKnown, NamesKnown}
use Rattle.dy_lowering_whole.proofs.called.Drafts.{term_known, lambda_known}

module _ (linked : Linked) where
  abbrev pub InitKnown : Option Init → Type 0
  InitKnown None = Unit {0}
  InitKnown (Some (inits.Each term)) = TermKnown linked term
  InitKnown (Some (inits.Calling term)) = TermKnown linked term

  abbrev pub CodeKnown : MethodCode → Type 0
  CodeKnown (Dylan lambda) = LambdaKnown linked lambda
  CodeKnown code = Unit {0}

  abbrev pub FunctionKnown : Option Lambda → Type 0
  FunctionKnown None = Unit {0}
  FunctionKnown (Some lambda) = LambdaKnown linked lambda

  abbrev pub TopKnown : TopTerm → Type 0
  TopKnown (tops.Init bindings term) = TermKnown linked term
  TopKnown (tops.Run term) = TermKnown linked term

  abbrev pub SlotsKnown : List SlotRow → Type 0
  SlotsKnown slots = Every (λ (slot : SlotRow). InitKnown slot.init) slots

  abbrev pub RowKnown : Row → Type 0
  RowKnown (rows.Class row) = SlotsKnown row.slots
  RowKnown (rows.Method row) = CodeKnown row.code
  RowKnown (rows.Variable row) = FunctionKnown row.function
  RowKnown (rows.Top top) = TopKnown top
  RowKnown row = Unit {0}

  module _ (out : Outside) (known : NamesKnown linked out) where
    init_known : (i : Option CoreInit) (locals : Locals) (p : Progress) → InitKnown (read_init out i locals p).0
    init_known None locals p = tt
    init_known (Some (each term)) locals p = term_known linked out known term locals (record p { next = 0 })
    init_known (Some (calling term)) locals p = term_known linked out known term locals (record p { next = 0 })

    slots_known : (slots : List CoreSlot) (locals : Locals) (p : Progress) → SlotsKnown (read_slots out slots locals p).0
    slots_known [] locals p = tt
    slots_known (slot ∷ slots) locals p =
        let g = generic_of slot.getter (out.owner slot.getter) p in
        let t = read_type out slot.slot_type locals g.1 in
        (init_known slot.init locals t.1, slots_known slots locals (read_slot out slot locals p).1)

    methods_known : (g : GenericId) (l : Lambda) (sealed : Bool) → LambdaKnown linked l → Every RowKnown (method_rows g l sealed)
    methods_known g l false h = (h, tt)
    methods_known g l true h = (h, (tt, tt))

    variables_known : (c : Bool) (ts : List (Token × CoreType)) (p : Progress) → Every RowKnown (read_variables out c ts [] p).0.0
    variables_known c [] p = tt
    variables_known c (t ∷ ts) p =
        let d = read_type out t.1 [] p in
        (tt, variables_known c ts (bound_to t.0 (out.owner t.0) d.1).1)

    variable_known : (v : CoreVariable) → Every RowKnown (read_variable out v [] none).0
    variable_known (function adjectives name code) = (lambda_known linked out known code NoMethod [] (read_type out object [] none).1, tt)
    variable_known (type_constant name declared meant) = (tt, tt)

    top_known : (t : CoreTop) → Every RowKnown (read_top out t [] none).0
    top_known (init is_constant typed term) =
        let v = read_variables out is_constant typed [] none in
        every_append RowKnown v.0.0 (rows.Top (tops.Init v.0.1 (core_term out term [] v.1).0) ∷ []) (variables_known is_constant typed none) (term_known linked out known term [] v.1, tt)
    top_known (run term) = (term_known linked out known term [] none, tt)

    draft_known : (d : CoreDraft) → Every RowKnown (read_form out d).0
    draft_known (class_row class) = (slots_known class.slots [] (classes_of out class.supers none).1, tt)
    draft_known (generic_row generic) = (tt, tt)
    draft_known (method_row method) =
        let g = generic_of method.generic (out.owner method.generic) none in
        let around = standing NextMethod method.next [] in
        let l = core_lambda out method.code NextMethod around g.1 in
        methods_known g.0 l.0 (has (codes "sealed") method.adjectives) (lambda_known linked out known method.code NextMethod around g.1)
    draft_known (domain_row domain) = (tt, tt)
    draft_known (variable_row variable) = variable_known variable
    draft_known (top_term top) = top_known top

    pub rows_known : (forms : List Form) → Every RowKnown (rows_of out forms)
    rows_known [] = tt
    rows_known (form ∷ forms) = every_append RowKnown (read_form out form.1).0 (rows_of out forms) (draft_known form.1) (rows_known forms)
