-- The rows of plain forms are lowered.
use Rattle.std.proofs.Common.{◌≡◌, ℕ, Bool, true, false, ◌&&◌, List, [], ◌∷◌, ◌++◌, map, Option, Some, None, refl, sym, ap, ◌∙◌}
use Rattle.std.specs.Prelude.{codes}
use Rattle.std.specs.List.{list_all}
use Rattle.dy_base.specs.declared.ids.GenericId.{GenericId}
use Rattle.dy_base.specs.declared.ids.BindingId.{BindingId}
use Rattle.dy_tree.specs.declared.token.Token.{Token}
use Rattle.dy_term.specs.declared.types.DyType.{DyType}
use Rattle.dy_term.specs.declared.term.Lambda.{Lambda}
use Rattle.dy_term.specs.declared.rows.Row.{Row}
use Rattle.dy_term.specs.Types.{CoreType, CoreParams, object}
use Rattle.dy_term.specs.Rows.{CoreDraft, class_row, generic_row, method_row, domain_row}
use Rattle.dy_term.specs.Rows.{variable_row, top_term, CoreMethod, CoreVariable, function}
use Rattle.dy_term.specs.Rows.{type_constant, CoreTop, init, run}
use Rattle.dy_names.specs.declared.denotation.Denotation.{Denotation}
use Rattle.dy_names.specs.declared.denotation.Denotation.TheVariants as stands
use Rattle.dy_names.specs.Naming.{Locals}
use Rattle.dy_names.specs.Outside.{Outside}
use Rattle.dy_binding.specs.declared.progress.Progress.{Progress}
use Rattle.dy_binding.specs.Reads.{none}
use Rattle.dy_binding.specs.Bound.{standing}
use Rattle.dy_binding.specs.Types.{read_type, read_types, read_results, key_list, shape_of}
use Rattle.dy_resolution.specs.Terms.{core_term, core_lambda}
use Rattle.dy_rows.specs.Rows.{has, bound_to, generic_of, method_rows, read_shape, read_generic}
use Rattle.dy_rows.specs.Rows.{read_method, read_variables, read_variable, read_top, read_draft}
use Rattle.dy_library_rows.specs.Libraries.{Form, read_form, rows_of}
use Rattle.dy_lowering_whole.specs.Lowered.{is_lowered, is_lambda_lowered}
use Rattle.dy_scoped_rows.proofs.terms.Facts.{untrue, both_true, and_true}
use Rattle.dy_lowered_forms.specs.drafts.Kinds.{names_next, is_usual, takes_plainly}
use Rattle.dy_lowered_forms.specs.drafts.Plain.{is_plain}
use Rattle.dy_lowered_forms.specs.drafts.Plain.{is_lambda_plain, is_variable_plain, is_top_plain}
use Rattle.dy_lowered_forms.specs.drafts.Plain.{is_form_plain}
use Rattle.dy_scoped_rows.specs.Scoped.{is_row_lowered}
use Rattle.dy_lowered_forms.specs.drafts.Lowered.{PlainTermsAreLowered}
use Rattle.dy_lowered_forms.specs.drafts.Lowered.{PlainLambdasAreLowered, PlainFormsAreLowered}
use Rattle.dy_lowered_forms.proofs.drafts.Quiet.{AreQuiet}
use Rattle.dy_lowered_forms.proofs.drafts.Plain.{keyless, term_lowered, lambda_lowered}

abbrev Lowered : List Row → Type 0
Lowered rows = list_all is_row_lowered rows ≡ true

all_behind : (f : Row → Bool) (xs ys : List Row) → list_all f xs ≡ true → list_all f ys ≡ true → list_all f (xs ++ ys) ≡ true
all_behind f [] ys h g = g
all_behind f (x ∷ xs) ys h g =
    let p = both_true (f x) (list_all f xs) h in
    and_true (f x) (list_all f (xs ++ ys)) p.0 (all_behind f xs ys p.1 g)

alone : (b : Bool) → b ≡ true → b && true ≡ true
alone b is = and_true b true is refl

usual_quiet : (next : Option Token) → is_usual next ≡ true → AreQuiet (standing stands.NextMethod next [])
usual_quiet None is = tt
usual_quiet (Some token) is = (is, tt)

method_rows_lowered : (generic : GenericId) (lambda : Lambda) (sealed : Bool) → is_lambda_lowered lambda ≡ true
    → Lowered (method_rows generic lambda sealed)
method_rows_lowered generic lambda true is = alone (is_lambda_lowered lambda) is
method_rows_lowered generic lambda false is = alone (is_lambda_lowered lambda) is

module _ (out : Outside) where
  variables_lowered : (is_constant : Bool) (typed : List (Token × CoreType)) (locals : Locals) (p : Progress)
      → Lowered (read_variables out is_constant typed locals p).0.0
  variables_lowered is_constant [] locals p = refl
  variables_lowered is_constant (t ∷ typed) locals p =
      variables_lowered is_constant typed locals (bound_to t.0 (out.owner t.0) (read_type out t.1 locals p).1).1

  variable_lowered : (variable : CoreVariable) (p : Progress) → is_variable_plain variable ≡ true
      → Lowered (read_variable out variable [] p).0
  variable_lowered (function adjectives name code) p plain =
      let d = read_type out object [] p in
      alone _ (lambda_lowered out code stands.NoMethod [] d.1 plain tt)
  variable_lowered (type_constant name declared meant) p plain = refl

  top_lowered : (top : CoreTop) (p : Progress) → is_top_plain top ≡ true → Lowered (read_top out top [] p).0
  top_lowered (init is_constant typed term) p plain =
      let v = read_variables out is_constant typed [] p in
      all_behind is_row_lowered v.0.0 _ (variables_lowered is_constant typed [] p)
      (alone _ (term_lowered out term [] v.1 plain tt))
  top_lowered (run term) p plain = alone _ (term_lowered out term [] p plain tt)

  draft_lowered : (draft : CoreDraft) → is_form_plain draft ≡ true → Lowered (read_form out draft).0
  draft_lowered (class_row class) plain = untrue plain
  draft_lowered (generic_row generic) plain =
      let r = read_types out (map (λ (r : Token × CoreType). r.1) generic.params.required) [] none in
      alone _ (keyless generic.params r.0 plain)
  draft_lowered (method_row method) plain =
      let h = both_true (is_usual method.next) (is_lambda_plain method.code) plain in
      let g = generic_of method.generic (out.owner method.generic) none in
      let locals = standing stands.NextMethod method.next [] in
      let l = core_lambda out method.code stands.NextMethod locals g.1 in
      method_rows_lowered g.0 l.0 (has (codes "sealed") method.adjectives)
      (lambda_lowered out method.code stands.NextMethod locals g.1 h.1 (usual_quiet method.next h.0))
  draft_lowered (domain_row domain) plain = refl
  draft_lowered (variable_row variable) plain = variable_lowered variable none plain
  draft_lowered (top_term top) plain = top_lowered top none plain

pub forms_lowered : (out : Outside) → PlainFormsAreLowered out
forms_lowered out [] plain = refl
forms_lowered out (form ∷ forms) plain =
    let h = both_true (is_form_plain form.1) (list_all (λ (f : Form). is_form_plain f.1) forms) plain in
    all_behind is_row_lowered (read_form out form.1).0 (rows_of out forms)
    (draft_lowered out form.1 h.0) (forms_lowered out forms h.1)

pub terms_lowered : (out : Outside) → PlainTermsAreLowered out
terms_lowered out draft p plain = term_lowered out draft [] p plain tt

pub lambdas_lowered : (out : Outside) → PlainLambdasAreLowered out
lambdas_lowered out draft next p plain = lambda_lowered out draft next [] p plain tt
