-- The rows of forms in which nothing is wrong are in scope.
use Rattle.std.proofs.Common.{◌≡◌, ℕ, zero, suc, ◌+◌, ◌≤◌, Bool, true, false, ◌&&◌, List, [], ◌∷◌, ◌++◌, map, Option, Some, None, Result, Ok, Err, refl, sym, ap, ◌∙◌, subst, arith}
use Rattle.std.specs.List.{list_all, list_any}
use Rattle.dy_base.specs.declared.fault.Fault.{Fault}
use Rattle.dy_base.specs.declared.ids.BindingId.{BindingId}
use Rattle.dy_base.specs.declared.ids.GenericId.{GenericId}
use Rattle.dy_base.specs.declared.ids.What.{What}
use Rattle.dy_base.specs.declared.ids.What.TheVariants as whats
use Rattle.dy_tree.specs.declared.token.Token.{Token}
use Rattle.dy_term.specs.declared.term.Lambda.{Lambda}
use Rattle.dy_term.specs.declared.rows.Row.{Row}
use Rattle.dy_term.specs.declared.rows.TopTerm.TheVariants as tops
use Rattle.dy_term.specs.declared.rows.Row.TheVariants as rows
use Rattle.dy_term.specs.Types.{CoreType, object}
use Rattle.dy_term.specs.Drafts.{Core, CoreLambda}
use Rattle.dy_term.specs.Rows.{CoreMethod, CoreVariable, function, type_constant, CoreTop, init, run}
use Rattle.dy_term.specs.Rows.{CoreDraft, class_row, generic_row, method_row, domain_row}
use Rattle.dy_term.specs.Rows.{variable_row, top_term}
use Rattle.dy_names.specs.declared.denotation.Denotation.TheVariants.{NextMethod, NoMethod}
use Rattle.dy_names.specs.Outside.{Outside}
use Rattle.dy_binding.specs.declared.progress.Progress.{Progress}
use Rattle.dy_binding.specs.Reads.{none}
use Rattle.dy_binding.specs.Bound.{standing}
use Rattle.dy_binding.specs.Types.{read_type}
use Rattle.dy_resolution.specs.Terms.{core_term, core_lambda}
use Rattle.dy_widths.specs.Rows.{is_wide}
use Rattle.dy_rows.specs.Rows.{has, bound_to, generic_by, generic_of, method_rows, read_method}
use Rattle.dy_rows.specs.Rows.{read_variable, read_variables, read_top, read_draft}
use Rattle.dy_library_rows.specs.Libraries.{Form, or_fault, limit_of, rows_of, first_fault}
use Rattle.dy_library_rows.specs.Libraries.{first_limit, told, IsLibrary, read_form}
use Rattle.dy_meaning.specs.Numbers.{numbers_in}
use Rattle.dy_lowering_whole.specs.valid.Scoped.{is_scoped, is_lambda_scoped}
use Rattle.dy_lowering_whole.specs.Lowered.{is_lowered, is_lambda_lowered}
use Rattle.dy_scoped_rows.specs.Scoped.{is_row_scoped, is_row_lowered, RowsInScope}
use Rattle.dy_scoped_rows.proofs.terms.Facts.{no_fault, untrue, both_true, and_true}
use Rattle.dy_scoped_rows.proofs.terms.Below.{standing_below}
use Rattle.dy_scoped_rows.proofs.terms.Scoping.{type_next, terms_in_scope, lambdas_in_scope}

abbrev Scoped : List Row → Type 0
Scoped rs = list_all is_row_scoped rs ≡ true

abbrev Lowered : List Row → Type 0
Lowered rs = list_all is_row_lowered rs ≡ true

all_behind : (f : Row → Bool) (xs ys : List Row) → list_all f xs ≡ true → list_all f ys ≡ true
    → list_all f (xs ++ ys) ≡ true
all_behind f [] ys h g = g
all_behind f (x ∷ xs) ys h g =
    let p = both_true (f x) (list_all f xs) h in
    and_true (f x) _ p.0 (all_behind f xs ys p.1 g)

all_apart : (f : Row → Bool) (xs ys : List Row) → list_all f (xs ++ ys) ≡ true
    → (list_all f xs ≡ true) × (list_all f ys ≡ true)
all_apart f [] ys h = (refl, h)
all_apart f (x ∷ xs) ys h =
    let p = both_true (f x) (list_all f (xs ++ ys)) h in
    let q = all_apart f xs ys p.1 in
    (and_true (f x) (list_all f xs) p.0 q.0, q.1)

-- names of rows take no numbers
bound_next : (token : Token) (b : Option BindingId) (p : Progress)
    → (bound_to token b p).1.next ≡ p.next
bound_next token (Some b) p = refl
bound_next token None p = refl

generic_by_next : (token : Token) (b : BindingId) (w : What) (p : Progress)
    → (generic_by token b w p).1.next ≡ p.next
generic_by_next token b whats.Generic p = refl
generic_by_next token b whats.Class p = refl
generic_by_next token b whats.Variable p = refl
generic_by_next token b whats.Constant p = refl
generic_by_next token b whats.Function p = refl
generic_by_next token b whats.Macro p = refl

generic_next : (token : Token) (b : Option BindingId) (p : Progress)
    → (generic_of token b p).1.next ≡ p.next
generic_next token (Some b) p = generic_by_next token b b.what p
generic_next token None p = refl

module _ (out : Outside) where
  variables_next : (c : Bool) (ts : List (Token × CoreType)) (p : Progress)
      → (read_variables out c ts [] p).1.next ≡ p.next
  variables_next c [] p = refl
  variables_next c (t ∷ ts) p =
      let d = read_type out t.1 [] p in
      let b = bound_to t.0 (out.owner t.0) d.1 in
      variables_next c ts b.1 ∙ bound_next t.0 (out.owner t.0) d.1
      ∙ type_next (out.type [] t.1) p

  variables_scoped : (c : Bool) (ts : List (Token × CoreType)) (p : Progress)
      → Scoped (read_variables out c ts [] p).0.0
  variables_scoped c [] p = refl
  variables_scoped c (t ∷ ts) p =
      let d = read_type out t.1 [] p in
      let b = bound_to t.0 (out.owner t.0) d.1 in
      variables_scoped c ts b.1

  -- a term that runs by itself
  alone : (term : Core) (p : Progress) → p.next ≡ 0
      → let t = core_term out term [] p in t.1.first ≡ None → is_lowered t.0 ≡ true
      → is_scoped t.0 0 (numbers_in t.0) ≡ true
  alone term p e w l = terms_in_scope out term p e w l

  method_scoped : (g : GenericId) (l : Lambda) (c : Bool) → Lowered (method_rows g l c)
      → (is_lambda_lowered l ≡ true → is_lambda_scoped l 0 0 ≡ true)
      → Scoped (method_rows g l c)
  method_scoped g l false e f =
      and_true (is_lambda_scoped l 0 0) true (f (both_true (is_lambda_lowered l) true e).0) refl
  method_scoped g l true e f =
      and_true (is_lambda_scoped l 0 0) (true && true)
      (f (both_true (is_lambda_lowered l) (true && true) e).0) refl

  variable_scoped : (v : CoreVariable) → let r = read_variable out v [] none in
      r.1.first ≡ None → Lowered r.0 → Scoped r.0
  variable_scoped (function adjectives name code) w e =
      let d = read_type out object [] none in
      let l = core_lambda out code NoMethod [] d.1 in
      let h = both_true (is_lambda_lowered l.0) true e in
      and_true (is_lambda_scoped l.0 0 0) true
      (lambdas_in_scope out code NoMethod [] d.1 (type_next (out.type [] object) none) tt tt w h.0)
      refl
  variable_scoped (type_constant name declared meant) w e = refl

  top_scoped : (t : CoreTop) → let r = read_top out t [] none in
      r.1.first ≡ None → Lowered r.0 → Scoped r.0
  top_scoped (init is_constant typed term) w e =
      let v = read_variables out is_constant typed [] none in
      let t = core_term out term [] v.1 in
      let top = rows.Top (tops.Init v.0.1 t.0) in
      let h = all_apart is_row_lowered v.0.0 (top ∷ []) e in
      let g = both_true (is_lowered t.0) true h.1 in
      all_behind is_row_scoped v.0.0 (top ∷ []) (variables_scoped is_constant typed none)
      (and_true (is_scoped t.0 0 (numbers_in t.0)) true
      (alone term v.1 (variables_next is_constant typed none) w g.0) refl)
  top_scoped (run term) w e =
      let t = core_term out term [] none in
      let g = both_true (is_lowered t.0) true e in
      and_true (is_scoped t.0 0 (numbers_in t.0)) true (alone term none refl w g.0) refl

  draft_scoped : (d : CoreDraft) → let r = read_form out d in
      r.1.first ≡ None → Lowered r.0 → Scoped r.0
  draft_scoped (class_row class) w e = untrue e
  draft_scoped (generic_row generic) w e = refl
  draft_scoped (method_row method) w e =
      let g = generic_of method.generic (out.owner method.generic) none in
      let around = standing NextMethod method.next [] in
      let l = core_lambda out method.code NextMethod around g.1 in
      method_scoped g.0 l.0 _ e (λ h.
      lambdas_in_scope out method.code NextMethod around g.1
      (generic_next method.generic (out.owner method.generic) none) tt
      (standing_below 0 NextMethod method.next [] tt tt) w h)
  draft_scoped (domain_row domain) w e = refl
  draft_scoped (variable_row variable) w e = variable_scoped variable w e
  draft_scoped (top_term top) w e = top_scoped top w e

  no_first : (a b : Option Fault) → or_fault a b ≡ None → (a ≡ None) × (b ≡ None)
  no_first None b e = (refl, e)
  no_first (Some f) b e = absurd (no_fault f e)

  forms_scoped : (forms : List Form) → first_fault out forms ≡ None
      → Lowered (rows_of out forms) → Scoped (rows_of out forms)
  forms_scoped [] w e = refl
  forms_scoped (form ∷ forms) w e =
      let f = no_first (read_form out form.1).1.first (first_fault out forms) w in
      let h = all_apart is_row_lowered (read_form out form.1).0 (rows_of out forms) e in
      all_behind is_row_scoped (read_form out form.1).0 (rows_of out forms)
      (draft_scoped form.1 f.0 h.0) (forms_scoped forms f.1 h.1)

pub rows_in_scope : (out : Outside) → RowsInScope out
rows_in_scope out forms read h e =
    subst (λ rs. list_all is_row_scoped rs ≡ true) (sym h.1)
    (forms_scoped out forms (no_first out (first_fault out forms) (first_limit out forms) h.0).0
    (subst (λ rs. list_all is_row_lowered rs ≡ true) h.1 e))
