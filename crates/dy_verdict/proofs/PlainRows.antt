-- No fault of forms that are read says that a file is absent.
use Rattle.std.proofs.Common.{◌≡◌, Bool, true, false, List, [], ◌∷◌, ◌++◌, map, Option, Some, None, refl, sym, subst, ◌∙◌}
use Rattle.std.specs.List.{list_any}
use Rattle.dy_base.specs.declared.fault.Fault.{Fault}
use Rattle.dy_base.specs.declared.fault.Place.{Place}
use Rattle.dy_base.specs.declared.ids.BindingId.{BindingId}
use Rattle.dy_base.specs.declared.ids.What.{What}
use Rattle.dy_base.specs.declared.ids.What.TheVariants as whats
use Rattle.dy_tree.specs.declared.token.Token.{Token}
use Rattle.dy_term.specs.Types.{CoreType, CoreKey, object, integer, named, single, single_name, union, range}
use Rattle.dy_term.specs.Rows.{CoreInit, each, calling, CoreSlot, CoreClass, CoreGeneric}
use Rattle.dy_term.specs.Rows.{CoreMethod, CoreDomain, CoreVariable, function, type_constant}
use Rattle.dy_term.specs.Rows.{CoreTop, init, run, CoreDraft, class_row, generic_row, method_row}
use Rattle.dy_term.specs.Rows.{domain_row, variable_row, top_term}
use Rattle.dy_names.specs.declared.denotation.Denotation.TheVariants.{NextMethod, NoMethod}
use Rattle.dy_names.specs.Naming.{Locals}
use Rattle.dy_names.specs.Outside.{Outside}
use Rattle.dy_binding.specs.declared.progress.Progress.{Progress}
use Rattle.dy_binding.specs.Reads.{none}
use Rattle.dy_binding.specs.Bound.{standing}
use Rattle.dy_binding.specs.Types.{read_type, read_types, read_results, key_list}
use Rattle.dy_resolution.specs.Terms.{core_term, core_lambda}
use Rattle.dy_widths.specs.Rows.{is_wide}
use Rattle.dy_rows.specs.Rows.{bound_to, generic_by, generic_of, no_class, class_by, class_of}
use Rattle.dy_rows.specs.Rows.{classes_of, setter_of, read_init, read_filling, read_slot, read_slots}
use Rattle.dy_rows.specs.Rows.{read_class, read_shape, read_generic, read_method, read_domain}
use Rattle.dy_rows.specs.Rows.{read_variables, read_variable, read_top, read_draft}
use Rattle.dy_library_rows.specs.Names.{plain_type}
use Rattle.dy_library_rows.specs.Libraries.{Form, read_form}
use Rattle.dy_library_names.specs.Told.{or_more}
use Rattle.dy_library_names.specs.Named.{form_faults, limit_by, limits}
use Rattle.dy_verdict.proofs.PlainTokens.{IsPresent}
use Rattle.dy_verdict.proofs.PlainNames.{Tells, Fine, IsTyped, told_fine, unbound_fine, type_fine}
use Rattle.dy_verdict.proofs.PlainNames.{types_fine, results_fine, term_fine, lambda_fine}

pub plain_typed : (declared : CoreType) → IsTyped (plain_type declared)
plain_typed object = tt
plain_typed integer = tt
plain_typed (named name) = λ e. cc
plain_typed (single value) = tt
plain_typed (single_name told name) = λ e. cc
plain_typed (union told types) = λ e. cc
plain_typed (range told least greatest) = λ e. cc

bound_fine : (token : Token) (owner : Option BindingId) (p : Progress) → Fine p → Fine (bound_to token owner p).1
bound_fine token (Some binding) p fine = fine
bound_fine token None p fine = unbound_fine token p fine

generic_by_fine : (token : Token) (binding : BindingId) (what : What) (p : Progress) → Fine p → Fine (generic_by token binding what p).1
generic_by_fine token binding whats.Generic p fine = fine
generic_by_fine token binding whats.Class p fine = unbound_fine token p fine
generic_by_fine token binding whats.Variable p fine = unbound_fine token p fine
generic_by_fine token binding whats.Constant p fine = unbound_fine token p fine
generic_by_fine token binding whats.Function p fine = unbound_fine token p fine
generic_by_fine token binding whats.Macro p fine = unbound_fine token p fine

generic_fine : (token : Token) (owner : Option BindingId) (p : Progress) → Fine p → Fine (generic_of token owner p).1
generic_fine token (Some binding) p fine = generic_by_fine token binding binding.what p fine
generic_fine token None p fine = unbound_fine token p fine

no_class_fine : (token : Token) (p : Progress) → Fine p → Fine (no_class token p).1
no_class_fine token p fine = told_fine _ p (λ e. cc) fine

class_by_fine : (token : Token) (binding : BindingId) (what : What) (p : Progress) → Fine p → Fine (class_by token binding what p).1
class_by_fine token binding whats.Class p fine = fine
class_by_fine token binding whats.Generic p fine = no_class_fine token p fine
class_by_fine token binding whats.Variable p fine = no_class_fine token p fine
class_by_fine token binding whats.Constant p fine = no_class_fine token p fine
class_by_fine token binding whats.Function p fine = no_class_fine token p fine
class_by_fine token binding whats.Macro p fine = no_class_fine token p fine

class_fine : (token : Token) (owner : Option BindingId) (p : Progress) → Fine p → Fine (class_of token owner p).1
class_fine token (Some binding) p fine = class_by_fine token binding binding.what p fine
class_fine token None p fine = unbound_fine token p fine

module _ (out : Outside) (types : (locals : Locals) (declared : CoreType) → IsTyped (out.type locals declared)) where
  classes_fine : (tokens : List Token) (p : Progress) → Fine p → Fine (classes_of out tokens p).1
  classes_fine [] p fine = fine
  classes_fine (token ∷ tokens) p fine =
      classes_fine tokens (class_of token (out.owner token) p).1 (class_fine token (out.owner token) p fine)

  setter_fine : (setter : Option Token) (p : Progress) → Fine p → Fine (setter_of out setter p).1
  setter_fine None p fine = fine
  setter_fine (Some token) p fine = generic_fine token (out.owner token) p fine

  init_fine : (filled : Option CoreInit) (locals : Locals) (p : Progress) → Fine p → Fine (read_init out filled locals p).1
  init_fine None locals p fine = fine
  init_fine (Some (each term)) locals p fine = term_fine out types term locals (record p { next = 0 }) fine
  init_fine (Some (calling term)) locals p fine = term_fine out types term locals (record p { next = 0 }) fine

  slot_fine : (slot : CoreSlot) (locals : Locals) (p : Progress) → Fine p → Fine (read_slot out slot locals p).1
  slot_fine slot locals p fine =
      let g = (generic_of slot.getter (out.owner slot.getter) p).1 in
      let t = (read_type out slot.slot_type locals g).1 in
      setter_fine slot.setter (read_init out slot.init locals t).1 (init_fine slot.init locals t
      (type_fine out types slot.slot_type locals g (generic_fine slot.getter (out.owner slot.getter) p fine)))

  slots_fine : (slots : List CoreSlot) (locals : Locals) (p : Progress) → Fine p → Fine (read_slots out slots locals p).1
  slots_fine [] locals p fine = fine
  slots_fine (slot ∷ slots) locals p fine = slots_fine slots locals (read_slot out slot locals p).1 (slot_fine slot locals p fine)

  variables_fine : (is_constant : Bool) (typed : List (Token × CoreType)) (locals : Locals) (p : Progress) → Fine p → Fine (read_variables out is_constant typed locals p).1
  variables_fine is_constant [] locals p fine = fine
  variables_fine is_constant (typed ∷ rest) locals p fine =
      let d = (read_type out typed.1 locals p).1 in
      variables_fine is_constant rest locals (bound_to typed.0 (out.owner typed.0) d).1
      (bound_fine typed.0 (out.owner typed.0) d (type_fine out types typed.1 locals p fine))

  variable_fine : (variable : CoreVariable) (locals : Locals) (p : Progress) → Fine p → Fine (read_variable out variable locals p).1
  variable_fine (function adjectives name code) locals p fine =
      lambda_fine out types code NoMethod locals (read_type out object locals p).1 (type_fine out types object locals p fine)
  variable_fine (type_constant name declared meant) locals p fine =
      type_fine out types meant locals (read_type out declared locals p).1 (type_fine out types declared locals p fine)

  top_fine : (top : CoreTop) (locals : Locals) (p : Progress) → Fine p → Fine (read_top out top locals p).1
  top_fine (init is_constant typed term) locals p fine =
      term_fine out types term locals (read_variables out is_constant typed locals p).1 (variables_fine is_constant typed locals p fine)
  top_fine (run term) locals p fine = term_fine out types term locals p fine

  draft_fine : (draft : CoreDraft) (locals : Locals) (p : Progress) → Fine p → Fine (read_draft out draft locals p).1
  draft_fine (class_row class) locals p fine = slots_fine class.slots locals (classes_of out class.supers p).1 (classes_fine class.supers p fine)
  draft_fine (generic_row generic) locals p fine =
      let required = map (λ (r : Token × CoreType). r.1) generic.params.required in
      let keys = map (λ (k : CoreKey). k.declared) (key_list generic.params.keys) in
      let r = (read_types out required locals p).1 in
      results_fine out types generic.results locals (read_types out keys locals r).1
      (types_fine out types keys locals r (types_fine out types required locals p fine))
  draft_fine (method_row method) locals p fine =
      lambda_fine out types method.code NextMethod (standing NextMethod method.next locals) (generic_of method.generic (out.owner method.generic) p).1
      (generic_fine method.generic (out.owner method.generic) p fine)
  draft_fine (domain_row domain) locals p fine =
      types_fine out types domain.types locals (generic_of domain.generic (out.owner domain.generic) p).1
      (generic_fine domain.generic (out.owner domain.generic) p fine)
  draft_fine (variable_row variable) locals p fine = variable_fine variable locals p fine
  draft_fine (top_term top) locals p fine = top_fine top locals p fine

-- of these no fault does
abbrev pub AllTell : List Fault → Type 0
AllTell [] = Unit {0}
AllTell (fault ∷ faults) = IsPresent fault × AllTell faults

pub all_tell : (some more : List Fault) → AllTell some → AllTell more → AllTell (some ++ more)
all_tell [] more s m = m
all_tell (fault ∷ some) more s m = (s.0, all_tell some more s.1 m)

more_tell : (first : Option Fault) (faults : List Fault) → Tells first → AllTell faults → AllTell (or_more first faults)
more_tell None faults f all = all
more_tell (Some fault) faults f all = (f, all)

limit_tells : (place : Place) (found : Option Fault) (wide : Bool) → Tells (limit_by place found wide)
limit_tells place (Some fault) wide = tt
limit_tells place None true = λ e. cc
limit_tells place None false = tt

module _ (out : Outside) (types : (locals : Locals) (declared : CoreType) → out.type locals declared ≡ plain_type declared) where
  pub forms_tell : (forms : List Form) → AllTell (form_faults out forms)
  forms_tell [] = tt
  forms_tell (form ∷ forms) =
      more_tell (read_form out form.1).1.first (form_faults out forms)
      (draft_fine out (λ locals declared. subst IsTyped (sym (types locals declared)) (plain_typed declared)) form.1 [] none tt) (forms_tell forms)

pub limits_tell : (out : Outside) (forms : List Form) → AllTell (limits out forms)
limits_tell out [] = tt
limits_tell out (form ∷ forms) =
    let first = (read_form out form.1).1.first in
    let wide = list_any is_wide (read_form out form.1).0 in
    more_tell (limit_by form.0 first wide) (limits out forms) (limit_tells form.0 first wide) (limits_tell out forms)
