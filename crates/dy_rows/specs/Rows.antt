-- Whole forms as rows (DRM 5 and 6): each name is that of a row, and what is wrong is told at the
-- name.
use Rattle.std.specs.Prelude.{◌≡◌, ℕ, Bool, true, false, List, [], ◌∷◌, ◌++◌, map, Option, Some}
use Rattle.std.specs.Prelude.{None, Result, Ok, Err, codes}
use Rattle.std.specs.Option.{option_map}
use Rattle.std.specs.List.{list_any}
use Rattle.dy_base.specs.Folding.{folded}
use Rattle.dy_base.specs.declared.kind.Kind.TheVariants.{NotAType}
use Rattle.dy_base.specs.declared.fault.Refusal.{Refusal}
use Rattle.dy_base.specs.declared.fault.Refusal.TheVariants.{Fault, Memory}
use Rattle.dy_base.specs.declared.ids.BindingId.{BindingId}
use Rattle.dy_base.specs.declared.ids.What.{What}
use Rattle.dy_base.specs.declared.ids.What.TheVariants as whats
use Rattle.dy_base.specs.declared.ids.ClassId.{ClassId}
use Rattle.dy_base.specs.declared.ids.GenericId.{GenericId}
use Rattle.dy_base.specs.declared.ids.Ref.{Ref}
use Rattle.dy_tree.specs.Spelling.{is_spelled}
use Rattle.dy_tree.specs.declared.token.Token.{Token}
use Rattle.dy_term.specs.declared.types.DyType.{DyType}
use Rattle.dy_term.specs.declared.types.Params.{Params}
use Rattle.dy_term.specs.declared.term.Lambda.{Lambda, out-Lambda}
use Rattle.dy_term.specs.declared.rows.Init.{Init}
use Rattle.dy_term.specs.declared.rows.Init.TheVariants as inits
use Rattle.dy_term.specs.declared.rows.SlotRow.{SlotRow}
use Rattle.dy_term.specs.declared.rows.MethodCode.TheVariants.{Dylan}
use Rattle.dy_term.specs.declared.rows.TopTerm.TheVariants as tops
use Rattle.dy_term.specs.declared.rows.Row.{Row}
use Rattle.dy_term.specs.declared.rows.Row.TheVariants as rows
use Rattle.dy_term.specs.Types.{CoreType, CoreParams, object}
use Rattle.dy_term.specs.Rows.{CoreInit, each, calling, CoreSlot, CoreClass, CoreGeneric}
use Rattle.dy_term.specs.Rows.{CoreMethod, CoreDomain, CoreVariable, function, type_constant}
use Rattle.dy_term.specs.Rows.{CoreTop, init, run, CoreDraft, class_row, generic_row, method_row}
use Rattle.dy_term.specs.Rows.{domain_row, variable_row, top_term}
use Rattle.dy_names.specs.declared.denotation.Denotation.TheVariants.{NextMethod, NoMethod}
use Rattle.dy_names.specs.Outside.{Outside}
use Rattle.dy_binding.specs.declared.progress.Progress.{Progress}
use Rattle.dy_binding.specs.Faults.{fault_at}
use Rattle.dy_binding.specs.Reads.{Reads, told}
use Rattle.dy_binding.specs.Bound.{standing}
use Rattle.dy_binding.specs.Names.{unbound}
use Rattle.dy_binding.specs.Types.{read_type, read_types, read_results, key_list, shape_of}
use Rattle.dy_resolution.specs.Terms.{core_term, core_lambda}

-- the row of what is refused, which is never given to anyone
abbrev pub no_row : Ref
no_row = record { library = 0; row = 0 }

-- whether an adjective stands among these
abbrev pub has : List ℕ → List Token → Bool
has text adjectives = list_any (λ a. is_spelled text a) adjectives

-- what a name is bound to
abbrev pub bound_to : Token → Option BindingId → Progress → BindingId × Progress
bound_to token (Some binding) p = (binding, p)
bound_to token None p = (record { what = whats.Variable; at = no_row }, unbound token p)

-- the generic function of a name; another thing is no generic function, and so the name has no
-- binding here
abbrev pub generic_by : Token → BindingId → What → Progress → GenericId × Progress
generic_by token binding whats.Generic p = (record { 0 = binding.at }, p)
generic_by token binding whats.Class p = (record { 0 = no_row }, unbound token p)
generic_by token binding whats.Variable p = (record { 0 = no_row }, unbound token p)
generic_by token binding whats.Constant p = (record { 0 = no_row }, unbound token p)
generic_by token binding whats.Function p = (record { 0 = no_row }, unbound token p)
generic_by token binding whats.Macro p = (record { 0 = no_row }, unbound token p)

abbrev pub generic_of : Token → Option BindingId → Progress → GenericId × Progress
generic_of token (Some binding) p = generic_by token binding binding.what p
generic_of token None p = (record { 0 = no_row }, unbound token p)

-- the class of a name
abbrev pub no_class : Token → Progress → ClassId × Progress
no_class token p = (record { 0 = no_row }, told (fault_at NotAType token []) p)

abbrev pub class_by : Token → BindingId → What → Progress → ClassId × Progress
class_by token binding whats.Class p = (record { 0 = binding.at }, p)
class_by token binding whats.Generic p = no_class token p
class_by token binding whats.Variable p = no_class token p
class_by token binding whats.Constant p = no_class token p
class_by token binding whats.Function p = no_class token p
class_by token binding whats.Macro p = no_class token p

abbrev pub class_of : Token → Option BindingId → Progress → ClassId × Progress
class_of token (Some binding) p = class_by token binding binding.what p
class_of token None p = (record { 0 = no_row }, unbound token p)

-- a slot with these generic functions, this type, and this to fill it
abbrev pub slot_of : CoreSlot → GenericId → Option GenericId → DyType × Option Init → SlotRow
slot_of slot getter setter filling = record {
  getter = getter;
  setter = setter;
  kind = slot.kind;
  slot_type = filling.0;
  keyword = option_map (λ k. folded k.text) slot.keyword;
  required = slot.required;
  init = filling.1;
}

-- a method, and the domain of its specializers where it is sealed
abbrev pub method_rows : GenericId → Lambda → Bool → List Row
method_rows generic lambda false =
    rows.Method (record {
      generic = generic;
      params = (out-Lambda lambda).params;
      results = (out-Lambda lambda).results;
      code = Dylan lambda;
    }) ∷ []
method_rows generic lambda true =
    rows.Method (record {
      generic = generic;
      params = (out-Lambda lambda).params;
      results = (out-Lambda lambda).results;
      code = Dylan lambda;
    })
    ∷ rows.Domain (record {
      generic = generic;
      types = (out-Lambda lambda).params.required;
      result = None;
    }) ∷ []

module _ (out : Outside) where
  abbrev pub classes_of : List Token → Progress → List ClassId × Progress
  classes_of [] p = ([], p)
  classes_of (token ∷ tokens) p =
      let c = class_of token (out.owner token) p in
      let r = classes_of tokens c.1 in
      (c.0 ∷ r.0, r.1)

  abbrev pub setter_of : Option Token → Progress → Option GenericId × Progress
  setter_of None p = (None, p)
  setter_of (Some token) p =
      let g = generic_of token (out.owner token) p in
      (Some g.0, g.1)

  -- An init expression has the numbers from 0 on.
  abbrev pub read_init : Option CoreInit → Reads (Option Init)
  read_init None locals p = (None, p)
  read_init (Some (each term)) locals p =
      let t = core_term out term locals (record p { next = 0 }) in
      (Some (inits.Each t.0), t.1)
  read_init (Some (calling term)) locals p =
      let t = core_term out term locals (record p { next = 0 }) in
      (Some (inits.Calling t.0), t.1)

  -- the type of a slot, and what fills it
  abbrev pub read_filling : CoreSlot → Reads (DyType × Option Init)
  read_filling slot locals p =
      let t = read_type out slot.slot_type locals p in
      let i = read_init slot.init locals t.1 in
      ((t.0, i.0), i.1)

  abbrev pub read_slot : CoreSlot → Reads SlotRow
  read_slot slot locals p =
      let g = generic_of slot.getter (out.owner slot.getter) p in
      let f = read_filling slot locals g.1 in
      let s = setter_of slot.setter f.1 in
      (slot_of slot g.0 s.0 f.0, s.1)

  abbrev pub read_slots : List CoreSlot → Reads (List SlotRow)
  read_slots [] locals p = ([], p)
  read_slots (slot ∷ slots) locals p =
      let f = read_slot slot locals p in
      let r = read_slots slots locals f.1 in
      (f.0 ∷ r.0, r.1)

  -- a class, whose order is found later
  abbrev pub read_class : CoreClass → Reads (List Row)
  read_class class locals p =
      let s = classes_of class.supers p in
      let r = read_slots class.slots locals s.1 in (
        rows.Class (record {
          name = folded class.name.text;
          supers = s.0;
          order = [];
          is_open = has (codes "open") class.adjectives;
          is_abstract = has (codes "abstract") class.adjectives;
          is_primary = has (codes "primary") class.adjectives;
          slots = r.0;
        }) ∷ [],
        r.1,
      )

  -- the types of parameters; those of keywords are read for what is wrong with them
  abbrev pub read_shape : CoreParams → Reads Params
  read_shape params locals p =
      let r = read_types out (map (λ r. r.1) params.required) locals p in
      let k = read_types out (map (λ k. k.declared) (key_list params.keys)) locals r.1 in
      (shape_of params r.0, k.1)

  abbrev pub read_generic : CoreGeneric → Reads (List Row)
  read_generic generic locals p =
      let s = read_shape generic.params locals p in
      let r = read_results out generic.results locals s.1 in (
        rows.Generic (record {
          name = folded generic.name.text;
          is_open = has (codes "open") generic.adjectives;
          params = s.0;
          results = r.0;
        }) ∷ [],
        r.1,
      )

  abbrev pub read_method : CoreMethod → Reads (List Row)
  read_method method locals p =
      let g = generic_of method.generic (out.owner method.generic) p in
      let l = core_lambda out method.code NextMethod (standing NextMethod method.next locals) g.1 in
      (method_rows g.0 l.0 (has (codes "sealed") method.adjectives), l.1)

  abbrev pub read_domain : CoreDomain → Reads (List Row)
  read_domain domain locals p =
      let g = generic_of domain.generic (out.owner domain.generic) p in
      let t = read_types out domain.types locals g.1 in
      (rows.Domain (record { generic = g.0; types = t.0; result = None }) ∷ [], t.1)

  abbrev pub read_variable : CoreVariable → Reads (List Row)
  read_variable (function adjectives name code) locals p =
      let d = read_type out object locals p in
      let l = core_lambda out code NoMethod locals d.1 in (
        rows.Variable (record {
          name = folded name.text;
          declared = d.0;
          is_constant = true;
          function = Some l.0;
          named = None;
          builtin = None;
        }) ∷ [],
        l.1,
      )
  read_variable (type_constant name declared meant) locals p =
      let d = read_type out declared locals p in
      let m = read_type out meant locals d.1 in (
        rows.Variable (record {
          name = folded name.text;
          declared = d.0;
          is_constant = true;
          function = None;
          named = Some m.0;
          builtin = None;
        }) ∷ [],
        m.1,
      )

  -- the rows of variables or constants, and their bindings
  abbrev pub read_variables : Bool → List (Token × CoreType) → Reads (List Row × List BindingId)
  read_variables is_constant [] locals p = (([], []), p)
  read_variables is_constant (typed ∷ rest) locals p =
      let d = read_type out typed.1 locals p in
      let b = bound_to typed.0 (out.owner typed.0) d.1 in
      let r = read_variables is_constant rest locals b.1 in (
        (
          rows.Variable (record {
            name = folded typed.0.text;
            declared = d.0;
            is_constant = is_constant;
            function = None;
            named = None;
            builtin = None;
          }) ∷ r.0.0,
          b.0 ∷ r.0.1,
        ),
        r.1,
      )

  abbrev pub read_top : CoreTop → Reads (List Row)
  read_top (init is_constant typed term) locals p =
      let v = read_variables is_constant typed locals p in
      let t = core_term out term locals v.1 in
      (v.0.0 ++ rows.Top (tops.Init v.0.1 t.0) ∷ [], t.1)
  read_top (run term) locals p =
      let t = core_term out term locals p in
      (rows.Top (tops.Run t.0) ∷ [], t.1)

  -- a form
  abbrev pub read_draft : CoreDraft → Reads (List Row)
  read_draft (class_row class) = read_class class
  read_draft (generic_row generic) = read_generic generic
  read_draft (method_row method) = read_method method
  read_draft (domain_row domain) = read_domain domain
  read_draft (variable_row variable) = read_variable variable
  read_draft (top_term top) = read_top top

-- The rows where nothing is wrong, else the first fault. Want of memory may be answered at any
-- time.
abbrev pub IsAnswer : List Row × Progress → Result (List Row) Refusal → Type 0
IsAnswer read (Ok rows) = (read.1.first ≡ None) × (rows ≡ read.0)
IsAnswer read (Err (Fault fault)) = read.1.first ≡ Some fault
IsAnswer read (Err Memory) = Unit {0}
