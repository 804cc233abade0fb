-- Forms that come early (own): until types and calls that choose among methods come, no constant
-- stands for a type, and no generic function has two methods.
use Rattle.std.specs.Prelude.{Bool, true, false, ◌&&◌, List, [], ◌∷◌, ◌++◌, Option, Some, None}
use Rattle.std.specs.List.{list_any}
use Rattle.dy_base.specs.declared.kind.Kind.TheVariants.{Syntax}
use Rattle.dy_base.specs.declared.fault.Fault.{Fault}
use Rattle.dy_base.specs.declared.fault.Place.{Place}
use Rattle.dy_term.specs.Rows.{CoreDraft, class_row, generic_row, method_row, domain_row}
use Rattle.dy_term.specs.Rows.{variable_row, top_term, CoreVariable, function, type_constant}
use Rattle.dy_modules.specs.declared.owner.Owner.{Owner}
use Rattle.dy_modules.specs.declared.owner.Owner.TheVariants.{Outside, Own}
use Rattle.dy_library_rows.specs.Libraries.{Form}
use Rattle.dy_definitions.specs.declared.definitions.Definition.{Definition}
use Rattle.dy_definitions.specs.Names.{is_generic, is_of, is_method}
use Rattle.dy_library_names.specs.Told.{or_more}

abbrev pub is_type_constant : CoreVariable → Bool
is_type_constant (function adjectives name code) = false
is_type_constant (type_constant name declared meant) = true

-- a constant that stands for a type
abbrev pub stands_for_type : CoreDraft → Bool
stands_for_type (class_row class) = false
stands_for_type (generic_row generic) = false
stands_for_type (method_row method) = false
stands_for_type (domain_row domain) = false
stands_for_type (variable_row variable) = is_type_constant variable
stands_for_type (top_term top) = false

-- It is told at the form, and shows nothing.
abbrev pub early_at : Place → Fault
early_at place = record {
  kind = Syntax;
  library = [];
  place = Some place;
  shown = [];
  numbers = [];
}

abbrev pub early_if : Bool → Place → Option Fault
early_if true place = Some (early_at place)
early_if false place = None

-- the forms that are constants which stand for types
abbrev pub type_faults : List Form → List Fault
type_faults [] = []
type_faults (form ∷ forms) = or_more (early_if (stands_for_type form.1) form.0) (type_faults forms)

-- What a name means has a method: a generic function of another library has, and one of this
-- library has where one of these definitions adds one, in whichever module it stands.
abbrev pub has_method : List Definition → Option Owner → Bool
has_method before None = false
has_method before (Some (Outside id)) = is_generic id.what
has_method before (Some (Own c a)) = list_any (λ e. is_of c a e && is_method e.role) before

-- a definition, behind these, that adds a method to a generic function which has one
abbrev pub adds_again : List Definition → Definition → Bool
adds_again before d = is_method d.role && has_method before d.owner

-- the forms of those of the rest that do
abbrev pub again_among : List Definition → List Definition → List Fault
again_among before [] = []
again_among before (d ∷ rest) =
    or_more (early_if (adds_again before d) d.place) (again_among (before ++ d ∷ []) rest)

-- the forms that come early, where these are their definitions
abbrev pub early_faults : List Form → List Definition → List Fault
early_faults forms ds = type_faults forms ++ again_among [] ds
