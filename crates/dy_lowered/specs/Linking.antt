-- Units joined in memory to a program. References to rows of a library are by its place among those
-- of the unit's view, and in a program by its place there. Nothing else of the code is changed.
use Rattle.std.specs.Prelude.{ℕ, List, [], ◌∷◌, ◌++◌, map}
use Rattle.std.specs.Option.{option_map}
use Rattle.dy_base.specs.declared.ids.Ref.{Ref}
use Rattle.dy_base.specs.declared.ids.BindingId.{BindingId}
use Rattle.dy_base.specs.declared.ids.ClassId.{ClassId}
use Rattle.dy_base.specs.declared.ids.MethodId.{MethodId}
use Rattle.dy_term.specs.declared.types.Member.{Member}
use Rattle.dy_term.specs.declared.types.Member.TheVariants.{Class, SingleClass}
use Rattle.dy_term.specs.declared.types.DyType.{DyType}
use Rattle.dy_term.specs.declared.types.Params.{Params}
use Rattle.dy_term.specs.declared.types.Results.{Results}
use Rattle.dy_term.specs.declared.rows.Program.{Program}
use Rattle.dy_values.specs.Stores.{name_at, place_in}
use Rattle.dy_code.specs.declared.unit.Linked.{Linked}
use Rattle.dy_code.specs.declared.unit.TopCode.{TopCode}
use Rattle.dy_code.specs.declared.unit.TopCode.TheVariants.{Init, Run}
use Rattle.dy_code.specs.declared.unit.Unit.{Unit as CodeUnit}
use Rattle.dy_code.specs.declared.unit.UnitCode.{UnitCode}
use Rattle.dy_meaning.specs.Numbers.{greatest}

-- What a unit sees, by names: the libraries that it uses, and at last itself.
abbrev pub view_of : CodeUnit → List (List ℕ)
view_of unit = map (λ used. used.0) unit.uses ++ unit.name ∷ []

-- where the library of this place in a view stands in a program
abbrev pub place_of : (view program : List (List ℕ)) → ℕ → ℕ
place_of view program library = place_in program (name_at view library)

-- references, where libraries are at these places
module _ (places : ℕ → ℕ) where
  abbrev pub linked_ref : Ref → Ref
  linked_ref at = record at { library = places at.library }

  abbrev pub linked_name : BindingId → BindingId
  linked_name named = record named { at = linked_ref named.at }

  abbrev pub linked_class : ClassId → ClassId
  linked_class class = record { 0 = linked_ref class.0 }

  abbrev pub linked_method : MethodId → MethodId
  linked_method method = record { 0 = linked_ref method.0 }

  abbrev pub linked_member : Member → Member
  linked_member (Class class) = Class (linked_class class)
  linked_member (SingleClass class) = SingleClass (linked_class class)
  linked_member member = member

  abbrev pub linked_type : DyType → DyType
  linked_type type = record { members = map linked_member type.members }

  abbrev pub linked_params : Params → Params
  linked_params params = record params { required = map linked_type params.required }

  abbrev pub linked_results : Results → Results
  linked_results results = record {
    required = map linked_type results.required;
    rest = option_map linked_type results.rest;
  }

  abbrev pub linked_bound : List MethodId × List MethodId → List MethodId × List MethodId
  linked_bound methods = (map linked_method methods.0, map linked_method methods.1)

  abbrev pub linked_top : TopCode → TopCode
  linked_top (Init names body) = Init (map linked_name names) body
  linked_top (Run body) = Run body

  abbrev pub linked_code : UnitCode → UnitCode
  linked_code unit = record unit {
    names = map linked_name unit.names;
    bound = map linked_bound unit.bound;
    lists = map linked_params unit.lists;
    types = map linked_type unit.types;
    results = map linked_results unit.results;
    tops = map linked_top unit.tops;
  }

-- the program of these rows, and these units in load order
abbrev pub linked : Program → List CodeUnit → Linked
linked program units = record {
  program = program;
  code = map (λ unit. linked_code (place_of (view_of unit) (map (λ other. other.name) units))
      unit.code) units;
  stretch = greatest (map (λ unit. unit.code.stretch) units);
}
