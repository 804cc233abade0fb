-- The generic function that the first method of a name makes.
use Rattle.std.specs.Prelude.{ℕ, Bool, true, false, is_some, List, [], ◌∷◌, length, replicate}
use Rattle.std.specs.declared.option.Option.{Option}
use Rattle.std.specs.declared.option.Option.TheVariants.{None, Some}
use Rattle.std.specs.Option.{option_map}
use Rattle.dy_term.specs.declared.types.DyType.{DyType}
use Rattle.dy_term.specs.declared.types.Member.TheVariants.{Class}
use Rattle.dy_term.specs.declared.types.Params.{Params}
use Rattle.dy_term.specs.declared.types.Results.{Results}
use Rattle.dy_term.specs.declared.rows.GenericRow.{GenericRow}
use Rattle.dy_types.specs.Classes.{built_in}

-- the type `<object>`
abbrev pub object_type : DyType
object_type = record { members = Class (built_in 0) ∷ [] }

-- no keywords, where the parameter list has `#key`
abbrev pub no_keys : Bool → Option (List (List ℕ))
no_keys true = Some []
no_keys false = None

-- a sealed generic function: so many required parameters of type `<object>`, `#rest` and `#key` as
-- they are given, no keywords, and any results
abbrev pub plain_generic : List ℕ → ℕ → (rest keys : Bool) → GenericRow
plain_generic name count rest keys =
    record {
      name = name;
      is_open = false;
      params = record { required = replicate count object_type; rest = rest; keys = no_keys keys; all_keys = false };
      results = record { required = []; rest = Some object_type };
    }

abbrev pub has_keys : Params → Bool
has_keys params = is_some params.keys

-- the generic function of a method that comes first
abbrev pub implicit_row : List ℕ → Params → GenericRow
implicit_row name params = plain_generic name (length params.required) params.rest (has_keys params)
