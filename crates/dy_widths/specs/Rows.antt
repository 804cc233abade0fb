-- Rows with too many required parameters, and what is told of them.
use Rattle.std.specs.Prelude.{◌≡◌, Bool, true, false, [], ◌∷◌, map, Some, Result, Ok, Err, ◌||◌}
use Rattle.std.specs.Prelude.{codes}
use Rattle.std.specs.Option.{option_map}
use Rattle.dy_base.specs.declared.fault.Fault.{Fault as FaultData}
use Rattle.dy_base.specs.declared.fault.Place.{Place}
use Rattle.dy_base.specs.declared.fault.Refusal.{Refusal}
use Rattle.dy_base.specs.declared.fault.Refusal.TheVariants.{Fault, Memory}
use Rattle.dy_base.specs.declared.kind.Kind.TheVariants.{Limit}
use Rattle.dy_term.specs.declared.rows.Init.{Init}
use Rattle.dy_term.specs.declared.rows.Init.TheVariants.{Each, Calling}
use Rattle.dy_term.specs.declared.rows.SlotRow.{SlotRow}
use Rattle.dy_term.specs.declared.rows.MethodCode.{MethodCode}
use Rattle.dy_term.specs.declared.rows.MethodCode.TheVariants.{Dylan, Getter, Setter, Builtin}
use Rattle.dy_term.specs.declared.rows.TopTerm.{TopTerm}
use Rattle.dy_term.specs.declared.rows.TopTerm.TheVariants.{Init as Initial, Run}
use Rattle.dy_term.specs.declared.rows.Row.{Row}
use Rattle.dy_term.specs.declared.rows.Row.TheVariants as rows
use Rattle.dy_widths.specs.Wide.{are_many, any_of, some_of, is_wide_term, is_wide_lambda}

abbrev pub is_wide_init : Init → Bool
is_wide_init (Each term) = is_wide_term term
is_wide_init (Calling function) = is_wide_term function

abbrev pub is_wide_slot : SlotRow → Bool
is_wide_slot slot = some_of (option_map is_wide_init slot.init)

abbrev pub is_wide_code : MethodCode → Bool
is_wide_code (Dylan lambda) = is_wide_lambda lambda
is_wide_code (Getter class slot) = false
is_wide_code (Setter class slot) = false
is_wide_code (Builtin operation) = false

abbrev pub is_wide_top : TopTerm → Bool
is_wide_top (Initial bindings term) = is_wide_term term
is_wide_top (Run term) = is_wide_term term

-- whether a generic function, a method, a function, a closure or a local method of the row has too
-- many
abbrev pub is_wide : Row → Bool
is_wide (rows.Class class) = any_of (map is_wide_slot class.slots)
is_wide (rows.Generic generic) = are_many generic.params
is_wide (rows.Method method) = are_many method.params || is_wide_code method.code
is_wide (rows.Domain domain) = false
is_wide (rows.Variable variable) = some_of (option_map is_wide_lambda variable.function)
is_wide (rows.Top top) = is_wide_top top

abbrev pub too_many : Place → FaultData
too_many place = record {
  kind = Limit;
  library = [];
  place = Some place;
  shown = codes "parameters" ∷ codes "8" ∷ [];
  numbers = [];
}

-- What is answered of the row of a form at this place. Want of memory may be answered at any time.
abbrev pub IsChecked : Row → Place → Result (Unit {0}) Refusal → Type 0
IsChecked row place (Ok done) = is_wide row ≡ false
IsChecked row place (Err (Fault fault)) = (is_wide row ≡ true) × (fault ≡ too_many place)
IsChecked row place (Err Memory) = Unit {0}
