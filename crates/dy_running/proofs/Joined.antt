-- The code of libraries that are joined is that of their program, over rows without terms.
use Rattle.std.proofs.Common.{◌≡◌, ℕ, List, [], ◌∷◌, map, Option, Some, None, false, refl, sym, ap, ◌∙◌}
use Rattle.std.specs.Option.{option_map}
use Rattle.dy_term.specs.declared.term.ForClause.{ForClause}
use Rattle.dy_term.specs.declared.term.Item.{Item}
use Rattle.dy_term.specs.declared.term.Term.{Term}
use Rattle.dy_term.specs.declared.term.BlockRow.{BlockRow}
use Rattle.dy_term.specs.declared.term.ForRow.{ForRow}
use Rattle.dy_term.specs.declared.term.Lambda.{Lambda, Lambda-F, out-Lambda, roll-Lambda, out-roll-Lambda}
use Rattle.dy_term.specs.declared.rows.Init.{Init}
use Rattle.dy_term.specs.declared.rows.Init.TheVariants.{Each, Calling}
use Rattle.dy_term.specs.declared.rows.SlotRow.{SlotRow}
use Rattle.dy_term.specs.declared.rows.ClassRow.{ClassRow}
use Rattle.dy_term.specs.declared.rows.MethodCode.{MethodCode}
use Rattle.dy_term.specs.declared.rows.MethodCode.TheVariants.{Dylan, Getter, Setter, Builtin}
use Rattle.dy_term.specs.declared.rows.MethodRow.{MethodRow}
use Rattle.dy_term.specs.declared.rows.VariableRow.{VariableRow}
use Rattle.dy_term.specs.declared.rows.LibraryRow.{LibraryRow}
use Rattle.dy_term.specs.declared.rows.Program.{Program}
use Rattle.dy_code.specs.declared.unit.Linked.{Linked}
use Rattle.dy_lowered.specs.Linking.{linked}
use Rattle.dy_lowered.specs.Units.{no_term, bare_lambda, bare_init, bare_slot, bare_class, bare_code, bare_method, bare_variable, bare_row}
use Rattle.dy_linked_rows.specs.Rows.{linked_library}
use Rattle.dy_linked_rows.specs.Programs.{Viewed, unit_of, units, places_of, row_in_program, program_of, AreApart}
use Rattle.dy_linked_rows.proofs.Bare.{bare_rows_are_linked}
use Rattle.dy_linked_rows.proofs.Joined.{programs_are_joined}
use Rattle.dy_join.specs.Programs as joined
use Rattle.dy_join.specs.Programs.{joined_program}
use Rattle.dy_bare_machines.specs.Machines.{bare_program, linked_without_terms}

-- A row without terms is itself without them.
lambda_again : (lambda : Lambda) → bare_lambda (bare_lambda lambda) ≡ bare_lambda lambda
lambda_again lambda =
    let row : Lambda-F ForClause Item Term BlockRow ForRow Lambda = record {
      params = (out-Lambda lambda).params;
      keywords = [];
      next = false;
      first = 0;
      locals = 0;
      body = no_term;
      results = (out-Lambda lambda).results;
    } in
    λ j. roll-Lambda (record {
      params = (out-roll-Lambda row j).params;
      keywords = [];
      next = false;
      first = 0;
      locals = 0;
      body = no_term;
      results = (out-roll-Lambda row j).results;
    })

init_again : (init : Init) → bare_init (bare_init init) ≡ bare_init init
init_again (Each term) = refl
init_again (Calling term) = refl

code_again : (code : MethodCode) → bare_code (bare_code code) ≡ bare_code code
code_again (Dylan lambda) = ap Dylan (lambda_again lambda)
code_again (Getter class slot) = refl
code_again (Setter class slot) = refl
code_again (Builtin operation) = refl

module _ {A : Type 0} (f : A → A) (again : (x : A) → f (f x) ≡ f x) where
  all_again : (xs : List A) → map f (map f xs) ≡ map f xs
  all_again [] = refl
  all_again (x ∷ xs) = λ j. again x j ∷ all_again xs j

  held_again : (x : Option A) → option_map f (option_map f x) ≡ option_map f x
  held_again None = refl
  held_again (Some x) = ap Some (again x)

slot_again : (slot : SlotRow) → bare_slot (bare_slot slot) ≡ bare_slot slot
slot_again slot = λ j. record slot { init = held_again bare_init init_again slot.init j }

class_again : (class : ClassRow) → bare_class (bare_class class) ≡ bare_class class
class_again class = λ j. record class { slots = all_again bare_slot slot_again class.slots j }

method_again : (method : MethodRow) → bare_method (bare_method method) ≡ bare_method method
method_again method = λ j. record method { code = code_again method.code j }

variable_again : (variable : VariableRow) → bare_variable (bare_variable variable) ≡ bare_variable variable
variable_again variable = λ j. record variable { function = held_again bare_lambda lambda_again variable.function j }

row_again : (row : LibraryRow) → bare_row (bare_row row) ≡ bare_row row
row_again row = λ j. record row {
  classes = all_again bare_class class_again row.classes j;
  methods = all_again bare_method method_again row.methods j;
  variables = all_again bare_variable variable_again row.variables j;
  tops = [];
}

module _ (all : List Viewed) where
  -- the rows of a library in the program
  row_same : (viewed : Viewed) → joined.row_in_program (units all) (unit_of viewed) ≡ bare_row (row_in_program all viewed)
  row_same viewed =
      ap (linked_library (places_of all viewed)) (row_again viewed.library.row)
      ∙ sym (bare_rows_are_linked (places_of all viewed) viewed.library.row)

  rows_same : (some : List Viewed) → map (joined.row_in_program (units all)) (map unit_of some) ≡ map bare_row (map (row_in_program all) some)
  rows_same [] = refl
  rows_same (viewed ∷ some) = λ j. row_same viewed j ∷ rows_same some j

  program_same : joined_program (units all) ≡ bare_program (program_of all)
  program_same = λ j. record { libraries = rows_same all j }

  pub joined_same : AreApart all → linked (joined_program (units all)) (units all) ≡ linked_without_terms (program_of all)
  joined_same apart = λ j. record (sym (programs_are_joined all apart) j) { program = program_same j }
