-- A library of rows that are in scope and lowered is so.
use Rattle.std.proofs.Common.{◌≡◌, Bool, true, ◌&&◌, List, [], ◌∷◌, ◌++◌, flat_map, refl, ap}
use Rattle.std.specs.List.{list_all}
use Rattle.dy_term.specs.declared.rows.ClassRow.{ClassRow}
use Rattle.dy_term.specs.declared.rows.MethodRow.{MethodRow}
use Rattle.dy_term.specs.declared.rows.SlotRow.{SlotRow}
use Rattle.dy_term.specs.declared.rows.VariableRow.{VariableRow}
use Rattle.dy_term.specs.declared.rows.Row.{Row}
use Rattle.dy_term.specs.declared.rows.Row.TheVariants as rows
use Rattle.dy_term.specs.Rows.{CoreDraft}
use Rattle.dy_names.specs.Naming.{Table}
use Rattle.dy_lowering_law.specs.Ready.{generic_ready}
use Rattle.dy_lowering_whole.specs.valid.Scoped.{is_init_scoped, is_code_scoped, is_function_scoped, is_top_scoped, is_library_scoped}
use Rattle.dy_lowering_whole.specs.Lowered.{is_code_lowered, is_function_lowered, is_top_lowered, has_no_slots, is_library_lowered}
use Rattle.dy_scoped_rows.proofs.terms.Facts.{untrue, both_true, and_true}
use Rattle.dy_scoped_rows.specs.Scoped.{is_row_scoped, is_row_lowered}
use Rattle.dy_lowered_forms.specs.drafts.Plain.{is_form_plain}
use Rattle.dy_assembly.specs.declared.library.Heading.{Heading}
use Rattle.dy_assembly.specs.Libraries.{class_in, generic_in, method_in, variable_in, top_in, library_of}
use Rattle.dy_verdict_laws.proofs.Generics.{generics_ready}

all_behind : {A : Type 0} (test : A → Bool) (some more : List A) → list_all test some ≡ true → list_all test more ≡ true → list_all test (some ++ more) ≡ true
all_behind test [] more h g = g
all_behind test (x ∷ some) more h g =
    let p = both_true (test x) (list_all test some) h in
    and_true (test x) (list_all test (some ++ more)) p.0 (all_behind test some more p.1 g)

-- what passes of each row passes of all
all_of : {A : Type 0} (pick : Row → List A) (test : A → Bool) (whole : Row → Bool) → ((row : Row) → whole row ≡ true → list_all test (pick row) ≡ true)
    → (found : List Row) → list_all whole found ≡ true → list_all test (flat_map pick found) ≡ true
all_of pick test whole each [] all = refl
all_of pick test whole each (row ∷ found) all =
    let h = both_true (whole row) (list_all whole found) all in
    all_behind test (pick row) (flat_map pick found) (each row h.0) (all_of pick test whole each found h.1)

one : (b : Bool) → b ≡ true → b && true ≡ true
one b is = and_true b true is refl

no_classes : (found : List Row) → list_all is_row_lowered found ≡ true → flat_map class_in found ≡ []
no_classes [] all = refl
no_classes (rows.Class row ∷ found) all = untrue all
no_classes (rows.Generic row ∷ found) all = no_classes found (both_true (generic_ready row) _ all).1
no_classes (rows.Method row ∷ found) all = no_classes found (both_true (is_code_lowered row.code) _ all).1
no_classes (rows.Domain row ∷ found) all = no_classes found all
no_classes (rows.Variable row ∷ found) all = no_classes found (both_true (is_function_lowered row.function) _ all).1
no_classes (rows.Top top ∷ found) all = no_classes found (both_true (is_top_lowered top) _ all).1

generic_rows : (row : Row) → is_row_lowered row ≡ true → list_all generic_ready (generic_in row) ≡ true
generic_rows (rows.Class row) is = refl
generic_rows (rows.Generic row) is = one (generic_ready row) is
generic_rows (rows.Method row) is = refl
generic_rows (rows.Domain row) is = refl
generic_rows (rows.Variable row) is = refl
generic_rows (rows.Top top) is = refl

abbrev code_lowered : MethodRow → Bool
code_lowered method = is_code_lowered method.code

abbrev code_scoped : MethodRow → Bool
code_scoped method = is_code_scoped method.code

abbrev function_lowered : VariableRow → Bool
function_lowered variable = is_function_lowered variable.function

abbrev function_scoped : VariableRow → Bool
function_scoped variable = is_function_scoped variable.function

methods_lowered : (row : Row) → is_row_lowered row ≡ true → list_all code_lowered (method_in row) ≡ true
methods_lowered (rows.Class row) is = refl
methods_lowered (rows.Generic row) is = refl
methods_lowered (rows.Method row) is = one (is_code_lowered row.code) is
methods_lowered (rows.Domain row) is = refl
methods_lowered (rows.Variable row) is = refl
methods_lowered (rows.Top top) is = refl

methods_scoped : (row : Row) → is_row_scoped row ≡ true → list_all code_scoped (method_in row) ≡ true
methods_scoped (rows.Class row) is = refl
methods_scoped (rows.Generic row) is = refl
methods_scoped (rows.Method row) is = one (is_code_scoped row.code) is
methods_scoped (rows.Domain row) is = refl
methods_scoped (rows.Variable row) is = refl
methods_scoped (rows.Top top) is = refl

functions_lowered : (row : Row) → is_row_lowered row ≡ true → list_all function_lowered (variable_in row) ≡ true
functions_lowered (rows.Class row) is = refl
functions_lowered (rows.Generic row) is = refl
functions_lowered (rows.Method row) is = refl
functions_lowered (rows.Domain row) is = refl
functions_lowered (rows.Variable row) is = one (is_function_lowered row.function) is
functions_lowered (rows.Top top) is = refl

functions_scoped : (row : Row) → is_row_scoped row ≡ true → list_all function_scoped (variable_in row) ≡ true
functions_scoped (rows.Class row) is = refl
functions_scoped (rows.Generic row) is = refl
functions_scoped (rows.Method row) is = refl
functions_scoped (rows.Domain row) is = refl
functions_scoped (rows.Variable row) is = one (is_function_scoped row.function) is
functions_scoped (rows.Top top) is = refl

tops_lowered : (row : Row) → is_row_lowered row ≡ true → list_all is_top_lowered (top_in row) ≡ true
tops_lowered (rows.Class row) is = refl
tops_lowered (rows.Generic row) is = refl
tops_lowered (rows.Method row) is = refl
tops_lowered (rows.Domain row) is = refl
tops_lowered (rows.Variable row) is = refl
tops_lowered (rows.Top top) is = one (is_top_lowered top) is

tops_scoped : (row : Row) → is_row_scoped row ≡ true → list_all is_top_scoped (top_in row) ≡ true
tops_scoped (rows.Class row) is = refl
tops_scoped (rows.Generic row) is = refl
tops_scoped (rows.Method row) is = refl
tops_scoped (rows.Domain row) is = refl
tops_scoped (rows.Variable row) is = refl
tops_scoped (rows.Top top) is = one (is_top_scoped top) is

pub library_scoped : (heading : Heading) (owner : Table) (drafts : List CoreDraft) (found : List Row) → list_all is_row_lowered found ≡ true → list_all is_row_scoped found ≡ true
    → is_library_scoped (library_of heading owner drafts found) ≡ true
library_scoped heading owner drafts found lowered scoped =
    and_true _ _ (ap (λ (classes : List ClassRow). list_all (λ (slot : SlotRow). is_init_scoped slot.init) (flat_map (λ (class : ClassRow). class.slots) classes)) (no_classes found lowered))
    (and_true _ _ (all_of method_in code_scoped is_row_scoped methods_scoped found scoped)
    (and_true _ _ (all_of variable_in function_scoped is_row_scoped functions_scoped found scoped)
    (all_of top_in is_top_scoped is_row_scoped tops_scoped found scoped)))

pub library_lowered : (heading : Heading) (owner : Table) (drafts : List CoreDraft) (found : List Row) → list_all is_form_plain drafts ≡ true → list_all is_row_lowered found ≡ true
    → is_library_lowered (library_of heading owner drafts found) ≡ true
library_lowered heading owner drafts found plain lowered =
    and_true _ _ (ap (list_all has_no_slots) (no_classes found lowered))
    (and_true _ _ (generics_ready heading.number owner drafts (flat_map generic_in found) plain (all_of generic_in generic_ready is_row_lowered generic_rows found lowered))
    (and_true _ _ (all_of method_in code_lowered is_row_lowered methods_lowered found lowered)
    (and_true _ _ (all_of variable_in function_lowered is_row_lowered functions_lowered found lowered)
    (all_of top_in is_top_lowered is_row_lowered tops_lowered found lowered))))
