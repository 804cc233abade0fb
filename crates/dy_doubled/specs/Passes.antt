-- What a pass over forms has so far.
use Rattle.std.specs.Prelude.{cond, List, [], ◌∷◌, ◌++◌}
use Rattle.dy_base.specs.declared.fault.Fault.{Fault}
use Rattle.dy_module_forms.specs.declared.written.Form.{Form}
use Rattle.dy_modules.specs.Clauses.{Name, is_one_of}
use Rattle.dy_module_numbers.specs.Options.{with_name}
use Rattle.dy_module_numbers.specs.Sorting.{is_of_library}
use Rattle.dy_doubled.specs.Doubled.{redefined}

-- the names that are taken behind a form
abbrev pub with_form_name : List Name → Form → List Name
with_form_name taken form = cond (is_of_library form.kind) taken (with_name taken form.name)

-- what is told of a form where these names are taken
abbrev pub told_form : List Name → Form → List Fault
told_form taken form = cond (is_of_library form.kind) []
    (cond (is_one_of taken form.name) (redefined form ∷ []) [])

abbrev pub told_all : List Fault → List Name → List Form → List Fault
told_all faults taken [] = faults
told_all faults taken (form ∷ forms) =
    told_all (faults ++ told_form taken form) (with_form_name taken form) forms
