-- The forms of a library by what they are about.
use Rattle.std.specs.Prelude.{Bool, true, false, ◌||◌, if◌then◌else◌, List, [], ◌∷◌, ◌++◌, map}
use Rattle.dy_module_forms.specs.declared.written.Kind.{Kind}
use Rattle.dy_module_forms.specs.declared.written.Kind.TheVariants.{Library, Module}
use Rattle.dy_module_forms.specs.declared.written.Form.{Form}
use Rattle.dy_modules.specs.Clauses.{Name, is_one_of}
use Rattle.dy_module_numbers.specs.declared.sorting.Sorted.{Sorted}

abbrev pub is_of_library : Kind → Bool
is_of_library Library = true
is_of_library Module = false

abbrev pub libraries : List Form → List Form
libraries [] = []
libraries (form ∷ forms) =
    if is_of_library form.kind then form ∷ libraries forms else libraries forms

-- the forms of modules that are not named so yet; of those of one name the first counts
abbrev pub modules_without : List Name → List Form → List Form
modules_without names [] = []
modules_without names (form ∷ forms) =
    if is_of_library form.kind || is_one_of names form.name then modules_without names forms
    else form ∷ modules_without (names ++ form.name ∷ []) forms

abbrev pub modules : List Form → List Form
modules forms = modules_without [] forms

abbrev pub form_name : Form → Name
form_name form = form.name

-- what the code does form by form
abbrev pub with_form : Sorted → Form → Sorted
with_form s form =
    if is_of_library form.kind
    then record {
      libraries = s.libraries ++ form ∷ [];
      modules = s.modules;
      names = s.names;
    }
    else if is_one_of s.names form.name then s
    else record {
      libraries = s.libraries;
      modules = s.modules ++ form ∷ [];
      names = s.names ++ form.name ∷ [];
    }

abbrev pub after_forms : Sorted → List Form → Sorted
after_forms s [] = s
after_forms s (form ∷ forms) = after_forms (with_form s form) forms

abbrev pub nothing_sorted : Sorted
nothing_sorted = record { libraries = []; modules = []; names = [] }
