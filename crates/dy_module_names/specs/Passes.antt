-- What reading forms adds to a list of definitions.
use Rattle.std.specs.Prelude.{List, [], ◌∷◌, ◌++◌}
use Rattle.dy_base.specs.declared.fault.Place.{Place}
use Rattle.dy_library_rows.specs.Libraries.{Form}
use Rattle.dy_definitions.specs.declared.definitions.Definition.{Definition}
use Rattle.dy_module_names.specs.Definitions.{Modules, DefinedName, defined_names, definition}

-- a list with the definitions of these names behind it
abbrev pub with_names : Modules → Place → List DefinedName → List Definition → List Definition
with_names modules place [] list = list
with_names modules place (name ∷ names) list =
    with_names modules place names (list ++ definition modules place name ∷ [])

abbrev pub with_forms : Modules → List Form → List Definition → List Definition
with_forms modules [] list = list
with_forms modules (form ∷ forms) list =
    with_forms modules forms (with_names modules form.0 (defined_names form.1) list)
