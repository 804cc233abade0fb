-- Reading forms one by one gives the definitions of them all.
use Rattle.std.proofs.Common.{◌≡◌, List, [], ◌∷◌, ◌++◌, map, refl, sym, ap, ◌∙◌}
use Rattle.std.proofs.lemmas.List.{append_assoc}
use Rattle.dy_base.specs.declared.fault.Place.{Place}
use Rattle.dy_library_rows.specs.Libraries.{Form}
use Rattle.dy_definitions.specs.declared.definitions.Definition.{Definition}
use Rattle.dy_module_names.specs.Definitions.{Modules, DefinedName, defined_names, definition}
use Rattle.dy_module_names.specs.Definitions.{definitions_of}
use Rattle.dy_module_names.specs.Definitions.{definitions}
use Rattle.dy_module_names.specs.Passes.{with_names, with_forms}

nothing_more : {X : Type 0} (xs : List X) → xs ++ [] ≡ xs
nothing_more [] = refl
nothing_more (x ∷ xs) = ap (λ l. x ∷ l) (nothing_more xs)

module _ (modules : Modules) where
  names_are : (place : Place) (ds : List DefinedName) (list : List Definition)
      → with_names modules place ds list ≡ list ++ map (definition modules place) ds
  names_are place [] list = sym (nothing_more list)
  names_are place (d ∷ ds) list =
      names_are place ds (list ++ definition modules place d ∷ [])
      ∙ append_assoc list (definition modules place d ∷ []) (map (definition modules place) ds)

  forms_are : (forms : List Form) (list : List Definition)
      → with_forms modules forms list ≡ list ++ definitions modules forms
  forms_are [] list = sym (nothing_more list)
  forms_are (form ∷ forms) list =
      forms_are forms (with_names modules form.0 (defined_names form.1) list)
      ∙ ap (λ l. l ++ definitions modules forms) (names_are form.0 (defined_names form.1) list)
      ∙ append_assoc list (definitions_of modules form) (definitions modules forms)

  pub definitions_are : (forms : List Form)
      → with_forms modules forms [] ≡ definitions modules forms
  definitions_are forms = forms_are forms []
