-- Which methods are applicable does not depend on the numbers of closures.
use Rattle.std.proofs.Common.{◌≡◌, ℕ, ◌&&◌, List, [], ◌∷◌, Option, Some, None, refl, ap, ◌∙◌, slice_get, filter}
use Rattle.std.specs.Option.{option_map}
use Rattle.std.specs.List.{list_any}
use Rattle.std.proofs.lemmas.Option.{slice_get-map}
use Rattle.dy_base.specs.declared.ids.GenericId.{GenericId}
use Rattle.dy_base.specs.declared.ids.MethodId.{MethodId}
use Rattle.dy_term.specs.declared.types.DyType.{DyType}
use Rattle.dy_term.specs.declared.types.Member.{Member}
use Rattle.dy_term.specs.declared.types.Member.TheVariants as members
use Rattle.dy_term.specs.declared.rows.MethodRow.{MethodRow}
use Rattle.dy_term.specs.declared.rows.Program.{Program}
use Rattle.dy_values.specs.declared.value.Variant.{Variant}
use Rattle.dy_values.specs.declared.value.Variant.TheVariants.{Int, Char, Bool as Truth, Symbol, Nil, Class, TypeValue, Generic, Function, Builtin, Object}
use Rattle.dy_values.specs.declared.object.ObjectRow.{ObjectRow}
use Rattle.dy_values.specs.declared.object.ObjectRow.TheVariants as object
use Rattle.dy_values.specs.declared.store.Store.{Store}
use Rattle.dy_values.specs.Classes.{class_of_object, class_of}
use Rattle.dy_meaning.specs.Globals.{is_same_ref}
use Rattle.dy_meaning.specs.Programs.{is_below, is_instance_of, is_instance, are_instances}
use Rattle.dy_lowering_law.specs.Machines.{all_methods_from, applicable}
use Rattle.dy_lowering_law.specs.Renumbering.{renumbered_row, renumbered_store}

module _ (number : ℕ → ℕ) where
  row_same : (row : Option ObjectRow) → class_of_object (option_map (renumbered_row number) row) ≡ class_of_object row
  row_same None = refl
  row_same (Some (object.Pair head tail)) = refl
  row_same (Some (object.Instance class slots)) = refl
  row_same (Some (object.Vector stretchy items)) = refl
  row_same (Some (object.Bytes bytes)) = refl
  row_same (Some (object.Table entries)) = refl
  row_same (Some (object.Range start step end)) = refl
  row_same (Some (object.Closure lambda captured)) = refl
  row_same (Some (object.Exit block)) = refl
  row_same (Some (object.NextMethod generic methods ambiguous arguments)) = refl
  row_same (Some (object.NextHandler block value)) = refl
  row_same (Some (object.Cell value)) = refl

  class_same : (store : Store) (value : Variant) → class_of (renumbered_store number store) value ≡ class_of store value
  class_same store (Int k) = refl
  class_same store (Char code) = refl
  class_same store (Truth value) = refl
  class_same store (Symbol place) = refl
  class_same store Nil = refl
  class_same store (Class class) = refl
  class_same store (TypeValue place) = refl
  class_same store (Generic generic) = refl
  class_same store (Function named) = refl
  class_same store (Builtin operation) = refl
  class_same store (Object place) = ap class_of_object (slice_get-map (renumbered_row number) store.objects place) ∙ row_same (slice_get store.objects place)

  member_same : (program : Program) (store : Store) (value : Variant) (member : Member) → is_instance_of program (renumbered_store number store) value member ≡ is_instance_of program store value member
  member_same program store value (members.Class class) = ap (λ c. is_below program c class) (class_same store value)
  member_same program store value (members.Range least greatest) = refl
  member_same program store value (members.Single literal) = refl
  member_same program store value (members.SingleClass class) = refl

  instance_same : (program : Program) (store : Store) (value : Variant) (type : DyType) → is_instance program (renumbered_store number store) value type ≡ is_instance program store value type
  instance_same program store value type = λ i. list_any (λ member. member_same program store value member i) type.members

  instances_same : (program : Program) (store : Store) (values : List Variant) (types : List DyType) → are_instances program (renumbered_store number store) values types ≡ are_instances program store values types
  instances_same program store values [] = refl
  instances_same program store [] (type ∷ types) = refl
  instances_same program store (value ∷ values) (type ∷ types) = λ i. instance_same program store value type i && instances_same program store values types i

  pub applicable_same : (program : Program) (store : Store) (generic : GenericId) (values : List Variant) → applicable program (renumbered_store number store) generic values ≡ applicable program store generic values
  applicable_same program store generic values =
      λ i. filter (λ (method : MethodId × MethodRow). is_same_ref method.1.generic.0 generic.0 && instances_same program store values method.1.params.required i) (all_methods_from 0 program.libraries)
