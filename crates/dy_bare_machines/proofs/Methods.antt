-- The methods of a program without terms: those that are applicable, and so those that are sorted.
use Rattle.std.proofs.Common.{◌≡◌, ℕ, ◌+◌, Bool, ◌&&◌, ◌||◌, List, [], ◌∷◌, ◌++◌, map, refl, sym, ap, ◌∙◌}
use Rattle.std.specs.List.{filter, list_any}
use Rattle.std.proofs.lemmas.List.{map-append}
use Rattle.dy_base.specs.declared.ids.ClassId.{ClassId}
use Rattle.dy_base.specs.declared.ids.GenericId.{GenericId}
use Rattle.dy_base.specs.declared.ids.MethodId.{MethodId}
use Rattle.dy_term.specs.declared.types.DyType.{DyType}
use Rattle.dy_term.specs.declared.types.Member.{Member}
use Rattle.dy_term.specs.declared.types.Member.TheVariants as members
use Rattle.dy_term.specs.declared.rows.MethodRow.{MethodRow}
use Rattle.dy_term.specs.declared.rows.LibraryRow.{LibraryRow}
use Rattle.dy_term.specs.declared.rows.Program.{Program}
use Rattle.dy_values.specs.declared.value.Variant.{Variant}
use Rattle.dy_values.specs.declared.store.Store.{Store}
use Rattle.dy_values.specs.Classes.{class_of}
use Rattle.dy_meaning.specs.Globals.{is_same_ref}
use Rattle.dy_meaning.specs.Programs.{is_same_class, is_below, is_instance_of, is_instance, are_instances}
use Rattle.dy_lowered.specs.Units.{bare_method, bare_row}
use Rattle.dy_lowering_law.specs.Machines.{methods_from, all_methods_from, applicable, sorted}
use Rattle.dy_bare_machines.specs.Machines.{bare_program}
use Rattle.dy_bare_machines.proofs.Lists.{any_same, filter_mapped}
use Rattle.dy_bare_machines.proofs.Classes.{order_same}

-- a method with its row without terms
abbrev bare_entry : MethodId × MethodRow → MethodId × MethodRow
bare_entry method = (method.0, bare_method method.1)

methods_bare : (library row : ℕ) (methods : List MethodRow) → methods_from library row (map bare_method methods) ≡ map bare_entry (methods_from library row methods)
methods_bare library row [] = refl
methods_bare library row (method ∷ methods) =
    ap (λ (entries : List (MethodId × MethodRow)). (record { 0 = record { library = library; row = row } }, bare_method method) ∷ entries) (methods_bare library (row + 1) methods)

all_bare : (place : ℕ) (libraries : List LibraryRow) → all_methods_from place (map bare_row libraries) ≡ map bare_entry (all_methods_from place libraries)
all_bare place [] = refl
all_bare place (library ∷ libraries) =
    (λ j. methods_bare place 0 library.methods j ++ all_bare (place + 1) libraries j)
    ∙ sym (map-append bare_entry (methods_from place 0 library.methods) (all_methods_from (place + 1) libraries))

sorted_bare : (methods : List (MethodId × MethodRow)) → sorted (map bare_entry methods) ≡ sorted methods
sorted_bare [] = refl
sorted_bare (method ∷ []) = refl
sorted_bare (method ∷ other ∷ others) = ap (λ (ids : List MethodId). ([], method.0 ∷ other.0 ∷ ids)) (ids_bare others)
  where
    ids_bare : (entries : List (MethodId × MethodRow)) → map (λ m. m.0) (map bare_entry entries) ≡ map (λ m. m.0) entries
    ids_bare [] = refl
    ids_bare (entry ∷ entries) = ap (λ (ids : List MethodId). entry.0 ∷ ids) (ids_bare entries)

module _ (program : Program) where
  abbrev bare : Program
  bare = bare_program program

  below_same : (class other : ClassId) → is_below bare class other ≡ is_below program class other
  below_same class other = ap (λ (order : List ClassId). is_same_class class other || list_any (is_same_class other) order) (order_same program class)

  member_same : (store : Store) (value : Variant) (member : Member) → is_instance_of bare store value member ≡ is_instance_of program store value member
  member_same store value (members.Class class) = below_same (class_of store value) class
  member_same store value (members.Range least greatest) = refl
  member_same store value (members.Single literal) = refl
  member_same store value (members.SingleClass class) = refl

  instance_same : (store : Store) (value : Variant) (type : DyType) → is_instance bare store value type ≡ is_instance program store value type
  instance_same store value type = any_same (is_instance_of bare store value) (is_instance_of program store value) (member_same store value) type.members

  instances_same : (store : Store) (values : List Variant) (types : List DyType) → are_instances bare store values types ≡ are_instances program store values types
  instances_same store values [] = refl
  instances_same store [] (type ∷ types) = refl
  instances_same store (value ∷ values) (type ∷ types) = λ j. instance_same store value type j && instances_same store values types j

  applicable_bare : (store : Store) (generic : GenericId) (values : List Variant) → applicable bare store generic values ≡ map bare_entry (applicable program store generic values)
  applicable_bare store generic values =
      let takes : Program → MethodId × MethodRow → Bool = λ p method. is_same_ref method.1.generic.0 generic.0 && are_instances p store values method.1.params.required in
      ap (filter (takes bare)) (all_bare 0 program.libraries)
      ∙ filter_mapped bare_entry (takes bare) (takes program)
      (λ method. ap (λ b. is_same_ref method.1.generic.0 generic.0 && b) (instances_same store values method.1.params.required)) (all_methods_from 0 program.libraries)

  pub sorted_same : (store : Store) (generic : GenericId) (values : List Variant) → sorted (applicable bare store generic values) ≡ sorted (applicable program store generic values)
  sorted_same store generic values = ap sorted (applicable_bare store generic values) ∙ sorted_bare (applicable program store generic values)
