-- What code calls in one view it calls in another where it is linked.
use Rattle.std.proofs.Common.{◌≡◌, ℕ, List, [], ◌∷◌, map, sym, subst}
use Rattle.dy_term.specs.declared.rows.LibraryRow.{LibraryRow}
use Rattle.dy_code.specs.Fetching as instr
use Rattle.dy_code.specs.Validity.{Every}
use Rattle.dy_lowered.specs.Bodies.{FlatBody, bodies_of}
use Rattle.dy_lowered.specs.Flat.{Flat, Plain}
use Rattle.dy_lowering_law.specs.Machines.{linked_program}
use Rattle.dy_lowering_whole.specs.valid.Valid.{FlatFound}
use Rattle.dy_called_generics.specs.Views.{program_of, CallsAreThere}
use Rattle.dy_linked_rows.specs.Rows.{linked_library}
use Rattle.dy_linked_rows.specs.Code.{linked_flat, linked_flats, linked_body}
use Rattle.dy_linked_rows.proofs.Bodies.{bodies_are_linked}
use Rattle.dy_module_generics.specs.Carried.{StandAt}
use Rattle.dy_module_generics.proofs.Carried.{row_carried}

every_mapped : {A B : Type 0} (P : A → Type 0) (Q : B → Type 0) (f : A → B) → ((x : A) → P x → Q (f x)) → (xs : List A) → Every P xs → Every Q (map f xs)
every_mapped P Q f one [] all = tt
every_mapped P Q f one (x ∷ xs) all = (one x all.0, every_mapped P Q f one xs all.1)

module _ (places : ℕ → ℕ) (view libraries : List LibraryRow) (stand : StandAt places view libraries) where
  abbrev Found : List LibraryRow → Flat → Type 0
  Found all flat = FlatFound (linked_program (program_of all)) flat

  abbrev FoundIn : List LibraryRow → FlatBody → Type 0
  FoundIn all body = Every (Found all) body.code

  flat_carried : (flat : Flat) → Found view flat → Found libraries (linked_flat places flat)
  flat_carried (Plain (instr.Search generic count)) h = row_carried places view libraries stand generic.0.library generic.0.row h
  flat_carried _ h = tt

  body_carried : (body : FlatBody) → FoundIn view body → FoundIn libraries (linked_body places body)
  body_carried body all = every_mapped (Found view) (Found libraries) (linked_flat places) flat_carried body.code all

  pub calls_carried : (library : LibraryRow) → CallsAreThere view library → CallsAreThere libraries (linked_library places library)
  calls_carried library all =
      subst (Every (FoundIn libraries)) (sym (bodies_are_linked places library))
      (every_mapped (FoundIn view) (FoundIn libraries) (linked_body places) body_carried (bodies_of library) all)
