-- What is there in one view is there in another where its libraries stand.
use Rattle.std.proofs.Common.{◌≡◌, inl, inr, ℕ, ◌<◌, true, false, true≢false, List, [], ◌∷◌, length, map, Option, Some, None, slice_get, refl, sym, arith}
use Rattle.std.specs.Prelude.{IsSome}
use Rattle.std.proofs.lemmas.Option.{slice_get_cases}
use Rattle.dy_base.specs.Tables.{NamedList}
use Rattle.dy_base.specs.declared.exports.Exports.{Exports}
use Rattle.dy_base.specs.declared.ids.BindingId.{BindingId}
use Rattle.dy_term.specs.declared.rows.LibraryRow.{LibraryRow}
use Rattle.dy_code.specs.Programs.{if_there}
use Rattle.dy_modules.specs.Clauses.{Name}
use Rattle.dy_lowered.specs.Linking.{linked_name}
use Rattle.dy_called_generics.specs.Views.{IsGenericAt, IsGenericOf}
use Rattle.dy_called_generics.proofs.Views.{row_at}
use Rattle.dy_module_generics.specs.Behind.{NamesAreThere, ModulesAreThere, ExportsAreThere}
use Rattle.dy_module_generics.specs.Carried.{StandAt, carried_names, carried_modules, carried, ExportsAreCarried}

not_none : {A : Type 0} (o : Option A) → o ≡ None → IsSome o → ⊥
not_none None e some = true≢false (sym some)
not_none (Some x) e some = absurd cc

-- a place of a list that has something is within it
within : {A : Type 0} (xs : List A) (n : ℕ) → IsSome (slice_get xs n) → n < length xs
within xs n h = elim (slice_get_cases xs n).1 [
  | inl found ↦ found.1
  | inr none ↦ absurd (not_none (slice_get xs n) none.1 h)
]

module _ (places : ℕ → ℕ) (view libraries : List LibraryRow) (stand : StandAt places view libraries) where
  pub row_carried : (number row : ℕ) → IsGenericAt view number row → IsGenericAt libraries (places number) row
  row_carried number row h = step (slice_get view number) refl h
    where
      step : (o : Option LibraryRow) → slice_get view number ≡ o → IsSome (if_there o (λ (l : LibraryRow). slice_get l.generics row)) → IsGenericAt libraries (places number) row
      step None at some = absurd (true≢false (sym some))
      step (Some library) at some =
          let other = stand number library at in
          let low = within library.generics row some in
          let many = other.2 in
          row_at libraries (places number) row other.0 other.1 (omega (arith, low, many))

  pub generic_carried : (b : BindingId) → IsGenericOf view b → IsGenericOf libraries (linked_name places b)
  generic_carried b h = row_carried b.at.library b.at.row h

  names_carried : (names : NamedList BindingId) → NamesAreThere view names → NamesAreThere libraries (carried_names places names)
  names_carried [] all = tt
  names_carried (name ∷ names) all = (λ is. generic_carried name.1 (all.0 is), names_carried names all.1)

  modules_carried : (modules : List (Name × NamedList BindingId)) → ModulesAreThere view modules → ModulesAreThere libraries (carried_modules places modules)
  modules_carried [] all = tt
  modules_carried (m ∷ modules) all = (names_carried m.1 all.0, modules_carried modules all.1)

  all_carried : (used : List Exports) → ExportsAreThere view used → ExportsAreThere libraries (map (carried places) used)
  all_carried [] all = tt
  all_carried (exports ∷ used) all = ((modules_carried exports.modules all.0.0, modules_carried exports.seen all.0.1), all_carried used all.1)

pub exports_are_carried : ExportsAreCarried
exports_are_carried places view libraries used stand all = all_carried places view libraries stand used all
