-- What is there among some libraries is there where more stand behind them.
use Rattle.std.proofs.Common.{◌≡◌, ◌⊎◌, inl, inr, ℕ, zero, suc, ◌<◌, true, false, true≢false, List, [], ◌∷◌, ◌++◌, length, Some, None, is_some, slice_get, refl, sym, ap, ◌∙◌, subst, arith}
use Rattle.std.specs.Prelude.{IsSome}
use Rattle.dy_base.specs.declared.ids.BindingId.{BindingId}
use Rattle.dy_term.specs.declared.rows.LibraryRow.{LibraryRow}
use Rattle.dy_prims.specs.Rows.{dylan_row, io_row}
use Rattle.dy_code.specs.Fetching as instr
use Rattle.dy_code.specs.Programs.{if_there}
use Rattle.dy_code.specs.Validity.{Every}
use Rattle.dy_lowered.specs.Bodies.{FlatBody, bodies_of}
use Rattle.dy_lowered.specs.Flat.{Flat, Plain}
use Rattle.dy_lowering_law.specs.Machines.{linked_program}
use Rattle.dy_lowering_whole.specs.valid.Valid.{FlatFound, GenericsAreThere}
use Rattle.dy_called_generics.specs.Views.{program_of, IsGenericAt, IsGenericOf, CallsAreThere}

same_Some : {A : Type 0} (x y : A) → Some x ≡ Some y → x ≡ y
same_Some x y e = cc

none_some : {A : Type 0} (x : A) → None ≡ Some x → ⊥
none_some x e = cc

-- the places of a list with one item more
at_end : {A : Type 0} (xs : List A) (x : A) → slice_get (xs ++ x ∷ []) (length xs) ≡ Some x
at_end [] x = refl
at_end (y ∷ xs) x = at_end xs x

one_of : {A : Type 0} (xs : List A) (x : A) (n : ℕ) (y : A) → slice_get (xs ++ x ∷ []) n ≡ Some y → (slice_get xs n ≡ Some y) ⊎ (x ≡ y)
one_of [] x zero y e = inr (same_Some x y e)
one_of [] x (suc n) y e = absurd (none_some y e)
one_of (z ∷ xs) x zero y e = inl e
one_of (z ∷ xs) x (suc n) y e = one_of xs x n y e

every_weaker : {A : Type 0} (P Q : A → Type 0) → ((x : A) → P x → Q x) → (xs : List A) → Every P xs → Every Q xs
every_weaker P Q one [] all = tt
every_weaker P Q one (x ∷ xs) all = (one x all.0, every_weaker P Q one xs all.1)

is_there : {A : Type 0} (xs : List A) (n : ℕ) → n < length xs → IsSome (slice_get xs n)
is_there [] n low = absurd (omega (arith, low))
is_there (x ∷ xs) zero low = refl
is_there (x ∷ xs) (suc n) low = is_there xs n (omega (arith, low))

-- a row of a library that stands there
pub row_at : (libraries : List LibraryRow) (place row : ℕ) (library : LibraryRow) → slice_get libraries place ≡ Some library → row < length library.generics → IsGenericAt libraries place row
row_at libraries place row library at low = ap (λ o. is_some (if_there o (λ (l : LibraryRow). slice_get l.generics row))) at ∙ is_there library.generics row low

-- a row of the last one
pub row_at_end : (before : List LibraryRow) (library : LibraryRow) (row : ℕ) → IsSome (slice_get library.generics row) → IsGenericAt (before ++ library ∷ []) (length before) row
row_at_end before library row h = ap (λ o. is_some (if_there o (λ (l : LibraryRow). slice_get l.generics row))) (at_end before library) ∙ h

pub row_kept : (libraries more : List LibraryRow) (place row : ℕ) → IsGenericAt libraries place row → IsGenericAt (libraries ++ more) place row
row_kept [] more place row h = absurd (true≢false (sym h))
row_kept (library ∷ libraries) more zero row h = h
row_kept (library ∷ libraries) more (suc place) row h = row_kept libraries more place row h

pub generic_kept : (libraries more : List LibraryRow) (named : BindingId) → IsGenericOf libraries named → IsGenericOf (libraries ++ more) named
generic_kept libraries more named h = row_kept libraries more named.at.library named.at.row h

module _ (libraries more : List LibraryRow) where
  abbrev Found : List LibraryRow → Flat → Type 0
  Found all flat = FlatFound (linked_program (program_of all)) flat

  flat_kept : (flat : Flat) → Found libraries flat → Found (libraries ++ more) flat
  flat_kept (Plain (instr.Search generic count)) h = row_kept libraries more generic.0.library generic.0.row h
  flat_kept _ h = tt

  pub calls_kept : (library : LibraryRow) → CallsAreThere libraries library → CallsAreThere (libraries ++ more) library
  calls_kept library all =
      every_weaker (λ (body : FlatBody). Every (Found libraries) body.code) (λ (body : FlatBody). Every (Found (libraries ++ more)) body.code)
      (λ body code. every_weaker (Found libraries) (Found (libraries ++ more)) flat_kept body.code code) (bodies_of library) all

-- So where all that a library calls is there, and what those before it call, all is.
pub one_more_library : (before : List LibraryRow) (library : LibraryRow) → GenericsAreThere (program_of before) → CallsAreThere (before ++ library ∷ []) library → GenericsAreThere (program_of (before ++ library ∷ []))
one_more_library before library all own place other e = step (one_of before library place other e)
  where
    step : (slice_get before place ≡ Some other) ⊎ (library ≡ other) → CallsAreThere (before ++ library ∷ []) other
    step (inl at) = calls_kept before (library ∷ []) other (all place other at)
    step (inr same) = subst (CallsAreThere (before ++ library ∷ [])) same own

-- A library without bodies calls nothing, as those that are built in.
pub no_calls : (libraries : List LibraryRow) (library : LibraryRow) → bodies_of library ≡ [] → CallsAreThere libraries library
no_calls libraries library none = subst (Every (λ (body : FlatBody). Every (FlatFound (linked_program (program_of libraries))) body.code)) (sym none) tt

dylan_bodies : bodies_of dylan_row ≡ []
dylan_bodies = refl

io_bodies : bodies_of io_row ≡ []
io_bodies = refl

pub dylan_calls : (libraries : List LibraryRow) → CallsAreThere libraries dylan_row
dylan_calls libraries = no_calls libraries dylan_row dylan_bodies

pub io_calls : (libraries : List LibraryRow) → CallsAreThere libraries io_row
io_calls libraries = no_calls libraries io_row io_bodies

-- so those of `dylan` and `io` are there
pub built_in_generics : GenericsAreThere (program_of (dylan_row ∷ io_row ∷ []))
built_in_generics zero library e = subst (CallsAreThere (dylan_row ∷ io_row ∷ [])) (same_Some dylan_row library e) (dylan_calls (dylan_row ∷ io_row ∷ []))
built_in_generics (suc zero) library e = subst (CallsAreThere (dylan_row ∷ io_row ∷ [])) (same_Some io_row library e) (io_calls (dylan_row ∷ io_row ∷ []))
built_in_generics (suc (suc place)) library e = absurd (none_some library e)
