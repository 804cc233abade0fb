-- The methods that are applicable, found by the numbers of those of a generic function.
use Rattle.std.proofs.Common.{arith, ◌≡◌, ◌∙◌, ℕ, zero, suc, ◌+◌, Bool, true, false, ◌&&◌, List, []}
use Rattle.std.proofs.Common.{◌∷◌, ◌++◌, map, cond, filter, slice_get, IfSome, ap, sym, subst, refl}
use Rattle.std.specs.Global.{Vec}
use Rattle.std.specs.declared.option.Option.{Option}
use Rattle.std.proofs.lemmas.Bool.{true≢false, false≢true}
use Rattle.std.specs.declared.option.Option.TheVariants.{None, Some}
use Rattle.dy_base.specs.declared.ids.GenericId.{GenericId}
use Rattle.dy_base.specs.declared.ids.MethodId.{MethodId}
use Rattle.dy_term.specs.declared.rows.MethodRow.{MethodRow}
use Rattle.dy_term.specs.declared.rows.LibraryRow.{LibraryRow}
use Rattle.dy_term.specs.declared.rows.Program.{Program}
use Rattle.dy_values.specs.declared.value.Variant.{Variant}
use Rattle.dy_values.specs.declared.store.Store.{Store}
use Rattle.dy_meaning.specs.Globals.{is_same_ref}
use Rattle.dy_meaning.specs.Programs.{are_instances}
use Rattle.dy_lowering_law.specs.Machines.{methods_from, all_methods_from}
use Rattle.dy_program_world.specs.ProgramWorlds.{applies, chosen}
use Rattle.dy_program_world.specs.Steady.{is_applicable, row_applies}
use Rattle.dy_program_world.specs.Tables.{all_methods, own, method_in, method_at, entry}
use Rattle.dy_program_world.specs.Tables.{IsTable}

-- each method stands where its number says
abbrev pub AreThere : Program → List (MethodId × MethodRow) → Type 0
AreThere program [] = Unit {0}
AreThere program (method ∷ methods) =
    (method_at program method.0 ≡ Some method.1) × AreThere program methods

both_there : (program : Program) (left right : List (MethodId × MethodRow))
    → AreThere program left → AreThere program right → AreThere program (left ++ right)
both_there program [] right first second = second
both_there program (method ∷ left) right first second =
    (first.0, both_there program left right first.1 second)

-- the same list from some place on
abbrev pub IsFrom : {A : Type 0} → ℕ → (all part : List A) → Type 0
IsFrom from all part = (place at : ℕ) → at ≡ from + place → slice_get part place ≡ slice_get all at

behind_first : {A : Type 0} (from : ℕ) (all : List A) (x : A) (part : List A)
    → IsFrom from all (x ∷ part) → IsFrom (from + 1) all part
behind_first from all x part is = λ place at e. is (suc place) at (omega (arith, e))

module _ (program : Program) where
  in_library : (library : LibraryRow) (place : ℕ) → slice_get program.libraries place ≡ Some library
      → (row : ℕ) (methods : List MethodRow) → IsFrom row library.methods methods
      → AreThere program (methods_from place row methods)
  in_library library place there row [] is = tt
  in_library library place there row (method ∷ methods) is = (
    ap (method_in row) there ∙ sym (is zero row (omega arith)),
    in_library library place there (row + 1) methods
        (behind_first row library.methods method methods is),
  )

  in_libraries : (place : ℕ) (libraries : List LibraryRow)
      → IsFrom place program.libraries libraries → AreThere program (all_methods_from place libraries)
  in_libraries place [] is = tt
  in_libraries place (library ∷ libraries) is =
      both_there program (methods_from place 0 library.methods)
      (all_methods_from (place + 1) libraries)
      (in_library library place (sym (is zero place (omega arith))) 0 library.methods
      (λ p at e. ap (slice_get library.methods) (omega (arith, e))))
      (in_libraries (place + 1) libraries
      (behind_first place program.libraries library libraries is))

  all_there : AreThere program (all_methods program)
  all_there = in_libraries 0 program.libraries
      (λ p at e. ap (slice_get program.libraries) (omega (arith, e)))

-- a list with one more at its front, if that is taken
one_more : (id : MethodId) (row : MethodRow) (first second : Bool) (ids : List MethodId)
    (rows : List (MethodId × MethodRow)) → first ≡ second → ids ≡ map (λ m. m.0) rows
    → cond first (id ∷ ids) ids ≡ map (λ m. m.0) (cond second ((id, row) ∷ rows) rows)
one_more id row true true ids rows same are = ap (λ (is : List MethodId). id ∷ is) are
one_more id row true false ids rows same are = absurd (true≢false same)
one_more id row false true ids rows same are = absurd (false≢true same)
one_more id row false false ids rows same are = are

module _ (program : Program) (store : Store) (generic : GenericId) (values : List Variant) where
  abbrev fits : MethodRow → Bool
  fits row = are_instances program store values row.params.required

  split : (id : MethodId) (row : MethodRow) (same : Bool)
      (mine others : List (MethodId × MethodRow))
      → is_applicable program store generic values id ≡ (same && fits row)
      → filter (is_applicable program store generic values) (map (λ m. m.0) mine)
      ≡ map (λ m. m.0) others
      → filter (is_applicable program store generic values)
      (map (λ m. m.0) (cond same ((id, row) ∷ mine) mine))
      ≡ map (λ m. m.0) (cond (same && fits row) ((id, row) ∷ others) others)
  split id row true mine others is are =
      one_more id row (is_applicable program store generic values id) (fits row)
      (filter (is_applicable program store generic values) (map (λ m. m.0) mine)) others is are
  split id row false mine others is are = are

  among_own : (methods : List (MethodId × MethodRow)) → AreThere program methods
      → filter (is_applicable program store generic values) (own generic methods)
      ≡ chosen program store generic values methods
  among_own [] there = refl
  among_own (method ∷ methods) there =
      split method.0 method.1 (is_same_ref method.1.generic.0 generic.0)
      (filter (λ m. is_same_ref m.1.generic.0 generic.0) methods)
      (filter (applies program store generic values) methods)
      (ap (row_applies program store generic values) there.0)
      (among_own methods there.1)

  -- those of a generic function's own methods that are applicable are those of all
  pub chosen_own : filter (is_applicable program store generic values)
      (own generic (all_methods program))
      ≡ chosen program store generic values (all_methods program)
  chosen_own = among_own (all_methods program) (all_there program)

-- what a table has for a generic function are its methods
pub listed_are : (program : Program) (table : List (Vec (Vec MethodId))) (generic : GenericId)
    (methods : List MethodId) → IsTable program table → Some methods ≡ entry table generic
    → methods ≡ own generic (all_methods program)
listed_are program table generic methods is listed =
    subst (λ (list : Option (List MethodId)).
    IfSome list (λ ms. ms ≡ own generic (all_methods program))) (sym listed) (is generic)
