-- The code of a program of linked libraries is that of their units, joined.
use Rattle.std.proofs.Common.{◌≡◌, ℕ, List, [], ◌∷◌, map, refl, sym, ap, ◌∙◌}
use Rattle.dy_term.specs.declared.rows.LibraryRow.{LibraryRow}
use Rattle.dy_term.specs.declared.rows.Program.{Program}
use Rattle.dy_code.specs.declared.unit.Unit.{Unit as CodeUnit}
use Rattle.dy_code.specs.declared.unit.UnitCode.{UnitCode}
use Rattle.dy_code.specs.Validity.{Every}
use Rattle.dy_meaning.specs.Numbers.{greatest}
use Rattle.dy_lowered.specs.Linking.{view_of, place_of, linked_code}
use Rattle.dy_lowered.specs.Units.{lowered}
use Rattle.dy_linked_rows.specs.Mentioned.{mentioned}
use Rattle.dy_linked_rows.specs.Laws.{KeepsApart}
use Rattle.dy_linked_rows.specs.Programs.{Viewed, unit_of, units, places_of, row_in_program, program_of, AreApart, ProgramsAreJoined}
use Rattle.dy_linked_rows.proofs.Lowered.{lowering_commutes}

module _ (all : List Viewed) where
  -- the code of a unit, in the program
  abbrev code_in : CodeUnit → UnitCode
  code_in unit = linked_code (place_of (view_of unit) (map (λ (other : CodeUnit). other.name) (units all))) unit.code

  codes_same : (some : List Viewed) → Every (λ viewed. KeepsApart (places_of all viewed) (mentioned viewed.library.row)) some
      → map (lowered (program_of all)) (map (row_in_program all) some) ≡ map code_in (map unit_of some)
  codes_same [] apart = refl
  codes_same (viewed ∷ some) apart =
      λ j. lowering_commutes (places_of all viewed) viewed.view (program_of all) viewed.library.row apart.0 j ∷ codes_same some apart.1 j

  stretches_same : (some : List CodeUnit) → map (λ (code : UnitCode). code.stretch) (map code_in some) ≡ map (λ (unit : CodeUnit). unit.code.stretch) some
  stretches_same [] = refl
  stretches_same (unit ∷ some) = ap (λ (ns : List ℕ). unit.code.stretch ∷ ns) (stretches_same some)

pub programs_are_joined : ProgramsAreJoined
programs_are_joined libraries apart =
    let codes = codes_same libraries libraries apart in
    let stretch = ap (λ (all : List UnitCode). greatest (map (λ (code : UnitCode). code.stretch) all)) codes ∙ ap greatest (stretches_same libraries (units libraries)) in
    λ j. record { program = program_of libraries; code = codes j; stretch = stretch j }
