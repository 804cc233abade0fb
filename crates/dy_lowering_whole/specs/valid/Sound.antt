-- The laws of bodies: each leaves all as it was until its end, and so is sound.
use Rattle.std.specs.Prelude.{◌≡◌, ℕ, ◌+◌, slice_get}
use Rattle.std.specs.declared.option.Option.TheVariants.{Some}
use Rattle.dy_term.specs.declared.term.Term.{Term}
use Rattle.dy_term.specs.declared.rows.LibraryRow.{LibraryRow}
use Rattle.dy_term.specs.declared.rows.Program.{Program}
use Rattle.dy_code.specs.Validity.{Every, IsSound}
use Rattle.dy_lowered.specs.Bodies.{FlatBody, bodies_of}
use Rattle.dy_lowered.specs.Terms.{code_of}
use Rattle.dy_lowering_law.specs.Machines.{linked_program}
use Rattle.dy_meaning.specs.Layouts.{Layout}
use Rattle.dy_lowering_whole.specs.valid.Shapes.{IsEven, IsWhole}
use Rattle.dy_lowering_whole.specs.valid.Writing.{FlatFits, bodies_before}

-- the code of every term
abbrev pub TermsAreEven : Type 0
TermsAreEven = (layout : Layout) (term : Term) (number : ℕ) → IsEven (code_of layout term number)

-- every body of every library
abbrev pub BodiesAreWhole : Type 0
BodiesAreWhole = (library : LibraryRow) → Every (λ flat. IsWhole flat.code) (bodies_of library)

-- every body whose instructions name what is there
abbrev pub BodiesAreSound : Type 0
BodiesAreSound = (program : Program) (place : ℕ) (library : LibraryRow)
    → slice_get program.libraries place ≡ Some library
    → (body : ℕ) (flat : FlatBody) → slice_get (bodies_of library) body ≡ Some flat
    → Every (FlatFits (bodies_of library) flat.locals flat.captures) flat.code
    → IsSound (linked_program program) (bodies_before program place + body)
