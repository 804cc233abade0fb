-- The libraries that a library uses stand in front of it, each with a number: its place. What code
-- calls among them.
use Rattle.std.specs.Prelude.{ℕ, List, IsSome, slice_get}
use Rattle.dy_base.specs.declared.ids.BindingId.{BindingId}
use Rattle.dy_term.specs.declared.rows.LibraryRow.{LibraryRow}
use Rattle.dy_term.specs.declared.rows.Program.{Program}
use Rattle.dy_code.specs.Programs.{if_there}
use Rattle.dy_code.specs.Validity.{Every}
use Rattle.dy_lowered.specs.Bodies.{bodies_of}
use Rattle.dy_lowering_law.specs.Machines.{linked_program}
use Rattle.dy_lowering_whole.specs.valid.Valid.{FlatFound}

-- the program of these libraries, in load order
abbrev pub program_of : List LibraryRow → Program
program_of libraries = record { libraries = libraries }

-- a row of the generic functions of one of these libraries, by the numbers of both
abbrev pub IsGenericAt : List LibraryRow → (library row : ℕ) → Type 0
IsGenericAt libraries library row =
    IsSome (if_there (slice_get libraries library) (λ l. slice_get l.generics row))

abbrev pub IsGenericOf : List LibraryRow → BindingId → Type 0
IsGenericOf libraries named = IsGenericAt libraries named.at.library named.at.row

-- Each generic function that the code of a library calls is such a row. So it is of all libraries
-- of a program where their generic functions are there (`GenericsAreThere`).
abbrev pub CallsAreThere : List LibraryRow → LibraryRow → Type 0
CallsAreThere libraries library =
    Every (λ body. Every (FlatFound (linked_program (program_of libraries))) body.code)
    (bodies_of library)
