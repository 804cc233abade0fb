-- The sizes of libraries that are accepted, and of their programs. A library has at most 2^24
-- tokens, of which each gives fewer than four nodes, and a command has at most 64 libraries.
use Rattle.std.specs.Prelude.{ℕ, ◌^◌, ◌<◌, List}
use Rattle.dy_code.specs.Programs.{bodies_in}
use Rattle.dy_lowering_law.specs.Machines.{linked_program}
use Rattle.dy_lowering_whole.specs.sizes.Nodes.{nodes_of_library}
use Rattle.dy_lowering_whole.specs.sizes.Sizes.{IsSmall}
use Rattle.dy_views.specs.declared.compiled.Compiled.{Compiled}
use Rattle.dy_verdict.specs.declared.library.ReadLibrary.{ReadLibrary}
use Rattle.dy_verdict.specs.Verdicts.{accepted, IsVerdict}
use Rattle.dy_accepted_runs.specs.Accepted.{OfAccepted, program_at}

-- A library that files were judged to be has fewer nodes than the limit, and so the numbers of its
-- unit have 32 bits: those of its bodies, of the instructions of each, and of the items of lists.
abbrev pub AcceptedAreSmall : Type 0
AcceptedAreSmall = (compiled : Compiled) (library : List ℕ) (texts : List (List ℕ))
    (read : ReadLibrary) → IsVerdict compiled library texts (accepted read)
    → (nodes_of_library read.row < 2 ^ 26) × IsSmall read.row

-- The bodies of a program, which count through its libraries, have numbers of 32 bits.
abbrev pub ProgramsAreSmall : Type 0
ProgramsAreSmall = OfAccepted (λ libraries main.
    bodies_in (linked_program (program_at libraries main)).code < 2 ^ 32)
