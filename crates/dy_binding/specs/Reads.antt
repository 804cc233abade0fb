-- Parts of a draft, one after the other: the numbers that are given to locals, and the first fault
-- so far.
use Rattle.std.specs.Prelude.{ℕ, ◌+◌, Option, Some, None}
use Rattle.dy_base.specs.declared.fault.Fault.{Fault}
use Rattle.dy_names.specs.Naming.{Locals}
use Rattle.dy_binding.specs.declared.progress.Progress.{Progress}
use Rattle.dy_binding.specs.Faults.{first_of_two}

-- A part of a draft where some locals are in force: what it is as a term, and the progress after
-- it.
abbrev pub Reads : Type 0 → Type 0
Reads T = Locals → Progress → T × Progress

-- nothing is read yet
abbrev pub none : Progress
none = record { next = 0; first = None }

-- so many numbers are given to locals
abbrev pub numbered : ℕ → Progress → Progress
numbered count p = record p { next = p.next + count }

-- a fault is found, behind those so far
abbrev pub told : Fault → Progress → Progress
told fault p = record p { first = Some (first_of_two p.first fault) }

abbrev pub told_some : Option Fault → Progress → Progress
told_some None p = p
told_some (Some fault) p = told fault p
