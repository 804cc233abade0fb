-- Libraries in a program, where the code of each mentions libraries of its view alone.
use Rattle.std.specs.Prelude.{◌≡◌, ◌<◌, ℕ, List, length, map, All, Contains, EachIndex}
use Rattle.std.specs.Prelude.{slice_index_or}
use Rattle.std.specs.List.{IsDistinct}
use Rattle.std.specs.Str.{bytes_eq}
use Rattle.dy_modules.specs.Clauses.{Name}
use Rattle.dy_code.specs.Validity.{Every}
use Rattle.dy_lowered.specs.Linking.{view_of, linked}
use Rattle.dy_lowering_law.specs.Machines.{linked_program}
use Rattle.dy_views.specs.declared.compiled.Compiled.{Compiled}
use Rattle.dy_views.specs.Views.{AreCompiled, no_exports}
use Rattle.dy_views.specs.Laws.{view_at}
use Rattle.dy_linked_rows.specs.Programs.{Viewed, unit_of, units, program_of, AreApart}
use Rattle.dy_viewed_rows.specs.Within.{MentionsAreWithin}

-- What the unit of a library sees, by names, are libraries of a program that has these names, each
-- once; and its code mentions these alone.
pub record IsSeen (program : List Name) (viewed : Viewed) : Type 0 where
  pub once : IsDistinct bytes_eq (view_of (unit_of viewed))
  pub there : All (Contains program) (view_of (unit_of viewed))
  pub mentions : MentionsAreWithin (length (view_of (unit_of viewed))) viewed.library.row

-- so of each library of a program
abbrev pub AreSeen : List Viewed → Type 0
AreSeen libraries = Every (IsSeen (map (λ unit. unit.name) (units libraries))) libraries

-- Then no two libraries that the code of one mentions come together.
abbrev pub ProgramsAreApart : Type 0
ProgramsAreApart = (libraries : List Viewed) → AreSeen libraries → AreApart libraries

-- So the code of the program is that of its units, joined.
abbrev pub SeenProgramsAreJoined : Type 0
SeenProgramsAreJoined = (libraries : List Viewed) → AreSeen libraries
    → linked_program (program_of libraries) ≡ linked (program_of libraries) (units libraries)

-- ---- libraries that were compiled, by number

abbrev pub library_name : Compiled → ℕ → Name
library_name compiled library = (slice_index_or compiled.exports library no_exports).library

-- They have names of their own. The unit of each sees by name what its view has, and its code
-- mentions libraries of its view alone.
pub record AreViewed (compiled : Compiled) (viewed : ℕ → Viewed) : Type 0 where
  pub once : IsDistinct bytes_eq (map (λ exports. exports.library) compiled.exports)
  pub names : EachIndex compiled.exports (λ library.
      (unit_of (viewed library)).name ≡ library_name compiled library)
  pub views : EachIndex compiled.exports (λ library.
      view_of (unit_of (viewed library)) ≡ map (library_name compiled) (view_at compiled library))
  pub mentions : EachIndex compiled.exports (λ library.
      MentionsAreWithin (length (view_at compiled library)) (viewed library).library.row)

-- So are those in the load order of one of them.
abbrev pub LoadedAreSeen : Type 0
LoadedAreSeen = (compiled : Compiled) (viewed : ℕ → Viewed) (main : ℕ) → AreCompiled compiled
    → AreViewed compiled viewed → main < length compiled.exports
    → AreSeen (map viewed (view_at compiled main))
