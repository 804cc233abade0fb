-- A library that is accepted may stand behind the others.
use Rattle.std.proofs.Common.{◌≡◌, ◌+◌, ◌<◌, ◌^◌, false, length, arith}
use Rattle.std.proofs.lemmas.Bool.{leb-false}
use Rattle.dy_libraries.specs.declared.libraries.Libraries.{Libraries}
use Rattle.dy_libraries.specs.Commands.{AreLibraries}
use Rattle.dy_libraries.proofs.Growing.{one_more, built_in_are}
use Rattle.dy_verdict.specs.declared.library.ReadLibrary.{ReadLibrary}
use Rattle.dy_sources.specs.Verdicts.{is_full}
use Rattle.dy_sources.specs.Libraries.{with_read, IsAccepted, AreAccepted, none_read, one_more as read_more}
use Rattle.dy_sources.proofs.Naming.{accepted_next}

-- where there is room, numbers fit
pub room_fits : (before : Libraries) → is_full before ≡ false → length before.rows + 1 < 2 ^ 32
room_fits before room = let few : length before.rows < 66 = leb-false 66 (length before.rows) room in omega arith

pub next_are : (before : Libraries) (read : ReadLibrary) → AreLibraries before → IsAccepted before read → AreLibraries (with_read before read)
next_are before read are is = one_more before read.row read.exports read.uses read.order are (room_fits before is.room) (accepted_next before read are is)

pub accepted_are_libraries : (libraries : Libraries) → AreAccepted libraries → AreLibraries libraries
accepted_are_libraries libraries none_read = built_in_are
accepted_are_libraries libraries (read_more before read are is) = next_are before read (accepted_are_libraries before are) is
