use Rattle.std.proofs.Common.{◌≡◌, ◌≤◌, Some, drop}
use Rattle.std.specs.Prelude.{map, string_bytes}
use Rattle.dy_io.specs.Files.{FileMap}
use Rattle.dy_libraries.specs.Commands.{built_in, AreLibraries}
use Rattle.dy_sources.specs.Libraries.{AreAccepted}
use Rattle.dy_sources.proofs.Chains.{GoOn}
use Rattle.dy_sources.proofs.lids.read_libraries.Given as goal

-- what the LID files that are left come to behind these libraries is what all come to
abbrev pub invariant-loop-lid : goal.invariant-loop-lid
invariant-loop-lid g l = record {
  read : (held : FileMap) → g.F.Files.contents l.fn.files ≡ Some held
      → GoOn held l.libraries built_in (map string_bytes (drop l.lid-index l.lids)) (map string_bytes l.lids);
  accepted : AreAccepted l.libraries;
  libraries : AreLibraries l.libraries;
  contents : g.F.Files.contents l.files ≡ g.F.Files.contents l.fn.files;
  misses : g.F.Files.misses l.fn.files ≤ g.F.Files.misses l.files;
  faults : g.F.Files.faults l.fn.files ≤ g.F.Files.faults l.files;
}
