use Rattle.std.proofs.Common.{◌≡◌, ◌≤◌, Some, take}
use Rattle.std.specs.Prelude.{map}
use Rattle.dy_io.specs.Files.{FileMap}
use Rattle.dy_sources.specs.Layout.{source_name}
use Rattle.dy_sources.specs.Judged.{AreWithin}
use Rattle.dy_sources.specs.Verdicts.{AreTexts}
use Rattle.dy_sources.proofs.source.read_texts.Given as goal

-- the files so far are these texts, and the files to read are as at first
abbrev pub invariant-loop-file : goal.invariant-loop-file
invariant-loop-file g l = record {
  read : (held : FileMap) → g.F.Files.contents l.fn.files ≡ Some held → AreTexts held (map (source_name l.lid) (take l.file-index l.names)) l.texts;
  within : AreWithin l.file-index l.texts;
  contents : g.F.Files.contents l.files ≡ g.F.Files.contents l.fn.files;
  misses : g.F.Files.misses l.fn.files ≤ g.F.Files.misses l.files;
  faults : g.F.Files.faults l.fn.files ≤ g.F.Files.faults l.files;
}
