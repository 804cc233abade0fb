use Rattle.std.proofs.Common.{◌≡◌, ◌++◌, drop}
use Rattle.dy_library_modules.specs.Modules.{headers_of}
use Rattle.dy_library_modules.proofs.own_modules.headers_of.Given as goal

abbrev pub invariant-loop-file : goal.invariant-loop-file
invariant-loop-file l = l.headers.items ++ headers_of (drop l.file-index l.sources) ≡ headers_of l.sources
