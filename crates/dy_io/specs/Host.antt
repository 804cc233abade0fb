-- What sinks and files of the host are made of.
use Rattle.std.specs.Prelude.{◌≡◌, ℕ, ◌≤◌, List, ◌++◌, length, take, Option, IfSome}
use Rattle.dy_io.specs.declared.host_files.HostFiles.{HostFiles}
use Rattle.dy_io.specs.declared.host_sink.HostSink.{HostSink}

-- the writer behind a sink
abbrev pub sink_writer : {W : Type 0} → HostSink W → W
sink_writer s = s.writer

-- how often a call of a sink has failed
abbrev pub sink_faults : {W : Type 0} → HostSink W → ℕ
sink_faults s = s.faults

-- At most so many bytes came behind what was there, and where it is known which bytes the reader
-- had left, the first of these.
abbrev pub ReadsFront : Option (List ℕ) → ℕ → List ℕ → List ℕ → Type 0
ReadsFront known most old new =
    (bytes : List ℕ) × (length bytes ≤ most) × (new ≡ old ++ bytes)
    × IfSome known (λ had. bytes ≡ take most had)

-- how often a call of files of the host has failed
abbrev pub files_faults : {R : Type 0} → HostFiles R → ℕ
files_faults f = f.faults

-- how often a file of the host was not there
abbrev pub files_misses : {R : Type 0} → HostFiles R → ℕ
files_misses f = f.misses
