-- What files and sinks in memory hold.
use Rattle.std.specs.Prelude.{ℕ, List, map, String, string_bytes, Vec, refl}
use Rattle.std.specs.FinMap as finite
use Rattle.std.specs.Coded.{Coded, code_by, coded×, coded_ℕ, coded_list}
use Rattle.dy_io.specs.Files.{FileMap}

-- What was sent to a sink, how often it was called, the numbers of the calls that are to fail, and
-- how often a call failed.
pub record SinkState : Type 0 where
  pub bytes : List ℕ
  pub calls : ℕ
  pub failing : List ℕ
  pub faults : ℕ

-- The files, how often they were read and written, the numbers of the calls that are to fail, how
-- often a call failed, and how often a file was not there.
pub record FilesState : Type 0 where
  pub files : FileMap
  pub calls : ℕ
  pub failing : List ℕ
  pub faults : ℕ
  pub misses : ℕ

-- a map of files is stored as its entries
abbrev pub file_map_code : Coded FileMap
file_map_code = finite.code (coded_list coded_ℕ) (coded_list coded_ℕ)

-- the state of files is stored as its fields
abbrev pub files_state_code : Coded FilesState
files_state_code = code_by (FileMap × (ℕ × (List ℕ × (ℕ × ℕ))))
    (coded× file_map_code (coded× coded_ℕ (coded× (coded_list coded_ℕ) (coded× coded_ℕ coded_ℕ))))
    (λ s. (s.files, (s.calls, (s.failing, (s.faults, s.misses)))))
    (λ p. record {
      files = p.0;
      calls = p.1.0;
      failing = p.1.1.0;
      faults = p.1.1.1.0;
      misses = p.1.1.1.1;
    })
    (λ _. refl)

-- the files whose names and bytes are these
abbrev pub files_of : {A B : Type 0} → List (String A × Vec ℕ B) → FileMap
files_of entries = finite.from_entries
    (map (λ entry. (string_bytes entry.0, entry.1.items)) entries)
