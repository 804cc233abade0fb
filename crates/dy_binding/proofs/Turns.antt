-- Lists of parts, one part after the other: what is done so far, and what the rest gives.
use Rattle.std.proofs.Common.{◌≡◌, List, ◌++◌}

-- the whole is what is done and then what the rest gives
abbrev pub Goes : {A B : Type 0} → List A × B → List A → List A × B → Type 0
Goes whole done rest = whole ≡ (done ++ rest.0, rest.1)
