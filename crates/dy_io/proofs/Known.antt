-- What a writer took, against the bytes that it is known to hold.
use Rattle.std.proofs.Common.{ℕ, ◌+◌, ◌-◌, List, ◌++◌, length, take, drop, Option, sym, ap, subst, ◌∙◌}
use Rattle.std.proofs.lemmas.List.{take_rest}
use Rattle.std.proofs.Math.Seq.{take-add}
use Rattle.std.specs.Io.KnownBytes.{Appends}
use Rattle.std.proofs.KnownBytes.{Appends-trans}

-- a writer that took the first bytes, and then some of the rest, took more of the first bytes
pub took_more : (a b c : Option (List ℕ)) (bytes : List ℕ) (taken count : ℕ) → Appends a b (take taken bytes) → Appends b c (take count (take (length bytes - taken) (drop taken bytes))) → Appends a c (take (taken + count) bytes)
took_more a b c bytes taken count before now =
    subst (Appends a c) (ap (λ rest. take taken bytes ++ take count rest) (take_rest bytes taken) ∙ sym (take-add taken count bytes)) (Appends-trans a b c _ _ before now)
