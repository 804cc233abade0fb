-- How long the world of a run is lent.
use Rattle.std.proofs.Common.{ℕ, List, [], ◌++◌, subst, ◌∙◌}
use Rattle.std.proofs.lemmas.List.{append-nil}
use mathlib.Core.List.{Mem}

-- a reference to a program, which itself lends nothing, ends with what it is lent for
pub lent : (ends : List ℕ) (a : ℕ) → Mem a ((ends ++ []) ++ []) → Mem a ends
lent ends a there = subst (Mem a) (append-nil (ends ++ []) ∙ append-nil ends) there
