-- Results that are read.
use Rattle.std.proofs.Common.{◌≡◌, Result, IfOk, ◌∙◌}
use Rattle.std.proofs.lemmas.Result.{IfOk-weaker}

-- what was read is the same as something else
pub read_as : {A B E : Type 0} (see : A → B) (result : Result A E) (old new : B) → old ≡ new → IfOk result (λ found. see found ≡ old) → IfOk result (λ found. see found ≡ new)
read_as see result old new e h = IfOk-weaker result _ (λ found. see found ≡ new) (λ found f. f ∙ e) h
