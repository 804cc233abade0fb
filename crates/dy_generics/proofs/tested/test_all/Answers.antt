use Rattle.std.proofs.Common.{inl, sym, ◌∙◌, true≢false}
use Rattle.dy_generics.proofs.tested.test_all.Goals as goal

pub returns-then-holds : goal.returns-then-holds
returns-then-holds c = λ program claim same. (same.0 c.if-holds.true, tt)

pub returns-else-holds : goal.returns-else-holds
returns-else-holds c = λ program claim same. inl (λ h. absurd (true≢false (sym (same.1 h) ∙ c.if-holds.false)), c.misfit_at.ensures claim)
