-- The names and the owners are the least closed sets.
use Rattle.std.proofs.Common.{◌≡◌, ℕ, Bool, true, List}
use Rattle.dy_modules.specs.declared.owner.Owner.{Owner}
use Rattle.dy_modules.specs.declared.clause.ModuleForm.{ModuleForm}
use Rattle.dy_modules.specs.Clauses.{Name}
use Rattle.dy_modules.specs.Sees.{Side, Named, given_name, listed_name, brought_name, again_name, HasNames, Owned, given_owner, own_owner, passed_owner, brought_owner, again_owner, IsClosed}

pub names : (ms : List ModuleForm) → HasNames ms (Named ms)
names ms = record { given = given_name; listed = listed_name; bring = brought_name; repeat = again_name }

pub least_names : (ms : List ModuleForm) (P : Side → ℕ → Name → Type 0) → HasNames ms P → (s : Side) (m : ℕ) (n : Name) → Named ms s m n → P s m n
least_names ms P c _ _ _ (given_name m d n k at is) = c.given m d n k at is
least_names ms P c _ _ _ (listed_name m d n at is) = c.listed m d n at is
least_names ms P c _ _ _ (brought_name m d u a n at is b h) = c.bring m d u a n at is b (least_names ms P c _ _ _ h)
least_names ms P c _ _ _ (again_name m d u a n at is b r h) = c.repeat m d u a n at is b r (least_names ms P c _ _ _ h)

pub owners : (ms : List ModuleForm) → IsClosed ms (Owned ms)
owners ms = record { given = given_owner; own = own_owner; passed = passed_owner; bring = brought_owner; repeat = again_owner }

pub least_owners : (ms : List ModuleForm) (P : Side → ℕ → Name → Owner → Type 0) → IsClosed ms P → (s : Side) (m : ℕ) (n : Name) (k : Owner) → Owned ms s m n k → P s m n k
least_owners ms P c _ _ _ _ (given_owner m d n k at is) = c.given m d n k at is
least_owners ms P c _ _ _ _ (own_owner m d n at none is free) = c.own m d n at none is free
least_owners ms P c _ _ _ _ (passed_owner m d n k at none is h) = c.passed m d n k at none is (least_owners ms P c _ _ _ _ h)
least_owners ms P c _ _ _ _ (brought_owner m d u a n k at is b h) = c.bring m d u a n k at is b (least_owners ms P c _ _ _ _ h)
least_owners ms P c _ _ _ _ (again_owner m d u a n k at none is b r h) = c.repeat m d u a n k at none is b r (least_owners ms P c _ _ _ _ h)

-- the same for sets that a test decides
pub least_tested_names : (ms : List ModuleForm) (P : Side → ℕ → Name → Bool) → HasNames ms (λ s m n. P s m n ≡ true) → (s : Side) (m : ℕ) (n : Name) → Named ms s m n → P s m n ≡ true
least_tested_names ms P = least_names ms (λ s m n. P s m n ≡ true)

pub least_tested_owners : (ms : List ModuleForm) (P : Side → ℕ → Name → Owner → Bool) → IsClosed ms (λ s m n k. P s m n k ≡ true) → (s : Side) (m : ℕ) (n : Name) (k : Owner) → Owned ms s m n k → P s m n k ≡ true
least_tested_owners ms P = least_owners ms (λ s m n k. P s m n k ≡ true)
