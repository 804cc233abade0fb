-- Runs of numbers, and what is bound in parts that stand one after the other.
use Rattle.std.proofs.Common.{◌≡◌, ℕ, zero, suc, ◌+◌, List, [], ◌∷◌, ◌++◌, Option, Some, None, refl}
use Rattle.std.proofs.Common.{sym, subst, arith, append_assoc, append-nil}
use Rattle.dy_binding.specs.Bound.{count, number_of}
use Rattle.dy_resolution.specs.Numbers.{Frame, Uses, no_uses, both, binds, framed, listed}
use Rattle.dy_resolution.specs.Numbers.{numbers_from, IsRun, AreFramed}

pub run_append : (a b c : ℕ) (xs ys : List ℕ) → IsRun a b xs → IsRun b c ys → IsRun a c (xs ++ ys)
run_append a b c [] ys r s = subst (λ n. IsRun n c ys) (sym r) s
run_append a b c (x ∷ xs) ys r s = (r.0, run_append (a + 1) b c xs ys r.1 s)

frames_append : (xs ys : List Frame) → AreFramed xs → AreFramed ys → AreFramed (xs ++ ys)
frames_append [] ys h k = k
frames_append (x ∷ xs) ys h k = (h.0, frames_append xs ys h.1 k)

-- what is bound are the numbers from one to below another
pub record Counted (first end : ℕ) (uses : Uses) : Type 0 where
  pub run : IsRun first end uses.bound
  pub frames : AreFramed uses.frames

pub counted_none : (a : ℕ) → Counted a a no_uses
counted_none a = record { run = refl; frames = tt }

pub counted_both : (a b c : ℕ) (u v : Uses) → Counted a b u → Counted b c v → Counted a c (both u v)
counted_both a b c u v p q = record {
  run = run_append a b c u.bound v.bound p.run q.run;
  frames = frames_append u.frames v.frames p.frames q.frames;
}

pub counted_binds : (a b : ℕ) (ns : List ℕ) → IsRun a b ns → Counted a b (binds ns)
counted_binds a b ns r = record { run = r; frames = tt }

pub counted_framed : (a b : ℕ) (u : Uses) → Counted a b u → Counted a b (framed a b u)
counted_framed a b u c = record { run = c.run; frames = (c.run, c.frames) }

-- from and to numbers that are the same
pub counted_from : (a b c : ℕ) (u : Uses) → b ≡ a → Counted b c u → Counted a c u
counted_from a b c u e k = subst (λ n. Counted n c u) e k

pub counted_to : (a b c : ℕ) (u : Uses) → b ≡ c → Counted a b u → Counted a c u
counted_to a b c u e k = subst (λ n. Counted a n u) e k

pub counted_same : (a b : ℕ) (u v : Uses) → v ≡ u → Counted a b u → Counted a b v
counted_same a b u v e k = subst (λ w. Counted a b w) (sym e) k

pub both_assoc : (u v w : Uses) → both (both u v) w ≡ both u (both v w)
both_assoc u v w = λ i. record {
  bound = append_assoc u.bound v.bound w.bound i;
  frames = append_assoc u.frames v.frames w.frames i;
}

pub both_none : (u : Uses) → both u no_uses ≡ u
both_none u = λ i. record { bound = append-nil u.bound i; frames = append-nil u.frames i }

pub rest_run : {A : Type 0} (o : Option A) (n : ℕ) → IsRun n (n + count o) (listed (number_of o n))
rest_run None n = omega arith
rest_run (Some x) n = (refl, omega arith)

pub from_run : (n many : ℕ) → IsRun n (n + many) (numbers_from n many)
from_run n zero = omega arith
from_run n (suc many) = (
  refl,
  subst (λ m. IsRun (n + 1) m (numbers_from (n + 1) many))
      (omega arith) (from_run (n + 1) many),
)
