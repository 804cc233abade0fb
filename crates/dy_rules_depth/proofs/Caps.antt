-- Another in the place of something: the same where that is within the limit, and where it is not, one that is not either.
use Rattle.std.proofs.Common.{◌≡◌, ℕ, max, ◌<◌, ◌≤◌, refl, ap, arith}
use Rattle.dy_rules.specs.Depth.{depth_limit}

-- with how deep both are
pub record Caps (A : Type 0) (before after : A) (depth_before depth_after : ℕ) : Type 0 where
  pub kept : depth_before ≤ depth_limit → after ≡ before
  pub deep : depth_limit < depth_before → depth_limit < depth_after
  pub within : depth_after ≤ 201

pub caps_same : (A : Type 0) (a : A) → Caps A a a 0 0
caps_same A a = record { kept = λ le. refl; deep = λ lt. lt; within = omega arith }

pub caps_leaf : (A : Type 0) (a : A) → Caps A a a 1 1
caps_leaf A a = record { kept = λ le. refl; deep = λ lt. lt; within = omega arith }

pub caps_one : {A B : Type 0} (make : A → B) {a b : A} {m n : ℕ} → Caps A a b m n → Caps B (make a) (make b) m n
caps_one make h = record { kept = λ le. ap make (h.kept le); deep = h.deep; within = h.within }

either : (m n k l : ℕ) → (depth_limit < m → depth_limit < n) → (depth_limit < k → depth_limit < l) → depth_limit < max m k → depth_limit < max n l
either m n k l f g lt = grind arith

pub caps_two : {A B C : Type 0} (make : A → B → C) {a b : A} {m n : ℕ} {c d : B} {k l : ℕ} → Caps A a b m n → Caps B c d k l → Caps C (make a c) (make b d) (max m k) (max n l)
caps_two {A = A} {B = B} make {a = a} {b = b} {m = m} {n = n} {c = c} {d = d} {k = k} {l = l} h i =
    record {
      kept = λ (le : max m k ≤ depth_limit). let first : b ≡ a = h.kept (omega arith) in let second : d ≡ c = i.kept (omega arith) in cc;
      deep = either m n k l h.deep i.deep;
      within = let e = h.within in let f = i.within in omega arith;
    }
