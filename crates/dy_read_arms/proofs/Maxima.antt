-- The deepest of several, whose depths were told one after the other.
use Rattle.std.proofs.Common.{◌≡◌, ℕ, max, ap, ◌∙◌, arith}

pub max_zero : (n : ℕ) → n ≡ max 0 n
max_zero n = omega arith

pub max_assoc : (a b c : ℕ) → max (max a b) c ≡ max a (max b c)
max_assoc a b c = omega arith

pub three_deep : (o v f n d0 d1 d2 : ℕ) → d0 ≡ max o v → d1 ≡ max d0 f → d2 ≡ max d1 n → d2 ≡ max o (max v (max f n))
three_deep o v f n d0 d1 d2 e g h =
    h ∙ ap (λ (x : ℕ). max x n) (g ∙ ap (λ (x : ℕ). max x f) e) ∙ max_assoc (max o v) f n ∙ max_assoc o v (max f n)

pub four_deep : (o v s l t d0 d1 d2 d3 : ℕ) → d0 ≡ max o v → d1 ≡ max d0 s → d2 ≡ max d1 l → d3 ≡ max d2 t → d3 ≡ max o (max (max v s) (max l t))
four_deep o v s l t d0 d1 d2 d3 e g h k =
    k ∙ ap (λ (x : ℕ). max x t) (h ∙ ap (λ (x : ℕ). max x l) (g ∙ ap (λ (x : ℕ). max x s) e)) ∙ max_assoc (max (max o v) s) l t
    ∙ ap (λ (x : ℕ). max x (max l t)) (max_assoc o v s) ∙ max_assoc o (max v s) (max l t)
