use Rattle.std.proofs.Common.{◌≡◌, ℕ, zero, suc, ◌+◌, List, [], ◌∷◌, ◌++◌, sym, ap, ◌∙◌, arith}
use Rattle.std.specs.List.{range_with_len}
use Rattle.dy_rings.proofs.ring.Walk.new.Goals as goal

range_more : (n a j : ℕ) → a + n ≡ j → range_with_len a (suc n) ≡ range_with_len a n ++ j ∷ []
range_more zero a j e = ap (λ (k : ℕ). k ∷ []) same
  where
    same : a ≡ j
    same = omega (arith, e)
range_more (suc n) a j e = ap (λ (xs : List ℕ). a ∷ xs) (range_more n (a + 1) j (omega (arith, e)))

more : (n : ℕ) → range_with_len 0 n ++ n ∷ [] ≡ range_with_len 0 (n + 1)
more n = sym (range_more n 0 n (omega arith)) ∙ ap (range_with_len 0) next
  where
    next : suc n ≡ n + 1
    next = omega arith

pub loop-node-preserved : goal.loop-node-preserved
loop-node-preserved c =
    let n = c.loop-node.node in
    c.in_ok-push.ensures.items ∙ ap (λ (xs : List ℕ). xs ++ n ∷ []) c.loop-node.invariant ∙ more n
