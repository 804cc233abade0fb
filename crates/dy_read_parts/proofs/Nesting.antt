-- How deep parts of fragments are nested.
use Rattle.std.proofs.Common.{◌≡◌, ◌≤◌, ℕ, zero, suc, max, List, [], ◌∷◌, take, drop, Bor, Option, Some, None, refl, ap, arith}
use Rattle.dy_tree.specs.declared.fragment.Fragment.{Fragment}
use Rattle.dy_tree.specs.Fragments.{SeenFragment, pack, seen_fragments}
use Rattle.dy_read_parts.specs.Pieces.{IsWithin}
use Rattle.dy_read_parts.specs.Nesting.{group_nesting, inner_nesting, nesting}

pub pack_nesting : (fragments : List SeenFragment) → inner_nesting (pack fragments) ≡ nesting fragments
pack_nesting [] = refl
pack_nesting (first ∷ rest) = ap (λ (n : ℕ). max (group_nesting first) n) (pack_nesting rest)

pub take_nesting : (n : ℕ) (fragments : List Fragment) → nesting (seen_fragments (take n fragments)) ≤ nesting (seen_fragments fragments)
take_nesting zero fragments = omega arith
take_nesting (suc n) [] = omega arith
take_nesting (suc n) (first ∷ rest) = let h = take_nesting n rest in omega arith

pub drop_nesting : (n : ℕ) (fragments : List Fragment) → nesting (seen_fragments (drop n fragments)) ≤ nesting (seen_fragments fragments)
drop_nesting zero fragments = omega arith
drop_nesting (suc n) [] = omega arith
drop_nesting (suc n) (first ∷ rest) = let h = drop_nesting n rest in omega arith

pub within_more : (m n : ℕ) (slice : Option (Bor (List Fragment))) → m ≤ n → IsWithin m slice → IsWithin n slice
within_more m n None le h = tt
within_more m n (Some slice) le h = omega arith
