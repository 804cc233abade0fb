-- A definition is one deeper than its deepest part.
use Rattle.std.proofs.Common.{◌≡◌, ℕ, ◌+◌, max, Bool, true, false, nat_le, nat_lt, List, map, refl, sym, ap, arith}
use Rattle.std.proofs.lemmas.Bool.{leb-true, leb-false, lt-ltb, le-ltb}
use Rattle.dy_rules.specs.Trees.{Parameters, ItemTree, body_of}
use Rattle.dy_rules.specs.Depth.{depth_limit, parameters_depth, body_depth}
use Rattle.dy_rules_depth.specs.Changes.{changed_body, changed_item}
use Rattle.dy_rules_depth.specs.Capping.{filling}
use Rattle.dy_rules_depth.proofs.Rows.{row_body}

pub one_deeper : (depth inside : ℕ) → depth ≡ inside → nat_le depth_limit depth ≡ nat_lt depth_limit (1 + inside)
one_deeper depth inside e = go (nat_le depth_limit depth) refl
  where
    go : (deep : Bool) → nat_le depth_limit depth ≡ deep → deep ≡ nat_lt depth_limit (1 + inside)
    go true f = let le = leb-true depth_limit depth f in sym (lt-ltb depth_limit (1 + inside) (omega arith))
    go false f = let lt = leb-false depth_limit depth f in sym (le-ltb depth_limit (1 + inside) (omega arith))

pub method_deep : (depth : ℕ) (signature : Parameters) (items : List ItemTree) → depth ≡ max 0 (max (parameters_depth signature) (body_depth (body_of (map (changed_item filling) items))))
    → nat_le depth_limit depth ≡ nat_lt depth_limit (1 + max (parameters_depth signature) (body_depth (changed_body filling (body_of items))))
method_deep depth signature items e =
    let same = ap body_depth (row_body filling items) in
    one_deeper depth (max (parameters_depth signature) (body_depth (changed_body filling (body_of items)))) (omega arith)
