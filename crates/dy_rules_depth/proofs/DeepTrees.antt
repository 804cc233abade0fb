-- The tree, the type and the constant that stand for those that are too deep are one deeper than the limit, and what stands in the place of a tree is as it is to be.
use Rattle.std.proofs.Common.{◌≡◌, ℕ, zero, suc, ◌+◌, ◌<◌, ◌≤◌, nat_lt, if◌then◌else◌, refl, arith}
use Rattle.std.proofs.lemmas.Bool.{cond_both, lt-ltb, le-ltb, ltb-true, ltb-false}
use Rattle.dy_rules.specs.ConstantTrees.{Constant}
use Rattle.dy_rules.specs.Types.{TypeTree}
use Rattle.dy_rules.specs.Trees.{Tree}
use Rattle.dy_rules.specs.Depth.{constant_depth, type_depth, depth, depth_limit}
use Rattle.dy_rules_depth.specs.Capping.{nested, nested_type, nested_constant, deep_tree, deep_type, deep_constant, capped, capped_type, capped_constant}
use Rattle.dy_rules_depth.proofs.Caps.{Caps}

nested_depth : (levels : ℕ) → depth (nested levels) ≡ levels + 1
unfolding nested
nested_depth zero = refl
nested_depth (suc levels) = let e = nested_depth levels in omega arith

nested_type_depth : (levels : ℕ) → type_depth (nested_type levels) ≡ levels + 1
unfolding nested_type
nested_type_depth zero = refl
nested_type_depth (suc levels) = let e = nested_type_depth levels in omega arith

nested_constant_depth : (levels : ℕ) → constant_depth (nested_constant levels) ≡ levels + 1
unfolding nested_constant
nested_constant_depth zero = refl
nested_constant_depth (suc levels) = let e = nested_constant_depth levels in omega arith

pub deep_tree_depth : depth deep_tree ≡ 201
unfolding deep_tree
deep_tree_depth = nested_depth depth_limit

pub deep_type_depth : type_depth deep_type ≡ 201
unfolding deep_type
deep_type_depth = nested_type_depth depth_limit

pub deep_constant_depth : constant_depth deep_constant ≡ 201
unfolding deep_constant
deep_constant_depth = nested_constant_depth depth_limit

-- what stands in the place of something that is this deep
module _ {A : Type 0} (measure : A → ℕ) (other : A) (is : measure other ≡ 201) where
  put : A → A
  put a = if nat_lt depth_limit (measure a) then other else a

  kept : (a : A) → measure a ≤ depth_limit → put a ≡ a
  unfolding put
  kept a le = rw (le-ltb depth_limit (measure a) le) refl

  beyond : (a : A) → depth_limit < measure a → put a ≡ other
  unfolding put
  beyond a lt = rw (lt-ltb depth_limit (measure a) lt) refl

  caps_put : (a : A) → Caps A a (put a) (measure a) (measure (put a))
  unfolding put
  caps_put a =
      cond_both (nat_lt depth_limit (measure a)) other a (λ b. Caps A a b (measure a) (measure b))
      (λ e. let lt : depth_limit < measure a = ltb-true depth_limit (measure a) e in record { kept = λ le. absurd (omega arith); deep = λ _. omega (arith, is); within = omega (arith, is) })
      (λ e. let le : measure a ≤ depth_limit = ltb-false depth_limit (measure a) e in record { kept = λ _. refl; deep = λ lt. lt; within = omega arith })

pub capped_kept : (tree : Tree) → depth tree ≤ depth_limit → capped tree ≡ tree
unfolding put capped
capped_kept tree le = kept depth deep_tree deep_tree_depth tree le

pub capped_beyond : (tree : Tree) → depth_limit < depth tree → capped tree ≡ deep_tree
unfolding put capped
capped_beyond tree lt = beyond depth deep_tree deep_tree_depth tree lt

pub caps_tree : (tree : Tree) → Caps Tree tree (capped tree) (depth tree) (depth (capped tree))
unfolding put capped
caps_tree tree = caps_put depth deep_tree deep_tree_depth tree

pub type_kept : (type : TypeTree) → type_depth type ≤ depth_limit → capped_type type ≡ type
unfolding put capped_type
type_kept type le = kept type_depth deep_type deep_type_depth type le

pub type_beyond : (type : TypeTree) → depth_limit < type_depth type → capped_type type ≡ deep_type
unfolding put capped_type
type_beyond type lt = beyond type_depth deep_type deep_type_depth type lt

pub caps_type : (type : TypeTree) → Caps TypeTree type (capped_type type) (type_depth type) (type_depth (capped_type type))
unfolding put capped_type
caps_type type = caps_put type_depth deep_type deep_type_depth type

pub constant_kept : (constant : Constant) → constant_depth constant ≤ depth_limit → capped_constant constant ≡ constant
unfolding put capped_constant
constant_kept constant le = kept constant_depth deep_constant deep_constant_depth constant le

pub constant_beyond : (constant : Constant) → depth_limit < constant_depth constant → capped_constant constant ≡ deep_constant
unfolding put capped_constant
constant_beyond constant lt = beyond constant_depth deep_constant deep_constant_depth constant lt

pub caps_constant : (constant : Constant) → Caps Constant constant (capped_constant constant) (constant_depth constant) (constant_depth (capped_constant constant))
unfolding put capped_constant
caps_constant constant = caps_put constant_depth deep_constant deep_constant_depth constant
