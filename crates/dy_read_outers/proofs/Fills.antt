-- Parts that are within the limit have nothing filled in, and so a tree of such parts is read as it lies in memory.
use Rattle.std.proofs.Common.{◌≡◌, ℕ, ◌+◌, max, ◌<◌, ◌≤◌, Bool, true, false, if◌then◌else◌, List, [], ◌∷◌, map, refl, sym, ap, ◌∙◌, arith}
use Rattle.dy_tree.specs.declared.token.Token.{Token}
use Rattle.dy_rules.specs.Trees.{Tree, name, arguments_of, Argument, keyword, value}
use Rattle.dy_rules.specs.Depth.{depth, arguments_depth, argument_depth, depth_limit}
use Rattle.dy_rules_depth.specs.Changes.{changed_argument}
use Rattle.dy_rules_depth.specs.Capping.{is_absent, deep_tree, capped, filled, filling}
use Rattle.dy_rules_depth.proofs.DeepTrees.{deep_tree_depth, capped_kept, capped_beyond}

-- Where what was filled in is within the limit, it is what lies in memory.
abbrev pub Fills : {A : Type 0} → A → A → ℕ → Type 0
Fills before after n = n ≤ depth_limit → after ≡ before

pub fills_one : {A B : Type 0} (make : A → B) {a b : A} {n : ℕ} → Fills a b n → Fills (make a) (make b) n
fills_one make h le = ap make (h le)

pub fills_two : {A B C : Type 0} (make : A → B → C) {a b : A} {n : ℕ} {c d : B} {m : ℕ} → Fills a b n → Fills c d m → Fills (make a c) (make b d) (max n m)
fills_two make {a = a} {b = b} {n = n} {c = c} {d = d} {m = m} h i le = let first : b ≡ a = h (omega arith) in let second : d ≡ c = i (omega arith) in cc

fills_name : (absent : Bool) (token : Token) → depth (if absent then deep_tree else name token) ≤ depth_limit → (if absent then deep_tree else name token) ≡ name token
fills_name true token le = absurd (omega (arith, deep_tree_depth))
fills_name false token le = refl

pub fills_tree : (tree : Tree) → Fills tree (filled tree) (depth (filled tree))
fills_tree (name token) le = fills_name (is_absent token) token le
fills_tree tree le = refl

pub fills_argument : (argument : Argument) → Fills argument (changed_argument filling argument) (argument_depth (changed_argument filling argument))
fills_argument (keyword token tree) le = ap (keyword token) (fills_tree tree le)
fills_argument (value tree) le = ap value (fills_tree tree le)

pub fills_arguments : (passed : List Argument) → Fills passed (map (changed_argument filling) passed) (arguments_depth (arguments_of (map (changed_argument filling) passed)))
fills_arguments [] le = refl
fills_arguments (first ∷ rest) le = fills_two (λ (argument : Argument) (others : List Argument). argument ∷ others) (fills_argument first) (fills_arguments rest) le

-- A tree that was made of what lies in memory: what it is read as, and how deep it is.
pub record Made (made node : Tree) (how_deep : ℕ) : Type 0 where
  pub whole : filled made ≡ capped node
  pub depth_is : how_deep ≡ depth (filled made)
  pub within : depth made ≤ depth_limit

-- It is within the limit where its parts have nothing filled in.
pub node_made : (made plain node : Tree) (inside : ℕ) → made ≡ plain → Fills plain node inside → filled node ≡ node → depth node ≡ 1 + inside → inside < depth_limit → Made made node (inside + 1)
node_made made plain node inside e fills same is lt =
    let made_is : made ≡ node = e ∙ sym (fills (omega arith)) in
    let filled_is : filled made ≡ node = ap filled made_is ∙ same in
    let deep : depth made ≡ depth node = ap depth made_is in
    let filled_deep : depth (filled made) ≡ depth node = ap depth filled_is in
    record { whole = filled_is ∙ sym (capped_kept node (omega arith)); depth_is = omega arith; within = omega arith }

-- and else the deep tree stands for it
pub node_beyond : (node : Tree) (inside : ℕ) → depth node ≡ 1 + inside → depth_limit ≤ inside → capped node ≡ deep_tree
node_beyond node inside is le = capped_beyond node (omega arith)

-- what lies in memory within the limit
kept_name : (absent : Bool) (token : Token) → capped (if absent then deep_tree else name token) ≡ (if absent then deep_tree else name token)
kept_name true token = capped_beyond deep_tree (omega (arith, deep_tree_depth))
kept_name false token = capped_kept (name token) (omega arith)

pub filled_kept : (tree : Tree) → depth tree ≤ depth_limit → capped (filled tree) ≡ filled tree
filled_kept (name token) le = kept_name (is_absent token) token
filled_kept tree le = capped_kept tree le
