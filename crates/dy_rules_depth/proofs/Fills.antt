-- A leaf that stands for a tree that is too deep. Where all is within the limit, there is none.
use Rattle.std.proofs.Common.{◌≡◌, ℕ, max, ◌<◌, ◌≤◌, nat_lt, Bool, true, false, if◌then◌else◌, refl, sym, ap, ◌∙◌, arith}
use Rattle.std.proofs.lemmas.Bool.{ltb-true, ltb-false}
use Rattle.dy_tree.specs.declared.token.TokenKind.{TokenKind}
use Rattle.dy_tree.specs.declared.token.TokenKind.TheVariants as kinds
use Rattle.dy_tree.specs.declared.token.Token.{Token}
use Rattle.dy_tree.specs.declared.types.LiteralForm.{LiteralForm}
use Rattle.dy_tree.specs.declared.types.LiteralForm.TheVariants as literals
use Rattle.dy_tree.specs.declared.roles.Role.TheVariants as roles
use Rattle.dy_rules.specs.Roles.{role_by, role_of}
use Rattle.dy_rules.specs.ConstantTrees.{Constant, literal_item, list_item, vector_item}
use Rattle.dy_rules.specs.Types.{TypeTree, named_type}
use Rattle.dy_rules.specs.Trees.{Tree, name}
use Rattle.dy_rules.specs.Depth.{constant_depth, type_depth, depth, depth_limit}
use Rattle.dy_rules_depth.specs.Capping.{is_absent_kind, is_absent, deep_tree, deep_type, deep_constant, capped, capped_type, capped_constant, filled, filled_type, filled_literal, filled_constant, filling}
use Rattle.dy_rules_depth.proofs.DeepTrees.{deep_tree_depth, deep_type_depth, deep_constant_depth, capped_beyond, type_beyond, constant_beyond}
use Rattle.dy_rules_depth.proofs.Parts.{Parts}

pub record Fills (A : Type 0) (before after : A) (depth_before depth_after : ℕ) : Type 0 where
  pub kept : depth_after ≤ depth_limit → after ≡ before

pub fills_same : (A : Type 0) (a : A) → Fills A a a 0 0
fills_same A a = record { kept = λ le. refl }

pub fills_leaf : (A : Type 0) (a : A) → Fills A a a 1 1
fills_leaf A a = record { kept = λ le. refl }

pub fills_one : {A B : Type 0} (make : A → B) {a b : A} {m n : ℕ} → Fills A a b m n → Fills B (make a) (make b) m n
fills_one make h = record { kept = λ le. ap make (h.kept le) }

pub fills_two : {A B C : Type 0} (make : A → B → C) {a b : A} {m n : ℕ} {c d : B} {k l : ℕ} → Fills A a b m n → Fills B c d k l → Fills C (make a c) (make b d) (max m k) (max n l)
fills_two make {a = a} {b = b} {n = n} {c = c} {d = d} {l = l} h i =
    record { kept = λ (le : max n l ≤ depth_limit). let first : b ≡ a = h.kept (omega arith) in let second : d ≡ c = i.kept (omega arith) in cc }

-- in the place of a leaf that says that something is absent
module _ {A : Type 0} (measure : A → ℕ) (other : A) (is : measure other ≡ 201) where
  put : (absent : Bool) (leaf : A) (m : ℕ) → Fills A leaf (if absent then other else leaf) m (measure (if absent then other else leaf))
  put true leaf m = record { kept = λ le. absurd (omega (arith, is)) }
  put false leaf m = record { kept = λ le. refl }

pub fills_tree : (tree : Tree) → Fills Tree tree (filled tree) (depth tree) (depth (filled tree))
fills_tree (name token) = put depth deep_tree deep_tree_depth (is_absent token) (name token) 1
fills_tree tree = record { kept = λ le. refl }

pub fills_type : (type : TypeTree) → Fills TypeTree type (filled_type type) (type_depth type) (type_depth (filled_type type))
fills_type (named_type token) = put type_depth deep_type deep_type_depth (is_absent token) (named_type token) 1
fills_type type = record { kept = λ le. refl }

fills_literal : (form : LiteralForm) → Fills Constant (literal_item form) (filled_literal form) 1 (constant_depth (filled_literal form))
fills_literal (literals.Symbol token) = put constant_depth deep_constant deep_constant_depth (is_absent token) (literal_item (literals.Symbol token)) 1
fills_literal form = record { kept = λ le. refl }

pub fills_constant : (constant : Constant) → Fills Constant constant (filled_constant constant) (constant_depth constant) (constant_depth (filled_constant constant))
fills_constant (literal_item form) = fills_literal form
fills_constant (list_item opener items last) = record { kept = λ le. refl }
fills_constant (vector_item opener items) = record { kept = λ le. refl }

abbrev pub filled_parts : Parts
filled_parts = record { change = filling; Related = Fills; same = fills_same; leaf = fills_leaf; one = fills_one; two = fills_two; tree = fills_tree; type = fills_type; constant = fills_constant }

pub tree_filled : (tree : Tree) → depth (filled tree) ≤ depth_limit → filled tree ≡ tree
tree_filled tree le = (fills_tree tree).kept le

pub type_filled : (type : TypeTree) → type_depth (filled_type type) ≤ depth_limit → filled_type type ≡ type
type_filled type le = (fills_type type).kept le

pub constant_filled : (constant : Constant) → constant_depth (filled_constant constant) ≤ depth_limit → filled_constant constant ≡ constant
constant_filled constant le = (fills_constant constant).kept le

-- an absent one is as good as any that is too deep

pub absent_tree : (token : Token) (tree : Tree) → is_absent token ≡ true → depth_limit < depth tree → capped (filled (name token)) ≡ capped tree
absent_tree token tree e lt = rw e (capped_beyond deep_tree (omega (arith, deep_tree_depth)) ∙ sym (capped_beyond tree lt))

pub absent_type : (token : Token) (type : TypeTree) → is_absent token ≡ true → depth_limit < type_depth type → capped_type (filled_type (named_type token)) ≡ capped_type type
absent_type token type e lt = rw e (type_beyond deep_type (omega (arith, deep_type_depth)) ∙ sym (type_beyond type lt))

pub absent_constant : (token : Token) (constant : Constant) → is_absent token ≡ true → depth_limit < constant_depth constant → capped_constant (filled_constant (literal_item (literals.Symbol token))) ≡ capped_constant constant
absent_constant token constant e lt = rw e (constant_beyond deep_constant (omega (arith, deep_constant_depth)) ∙ sym (constant_beyond constant lt))

-- what stands in a text is not absent

pub named_present : (token : Token) → role_of token ≡ roles.Named → is_absent token ≡ false
named_present token = go token.kind
  where
    go : (kind : TokenKind) → role_by kind token ≡ roles.Named → is_absent_kind kind ≡ false
    go kinds.PatternVar e = absurd cc
    go kind e = refl

pub symbol_present : (token : Token) → role_of token ≡ roles.Symbol → is_absent token ≡ false
symbol_present token = go token.kind
  where
    go : (kind : TokenKind) → role_by kind token ≡ roles.Symbol → is_absent_kind kind ≡ false
    go kinds.PatternVar e = absurd cc
    go kind e = refl

-- What is built of parts is absent where it is too deep with what those stand for.
module _ {A : Type 0} (measure : A → ℕ) (cap fill : A → A) (leaf : A) (absent : (a : A) → depth_limit < measure a → cap (fill leaf) ≡ cap a) where
  built : (made after : A) → fill made ≡ made → (measure after ≤ depth_limit → after ≡ made) → cap (fill (if nat_lt depth_limit (measure after) then leaf else made)) ≡ cap after
  built made after whole kept = go (nat_lt depth_limit (measure after)) refl
    where
      go : (deep : Bool) → nat_lt depth_limit (measure after) ≡ deep → cap (fill (if deep then leaf else made)) ≡ cap after
      go true e = absent after (ltb-true depth_limit (measure after) e)
      go false e = ap cap (whole ∙ sym (kept (ltb-false depth_limit (measure after) e)))

module _ (token : Token) (is : is_absent token ≡ true) where
  pub built_tree : (made after : Tree) → filled made ≡ made → (depth after ≤ depth_limit → after ≡ made) → capped (filled (if nat_lt depth_limit (depth after) then name token else made)) ≡ capped after
  built_tree made after whole kept = built depth capped filled (name token) (λ tree lt. absent_tree token tree is lt) made after whole kept

  pub built_type : (made after : TypeTree) → filled_type made ≡ made → (type_depth after ≤ depth_limit → after ≡ made) → capped_type (filled_type (if nat_lt depth_limit (type_depth after) then named_type token else made)) ≡ capped_type after
  built_type made after whole kept = built type_depth capped_type filled_type (named_type token) (λ type lt. absent_type token type is lt) made after whole kept

  pub built_constant : (made after : Constant) → filled_constant made ≡ made → (constant_depth after ≤ depth_limit → after ≡ made)
      → capped_constant (filled_constant (if nat_lt depth_limit (constant_depth after) then literal_item (literals.Symbol token) else made)) ≡ capped_constant after
  built_constant made after whole kept = built constant_depth capped_constant filled_constant (literal_item (literals.Symbol token)) (λ constant lt. absent_constant token constant is lt) made after whole kept
