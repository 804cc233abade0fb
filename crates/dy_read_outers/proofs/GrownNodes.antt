-- Trees that are put together from trees that were read.
use Rattle.std.proofs.Common.{◌≡◌, ℕ, ◌+◌, max, ◌<◌, ◌≤◌, List, map, refl, arith}
use Rattle.dy_tree.specs.declared.token.Token.{Token}
use Rattle.dy_tree.specs.declared.roles.Precedence.{Precedence}
use Rattle.dy_rules.specs.Trees.{Tree, assignment, operation, unary, call, element, member, Argument, arguments_of}
use Rattle.dy_rules.specs.Depth.{depth, arguments_depth, depth_limit}
use Rattle.dy_rules_depth.specs.Changes.{changed_argument}
use Rattle.dy_rules_depth.specs.Capping.{deep_tree, capped, filled, filling}
use Rattle.dy_read_outers.proofs.Fills.{fills_one, fills_two, fills_tree, fills_arguments, Made, node_made, node_beyond}

pub operation_made : (precedence : Precedence) (left : Tree) (sign : Token) (right made : Tree) (n m inside : ℕ) → made ≡ operation precedence left sign right → n ≡ depth (filled left) → m ≡ depth (filled right) → inside ≡ max n m → inside < depth_limit
    → Made made (operation precedence (filled left) sign (filled right)) (inside + 1)
operation_made precedence left sign right made n m inside e f g is lt =
    node_made made (operation precedence left sign right) (operation precedence (filled left) sign (filled right)) inside e
    (λ le. fills_two (λ (first second : Tree). operation precedence first sign second) (fills_tree left) (fills_tree right) (omega arith)) refl (omega arith) lt

pub operation_beyond : (precedence : Precedence) (left : Tree) (sign : Token) (right : Tree) (n m inside : ℕ) → n ≡ depth left → m ≡ depth right → inside ≡ max n m → depth_limit ≤ inside → capped (operation precedence left sign right) ≡ deep_tree
operation_beyond precedence left sign right n m inside f g is le = node_beyond (operation precedence left sign right) inside (omega arith) le

pub assignment_made : (place value made : Tree) (n m inside : ℕ) → made ≡ assignment place value → n ≡ depth (filled place) → m ≡ depth (filled value) → inside ≡ max n m → inside < depth_limit
    → Made made (assignment (filled place) (filled value)) (inside + 1)
assignment_made place value made n m inside e f g is lt =
    node_made made (assignment place value) (assignment (filled place) (filled value)) inside e
    (λ le. fills_two (λ (first second : Tree). assignment first second) (fills_tree place) (fills_tree value) (omega arith)) refl (omega arith) lt

pub assignment_beyond : (place value : Tree) (n m inside : ℕ) → n ≡ depth place → m ≡ depth value → inside ≡ max n m → depth_limit ≤ inside → capped (assignment place value) ≡ deep_tree
assignment_beyond place value n m inside f g is le = node_beyond (assignment place value) inside (omega arith) le

pub element_made : (object : Tree) (opener : Token) (index made : Tree) (n m inside : ℕ) → made ≡ element object opener index → n ≡ depth (filled object) → m ≡ depth (filled index) → inside ≡ max n m → inside < depth_limit
    → Made made (element (filled object) opener (filled index)) (inside + 1)
element_made object opener index made n m inside e f g is lt =
    node_made made (element object opener index) (element (filled object) opener (filled index)) inside e
    (λ le. fills_two (λ (first second : Tree). element first opener second) (fills_tree object) (fills_tree index) (omega arith)) refl (omega arith) lt

pub element_beyond : (object : Tree) (opener : Token) (index : Tree) (n m inside : ℕ) → n ≡ depth object → m ≡ depth index → inside ≡ max n m → depth_limit ≤ inside → capped (element object opener index) ≡ deep_tree
element_beyond object opener index n m inside f g is le = node_beyond (element object opener index) inside (omega arith) le

pub unary_made : (sign : Token) (operand made : Tree) (n inside : ℕ) → made ≡ unary sign operand → n ≡ depth (filled operand) → inside ≡ n → inside < depth_limit → Made made (unary sign (filled operand)) (inside + 1)
unary_made sign operand made n inside e f is lt =
    node_made made (unary sign operand) (unary sign (filled operand)) inside e (λ le. fills_one (λ (part : Tree). unary sign part) (fills_tree operand) (omega arith)) refl (omega arith) lt

pub unary_beyond : (sign : Token) (operand : Tree) (n inside : ℕ) → n ≡ depth operand → inside ≡ n → depth_limit ≤ inside → capped (unary sign operand) ≡ deep_tree
unary_beyond sign operand n inside f is le = node_beyond (unary sign operand) inside (omega arith) le

pub member_made : (object : Tree) (token : Token) (made : Tree) (n inside : ℕ) → made ≡ member object token → n ≡ depth (filled object) → inside ≡ n → inside < depth_limit → Made made (member (filled object) token) (inside + 1)
member_made object token made n inside e f is lt =
    node_made made (member object token) (member (filled object) token) inside e (λ le. fills_one (λ (part : Tree). member part token) (fills_tree object) (omega arith)) refl (omega arith) lt

pub member_beyond : (object : Tree) (token : Token) (n inside : ℕ) → n ≡ depth object → inside ≡ n → depth_limit ≤ inside → capped (member object token) ≡ deep_tree
member_beyond object token n inside f is le = node_beyond (member object token) inside (omega arith) le

pub call_made : (function : Tree) (passed : List Argument) (made : Tree) (n m inside : ℕ) → made ≡ call function (arguments_of passed) → n ≡ depth (filled function) → m ≡ arguments_depth (arguments_of (map (changed_argument filling) passed)) → inside ≡ max n m → inside < depth_limit
    → Made made (call (filled function) (arguments_of (map (changed_argument filling) passed))) (inside + 1)
call_made function passed made n m inside e f g is lt =
    node_made made (call function (arguments_of passed)) (call (filled function) (arguments_of (map (changed_argument filling) passed))) inside e
    (λ le. fills_two (λ (first : Tree) (second : List Argument). call first (arguments_of second)) (fills_tree function) (fills_arguments passed) (omega arith)) refl (omega arith) lt

pub call_beyond : (function : Tree) (passed : List Argument) (n m inside : ℕ) → n ≡ depth function → m ≡ arguments_depth (arguments_of passed) → inside ≡ max n m → depth_limit ≤ inside → capped (call function (arguments_of passed)) ≡ deep_tree
call_beyond function passed n m inside f g is le = node_beyond (call function (arguments_of passed)) inside (omega arith) le
