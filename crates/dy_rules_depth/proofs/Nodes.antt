-- A tree is the same to the limit with other trees in the place of those parts that are too deep.
use Rattle.std.proofs.Common.{◌≡◌, ℕ, ◌+◌, ◌<◌, nat_lt, Bool, true, false, List, Option, refl, ap, arith}
use Rattle.std.proofs.lemmas.Bool.{ltb-true, ltb-false}
use Rattle.dy_tree.specs.declared.token.Token.{Token}
use Rattle.dy_tree.specs.declared.types.LiteralForm.{LiteralForm}
use Rattle.dy_tree.specs.declared.roles.Precedence.{Precedence}
use Rattle.dy_tree.specs.declared.brackets.Guard.{Guard}
use Rattle.dy_rules.specs.ConstantTrees.{Constant, literal_item, list_item, vector_item, Constants, Tail}
use Rattle.dy_rules.specs.Types.{TypeTree, named_type, singleton_type, union_type, limited_type, TypeTrees, Single, Bound}
use Rattle.dy_rules.specs.Trees.{Tree, assignment, operation, unary, call, element, member, literal, name, list, vector, begin_tree, if_tree, guarded, case_tree, select_tree, block_tree, for_tree, method_tree, Parameters, BlockClauses, ForClauses, MaybeStop, MaybeTree, Body, Alternatives, Otherwise, Arms, Arguments}
use Rattle.dy_rules.specs.Depth.{constant_depth, type_depth, depth, depth_limit}
use Rattle.dy_rules_depth.specs.Changes.{changed_constants, changed_tail, changed_types, changed_maybe, changed_parameters, changed_body, changed_arguments, changed_alternatives, changed_otherwise, changed_arms, changed_clauses, changed_for_clauses, changed_stop}
use Rattle.dy_rules_depth.specs.Capping.{deep_tree, deep_type, deep_constant, capped, capped_type, capped_constant, capping}
use Rattle.dy_rules_depth.proofs.Caps.{Caps, caps_one, caps_two}
use Rattle.dy_rules_depth.proofs.Capped.{capped_parts}
use Rattle.dy_rules_depth.proofs.DeepTrees.{capped_kept, capped_beyond, caps_tree, type_kept, type_beyond, constant_kept, constant_beyond}
use Rattle.dy_rules_depth.proofs.Parts.{pair, related_constants, related_tail, related_types, related_maybe, related_parameters, related_body, related_arguments, related_alternatives, related_otherwise, related_arms, related_clauses, related_for_clauses, related_stop}

-- Parts that are within the limit are kept, and above a part that is not, neither tree is within it.
module _ {A : Type 0} (measure : A → ℕ) (cap : A → A) (other : A) (beyond : (a : A) → depth_limit < measure a → cap a ≡ other) where
  node : {before after : A} {m n : ℕ} → Caps A before after m n → measure before ≡ 1 + m → measure after ≡ 1 + n → cap after ≡ cap before
  node {before = before} {after = after} {m = m} {n = n} h is is_after = go (nat_lt depth_limit m) refl
    where
      go : (deeper : Bool) → nat_lt depth_limit m ≡ deeper → cap after ≡ cap before
      go true e =
          let lt : depth_limit < m = ltb-true depth_limit m e in
          let more : depth_limit < n = h.deep lt in
          let first : cap before ≡ other = beyond before (omega arith) in
          let second : cap after ≡ other = beyond after (omega arith) in
          cc
      go false e = ap cap (h.kept (ltb-false depth_limit m e))

node_capped : {before after : Tree} {m n : ℕ} → Caps Tree before after m n → depth before ≡ 1 + m → depth after ≡ 1 + n → capped after ≡ capped before
node_capped h is is_after = node depth capped deep_tree capped_beyond h is is_after

type_node_capped : {before after : TypeTree} {m n : ℕ} → Caps TypeTree before after m n → type_depth before ≡ 1 + m → type_depth after ≡ 1 + n → capped_type after ≡ capped_type before
type_node_capped h is is_after = node type_depth capped_type deep_type type_beyond h is is_after

constant_node_capped : {before after : Constant} {m n : ℕ} → Caps Constant before after m n → constant_depth before ≡ 1 + m → constant_depth after ≡ 1 + n → capped_constant after ≡ capped_constant before
constant_node_capped h is is_after = node constant_depth capped_constant deep_constant constant_beyond h is is_after

-- trees with no parts

pub capped_literal : (form : LiteralForm) → capped (literal form) ≡ literal form
capped_literal form = capped_kept (literal form) (omega arith)

pub capped_name : (token : Token) → capped (name token) ≡ name token
capped_name token = capped_kept (name token) (omega arith)

pub capped_named_type : (token : Token) → capped_type (named_type token) ≡ named_type token
capped_named_type token = type_kept (named_type token) (omega arith)

pub capped_singleton : (word : Token) (single : Single) → capped_type (singleton_type word single) ≡ singleton_type word single
capped_singleton word single = type_kept (singleton_type word single) (omega arith)

pub capped_limited : (word class : Token) (bounds : List Bound) → capped_type (limited_type word class bounds) ≡ limited_type word class bounds
capped_limited word class bounds = type_kept (limited_type word class bounds) (omega arith)

pub capped_literal_item : (form : LiteralForm) → capped_constant (literal_item form) ≡ literal_item form
capped_literal_item form = constant_kept (literal_item form) (omega arith)

-- trees with parts

pub capped_assignment : (place : Tree) (value : Tree) → capped (assignment (capped place) (capped value)) ≡ capped (assignment place value)
capped_assignment place value = node_capped (caps_two (λ (first : Tree) (second : Tree). assignment first second) (caps_tree place) (caps_tree value)) refl refl

pub capped_operation : (precedence : Precedence) (left : Tree) (operator : Token) (right : Tree) → capped (operation precedence (capped left) operator (capped right)) ≡ capped (operation precedence left operator right)
capped_operation precedence left operator right = node_capped (caps_two (λ (first : Tree) (second : Tree). operation precedence first operator second) (caps_tree left) (caps_tree right)) refl refl

pub capped_unary : (operator : Token) (operand : Tree) → capped (unary operator (capped operand)) ≡ capped (unary operator operand)
capped_unary operator operand = node_capped (caps_one (λ (part : Tree). unary operator part) (caps_tree operand)) refl refl

pub capped_call : (function : Tree) (arguments : Arguments) → capped (call (capped function) (changed_arguments capping arguments)) ≡ capped (call function arguments)
capped_call function arguments = node_capped (caps_two (λ (first : Tree) (second : Arguments). call first second) (caps_tree function) (related_arguments capped_parts arguments)) refl refl

pub capped_element : (object : Tree) (opener : Token) (index : Tree) → capped (element (capped object) opener (capped index)) ≡ capped (element object opener index)
capped_element object opener index = node_capped (caps_two (λ (first : Tree) (second : Tree). element first opener second) (caps_tree object) (caps_tree index)) refl refl

pub capped_member : (object : Tree) (token : Token) → capped (member (capped object) token) ≡ capped (member object token)
capped_member object token = node_capped (caps_one (λ (part : Tree). member part token) (caps_tree object)) refl refl

pub capped_list : (opener : Token) (items : Constants) (last : Tail) → capped (list opener (changed_constants capping items) (changed_tail capping last)) ≡ capped (list opener items last)
capped_list opener items last = node_capped (caps_two (λ (first : Constants) (second : Tail). list opener first second) (related_constants capped_parts items) (related_tail capped_parts last)) refl refl

pub capped_vector : (opener : Token) (items : Constants) → capped (vector opener (changed_constants capping items)) ≡ capped (vector opener items)
capped_vector opener items = node_capped (caps_one (λ (part : Constants). vector opener part) (related_constants capped_parts items)) refl refl

pub capped_begin : (word : Token) (body : Body) → capped (begin_tree word (changed_body capping body)) ≡ capped (begin_tree word body)
capped_begin word body = node_capped (caps_one (λ (part : Body). begin_tree word part) (related_body capped_parts body)) refl refl

pub capped_if : (word : Token) (test : Tree) (body : Body) (others : Alternatives) (last : Otherwise) → capped (if_tree word (capped test) (changed_body capping body) (changed_alternatives capping others) (changed_otherwise capping last)) ≡ capped (if_tree word test body others last)
capped_if word test body others last = node_capped (caps_two (λ (front : Tree × Body) (back : Alternatives × Otherwise). if_tree word front.0 front.1 back.0 back.1) (pair capped_parts (caps_tree test) (related_body capped_parts body)) (pair capped_parts (related_alternatives capped_parts others) (related_otherwise capped_parts last))) refl refl

pub capped_guarded : (guard : Guard) (word : Token) (test : Tree) (body : Body) → capped (guarded guard word (capped test) (changed_body capping body)) ≡ capped (guarded guard word test body)
capped_guarded guard word test body = node_capped (caps_two (λ (first : Tree) (second : Body). guarded guard word first second) (caps_tree test) (related_body capped_parts body)) refl refl

pub capped_case : (word : Token) (arms : Arms) (last : Otherwise) → capped (case_tree word (changed_arms capping arms) (changed_otherwise capping last)) ≡ capped (case_tree word arms last)
capped_case word arms last = node_capped (caps_two (λ (first : Arms) (second : Otherwise). case_tree word first second) (related_arms capped_parts arms) (related_otherwise capped_parts last)) refl refl

pub capped_select : (word : Token) (selected : Tree) (test : MaybeTree) (arms : Arms) (last : Otherwise) → capped (select_tree word (capped selected) (changed_maybe capping test) (changed_arms capping arms) (changed_otherwise capping last)) ≡ capped (select_tree word selected test arms last)
capped_select word selected test arms last = node_capped (caps_two (λ (front : Tree × MaybeTree) (back : Arms × Otherwise). select_tree word front.0 front.1 back.0 back.1) (pair capped_parts (caps_tree selected) (related_maybe capped_parts test)) (pair capped_parts (related_arms capped_parts arms) (related_otherwise capped_parts last))) refl refl

pub capped_block : (word : Token) (exit : Option Token) (body : Body) (clauses : BlockClauses) → capped (block_tree word exit (changed_body capping body) (changed_clauses capping clauses)) ≡ capped (block_tree word exit body clauses)
capped_block word exit body clauses = node_capped (caps_two (λ (first : Body) (second : BlockClauses). block_tree word exit first second) (related_body capped_parts body) (related_clauses capped_parts clauses)) refl refl

pub capped_for : (word : Token) (clauses : ForClauses) (stop : MaybeStop) (body : Body) (last : Otherwise) → capped (for_tree word (changed_for_clauses capping clauses) (changed_stop capping stop) (changed_body capping body) (changed_otherwise capping last)) ≡ capped (for_tree word clauses stop body last)
capped_for word clauses stop body last = node_capped (caps_two (λ (front : ForClauses × MaybeStop) (back : Body × Otherwise). for_tree word front.0 front.1 back.0 back.1) (pair capped_parts (related_for_clauses capped_parts clauses) (related_stop capped_parts stop)) (pair capped_parts (related_body capped_parts body) (related_otherwise capped_parts last))) refl refl

pub capped_method : (word : Token) (signature : Parameters) (body : Body) → capped (method_tree word (changed_parameters capping signature) (changed_body capping body)) ≡ capped (method_tree word signature body)
capped_method word signature body = node_capped (caps_two (λ (first : Parameters) (second : Body). method_tree word first second) (related_parameters capped_parts signature) (related_body capped_parts body)) refl refl

pub capped_union : (word : Token) (types : TypeTrees) → capped_type (union_type word (changed_types capping types)) ≡ capped_type (union_type word types)
capped_union word types = type_node_capped (caps_one (λ (part : TypeTrees). union_type word part) (related_types capped_parts types)) refl refl

pub capped_list_item : (opener : Token) (items : Constants) (last : Tail) → capped_constant (list_item opener (changed_constants capping items) (changed_tail capping last)) ≡ capped_constant (list_item opener items last)
capped_list_item opener items last = constant_node_capped (caps_two (λ (first : Constants) (second : Tail). list_item opener first second) (related_constants capped_parts items) (related_tail capped_parts last)) refl refl

pub capped_vector_item : (opener : Token) (items : Constants) → capped_constant (vector_item opener (changed_constants capping items)) ≡ capped_constant (vector_item opener items)
capped_vector_item opener items = constant_node_capped (caps_one (λ (part : Constants). vector_item opener part) (related_constants capped_parts items)) refl refl
